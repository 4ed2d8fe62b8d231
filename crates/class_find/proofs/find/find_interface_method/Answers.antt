use Rattle.std.proofs.Common.{false, ◌∙◌}
use Rattle.class_tree.specs.Members.{IsMember}
use Rattle.class_tree.specs.InterfaceLookup.{interface_method_in, find_interface_method}
use Rattle.class_tree.proofs.lookups.FoundMembers.{found_members}
use Rattle.class_find.proofs.FoundHere.{is_so}
use Rattle.class_find.proofs.find.find_interface_method.Goals as goal

pub returns-clause-member : goal.returns-clause-member
returns-clause-member c =
    is_so (IsMember c.args.set.now false) c.interface_method_along.result (find_interface_method c.args.set.now c.args.name.now c.args.descriptor.now c.args.class) (c.interface_method_along.ensures ∙ c.interface_way.ensures (interface_method_in c.args.set.now c.args.name.now c.args.descriptor.now))
    (λ id. (found_members c.args.set.now c.args.name.now c.args.descriptor.now c.args.class id).interface_method)
