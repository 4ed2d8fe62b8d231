use Rattle.std.proofs.Common.{false}
use Rattle.class_tree.specs.Members.{IsMember}
use Rattle.class_tree.specs.MethodLookup.{find_method}
use Rattle.class_tree.proofs.lookups.FoundMembers.{found_members}
use Rattle.class_find.proofs.FoundHere.{is_so}
use Rattle.class_find.proofs.find.find_method.Goals as goal

pub returns-clause-member : goal.returns-clause-member
returns-clause-member c =
    is_so (IsMember c.args.set.now false) c.method_from.result (find_method c.args.set.now c.args.name.now c.args.descriptor.now c.args.class) c.method_from.ensures
    (λ id. (found_members c.args.set.now c.args.name.now c.args.descriptor.now c.args.class id).method)
