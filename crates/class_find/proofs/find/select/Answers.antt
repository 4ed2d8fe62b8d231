use Rattle.std.proofs.Common.{false, ◌∙◌}
use Rattle.class_tree.specs.Members.{IsMember, method_passing}
use Rattle.class_tree.specs.Selection.{is_selectable, select}
use Rattle.class_tree.proofs.lookups.FoundMembers.{found_members}
use Rattle.class_find.proofs.FoundHere.{is_so}
use Rattle.class_find.proofs.find.select.Goals as goal

pub returns-clause-member : goal.returns-clause-member
returns-clause-member c =
    is_so (IsMember c.args.set.now false) c.selectable_along.result (select c.args.set.now c.args.name.now c.args.descriptor.now c.args.class) (c.selectable_along.ensures ∙ c.superclass_way.ensures (method_passing is_selectable c.args.set.now c.args.name.now c.args.descriptor.now))
    (λ id. (found_members c.args.set.now c.args.name.now c.args.descriptor.now c.args.class id).selected)
