use Rattle.std.proofs.Common.{true, ◌∙◌}
use Rattle.class_tree.specs.Members.{IsMember, field_in}
use Rattle.class_tree.specs.FieldLookup.{find_field}
use Rattle.class_tree.proofs.lookups.FoundMembers.{found_members}
use Rattle.class_find.proofs.FoundHere.{is_so}
use Rattle.class_find.proofs.find.find_field.Goals as goal

pub returns-clause-member : goal.returns-clause-member
returns-clause-member c =
    is_so (IsMember c.args.set.now true) c.field_along.result (find_field c.args.set.now c.args.name.now c.args.descriptor.now c.args.class) (c.field_along.ensures ∙ c.field_way.ensures (field_in c.args.set.now c.args.name.now c.args.descriptor.now))
    (λ id. (found_members c.args.set.now c.args.name.now c.args.descriptor.now c.args.class id).field)
