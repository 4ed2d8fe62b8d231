use Rattle.std.proofs.Common.{nat_eq, ◌&&◌, position, ap, ◌∙◌}
use Rattle.class_tree.specs.declared.member_index.Key.{Key}
use Rattle.class_tree.proofs.lookups.MemberKeys.{key_position}
use Rattle.class_tree.proofs.member_index.MemberIndex.position_of.Goals as goal

pub returns : goal.returns
returns c members index =
    c.get_index_of.ensures.index
    ∙ ap (λ (wanted : Key). position (λ (key : Key). nat_eq wanted.name key.name && nat_eq wanted.descriptor key.descriptor) c.args.self.now.keys.keys) c.key_of.ensures
    ∙ key_position c.args.self.now.texts c.args.self.now.keys.keys members c.args.name.now c.args.descriptor.now index
