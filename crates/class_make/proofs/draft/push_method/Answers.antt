use Rattle.std.proofs.Common.{[], ◌∷◌, ◌++◌, Some, ap, ◌∙◌}
use Rattle.class_file.specs.declared.record.Member.{Member}
use Rattle.class_make.proofs.Drafts.{member_placed}
use Rattle.class_make.proofs.draft.push_method.Goals as goal

pub returns-clause-added : goal.returns-clause-added
returns-clause-added c =
    c.in_ok-push.ensures.items
    ∙ ap (λ (m : Member). c.args.methods.now.items ++ m ∷ []) (member_placed c.slot_member_texts.new.self c.slot_text.new.self _ c.args.name.now c.args.descriptor.now c.args.flags _ _ (Some c.args.code) c.in_ok-slot_text.ensures.placed c.in_ok-texts.ensures.name_index c.in_ok-texts.ensures.descriptor_index)
