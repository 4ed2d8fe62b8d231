use Rattle.std.proofs.Common.{true, subst, ap, ◌∙◌}
use Rattle.std.specs.BTreeSet.{Updates}
use Rattle.class_file.specs.Texts.{signature_of, signature_cmp}
use Rattle.class_file.proofs.text_table.SameTexts.{one_seen}
use Rattle.class_file.proofs.seen.note.Goals as goal

pub returns-clause-seen : goal.returns-clause-seen
returns-clause-seen c =
    let key = c.signature_of-signature.ensures ∙ ap (signature_of c.args.texts.now) c.head_in.ensures in
    let puts = subst (λ k. Updates signature_cmp c.args.seen.now c.insert.new.self k true) key c.in_ok-insert.ensures.updates in
    λ pool earlier right so_far. one_seen pool c.args.texts.now right earlier c.args.member.now c.args.seen.now c.insert.new.self puts so_far
