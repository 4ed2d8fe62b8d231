use Rattle.std.proofs.Common.{rules, ◌∙◌}
use Rattle.std.proofs.lemmas.List.Sorted.{answers_always}
use Rattle.image_check.proofs.Starts.{searched}
use Rattle.image_check.proofs.listing.is_start.Goals as goal

-- the closure gives a pair's offset
pub returns : goal.returns
returns c =
    let facts = c.binary_search_by_key.ensures in
    let by_pc = facts.position (λ x. x.0) (answers_always _ _ _ (λ f a r g called. search rules)) in
    c.is_ok.ensures.value ∙ searched c.args.insns.now c.requires.0 c.requires.1 c.args.pc _ facts.bound by_pc
