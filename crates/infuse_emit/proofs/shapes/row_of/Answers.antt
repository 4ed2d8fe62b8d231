-- A search among pcs that rise finds the index of the pc.
use Rattle.std.proofs.Common.{rules, ◌∙◌}
use Rattle.std.proofs.lemmas.List.Sorted.{answers_always}
use Rattle.code_reach.proofs.Indexes.{searched}
use Rattle.infuse_emit.proofs.shapes.row_of.Goals as goal

-- the closure gives a row's pc
pub returns : goal.returns
returns c =
    let facts = c.binary_search_by_key.ensures in
    let by_pc = facts.position (λ x. x.0) (answers_always _ _ _ (λ f a r g called. search rules)) in
    c.unwrap_or.ensures ∙ searched c.args.heights.now c.requires c.args.pc _ facts.bound by_pc
