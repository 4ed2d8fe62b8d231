-- The closure gives the parts of an entry in their order.
use Rattle.std.proofs.Common.{rules, ◌∙◌}
use Rattle.std.proofs.lemmas.List.Sorted.{answers_always}
use Rattle.flow_split.proofs.Searching.{searched}
use Rattle.flow_split.proofs.entries.has_entry.Goals as goal

pub returns : goal.returns
returns c =
    let facts = c.binary_search_by_key.ensures in
    let by_parts = facts.position (λ e. (e.pc, e.operand, e.place)) (answers_always _ _ _ (λ f a r g called. search rules)) in
    c.is_ok.ensures.value ∙ searched c.args.narrow.now c.requires c.args.pc c.args.operand c.args.place c.binary_search_by_key.result facts.bound by_parts
