use Rattle.std.proofs.Common.{rules, sym, ◌∙◌}
use Rattle.std.proofs.lemmas.List.Sorted.{answers_always}
use Rattle.class_code.proofs.Starts.{searched, is_start-tells}
use Rattle.class_code.proofs.code_list.CodeList.is_start.Goals as goal

-- the closure gives a pair's pc, and the slice is the list
pub returns-clause-test : goal.returns-clause-test
returns-clause-test c =
    let facts = c.binary_search_by_key.ensures in
    let by_pc = facts.position (λ x. x.0) (answers_always _ _ _ (λ f a r g called. search rules)) in
    c.is_ok.ensures.value ∙ rw (← c.self.view_is, ← c.deref.ensures.value) (searched _ (rw c.deref.ensures.value c.self.invariant) c.args.pc _ facts.bound by_pc)

pub returns-clause-meaning : goal.returns-clause-meaning
returns-clause-meaning c =
    let tells = is_start-tells c.args.self.now c.args.pc in
    let is = returns-clause-test c in
    (λ start. tells.holds (sym is ∙ start), λ start. is ∙ tells.passes start)
