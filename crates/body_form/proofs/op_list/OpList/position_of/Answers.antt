use Rattle.std.proofs.Common.{rules}
use Rattle.std.proofs.lemmas.List.Sorted.{answers_always}
use Rattle.body_form.proofs.Starts.{found, missing}
use Rattle.body_form.proofs.op_list.OpList.position_of.Goals as goal

pub returns-in-Ok-clause-found : goal.returns-in-Ok-clause-found
returns-in-Ok-clause-found c =
    let facts = c.in-Ok.ensures in
    let by_pc = facts.position (λ x. x.0) (answers_always _ _ _ (λ f a r g called. search rules)) in
    rw (← c.self.view_is, ← c.deref.ensures.value) (found _ (rw c.deref.ensures.value c.self.invariant) c.args.pc _ facts.bound by_pc)

pub returns-in-Err-clause-none : goal.returns-in-Err-clause-none
returns-in-Err-clause-none c same =
    let facts = c.in-Err.ensures in
    let by_pc = facts.position (λ x. x.0) (answers_always _ _ _ (λ f a r g called. search rules)) in
    rw (← c.self.view_is, ← c.deref.ensures.value) (missing _ (rw c.deref.ensures.value c.self.invariant) c.args.pc _ facts.bound by_pc)
