use Rattle.std.proofs.Common.{inl, inr, ap}
use Rattle.body_make.specs.declared.refusal.LinkRefusal.{LinkRefusal}
use Rattle.body_make.specs.Refusals.{refusal_of}
use Rattle.body_make.proofs.Unlinked.{one_refusal, no_refusal}
use Rattle.body_make.proofs.set_bodies.bodies.Goals as goal

pub returns-in-Err-clause-only : goal.returns-in-Err-clause-only
returns-in-Err-clause-only c = λ linked entry. elim c.in-Err.ensures.refused [
  | inl memory ↦ ap (λ (why : LinkRefusal). why.cause) memory
  | inr has ↦ absurd (no_refusal c.args.set.now (refusal_of c.in-Err.why) linked entry (inl has))
]

pub returns-in-Err-clause-refused_only : goal.returns-in-Err-clause-refused_only
returns-in-Err-clause-refused_only c = λ why unlinked. elim c.in-Err.ensures.refused [
  | inl memory ↦ inl (ap (λ (why : LinkRefusal). why.cause) memory)
  | inr has ↦ inr (one_refusal c.args.set.now (refusal_of c.in-Err.why) why (inl has) unlinked)
]

pub returns-in-Ok-test_entry-clause-refused_only : goal.returns-in-Ok-test_entry-clause-refused_only
returns-in-Ok-test_entry-clause-refused_only c = λ why unlinked. no_refusal c.args.set.now why c.in-Ok.ensures.linked c.in-Ok-test_entry.ensures.passed unlinked

pub returns-in-Err-test_entry-clause-refused_only : goal.returns-in-Err-test_entry-clause-refused_only
returns-in-Err-test_entry-clause-refused_only c = λ why unlinked.
    inr (one_refusal c.args.set.now (refusal_of c.in-Err-test_entry.why) why (inr (c.in-Ok.ensures.linked, c.in-Err-test_entry.ensures.refused)) unlinked)
