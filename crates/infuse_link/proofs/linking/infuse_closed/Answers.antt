use Rattle.std.proofs.Common.{inl, inr, sym, ap, subst, ◌∙◌}
use Rattle.body_make.specs.declared.refusal.LinkCause.{LinkCause}
use Rattle.body_make.specs.Refusals.{cause_of}
use Rattle.jvm_model.specs.declared.refusal.Refusal.{Refusal}
use Rattle.infuse_link.specs.Infused.{RefusedOrMemory}
use Rattle.infuse_link.proofs.Verdicts.{set_unlinked}
use Rattle.infuse_link.proofs.linking.infuse_closed.Goals as goal

pub returns-in-Err-clause-refused : goal.returns-in-Err-clause-refused
returns-in-Err-clause-refused g c =
    let set = c.args.set.now in
    elim c.in-Err.ensures.refused [
      | inl memory ↦ inl (ap (λ (r : Refusal). r.cause) c.refusal_of.ensures ∙ ap (λ (cause : LinkCause). cause_of cause) memory)
      | inr unlinked ↦ subst (RefusedOrMemory g.files) (sym c.refusal_of.ensures) (set_unlinked g.files set c.requires _ unlinked)
    ]
