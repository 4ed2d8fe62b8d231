use Rattle.std.proofs.Common.{inl, inr}
use Rattle.image_check.proofs.Apart.{refused_not_checked}
use Rattle.image_check.proofs.verdict.check.Goals as goal

pub returns-in-Err-clause-only : goal.returns-in-Err-clause-only
returns-in-Err-clause-only c = λ checked built.
    elim c.in-Err.ensures.refused [
      | inl memory ↦ memory
      | inr refused ↦ absurd (refused_not_checked c.args.image c.in-Err.refusal refused checked built)
    ]
