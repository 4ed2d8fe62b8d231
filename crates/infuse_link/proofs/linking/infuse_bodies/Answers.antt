use Rattle.std.proofs.Common.{inl, inr}
use Rattle.infuse_link.proofs.Verdicts.{set_untyped}
use Rattle.infuse_link.proofs.linking.infuse_bodies.Goals as goal

pub returns-in-Err-clause-refused : goal.returns-in-Err-clause-refused
returns-in-Err-clause-refused g c =
    elim c.in-Err.ensures.refused [
      | inl memory ↦ inl memory
      | inr untyped ↦ set_untyped g.files c.args.set.now c.args.bodies.now c.requires c.in-Err.why untyped
    ]
