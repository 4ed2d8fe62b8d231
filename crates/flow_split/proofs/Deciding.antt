-- What tests and answers tell.
use Rattle.std.specs.Prelude.{◌≡◌, Option, Some, None, IfSome}
use Rattle.std.proofs.Common.{Bool, true, false, ◌&&◌, refl, sym, subst, arith}
use Rattle.std.specs.Option.{SomeIff}

-- what holds of an answer where there is one
pub where_some : {X P : Type 0} (Q : X → Type 0) {value : X} (found : Option X) → SomeIff found P value → (P → Q value) → IfSome found Q
where_some Q None is then = tt
where_some Q (Some x) is then = subst Q (sym is.1) (then is.0)

pub both_true : (a b : Bool) → (a && b) ≡ true → (a ≡ true) × (b ≡ true)
both_true true true is = (refl, refl)
both_true true false is = absurd (grind (arith, is))
both_true false b is = absurd (grind (arith, is))
