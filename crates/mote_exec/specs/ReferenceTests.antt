-- What the tests of references say of their cells.
use Rattle.std.specs.Prelude.{ℕ, Bool, false, not, nat_eq, List, [], ◌∷◌}
use Rattle.image_instr.specs.declared.insn.RefTest.{RefTest}
use Rattle.image_instr.specs.declared.insn.RefTest.TheVariants as ref_test

-- so many cells meet the test, the top last
abbrev pub is_met : RefTest → List ℕ → Bool
is_met ref_test.Equal (a ∷ b ∷ []) = nat_eq a b
is_met ref_test.NotEqual (a ∷ b ∷ []) = not (nat_eq a b)
is_met ref_test.Null (a ∷ []) = nat_eq a 0
is_met ref_test.NonNull (a ∷ []) = not (nat_eq a 0)
is_met test cells = false
