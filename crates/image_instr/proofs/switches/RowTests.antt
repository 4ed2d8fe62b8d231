-- The test that keys rise, row by row.
use Rattle.std.proofs.Common.{◌≡◌, ℕ, ℤ, suc, ◌+◌, ◌-◌, ◌<◌, ◌≤◌, true, false, ◌&&◌, List, drop, Option, Some, ap, ◌∙◌, arith}
use Rattle.image_instr.specs.Reading.{keys_rise, key_in, is_above}

-- with rows left, the first one and those after it decide
pub keys_rise-more : (count counter : ℕ) (before : Option ℤ) (rest : List ℕ) → counter < count → keys_rise (count - counter) before rest ≡ (is_above before (key_in rest) && keys_rise (count - (counter + 1)) (Some (key_in rest)) (drop 6 rest))
unfolding keys_rise
keys_rise-more count counter before rest more =
    let e : count - counter ≡ suc (count - (counter + 1)) = omega arith in
    ap (λ n. keys_rise n before rest) e

-- with none left, the keys rise
pub keys_rise-done : (count counter : ℕ) (before : Option ℤ) (rest : List ℕ) → count ≤ counter → keys_rise (count - counter) before rest ≡ true
unfolding keys_rise
keys_rise-done count counter before rest none =
    let e : count - counter ≡ 0 = omega arith in
    ap (λ n. keys_rise n before rest) e

-- a first row that is not above decides
pub keys_rise-falls : (count counter : ℕ) (before : Option ℤ) (rest : List ℕ) → counter < count → is_above before (key_in rest) ≡ false → keys_rise (count - counter) before rest ≡ false
keys_rise-falls count counter before rest more falls =
    keys_rise-more count counter before rest more ∙ ap (λ test. test && keys_rise (count - (counter + 1)) (Some (key_in rest)) (drop 6 rest)) falls

-- a first row that is above leaves it to the rows after
pub keys_rise-goes_on : (count counter : ℕ) (before : Option ℤ) (rest : List ℕ) → counter < count → is_above before (key_in rest) ≡ true → keys_rise (count - counter) before rest ≡ keys_rise (count - (counter + 1)) (Some (key_in rest)) (drop 6 rest)
keys_rise-goes_on count counter before rest more above =
    keys_rise-more count counter before rest more ∙ ap (λ test. test && keys_rise (count - (counter + 1)) (Some (key_in rest)) (drop 6 rest)) above
