-- A list with one item set, and lists of what each local has.
use Rattle.std.proofs.Common.{◌≡◌, ℕ, zero, suc, ◌+◌, ◌<◌, false, nat_eq, List, [], ◌∷◌, map, length, Some, option_map, refl, ap, ◌∙◌, arith}
use Rattle.std.specs.Prelude.{slice_get, slice_set}
use Rattle.std.specs.List.{range_with_len}
use Rattle.std.proofs.lemmas.Bool.Decides.{nat_tests}
use Rattle.std.proofs.lemmas.List.FromFn.{length-range_with_len, get_or-range_with_len}
use Rattle.std.proofs.lemmas.Option.{slice_get-map, slice_get-get_or}

module _ {X : Type 0} where
  pub get_set : (xs : List X) (i : ℕ) (x : X) → i < length xs → slice_get (slice_set xs i x) i ≡ Some x
  get_set [] i x low = absurd (omega (arith, low))
  get_set (y ∷ xs) zero x low = refl
  get_set (y ∷ xs) (suc i) x low = get_set xs i x (omega (arith, low))

  pub get_beside : (xs : List X) (i k : ℕ) (x : X) → nat_eq k i ≡ false → slice_get (slice_set xs i x) k ≡ slice_get xs k
  get_beside [] i k x other = refl
  get_beside (y ∷ xs) zero zero x other = absurd cc
  get_beside (y ∷ xs) zero (suc k) x other = refl
  get_beside (y ∷ xs) (suc i) zero x other = refl
  get_beside (y ∷ xs) (suc i) (suc k) x other = get_beside xs i k x (grind (arith, nat_tests, other))

  -- what each of the locals has, by the local
  pub of_local : (f : ℕ → X) (count local : ℕ) → local < count → slice_get (map f (range_with_len 0 count)) local ≡ Some (f local)
  of_local f count local low =
      let long = length-range_with_len 0 count in
      let within : local < length (range_with_len 0 count) = omega (arith, long, low) in
      let there : 0 + local ≡ local = omega arith in
      slice_get-map f (range_with_len 0 count) local
      ∙ ap (option_map f) (slice_get-get_or (range_with_len 0 count) local 0 within)
      ∙ ap (λ (l : ℕ). Some (f l)) (get_or-range_with_len 0 count local 0 low ∙ there)
