-- Operands that are removed, copied and exchanged, by parts of the list.
use Rattle.std.proofs.Common.{◌≡◌, ℕ, ◌+◌, Bool, true, false, nat_eq, nat_le, if◌then◌else◌, List, [], ◌∷◌, ◌++◌, length, take, drop, Some, None, refl, ap, ◌∙◌, length-append, arith}
use Rattle.std.proofs.Math.Seq.{take-append_seam, drop-append_seam, drop-append-add}
use Rattle.std.proofs.lemmas.Bool.Decides.{nat_tests}
use Rattle.mote_model.specs.SplitMoves.{dupx, swapped, without}

-- a list in three parts
module _ {X : Type 0} (top passed below : List X) where
  abbrev all : List X
  all = top ++ (passed ++ below)

  first : take (length top) all ≡ top
  first = take-append_seam top (passed ++ below)

  second : take (length passed) (drop (length top) all) ≡ passed
  second = ap (take (length passed)) (drop-append_seam top (passed ++ below)) ∙ take-append_seam passed below

  third : drop (length top + length passed) all ≡ below
  third = drop-append-add top (passed ++ below) (length passed) ∙ drop-append_seam passed below

  enough : nat_le (length top + length passed) (length all) ≡ true
  enough = grind (arith, nat_tests, length-append top (passed ++ below), length-append passed below)

  pub copied : dupx (length top) (length passed) all ≡ Some (top ++ (passed ++ (top ++ below)))
  copied =
      let m = length top in
      let n = length passed in
      ap (λ (b : Bool). if b then Some (take m all ++ (take n (drop m all) ++ (take m all ++ drop (m + n) all))) else None) enough
      ∙ ap (λ (l : List X). Some (l ++ (take n (drop m all) ++ (l ++ drop (m + n) all)))) first
      ∙ ap (λ (l : List X). Some (top ++ (l ++ (top ++ drop (m + n) all)))) second
      ∙ ap (λ (l : List X). Some (top ++ (passed ++ (top ++ l)))) third

  pub exchanged : swapped (length top) (length passed) all ≡ Some (passed ++ (top ++ below))
  exchanged =
      let m = length top in
      let n = length passed in
      ap (λ (b : Bool). if b then Some (take n (drop m all) ++ (take m all ++ drop (m + n) all)) else None) enough
      ∙ ap (λ (l : List X). Some (l ++ (take m all ++ drop (m + n) all))) second
      ∙ ap (λ (l : List X). Some (passed ++ (l ++ drop (m + n) all))) first
      ∙ ap (λ (l : List X). Some (passed ++ (top ++ l))) third

module _ {X : Type 0} (top below : List X) where
  fits : nat_le (length top) (length (top ++ below)) ≡ true
  fits = grind (arith, nat_tests, length-append top below)

  pub removed : without (length top) (top ++ below) ≡ Some below
  removed =
      ap (λ (b : Bool). if b then Some (drop (length top) (top ++ below)) else None) fits
      ∙ ap (λ (l : List X). Some l) (drop-append_seam top below)

-- an instruction for so many is left out where there are none
abbrev pub are_some : ℕ → Bool
are_some count = if nat_eq count 0 then false else true

pub none_left : {X : Type 0} (xs : List X) (count : ℕ) → count ≡ length xs → are_some count ≡ false → xs ≡ []
none_left [] count is none = refl
none_left (x ∷ xs) count is none =
    let some : nat_eq count 0 ≡ false = grind (arith, nat_tests, is) in
    absurd (cc)
