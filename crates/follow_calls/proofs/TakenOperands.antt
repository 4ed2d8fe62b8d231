-- What a new frame takes off the operands of its caller: so many from the top, in their order.
use Rattle.std.proofs.Common.{◌≡◌, ℕ, ◌-◌, true, nat_le, List, ◌++◌, reverse, length, replicate, take, drop, sym, ap, ap₂, ◌∙◌, length-append, arith}
use Rattle.std.proofs.Math.Seq.{take-append_seam, drop-append_seam}
use Rattle.std.proofs.lemmas.Bool.Decides.{nat_tests}
use Rattle.std.proofs.lemmas.List.{length-reverse, reverse-reverse}
use Rattle.mote_model.specs.SplitStep.{first_locals}

module _ {X : Type 0} (xs below operands : List X) (are : operands ≡ reverse xs ++ below) (count : ℕ) (counted : count ≡ length xs) where
  count_turned : count ≡ length (reverse xs)
  count_turned = counted ∙ sym (length-reverse xs)

  pub enough_operands : nat_le count (length operands) ≡ true
  enough_operands =
      let all = ap (λ (l : List X). length l) are ∙ length-append (reverse xs) below in
      let turned = count_turned in
      grind (arith, nat_tests, all, turned)

  -- those that are taken, in their order, and then copies of one
  pub first_taken : (locals : ℕ) (empty : X) → first_locals count locals empty operands ≡ xs ++ replicate (locals - length xs) empty
  first_taken locals empty =
      let taken : take count operands ≡ reverse xs = ap₂ (λ (n : ℕ) (l : List X). take n l) count_turned are ∙ take-append_seam (reverse xs) below in
      ap₂ (λ (l : List X) (n : ℕ). reverse l ++ replicate (locals - n) empty) taken counted ∙ ap (λ (l : List X). l ++ replicate (locals - length xs) empty) (reverse-reverse xs)

  pub rest_left : drop count operands ≡ below
  rest_left = ap₂ (λ (n : ℕ) (l : List X). drop n l) count_turned are ∙ drop-append_seam (reverse xs) below
