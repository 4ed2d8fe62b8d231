-- Halves of frames as lists: the locals first, and the top of the operands last.
use Rattle.std.proofs.Common.{◌≡◌, ℕ, ◌-◌, ◌≤◌, List, ◌++◌, length, take, drop, reverse, sym, ap, ◌∙◌, arith}
use Rattle.std.proofs.Math.Seq.{take-append_seam, drop-append_seam}
use Rattle.std.proofs.lemmas.List.{append_assoc, reverse-append, take-append-drop, length-append, length-reverse, length-take-le, reverse-reverse}
use Rattle.mote_stack.specs.Frames.{without_last, last_items}

module _ {X : Type 0} where
  -- what is taken off the top stands behind the rest
  pub parted : (locals operands : List X) (count : ℕ) → locals ++ reverse operands ≡ (locals ++ reverse (drop count operands)) ++ reverse (take count operands)
  parted locals operands count =
      ap (λ (all : List X). locals ++ reverse all) (sym (take-append-drop count operands))
      ∙ ap (λ (all : List X). locals ++ all) (reverse-append (take count operands) (drop count operands))
      ∙ sym (append_assoc locals (reverse (drop count operands)) (reverse (take count operands)))

  -- more on top
  pub pushed : (locals operands items : List X) → (locals ++ reverse operands) ++ items ≡ locals ++ reverse (reverse items ++ operands)
  pushed locals operands items =
      append_assoc locals (reverse operands) items
      ∙ ap (λ (all : List X). locals ++ (reverse operands ++ all)) (sym (reverse-reverse items))
      ∙ ap (λ (all : List X). locals ++ all) (sym (reverse-append (reverse items) operands))

first_part : (xs ys : List ℕ) (count : ℕ) → count ≡ length ys → take (length (xs ++ ys) - count) (xs ++ ys) ≡ xs
first_part xs ys count e =
    let n : length (xs ++ ys) - count ≡ length xs = omega (arith, length-append xs ys, e) in
    ap (λ k. take k (xs ++ ys)) n ∙ take-append_seam xs ys

last_part : (xs ys : List ℕ) (count : ℕ) → count ≡ length ys → drop (length (xs ++ ys) - count) (xs ++ ys) ≡ ys
last_part xs ys count e =
    let n : length (xs ++ ys) - count ≡ length xs = omega (arith, length-append xs ys, e) in
    ap (λ k. drop k (xs ++ ys)) n ∙ drop-append_seam xs ys

counted : (operands : List ℕ) (count : ℕ) → count ≤ length operands → count ≡ length (reverse (take count operands))
counted operands count enough = sym (length-reverse (take count operands) ∙ length-take-le count operands enough)

-- without what is taken
pub rest : (locals operands : List ℕ) (count : ℕ) → count ≤ length operands → without_last count (locals ++ reverse operands) ≡ locals ++ reverse (drop count operands)
rest locals operands count enough =
    ap (λ all. take (length all - count) all) (parted locals operands count)
    ∙ first_part (locals ++ reverse (drop count operands)) (reverse (take count operands)) count (counted operands count enough)

-- what is taken
pub top : (locals operands : List ℕ) (count : ℕ) → count ≤ length operands → last_items count (locals ++ reverse operands) ≡ reverse (take count operands)
top locals operands count enough =
    ap (λ all. drop (length all - count) all) (parted locals operands count)
    ∙ last_part (locals ++ reverse (drop count operands)) (reverse (take count operands)) count (counted operands count enough)
