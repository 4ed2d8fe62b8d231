-- Shuffles of a half of a frame: of the list whose top is last, and of the operands, whose top is first.
use Rattle.std.proofs.Common.{◌≡◌, ℕ, suc, ◌+◌, ◌-◌, ◌≤◌, List, [], ◌∷◌, ◌++◌, map, length, take, drop, reverse, refl, sym, ap, ap₂, ◌∙◌, arith}
use Rattle.std.proofs.Math.Numerals.{suc-eq-add-one}
use Rattle.std.proofs.Math.Seq.{take-add}
use Rattle.std.proofs.lemmas.List.{append_assoc, reverse-append, drop-take, length-take-le, map-append, take-map, drop-map}
use Rattle.mote_stack.specs.Shuffles.{duplicated, exchanged, without_item}
use Rattle.mote_exec.proofs.HalfLists.{rest, top}

-- a pile of operands on others
stacked : (locals left pile : List ℕ) → (locals ++ reverse left) ++ reverse pile ≡ locals ++ reverse (pile ++ left)
stacked locals left pile = append_assoc locals (reverse left) (reverse pile) ∙ ap (λ (all : List ℕ). locals ++ all) (sym (reverse-append pile left))

-- `.. J K` on a list, K with m items and J with n
module _ (m n : ℕ) (locals operands : List ℕ) (enough : m + n ≤ length operands) where
  abbrev upper : List ℕ
  upper = take m operands

  abbrev lower : List ℕ
  lower = take n (drop m operands)

  abbrev left : List ℕ
  left = drop (m + n) operands

  abbrev under : List ℕ
  under = locals ++ reverse left

  upper_last : m ≤ length operands
  upper_last = omega (arith, enough)

  both_there : m ≤ length (take (m + n) operands)
  both_there = omega (arith, length-take-le (m + n) operands enough)

  pub duplicated_is : duplicated m n (locals ++ reverse operands) ≡ locals ++ reverse (upper ++ (lower ++ (upper ++ left)))
  duplicated_is =
      let both = top locals operands (m + n) enough ∙ ap (λ (all : List ℕ). reverse all) (take-add m n operands) ∙ reverse-append upper lower in
      let turned = sym (append_assoc (reverse upper) (reverse lower) (reverse upper)) ∙ ap (λ (all : List ℕ). all ++ reverse upper) (sym (reverse-append lower upper)) ∙ sym (reverse-append upper (lower ++ upper)) in
      ap₂ (λ (first last : List ℕ). first ++ last) (ap₂ (λ (first last : List ℕ). first ++ last) (rest locals operands (m + n) enough) (top locals operands m upper_last)) both
      ∙ append_assoc under (reverse upper) (reverse lower ++ reverse upper)
      ∙ ap (λ (last : List ℕ). under ++ last) turned
      ∙ stacked locals left (upper ++ (lower ++ upper))
      ∙ ap (λ (all : List ℕ). locals ++ reverse all) (append_assoc upper (lower ++ upper) left ∙ ap (λ (all : List ℕ). upper ++ all) (append_assoc lower upper left))

  pub exchanged_is : exchanged m n (locals ++ reverse operands) ≡ locals ++ reverse (lower ++ (upper ++ left))
  exchanged_is =
      let below = ap (λ (all : List ℕ). take (length all - m) all) (top locals operands (m + n) enough) ∙ rest [] (take (m + n) operands) m both_there ∙ ap (λ (all : List ℕ). reverse all) (drop-take m n operands) in
      ap₂ (λ (first last : List ℕ). first ++ last) (ap₂ (λ (first last : List ℕ). first ++ last) (rest locals operands (m + n) enough) (top locals operands m upper_last)) below
      ∙ append_assoc under (reverse upper) (reverse lower)
      ∙ ap (λ (last : List ℕ). under ++ last) (sym (reverse-append lower upper))
      ∙ stacked locals left (lower ++ upper)
      ∙ ap (λ (all : List ℕ). locals ++ reverse all) (append_assoc lower upper left)

pub without_item_is : (above : ℕ) (locals operands : List ℕ) → above + 1 ≤ length operands → without_item above (locals ++ reverse operands) ≡ locals ++ reverse (take above operands ++ drop (suc above) operands)
without_item_is above locals operands enough =
    ap₂ (λ (below last : List ℕ). below ++ last) (rest locals operands (above + 1) enough) (top locals operands above (omega (arith, enough)))
    ∙ stacked locals (drop (above + 1) operands) (take above operands)
    ∙ ap (λ k. locals ++ reverse (take above operands ++ drop k operands)) (sym (suc-eq-add-one above))

-- ---- mapped lists

module _ {X : Type 0} (f : X → ℕ) where
  pub map-reverse : (xs : List X) → map f (reverse xs) ≡ reverse (map f xs)
  map-reverse [] = refl
  map-reverse (x ∷ xs) =
      ap (map f) (reverse-append (x ∷ []) xs) ∙ map-append f (reverse xs) (x ∷ []) ∙ ap (λ (prefix : List ℕ). prefix ++ f x ∷ []) (map-reverse xs) ∙ sym (reverse-append (f x ∷ []) (map f xs))

  -- a half of a frame
  pub map-half : (locals operands : List X) → map f (locals ++ reverse operands) ≡ map f locals ++ reverse (map f operands)
  map-half locals operands = map-append f locals (reverse operands) ∙ ap (λ (last : List ℕ). map f locals ++ last) (map-reverse operands)

  part_same : (m n : ℕ) (operands : List X) → take n (drop m (map f operands)) ≡ map f (take n (drop m operands))
  part_same m n operands = ap (λ (last : List ℕ). take n last) (drop-map f m operands) ∙ take-map f n (drop m operands)

  pub exchanged_mapped : (m n : ℕ) (operands : List X) → take n (drop m (map f operands)) ++ (take m (map f operands) ++ drop (m + n) (map f operands))
      ≡ map f (take n (drop m operands) ++ (take m operands ++ drop (m + n) operands))
  exchanged_mapped m n operands =
      let upper = take m operands in
      let lower = take n (drop m operands) in
      let left = drop (m + n) operands in
      ap₂ (λ (xs ys : List ℕ). xs ++ ys) (part_same m n operands) (ap₂ (λ (xs ys : List ℕ). xs ++ ys) (take-map f m operands) (drop-map f (m + n) operands) ∙ sym (map-append f upper left))
      ∙ sym (map-append f lower (upper ++ left))

  pub duplicated_mapped : (m n : ℕ) (operands : List X) → take m (map f operands) ++ (take n (drop m (map f operands)) ++ (take m (map f operands) ++ drop (m + n) (map f operands)))
      ≡ map f (take m operands ++ (take n (drop m operands) ++ (take m operands ++ drop (m + n) operands)))
  duplicated_mapped m n operands =
      ap₂ (λ (xs ys : List ℕ). xs ++ ys) (take-map f m operands) (exchanged_mapped m n operands) ∙ sym (map-append f (take m operands) (take n (drop m operands) ++ (take m operands ++ drop (m + n) operands)))
