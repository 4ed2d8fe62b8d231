-- The greatest of some numbers and one more.
use Rattle.std.proofs.Common.{◌≡◌, ℕ, ◌+◌, ◌<◌, List, [], ◌∷◌, ◌++◌, length, map, take, get_or, max, ap, ◌∙◌, arith}
use Rattle.std.proofs.lemmas.List.{take_more, map-append}
use Rattle.jvm_model.specs.WidthsFrame.{greatest}
use Rattle.std.specs.List.{fold}

last_greatest : (start : ℕ) (numbers : List ℕ) (number : ℕ) → fold max start (numbers ++ number ∷ []) ≡ max number (fold max start numbers)
last_greatest start [] number = omega arith
last_greatest start (first ∷ numbers) number = last_greatest (max start first) numbers number

pub greatest_more : {X : Type 0} (of : X → ℕ) (list : List X) (index : ℕ) (none : X) → index < length list → greatest (map of (take (index + 1) list)) ≡ max (of (get_or list index none)) (greatest (map of (take index list)))
greatest_more of list index none within =
    ap (λ taken. greatest (map of taken)) (take_more list index none within) ∙ ap greatest (map-append of (take index list) (get_or list index none ∷ []))
    ∙ last_greatest 0 (map of (take index list)) (of (get_or list index none))
