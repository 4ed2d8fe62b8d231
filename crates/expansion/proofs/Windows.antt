-- A part of a list from a position on, as long as the list goes.
use Rattle.std.proofs.Common.{◌≡◌, ℕ, ◌≤◌, List, take, drop, length, min, ap, ◌∙◌, arith}
use Rattle.std.proofs.lemmas.List.{take_min, drop_min, length-take}

pub window_is : {X : Type 0} (xs : List X) (above count : ℕ) → take (min count (length (drop (min above (length xs)) xs))) (drop (min above (length xs)) xs) ≡ take count (drop above xs)
window_is xs above count = take_min count (drop (min above (length xs)) xs) ∙ ap (take count) (drop_min above xs)

pub window_length : {X : Type 0} (xs : List X) (above count : ℕ) → count ≤ 2 → length (take count (drop above xs)) ≤ 2
window_length xs above count le = omega (arith, le, length-take count (drop above xs))
