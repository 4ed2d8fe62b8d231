-- Halves of frames whose items are shown by a map, and the locals of a new frame.
use Rattle.std.proofs.Common.{◌≡◌, ℕ, zero, suc, ◌-◌, ◌≤◌, List, [], ◌∷◌, ◌++◌, length, map, take, drop, reverse, replicate, refl, sym, ap, ap₂, ◌∙◌, arith}
use Rattle.std.proofs.lemmas.List.{append-nil, length-map, map-append, reverse-append, drop-map, take-map}
use Rattle.mote_stack.specs.Frames.{without_last, last_items}
use Rattle.mote_exec.proofs.HalfLists.{rest, top}

-- the arguments on top become locals, before empty ones
pub first_cells : (locals operands : List ℕ) (count total : ℕ) → count ≤ length operands
    → last_items count (locals ++ reverse operands) ++ replicate (total - count) 0 ≡ (reverse (take count operands) ++ replicate (total - count) 0) ++ []
first_cells locals operands count total enough =
    ap (λ first. first ++ replicate (total - count) 0) (top locals operands count enough) ∙ sym (append-nil (reverse (take count operands) ++ replicate (total - count) 0))

module _ {X : Type 0} (f : X → ℕ) where
  map_reverse : (xs : List X) → map f (reverse xs) ≡ reverse (map f xs)
  map_reverse [] = refl
  map_reverse (x ∷ xs) =
      ap (map f) (reverse-append (x ∷ []) xs) ∙ map-append f (reverse xs) (x ∷ []) ∙ ap (λ ys. ys ++ f x ∷ []) (map_reverse xs) ∙ sym (reverse-append (f x ∷ []) (map f xs))

  map_replicate : (n : ℕ) (x : X) → map f (replicate n x) ≡ replicate n (f x)
  map_replicate zero x = refl
  map_replicate (suc n) x = ap (λ ys. f x ∷ ys) (map_replicate n x)

  map_whole : (locals operands : List X) → map f (locals ++ reverse operands) ≡ map f locals ++ reverse (map f operands)
  map_whole locals operands = map-append f locals (reverse operands) ∙ ap (λ ys. map f locals ++ ys) (map_reverse operands)

  module _ (locals operands : List X) (count : ℕ) (enough : count ≤ length operands) where
    counted : count ≤ length (map f operands)
    counted = omega (arith, enough, length-map operands f)

    -- without what is taken
    pub mapped_rest : without_last count (map f (locals ++ reverse operands)) ≡ map f (locals ++ reverse (drop count operands))
    mapped_rest =
        ap (without_last count) (map_whole locals operands) ∙ rest (map f locals) (map f operands) count counted
        ∙ ap (λ left. map f locals ++ reverse left) (drop-map f count operands) ∙ sym (map_whole locals (drop count operands))

    -- what is taken
    pub mapped_top : last_items count (map f (locals ++ reverse operands)) ≡ map f (reverse (take count operands))
    mapped_top =
        ap (last_items count) (map_whole locals operands) ∙ top (map f locals) (map f operands) count counted
        ∙ ap reverse (take-map f count operands) ∙ sym (map_reverse (take count operands))

    -- the arguments on top become locals, before empty ones
    pub mapped_first : (total : ℕ) (empty : X) → f empty ≡ 0
        → last_items count (map f (locals ++ reverse operands)) ++ replicate (total - count) 0 ≡ map f ((reverse (take count operands) ++ replicate (total - count) empty) ++ [])
    mapped_first total empty none =
        ap₂ (λ first others. first ++ others) mapped_top (ap (replicate (total - count)) (sym none) ∙ sym (map_replicate (total - count) empty))
        ∙ sym (map-append f (reverse (take count operands)) (replicate (total - count) empty))
        ∙ ap (map f) (sym (append-nil (reverse (take count operands) ++ replicate (total - count) empty)))
