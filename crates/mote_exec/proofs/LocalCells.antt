-- Cells of a frame that are read and written in place.
use Rattle.std.proofs.Common.{◌≡◌, ℕ, suc, ◌+◌, ◌<◌, List, [], ◌∷◌, ◌++◌, length, take, drop, sym, ap, ap₂, ◌∙◌, arith, ◌-◌, ◌≤◌}
use Rattle.std.specs.Prelude.{slice_set}
use Rattle.std.proofs.lemmas.List.{append_assoc, length-drop, length-set, set_split, take_all, take-append-le, take_more_set, drop-append-le, drop-set-lt}
use Rattle.mote_stack.specs.Frames.{without_last}
use Rattle.mote_exec.specs.Locals.{part_at, with_part}

-- one item is written
pub one_set : (items : List ℕ) (at item : ℕ) → at < length items → slice_set items at item ≡ with_part items at (item ∷ [])
one_set items at item within =
    let next : suc at ≡ at + 1 = omega arith in
    set_split items at item within ∙ ap (λ n. take at items ++ item ∷ drop n items) next

-- two items are written
pub two_set : (items : List ℕ) (at first second : ℕ) → at + 1 < length items → slice_set (slice_set items at first) (at + 1) second ≡ with_part items at (first ∷ second ∷ [])
two_set items at first second within =
    let left = drop (at + 2) items in
    let there : at + 1 < length (slice_set items at first) = simp length-set (omega (arith, within)) in
    let next : suc (at + 1) ≡ at + 2 = omega arith in
    set_split (slice_set items at first) (at + 1) second there
    ∙ ap (λ n. take (at + 1) (slice_set items at first) ++ second ∷ drop n (slice_set items at first)) next
    ∙ ap₂ (λ (low high : List ℕ). low ++ second ∷ high) (take_more_set items at first (omega (arith, within))) (drop-set-lt (at + 2) items at first (omega arith))
    ∙ append_assoc (take at items) (first ∷ []) (second ∷ left)

-- ---- the locals are the first items of a half

-- what is read among the locals
pub part_within : (locals others : List ℕ) (at count : ℕ) → at + count ≤ length locals → part_at at count (locals ++ others) ≡ part_at at count locals
part_within locals others at count within =
    ap (take count) (drop-append-le at locals others (omega (arith, within)))
    ∙ take-append-le count (drop at locals) others (omega (arith, within, length-drop at locals))

-- what is written among the locals leaves the operands
pub written_within : (locals others new : List ℕ) (at : ℕ) → at + length new ≤ length locals → with_part (locals ++ others) at new ≡ with_part locals at new ++ others
written_within locals others new at within =
    let left = drop (at + length new) locals in
    ap₂ (λ (low high : List ℕ). low ++ (new ++ high)) (take-append-le at locals others (omega (arith, within))) (drop-append-le (at + length new) locals others within)
    ∙ ap (λ (all : List ℕ). take at locals ++ all) (sym (append_assoc new left others))
    ∙ sym (append_assoc (take at locals) (new ++ left) others)

-- nothing is taken
pub without_none : (items : List ℕ) → without_last 0 items ≡ items
without_none items = take_all (length items - 0) items (omega arith)
