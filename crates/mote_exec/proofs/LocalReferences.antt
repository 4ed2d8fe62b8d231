-- References that are read and written among the locals of a frame.
use Rattle.std.proofs.Common.{◌≡◌, ℕ, zero, suc, ◌-◌, ◌<◌, ◌≤◌, List, [], ◌∷◌, ◌++◌, length, take, drop, map, reverse, get_or, None, refl, sym, ap, ap₂, ◌∙◌, arith}
use Rattle.std.specs.Prelude.{slice_index, slice_set}
use Rattle.std.specs.List.{AllByRecursion}
use Rattle.std.proofs.lemmas.List.{get_or-map, get_or_append_left, get_or_push, length-append, length_push, map_push, map-set, set-append_left, take_at}
use Rattle.mote_stack.specs.Frames.{without_last}
use Rattle.mote_model.specs.State.{Reference, Frame}
use Rattle.mote_model.specs.SplitMoves.{SplitMove, take_ref, take_ref_from, with_refs}
use Rattle.mote_exec.proofs.HalfLists.{parted}

-- ---- the reference on top

-- the one on top, null where there is none
abbrev pub top_reference : List Reference → Reference
top_reference operands = get_or operands 0 None

-- one of these operands is taken
pub takes_from : (frame : Frame) (operands : List Reference) (use_it : Reference → Frame → SplitMove) → 1 ≤ length operands
    → take_ref_from frame operands use_it ≡ use_it (top_reference operands) (with_refs frame (drop 1 operands))
takes_from frame [] use_it enough = absurd (omega (arith, enough))
takes_from frame (reference ∷ operands) use_it enough = refl

-- it is taken
pub takes_ref : (frame : Frame) (use_it : Reference → Frame → SplitMove) → 1 ≤ length frame.refs.operands
    → take_ref frame use_it ≡ use_it (top_reference frame.refs.operands) (with_refs frame (drop 1 frame.refs.operands))
takes_ref frame use_it enough = takes_from frame frame.refs.operands use_it enough

-- it is the last of the half
top_last : (locals operands : List Reference) → 1 ≤ length operands → locals ++ reverse operands ≡ (locals ++ reverse (drop 1 operands)) ++ top_reference operands ∷ []
top_last locals [] enough = absurd (omega (arith, enough))
top_last locals (reference ∷ operands) enough = parted locals (reference ∷ operands) 1

module _ (items : List ℕ) (item : ℕ) where
  last_off : without_last 1 (items ++ item ∷ []) ≡ items
  last_off = ap (λ n. take n (items ++ item ∷ [])) (let n : length (items ++ item ∷ []) - 1 ≡ length items = omega (arith, length_push items item) in n) ∙ take_at items (item ∷ []) (length items) refl

  last_is : slice_index (items ++ item ∷ []) (length (items ++ item ∷ []) - 1) ≡ item
  last_is = get_or_push items item 0 (length (items ++ item ∷ []) - 1) (omega (arith, length_push items item))

-- ---- a half in cells

module _ (cell : Reference → ℕ) (locals operands : List Reference) (at : ℕ) (within : at < length locals) where
  -- a local is read
  pub local_read : slice_index (map cell (locals ++ reverse operands)) at ≡ cell (get_or locals at None)
  local_read =
      get_or-map cell (locals ++ reverse operands) at None 0 (omega (arith, within, length-append locals (reverse operands)))
      ∙ ap cell (get_or_append_left locals (reverse operands) None at within)

  -- a local is written
  pub local_written : (reference : Reference) → slice_set (map cell (locals ++ reverse operands)) at (cell reference) ≡ map cell (slice_set locals at reference ++ reverse operands)
  local_written reference = sym (map-set cell (locals ++ reverse operands) at reference) ∙ ap (map cell) (set-append_left locals (reverse operands) at reference within)

-- the reference on top goes into a local
pub local_popped : (cell : Reference → ℕ) (locals operands : List Reference) (at : ℕ) → at < length locals → 1 ≤ length operands
    → (let all = map cell (locals ++ reverse operands) in slice_set (without_last 1 all) at (slice_index all (length all - 1))) ≡ map cell (slice_set locals at (top_reference operands) ++ reverse (drop 1 operands))
local_popped cell locals operands at within enough =
    let reference = top_reference operands in
    let left = locals ++ reverse (drop 1 operands) in
    ap (λ (all : List ℕ). slice_set (without_last 1 all) at (slice_index all (length all - 1))) (ap (map cell) (top_last locals operands enough) ∙ map_push cell left reference)
    ∙ ap₂ (λ (items : List ℕ) (item : ℕ). slice_set items at item) (last_off (map cell left) (cell reference)) (last_is (map cell left) (cell reference))
    ∙ local_written cell locals (drop 1 operands) at within reference

-- ---- what holds of each

pub all_set : {X : Type 0} (P : X → Type 0) (xs : List X) (at : ℕ) (x : X) → AllByRecursion P xs → P x → AllByRecursion P (slice_set xs at x)
all_set P [] at x all is = tt
all_set P (y ∷ xs) zero x all is = (is, all.1)
all_set P (y ∷ xs) (suc at) x all is = (all.0, all_set P xs at x all.1 is)
