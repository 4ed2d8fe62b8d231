-- What stands behind others in a list is read and written at their count.
use Rattle.std.proofs.Common.{◌≡◌, ℕ, ◌+◌, Bool, true, nat_le, nat_lt, if◌then◌else◌, List, [], ◌∷◌, ◌++◌, length, take, drop, slice_get, Some, None, refl, ap, ap₂, ◌∙◌, length-append, arith}
use Rattle.std.specs.Prelude.{slice_set}
use Rattle.std.proofs.Math.Seq.{take-append_seam, drop-append_seam, drop-append-add, set-append_seam}
use Rattle.std.proofs.lemmas.Bool.Decides.{nat_tests}
use Rattle.mote_model.specs.State.{Reference}
use Rattle.mote_model.specs.SplitMoves.{cells_at, with_cells_at, with_ref_at}

-- ---- cells

module _ (before : List ℕ) (held : List ℕ) (after : List ℕ) where
  abbrev cells : List ℕ
  cells = before ++ (held ++ after)

  enough : nat_le (length before + length held) (length cells) ≡ true
  enough = grind (arith, nat_tests, length-append before (held ++ after), length-append held after)

  pub cells_there : cells_at cells (length before) (length held) ≡ Some held
  cells_there =
      ap (λ (b : Bool). if b then Some (take (length held) (drop (length before) cells)) else None) enough
      ∙ ap (λ (l : List ℕ). Some (take (length held) l)) (drop-append_seam before (held ++ after))
      ∙ ap (λ (l : List ℕ). Some l) (take-append_seam held after)

  pub cells_set : (new : List ℕ) → length new ≡ length held → with_cells_at cells (length before) new ≡ Some (before ++ (new ++ after))
  cells_set new same =
      ap (λ (count : ℕ). if nat_le (length before + count) (length cells) then Some (take (length before) cells ++ (new ++ drop (length before + count) cells)) else None) same
      ∙ ap (λ (b : Bool). if b then Some (take (length before) cells ++ (new ++ drop (length before + length held) cells)) else None) enough
      ∙ ap₂ (λ (first rest : List ℕ). Some (first ++ (new ++ rest))) (take-append_seam before (held ++ after))
      (drop-append-add before (held ++ after) (length held) ∙ drop-append_seam held after)

-- ---- references

pub ref_there : (before : List Reference) (held : Reference) (after : List Reference) → slice_get (before ++ held ∷ after) (length before) ≡ Some held
ref_there [] held after = refl
ref_there (first ∷ before) held after = ref_there before held after

pub ref_set : (before : List Reference) (held : Reference) (after : List Reference) (new : Reference) → with_ref_at (before ++ held ∷ after) (length before) new ≡ Some (before ++ new ∷ after)
ref_set before held after new =
    let within : nat_lt (length before) (length (before ++ held ∷ after)) ≡ true = grind (arith, nat_tests, length-append before (held ∷ after)) in
    ap (λ (b : Bool). if b then Some (slice_set (before ++ held ∷ after) (length before) new) else None) within
    ∙ ap (λ (l : List Reference). Some l) (set-append_seam before held after new)
