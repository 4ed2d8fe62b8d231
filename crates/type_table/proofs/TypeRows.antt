-- Rows of frames of a store, by their index and by their pc.
use Rattle.std.proofs.Common.{◌≡◌, ℕ, zero, suc, true, false, cond, nat_eq, List, [], ◌∷◌, Option, Some, None, option_map, unwrap_or, map, slice_get, refl, sym, ap, subst, ◌∙◌}
use Rattle.std.specs.Option.{option_map_or}
use Rattle.std.specs.List.{AllByRecursion}
use Rattle.std.proofs.lemmas.Option.{same_Some}
use Rattle.body_form.specs.declared.types.VFrame.{VFrame}
use Rattle.code_reach.specs.Reached.{RisesFrom}
use Rattle.code_reach.specs.Visits.{pcs_of, index_of}
use Rattle.type_table.specs.declared.store.FrameId.{FrameId}
use Rattle.type_table.specs.Frames.{Stored, IsFrame, frame_of}
use Rattle.type_table.specs.Types.{Rows, rows_of, table_of}

mapped_or : {X Y : Type 0} (f : X → Y) (found : Option X) (none : Y) → unwrap_or (option_map f found) none ≡ option_map_or f found none
mapped_or f None none = refl
mapped_or f (Some x) none = refl

module _ (stored : Stored) where
  row_value : {X : Type 0} (f : VFrame → X) (rows : List (ℕ × FrameId)) (index : ℕ)
      → option_map (λ (row : ℕ × VFrame). f row.1) (slice_get (rows_of stored rows) index) ≡ option_map (λ (row : ℕ × FrameId). f (frame_of stored row.1)) (slice_get rows index)
  row_value f [] index = refl
  row_value f (row ∷ rows) zero = refl
  row_value f (row ∷ rows) (suc index) = row_value f rows index

  pub row_frame : (rows : List (ℕ × FrameId)) (index : ℕ)
      → option_map (λ (row : ℕ × VFrame). row.1) (slice_get (rows_of stored rows) index) ≡ option_map (λ (row : ℕ × FrameId). frame_of stored row.1) (slice_get rows index)
  row_frame [] index = refl
  row_frame (row ∷ rows) zero = refl
  row_frame (row ∷ rows) (suc index) = row_frame rows index

  pub row_pc : (rows : List (ℕ × FrameId)) (index : ℕ)
      → option_map (λ (row : ℕ × VFrame). row.0) (slice_get (rows_of stored rows) index) ≡ option_map (λ (row : ℕ × FrameId). row.0) (slice_get rows index)
  row_pc [] index = refl
  row_pc (row ∷ rows) zero = refl
  row_pc (row ∷ rows) (suc index) = row_pc rows index

  -- each row is one of a frame that is there
  pub row_there : (rows : List (ℕ × FrameId)) → AllByRecursion (λ (row : ℕ × FrameId). IsFrame stored row.1) rows → (index : ℕ) (row : ℕ × FrameId) → slice_get rows index ≡ Some row → IsFrame stored row.1
  row_there [] all index row is = let none : ◌≡◌ {A = Option (ℕ × FrameId)} None (Some row) = is in absurd (cc)
  row_there (first ∷ rows) all zero row is = let same : first ≡ row = same_Some first row is in subst (λ (r : ℕ × FrameId). IsFrame stored r.1) same all.0
  row_there (first ∷ rows) all (suc index) row is = row_there rows all.1 index row is

  -- the pcs are the same
  pub ids_rise : (low : ℕ) (rows : List (ℕ × FrameId)) → RisesFrom low (rows_of stored rows) → RisesFrom low rows
  ids_rise low [] rise = tt
  ids_rise low (row ∷ rows) rise = (rise.0, ids_rise (suc row.0) rows rise.1)

  -- the frame of a pc is that of its index
  pub frame_by_index : (rows : List (ℕ × FrameId)) (pc : ℕ) → table_of (rows_of stored rows) pc ≡ option_map (λ (row : ℕ × FrameId). frame_of stored row.1) (slice_get rows (index_of (pcs_of rows) pc))
  unfolding table_of index_of
  frame_by_index [] pc = refl
  frame_by_index (row ∷ rows) pc =
      elim (nat_eq row.0 pc) as (λ b. cond b (Some (frame_of stored row.1)) (table_of (rows_of stored rows) pc)
      ≡ option_map (λ (r : ℕ × FrameId). frame_of stored r.1) (slice_get (row ∷ rows) (cond b 0 (suc (index_of (pcs_of rows) pc))))) [
        | true ↦ refl
        | false ↦ frame_by_index rows pc
      ]

  -- ---- what is read of the frames

  pub row_is : {X : Type 0} (f : VFrame → X) (items read : List (ℕ × FrameId)) (rows : Rows) (index : ℕ) (found : Option (ℕ × FrameId)) → rows_of stored items ≡ rows → read ≡ items
      → found ≡ slice_get read index → option_map (λ (row : ℕ × FrameId). f (frame_of stored row.1)) found ≡ option_map (λ (row : ℕ × VFrame). f row.1) (slice_get rows index)
  row_is {X} f items read rows index found view same is =
      ap (option_map (λ (row : ℕ × FrameId). f (frame_of stored row.1))) (is ∙ ap (λ (list : List (ℕ × FrameId)). slice_get list index) same) ∙ sym (row_value f items index)
      ∙ ap (λ (list : Rows). option_map (λ (row : ℕ × VFrame). f row.1) (slice_get list index)) view

  -- and where there may be no row
  pub row_or : {X : Type 0} (f : VFrame → X) (rows : Rows) (index : ℕ) (none : X) (found : Option X) → found ≡ option_map (λ (row : ℕ × VFrame). f row.1) (slice_get rows index)
      → unwrap_or found none ≡ option_map_or (λ (row : ℕ × VFrame). f row.1) (slice_get rows index) none
  row_or {X} f rows index none found is = ap (λ (o : Option X). unwrap_or o none) is ∙ mapped_or (λ (row : ℕ × VFrame). f row.1) (slice_get rows index) none

  pub all_rows : {X : Type 0} (f : VFrame → X) (rows : List (ℕ × FrameId)) → map (λ (row : ℕ × FrameId). f (frame_of stored row.1)) rows ≡ map (λ (row : ℕ × VFrame). f row.1) (rows_of stored rows)
  all_rows f [] = refl
  all_rows {X} f (row ∷ rows) = ap (λ (list : List X). f (frame_of stored row.1) ∷ list) (all_rows f rows)
