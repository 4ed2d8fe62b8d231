-- Locals and statics of the split machine lower the rank.
use Rattle.std.proofs.Common.{ℕ, List, ◌∷◌, drop, take, reverse, slice_get, refl}
use Rattle.image_instr.specs.declared.insn.Kind.{Kind}
use Rattle.image_instr.specs.declared.insn.Kind.TheVariants as kind
use Rattle.image_form.specs.declared.record.Image.{Image}
use Rattle.mote_model.specs.State.{Reference, Frame}
use Rattle.mote_model.specs.SplitMoves.{SplitMove, with_cells, with_refs, with_ref_locals, with_cell_locals, cells_at, with_cells_at, with_ref_at, push_ref, push_cells, goes_on, take_cells, using}
use Rattle.mote_model.specs.SplitState.{State}
use Rattle.mote_model.specs.SplitStep.{load, store, get_static, put_static}
use Rattle.run_measures.proofs.Lowering.{Lowers}
use Rattle.run_measures.proofs.SplitRank.{rank_of, IsAhead}
use Rattle.run_measures.proofs.SplitForms.{rank_in, used, taken_cells, taken_ref, on}

module _ {image : Image} {frame : Frame} {next : ℕ} (ahead : IsAhead image frame next) (others : List Frame) (state : State) where
  -- the move lowers the rank of the state
  abbrev Lower : SplitMove → Type 0
  Lower move = Lowers (rank_in image) (rank_of image (frame ∷ others)) move

  pub load_lowers : (k : Kind) (at : ℕ) → Lower (load state frame others next k at)
  load_lowers kind.Ref at = used (slice_get frame.refs.locals at) (λ reference. goes_on state (push_ref reference frame) others next) (λ reference. on ahead others state (push_ref reference frame) refl)
  load_lowers kind.One at = used (cells_at frame.cells.locals at 1) (λ cells. goes_on state (push_cells cells frame) others next) (λ cells. on ahead others state (push_cells cells frame) refl)
  load_lowers kind.Two at = used (cells_at frame.cells.locals at 2) (λ cells. goes_on state (push_cells cells frame) others next) (λ cells. on ahead others state (push_cells cells frame) refl)

  pub stored_cells : (count at : ℕ) → Lower (take_cells count frame (λ cells rest. using (with_cells_at rest.cells.locals at cells) (λ locals. goes_on state (with_cell_locals rest locals) others next)))
  stored_cells count at =
      let rest = with_cells frame (drop count frame.cells.operands) in
      taken_cells count frame (λ cells rest. using (with_cells_at rest.cells.locals at cells) (λ locals. goes_on state (with_cell_locals rest locals) others next))
      (used (with_cells_at frame.cells.locals at (reverse (take count frame.cells.operands))) (λ locals. goes_on state (with_cell_locals rest locals) others next) (λ locals. on ahead others state (with_cell_locals rest locals) refl))

  pub store_lowers : (k : Kind) (at : ℕ) → Lower (store state frame others next k at)
  store_lowers kind.Ref at =
      taken_ref frame (λ reference rest. using (with_ref_at rest.refs.locals at reference) (λ locals. goes_on state (with_ref_locals rest locals) others next))
      (λ reference rest.
      used (with_ref_at frame.refs.locals at reference) (λ locals. goes_on state (with_ref_locals (with_refs frame rest) locals) others next) (λ locals. on ahead others state (with_ref_locals (with_refs frame rest) locals) refl))
  store_lowers kind.One at = stored_cells 1 at
  store_lowers kind.Two at = stored_cells 2 at

  pub get_static_lowers : (k : Kind) (at : ℕ) → Lower (get_static state frame others next k at)
  get_static_lowers kind.Ref at = used (slice_get state.ref_statics at) (λ reference. goes_on state (push_ref reference frame) others next) (λ reference. on ahead others state (push_ref reference frame) refl)
  get_static_lowers kind.One at = used (cells_at state.cell_statics at 1) (λ cells. goes_on state (push_cells cells frame) others next) (λ cells. on ahead others state (push_cells cells frame) refl)
  get_static_lowers kind.Two at = used (cells_at state.cell_statics at 2) (λ cells. goes_on state (push_cells cells frame) others next) (λ cells. on ahead others state (push_cells cells frame) refl)

  pub put_cells : (count at : ℕ) → Lower (take_cells count frame (λ cells rest. using (with_cells_at state.cell_statics at cells) (λ (statics : List ℕ). goes_on (record state { cell_statics = statics }) rest others next)))
  put_cells count at =
      let rest = with_cells frame (drop count frame.cells.operands) in
      taken_cells count frame (λ cells rest. using (with_cells_at state.cell_statics at cells) (λ (statics : List ℕ). goes_on (record state { cell_statics = statics }) rest others next))
      (used (with_cells_at state.cell_statics at (reverse (take count frame.cells.operands))) (λ (statics : List ℕ). goes_on (record state { cell_statics = statics }) rest others next)
      (λ statics. on ahead others (record state { cell_statics = statics }) rest refl))

  pub put_static_lowers : (k : Kind) (at : ℕ) → Lower (put_static state frame others next k at)
  put_static_lowers kind.Ref at =
      taken_ref frame (λ reference rest. using (with_ref_at state.ref_statics at reference) (λ (statics : List Reference). goes_on (record state { ref_statics = statics }) rest others next))
      (λ reference rest.
      used (with_ref_at state.ref_statics at reference) (λ (statics : List Reference). goes_on (record state { ref_statics = statics }) (with_refs frame rest) others next)
      (λ statics. on ahead others (record state { ref_statics = statics }) (with_refs frame rest) refl))
  put_static_lowers kind.One at = put_cells 1 at
  put_static_lowers kind.Two at = put_cells 2 at
