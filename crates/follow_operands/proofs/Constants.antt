-- The split machine follows the typed one at nop, and at constants.
use Rattle.std.proofs.Common.{◌≡◌, ℕ, ℤ, pos, negsuc, Bool, true, false, if◌then◌else◌, List, [], ◌∷◌, Option, None, refl, sym, ap, subst, ◌∙◌}
use Rattle.std.specs.Option.{option_map_or}
use Rattle.account.specs.Account.{no_need}
use Rattle.cell_num.specs.Cells.{low_cell, high_cell}
use Rattle.image_form.specs.declared.record.Image.{Image}
use Rattle.image_instr.specs.declared.insn.Kind.{Kind}
use Rattle.image_instr.specs.declared.insn.MInsn.{MInsn}
use Rattle.image_instr.specs.declared.insn.MInsn.TheVariants as insns
use Rattle.image_instr.specs.declared.insn.Width.TheVariants as width
use Rattle.body_form.specs.declared.op.Literal.{Literal}
use Rattle.body_form.specs.declared.op.Literal.TheVariants as literal
use Rattle.body_form.specs.declared.op.Op.TheVariants as op
use Rattle.jvm_model.specs.ImageExpansion.{alone, is_between, int_constant, wide_constant, top_of}
use Rattle.jvm_model.specs.State.{Whole, Null}
use Rattle.jvm_model.specs.WidthsShapes.{shapes_at}
use Rattle.mote_model.specs.State.{Frame as SplitFrame}
use Rattle.mote_model.specs.SplitMoves as split_moves
use Rattle.mote_model.specs.SplitMoves.{push_number, push_ref}
use Rattle.mote_model.specs.SplitState as split
use Rattle.mote_model.specs.SplitStep as split_step
use Rattle.typed_machine.specs.TypedMoves.{goes_on}
use Rattle.typed_machine.specs.TypedState.{State}
use Rattle.typed_machine.specs.TypedWorld.{pc_after}
use Rattle.type_safety.specs.Safety.{MoveFits}
use Rattle.match_states.specs.Setting.{Setting, table_for, widths_for}
use Rattle.match_code.specs.Standing.{emitted_at}
use Rattle.match_code.proofs.CodeLayout.{same_after}
use Rattle.match_code.proofs.QuietRuns.{OverNone}
use Rattle.follow_numbers.specs.WideCode.{IsWideCode, StandsAt}
use Rattle.follow_numbers.proofs.NextStates.{body_at, typed_move, is_unstuck, refs_at, cells_at, next_shapes}
use Rattle.follow_numbers.proofs.NextMoves.{AreMatched, next_there, next_offset, both_go_on}
use Rattle.follow_operands.proofs.MovedFrames.{all_quiet, locals_kept}

-- ---- the number of a constant in two cells, by whichever instruction

module _ (image : Image) (state : split.State) (frame : SplitFrame) (others : List SplitFrame) (next : ℕ) (number : ℤ) where
  Pushes : MInsn → Type 0
  Pushes insn = split_step.move_of image state frame others next insn [] ≡ split_moves.goes_on state (push_number width.Two number frame) others next

  one_pushes : (small mid : Bool) → Pushes (if small then insns.Small2 number else (if mid then insns.Mid2 number else insns.Const2 number))
  unfolding Pushes
  one_pushes true mid = refl
  one_pushes false true = refl
  one_pushes false false = refl

  pub wide_pushes : split_step.move_of image state frame others next (wide_constant number) [] ≡ split_moves.goes_on state (push_number width.Two number frame) others next
  unfolding Pushes
  wide_pushes = one_pushes (is_between (negsuc 127) (pos 127) number) (is_between (negsuc 32767) (pos 32767) number)

module _ {setting : Setting} {state : State} {other : split.State} (code : IsWideCode setting) where
  pub nop_follows : StandsAt setting state other op.Nop → AreMatched setting state other
  nop_follows here =
      all_quiet code here here.frame.locals here.frame.operands (typed_move here) [] refl here.split (OverNone here.split)
      (record { method = refl; locals = locals_kept code here here.split refl refl; refs = refs_at here code; cells = cells_at here code })

  null_follows : StandsAt setting state other (op.Const literal.Null) → AreMatched setting state other
  null_follows here =
      both_go_on code here insns.Null [] refl (Null ∷ here.frame.operands) (push_ref None here.split)
      (record { method = refl; ref_locals = refl; cell_locals = refl; refs = ap (λ refs. None ∷ refs) (refs_at here code); cells = cells_at here code })
      (typed_move here) refl

  int_follows : (number : ℤ) → StandsAt setting state other (op.Const (literal.Int number)) → AreMatched setting state other
  int_follows number here =
      let body = body_at here in
      let pc = here.frame.pc in
      let values = Whole number ∷ here.frame.operands in
      let shapes = shapes_at (widths_for setting body) (table_for setting body) in
      let typed = typed_move here in
      let next = next_there code here (pc_after body.ops pc) values (subst (MoveFits setting.world setting.tables) typed (is_unstuck here code)) in
      let goes = typed ∙ ap (λ to. goes_on state here.frame here.frames to values) next.1 in
      let emitted : emitted_at setting body pc (op.Const (literal.Int number)) ≡ alone (wide_constant number) =
      ap (λ (to : Option ℕ). alone (int_constant number (top_of (option_map_or shapes to [])))) (sym (same_after body.ops pc) ∙ next.1)
      ∙ ap (λ (shape : Kind). alone (int_constant number shape)) ((next_shapes here code no_need next.0 values goes).top number here.frame.operands refl) in
      both_go_on code here (wide_constant number) [] emitted values (push_number width.Two number here.split)
      (record { method = refl; ref_locals = refl; cell_locals = refl; refs = refs_at here code; cells = ap (λ cells. high_cell number ∷ low_cell number ∷ cells) (cells_at here code) })
      typed (wide_pushes setting.image other here.split here.others (next_offset code here (wide_constant number) [] emitted) number)

  pub const_follows : (constant : Literal) → StandsAt setting state other (op.Const constant) → AreMatched setting state other
  const_follows literal.Null here = null_follows here
  const_follows (literal.Int number) here = int_follows number here
