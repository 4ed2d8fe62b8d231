-- The split machine follows the typed one where a static method is called that is a native: write, print and read.
use Rattle.std.proofs.Common.{◌≡◌, ℕ, ℤ, false, List, [], ◌∷◌, map, Option, Some, None, refl, sym, ap, subst, ◌∙◌}
use Rattle.std.specs.Fmt.{signed_decimal}
use Rattle.std.specs.Option.{option_map_or}
use Rattle.cell_num.specs.Cells.{low_cell, high_cell}
use Rattle.dialogue.specs.Natives.{low_byte, next_byte, after_byte}
use Rattle.account.specs.Account.{Get, Put, Does, tick_need}
use Rattle.library.specs.declared.natives.Native.{Native}
use Rattle.library.specs.declared.natives.Native.TheVariants as native
use Rattle.class_pool.specs.declared.descriptor.Kind.{Kind as DeclaredKind}
use Rattle.class_pool.specs.declared.descriptor.Kind.TheVariants as declared
use Rattle.image_instr.specs.declared.insn.Width.TheVariants as width
use Rattle.body_form.specs.declared.op.MethodUse.{MethodUse}
use Rattle.body_form.specs.declared.op.Op.TheVariants as op
use Rattle.jvm_model.specs.ImageExpansion.{read_as, top_of}
use Rattle.jvm_model.specs.State.{Value, Whole}
use Rattle.jvm_model.specs.WidthsShapes.{shapes_at, point_at}
use Rattle.mote_model.specs.SplitMoves as split_moves
use Rattle.mote_model.specs.SplitMoves.{with_cells, push_number}
use Rattle.mote_model.specs.SplitState as split
use Rattle.mote_model.specs.SplitStep as split_step
use Rattle.typed_machine.specs.TypedCalls.{shows}
use Rattle.typed_machine.specs.TypedMoves.{does_next}
use Rattle.typed_machine.specs.TypedState.{State, with_answers}
use Rattle.typed_machine.specs.TypedStep.{move}
use Rattle.typed_machine.specs.TypedWorld.{native_of, pc_after}
use Rattle.type_safety.specs.Facts.{RunsNative, params_of, result_of, is_construct}
use Rattle.type_safety.specs.Safety.{MoveFits}
use Rattle.match_states.specs.Setting.{Setting, table_for, widths_for}
use Rattle.match_code.proofs.CodeLayout.{same_after}
use Rattle.follow_numbers.specs.WideCode.{IsWideCode, StandsAt, value_cells}
use Rattle.follow_numbers.proofs.NextMoves.{AreMatched}
use Rattle.follow_numbers.proofs.NextStates.{body_at, is_unstuck, refs_at, cells_at}
use Rattle.follow_numbers.proofs.TakenNumbers.{AsksOne, take_int, one_number, refs_of, cells_of, ints_of}
use Rattle.follow_calls.proofs.CallResults.{result_read}
use Rattle.follow_calls.proofs.NativeMoves.{next, typed_native, offset_behind, split_native, goes_behind}
use Rattle.follow_calls.proofs.LoudMoves.{led_there, loud_shapes, goes_loudly}

-- ---- write and print

module _ {setting : Setting} {state : State} {other : split.State} {used : MethodUse} (code : IsWideCode setting) (here : StandsAt setting state other (op.CallStatic used)) (found : Native) (is : native_of used.method ≡ Some found)
    (params : used.descriptor.params ≡ params_of found) (read : result_read setting (body_at here) here.frame.pc used ≡ []) where
  abbrev following : Option ℕ
  following = next code here found is

  abbrev offset : ℕ
  offset = offset_behind code here found is params read

  asks_shown : (bytes : ℤ → List ℕ) → AsksOne (shows state here.frame here.frames following bytes)
  asks_shown bytes = record { empty = refl; null = λ below. refl; name = λ name below. refl }

  shown_follows : (bytes : ℤ → List ℕ) → move setting.world state ≡ shows state here.frame here.frames following bytes here.frame.operands
      → split_step.move setting.image other ≡ split_step.shows other here.split here.others offset bytes → AreMatched setting state other
  shown_follows bytes typed_shows split_shows =
      let does = shows state here.frame here.frames following bytes in
      let one = one_number code here does (asks_shown bytes) here.frame.operands typed_shows in
      let operands = Whole one.number ∷ one.below in
      let events = map Put (bytes one.number) in
      let typed = typed_shows ∙ ap does one.are in
      let there = led_there code here tick_need events state following one.below (subst (MoveFits setting.world setting.tables) typed (is_unstuck here code)) in
      let last = split_moves.at_pc (with_cells here.split (value_cells one.below)) offset in
      goes_loudly code here tick_need events state.answers there.0 one.below (typed ∙ ap (λ to. does_next tick_need events state here.frame here.frames to one.below) there.1) last
      (record { method = refl; ref_locals = refl; cell_locals = refl; refs = refs_of code here operands one.are; cells = refl }) (goes_behind code here found is params read there.0 there.1 last refl refl) other.answers here.match.answers
      (split_shows
      ∙ take_int here.split one.number (value_cells one.below) (ints_of code here operands one.are).0 (cells_of code here operands one.are)
      (λ number rest. Does tick_need (map Put (bytes number)) (split.with_frames other (split_moves.at_pc rest offset ∷ here.others))))

-- ---- read

module _ {setting : Setting} {state : State} {other : split.State} {used : MethodUse} (code : IsWideCode setting) (here : StandsAt setting state other (op.CallStatic used)) (is : native_of used.method ≡ Some native.Read)
    (params : used.descriptor.params ≡ []) (result : used.descriptor.result ≡ Some declared.Int) where
  abbrev values : List Value
  values = Whole (next_byte state.answers) ∷ here.frame.operands

  abbrev next_answers : State
  next_answers = with_answers state (after_byte state.answers)

  typed_read : move setting.world state ≡ does_next tick_need (Get ∷ []) next_answers here.frame here.frames (pc_after (body_at here).ops here.frame.pc) values
  typed_read = typed_native code here native.Read is

  there : (to : ℕ) × (pc_after (body_at here).ops here.frame.pc ≡ Some to)
  there = led_there code here tick_need (Get ∷ []) next_answers (pc_after (body_at here).ops here.frame.pc) values (subst (MoveFits setting.world setting.tables) typed_read (is_unstuck here code))

  typed_goes : move setting.world state ≡ does_next tick_need (Get ∷ []) next_answers here.frame here.frames (Some there.0) values
  typed_goes = typed_read ∙ ap (λ to. does_next tick_need (Get ∷ []) next_answers here.frame here.frames to values) there.1

  -- the result has two cells, and is read as it is
  read_plainly : result_read setting (body_at here) here.frame.pc used ≡ []
  read_plainly =
      let body = body_at here in
      let shapes = shapes_at (widths_for setting body) (table_for setting body) in
      let after = loud_shapes code here tick_need (Get ∷ []) (after_byte state.answers) there.0 values typed_goes in
      ap (λ (kept : Option DeclaredKind). option_map_or (λ result. read_as result (top_of (point_at body.ops (widths_for setting body) (table_for setting body) here.frame.pc).after)) kept []) result
      ∙ ap (λ (to : Option ℕ). read_as declared.Int (top_of (option_map_or shapes to []))) (sym (same_after body.ops here.frame.pc) ∙ there.1)
      ∙ ap (read_as declared.Int) (after.top (next_byte state.answers) here.frame.operands refl)

  read_follows : AreMatched setting state other
  read_follows =
      let number = next_byte other.answers in
      let last = split_moves.at_pc (push_number width.Two number here.split) (offset_behind code here native.Read is params read_plainly) in
      goes_loudly code here tick_need (Get ∷ []) (after_byte state.answers) there.0 values typed_goes last
      (record {
        method = refl;
        ref_locals = refl;
        cell_locals = refl;
        refs = refs_at here code;
        cells = ap (λ (n : ℤ). high_cell n ∷ low_cell n ∷ here.split.cells.operands) (ap next_byte here.match.answers) ∙ ap (λ (cells : List ℕ). high_cell (next_byte state.answers) ∷ low_cell (next_byte state.answers) ∷ cells) (cells_at here code);
      })
      (goes_behind code here native.Read is params read_plainly there.0 there.1 last refl refl) (after_byte other.answers) (ap after_byte here.match.answers)
      (split_native code here native.Read is params read_plainly)

-- ---- all of them

module _ {setting : Setting} {state : State} {other : split.State} {used : MethodUse} (code : IsWideCode setting) (here : StandsAt setting state other (op.CallStatic used)) where
  no_result : used.descriptor.result ≡ None → result_read setting (body_at here) here.frame.pc used ≡ []
  no_result none = ap (λ (kept : Option DeclaredKind). option_map_or (λ result. read_as result (top_of (point_at (body_at here).ops (widths_for setting (body_at here)) (table_for setting (body_at here)) here.frame.pc).after)) kept []) none

  by_native : (found : Native) → native_of used.method ≡ Some found → used.descriptor.params ≡ params_of found → used.descriptor.result ≡ result_of found → false ≡ is_construct found → AreMatched setting state other
  by_native native.Construct is params result object = absurd cc
  by_native native.Write is params result object =
      shown_follows code here native.Write is params (no_result result) (λ number. low_byte number ∷ []) (typed_native code here native.Write is) (split_native code here native.Write is params (no_result result))
  by_native native.Print is params result object =
      shown_follows code here native.Print is params (no_result result) signed_decimal (typed_native code here native.Print is) (split_native code here native.Print is params (no_result result))
  by_native native.Read is params result object = read_follows code here is params result

  pub native_static_follows : RunsNative setting.world used.method used false → AreMatched setting state other
  native_static_follows run = by_native run.found run.is run.params run.result run.object
