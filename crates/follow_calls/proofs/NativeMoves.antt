-- The moves of both machines where a static method is called that is a native: they run it.
use Rattle.std.proofs.Common.{◌≡◌, ℕ, Bool, true, false, nat_lt, if◌then◌else◌, List, [], ◌∷◌, ◌++◌, reverse, drop, length, Option, Some, refl, sym, ap, ◌∙◌}
use Rattle.std.specs.Option.{option_map_or}
use Rattle.account.specs.Account.{Stuck}
use Rattle.library.specs.declared.natives.Native.{Native}
use Rattle.library.specs.declared.natives.Native.TheVariants as native
use Rattle.library.specs.Classes.{first_own}
use Rattle.library.specs.Natives as library
use Rattle.library.specs.Natives.{number_of}
use Rattle.class_pool.specs.declared.descriptor.Kind.{Kind as DeclaredKind}
use Rattle.image_instr.specs.declared.insn.Kind.{Kind}
use Rattle.image_instr.specs.declared.insn.MInsn.TheVariants as insns
use Rattle.body_form.specs.declared.op.MethodUse.{MethodUse}
use Rattle.body_form.specs.declared.op.Op.TheVariants as op
use Rattle.jvm_model.specs.ImageEmission.{offset_of}
use Rattle.jvm_model.specs.ImageExpansion.{Emitted, alone, cut_arguments}
use Rattle.jvm_model.specs.ImageNumbering.{method_id, number_from, is_member}
use Rattle.jvm_model.specs.WidthsShapes.{shapes_at}
use Rattle.mote_model.specs.State.{Frame as SplitFrame}
use Rattle.mote_model.specs.SplitState as split
use Rattle.mote_model.specs.SplitStep as split_step
use Rattle.typed_machine.specs.TypedCalls.{runs_native, runs, runs_code, arguments_of, argument_count}
use Rattle.typed_machine.specs.TypedMoves.{TypedMove}
use Rattle.typed_machine.specs.TypedState.{State}
use Rattle.typed_machine.specs.TypedStep.{move}
use Rattle.typed_machine.specs.TypedWorld.{native_of, body_among, pc_after}
use Rattle.type_safety.specs.Facts.{params_of}
use Rattle.match_states.specs.Setting.{Setting, table_for, source_for, widths_for}
use Rattle.match_code.specs.Standing.{emitted_at}
use Rattle.match_code.proofs.CodeLayout.{same_after}
use Rattle.match_code.proofs.CodeMoves.{goes_past}
use Rattle.follow_numbers.specs.WideCode.{IsWideCode, StandsAt}
use Rattle.follow_numbers.proofs.NextMoves.{alone_move, stands_alone, next_offset}
use Rattle.follow_numbers.proofs.NextStates.{body_at, typed_move}
use Rattle.follow_operands.proofs.LocalRules.{cannot_be_stuck}
use Rattle.follow_calls.proofs.CallResults.{result_read}

-- ---- what a call of a native is expanded to

-- the arguments of a native are not cut
cuts_none : (found : Native) (shapes : List Kind) → cut_arguments 0 (reverse (params_of found)) shapes ≡ []
unfolding cut_arguments
cuts_none native.Construct shapes = refl
cuts_none native.Write [] = refl
cuts_none native.Write (shape ∷ shapes) = refl
cuts_none native.Print [] = refl
cuts_none native.Print (shape ∷ shapes) = refl
cuts_none native.Read shapes = refl

-- a native is found by its number
by_number : (found : Native) → library.native_of (number_of found) ≡ Some found
by_number native.Construct = refl
by_number native.Write = refl
by_number native.Read = refl
by_number native.Print = refl

-- ---- a static method that is a native, on both machines

module _ {setting : Setting} {state : State} {other : split.State} {used : MethodUse} (code : IsWideCode setting) (here : StandsAt setting state other (op.CallStatic used)) (found : Native) (is : native_of used.method ≡ Some found) where
  abbrev pub next : Option ℕ
  next = pc_after (body_at here).ops here.frame.pc

  -- the call, where it has its arguments
  abbrev called : TypedMove
  called = runs setting.world state here.frame here.frames next used.method (arguments_of used here.frame.operands) (drop (argument_count used) here.frame.operands)

  -- the typed machine runs the native
  pub typed_native : move setting.world state ≡ runs_native state here.frame here.frames next found here.frame.operands
  typed_native = by_count (nat_lt (length here.frame.operands) (argument_count used)) refl
    where
      by_count : (few : Bool) → nat_lt (length here.frame.operands) (argument_count used) ≡ few → move setting.world state ≡ runs_native state here.frame here.frames next found here.frame.operands
      by_count true e = absurd (cannot_be_stuck code here (typed_move here ∙ ap (λ (few : Bool). if few then Stuck else called) e))
      by_count false e =
          typed_move here ∙ ap (λ (few : Bool). if few then Stuck else called) e
          ∙ ap (λ (o : Option Native). option_map_or (λ found. runs_native state here.frame here.frames next found here.frame.operands)
          o (runs_code setting.world state here.frame here.frames used.method (body_among setting.world.bodies used.method) (arguments_of used here.frame.operands) (drop (argument_count used) here.frame.operands))) is

  module _ (params : used.descriptor.params ≡ params_of found) (read : result_read setting (body_at here) here.frame.pc used ≡ []) where
    pub emitted_native : emitted_at setting (body_at here) here.frame.pc (op.CallStatic used) ≡ alone (insns.CallS (number_of found))
    emitted_native =
        let before = shapes_at (widths_for setting (body_at here)) (table_for setting (body_at here)) here.frame.pc in
        let methods = setting.numbering.methods in
        let result = result_read setting (body_at here) here.frame.pc used in
        ap (λ (kinds : List DeclaredKind). cut_arguments 0 (reverse kinds) before ++ (alone (insns.CallS (method_id methods used.method)) ++ result)) params
        ∙ ap (λ (cuts : List Emitted). cuts ++ (alone (insns.CallS (method_id methods used.method)) ++ result)) (cuts_none found before)
        ∙ ap (λ (rest : List Emitted). alone (insns.CallS (method_id methods used.method)) ++ rest) read
        ∙ ap (λ (o : Option Native). alone (insns.CallS (option_map_or number_of o (number_from first_own (is_member used.method) methods)))) is

    -- the offset behind the call
    abbrev pub offset_behind : ℕ
    offset_behind = next_offset code here (insns.CallS (number_of found)) [] emitted_native

    pub split_native : split_step.move setting.image other ≡ split_step.runs_native other here.split here.others offset_behind found
    split_native =
        alone_move code here (insns.CallS (number_of found)) [] emitted_native
        ∙ ap (λ (o : Option Native). option_map_or (split_step.runs_native other here.split here.others offset_behind) o (split_step.runs_code setting.image other here.split here.others (number_of found))) (by_number found)

    -- the code goes on where the next pc is
    pub goes_behind : (to : ℕ) → next ≡ Some to → (last : SplitFrame) → last.method ≡ here.split.method → last.pc ≡ offset_behind → last.pc ≡ offset_of (source_for setting (body_at here)) to
    goes_behind to is_next last method place =
        goes_past setting (body_at here) here.split here.frame.pc (op.CallStatic used) [] (insns.CallS (number_of found)) [] code.compiled (stands_alone code here (insns.CallS (number_of found)) [] emitted_native) to
        (sym (same_after (body_at here).ops here.frame.pc) ∙ is_next) last (record { method = method; pc = place })
