-- A method that returns a whole number cuts it to what its result keeps, before the return itself.
use Rattle.std.proofs.Common.{◌≡◌, ℤ, true, List, [], ◌∷◌, ◌++◌, reverse, Option, Some, refl, ap, subst, ◌∙◌}
use Rattle.account.specs.RunLaws.{Quietly}
use Rattle.class_pool.specs.declared.descriptor.Kind.{Kind as DeclaredKind}
use Rattle.class_pool.specs.declared.descriptor.Kind.TheVariants as declared
use Rattle.class_pool.specs.Descriptors.{HasDims}
use Rattle.image_form.specs.declared.record.Image.{Image}
use Rattle.image_instr.specs.declared.insn.Kind.{Kind}
use Rattle.image_instr.specs.declared.insn.Kind.TheVariants as kind
use Rattle.image_instr.specs.declared.insn.MInsn.{MInsn}
use Rattle.image_instr.specs.declared.insn.MInsn.TheVariants as insns
use Rattle.insn_form.specs.declared.ValueKind.TheVariants as value_kind
use Rattle.body_form.specs.declared.body.Body.{Body}
use Rattle.body_form.specs.declared.op.Op.TheVariants as op
use Rattle.jvm_model.specs.ImageExpansion.{Emitted, alone, kind_in, return_of, top_of, write_as}
use Rattle.jvm_model.specs.Initialisers.{is_whole_kind}
use Rattle.jvm_model.specs.InitialStatics.{narrowed}
use Rattle.jvm_model.specs.State.{Value, Whole}
use Rattle.jvm_model.specs.WidthsShapes.{shapes_at}
use Rattle.mote_model.specs.State.{Frame as SplitFrame}
use Rattle.mote_model.specs.SplitMoves.{push_cells, take_cells}
use Rattle.mote_model.specs.SplitObjects.{size_of}
use Rattle.mote_model.specs.SplitState as split
use Rattle.mote_model.specs.SplitStep as split_step
use Rattle.typed_machine.specs.TypedCalls.{returns, return_value}
use Rattle.typed_machine.specs.TypedState.{State}
use Rattle.typed_machine.specs.TypedStep.{move}
use Rattle.type_safety.proofs.fitting.Numbers.{kept_is_kept}
use Rattle.type_safety.specs.Fitting.{IsWhole}
use Rattle.match_states.specs.Setting.{Setting, table_for, widths_for}
use Rattle.match_code.specs.Standing.{emitted_at, StandsBetween}
use Rattle.match_code.proofs.CodeMoves.{insn_here, move_here}
use Rattle.match_code.proofs.QuietRuns.{at_insn, goes_behind, youngest_between}
use Rattle.follow_numbers.specs.WideCode.{IsWideCode, StandsAt, value_cells}
use Rattle.follow_numbers.proofs.NextStates.{body_at, found_at, operands_at, cells_at, typed_move, split_is}
use Rattle.follow_operands.proofs.LocalRules.{rule_here, whole_by}
use Rattle.follow_calls.proofs.KeptNumbers.{LeavesCells, cut_as, kept_cells, take_kept}
use Rattle.follow_calls.proofs.ReturnedValues.{ReturnsValue, returns_value}
use Rattle.follow_calls.proofs.WholeKinds.{whole_declared}

-- the type that a body returns has the dimensions of a descriptor
abbrev pub ResultHasDims : Body → Type 0
ResultHasDims body = (result : DeclaredKind) → body.result ≡ Some result → HasDims result

-- what is returned are the cells at the top
returns_cells : (image : Image) (state : split.State) (frame : SplitFrame) (others : List SplitFrame) (of : DeclaredKind) → is_whole_kind of ≡ true
    → split_step.return_of image state frame others (Some (kind_in of)) ≡ take_cells (size_of (kind_in of)) frame (λ cells rest. split_step.returns image state others (push_cells cells))
returns_cells image state frame others declared.Int whole = refl
returns_cells image state frame others declared.Char whole = refl
returns_cells image state frame others declared.Short whole = refl
returns_cells image state frame others declared.Byte whole = refl
returns_cells image state frame others declared.Boolean whole = refl
returns_cells image state frame others of whole = absurd cc

-- a whole number is returned by both machines, by the split one after some that are quiet
pub record ReturnsNumber {setting : Setting} {state : State} {other : split.State} (here : StandsAt setting state other (op.Return (Some value_kind.Int))) : Type 0 where
  pub result : DeclaredKind
  pub declared : (body_at here).result ≡ Some result
  pub whole : is_whole_kind result ≡ true
  -- what the result keeps of it
  pub number : ℤ
  pub kept : narrowed result number ≡ number
  pub typed : move setting.world state ≡ returns setting.world state here.frames (Whole number ∷ [])
  pub from : split.State
  pub quiet : Quietly (split_step.machine setting.image) other from
  pub loud : split_step.move setting.image from ≡ split_step.returns setting.image other here.others (push_cells (kept_cells result number))

module _ {setting : Setting} {state : State} {other : split.State} (code : IsWideCode setting) (here : StandsAt setting state other (op.Return (Some value_kind.Int)))
    (dims : ResultHasDims (body_at here)) where
  abbrev held : ReturnsValue code value_kind.Int here
  held = returns_value code value_kind.Int here

  abbrev result : DeclaredKind
  result = held.result

  is_whole : is_whole_kind result ≡ true
  is_whole = whole_declared setting.world.files result held.type (dims result held.declared) held.kind held.taken

  number_here : IsWhole held.value
  number_here = whole_by setting.world state.objects (rule_here code here).of held.type held.kind held.value held.fits

  abbrev number : ℤ
  number = number_here.0

  -- what the result keeps of it
  abbrev kept : ℤ
  kept = narrowed result number

  operands_are : here.frame.operands ≡ Whole number ∷ held.below
  operands_are = held.are ∙ ap (λ (value : Value). value ∷ held.below) number_here.1

  typed_return : move setting.world state ≡ returns setting.world state here.frames (Whole kept ∷ [])
  typed_return =
      typed_move here
      ∙ ap (λ (declared : Option DeclaredKind). return_value setting.world state here.frames declared here.frame.operands) held.declared
      ∙ ap (return_value setting.world state here.frames (Some result)) operands_are

  abbrev ret : MInsn
  ret = insns.Ret (Some (kind_in result))

  emits : emitted_at setting (body_at here) here.frame.pc (op.Return (Some value_kind.Int)) ≡ write_as result kind.Two ++ alone ret
  emits =
      let shape = top_of (shapes_at (widths_for setting (body_at here)) (table_for setting (body_at here)) here.frame.pc) in
      ap (λ (declared : Option DeclaredKind). return_of declared shape (Some value_kind.Int)) held.declared
      ∙ ap (λ (shape : Kind). write_as result shape ++ alone ret) ((operands_at here code).top number held.below operands_are)

  cut_here : LeavesCells setting.image other here.others here.split (write_as result kind.Two) (reverse (kept_cells result kept) ++ value_cells held.below)
  cut_here = cut_as setting.image other here.others here.split number number_here.2 (value_cells held.below) (cells_at here code ∙ ap value_cells operands_are) result is_whole

  pub returns_number : ReturnsNumber here
  returns_number =
      let body = body_at here in
      let pc = here.frame.pc in
      let instruction = op.Return (Some value_kind.Int) in
      let first = write_as result kind.Two in
      let all = code.insns body (found_at here).of_set in
      let stands : StandsBetween setting body here.split pc instruction [] (first ++ alone ret) =
      subst (λ (l : List Emitted). StandsBetween setting body here.split pc instruction [] l) emits (youngest_between setting here.frame here.split here.youngest instruction here.at) in
      let came = goes_behind setting body pc instruction code.compiled all other here.others here.split cut_here.last [] first (alone ret) stands cut_here.over in
      let at = at_insn setting body pc instruction cut_here.last first ret [] [] came.stands in
      let is = insn_here setting body cut_here.last pc instruction first ret [] all [] at in
      let from = split.with_frames other (cut_here.last ∷ here.others) in
      record {
        result = result;
        declared = held.declared;
        whole = is_whole;
        number = kept;
        kept = kept_is_kept result (Whole number) kept refl;
        typed = typed_return;
        from = from;
        quiet = subst (λ start. Quietly (split_step.machine setting.image) start from) (split_is here) came.quiet;
        loud =
            move_here setting body cut_here.last pc instruction first ret [] code.compiled [] at is from here.others refl
            ∙ returns_cells setting.image from cut_here.last here.others result is_whole
            ∙ take_kept cut_here.last result is_whole kept (value_cells held.below) cut_here.cells_are (λ cells rest. split_step.returns setting.image from here.others (push_cells cells));
      }
