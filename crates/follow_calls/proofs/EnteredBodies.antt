-- A method with a body starts on the split machine: its frame takes the arguments, extends its parameters, and matches.
use Rattle.std.proofs.Common.{◌≡◌, ℕ, ℤ, ◌+◌, ◌-◌, Bool, true, false, nat_le, if◌then◌else◌, List, [], ◌∷◌, ◌++◌, filter, reverse, length, replicate, drop, Some, None, refl, sym, ap, subst, ◌∙◌, arith}
use Rattle.std.specs.List.{flat_map, sum_by}
use Rattle.std.proofs.lemmas.List.Sums.{sum_by-cons}
use Rattle.class_pool.specs.declared.descriptor.Kind.{Kind}
use Rattle.class_pool.specs.declared.types.MemberId.{MemberId}
use Rattle.image_form.specs.declared.record.Method.{Method}
use Rattle.image_instr.specs.declared.insn.Width.{Width}
use Rattle.image_instr.specs.declared.insn.Width.TheVariants as width
use Rattle.body_form.specs.declared.body.Body.{Body}
use Rattle.jvm_model.specs.declared.plan.Plan.{Plan}
use Rattle.jvm_model.specs.ImageEmission.{method_of}
use Rattle.jvm_model.specs.ImageExpansion.{Emitted}
use Rattle.jvm_model.specs.Initialisers.{is_reference_kind}
use Rattle.jvm_model.specs.State.{Value}
use Rattle.jvm_model.specs.WidthsFrame.{fill_insns}
use Rattle.jvm_model.specs.WidthsShapes.{Widths, shapes_at}
use Rattle.jvm_model.specs.WidthsSlots.{room_cells, passed_cells, passed, slot_count, fills_of}
use Rattle.mote_model.specs.State.{Frame as SplitFrame}
use Rattle.mote_model.specs.SplitMoves.{cells_of, count_of, cells_at}
use Rattle.mote_model.specs.SplitState as split
use Rattle.mote_model.specs.SplitState.{method_at, frame_cells}
use Rattle.mote_model.specs.SplitStep as split_step
use Rattle.mote_model.specs.SplitStep.{first_locals, has_arguments}
use Rattle.typed_machine.specs.TypedWorld.{body_among}
use Rattle.match_states.specs.MatchedFrames.{LocalsMatch, YoungestMatches}
use Rattle.match_states.specs.Setting.{Setting, IsCompiled, IsCompiledBody, IsWide, table_for, source_for, widths_for, id_for}
use Rattle.match_code.specs.Standing.{AreInsns, fills_for}
use Rattle.match_code.proofs.CodeMoves.{compiled_body}
use Rattle.match_code.proofs.MatchedCode.{IsFound, found_body}
use Rattle.match_code.proofs.QuietEntry.{Entered, enters}
use Rattle.match_code.proofs.QuietRuns.{GoesOverAll}
use Rattle.follow_numbers.specs.WideCode.{value_refs, value_cells}
use Rattle.follow_numbers.proofs.WideOperands.{AreShaped}
use Rattle.follow_operands.proofs.WideLocals.{two_cells_wide}
use Rattle.follow_calls.proofs.CalledLocals.{TakesArguments, receiver_kind, called_frame}
use Rattle.follow_calls.proofs.CalledCells.{cells_passed, passed_all, fills_go}
use Rattle.follow_calls.proofs.CalledNumbers.{numbers_hold}
use Rattle.follow_calls.proofs.CalledReferences.{slots_hold, object_slot}
use Rattle.follow_calls.proofs.FilledLocals.{Fills}
use Rattle.follow_calls.proofs.PairedArguments.{values_of, refs_count, cells_count}
use Rattle.follow_calls.proofs.ParameterKinds.{Argument}
use Rattle.follow_calls.proofs.PassedCells.{argument_cells}
use Rattle.follow_calls.proofs.TakenOperands.{enough_operands, first_taken, rest_left}

-- ---- signatures

refs_in_order : (instance_method : Bool) (params : List Kind) → (if instance_method then 1 else 0) + length (filter is_reference_kind params) ≡ length (filter is_reference_kind (if instance_method then receiver_kind ∷ params else params))
refs_in_order true params = omega arith
refs_in_order false params = omega arith

cells_in_order : (instance_method : Bool) (params : List Kind) → sum_by passed_cells params ≡ sum_by passed_cells (if instance_method then receiver_kind ∷ params else params)
cells_in_order true params = let first = sum_by-cons passed_cells receiver_kind params in omega (arith, first)
cells_in_order false params = refl

module _ (setting : Setting) (compiled : IsCompiled setting) (method : MemberId) (body : Body) (found : body_among setting.world.bodies method ≡ Some body) (arguments : List Argument) (takes : TakesArguments body arguments) where
  pub found_callee : IsFound setting.world.bodies method body
  found_callee = found_body setting.world.bodies method body found

  compiled_callee : IsCompiledBody setting body
  compiled_callee = compiled_body setting compiled body found_callee.of_set

  abbrev pub method_called : Method
  method_called = method_of (source_for setting body)

  pub method_there : method_at setting.image (id_for setting method) ≡ Some method_called
  method_there = ap (λ (id : MemberId). method_at setting.image (id_for setting id)) (sym found_callee.method) ∙ compiled_callee.method

  pub cells_same : setting.world.frame_cells method ≡ frame_cells method_called
  cells_same = ap setting.world.frame_cells (sym found_callee.method) ∙ compiled_callee.cells

  refs_taken : method_called.sig.refs ≡ length (value_refs (values_of arguments))
  refs_taken = refs_in_order body.instance body.params ∙ ap (λ (kinds : List Kind). length (filter is_reference_kind kinds)) (sym takes.kinds) ∙ sym (refs_count arguments takes.all)

  cells_taken : method_called.sig.cells ≡ length (argument_cells arguments)
  cells_taken = cells_in_order body.instance body.params ∙ ap (sum_by passed_cells) (sym takes.kinds) ∙ sym (cells_count arguments takes.all)

  module _ (caller : SplitFrame) (rest : List Value) (refs : caller.refs.operands ≡ reverse (value_refs (values_of arguments)) ++ value_refs rest)
      (cells : caller.cells.operands ≡ reverse (argument_cells arguments) ++ value_cells rest) where
    abbrev pub entry : SplitFrame
    entry = split_step.frame_for (id_for setting method) method_called caller

    pub arguments_there : has_arguments method_called.sig caller ≡ true
    arguments_there =
        ap (λ (b : Bool). if b then nat_le method_called.sig.cells (length caller.cells.operands) else false) (enough_operands (value_refs (values_of arguments)) (value_refs rest) caller.refs.operands refs method_called.sig.refs refs_taken)
        ∙ enough_operands (argument_cells arguments) (value_cells rest) caller.cells.operands cells method_called.sig.cells cells_taken

    pub refs_left : drop method_called.sig.refs caller.refs.operands ≡ value_refs rest
    refs_left = rest_left (value_refs (values_of arguments)) (value_refs rest) caller.refs.operands refs method_called.sig.refs refs_taken

    pub cells_left : drop method_called.sig.cells caller.cells.operands ≡ value_cells rest
    cells_left = rest_left (argument_cells arguments) (value_cells rest) caller.cells.operands cells method_called.sig.cells cells_taken

    -- ---- the new frame

    module _ (wide : IsWide setting body) where
      abbrev pub widths : Widths
      widths = widths_for setting body

      pub two : (local : ℕ) → widths.local local ≡ width.Two
      two local = two_cells_wide setting body wide local

      entry_refs : entry.refs.locals ≡ value_refs (values_of arguments) ++ replicate (slot_count body - length (value_refs (values_of arguments))) None
      entry_refs =
          first_taken (value_refs (values_of arguments)) (value_refs rest) caller.refs.operands refs method_called.sig.refs refs_taken method_called.ref_locals None
          ∙ ap (λ (plan : Plan). value_refs (values_of arguments) ++ replicate (plan.ref_locals - length (value_refs (values_of arguments))) None) compiled_callee.plan

      pub entry_cells : entry.cells.locals ≡ cells_passed body arguments takes widths two
      entry_cells =
          first_taken (argument_cells arguments) (value_cells rest) caller.cells.operands cells method_called.sig.cells cells_taken method_called.cell_locals 0
          ∙ ap (λ (plan : Plan). argument_cells arguments ++ replicate (plan.cell_locals - length (argument_cells arguments)) 0) compiled_callee.plan

      module _ (all : AreInsns setting body) (state : split.State) (others : List SplitFrame) where
        abbrev pub filled : Fills setting.image state others (room_cells (passed body)) entry (fills_of body widths)
        filled = fills_go body arguments takes widths two setting.image state others entry entry_cells

        abbrev pub behind_fills : SplitFrame
        behind_fills = filled.last

        pub entered : Entered setting body state others entry behind_fills
        entered =
            let over : GoesOverAll setting.image state others entry (fills_for setting body) behind_fills =
            subst (λ (l : List Emitted). GoesOverAll setting.image state others entry l behind_fills) (ap (λ (plan : Plan). flat_map fill_insns plan.fills) (sym compiled_callee.plan)) filled.over in
            enters setting body compiled all state others entry behind_fills found_callee.of_set (ap (id_for setting) (sym found_callee.method)) refl over

        abbrev HoldsIn : ℕ → ℤ → Width → Type 0
        HoldsIn cell number of = cells_at behind_fills.cells.locals cell (count_of of) ≡ Some (cells_of of number)

        locals_entered : LocalsMatch setting body (called_frame body arguments takes method) behind_fills.refs.locals behind_fills.cells.locals
        locals_entered =
            record {
              refs_are = ap (λ refs. refs.locals) entered.refs ∙ entry_refs ∙ slots_hold body arguments takes method;
              slotted = object_slot body arguments takes method;
              count = filled.count ∙ ap (λ (l : List ℕ). length l) entry_cells ∙ passed_all body arguments takes widths two;
              numbers =
                  λ local number is.
                  let held = numbers_hold body arguments takes widths two setting.image state others entry entry_cells method local number is in
                  record { cell = held.cell; has = held.cell_is; holds = subst (HoldsIn held.cell number) (sym (two local)) held.holds };
            }

        -- it matches at the first instruction
        pub youngest_entered : AreShaped (shapes_at widths (table_for setting body) 0) [] → YoungestMatches setting (called_frame body arguments takes method) behind_fills
        youngest_entered shapes =
            let locals = locals_entered in
            record {
              body = body;
              found = found;
              method = entered.method ∙ ap (id_for setting) found_callee.method;
              pc = entered.pc_is;
              locals = record { refs_are = locals.refs_are; slotted = locals.slotted; count = locals.count; numbers = locals.numbers };
              operands = record {
                shaped = shapes.shaped;
                refs_are = ap (λ refs. refs.operands) entered.refs ∙ sym shapes.refs;
                cells_are = filled.operands ∙ sym shapes.cells;
              };
            }
