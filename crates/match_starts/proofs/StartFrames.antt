-- The frames in which main starts match: no local is set, nothing extends parameters, and there are no operands.
use Rattle.std.proofs.Common.{◌≡◌, ℕ, zero, suc, ◌-◌, Bool, true, false, ◌&&◌, cond, nat_lt, List, [], ◌∷◌, map, filter, length, replicate, slice_get, Option, Some, None, option_and_then, if◌then◌else◌, refl, sym, ap, subst, ◌∙◌}
use Rattle.std.specs.List.{flat_map}
use Rattle.std.specs.Option.{option_map_or}
use Rattle.std.proofs.lemmas.List.{length-replicate}
use Rattle.std.proofs.lemmas.List.Elements.{All-from_recursion, All-contains}
use Rattle.class_pool.specs.declared.types.MemberId.{MemberId}
use Rattle.image_form.specs.declared.record.Method.{Method}
use Rattle.image_instr.specs.declared.insn.Kind.{Kind}
use Rattle.body_form.specs.declared.body.Body.{Body}
use Rattle.body_form.specs.declared.types.VFrame.{VFrame}
use Rattle.jvm_model.specs.declared.plan.Fill.{Fill}
use Rattle.jvm_model.specs.declared.plan.Plan.{Plan}
use Rattle.jvm_model.specs.Bodies.{AreEach}
use Rattle.jvm_model.specs.ImageEmission.{offset_of, method_of}
use Rattle.jvm_model.specs.ImageExpansion.{bytes_of}
use Rattle.jvm_model.specs.ImageNumbering.{Numbering, method_id}
use Rattle.jvm_model.specs.State.{Value, Name, Whole}
use Rattle.jvm_model.specs.WidthsFrame.{fill_insns}
use Rattle.jvm_model.specs.WidthsShapes.{Widths, shapes_of, shapes_at}
use Rattle.jvm_model.specs.WidthsSlots.{first_parameter, parameter_at, is_small, is_two, is_extended, locals_of, fills_of, reference_locals}
use Rattle.image_form.specs.declared.record.Image.{Image}
use Rattle.mote_model.specs.SplitRun.{first_frame}
use Rattle.mote_model.specs.State.{Reference}
use Rattle.typed_machine.specs.TypedCalls.{frame_for}
use Rattle.typed_machine.specs.TypedState.{Frame}
use Rattle.typed_machine.specs.TypedStep.{local_at}
use Rattle.type_safety.specs.Fitting.{ValueFits}
use Rattle.type_safety.specs.Safety as safety
use Rattle.type_safety.specs.Starts.{HasStart}
use Rattle.match_states.specs.MatchedFrames.{reference_of, local_reference, operand_refs, operand_cells, OperandsMatch, LocalsMatch, YoungestMatches}
use Rattle.match_states.specs.Setting.{Setting, table_for, source_for, widths_for, id_for, IsCompiledBody, IsCompiled}
use Rattle.match_code.proofs.CodeLayout.{offset_first}
use Rattle.match_code.proofs.MatchedCode.{found_body}

-- ---- lists

-- nothing is set in a list without what is set
none_set : {X : Type 0} (count at : ℕ) → option_and_then (λ (found : Option X). found) (slice_get (replicate count None) at) ≡ None
none_set zero at = refl
none_set (suc count) zero = refl
none_set (suc count) (suc at) = none_set count at

-- as many nulls as there are items that are null
all_null : {X : Type 0} (reference : X → Reference) (items : List X) → ((item : X) → reference item ≡ None) → replicate (length items) None ≡ map reference items
all_null reference [] null = refl
all_null reference (item ∷ items) null = ap (λ (first : Reference). first ∷ replicate (length items) None) (sym (null item)) ∙ ap (λ (rest : List Reference). reference item ∷ rest) (all_null reference items null)

none_passes : {X : Type 0} (test : X → Bool) (items : List X) → ((item : X) → test item ≡ false) → filter test items ≡ []
none_passes test [] fails = refl
none_passes test (item ∷ items) fails = ap (λ b. cond b (item ∷ filter test items) (filter test items)) (fails item) ∙ none_passes test items fails

none_beside : {X Y : Type 0} (Is : X → Y → Type 0) (items : List Y) → AreEach Is [] items → items ≡ []
none_beside Is [] each = refl
none_beside Is (item ∷ items) each = absurd each

-- ---- no parameters

module _ (body : Body) (params : body.params ≡ []) where
  no_parameter : (local : ℕ) → parameter_at body local ≡ None
  no_parameter local = by_place (nat_lt local (first_parameter body))
    where
      by_place : (first : Bool) → (if first then None else slice_get body.params (local - first_parameter body)) ≡ None
      by_place true = refl
      by_place false = ap (λ list. slice_get list (local - first_parameter body)) params

  no_fills : (widths : Widths) → fills_of body widths ≡ []
  no_fills widths =
      ap (map _)
      (none_passes (is_extended body widths) (locals_of body) (λ local. ap (λ found. option_map_or is_small found false && is_two (widths.local local)) (no_parameter local)))

-- ---- main

module _ (setting : Setting) (compiled : IsCompiled setting) (start : HasStart setting.world setting.tables) where
  abbrev main : MemberId
  main = setting.world.main

  -- the method that main's body is in the image
  abbrev pub main_method : Method
  main_method = method_of (source_for setting start.main)

  pub main_body : IsCompiledBody setting start.main × (safety.method_of start.main ≡ main)
  main_body =
      let found = found_body setting.world.bodies main start.main start.found in
      (All-contains (IsCompiledBody setting) setting.world.bodies start.main (All-from_recursion (IsCompiledBody setting) setting.world.bodies compiled.bodies) found.of_set, found.method)

  -- main's id in the image
  pub main_id : setting.image.main ≡ id_for setting main
  main_id =
      ap (λ (image : Image). image.main) compiled.image ∙ ap (λ (numbering : Numbering). numbering.main) compiled.numbering
      ∙ ap (λ (numbering : Numbering). method_id numbering.methods main) (sym compiled.numbering)

  abbrev frame : Frame
  frame = frame_for main start.main []

  not_set : (local : ℕ) → local_at frame local ≡ None
  not_set local = none_set (start.main.max_locals - 0) local

  -- main starts behind what extends its parameters, of which it has none
  starts_first : 0 ≡ offset_of (source_for setting start.main) 0
  starts_first =
      let source = source_for setting start.main in
      let fills = ap (λ (plan : Plan). plan.fills) main_body.0.plan ∙ no_fills start.main start.params (widths_for setting start.main) in
      sym (offset_first source ∙ ap (λ (fills : List Fill). length (bytes_of (flat_map fill_insns fills))) fills)

  locals_match : LocalsMatch setting start.main frame (replicate main_method.ref_locals None) (replicate main_method.cell_locals 0)
  locals_match =
      let slots = ap (λ (plan : Plan). plan.ref_locals) main_body.0.plan in
      let cells = ap (λ (plan : Plan). plan.cell_locals) main_body.0.plan in
      record {
        refs_are =
            ap (λ (count : ℕ). replicate count None) slots
            ∙ all_null (local_reference frame) (reference_locals start.main) (λ local. ap (λ (found : Option Value). option_map_or reference_of found None) (not_set local));
        slotted = λ local name is. absurd (let bad : None ≡ Some (Name name) = sym (not_set local) ∙ is in cc);
        count = length-replicate main_method.cell_locals 0 ∙ cells;
        numbers = λ local number is. absurd (let bad : None ≡ Some (Whole number) = sym (not_set local) ∙ is in cc);
      }

  -- nothing is on the stack where main starts
  no_operands : shapes_at (widths_for setting start.main) (table_for setting start.main) 0 ≡ []
  unfolding shapes_of
  no_operands =
      let young = (start.fits []).frames.0 in
      let widths = widths_for setting start.main in
      let stack = none_beside (ValueFits setting.world [] young.body) young.types.stack young.has.operands in
      ap (λ (method : MemberId). shapes_at widths (setting.tables method) 0) main_body.1
      ∙ ap (λ (found : Option VFrame). option_map_or (λ (types : VFrame). shapes_of (widths.operand 0) types.stack) found []) young.known
      ∙ ap (shapes_of (widths.operand 0)) stack

  none_match : OperandsMatch [] [] [] []
  unfolding operand_refs operand_cells
  none_match = record { shaped = tt; refs_are = refl; cells_are = refl }

  pub frames_start : YoungestMatches setting frame (first_frame setting.image.main main_method)
  frames_start =
      record {
        body = start.main;
        found = start.found;
        method = main_id;
        pc = starts_first;
        locals = locals_match;
        operands = subst (λ (shapes : List Kind). OperandsMatch shapes [] [] []) (sym no_operands) none_match;
      }
