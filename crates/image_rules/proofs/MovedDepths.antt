-- Where the rule of a built instruction holds in a frame, its machine instructions find their operands, and lead to the depth
-- of the frame after it.
use Rattle.std.proofs.Common.{◌≡◌, ℕ, ℤ, Bool, true, false, ◌&&◌, nat_lt, if◌then◌else◌, List, [], ◌∷◌, ◌++◌, reverse, map, length, drop, Option, Some, None, option_map, option_and_then, refl, sym, ap, subst, ◌∙◌, append-nil}
use Rattle.std.specs.Prelude.{slice_get}
use Rattle.std.specs.Option.{option_map_or}
use Rattle.std.proofs.lemmas.Bool.{and_parts, false≢true}
use Rattle.std.proofs.lemmas.List.{length-map, length-reverse}
use Rattle.std.proofs.lemmas.Option.{cond_some, none-some}
use Rattle.class_pool.specs.declared.descriptor.Kind.{Kind as DeclaredKind}
use Rattle.class_pool.specs.Descriptors.{HasDims}
use Rattle.class_file.specs.declared.record.ClassFile.{ClassFile}
use Rattle.insn_form.specs.declared.ValueKind.{ValueKind}
use Rattle.image_instr.specs.declared.insn.Kind.{Kind}
use Rattle.image_instr.specs.declared.insn.Width.TheVariants as width
use Rattle.image_instr.specs.declared.insn.MInsn.TheVariants as insns
use Rattle.image_form.specs.declared.record.Image.{Image}
use Rattle.image_form.specs.declared.record.Method.{Method}
use Rattle.image_check.specs.Ids.{called_by}
use Rattle.body_form.specs.declared.body.Body.{Body}
use Rattle.body_form.specs.declared.op.FieldUse.{FieldUse}
use Rattle.body_form.specs.declared.op.MethodUse.{MethodUse}
use Rattle.body_form.specs.declared.op.Op.{Op}
use Rattle.body_form.specs.declared.op.Op.TheVariants as op
use Rattle.body_form.specs.declared.types.VFrame.{VFrame}
use Rattle.body_form.specs.declared.types.VType.{VType}
use Rattle.body_form.specs.declared.types.VType.TheVariants as known
use Rattle.body_form.specs.Flow.{goes_on}
use Rattle.jvm_model.specs.ImageExpansion.{Emitted, Ids, Locals, alone, call, condition_of, constant, cut_arguments, expanded, kind_in, load, moved_row, operation_of, read_as, restack, return_of, store, switch_insn, test_of, top_of, unary_of, width_of, write_as}
use Rattle.jvm_model.specs.TypesFrames.{fits_kind, is_int, value_of_kind}
use Rattle.jvm_model.specs.TypesRules.{Change, argument_tests, changed, change_of, compared, constant_of, field_value, frame_after, has_kind, one, plain, renamed, result_of, returned, takes}
use Rattle.jvm_model.specs.TypesRules as rules
use Rattle.jvm_model.specs.WidthsFrame.{result_code, signature_used}
use Rattle.jvm_model.specs.WidthsShapes.{Point}
use Rattle.type_safety.proofs.fitting.SetBodies.{change_by}
use Rattle.set_image.specs.LinkRefusals.{is_built}
use Rattle.image_rules.specs.Depths.{MoveRight, depth_of, wide}
use Rattle.image_rules.specs.Parts.{CallsAs, ExpansionsMoveRight, HaveDims, IsAround, ResultHasDims}
use Rattle.image_rules.proofs.DepthSums.{Goes, goes_none, moves_right}
use Rattle.image_rules.proofs.RightCalls.{call_right}
use Rattle.image_rules.proofs.RightNumbers.{bin_right, compare_right, constant_right, goto_right, if_right, inc_right, load_right, store_right, switch_right, test_right, unary_right}
use Rattle.image_rules.proofs.RightResults.{get_right, put_right, return_right}
use Rattle.image_rules.proofs.RightStacks.{stack_right}

-- operands after a change
abbrev stack_after : Change → List VType → List VType
stack_after change stack = change.pushes ++ renamed change.renames (drop change.pops stack)

abbrev plain_change : VFrame → ℕ → List VType → Change
plain_change frame pops pushes = record { pops = pops; renames = None; stores = None; pushes = pushes; pending = frame.pending }

-- a condition that is met
met : {X : Type 0} (b : Bool) (found : Option X) (x : X) → (if b then found else None) ≡ Some x → (b ≡ true) × (found ≡ Some x)
met true found x e = (refl, e)
met false found x e = absurd (none-some x e)

module _ (image : Image) (method : Method) (before after : VFrame) where
  abbrev stack : List VType
  stack = before.stack

  -- from the operands before to these
  abbrev GoesTo : List Emitted → List VType → Type 0
  GoesTo emitted types = Goes image method (depth_of (wide stack)) emitted (depth_of (wide types))

  -- ---- what is around an instruction

  module _ (instruction : Op) (point : Point) (around : IsAround instruction before after point) where
    abbrev Right : List Emitted → Type 0
    Right emitted = MoveRight image method stack emitted after.stack

    by_before : (emitted : List Kind → List Emitted) (types : List VType) → types ≡ after.stack → GoesTo (emitted (wide stack)) types → Right (emitted point.before)
    by_before emitted types is goes =
        moves_right image method stack after.stack (emitted point.before)
        (subst (λ (shapes : List Kind). GoesTo (emitted shapes) after.stack) (sym around.before_is) (subst (GoesTo (emitted (wide stack))) is goes))

    by_both : goes_on instruction ≡ true → (emitted : List Kind → List Kind → List Emitted) (types : List VType) → types ≡ after.stack → GoesTo (emitted (wide stack) (wide types)) types
        → Right (emitted point.before point.after)
    by_both on emitted types is goes =
        let shapes : wide types ≡ point.after = ap wide is ∙ sym (around.after_is on) in
        by_before (λ shapes. emitted shapes point.after) types is (subst (λ (shapes : List Kind). GoesTo (emitted (wide stack) shapes) types) shapes goes)

    -- where operands pass tests, and others are pushed
    plain_before : (tests : List (VType → Bool)) (pushes : List VType) (change : Change) → plain before tests pushes ≡ Some change → changed change before ≡ after → (emitted : List Kind → List Emitted)
        → (takes tests stack ≡ true → GoesTo (emitted (wide stack)) (pushes ++ drop (length tests) stack)) → Right (emitted point.before)
    plain_before tests pushes change is gives emitted goes =
        let rule = cond_some (takes tests stack) (plain_change before (length tests) pushes) change is in
        by_before emitted (pushes ++ drop (length tests) stack) (ap (λ (c : Change). stack_after c stack) rule.1 ∙ ap (λ (frame : VFrame). frame.stack) gives) (goes rule.0)

    plain_both : goes_on instruction ≡ true → (tests : List (VType → Bool)) (pushes : List VType) (change : Change) → plain before tests pushes ≡ Some change → changed change before ≡ after
        → (emitted : List Kind → List Kind → List Emitted)
        → (takes tests stack ≡ true → GoesTo (emitted (wide stack) (wide (pushes ++ drop (length tests) stack))) (pushes ++ drop (length tests) stack)) → Right (emitted point.before point.after)
    plain_both on tests pushes change is gives emitted goes =
        let rule = cond_some (takes tests stack) (plain_change before (length tests) pushes) change is in
        by_both on emitted (pushes ++ drop (length tests) stack) (ap (λ (c : Change). stack_after c stack) rule.1 ∙ ap (λ (frame : VFrame). frame.stack) gives) (goes rule.0)

  -- ---- locals

  module _ (locals : Locals) (two : (local : ℕ) → locals.width local ≡ width.Two) (point : Point) (change : Change) (gives : changed change before ≡ after) where
    loads : (k : ValueKind) (local : ℕ) → IsAround (op.Load k local) before after point → (found : Option VType) → rules.load before k found ≡ Some change
        → MoveRight image method stack (alone (load locals k local)) after.stack
    loads k local around None is = absurd (none-some change is)
    loads k local around (Some type) is =
        let parts = met (has_kind k type) (plain before [] (type ∷ [])) change is in
        plain_before (op.Load k local) point around [] (type ∷ []) change parts.1 gives (λ shapes. alone (load locals k local)) (λ taken. load_right image method locals two k local type stack parts.0)

    store_taken : (k : ValueKind) (local : ℕ) (types : List VType) → rules.store before k local types ≡ Some change → Goes image method (depth_of (wide types)) (store locals k local) (depth_of (wide (stack_after change types)))
    store_taken k local [] is = absurd (none-some change is)
    store_taken k local (type ∷ types) is =
        let parts = met (has_kind k type && nat_lt local (length before.locals)) _ change is in
        let holds = and_parts (has_kind k type) (nat_lt local (length before.locals)) parts.0 in
        let same : record { pops = 1; renames = None; stores = Some (local, type); pushes = []; pending = before.pending } ≡ change = (let e = parts.1 in cc) in
        subst (λ (c : Change). Goes image method (depth_of (wide (type ∷ types))) (store locals k local) (depth_of (wide (stack_after c (type ∷ types))))) same
        (store_right image method locals two k local type types holds.0)

    stores : (k : ValueKind) (local : ℕ) → IsAround (op.Store k local) before after point → rules.store before k local stack ≡ Some change → MoveRight image method stack (store locals k local) after.stack
    stores k local around is =
        by_before (op.Store k local) point around (λ shapes. store locals k local) (stack_after change stack) (ap (λ (frame : VFrame). frame.stack) gives) (store_taken k local stack is)

    increments : (local : ℕ) (amount : ℤ) → IsAround (op.Inc local amount) before after point → (found : Option VType) → rules.increment before found ≡ Some change
        → MoveRight image method stack (alone (insns.Inc (locals.width local) (locals.cell local) amount)) after.stack
    increments local amount around None is = absurd (none-some change is)
    increments local amount around (Some type) is =
        let parts = met (is_int type) (plain before [] []) change is in
        plain_before (op.Inc local amount) point around [] [] change parts.1 gives (λ shapes. alone (insns.Inc (locals.width local) (locals.cell local) amount)) (λ taken. inc_right image method locals two local amount stack)

  -- ---- values of declared types

  module _ (files : List ClassFile) (point : Point) (change : Change) (gives : changed change before ≡ after) where
    gets : (used : FieldUse) (place : ℕ) → HasDims used.kind → IsAround (op.GetStatic used) before after point → (found : Option VType) → value_of_kind files used.kind ≡ found
        → option_and_then (plain before []) (option_map one found) ≡ Some change
        → MoveRight image method stack (alone (insns.GetS (kind_in used.kind) place) ++ read_as used.kind (top_of point.after)) after.stack
    gets used place dims around None found is = absurd (none-some change is)
    gets used place dims around (Some type) found is =
        plain_both (op.GetStatic used) point around refl [] (type ∷ []) change is gives (λ before after. alone (insns.GetS (kind_in used.kind) place) ++ read_as used.kind (top_of after))
        (λ taken. get_right image method files used.kind place dims type stack found)

    returns : (result : Option DeclaredKind) (of : Option ValueKind) → ResultHasDims result → method.sig.result ≡ result_code result → IsAround (op.Return of) before after point
        → (tests : Option (List (VType → Bool))) → returned files result of ≡ tests → option_and_then (λ tests. plain before tests []) tests ≡ Some change
        → MoveRight image method stack (return_of result (top_of point.before) of) after.stack
    returns result of dims same around None found is = absurd (none-some change is)
    returns result of dims same around (Some tests) found is =
        plain_before (op.Return of) point around tests [] change is gives (λ shapes. return_of result (top_of shapes) of) (return_right image method files result of stack tests dims same found)

    -- a return is none of a constructor that has yet to call another one
    returns_where : (result : Option DeclaredKind) (of : Option ValueKind) → ResultHasDims result → method.sig.result ≡ result_code result → IsAround (op.Return of) before after point
        → (pending : Bool) → (if pending then None else option_and_then (λ tests. plain before tests []) (returned files result of)) ≡ Some change
        → MoveRight image method stack (return_of result (top_of point.before) of) after.stack
    returns_where result of dims same around true is = absurd (none-some change is)
    returns_where result of dims same around false is = returns result of dims same around (returned files result of) refl is

    calls : (used : MethodUse) (id : ℕ) → HaveDims None (op.CallStatic used) → called_by image (insns.CallS id) ≡ signature_used false used → IsAround (op.CallStatic used) before after point
        → (found : Option (List VType)) → result_of files used.descriptor.result ≡ found → option_and_then (plain before (argument_tests files used ++ [])) found ≡ Some change
        → MoveRight image method stack (call used point (insns.CallS id)) after.stack
    calls used id dims same around None found is = absurd (none-some change is)
    calls used id dims same around (Some pushes) found is =
        let tests = argument_tests files used in
        let params = used.descriptor.params in
        let none : tests ++ [] ≡ tests = append-nil tests in
        let count : length tests ≡ length params = length-reverse (map (fits_kind files) params) ∙ length-map params (fits_kind files) in
        let emitted : List Kind → List Kind → List Emitted = λ before after. cut_arguments 0 (reverse params) before ++ (alone (insns.CallS id) ++ option_map_or (λ result. read_as result (top_of after)) used.descriptor.result []) in
        plain_both (op.CallStatic used) point around refl tests pushes change (ap (λ (tests : List (VType → Bool)). plain before tests pushes) (sym none) ∙ is) gives emitted
        (λ taken. subst (λ (n : ℕ). GoesTo (emitted (wide stack) (wide (pushes ++ drop n stack))) (pushes ++ drop n stack)) (sym count)
        (call_right image method files params id stack dims.0 taken used.descriptor.result pushes dims.1 same found))

-- ---- all built instructions

module _ (files : List ClassFile) (body : Body) (pc : ℕ) (before after : VFrame) (image : Image) (method : Method) (same : method.sig.result ≡ result_code body.result)
    (locals : Locals) (two : (local : ℕ) → locals.width local ≡ width.Two) (ids : Ids) (offset : ℕ → ℕ) (point : Point) (change : Change) (gives : changed change before ≡ after) where
  abbrev Moved : Op → Type 0
  Moved instruction =
      is_built instruction ≡ true → change_of files body pc instruction before ≡ Some change → HaveDims body.result instruction → CallsAs image ids instruction → IsAround instruction before after point
      → MoveRight image method before.stack (expanded locals ids offset body.result point instruction) after.stack

  moved : (instruction : Op) → Moved instruction
  moved op.Nop built is dims calls_as around = plain_before image method before after op.Nop point around [] [] change is gives (λ shapes. []) (λ taken. goes_none image method (depth_of (wide before.stack)))
  moved (op.Const value) built is dims calls_as around =
      plain_both image method before after (op.Const value) point around refl [] (constant_of value ∷ []) change is gives (λ before after. alone (constant value (top_of after))) (λ taken. constant_right image method value before.stack)
  moved (op.Load k local) built is dims calls_as around = loads image method before after locals two point change gives k local around (slice_get before.locals local) is
  moved (op.Store k local) built is dims calls_as around = stores image method before after locals two point change gives k local around is
  moved (op.Inc local amount) built is dims calls_as around = increments image method before after locals two point change gives local amount around (slice_get before.locals local) is
  moved (op.Stack f) built is dims calls_as around =
      by_before image method before after (op.Stack f) point around (restack f) (stack_after change before.stack) (ap (λ (frame : VFrame). frame.stack) gives) (stack_right image method before change f before.stack is)
  moved (op.Bin o) built is dims calls_as around =
      plain_before image method before after (op.Bin o) point around (is_int ∷ is_int ∷ []) (known.Int ∷ []) change is gives (λ shapes. alone (insns.Bin (width_of (top_of shapes)) (operation_of o))) (bin_right image method o before.stack)
  moved (op.Unary o) built is dims calls_as around =
      plain_both image method before after (op.Unary o) point around refl (is_int ∷ []) (known.Int ∷ []) change is gives (λ before after. unary_of o (top_of before) (top_of after)) (unary_right image method o before.stack)
  moved (op.If c target) built is dims calls_as around =
      plain_before image method before after (op.If c target) point around (is_int ∷ []) [] change is gives (λ shapes. alone (insns.Jz (width_of (top_of shapes)) (condition_of c) (offset target))) (if_right image method c (offset target) before.stack)
  moved (op.IfCmp c target) built is dims calls_as around =
      plain_before image method before after (op.IfCmp c target) point around (is_int ∷ is_int ∷ []) [] change is gives (λ shapes. alone (insns.JCmp (width_of (top_of shapes)) (condition_of c) (offset target)))
      (compare_right image method c (offset target) before.stack)
  moved (op.IfRef c target) built is dims calls_as around =
      plain_before image method before after (op.IfRef c target) point around (compared c) [] change is gives (λ shapes. alone (insns.RJ (test_of c) (offset target))) (test_right image method (offset target) c before.stack)
  moved (op.Goto target) built is dims calls_as around =
      plain_before image method before after (op.Goto target) point around [] [] change is gives (λ shapes. alone (insns.Goto (offset target))) (λ taken. goto_right image method (offset target) before.stack)
  moved (op.Switch f default rows) built is dims calls_as around =
      plain_before image method before after (op.Switch f default rows) point around (is_int ∷ []) [] change is gives
      (λ shapes. (switch_insn f (width_of (top_of shapes)) (offset default) rows, map (moved_row offset) rows) ∷ []) (switch_right image method (offset default) f rows (map (moved_row offset) rows) before.stack)
  moved (op.Return of) built is dims calls_as around = returns_where image method before after files point change gives body.result of dims same around before.pending is
  moved (op.GetStatic used) built is dims calls_as around = gets image method before after files point change gives used (ids.static used.field) dims around (value_of_kind files used.kind) refl is
  moved (op.PutStatic used) built is dims calls_as around =
      plain_before image method before after (op.PutStatic used) point around (fits_kind files used.kind ∷ []) [] change is gives
      (λ shapes. write_as used.kind (top_of shapes) ++ alone (insns.PutS (kind_in used.kind) (ids.static used.field))) (put_right image method files used.kind (ids.static used.field) dims before.stack)
  moved (op.CallStatic used) built is dims calls_as around =
      calls image method before after files point change gives used (ids.method used.method) dims calls_as around (result_of files used.descriptor.result) refl is
  moved instruction built is dims calls_as around = absurd (false≢true built)

-- by the change of the rule
pub expansions_move_right : ExpansionsMoveRight
expansions_move_right files body pc instruction before after built rule dims image method same locals two ids calls_as offset point around =
    let by = change_by files body pc instruction before after rule in
    moved files body pc before after image method same locals two ids offset point by.change by.reached instruction built by.is dims calls_as around
