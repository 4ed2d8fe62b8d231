-- The parts of a call: what its rule takes, the new frame of a method's body, and the caller, which waits.
use Rattle.std.proofs.Common.{◌≡◌, ℕ, zero, suc, ◌+◌, ◌-◌, Bool, true, false, List, [], ◌∷◌, ◌++◌, map, length, replicate, drop, Option, Some, None, option_and_then, if◌then◌else◌, refl, sym, ap, subst, ◌∙◌}
use Rattle.std.specs.Option.{option_map_or}
use Rattle.std.proofs.lemmas.List.{length-append}
use Rattle.std.proofs.lemmas.Option.{same_Some, cond_some}
use Rattle.account.specs.Account.{Event, Need}
use Rattle.dialogue.specs.Answers.{Answers}
use Rattle.class_pool.specs.declared.types.MemberId.{MemberId}
use Rattle.class_file.specs.declared.record.ClassFile.{ClassFile}
use Rattle.class_tree.specs.Subtypes.{class_type}
use Rattle.body_form.specs.declared.body.Body.{Body}
use Rattle.body_form.specs.declared.op.MethodUse.{MethodUse}
use Rattle.body_form.specs.declared.op.Op.{Op}
use Rattle.body_form.specs.declared.types.VFrame.{VFrame}
use Rattle.body_form.specs.declared.types.VType.{VType}
use Rattle.body_form.specs.declared.types.VType.TheVariants as known
use Rattle.body_form.specs.Flow.{goes_on}
use Rattle.library.specs.declared.natives.Native.{Native}
use Rattle.jvm_model.specs.Bodies.{AreEach}
use Rattle.jvm_model.specs.State.{Value}
use Rattle.jvm_model.specs.TypesFrames.{fits_kind, receiver_of, parameter_of, arguments_of, start_frame, is_constructor}
use Rattle.jvm_model.specs.TypesRules.{Change, takes, plain, change_of, changed, argument_tests, result_of, call}
use Rattle.typed_machine.specs.TypedCalls.{frame_for, runs_native, runs_code, runs}
use Rattle.typed_machine.specs.TypedMoves.{TypedMove, at_pc, does_next}
use Rattle.typed_machine.specs.TypedState.{Object, Frame, State, with_answers}
use Rattle.typed_machine.specs.TypedWorld.{World, body_among, pc_after}
use Rattle.type_safety.specs.Facts.{RunsBody, is_named_constructor}
use Rattle.type_safety.specs.Fitting.{Tables, ValueFits, LocalFits, FrameFits, KindFits, Waits, OthersWait, FramesFit, StateFits, call_of, unpushed}
use Rattle.type_safety.specs.Parts.{AreParts, StandsAt}
use Rattle.type_safety.specs.Safety.{IsSet, MoveFits}
use Rattle.type_safety.proofs.moves.Arguments.{tests_length, parameters_hold}
use Rattle.type_safety.proofs.fitting.EachLists.{each_length, each_append, each_replicate}
use Rattle.type_safety.proofs.moves.GoingOn.{rule_parts, wait_below, going_on}
use Rattle.type_safety.proofs.moves.Lemmas.{StartingFits}

pub drop_more : {X : Type 0} (n : ℕ) (xs : List X) → drop (suc n) xs ≡ drop 1 (drop n xs)
drop_more zero xs = refl
drop_more (suc n) [] = refl
drop_more (suc n) (x ∷ xs) = drop_more n xs

-- ---- the rule of a call

abbrev pub moved : ℕ → List VType → VFrame → Change
moved pops pushes frame = record { pops = pops; renames = None; stores = None; pushes = pushes; pending = frame.pending }

-- what a call takes and pushes
pub record CallRule (files : List ClassFile) (types : VFrame) (used : MethodUse) (receiver : List (VType → Bool)) (change : Change) : Type 0 where
  pub pushes : List VType
  pub result : result_of files used.descriptor.result ≡ Some pushes
  pub taken : takes (argument_tests files used ++ receiver) types.stack ≡ true
  pub is : moved (length used.descriptor.params + length receiver) pushes types ≡ change

pub call_rule : (files : List ClassFile) (types : VFrame) (used : MethodUse) (receiver : List (VType → Bool)) (change : Change) → call files types used receiver ≡ Some change → CallRule files types used receiver change
call_rule files types used receiver change e = with_result (result_of files used.descriptor.result) refl e
  where
    with_result : (found : Option (List VType)) → result_of files used.descriptor.result ≡ found
        → option_and_then (λ pushes. plain types (argument_tests files used ++ receiver) pushes) found ≡ Some change → CallRule files types used receiver change
    with_result None is f = cc
    with_result (Some pushes) is f =
        let tests = argument_tests files used ++ receiver in
        let parts = cond_some (takes tests types.stack) (moved (length tests) pushes types) change f in
        let long : length tests ≡ length used.descriptor.params + length receiver =
        length-append (argument_tests files used) receiver ∙ ap (λ n. n + length receiver) (tests_length (fits_kind files) used.descriptor.params) in
        record { pushes = pushes; result = is; taken = parts.0; is = sym (ap (λ n. moved n pushes types) long) ∙ parts.1 }

-- ---- new frames

module _ (world : World) (objects : List Object) (body : Body) where
  each_set : (values : List Value) (types : List VType) → AreEach (ValueFits world objects body) values types → AreEach (LocalFits world objects body) (map (λ (value : Value). Some value) values) types
  each_set [] [] each = tt
  each_set [] (type ∷ types) each = absurd each
  each_set (value ∷ values) [] each = absurd each
  each_set (value ∷ values) (type ∷ types) each = (each.0, each_set values types each.1)

  -- the values that are handed on stand in the first locals, and no other is set
  pub new_frame_fits : (method : MemberId) (values : List Value) → AreEach (ValueFits world objects body) values (arguments_of world.files body)
      → FrameFits world objects body (frame_for method body values) (start_frame world.files body)
  new_frame_fits method values each =
      let types = arguments_of world.files body in
      let long : length types ≡ length values = sym (each_length (ValueFits world objects body) values types each) in
      let unset = each_replicate (LocalFits world objects body) (body.max_locals - length values) None known.Top refl in
      record {
        locals = each_append (LocalFits world objects body) (map (λ (value : Value). Some value) values) types (replicate (body.max_locals - length values) None)
            (replicate (body.max_locals - length types) known.Top) (each_set values types each)
            (subst (λ n. AreEach (LocalFits world objects body) (replicate (body.max_locals - length values) None) (replicate (body.max_locals - n) known.Top)) (sym long) unset);
        operands = tt;
      }

-- ---- a call

module _ (starting : StartingFits) (parts : AreParts) (world : World) (tables : Tables) (set : IsSet world tables) (state : State) (frame : Frame) (others : List Frame) (same : state.frames ≡ frame ∷ others)
    (fits : StateFits world tables state) (body : Body) (types after : VFrame) (instruction : Op) (stands : StandsAt world tables frame body instruction types after)
    (typed : FrameFits world state.objects body frame types) where
  abbrev Fits : Value → VType → Type 0
  Fits = ValueFits world state.objects body

  wait : OthersWait world tables state.objects frame others
  wait = (subst (FramesFit world tables state.objects) same fits.frames).1

  -- the caller without what it hands on fits what its rule leaves before the result is pushed
  pub record CallsFrom (rest : List Value) : Type 0 where
    pub change : Change
    pub is : change_of world.files body frame.pc instruction types ≡ Some change
    pub has : FrameFits world state.objects body (at_pc frame frame.pc rest) (changed (unpushed change) types)

  -- by the rule of a call
  abbrev pub calls_from : (used : MethodUse) (receiver : List (VType → Bool)) (change : Change) → change_of world.files body frame.pc instruction types ≡ Some change → CallRule world.files types used receiver change
      → (rest : List Value) → AreEach Fits rest (drop (length used.descriptor.params + length receiver) types.stack) → CallsFrom rest
  calls_from used receiver change is rule rest each =
      record {
        change = change;
        is = is;
        has = subst (λ c. FrameFits world state.objects body (at_pc frame frame.pc rest) (changed (unpushed c) types)) rule.is (record { locals = typed.locals; operands = each });
      }

  -- a native goes on at once
  pub native_goes_on : (rest : List Value) → (calls : CallsFrom rest) → goes_on instruction ≡ true → (pushed : List Value) → AreEach Fits pushed calls.change.pushes
      → (need : Need) (events : List Event) (answers : Answers) → MoveFits world tables (does_next need events (with_answers state answers) frame others (pc_after body.ops frame.pc) (pushed ++ rest))
  native_goes_on rest calls goes pushed each need events answers =
      let rule = rule_parts world.files body frame.pc instruction types after stands.rule in
      let one : calls.change ≡ rule.change = same_Some calls.change rule.change (sym calls.is ∙ rule.is) in
      let whole : FrameFits world state.objects body (at_pc frame frame.pc (pushed ++ rest)) (changed calls.change types) =
      record { locals = calls.has.locals; operands = each_append Fits pushed calls.change.pushes rest (changed (unpushed calls.change) types).stack each calls.has.operands } in
      going_on world tables set parts (with_answers state answers) frame others body types after instruction stands wait fits.objects fits.statics goes need events (pushed ++ rest)
      (subst (FrameFits world state.objects body (at_pc frame frame.pc (pushed ++ rest))) (ap (λ c. changed c types) one ∙ rule.leaves) whole)

  -- a method with a body starts, and the caller waits
  pub body_starts : (used : MethodUse) → call_of instruction ≡ Some used → (id : MemberId) (on_object : Bool) (run : RunsBody world id used on_object) (values rest : List Value) → CallsFrom rest
      → AreEach (ValueFits world state.objects run.body) values (arguments_of world.files run.body)
      → MoveFits world tables (runs world state frame others (pc_after body.ops frame.pc) id values rest)
  body_starts used names id on_object run values rest calls each =
      subst (λ found. MoveFits world tables (option_map_or native found (code (body_among world.bodies id)))) (sym run.none)
      (subst (λ found. MoveFits world tables (code found)) (sym run.found)
      (record {
        frames = (
          starting world tables set state.objects fits.objects (frame_for id run.body values) run.body run.found refl (new_frame_fits world state.objects run.body id values each),
          (waits, wait_below world tables state.objects frame (at_pc frame frame.pc rest) others refl wait),
        );
        objects = fits.objects;
        statics = fits.statics;
      }))
    where
      native : Native → TypedMove
      native found = runs_native state frame others (pc_after body.ops frame.pc) found frame.operands

      code : Option Body → TypedMove
      code found = runs_code world state frame others id found values rest

      waits : Waits world tables state.objects (at_pc frame frame.pc rest) (frame_for id run.body values)
      waits =
          record {
            body = body;
            found = stands.found;
            instruction = instruction;
            used = used;
            at = stands.at;
            calls = names;
            types = types;
            known = stands.known;
            change = calls.change;
            rule = calls.is;
            has = calls.has;
            callee = run.body;
            callee_found = run.found;
            result = run.result;
          }

-- ---- what a body takes

-- a static method takes its parameters
pub static_arguments : (world : World) (objects : List Object) (id : MemberId) (used : MethodUse) (run : RunsBody world id used false) (values : List Value)
    → AreEach (KindFits world objects) used.descriptor.params values → AreEach (ValueFits world objects run.body) values (arguments_of world.files run.body)
static_arguments world objects id used run values each =
    let no_receiver : receiver_of world.files run.body ≡ [] =
    ap (λ (b : Bool). if b then (if is_constructor world.files run.body then known.This else known.Ref (class_type run.body.class)) ∷ [] else []) run.object in
    subst (λ first. AreEach (ValueFits world objects run.body) values (first ++ map (parameter_of world.files) run.body.params)) (sym no_receiver)
    (subst (λ params. AreEach (ValueFits world objects run.body) values (map (parameter_of world.files) params)) (sym run.params) (parameters_hold world objects run.body used.descriptor.params values each))

-- an instance method takes its receiver first: in a constructor an object that is not yet constructed
abbrev pub receiver_type : Bool → ℕ → VType
receiver_type constructor class = if constructor then known.This else known.Ref (class_type class)

pub object_arguments : (world : World) (objects : List Object) (id : MemberId) (used : MethodUse) (run : RunsBody world id used true) (receiver : Value) (values : List Value)
    → ValueFits world objects run.body receiver (receiver_type (is_named_constructor used) run.body.class) → AreEach (KindFits world objects) used.descriptor.params values
    → AreEach (ValueFits world objects run.body) (receiver ∷ values) (arguments_of world.files run.body)
object_arguments world objects id used run receiver values first each =
    let type : receiver_of world.files run.body ≡ receiver_type (is_named_constructor used) run.body.class ∷ [] =
    ap (λ (b : Bool). if b then (if is_constructor world.files run.body then known.This else known.Ref (class_type run.body.class)) ∷ [] else []) run.object
    ∙ ap (λ (b : Bool). receiver_type b run.body.class ∷ []) run.constructor in
    subst (λ types. AreEach (ValueFits world objects run.body) (receiver ∷ values) (types ++ map (parameter_of world.files) run.body.params)) (sym type)
    (first, subst (λ params. AreEach (ValueFits world objects run.body) values (map (parameter_of world.files) params)) (sym run.params) (parameters_hold world objects run.body used.descriptor.params values each))
