-- A throw fits: the frame that handles what is thrown fits the types at its handler, and those below it wait as before.
use Rattle.std.proofs.Common.{◌≡◌, ℕ, true, ◌⊎◌, inl, inr, List, [], ◌∷◌, ◌++◌, filter, length, Option, Some, None, IfSome, option_and_then, unwrap_or, if◌then◌else◌, refl, sym, ap, subst, ◌∙◌, arith}
use Rattle.std.specs.Prelude.{slice_get}
use Rattle.std.specs.Option.{option_map_or}
use Rattle.std.specs.List.{AllByRecursion, Contains}
use Rattle.std.proofs.lemmas.Bool.{cases_Bool}
use Rattle.std.proofs.lemmas.Option.{same_Some}
use Rattle.std.proofs.lemmas.List.Elements.{All-from_recursion, recursion_from_All, All-contains, All-contains_itself}
use Rattle.class_tree.specs.AccessTests.{is_subclass}
use Rattle.class_tree.specs.Fits.{fits}
use Rattle.class_tree.specs.MergeLaws.{IsKnown}
use Rattle.class_tree.specs.Set.{IsClass}
use Rattle.class_tree.specs.Subtypes.{class_type}
use Rattle.body_form.specs.declared.body.Body.{Body}
use Rattle.body_form.specs.declared.body.Guard.{Guard}
use Rattle.body_form.specs.declared.op.Op.{Op}
use Rattle.body_form.specs.declared.types.VFrame.{VFrame}
use Rattle.body_form.specs.declared.types.VType.TheVariants as known
use Rattle.body_form.specs.Flow.{IsStart, covers}
use Rattle.jvm_model.specs.Bodies.{AreEach}
use Rattle.jvm_model.specs.Instructions.{throwable}
use Rattle.jvm_model.specs.State.{Name}
use Rattle.jvm_model.specs.TypesRight.{Sent, IsMet, entered}
use Rattle.jvm_model.specs.TypesRules.{Change, changed, op_at, change_of}
use Rattle.type_order.proofs.Rules.{after-is-known}
use Rattle.type_rounds.proofs.tables.Lists.{all_append, all_filter}
use Rattle.type_rounds.proofs.tables.Starts.{start_has_op}
use Rattle.type_rounds.proofs.tables.SentFrames.{AtHandler, sent_handlers}
use Rattle.typed_machine.specs.TypedMoves.{at_pc, handles, first_handler, handler_of, caught, after_search}
use Rattle.typed_machine.specs.TypedState.{Fields, Object, Instance, Frame, State, with_objects}
use Rattle.typed_machine.specs.TypedWorld.{World, body_among, guards_at, new_object, object_cells}
use Rattle.type_safety.specs.Facts.{ClassFits}
use Rattle.type_safety.specs.Fitting.{Tables, ValueFits, LocalFits, ObjectFits, YoungestFits, Waits, OthersWait, FramesFit, StateFits}
use Rattle.type_safety.specs.Parts.{GrownFits, ThrowsFit, ObjectThrowsFit}
use Rattle.type_safety.specs.Safety.{IsSet, MoveFits}
use Rattle.type_safety.proofs.fitting.BelowFits.{subclass_fits}
use Rattle.type_safety.proofs.fitting.Growing.{growing_fits, grown_append, objects_stay, statics_stay}
use Rattle.type_safety.proofs.fitting.Leaving.{arrives}
use Rattle.type_safety.proofs.fitting.NewObject.{new_object_fits}
use Rattle.type_safety.proofs.fitting.SetBodies.{IsBodyOf, body_of, change_by}
use Rattle.type_safety.proofs.fitting.Standing.{wait_for}
use Rattle.type_safety.proofs.fitting.Values.{AreOfSet, all_at, are_of_set}

-- ---- the row that handles

module _ (world : World) (class : ℕ) (P : Guard → Type 0) where
  -- what holds of each row holds of the one that handles, and it does
  handler_has : (guards : List Guard) → AllByRecursion P guards → (guard : Guard) → first_handler world class guards ≡ Some guard → P guard × (handles world class guard ≡ true)
  unfolding first_handler
  handler_has [] all guard e = cc
  handler_has (first ∷ guards) all guard e =
      elim (cases_Bool (handles world class first)) [
        | inl here ↦
            let same : first ≡ guard = same_Some first guard (sym (ap (λ b. if b then Some first else first_handler world class guards) here) ∙ e) in
            subst (λ g. P g × (handles world class g ≡ true)) same (all.0, here)
        | inr later ↦ handler_has guards all.1 guard (sym (ap (λ b. if b then Some first else first_handler world class guards) later) ∙ e)
      ]

-- each row that covers a pc is one of the body
covering : (body : Body) (pc : ℕ) → AllByRecursion (Contains body.handlers) (filter (covers pc) body.handlers)
covering body pc =
    all_filter (Contains body.handlers) (covers pc) body.handlers (recursion_from_All (Contains body.handlers) body.handlers (All-contains_itself body.handlers))

-- ---- what is thrown

-- an object of a class of the set, a Throwable, under a name
pub record IsThrown (world : World) (objects : List Object) (class name : ℕ) : Type 0 where
  pub fields : Fields
  pub there : slice_get objects name ≡ Some (Instance class fields)
  pub inside : IsClass world.files class
  pub throwable : ClassFits world class 1

-- a frame that may handle what is thrown: it stands at an instruction, and has the locals before or after it
pub record MayCatch (world : World) (tables : Tables) (objects : List Object) (frame : Frame) : Type 0 where
  pub body : Body
  pub found : body_among world.bodies frame.method ≡ Some body
  pub instruction : Op
  pub at : op_at body.ops frame.pc ≡ Some instruction
  pub types : VFrame
  pub known : tables frame.method frame.pc ≡ Some types
  pub locals : AreEach (LocalFits world objects body) frame.locals types.locals
      ⊎ ((change : Change) × (change_of world.files body frame.pc instruction types ≡ Some change) × AreEach (LocalFits world objects body) frame.locals (changed change types).locals)

module _ (world : World) (tables : Tables) (set : IsSet world tables) (objects : List Object) (are : AreOfSet world objects) (class name : ℕ) (thrown : IsThrown world objects class name) where
  class_handled : (caught_class : Option ℕ) → option_map_or (is_subclass world.files class) caught_class true ≡ true
      → fits world.files (known.Ref (class_type class)) (class_type (unwrap_or caught_class throwable)) ≡ true
  class_handled None e = thrown.throwable
  class_handled (Some upper) e = subclass_fits world.files set.closed class upper thrown.inside e

  operand_fits : (body : Body) (guard : Guard) → handles world class guard ≡ true → ValueFits world objects body (Name name) (known.Ref (class_type (unwrap_or guard.class throwable)))
  operand_fits body guard e =
      inr (record { name = name; object = Instance class thrown.fields; is = refl; there = thrown.there; has = class_handled guard.class e })

  caught_known : (caught_class : Option ℕ) → IfSome caught_class (IsClass world.files) → IsClass world.files (unwrap_or caught_class throwable)
  caught_known None inside = inl (omega arith)
  caught_known (Some upper) inside = inside

  -- a frame of which the locals fit some types enters a handler to which these are sent
  enters : (frame : Frame) (body : Body) → IsBodyOf world tables frame.method body → body_among world.bodies frame.method ≡ Some body → (given : VFrame)
      → AllByRecursion (IsKnown world.files) given.locals → AreEach (LocalFits world objects body) frame.locals given.locals → (guard : Guard) → Contains body.handlers guard
      → handles world class guard ≡ true → IsMet world.files (tables frame.method) (record { to = guard.target; frame = entered guard given })
      → YoungestFits world tables objects (at_pc frame guard.target (Name name ∷ []))
  enters frame body is found given known locals guard among e met =
      let IsKnownGuard : Guard → Type 0 = λ g. IfSome g.class (IsClass world.files) in
      let inside = All-contains IsKnownGuard body.handlers guard (All-from_recursion IsKnownGuard body.handlers is.facts.of_set.handlers) among in
      arrives world tables set objects are (at_pc frame guard.target (Name name ∷ [])) guard.target body is found (entered guard given)
      (record { locals = known; stack = ((caught_known guard.class inside, tt), tt) }) met (record { locals = locals; operands = (operand_fits body guard e, tt) })

  catches : (frame : Frame) (may : MayCatch world tables objects frame) (guard : Guard) → first_handler world class (guards_at may.body frame.pc) ≡ Some guard
      → YoungestFits world tables objects (at_pc frame guard.target (Name name ∷ []))
  catches frame may guard e =
      let body = may.body in
      let is = body_of world tables set frame.method body may.found in
      let holds = is.right.rules frame.pc may.instruction may.types may.at may.known in
      let Met : Sent → Type 0 = λ sent. IsStart body.ops sent.to → IsMet world.files (tables frame.method) sent in
      let sent = handler_has world class (AtHandler Met may.types holds.after) (guards_at body frame.pc) (sent_handlers body Met frame.pc may.types holds.after holds.met) guard e in
      let among = (handler_has world class (Contains body.handlers) (guards_at body frame.pc) (covering body frame.pc) guard e).0 in
      let start = is.facts.handlers guard among in
      let before = is.right.known frame.pc may.types may.known in
      elim may.locals [
        | inl locals ↦ enters frame body is may.found may.types before.locals locals guard among sent.1 (sent.0.0 start)
        | inr later ↦
            let by = change_by world.files body frame.pc may.instruction may.types holds.after holds.rule in
            let same : later.0 ≡ by.change = same_Some later.0 by.change (sym later.1 ∙ by.is) in
            let reached : changed later.0 may.types ≡ holds.after = ap (λ c. changed c may.types) same ∙ by.reached in
            let after = after-is-known world.files set.closed body is.facts.of_set frame.pc may.instruction may.types holds.after may.at before holds.rule in
            let locals = subst (λ (f : VFrame). AreEach (LocalFits world objects body) frame.locals f.locals) reached later.2 in
            enters frame body is may.found holds.after after.locals locals guard among sent.1 (sent.0.1 start)
      ]

  -- ---- the frames

  waits_may : (frame above : Frame) → Waits world tables objects frame above → MayCatch world tables objects frame
  waits_may frame above waits =
      record {
        body = waits.body;
        found = waits.found;
        instruction = waits.instruction;
        at = waits.at;
        types = waits.types;
        known = waits.known;
        locals = inr (waits.change, waits.rule, waits.has.locals);
      }

  caught_none : (frames : List Frame) → caught world class name [] ≡ Some frames → ⊥
  unfolding caught
  caught_none frames e = cc

  caught_more : (frame : Frame) (others : List Frame)
      → caught world class name (frame ∷ others)
      ≡ option_map_or (λ (guard : Guard). Some (at_pc frame guard.target (Name name ∷ []) ∷ others)) (handler_of world class frame) (caught world class name others)
  unfolding caught
  caught_more frame others = refl

  caught_with : (frame : Frame) (others : List Frame) (may : MayCatch world tables objects frame) → OthersWait world tables objects frame others → (frames : List Frame)
      → (handler : Option Guard) → first_handler world class (guards_at may.body frame.pc) ≡ handler
      → ((rest : List Frame) → caught world class name others ≡ Some rest → FramesFit world tables objects rest)
      → option_map_or (λ (guard : Guard). Some (at_pc frame guard.target (Name name ∷ []) ∷ others)) handler (caught world class name others) ≡ Some frames → FramesFit world tables objects frames
  caught_with frame others may wait frames None is later e = later frames e
  caught_with frame others may wait frames (Some guard) is later e =
      let entering = at_pc frame guard.target (Name name ∷ []) in
      subst (FramesFit world tables objects) (same_Some (entering ∷ others) frames e) (catches frame may guard is, wait_for world tables objects frame entering refl others wait)

  pub caught_fit : (frame : Frame) (others : List Frame) → MayCatch world tables objects frame → OthersWait world tables objects frame others → (frames : List Frame)
      → caught world class name (frame ∷ others) ≡ Some frames → FramesFit world tables objects frames
  caught_fit frame [] may wait frames e =
      caught_with frame [] may wait frames (first_handler world class (guards_at may.body frame.pc)) refl (λ rest none. absurd (caught_none rest none))
      (ap (λ found. option_map_or (λ (guard : Guard). Some (at_pc frame guard.target (Name name ∷ []) ∷ [])) (option_and_then (λ body. first_handler world class (guards_at body frame.pc)) found) (caught world class name [])) (sym may.found)
      ∙ sym (caught_more frame []) ∙ e)
  caught_fit frame (next ∷ others) may wait frames e =
      caught_with frame (next ∷ others) may wait frames (first_handler world class (guards_at may.body frame.pc)) refl
      (λ rest later. caught_fit next others (waits_may next frame wait.0) wait.1 rest later)
      (ap (λ found. option_map_or (λ (guard : Guard). Some (at_pc frame guard.target (Name name ∷ []) ∷ next ∷ others)) (option_and_then (λ body. first_handler world class (guards_at body frame.pc)) found) (caught world class name (next ∷ others))) (sym may.found)
      ∙ sym (caught_more frame (next ∷ others)) ∙ e)

-- ---- throws

-- the youngest frame of a state that fits may handle, and so it does when objects are added
module _ (world : World) (tables : Tables) (set : IsSet world tables) where
  young_may : (objects : List Object) (frame : Frame) → YoungestFits world tables objects frame → MayCatch world tables objects frame
  young_may objects frame young =
      let is = body_of world tables set frame.method young.body young.found in
      let there = start_has_op young.body.ops frame.pc (is.right.only frame.pc young.types young.known).0 in
      record { body = young.body; found = young.found; instruction = there.0; at = there.1; types = young.types; known = young.known; locals = inl young.has.locals }

  frames_caught : (objects : List Object) → AreOfSet world objects → (class name : ℕ) → IsThrown world objects class name → (frames : List Frame) → FramesFit world tables objects frames
      → (found : List Frame) → caught world class name frames ≡ Some found → FramesFit world tables objects found
  frames_caught objects are class name thrown [] fit found e = absurd fit
  frames_caught objects are class name thrown (frame ∷ others) fit found e =
      caught_fit world tables set objects are class name thrown frame others (young_may objects frame fit.0) fit.1 found e

  search_fits : (placed : Option ℕ) (state : State) (class : ℕ) (found : Option (List Frame)) → ((frames : List Frame) → found ≡ Some frames → FramesFit world tables state.objects frames)
      → StateFits world tables state → MoveFits world tables (after_search placed state class found)
  search_fits placed state class None fit fits = tt
  search_fits placed state class (Some frames) fit fits = record { frames = fit frames refl; objects = fits.objects; statics = fits.statics }

  inside_at : (state : State) → StateFits world tables state → (class name : ℕ) (fields : Fields) → slice_get state.objects name ≡ Some (Instance class fields) → IsClass world.files class
  inside_at state fits class name fields there = (all_at (ObjectFits world state.objects) state.objects fits.objects name (Instance class fields) there).0

pub object_throws_fit : ObjectThrowsFit
object_throws_fit world tables set state fits class name fields there throwable =
    let thrown : IsThrown world state.objects class name = record { fields = fields; there = there; inside = inside_at world tables set state fits class name fields there; throwable = throwable } in
    search_fits world tables set None state class (caught world class name state.frames)
    (frames_caught world tables set state.objects (are_of_set world state.objects fits.objects) class name thrown state.frames fits.frames) fits

-- ---- an object more

appended : (objects : List Object) (object : Object) → slice_get (objects ++ object ∷ []) (length objects) ≡ Some object
appended [] object = refl
appended (first ∷ objects) object = appended objects object

frames_stay : (world : World) (tables : Tables) (old new : List Object) → GrownFits world tables old new → (frames : List Frame) → FramesFit world tables old frames → FramesFit world tables new frames
frames_stay world tables old new grown [] fit = fit
frames_stay world tables old new grown (frame ∷ others) fit =
    let young = fit.0 in (
      record { body = young.body; found = young.found; types = young.types; known = young.known; has = grown.frame young.body frame young.types young.has },
      grown.others frame others fit.1,
    )

-- a state that fits fits with an object more that does
pub with_object_fits : (world : World) (tables : Tables) (state : State) → StateFits world tables state → (object : Object) → ObjectFits world (state.objects ++ object ∷ []) object
    → StateFits world tables (with_objects state (object ∷ []))
with_object_fits world tables state fits object fit =
    let old = state.objects in
    let new = old ++ object ∷ [] in
    let grown = grown_append old (object ∷ []) in
    record {
      frames = frames_stay world tables old new (growing_fits world tables old new grown) state.frames fits.frames;
      objects = all_append (ObjectFits world new) old (object ∷ []) (objects_stay world tables old new grown old fits.objects) (fit, tt);
      statics = statics_stay world tables old new grown state.statics fits.statics;
    }

pub throws_fit : ThrowsFit
throws_fit world tables set state fits class concrete throwable =
    let object = new_object world.files class in
    let after = with_objects state (object ∷ []) in
    let fits_after = with_object_fits world tables state fits object (new_object_fits world set.closed after.objects class concrete) in
    let thrown : IsThrown world after.objects class (length state.objects) =
    record { fields = _; there = appended state.objects object; inside = concrete.0; throwable = throwable } in
    search_fits world tables set (Some (object_cells world.files class)) after class (caught world class (length state.objects) state.frames)
    (frames_caught world tables set after.objects (are_of_set world after.objects fits_after.objects) class (length state.objects) thrown state.frames fits_after.frames) fits_after
