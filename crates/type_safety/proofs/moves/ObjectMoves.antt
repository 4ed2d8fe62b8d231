-- Objects are made, cast and tested as their types say.
use Rattle.std.proofs.Common.{◌≡◌, ◌⊎◌, ℕ, pos, Bool, true, false, inl, inr, List, [], ◌∷◌, ◌++◌, length, map, Option, Some, None, option_map, option_and_then, if◌then◌else◌, eq-eqb, refl, sym, ap, subst, ◌∙◌, arith}
use Rattle.std.specs.Prelude.{slice_get}
use Rattle.std.specs.Option.{option_map_or}
use Rattle.std.specs.List.{list_any}
use Rattle.std.proofs.lemmas.Bool.{and_parts}
use Rattle.class_pool.specs.declared.types.TypeRef.{TypeRef}
use Rattle.class_file.specs.Rules.{is_static}
use Rattle.class_tree.specs.Fits.{fits}
use Rattle.class_tree.specs.Members.{Declaration, fields_of}
use Rattle.class_tree.specs.Merge.{is_class_or_super}
use Rattle.class_tree.specs.Subtypes.{class_type}
use Rattle.class_tree.specs.Tree.{Gathers}
use Rattle.body_form.specs.declared.body.Body.{Body}
use Rattle.body_form.specs.declared.op.Op.TheVariants as op
use Rattle.body_form.specs.declared.types.VFrame.{VFrame}
use Rattle.body_form.specs.declared.types.VType.{VType}
use Rattle.body_form.specs.declared.types.VType.TheVariants as known
use Rattle.jvm_model.specs.Bodies.{AreEach}
use Rattle.jvm_model.specs.State.{Value, Null, Name}
use Rattle.jvm_model.specs.TypesRules.{Change, op_at, takes, is_constructed, is_same_object, renamed_one, changed, makes_class}
use Rattle.typed_machine.specs.TypedMoves.{at_pc, goes_on, no_need, place_need, throws, class_cast_exception}
use Rattle.typed_machine.specs.TypedState.{Object, Frame, State, with_objects}
use Rattle.typed_machine.specs.TypedStep.{make, is_of_type, cast, one_where, test}
use Rattle.typed_machine.specs.TypedWorld.{World, kind_of, type_of, default_of_kind, is_below, new_object, object_cells, pc_after}
use Rattle.type_safety.specs.Facts.{IsConcrete}
use Rattle.type_safety.specs.Fitting.{Tables, IsWhole, NamesObject, ValueFits, LocalFits, FrameFits, ObjectFits}
use Rattle.type_safety.specs.Safety.{MoveFits}
use Rattle.type_safety.proofs.fitting.Numbers.{small_fits, default_kept}
use Rattle.type_safety.proofs.moves.Lemmas.{MoveLemma}
use Rattle.type_safety.proofs.facts.FieldKinds.{kind_default, field_declared}
use Rattle.type_safety.proofs.fitting.BelowFits.{below_fits}
use Rattle.type_safety.proofs.fitting.GrownObjects.{next_name}
use Rattle.type_safety.proofs.fitting.HeldValues.{object_type}
use Rattle.type_safety.proofs.moves.NextStates.{At, Follows, named, names_known, rule, plain_rule, Goes, goes_by, goes_to, grows, steady, append_follows, exception_thrown, object_at_fits}

-- ---- new objects

not_static : (static : Bool) (a b : Declaration) → (if static then None else Some a) ≡ Some b → a ≡ b
not_static true a b e = cc
not_static false a b e = cc

field_there : (above : Bool) (found : Option Declaration) (field : Declaration)
    → (if above then option_and_then (λ (f : Declaration). if is_static f.flags then None else Some f) found else None) ≡ Some field → found ≡ Some field
field_there true None field e = cc
field_there true (Some first) field e = ap Some (not_static (is_static first.flags) first field e)
field_there false found field e = cc

-- an object of a class of the set has the fields of its class, and what they hold at first
pub new_object_fits : (world : World) → Gathers world.files None → (objects : List Object) (class : ℕ) → IsConcrete world class → ObjectFits world objects (new_object world.files class)
new_object_fits world gathers objects class concrete = (
  concrete.0,
  concrete.1,
  concrete.2,
  λ id field is.
      let there : slice_get (fields_of world.files id.class) id.member ≡ Some field = field_there (is_class_or_super world.files class id.class) (slice_get (fields_of world.files id.class) id.member) field is in
      record {
        value = default_of_kind (kind_of field);
        is = ap (option_map (λ (f : Declaration). default_of_kind (kind_of f))) is;
        has = kind_default world objects (kind_of field) (field_declared world.files gathers id.class id.member field there);
        kept = default_kept (kind_of field);
      },
)

-- ---- other objects of the same instruction are known no more

module _ (world : World) (objects : List Object) (body : Body) (pc : ℕ) where
  abbrev forget : VType → VType
  forget = renamed_one (known.New pc) known.Top

  chosen_value : (same : Bool) (value : Value) (type : VType) → ValueFits world objects body value type → ValueFits world objects body value (if same then known.Top else type)
  chosen_value true value type fit = tt
  chosen_value false value type fit = fit

  top_either : (same : Bool) → (if same then known.Top else known.Top) ≡ known.Top
  top_either true = refl
  top_either false = refl

  forget_local : (local : Option Value) (type : VType) → LocalFits world objects body local type → LocalFits world objects body local (forget type)
  forget_local None type fit =
      ap (λ t. if is_same_object (known.New pc) type then known.Top else t) fit ∙ top_either (is_same_object (known.New pc) type)
  forget_local (Some value) type fit = chosen_value (is_same_object (known.New pc) type) value type fit

  forget_locals : (locals : List (Option Value)) (types : List VType) → AreEach (LocalFits world objects body) locals types → AreEach (LocalFits world objects body) locals (map forget types)
  forget_locals [] [] fit = tt
  forget_locals [] (type ∷ types) fit = absurd fit
  forget_locals (local ∷ locals) [] fit = absurd fit
  forget_locals (local ∷ locals) (type ∷ types) fit = (forget_local local type fit.0, forget_locals locals types fit.1)

  forget_values : (values : List Value) (types : List VType) → AreEach (ValueFits world objects body) values types → AreEach (ValueFits world objects body) values (map forget types)
  forget_values [] [] fit = tt
  forget_values [] (type ∷ types) fit = absurd fit
  forget_values (value ∷ values) [] fit = absurd fit
  forget_values (value ∷ values) (type ∷ types) fit = (chosen_value (is_same_object (known.New pc) type) value type fit.0, forget_values values types fit.1)

-- the frame after an object is made
abbrev made : ℕ → VFrame → Change
made pc types = record { pops = 0; renames = Some (known.New pc, known.Top); stores = None; pushes = known.New pc ∷ []; pending = types.pending }

made_change : (pc : ℕ) (types : VFrame) (twice : Bool) (change : Change) → (if twice then None else Some (made pc types)) ≡ Some change → made pc types ≡ change
made_change pc types true change e = cc
made_change pc types false change e = cc

module _ {world : World} {tables : Tables} {state : State} {frame : Frame} {others : List Frame} {body : Body} {types after : VFrame} (type : TypeRef)
    (at : At world tables state frame others body (op.New type) types after) where
  made_fits : (class : ℕ) → type ≡ class_type class → IsConcrete world class → MoveFits world tables (make world state frame others (pc_after body.ops frame.pc) type.base)
  made_fits class is concrete =
      let new = new_object world.files class in
      let next = with_objects state (new ∷ []) in
      let values = Name (length state.objects) ∷ frame.operands in
      let follows : Follows world tables state next = append_follows at (new ∷ []) (new_object_fits world at.set.closed (state.objects ++ new ∷ []) class concrete, tt) in
      let held = (grows at next follows).frame body frame types at.has in
      let here : makes_class class (op_at body.ops frame.pc) ≡ true =
      ap (makes_class class) at.stands.at ∙ ap (λ (t : TypeRef). makes_class class (Some (op.New t))) is ∙ eq-eqb class class refl in
      let pushed : ValueFits world next.objects body (Name (length state.objects)) (known.New frame.pc) =
      record { name = length state.objects; object = new; is = refl; there = next_name state.objects [] new; has = record { class = class; fields = _; is = refl; has = here } } in
      let has_rule = rule at in
      let change = made_change frame.pc types (list_any (is_same_object (known.New frame.pc)) types.stack) has_rule.change has_rule.is in
      let fits : FrameFits world next.objects body (at_pc frame frame.pc values) (changed (made frame.pc types) types) =
      record {
        locals = forget_locals world next.objects body frame.pc frame.locals types.locals held.locals;
        operands = (pushed, forget_values world next.objects body frame.pc frame.operands types.stack held.operands);
      } in
      let fits_after = subst (FrameFits world next.objects body (at_pc frame frame.pc values)) (ap (λ (c : Change). changed c types) change ∙ has_rule.gives) fits in
      subst (λ (t : TypeRef). MoveFits world tables (make world state frame others (pc_after body.ops frame.pc) t.base)) (sym is)
      (goes_to at refl (place_need (object_cells world.files class)) [] next values follows fits_after)

pub new_fits : (type : TypeRef) → MoveLemma (op.New type)
new_fits type parts world tables set state frame others frames fits body types after stands has =
    let at : At world tables state frame others body (op.New type) types after = record { parts = parts; set = set; frames = frames; fits = fits; stands = stands; has = has } in
    let made_class = named at in
    made_fits type at made_class.0 made_class.1 made_class.2

-- ---- casts and tests

-- a reference to an object that is constructed is null or names an object
refers : (world : World) (objects : List Object) (body : Body) (value : Value) (type : VType) → ValueFits world objects body value type → is_constructed type ≡ true
    → (value ≡ Null) ⊎ NamesObject objects value (λ object. Unit {0})
refers world objects body value known.Null fit e = inl fit
refers world objects body value (known.Ref type) (inl none) e = inl none
refers world objects body value (known.Ref type) (inr names) e = inr (record { name = names.name; object = names.object; is = names.is; there = names.there; has = tt })
refers world objects body value type fit e = cc

module _ {world : World} {tables : Tables} {state : State} {frame : Frame} {others : List Frame} {body : Body} {types after : VFrame} (type : TypeRef)
    (at : At world tables state frame others body (op.CheckCast type) types after) where
  -- the object of a name passes the test, so its type fits
  passes : (name : ℕ) (object : Object) → slice_get state.objects name ≡ Some object → is_of_type world state type (Name name) ≡ true → ValueFits world state.objects body (Name name) (known.Ref type)
  passes name object there e =
      let under : is_below world.files (type_of object) type ≡ true = sym (ap (λ found. option_map_or (λ (o : Object). is_below world.files (type_of o) type) found false) there) ∙ e in
      let below = below_fits world.files at.set.closed (type_of object) type (object_type world state.objects object (object_at_fits at name object there)) (names_known at) under in
      inr (record { name = name; object = object; is = refl; there = there; has = below })

  name_cast : (operands : List Value) (name : ℕ) → (passed : Bool) → (passed ≡ true → MoveFits world tables (goes_on state frame others (pc_after body.ops frame.pc) (Name name ∷ operands)))
      → MoveFits world tables (if passed then goes_on state frame others (pc_after body.ops frame.pc) (Name name ∷ operands) else throws world state (frame ∷ others) class_cast_exception)
  name_cast operands name true goes = goes refl
  name_cast operands name false goes = exception_thrown at class_cast_exception (omega arith) refl refl refl

  cast_fits : (operands : List Value) (stack : List VType) → AreEach (ValueFits world state.objects body) operands stack → takes (is_constructed ∷ []) stack ≡ true
      → Goes at (is_constructed ∷ []) (known.Ref type ∷ []) stack → MoveFits world tables (cast world state frame others (pc_after body.ops frame.pc) type operands)
  unfolding takes
  cast_fits [] [] fit e goes = cc
  cast_fits [] (top ∷ stack) fit e goes = absurd fit
  cast_fits (value ∷ operands) [] fit e goes = absurd fit
  cast_fits (value ∷ operands) (top ∷ stack) fit e goes =
      elim (refers world state.objects body value top fit.0 (and_parts (is_constructed top) true e).0) [
        | inl none ↦
            subst (λ v. MoveFits world tables (cast world state frame others (pc_after body.ops frame.pc) type (v ∷ operands))) (sym none)
            (goes no_need [] state (Null ∷ operands) (steady at) (inl refl, fit.1))
        | inr names ↦
            subst (λ v. MoveFits world tables (cast world state frame others (pc_after body.ops frame.pc) type (v ∷ operands))) (sym names.is)
            (name_cast operands names.name (is_of_type world state type (Name names.name))
            (λ passed. goes no_need [] state (Name names.name ∷ operands) (steady at) (passes names.name names.object names.there passed, fit.1)))
      ]

module _ {world : World} {tables : Tables} {state : State} {frame : Frame} {others : List Frame} {body : Body} {types after : VFrame} (type : TypeRef)
    (at : At world tables state frame others body (op.InstanceOf type) types after) where
  one_whole : (is : Bool) → IsWhole (one_where is)
  one_whole true = (pos 1, refl, small_fits 1 (omega arith))
  one_whole false = (pos 0, refl, small_fits 0 (omega arith))

  test_fits : (operands : List Value) (stack : List VType) → AreEach (ValueFits world state.objects body) operands stack → takes (is_constructed ∷ []) stack ≡ true
      → Goes at (is_constructed ∷ []) (known.Int ∷ []) stack → MoveFits world tables (test world state frame others (pc_after body.ops frame.pc) type operands)
  unfolding takes
  test_fits [] [] fit e goes = cc
  test_fits [] (top ∷ stack) fit e goes = absurd fit
  test_fits (value ∷ operands) [] fit e goes = absurd fit
  test_fits (value ∷ operands) (top ∷ stack) fit e goes =
      let tested : (v : Value) → AreEach (ValueFits world state.objects body) (one_where (is_of_type world state type v) ∷ operands) (known.Int ∷ stack) =
      λ v. (one_whole (is_of_type world state type v), fit.1) in
      elim (refers world state.objects body value top fit.0 (and_parts (is_constructed top) true e).0) [
        | inl none ↦
            subst (λ v. MoveFits world tables (test world state frame others (pc_after body.ops frame.pc) type (v ∷ operands))) (sym none)
            (goes no_need [] state (one_where (is_of_type world state type Null) ∷ operands) (steady at) (tested Null))
        | inr names ↦
            subst (λ v. MoveFits world tables (test world state frame others (pc_after body.ops frame.pc) type (v ∷ operands))) (sym names.is)
            (goes no_need [] state (one_where (is_of_type world state type (Name names.name)) ∷ operands) (steady at) (tested (Name names.name)))
      ]

pub check_cast_fits : (type : TypeRef) → MoveLemma (op.CheckCast type)
check_cast_fits type parts world tables set state frame others frames fits body types after stands has =
    let at : At world tables state frame others body (op.CheckCast type) types after = record { parts = parts; set = set; frames = frames; fits = fits; stands = stands; has = has } in
    let tests = is_constructed ∷ [] in
    let by = plain_rule at tests (known.Ref type ∷ []) refl in
    cast_fits type at frame.operands types.stack has.operands by.taken (goes_by at tests (known.Ref type ∷ []) refl by)

pub instance_of_fits : (type : TypeRef) → MoveLemma (op.InstanceOf type)
instance_of_fits type parts world tables set state frame others frames fits body types after stands has =
    let at : At world tables state frame others body (op.InstanceOf type) types after = record { parts = parts; set = set; frames = frames; fits = fits; stands = stands; has = has } in
    let tests = is_constructed ∷ [] in
    let by = plain_rule at tests (known.Int ∷ []) refl in
    test_fits type at frame.operands types.stack has.operands by.taken (goes_by at tests (known.Int ∷ []) refl by)
