-- The arguments of a call fit the parameters: each passes the test of its parameter, and is narrowed to a whole number.
use Rattle.std.proofs.Common.{◌≡◌, ℕ, ℤ, ◌≤◌, Bool, true, false, ◌&&◌, inl, inr, List, [], ◌∷◌, ◌++◌, map, reverse, length, take, drop, Some, None, unwrap_or, Ok, Err, if◌then◌else◌, refl, sym, ap, subst, ◌∙◌, arith, FitsSigned}
use Rattle.std.specs.Int.{w32}
use Rattle.std.specs.List.{AllByRecursion}
use Rattle.std.proofs.lemmas.Bool.{and_parts}
use Rattle.std.proofs.lemmas.List.{length-reverse, length-map, reverse-append}
use Rattle.cell_num.specs.declared.conversions.Conv.TheVariants as conv
use Rattle.class_pool.specs.declared.descriptor.Kind.{Kind}
use Rattle.class_pool.specs.declared.descriptor.Kind.TheVariants as kinds
use Rattle.class_pool.specs.declared.types.TypeRef.{TypeRef}
use Rattle.class_tree.specs.Fits.{fits}
use Rattle.class_tree.specs.MergeLaws.{IsKnown}
use Rattle.class_tree.specs.Merge.{is_reference}
use Rattle.class_tree.specs.Subtypes.{IsType}
use Rattle.class_tree.specs.Tree.{Gathers}
use Rattle.body_form.specs.declared.body.Body.{Body}
use Rattle.body_form.specs.declared.types.VType.{VType}
use Rattle.body_form.specs.declared.types.VType.TheVariants as known
use Rattle.jvm_model.specs.Bodies.{AreEach}
use Rattle.jvm_model.specs.Resolution.{Resolved, kind_named}
use Rattle.jvm_model.specs.State.{Value, Whole, Null, Name}
use Rattle.jvm_model.specs.TypesFrames.{is_int, value_of, value_in, fits_in, fits_kind, parameter_of}
use Rattle.jvm_model.specs.TypesRules.{takes}
use Rattle.typed_machine.specs.TypedCalls.{argument_for, arguments_for, kept_as}
use Rattle.typed_machine.specs.TypedState.{Object, Instance, Elements}
use Rattle.typed_machine.specs.TypedWorld.{World, type_of}
use Rattle.type_safety.specs.Fitting.{IsWhole, NamesObject, ValueFits, KindFits, ObjectFits}
use Rattle.type_safety.proofs.fitting.EachLists.{each_reverse, each_of_map, of_place}
use Rattle.type_safety.proofs.fitting.FitsOver.{refs_over}
use Rattle.type_safety.proofs.fitting.Numbers.{converted_fits, narrowed_fits}

-- ---- tests that pass

-- a value of a type that passes a test
pub record Passes (R : Value → VType → Type 0) (test : VType → Bool) (value : Value) : Type 0 where
  pub type : VType
  pub fits : R value type
  pub passes : test type ≡ true

-- tests of which the first ones are taken, and then the others
pub takes_parts : (first second : List (VType → Bool)) (stack : List VType) → takes (first ++ second) stack ≡ true → (takes first stack ≡ true) × (takes second (drop (length first) stack) ≡ true)
unfolding takes
takes_parts [] second stack e = (refl, e)
takes_parts (test ∷ first) second [] e = cc
takes_parts (test ∷ first) second (type ∷ stack) e =
    let is = and_parts (test type) (takes (first ++ second) stack) e in
    let rest = takes_parts first second stack is.1 in
    (ap (λ b. b && takes first stack) is.0 ∙ rest.0, rest.1)

pub takes_enough : (tests : List (VType → Bool)) (stack : List VType) → takes tests stack ≡ true → length tests ≤ length stack
unfolding takes
takes_enough [] stack e = omega arith
takes_enough (test ∷ tests) [] e = cc
takes_enough (test ∷ tests) (type ∷ stack) e =
    let rest = takes_enough tests stack (and_parts (test type) (takes tests stack) e).1 in
    omega arith

module _ (R : Value → VType → Type 0) where
  pub taken : (tests : List (VType → Bool)) (operands : List Value) (stack : List VType) → AreEach R operands stack → takes tests stack ≡ true → AreEach (Passes R) tests (take (length tests) operands)
  unfolding takes
  taken [] operands stack each e = tt
  taken (test ∷ tests) operands [] each e = cc
  taken (test ∷ tests) [] (type ∷ stack) each e = absurd each
  taken (test ∷ tests) (value ∷ operands) (type ∷ stack) each e =
      let is = and_parts (test type) (takes tests stack) e in
      (record { type = type; fits = each.0; passes = is.0 }, taken tests operands stack each.1 is.1)

reverse_twice : {X : Type 0} (xs : List X) → reverse (reverse xs) ≡ xs
reverse_twice [] = refl
reverse_twice (x ∷ xs) = ap reverse (reverse-append (x ∷ []) xs) ∙ reverse-append (reverse xs) (x ∷ []) ∙ ap (λ ys. x ∷ ys) (reverse_twice xs)

-- the length of the tests of parameters
pub tests_length : (f : Kind → VType → Bool) (params : List Kind) → length (reverse (map f params)) ≡ length params
tests_length f params = length-reverse (map f params) ∙ length-map params f

-- ---- types of objects

pub object_type : (world : World) (objects : List Object) (object : Object) → ObjectFits world objects object → IsType world.files (type_of object)
object_type world objects (Instance class fields) has = (has.0, tt)
object_type world objects (Elements array elements) has = has.0

-- ---- values of declared types

-- whole numbers stay whole, and references stay
pub record Narrows (f : Value → Value) : Type 0 where
  pub whole : (number : ℤ) → FitsSigned w32 number → IsWhole (f (Whole number))
  pub null : f Null ≡ Null
  pub name : (name : ℕ) → f (Name name) ≡ Name name

pub argument_narrows : (kind : Kind) → Narrows (argument_for kind)
argument_narrows kinds.Boolean = record { whole = λ number fits. (_, refl, converted_fits conv.Short number); null = refl; name = λ name. refl }
argument_narrows kinds.Byte = record { whole = λ number fits. (_, refl, converted_fits conv.Short number); null = refl; name = λ name. refl }
argument_narrows kinds.Short = record { whole = λ number fits. (_, refl, converted_fits conv.Short number); null = refl; name = λ name. refl }
argument_narrows kinds.Char = record { whole = λ number fits. (_, refl, converted_fits conv.Char number); null = refl; name = λ name. refl }
argument_narrows kind = record { whole = λ number fits. (number, refl, fits); null = refl; name = λ name. refl }

pub kept_narrows : (kind : Kind) → Narrows (kept_as kind)
kept_narrows kind = record { whole = λ number fits. (_, refl, narrowed_fits kind number fits); null = refl; name = λ name. refl }

same_whole : (a b : ℤ) → Whole a ≡ Whole b → a ≡ b
same_whole a b e = cc

module _ (world : World) (objects : List Object) where
  no_name : {Has : Object → Type 0} (number : ℤ) → NamesObject objects (Whole number) Has → ⊥
  no_name number names = let is = names.is in cc

  whole_narrows : (f : Value → Value) → Narrows f → (body : Body) (number : ℤ) (type : VType) → ValueFits world objects body (Whole number) type → ValueFits world objects body (f (Whole number)) type
  whole_narrows f narrows body number known.Top has = tt
  whole_narrows f narrows body number known.Int has = narrows.whole number (let same : has.0 ≡ number = same_whole has.0 number (sym has.1) in subst (FitsSigned w32) same has.2)
  whole_narrows f narrows body number known.Null has = cc
  whole_narrows f narrows body number (known.Ref type) has = elim has [ inl null ↦ cc | inr names ↦ absurd (no_name number names) ]
  whole_narrows f narrows body number (known.New pc) has = absurd (no_name number has)
  whole_narrows f narrows body number known.This has = absurd (no_name number has)

  value_narrows : (f : Value → Value) → Narrows f → (body : Body) (value : Value) (type : VType) → ValueFits world objects body value type → ValueFits world objects body (f value) type
  value_narrows f narrows body (Whole number) type has = whole_narrows f narrows body number type has
  value_narrows f narrows body Null type has = subst (λ v. ValueFits world objects body v type) (sym narrows.null) has
  value_narrows f narrows body (Name name) type has = subst (λ v. ValueFits world objects body v type) (sym (narrows.name name)) has

  pub kind_narrows : (f : Value → Value) → Narrows f → (kind : Kind) (value : Value) → KindFits world objects kind value → KindFits world objects kind (f value)
  kind_narrows f narrows kind value has = record { type = has.type; is = has.is; has = λ body. value_narrows f narrows body value has.type (has.has body) }

  module _ (gathers : Gathers world.files None) (all : AllByRecursion (ObjectFits world objects) objects) where
    -- what fits a type fits what the type fits
    abbrev pub names_over : (s t : TypeRef) (value : Value) → IsType world.files s → NamesObject objects value (λ object. fits world.files (known.Ref (type_of object)) s ≡ true)
        → fits world.files (known.Ref s) t ≡ true → NamesObject objects value (λ object. fits world.files (known.Ref (type_of object)) t ≡ true)
    names_over s t value is_type names e =
        let here = object_type world objects names.object (of_place (ObjectFits world objects) objects names.name names.object all names.there) in
        let from = type_of names.object in
        record {
          name = names.name;
          object = names.object;
          is = names.is;
          there = names.there;
          has = refs_over world.files gathers from.dims from.base s.dims s.base t.dims t.base here is_type names.has e;
        }

    -- a value that passes the test of a type
    pub as_type : (reference : Bool) (of : TypeRef) (body : Body) (value : Value) (type : VType) → ValueFits world objects body value type → IsKnown world.files type
        → (if reference then fits world.files type of else is_int type) ≡ true → (other : Body) → ValueFits world objects other value (if reference then known.Ref of else known.Int)
    as_type true of body value known.Null has is e other = inl has
    as_type true of body value (known.Ref s) has is e other = elim has [ inl null ↦ inl null | inr names ↦ inr (names_over s of value is names e) ]
    as_type true of body value type has is e other = cc
    as_type false of body value known.Int has is e other = has
    as_type false of body value type has is e other = cc

    -- what a declared type is
    pub record Declares (named : Resolved TypeRef) (value : Value) : Type 0 where
      pub type : VType
      pub is : value_in named ≡ Some type
      pub has : (body : Body) → ValueFits world objects body value type

    as_named : (named : Resolved TypeRef) (body : Body) (value : Value) (type : VType) → ValueFits world objects body value type → IsKnown world.files type
        → fits_in world.files named type ≡ true → Declares named value
    as_named (Ok of) body value type has is e =
        record { type = value_of of; is = refl; has = as_type (is_reference of.dims of.base) of body value type has is e }
    as_named (Err why) body value type has is e = cc

    pub as_kind : (kind : Kind) (body : Body) (value : Value) (type : VType) → ValueFits world objects body value type → IsKnown world.files type → fits_kind world.files kind type ≡ true → KindFits world objects kind value
    as_kind kind body value type has is e =
        let declares = as_named (kind_named world.files kind) body value type has is e in
        record { type = declares.type; is = declares.is; has = declares.has }

    -- ---- arguments

    module _ (body : Body) where
      -- a value with its type, which is one of the set
      abbrev pub Fitting : Value → VType → Type 0
      Fitting value type = ValueFits world objects body value type × IsKnown world.files type

      arguments_fit : (params : List Kind) (values : List Value) → AreEach (λ kind value. Passes Fitting (fits_kind world.files kind) value) params values
          → AreEach (KindFits world objects) params (arguments_for params values)
      unfolding arguments_for
      arguments_fit [] [] each = tt
      arguments_fit [] (value ∷ values) each = absurd each
      arguments_fit (kind ∷ params) [] each = absurd each
      arguments_fit (kind ∷ params) (value ∷ values) each = (
        kind_narrows (argument_for kind) (argument_narrows kind) kind value (as_kind kind body value each.0.type each.0.fits.0 each.0.fits.1 each.0.passes),
        arguments_fit params values each.1,
      )

      pub arguments_taken : (params : List Kind) (operands : List Value) (stack : List VType) → AreEach Fitting operands stack → takes (reverse (map (fits_kind world.files) params)) stack ≡ true
          → AreEach (KindFits world objects) params (arguments_for params (reverse (take (length params) operands)))
      arguments_taken params operands stack each e =
          let tests = map (fits_kind world.files) params in
          let P : (VType → Bool) → Value → Type 0 = Passes Fitting in
          let some = subst (λ n. AreEach P (reverse tests) (take n operands)) (tests_length (fits_kind world.files) params) (taken Fitting (reverse tests) operands stack each e) in
          let values = reverse (take (length params) operands) in
          let turned = subst (λ ts. AreEach P ts values) (reverse_twice tests) (each_reverse P (reverse tests) (take (length params) operands) some) in
          arguments_fit params values (each_of_map (fits_kind world.files) P params values turned)

  -- ---- what a parameter holds

  pub parameters_hold : (body : Body) (params : List Kind) (values : List Value) → AreEach (KindFits world objects) params values → AreEach (ValueFits world objects body) values (map (parameter_of world.files) params)
  parameters_hold body [] [] each = tt
  parameters_hold body [] (value ∷ values) each = absurd each
  parameters_hold body (kind ∷ params) [] each = absurd each
  parameters_hold body (kind ∷ params) (value ∷ values) each =
      let type : parameter_of world.files kind ≡ each.0.type = ap (λ o. unwrap_or o known.Top) each.0.is in
      (subst (ValueFits world objects body value) (sym type) (each.0.has body), parameters_hold body params values each.1)
