-- Arrays of arrays are made as their type says: each array that is made fits, and the parts of one are named by it.
use Rattle.std.proofs.Common.{◌≡◌, ℕ, ℤ, zero, suc, pos, ◌+◌, ◌-◌, ◌*◌, ◌≤◌, Bool, true, false, inr, List, [], ◌∷◌, ◌++◌, length, map, reverse, drop, replicate, Some, None, option_map, if◌then◌else◌, refl, sym, ap, subst, ◌∙◌, arith, FitsSigned}
use Rattle.std.specs.Int.{w32}
use Rattle.std.specs.Prelude.{slice_get}
use Rattle.std.specs.List.{AllByRecursion, range_with_len, flat_map}
use Rattle.std.proofs.lemmas.Bool.{and_parts}
use Rattle.std.proofs.lemmas.List.{length-append, length-map, length-reverse, reverse-append}
use Rattle.std.proofs.lemmas.List.FromFn.{length-range_with_len}
use Rattle.class_pool.specs.declared.types.TypeBase.{TypeBase}
use Rattle.class_pool.specs.declared.types.TypeRef.{TypeRef}
use Rattle.class_tree.specs.Merge.{is_reference}
use Rattle.class_tree.specs.Subtypes.{IsType}
use Rattle.class_tree.specs.Tree.{Gathers}
use Rattle.class_tree.proofs.merging.RefParts.{has_dims}
use Rattle.body_form.specs.declared.body.Body.{Body}
use Rattle.body_form.specs.declared.op.Op.TheVariants as op
use Rattle.body_form.specs.declared.types.VFrame.{VFrame}
use Rattle.body_form.specs.declared.types.VType.{VType}
use Rattle.body_form.specs.declared.types.VType.TheVariants as known
use Rattle.jvm_model.specs.Bodies.{AreEach}
use Rattle.jvm_model.specs.State.{Value, Name}
use Rattle.jvm_model.specs.TypesFrames.{is_int}
use Rattle.jvm_model.specs.TypesRules.{takes, component_of}
use Rattle.typed_machine.specs.TypedArrays.{count_of, array_count, cells_of, arrays_of, numbers_in, any_negative, make_arrays}
use Rattle.typed_machine.specs.TypedMoves.{does_next, place_need, throws, negative_array_size_exception}
use Rattle.typed_machine.specs.TypedState.{Object, Elements, Frame, State, with_objects}
use Rattle.typed_machine.specs.TypedWorld.{World, pc_after}
use Rattle.type_safety.specs.Fitting.{Tables, IsKeptElement, ValueFits, TypeFits, ObjectFits}
use Rattle.type_safety.specs.Safety.{MoveFits}
use Rattle.type_safety.proofs.moves.Lemmas.{MoveLemma}
use Rattle.type_safety.proofs.fitting.BelowFits.{fits_itself}
use Rattle.type_safety.proofs.fitting.GrownObjects.{all_append}
use Rattle.type_safety.proofs.fitting.HeldValues.{each_grows}
use Rattle.type_safety.proofs.fitting.Numbers.{count_fits}
use Rattle.type_safety.proofs.moves.ArrayElements.{new_array_fits}
use Rattle.type_safety.proofs.moves.ArrayMoves.{number_held}
use Rattle.type_safety.proofs.moves.NextStates.{At, Follows, names_known, plain_rule, Goes, goes_by, grows, append_follows, exception_thrown}

-- ---- names of objects that are appended

-- objects have the names from one on
abbrev IsPlaced : List Object → ℕ → List Object → Type 0
IsPlaced all name objects = (i : ℕ) (object : Object) → slice_get objects i ≡ Some object → slice_get all (name + i) ≡ Some object

before : (xs ys : List Object) (i : ℕ) (object : Object) → slice_get xs i ≡ Some object → slice_get (xs ++ ys) i ≡ Some object
before [] ys i object e = cc
before (x ∷ xs) ys zero object e = e
before (x ∷ xs) ys (suc i) object e = before xs ys i object e

behind : (xs ys : List Object) (i : ℕ) (object : Object) → slice_get ys i ≡ Some object → slice_get (xs ++ ys) (length xs + i) ≡ Some object
behind [] ys i object e = let same : 0 + i ≡ i = omega arith in subst (λ n. slice_get ys n ≡ Some object) (sym same) e
behind (x ∷ xs) ys i object e =
    let more : length (x ∷ xs) + i ≡ suc (length xs + i) = omega arith in
    subst (λ n. slice_get (x ∷ xs ++ ys) n ≡ Some object) (sym more) (behind xs ys i object e)

placed_first : (all : List Object) (name : ℕ) (xs ys : List Object) → IsPlaced all name (xs ++ ys) → IsPlaced all name xs
placed_first all name xs ys placed i object e = placed i object (before xs ys i object e)

placed_second : (all : List Object) (name next : ℕ) (xs ys : List Object) → name + length xs ≡ next → IsPlaced all name (xs ++ ys) → IsPlaced all next ys
placed_second all name next xs ys is placed i object e =
    let more : name + (length xs + i) ≡ next + i = omega (arith, is) in
    subst (λ n. slice_get all n ≡ Some object) more (placed (length xs + i) object (behind xs ys i object e))

-- ---- how many there are

parts_length : (part : ℕ → List Object) (count : ℕ) → ((at : ℕ) → length (part at) ≡ count) → (n from : ℕ) → length (flat_map part (range_with_len from n)) ≡ n * count
parts_length part count each zero from = omega arith
parts_length part count each (suc n) from =
    length-append (part from) (flat_map part (range_with_len (from + 1) n)) ∙ (let one = each from in let rest = parts_length part count each n (from + 1) in omega (arith, one, rest))

arrays_length : (array : TypeRef) (counts : List ℕ) (name : ℕ) → length (arrays_of array counts name) ≡ array_count counts
unfolding arrays_of array_count
arrays_length array [] name = refl
arrays_length array (count ∷ []) name = refl
arrays_length array (count ∷ next ∷ counts) name =
    let inner = array_count (next ∷ counts) in
    let part : ℕ → List Object = λ p. arrays_of (component_of array) (next ∷ counts) (name + 1 + p * inner) in
    let rest : length (flat_map part (range_with_len 0 count)) ≡ count * inner = parts_length part inner (λ p. arrays_length (component_of array) (next ∷ counts) (name + 1 + p * inner)) count 0 in
    omega (arith, rest)

-- the first of them is the outer one
outer : (array : TypeRef) (counts : List ℕ) (name : ℕ) → 1 ≤ length counts → (elements : List Value) × (slice_get (arrays_of array counts name) 0 ≡ Some (Elements array elements))
unfolding arrays_of
outer array [] name some = absurd (omega (arith, some))
outer array (count ∷ []) name some = (_, refl)
outer array (count ∷ next ∷ counts) name some = (_, refl)

-- ---- each fits

-- a count of elements has 32 bits
abbrev pub CountFits : ℕ → Type 0
CountFits count = FitsSigned w32 (pos count)

component_refers : (dims : ℕ) (of : TypeBase) → 2 ≤ dims → is_reference (dims - 1) of ≡ true
component_refers zero of some = absurd (omega (arith, some))
component_refers (suc zero) of some = absurd (omega (arith, some))
component_refers (suc (suc dims)) of some = let less : suc (suc dims) - 1 ≡ suc dims = omega arith in subst (λ n. is_reference n of ≡ true) (sym less) refl

-- names are no numbers
no_number : (base : TypeBase) (name : ℕ) → IsKeptElement base (Name name)
no_number base name number is = cc

names_kept : (base : TypeBase) (name_of : ℕ → ℕ) (parts : List ℕ) → AllByRecursion (IsKeptElement base) (map (λ part. Name (name_of part)) parts)
names_kept base name_of [] = tt
names_kept base name_of (part ∷ parts) = (no_number base (name_of part), names_kept base name_of parts)

module _ (world : World) (gathers : Gathers world.files None) (all : List Object) where
  -- an outer array of some arrays that have their names
  outer_named : (array : TypeRef) (counts : List ℕ) (name : ℕ) → IsType world.files array → 1 ≤ length counts → IsPlaced all name (arrays_of array counts name) → (body : Body)
      → ValueFits world all body (Name name) (known.Ref array)
  outer_named array counts name is some placed body =
      let first = outer array counts name some in
      let same : name + 0 ≡ name = omega arith in
      inr (record {
        name = name;
        object = Elements array first.0;
        is = refl;
        there = subst (λ n. slice_get all n ≡ Some (Elements array first.0)) same (placed 0 (Elements array first.0) first.1);
        has = fits_itself world.files gathers array is;
      })

  -- the parts of an array, each with its own parts
  module _ (component : TypeRef) (is : IsType world.files component) (refers : is_reference component.dims component.base ≡ true) (counts : List ℕ) (some : 1 ≤ length counts) (start : ℕ)
      (each : (name : ℕ) → IsPlaced all name (arrays_of component counts name) → AllByRecursion (ObjectFits world all) (arrays_of component counts name)) where
    abbrev name_of : ℕ → ℕ
    name_of part = start + part * array_count counts

    abbrev part_of : ℕ → List Object
    part_of part = arrays_of component counts (name_of part)

    part_named : (part : ℕ) → IsPlaced all (name_of part) (part_of part) → TypeFits world all component (Name (name_of part))
    part_named part placed body =
        subst (λ b. ValueFits world all body (Name (name_of part)) (if b then known.Ref component else known.Int)) (sym refers) (outer_named component counts (name_of part) is some placed body)

    next_part : (from n : ℕ) → IsPlaced all (name_of from) (flat_map part_of (range_with_len from (suc n))) → IsPlaced all (name_of (from + 1)) (flat_map part_of (range_with_len (from + 1) n))
    next_part from n placed =
        let size = arrays_length component counts (name_of from) in
        placed_second all (name_of from) (name_of (from + 1)) (part_of from) (flat_map part_of (range_with_len (from + 1) n)) (omega (arith, size)) placed

    parts_fit : (n from : ℕ) → IsPlaced all (name_of from) (flat_map part_of (range_with_len from n)) → AllByRecursion (ObjectFits world all) (flat_map part_of (range_with_len from n))
    parts_fit zero from placed = tt
    parts_fit (suc n) from placed =
        let here = placed_first all (name_of from) (part_of from) (flat_map part_of (range_with_len (from + 1) n)) placed in
        all_append (ObjectFits world all) (part_of from) (flat_map part_of (range_with_len (from + 1) n)) (each (name_of from) here) (parts_fit n (from + 1) (next_part from n placed))

    names_fit : (n from : ℕ) → IsPlaced all (name_of from) (flat_map part_of (range_with_len from n)) → AllByRecursion (TypeFits world all component) (map (λ part. Name (name_of part)) (range_with_len from n))
    names_fit zero from placed = tt
    names_fit (suc n) from placed =
        let here = placed_first all (name_of from) (part_of from) (flat_map part_of (range_with_len (from + 1) n)) placed in
        (part_named from here, names_fit n (from + 1) (next_part from n placed))

  pub arrays_fit : (array : TypeRef) (counts : List ℕ) → AllByRecursion CountFits counts → IsType world.files array → length counts ≤ array.dims → (name : ℕ) → IsPlaced all name (arrays_of array counts name)
      → AllByRecursion (ObjectFits world all) (arrays_of array counts name)
  unfolding arrays_of
  arrays_fit array [] counted is few name placed = tt
  arrays_fit array (count ∷ []) counted is few name placed = (new_array_fits world all array count counted.0 is (omega (arith, few)), tt)
  arrays_fit array (count ∷ next ∷ counts) counted is few name placed =
      let component = component_of array in
      let inner = next ∷ counts in
      let refers : is_reference component.dims component.base ≡ true = component_refers array.dims array.base (omega (arith, few)) in
      let known_component : IsType world.files component = (is.0, has_dims component.dims component.base refers) in
      let some : 1 ≤ length inner = omega arith in
      let less : length inner ≤ component.dims = omega (arith, few) in
      let each : (at : ℕ) → IsPlaced all at (arrays_of component inner at) → AllByRecursion (ObjectFits world all) (arrays_of component inner at) = arrays_fit component (next ∷ counts) counted.1 known_component less in
      let part : ℕ → List Object = λ p. arrays_of component inner (name + 1 + p * array_count inner) in
      let outer_one : Object = Elements array (map (λ p. Name (name + 1 + p * array_count inner)) (range_with_len 0 count)) in
      let start : name + 1 ≡ name + 1 + 0 * array_count inner = omega arith in
      let parts_placed : IsPlaced all (name + 1 + 0 * array_count inner) (flat_map part (range_with_len 0 count)) =
      placed_second all name (name + 1 + 0 * array_count inner) (outer_one ∷ []) (flat_map part (range_with_len 0 count)) start placed in (
        (
          is,
          omega (arith, few),
          names_fit component known_component refers inner some (name + 1) each count 0 parts_placed,
          subst CountFits (sym (length-map (range_with_len 0 count) (λ p. Name (name + 1 + p * array_count inner)) ∙ length-range_with_len 0 count)) counted.0,
          names_kept array.base (λ p. name + 1 + p * array_count inner) (range_with_len 0 count),
        ),
        parts_fit component known_component refers inner some (name + 1) each count 0 parts_placed,
      )

-- ---- counts

-- the counts are numbers, and what is below them fits
pub record HasCounts (world : World) (objects : List Object) (body : Body) (dims : ℕ) (operands : List Value) (stack : List VType) : Type 0 where
  pub numbers : List ℤ
  pub rest : List Value
  pub is : numbers_in dims operands ≡ Some (numbers, rest)
  pub count : length numbers ≡ dims
  pub counted : AllByRecursion (FitsSigned w32) numbers
  pub fit : AreEach (ValueFits world objects body) rest (drop (length (replicate dims is_int)) stack)

counts_held : (world : World) (objects : List Object) (body : Body) (dims : ℕ) (operands : List Value) (stack : List VType) → AreEach (ValueFits world objects body) operands stack
    → takes (replicate dims is_int) stack ≡ true → HasCounts world objects body dims operands stack
unfolding takes numbers_in
counts_held world objects body zero operands stack fit e = record { numbers = []; rest = operands; is = refl; count = refl; counted = tt; fit = fit }
counts_held world objects body (suc dims) [] [] fit e = cc
counts_held world objects body (suc dims) [] (type ∷ stack) fit e = absurd fit
counts_held world objects body (suc dims) (value ∷ operands) [] fit e = absurd fit
counts_held world objects body (suc dims) (value ∷ operands) (type ∷ stack) fit e =
    let parts = and_parts (is_int type) (takes (replicate dims is_int) stack) e in
    let whole = number_held world objects body value type fit.0 parts.0 in
    let more = counts_held world objects body dims operands stack fit.1 parts.1 in
    record {
      numbers = whole.0 ∷ more.numbers;
      rest = more.rest;
      is = ap (λ v. numbers_in (suc dims) (v ∷ operands)) whole.1 ∙ ap (option_map (λ (r : List ℤ × List Value). (whole.0 ∷ r.0, r.1))) more.is;
      count = ap suc more.count;
      counted = (whole.2, more.counted);
      fit = more.fit;
    }

all_reverse : {X : Type 0} (P : X → Type 0) (xs : List X) → AllByRecursion P xs → AllByRecursion P (reverse xs)
all_reverse P [] all = tt
all_reverse P (x ∷ xs) all = subst (AllByRecursion P) (sym (reverse-append (x ∷ []) xs)) (all_append P (reverse xs) (x ∷ []) (all_reverse P xs all.1) (all.0, tt))

counts_fit : (numbers : List ℤ) → AllByRecursion (FitsSigned w32) numbers → AllByRecursion CountFits (map count_of numbers)
counts_fit [] all = tt
counts_fit (number ∷ numbers) all = (count_fits number all.0, counts_fit numbers all.1)

module _ {world : World} {tables : Tables} {state : State} {frame : Frame} {others : List Frame} {body : Body} {types after : VFrame} (array : TypeRef) (dims : ℕ) (some : 1 ≤ dims) (few : dims ≤ array.dims)
    (at : At world tables state frame others body (op.MultiArray array dims) types after) where
  abbrev tests : List (VType → Bool)
  tests = replicate dims is_int

  arrays_made : (negative : Bool) (cells : ℕ) (counts : List ℕ) → AllByRecursion CountFits counts → length counts ≡ dims → (operands : List Value) → AreEach (ValueFits world state.objects body) operands (drop (length tests) types.stack)
      → Goes at tests (known.Ref array ∷ []) types.stack
      → MoveFits world tables (if negative then throws world state (frame ∷ others) negative_array_size_exception
      else does_next (place_need cells) [] (with_objects state (arrays_of array counts (length state.objects))) frame others (pc_after body.ops frame.pc) (Name (length state.objects) ∷ operands))
  arrays_made true cells counts counted count operands fit goes = exception_thrown at negative_array_size_exception (omega arith) refl refl refl
  arrays_made false cells counts counted count operands fit goes =
      let more = arrays_of array counts (length state.objects) in
      let next = with_objects state more in
      let placed : IsPlaced next.objects (length state.objects) more = behind state.objects more in
      let fit_more = arrays_fit world at.set.closed next.objects array counts counted (names_known at) (omega (arith, count, few)) (length state.objects) placed in
      let follows : Follows world tables state next = append_follows at more fit_more in
      let pushed = outer_named world at.set.closed next.objects array counts (length state.objects) (names_known at) (omega (arith, count, some)) placed body in
      goes (place_need cells) [] next (Name (length state.objects) ∷ operands) follows
      (pushed, each_grows world tables state.objects next.objects (grows at next follows) body operands (drop (length tests) types.stack) fit)

  counted : (held : HasCounts world state.objects body dims frame.operands types.stack) → Goes at tests (known.Ref array ∷ []) types.stack
      → MoveFits world tables (make_arrays world state frame others (pc_after body.ops frame.pc) array (numbers_in dims frame.operands))
  counted held goes =
      let counts = map count_of (reverse held.numbers) in
      let count : length counts ≡ dims = length-map (reverse held.numbers) count_of ∙ length-reverse held.numbers ∙ held.count in
      subst (λ found. MoveFits world tables (make_arrays world state frame others (pc_after body.ops frame.pc) array found)) (sym held.is)
      (arrays_made (any_negative held.numbers) (cells_of array counts) counts (counts_fit (reverse held.numbers) (all_reverse (FitsSigned w32) held.numbers held.counted)) count held.rest held.fit goes)

-- an instruction asks for one dimension or more, and for no more than the array has
pub multi_array_fits : (array : TypeRef) (dims : ℕ) → 1 ≤ dims → dims ≤ array.dims → MoveLemma (op.MultiArray array dims)
multi_array_fits array dims some few parts world tables set state frame others frames fits body types after stands has =
    let at : At world tables state frame others body (op.MultiArray array dims) types after = record { parts = parts; set = set; frames = frames; fits = fits; stands = stands; has = has } in
    let int_tests = replicate dims is_int in
    let by = plain_rule at int_tests (known.Ref array ∷ []) refl in
    counted array dims some few at (counts_held world state.objects body dims frame.operands types.stack has.operands by.taken) (goes_by at int_tests (known.Ref array ∷ []) refl by)
