-- What is known as an int: a parameter that is one is declared as a whole number, and only a store of an int makes another
-- local one, where no instruction constructs an object.
use Rattle.std.proofs.Common.{◌≡◌, inl, inr, ℕ, zero, suc, ◌+◌, ◌-◌, ◌≤◌, Bool, true, false, ◌&&◌, ◌||◌, not, nat_eq, nat_lt, if◌then◌else◌, List, [], ◌∷◌, map, length, replicate, Option, Some, None, Ok, Err, option_map, option_and_then, unwrap_or, slice_get, refl, sym, ap, subst, ◌∙◌, arith}
use Rattle.std.specs.Prelude.{slice_set}
use Rattle.std.specs.List.{AllByRecursion}
use Rattle.std.specs.Option.{option_map_or}
use Rattle.std.proofs.lemmas.Bool.{cases_Bool, and_parts, eqb-true, false≢true}
use Rattle.std.proofs.lemmas.Bool.Decides.{nat_tests}
use Rattle.std.proofs.lemmas.List.{length-set}
use Rattle.std.proofs.lemmas.Option.{none-some, same_Some, slice_get_within, slice_get-map}
use Rattle.class_pool.specs.declared.descriptor.Kind.{Kind}
use Rattle.class_pool.specs.declared.descriptor.Kind.TheVariants as declared
use Rattle.class_pool.specs.declared.types.TypeBase.{TypeBase}
use Rattle.class_pool.specs.declared.types.TypeBase.TheVariants as base
use Rattle.class_pool.specs.declared.types.TypeRef.{TypeRef}
use Rattle.class_pool.specs.Descriptors.{HasDims}
use Rattle.class_file.specs.declared.record.ClassFile.{ClassFile}
use Rattle.class_tree.specs.Merge.{merge}
use Rattle.class_tree.specs.Subtypes.{class_type}
use Rattle.insn_form.specs.declared.StackForm.{StackForm}
use Rattle.insn_form.specs.declared.StackForm.TheVariants as form
use Rattle.insn_form.specs.declared.ValueKind.{ValueKind}
use Rattle.insn_form.specs.declared.ValueKind.TheVariants as value_kind
use Rattle.body_form.specs.declared.body.Body.{Body}
use Rattle.body_form.specs.declared.op.Op.{Op}
use Rattle.body_form.specs.declared.op.Op.TheVariants as op
use Rattle.body_form.specs.declared.types.VFrame.{VFrame}
use Rattle.body_form.specs.declared.types.VType.{VType}
use Rattle.body_form.specs.declared.types.VType.TheVariants as known
use Rattle.body_form.specs.Flow.{goes_on}
use Rattle.jvm_model.specs.Initialisers.{is_whole_kind}
use Rattle.jvm_model.specs.Resolution.{Resolved, and_then, base_named, class_named, type_with}
use Rattle.jvm_model.specs.TypesFrames.{is_int, may_be_local, merge_lists, receiver_of, parameter_of, arguments_of, start_frame, is_constructor, value_in}
use Rattle.jvm_model.specs.TypesRules.{Change, change_of, changed, renamed, stored, has_kind, is_within, is_last, where_within, frame_after, op_at, plain, plain_of, load, store, increment, restack, takes, returned, result_of, field_value}
use Rattle.jvm_model.specs.WidthsSlots.{first_parameter, parameter_at, is_parameter, is_store, is_stored}
use Rattle.set_image.specs.LinkRefusals.{is_built}
use Rattle.follow_operands.proofs.LocalRooms.{or_second}
use Rattle.follow_operands.proofs.LocalRules.{where_true, and_then_some}
use Rattle.follow_operands.proofs.ReadLists.{IsReadOf, read_appended, read_copy}
use Rattle.follow_operands.proofs.SetLocals.{get_set, get_beside}
use Rattle.follow_operands.proofs.StoredTypes.{stores_by_store}
use Rattle.follow_operands.proofs.WideLocals.{any_there}

-- ---- types of ints

neither_int : (b : Bool) (pc : ℕ) → is_int (if b then known.New pc else known.Top) ≡ true → ⊥
neither_int true pc is = cc
neither_int false pc is = cc

-- what merges to an int is one
merged_int : (files : List ClassFile) (upper lower : VType) → is_int (merge files upper lower) ≡ true → is_int lower ≡ true
merged_int files known.Int known.Int is = refl
merged_int files known.Null known.Null is = is
merged_int files known.Null (known.Ref t) is = is
merged_int files (known.Ref s) known.Null is = is
merged_int files (known.Ref s) (known.Ref t) is = is
merged_int files (known.New p) (known.New q) is = absurd (neither_int (nat_eq p q) p is)
merged_int files known.This known.This is = is
merged_int files a b is = absurd (false≢true is)

no_class : (found : Resolved ℕ) → is_int (unwrap_or (value_in (and_then (λ of. Ok (type_with 0 of)) (and_then (λ (class : ℕ). Ok (base.Class class)) found))) known.Top) ≡ true → ⊥
no_class (Ok class) is = cc
no_class (Err why) is = cc

no_array : (dims : ℕ) (found : Resolved TypeBase) → 1 ≤ dims → is_int (unwrap_or (value_in (and_then (λ of. Ok (type_with dims of)) found)) known.Top) ≡ true → ⊥
no_array zero found some is = absurd (omega (arith, some))
no_array (suc dims) (Ok of) some is = cc
no_array (suc dims) (Err why) some is = cc

-- a parameter that is known as an int is declared as a whole number
parameter_int : (files : List ClassFile) (k : Kind) → HasDims k → is_int (parameter_of files k) ≡ true → is_whole_kind k ≡ true
parameter_int files declared.Byte dims is = refl
parameter_int files declared.Char dims is = refl
parameter_int files declared.Short dims is = refl
parameter_int files declared.Int dims is = refl
parameter_int files declared.Boolean dims is = refl
parameter_int files (declared.Class name) dims is = absurd (no_class (class_named files name) is)
parameter_int files (declared.Array count of) dims is = absurd (no_array count (base_named files of) dims.0 is)
parameter_int files declared.Long dims is = is
parameter_int files declared.Float dims is = is
parameter_int files declared.Double dims is = is

-- ---- no object is constructed

-- the change renames no type
RenamesNone : Option Change → Type 0
RenamesNone found = (change : Change) → found ≡ Some change → change.renames ≡ None

none_made : RenamesNone None
unfolding RenamesNone
none_made change is = absurd (none-some change is)

one_made : (made : Change) → made.renames ≡ None → RenamesNone (Some made)
unfolding RenamesNone
one_made made none change is = ap (λ (c : Change). c.renames) (sym (same_Some made change is)) ∙ none

where_made : (test : Bool) (found : Option Change) → RenamesNone found → RenamesNone (if test then found else None)
where_made true found made = made
where_made false found made = none_made

plain_made : (frame : VFrame) (tests : List (VType → Bool)) (pushes : List VType) → RenamesNone (plain frame tests pushes)
plain_made frame tests pushes = where_made (takes tests frame.stack) _ (one_made _ refl)

plain_of_made : (frame : VFrame) (tests : List (VType → Bool)) (pushes : Option (List VType)) → RenamesNone (plain_of frame tests pushes)
plain_of_made frame tests None = none_made
plain_of_made frame tests (Some pushes) = plain_made frame tests pushes

load_made : (frame : VFrame) (k : ValueKind) (found : Option VType) → RenamesNone (load frame k found)
load_made frame k None = none_made
load_made frame k (Some type) = where_made (has_kind k type) _ (plain_made frame [] (type ∷ []))

increment_made : (frame : VFrame) (found : Option VType) → RenamesNone (increment frame found)
increment_made frame None = none_made
increment_made frame (Some type) = where_made (is_int type) _ (plain_made frame [] [])

store_made : (frame : VFrame) (k : ValueKind) (local : ℕ) (stack : List VType) → RenamesNone (store frame k local stack)
store_made frame k local [] = none_made
store_made frame k local (type ∷ stack) = where_made (has_kind k type && nat_lt local (length frame.locals)) _ (one_made _ refl)

restack_made : (frame : VFrame) (f : StackForm) (stack : List VType) → RenamesNone (restack frame f stack)
restack_made frame form.Pop (a ∷ rest) = one_made _ refl
restack_made frame form.Pop2 (a ∷ b ∷ rest) = one_made _ refl
restack_made frame form.Dup (a ∷ rest) = one_made _ refl
restack_made frame form.DupX1 (a ∷ b ∷ rest) = one_made _ refl
restack_made frame form.DupX2 (a ∷ b ∷ c ∷ rest) = one_made _ refl
restack_made frame form.Dup2 (a ∷ b ∷ rest) = one_made _ refl
restack_made frame form.Dup2X1 (a ∷ b ∷ c ∷ rest) = one_made _ refl
restack_made frame form.Dup2X2 (a ∷ b ∷ c ∷ d ∷ rest) = one_made _ refl
restack_made frame form.Swap (a ∷ b ∷ rest) = one_made _ refl
restack_made frame f stack = none_made

tests_made : (frame : VFrame) (tests : Option (List (VType → Bool))) → RenamesNone (option_and_then (λ tests. plain frame tests []) tests)
tests_made frame None = none_made
tests_made frame (Some tests) = plain_made frame tests []

return_made : (frame : VFrame) (pending : Bool) (tests : Option (List (VType → Bool))) → RenamesNone (if pending then None else option_and_then (λ tests. plain frame tests []) tests)
return_made frame true tests = none_made
return_made frame false tests = tests_made frame tests

built_made : (files : List ClassFile) (body : Body) (pc : ℕ) (instruction : Op) (frame : VFrame) → is_built instruction ≡ true → RenamesNone (change_of files body pc instruction frame)
built_made files body pc op.Nop frame built = plain_made frame _ _
built_made files body pc (op.Const constant) frame built = plain_made frame _ _
built_made files body pc (op.Load k local) frame built = load_made frame k (slice_get frame.locals local)
built_made files body pc (op.Store k local) frame built = store_made frame k local frame.stack
built_made files body pc (op.Inc local amount) frame built = increment_made frame (slice_get frame.locals local)
built_made files body pc (op.Stack f) frame built = restack_made frame f frame.stack
built_made files body pc (op.Bin operation) frame built = plain_made frame _ _
built_made files body pc (op.Unary operation) frame built = plain_made frame _ _
built_made files body pc (op.If cond target) frame built = plain_made frame _ _
built_made files body pc (op.IfCmp cond target) frame built = plain_made frame _ _
built_made files body pc (op.IfRef cond target) frame built = plain_made frame _ _
built_made files body pc (op.Goto target) frame built = plain_made frame _ _
built_made files body pc (op.Switch f default rows) frame built = plain_made frame _ _
built_made files body pc (op.Return k) frame built = return_made frame frame.pending (returned files body.result k)
built_made files body pc (op.GetStatic used) frame built = plain_of_made frame _ (field_value files used)
built_made files body pc (op.PutStatic used) frame built = plain_made frame _ _
built_made files body pc (op.CallStatic used) frame built = plain_of_made frame _ (result_of files used.descriptor.result)
built_made files body pc instruction frame built = absurd (false≢true built)

-- ---- lists of types

module _ (body : Body) where
  -- a parameter that is a whole number, or one that is stored as such
  abbrev pub is_numbered : ℕ → Bool
  is_numbered local = is_parameter is_whole_kind body local || is_stored value_kind.Int body local

  abbrev pub IsNumber : ℕ → VType → Type 0
  IsNumber local type = is_int type ≡ true → is_numbered local ≡ true

  -- each local that is known as an int is so
  unfoldable pub AreNumbers : List VType → Type 0
  AreNumbers types = (local : ℕ) (type : VType) → slice_get types local ≡ Some type → IsNumber local type

  -- the same as a test
  is_number : ℕ → VType → Bool
  is_number local type = if is_int type then is_numbered local else true

  pub are_numbers : ℕ → List VType → Bool
  are_numbers from [] = true
  are_numbers from (type ∷ types) = is_number from type && are_numbers (suc from) types

  number_if : (local : ℕ) (type : VType) (is : Bool) → is_int type ≡ is → IsNumber local type → (if is then is_numbered local else true) ≡ true
  number_if local type true is number = number is
  number_if local type false is number = refl

  and_true : (a b : Bool) → a ≡ true → b ≡ true → (a && b) ≡ true
  and_true true b is other = other
  and_true false b is other = absurd (false≢true is)

  all_tested : (from : ℕ) (types : List VType) → ((i : ℕ) (type : VType) → slice_get types i ≡ Some type → IsNumber (from + i) type) → are_numbers from types ≡ true
  unfolding is_number are_numbers
  all_tested from [] numbers = refl
  all_tested from (type ∷ types) numbers =
      let zero_is : from + 0 ≡ from = omega arith in
      let here : IsNumber from type = subst (λ (l : ℕ). IsNumber l type) zero_is (numbers 0 type refl) in
      and_true (is_number from type) (are_numbers (suc from) types) (number_if from type (is_int type) refl here)
      (all_tested (suc from) types (λ i one is.
      let next : from + suc i ≡ suc from + i = omega arith in
      subst (λ (l : ℕ). IsNumber l one) next (numbers (suc i) one is)))

  if_number : (local : ℕ) (type : VType) → is_number local type ≡ true → IsNumber local type
  unfolding is_number
  if_number local type number is = sym (ap (λ (b : Bool). if b then is_numbered local else true) is) ∙ number

  each_tested : (from : ℕ) (types : List VType) → are_numbers from types ≡ true → (i : ℕ) (type : VType) → slice_get types i ≡ Some type → IsNumber (from + i) type
  unfolding are_numbers
  each_tested from [] numbers i type is = absurd (none-some type is)
  each_tested from (first ∷ types) numbers zero type is =
      let parts = and_parts (is_number from first) (are_numbers (suc from) types) numbers in
      let at : from ≡ from + 0 = omega arith in
      let here : IsNumber from type = subst (λ (t : VType). IsNumber from t) (same_Some first type is) (if_number from first parts.0) in
      subst (λ (l : ℕ). IsNumber l type) at here
  each_tested from (first ∷ types) numbers (suc i) type is =
      let parts = and_parts (is_number from first) (are_numbers (suc from) types) numbers in
      let at : suc from + i ≡ from + suc i = omega arith in
      subst (λ (l : ℕ). IsNumber l type) at (each_tested (suc from) types parts.1 i type is)

  pub are_tested : (types : List VType) → are_numbers 0 types ≡ true → AreNumbers types
  unfolding AreNumbers
  are_tested types numbers local type is = let at : 0 + local ≡ local = omega arith in subst (λ (l : ℕ). IsNumber l type) at (each_tested 0 types numbers local type is)

  pub test_of : (types : List VType) → AreNumbers types → are_numbers 0 types ≡ true
  unfolding AreNumbers
  test_of types numbers = all_tested 0 types (λ i type is. let at : i ≡ 0 + i = omega arith in subst (λ (l : ℕ). IsNumber l type) at (numbers i type is))

  -- ---- merges

  pub record IsMergedInt (lowers : List VType) (local : ℕ) : Type 0 where
    pub type : VType
    pub there : slice_get lowers local ≡ Some type
    pub int : is_int type ≡ true

  merged_one : (files : List ClassFile) (a b : VType) (lowers : List VType) (rest : Option (List VType)) (merged : List VType)
      → ((types : List VType) → rest ≡ Some types → (i : ℕ) (type : VType) → slice_get types i ≡ Some type → is_int type ≡ true → IsMergedInt lowers i)
      → option_map (λ types. merge files a b ∷ types) rest ≡ Some merged → (i : ℕ) (type : VType) → slice_get merged i ≡ Some type → is_int type ≡ true → IsMergedInt (b ∷ lowers) i
  merged_one files a b lowers None merged later is i type there int = absurd (none-some merged is)
  merged_one files a b lowers (Some types) merged later is zero type there int =
      let at : slice_get (merge files a b ∷ types) 0 ≡ Some type = ap (λ (l : List VType). slice_get l 0) (same_Some (merge files a b ∷ types) merged is) ∙ there in
      let same = same_Some (merge files a b) type at in
      record { type = b; there = refl; int = merged_int files a b (subst (λ (t : VType). is_int t ≡ true) (sym same) int) }
  merged_one files a b lowers (Some types) merged later is (suc i) type there int =
      let at : slice_get types i ≡ Some type = ap (λ (l : List VType). slice_get l (suc i)) (same_Some (merge files a b ∷ types) merged is) ∙ there in
      let found = later types refl i type at int in
      record { type = found.type; there = found.there; int = found.int }

  pub merged_from : (files : List ClassFile) (uppers lowers merged : List VType) → merge_lists files may_be_local uppers lowers ≡ Some merged
      → (i : ℕ) (type : VType) → slice_get merged i ≡ Some type → is_int type ≡ true → IsMergedInt lowers i
  unfolding merge_lists
  merged_from files [] [] merged is i type there int = absurd (none-some type (ap (λ (l : List VType). slice_get l i) (same_Some [] merged is) ∙ there))
  merged_from files [] (b ∷ lowers) merged is i type there int = absurd (none-some merged is)
  merged_from files (a ∷ uppers) [] merged is i type there int = absurd (none-some merged is)
  merged_from files (a ∷ uppers) (b ∷ lowers) merged is i type there int =
      merged_one files a b lowers (merge_lists files may_be_local uppers lowers) merged (merged_from files uppers lowers) is i type there int

  -- ---- the start

  no_receiver : (instance constructor : Bool) (of : TypeRef) (local : ℕ) (type : VType) → slice_get (if instance then (if constructor then known.This else known.Ref of) ∷ [] else []) local ≡ Some type → is_int type ≡ true → ⊥
  no_receiver true true of zero type is int = let same = same_Some known.This type is in let bad : is_int known.This ≡ true = ap is_int same ∙ int in cc
  no_receiver true false of zero type is int = let same = same_Some (known.Ref of) type is in let bad : is_int (known.Ref of) ≡ true = ap is_int same ∙ int in cc
  no_receiver true constructor of (suc local) type is int = absurd (none-some type is)
  no_receiver false constructor of local type is int = absurd (none-some type is)

  receiver_count : (instance : Bool) (type : VType) → length (if instance then type ∷ [] else []) ≡ (if instance then 1 else 0)
  receiver_count true type = refl
  receiver_count false type = refl

  parameter_there : (local place : ℕ) → local ≡ first_parameter body + place → parameter_at body local ≡ slice_get body.params place
  parameter_there local place at =
      let test : nat_lt local (first_parameter body) ≡ false = grind (arith, nat_tests, at) in
      let rest : local - first_parameter body ≡ place = omega (arith, at) in
      ap (λ (b : Bool). if b then None else slice_get body.params (local - first_parameter body)) test ∙ ap (slice_get body.params) rest

  dims_at : (params : List Kind) → AllByRecursion HasDims params → (i : ℕ) (k : Kind) → slice_get params i ≡ Some k → HasDims k
  dims_at [] all i k is = absurd (none-some k is)
  dims_at (first ∷ params) all zero k is = subst HasDims (same_Some first k is) all.0
  dims_at (first ∷ params) all (suc i) k is = dims_at params all.1 i k is

  mapped_some : (files : List ClassFile) (found : Option Kind) (type : VType) → option_map (parameter_of files) found ≡ Some type → (k : Kind) × (found ≡ Some k) × (parameter_of files k ≡ type)
  mapped_some files None type is = absurd (none-some type is)
  mapped_some files (Some k) type is = (k, refl, same_Some (parameter_of files k) type is)

  module _ (files : List ClassFile) (dims : AllByRecursion HasDims body.params) where
    parameters_are : (local place : ℕ) (type : VType) → local ≡ first_parameter body + place → slice_get (map (parameter_of files) body.params) place ≡ Some type → IsNumber local type
    parameters_are local place type at is int =
        let found = mapped_some files (slice_get body.params place) type (sym (slice_get-map (parameter_of files) body.params place) ∙ is) in
        let whole = parameter_int files found.0 (dims_at body.params dims place found.0 found.1) (ap is_int found.2 ∙ int) in
        ap (λ (found : Option Kind). option_map_or is_whole_kind found false || is_stored value_kind.Int body local) (parameter_there local place at ∙ found.1)
        ∙ ap (λ (b : Bool). b || is_stored value_kind.Int body local) whole

    arguments_are : (local : ℕ) (type : VType) → IsReadOf (receiver_of files body) (map (parameter_of files) body.params) local type → IsNumber local type
    arguments_are local type (inl receiver) int = absurd (no_receiver body.instance (is_constructor files body) (class_type body.class) local type receiver int)
    arguments_are local type (inr parameter) int =
        let count : length (receiver_of files body) ≡ first_parameter body = receiver_count body.instance _ in
        let at = parameter.1 in
        parameters_are local parameter.0 type (omega (arith, at, count)) parameter.2 int

    start_by : (count local : ℕ) (type : VType) → IsReadOf (arguments_of files body) (replicate count known.Top) local type → IsNumber local type
    start_by count local type (inl argument) int =
        arguments_are local type (read_appended (receiver_of files body) (map (parameter_of files) body.params) local type argument) int
    start_by count local type (inr top) int =
        let same = read_copy count known.Top top.0 type top.2 in
        let bad : is_int known.Top ≡ true = subst (λ (t : VType). is_int t ≡ true) same int in
        cc

    pub start_numbers : AreNumbers (start_frame files body).locals
    unfolding AreNumbers
    start_numbers local type is =
        let count = body.max_locals - length (arguments_of files body) in
        start_by count local type (read_appended (arguments_of files body) (replicate count known.Top) local type is)

  -- ---- changes

  stored_numbers : (stores : Option (ℕ × VType)) (types : List VType) → AreNumbers types → ((local : ℕ) (type : VType) → stores ≡ Some (local, type) → IsNumber local type) → AreNumbers (stored stores types)
  unfolding AreNumbers
  stored_numbers None types numbers sets local type is int = numbers local type is int
  stored_numbers (Some (at, set)) types numbers sets local type is int =
      elim (cases_Bool (nat_eq local at)) [
        | inl same ↦
            let one = eqb-true local at same in
            let there : slice_get (slice_set types at set) at ≡ Some type = subst (λ (l : ℕ). slice_get (slice_set types at set) l ≡ Some type) one is in
            let within = slice_get_within (slice_set types at set) at type there in
            let long = length-set types at set in
            let value : set ≡ type = same_Some set type (sym (get_set types at set (omega (arith, within, long))) ∙ there) in
            subst (λ (l : ℕ). is_numbered l ≡ true) (sym one) (sets at set refl (ap is_int value ∙ int))
        | inr differs ↦ numbers local type (sym (get_beside types at local set differs) ∙ is) int
      ]

  no_reference : (type : VType) → has_kind value_kind.Ref type ≡ true → is_int type ≡ true → ⊥
  no_reference known.Int reference int = cc
  no_reference type reference int = cc

  store_numbers : (pc : ℕ) (instruction : Op) → op_at body.ops pc ≡ Some instruction → (local : ℕ) (type : VType) (k : ValueKind) → instruction ≡ op.Store k local → has_kind k type ≡ true → IsNumber local type
  store_numbers pc instruction at local type value_kind.Ref is has int = absurd (no_reference type has int)
  store_numbers pc instruction at local type value_kind.Int is has int =
      or_second (is_parameter is_whole_kind body local) (is_stored value_kind.Int body local)
      (any_there (is_store value_kind.Int local) pc (op.Store value_kind.Int local) (λ pc. grind (arith, nat_tests)) body.ops (at ∙ ap (λ (i : Op). Some i) is))

  pub after_numbers : (files : List ClassFile) (pc : ℕ) (instruction : Op) (before after : VFrame) → op_at body.ops pc ≡ Some instruction → is_built instruction ≡ true → AreNumbers before.locals
      → frame_after files body pc instruction before ≡ Some after → AreNumbers after.locals
  unfolding RenamesNone
  after_numbers files pc instruction before after at built numbers is =
      let parts = where_true (is_within body before && not (goes_on instruction && is_last body.ops pc)) _ after is in
      let change = and_then_some (change_of files body pc instruction before) _ after parts.1 in
      let reached : where_within body (changed change.0 before) ≡ Some after = sym (ap (option_and_then (λ change. where_within body (changed change before))) change.1) ∙ parts.1 in
      let same = same_Some (changed change.0 before) after (where_true (is_within body (changed change.0 before)) _ after reached).1 in
      let kept = built_made files body pc instruction before built change.0 change.1 in
      let locals : stored change.0.stores before.locals ≡ after.locals =
      ap (λ (renames : Option (VType × VType)). stored change.0.stores (renamed renames before.locals)) (sym kept) ∙ ap (λ (f : VFrame). f.locals) same in
      subst AreNumbers locals
      (stored_numbers change.0.stores before.locals numbers
      (λ local type sets.
      let by = stores_by_store files body pc instruction before change.0 change.1 local type sets in
      store_numbers pc instruction at local type by.0 by.1 by.2))
