-- Where a right table says that a local is a reference, the local is a reference parameter or stored as a reference.
use Rattle.std.proofs.Common.{◌≡◌, inl, inr, ℕ, zero, suc, ◌+◌, ◌-◌, ◌<◌, Bool, true, false, ◌&&◌, ◌||◌, not, nat_eq, nat_lt, if◌then◌else◌, List, [], ◌∷◌, map, length, replicate, Option, Some, None, option_map, option_and_then, refl, sym, ap, subst, ◌∙◌, arith}
use Rattle.std.specs.Prelude.{slice_get, slice_set}
use Rattle.std.specs.Option.{option_map_or}
use Rattle.std.proofs.lemmas.Bool.{cases_Bool, and_parts, eqb-true}
use Rattle.std.proofs.lemmas.Bool.Decides.{nat_tests}
use Rattle.std.proofs.lemmas.List.{length-set}
use Rattle.std.proofs.lemmas.Option.{none-some, same_Some, slice_get_within, slice_get-map}
use Rattle.class_pool.specs.declared.descriptor.Kind.{Kind}
use Rattle.class_pool.specs.declared.descriptor.Kind.TheVariants as declared
use Rattle.class_file.specs.declared.record.ClassFile.{ClassFile}
use Rattle.class_tree.specs.Merge.{merge}
use Rattle.insn_form.specs.declared.ValueKind.{ValueKind}
use Rattle.insn_form.specs.declared.ValueKind.TheVariants as value_kind
use Rattle.body_form.specs.declared.body.Body.{Body}
use Rattle.body_form.specs.declared.op.Op.{Op}
use Rattle.body_form.specs.declared.op.Op.TheVariants as op
use Rattle.body_form.specs.declared.types.VFrame.{VFrame}
use Rattle.body_form.specs.declared.types.VType.{VType}
use Rattle.body_form.specs.declared.types.VType.TheVariants as known
use Rattle.body_form.specs.Flow.{goes_on}
use Rattle.jvm_model.specs.Initialisers.{is_reference_kind}
use Rattle.jvm_model.specs.TypesFrames.{may_be_local, merge_lists, receiver_of, parameter_of, arguments_of, start_frame}
use Rattle.jvm_model.specs.TypesRules.{change_of, changed, renamed, renamed_one, stored, is_same_object, is_any_reference, has_kind, is_within, is_last, where_within, frame_after, op_at}
use Rattle.jvm_model.specs.WidthsSlots.{first_parameter, parameter_at, is_parameter, is_reference_parameter, is_store, is_stored}
use Rattle.follow_operands.proofs.LocalRooms.{or_second}
use Rattle.follow_operands.proofs.LocalRules.{where_true, and_then_some}
use Rattle.follow_operands.proofs.ReadLists.{IsReadOf, read_appended, read_copy}
use Rattle.follow_operands.proofs.ReferenceSlots.{is_slotted}
use Rattle.follow_operands.proofs.SetLocals.{get_set, get_beside}
use Rattle.follow_operands.proofs.StoredTypes.{stores_by_store}
use Rattle.follow_operands.proofs.WideLocals.{any_there}

-- ---- types of references

not_top : (files : List ClassFile) (type : VType) → is_any_reference (merge files type known.Top) ≡ true → ⊥
not_top files known.Top is = cc
not_top files known.Int is = cc
not_top files known.Null is = cc
not_top files (known.Ref of) is = cc
not_top files (known.New pc) is = cc
not_top files known.This is = cc

not_int : (files : List ClassFile) (type : VType) → is_any_reference (merge files type known.Int) ≡ true → ⊥
not_int files known.Top is = cc
not_int files known.Int is = cc
not_int files known.Null is = cc
not_int files (known.Ref of) is = cc
not_int files (known.New pc) is = cc
not_int files known.This is = cc

-- what merges to a reference is one
merged_reference : (files : List ClassFile) (upper lower : VType) → is_any_reference (merge files upper lower) ≡ true → is_any_reference lower ≡ true
merged_reference files upper known.Top is = absurd (not_top files upper is)
merged_reference files upper known.Int is = absurd (not_int files upper is)
merged_reference files upper known.Null is = refl
merged_reference files upper (known.Ref of) is = refl
merged_reference files upper (known.New pc) is = refl
merged_reference files upper known.This is = refl

object_not : (from : VType) → (is_same_object from known.Top ≡ true → ⊥) × (is_same_object from known.Int ≡ true → ⊥)
object_not known.Top = (λ is. cc, λ is. cc)
object_not known.Int = (λ is. cc, λ is. cc)
object_not known.Null = (λ is. cc, λ is. cc)
object_not (known.Ref of) = (λ is. cc, λ is. cc)
object_not (known.New pc) = (λ is. cc, λ is. cc)
object_not known.This = (λ is. cc, λ is. cc)

object_reference : (from type : VType) → is_same_object from type ≡ true → is_any_reference type ≡ true
object_reference from known.Top is = absurd ((object_not from).0 is)
object_reference from known.Int is = absurd ((object_not from).1 is)
object_reference from known.Null is = refl
object_reference from (known.Ref of) is = refl
object_reference from (known.New pc) is = refl
object_reference from known.This is = refl

renamed_reference : (from to type : VType) (is : Bool) → is_same_object from type ≡ is → is_any_reference (if is then to else type) ≡ true → is_any_reference type ≡ true
renamed_reference from to type true same is = object_reference from type same
renamed_reference from to type false same is = is

-- a parameter that is known as a reference is declared as one
parameter_reference : (files : List ClassFile) (kind : Kind) → is_any_reference (parameter_of files kind) ≡ true → is_reference_kind kind ≡ true
parameter_reference files (declared.Class name) is = refl
parameter_reference files (declared.Array dims of) is = refl
parameter_reference files kind is = absurd cc

-- ---- lists of types

module _ (body : Body) where
  abbrev pub IsFine : ℕ → VType → Type 0
  IsFine local type = is_any_reference type ≡ true → is_slotted body local ≡ true

  -- each local that is known as a reference is so
  unfoldable pub AreFine : List VType → Type 0
  AreFine types = (local : ℕ) (type : VType) → slice_get types local ≡ Some type → IsFine local type

  -- the same as a test
  is_fine : ℕ → VType → Bool
  is_fine local type = if is_any_reference type then is_slotted body local else true

  pub are_fine : ℕ → List VType → Bool
  are_fine from [] = true
  are_fine from (type ∷ types) = is_fine from type && are_fine (suc from) types

  fine_if : (local : ℕ) (type : VType) (is : Bool) → is_any_reference type ≡ is → IsFine local type → (if is then is_slotted body local else true) ≡ true
  fine_if local type true is fine = fine is
  fine_if local type false is fine = refl

  and_true : (a b : Bool) → a ≡ true → b ≡ true → (a && b) ≡ true
  and_true true b is other = other
  and_true false b is other = cc

  tests_fine : (from : ℕ) (types : List VType) → ((i : ℕ) (type : VType) → slice_get types i ≡ Some type → IsFine (from + i) type) → are_fine from types ≡ true
  unfolding is_fine are_fine
  tests_fine from [] fine = refl
  tests_fine from (type ∷ types) fine =
      let zero_is : from + 0 ≡ from = omega arith in
      let here : IsFine from type = subst (λ (l : ℕ). IsFine l type) zero_is (fine 0 type refl) in
      and_true (is_fine from type) (are_fine (suc from) types) (fine_if from type (is_any_reference type) refl here)
      (tests_fine (suc from) types (λ i one is.
      let next : from + suc i ≡ suc from + i = omega arith in
      subst (λ (l : ℕ). IsFine l one) next (fine (suc i) one is)))

  if_fine : (local : ℕ) (type : VType) → is_fine local type ≡ true → IsFine local type
  unfolding is_fine
  if_fine local type fine is = sym (ap (λ (b : Bool). if b then is_slotted body local else true) is) ∙ fine

  fine_tested : (from : ℕ) (types : List VType) → are_fine from types ≡ true → (i : ℕ) (type : VType) → slice_get types i ≡ Some type → IsFine (from + i) type
  unfolding are_fine
  fine_tested from [] fine i type is = absurd (none-some type is)
  fine_tested from (first ∷ types) fine zero type is =
      let parts = and_parts (is_fine from first) (are_fine (suc from) types) fine in
      let at : from ≡ from + 0 = omega arith in
      let here : IsFine from type = subst (λ (t : VType). IsFine from t) (same_Some first type is) (if_fine from first parts.0) in
      subst (λ (l : ℕ). IsFine l type) at here
  fine_tested from (first ∷ types) fine (suc i) type is =
      let parts = and_parts (is_fine from first) (are_fine (suc from) types) fine in
      let at : suc from + i ≡ from + suc i = omega arith in
      subst (λ (l : ℕ). IsFine l type) at (fine_tested (suc from) types parts.1 i type is)

  pub are_tested : (types : List VType) → are_fine 0 types ≡ true → AreFine types
  unfolding AreFine
  are_tested types fine local type is = let at : 0 + local ≡ local = omega arith in subst (λ (l : ℕ). IsFine l type) at (fine_tested 0 types fine local type is)

  pub test_of : (types : List VType) → AreFine types → are_fine 0 types ≡ true
  unfolding AreFine
  test_of types fine = tests_fine 0 types (λ i type is. let at : i ≡ 0 + i = omega arith in subst (λ (l : ℕ). IsFine l type) at (fine i type is))

  -- ---- merges

  pub record IsMerged (lowers : List VType) (local : ℕ) : Type 0 where
    pub type : VType
    pub there : slice_get lowers local ≡ Some type
    pub reference : is_any_reference type ≡ true

  merged_one : (files : List ClassFile) (a b : VType) (lowers : List VType) (rest : Option (List VType)) (merged : List VType)
      → ((types : List VType) → rest ≡ Some types → (i : ℕ) (type : VType) → slice_get types i ≡ Some type → is_any_reference type ≡ true → IsMerged lowers i)
      → option_map (λ types. merge files a b ∷ types) rest ≡ Some merged → (i : ℕ) (type : VType) → slice_get merged i ≡ Some type → is_any_reference type ≡ true → IsMerged (b ∷ lowers) i
  merged_one files a b lowers None merged later is i type there reference = absurd (none-some merged is)
  merged_one files a b lowers (Some types) merged later is zero type there reference =
      let at : slice_get (merge files a b ∷ types) 0 ≡ Some type = ap (λ (l : List VType). slice_get l 0) (same_Some (merge files a b ∷ types) merged is) ∙ there in
      let same = same_Some (merge files a b) type at in
      record { type = b; there = refl; reference = merged_reference files a b (subst (λ (t : VType). is_any_reference t ≡ true) (sym same) reference) }
  merged_one files a b lowers (Some types) merged later is (suc i) type there reference =
      let at : slice_get types i ≡ Some type = ap (λ (l : List VType). slice_get l (suc i)) (same_Some (merge files a b ∷ types) merged is) ∙ there in
      let found = later types refl i type at reference in
      record { type = found.type; there = found.there; reference = found.reference }

  pub merged_from : (files : List ClassFile) (uppers lowers merged : List VType) → merge_lists files may_be_local uppers lowers ≡ Some merged
      → (i : ℕ) (type : VType) → slice_get merged i ≡ Some type → is_any_reference type ≡ true → IsMerged lowers i
  unfolding merge_lists
  merged_from files [] [] merged is i type there reference =
      absurd (none-some type (ap (λ (l : List VType). slice_get l i) (same_Some [] merged is) ∙ there))
  merged_from files [] (b ∷ lowers) merged is i type there reference = absurd (none-some merged is)
  merged_from files (a ∷ uppers) [] merged is i type there reference = absurd (none-some merged is)
  merged_from files (a ∷ uppers) (b ∷ lowers) merged is i type there reference =
      merged_one files a b lowers (merge_lists files may_be_local uppers lowers) merged (merged_from files uppers lowers) is i type there reference

  pub by_parts : (pending : Bool) (locals stack : Option (List VType)) (upper : VFrame)
      → option_and_then (λ locals. option_map (λ stack. record { locals = locals; stack = stack; pending = pending }) stack) locals ≡ Some upper → locals ≡ Some upper.locals
  by_parts pending None stack upper is = absurd (none-some upper is)
  by_parts pending (Some locals) None upper is = absurd (none-some upper is)
  by_parts pending (Some locals) (Some stack) upper is =
      let frame : VFrame = record { locals = locals; stack = stack; pending = pending } in
      ap (λ (f : VFrame). Some f.locals) (same_Some frame upper is)

  -- ---- the start

  start_receiver : (is : Bool) (type : VType) → length (if is then type ∷ [] else []) ≡ (if is then 1 else 0)
  start_receiver true type = refl
  start_receiver false type = refl

  low_parameter : (local : ℕ) → local < first_parameter body → is_slotted body local ≡ true
  low_parameter local low =
      let test : nat_lt local (first_parameter body) ≡ true = grind (arith, nat_tests, low) in
      ap (λ (b : Bool). (if b then true else is_parameter is_reference_kind body local) || is_stored value_kind.Ref body local) test

  kind_slotted : (local : ℕ) (kind : Kind) → parameter_at body local ≡ Some kind → is_reference_kind kind ≡ true → (test : Bool) → ((if test then true else is_parameter is_reference_kind body local) || is_stored value_kind.Ref body local) ≡ true
  kind_slotted local kind at is true = refl
  kind_slotted local kind at is false =
      ap (λ (found : Option Kind). option_map_or is_reference_kind found false || is_stored value_kind.Ref body local) at
      ∙ ap (λ (b : Bool). b || is_stored value_kind.Ref body local) is

  parameter_there : (local place : ℕ) → local ≡ first_parameter body + place → parameter_at body local ≡ slice_get body.params place
  parameter_there local place at =
      let test : nat_lt local (first_parameter body) ≡ false = grind (arith, nat_tests, at) in
      let rest : local - first_parameter body ≡ place = omega (arith, at) in
      ap (λ (b : Bool). if b then None else slice_get body.params (local - first_parameter body)) test ∙ ap (slice_get body.params) rest

  mapped_some : (files : List ClassFile) (found : Option Kind) (type : VType) → option_map (parameter_of files) found ≡ Some type → (kind : Kind) × (found ≡ Some kind) × (parameter_of files kind ≡ type)
  mapped_some files None type is = absurd (none-some type is)
  mapped_some files (Some kind) type is = (kind, refl, same_Some (parameter_of files kind) type is)

  parameters_fine : (files : List ClassFile) (local place : ℕ) (type : VType) → local ≡ first_parameter body + place → slice_get (map (parameter_of files) body.params) place ≡ Some type → IsFine local type
  parameters_fine files local place type at is reference =
      let found = mapped_some files (slice_get body.params place) type (sym (slice_get-map (parameter_of files) body.params place) ∙ is) in
      let kind = parameter_reference files found.0 (ap is_any_reference found.2 ∙ reference) in
      kind_slotted local found.0 (parameter_there local place at ∙ found.1) kind (nat_lt local (first_parameter body))

  receiver_count : (files : List ClassFile) → length (receiver_of files body) ≡ first_parameter body
  receiver_count files = start_receiver body.instance _

  arguments_fine : (files : List ClassFile) (local : ℕ) (type : VType) → IsReadOf (receiver_of files body) (map (parameter_of files) body.params) local type → IsFine local type
  arguments_fine files local type (inl receiver) reference =
      let low = slice_get_within (receiver_of files body) local type receiver in
      let count = receiver_count files in
      low_parameter local (omega (arith, low, count))
  arguments_fine files local type (inr parameter) reference =
      let count = receiver_count files in
      let at = parameter.1 in
      parameters_fine files local parameter.0 type (omega (arith, at, count)) parameter.2 reference

  start_by : (files : List ClassFile) (count local : ℕ) (type : VType) → IsReadOf (arguments_of files body) (replicate count known.Top) local type → IsFine local type
  start_by files count local type (inl argument) reference =
      arguments_fine files local type (read_appended (receiver_of files body) (map (parameter_of files) body.params) local type argument) reference
  start_by files count local type (inr top) reference =
      let same = read_copy count known.Top top.0 type top.2 in
      let is : is_any_reference known.Top ≡ true = subst (λ (t : VType). is_any_reference t ≡ true) same reference in cc

  pub start_fine : (files : List ClassFile) → AreFine (start_frame files body).locals
  unfolding AreFine
  start_fine files local type is =
      let count = body.max_locals - length (arguments_of files body) in
      start_by files count local type (read_appended (arguments_of files body) (replicate count known.Top) local type is)

  -- ---- changes

  renamed_some : (from to : VType) (found : Option VType) (type : VType) → option_map (renamed_one from to) found ≡ Some type → (old : VType) × (found ≡ Some old) × (renamed_one from to old ≡ type)
  renamed_some from to None type is = absurd (none-some type is)
  renamed_some from to (Some old) type is = (old, refl, same_Some (renamed_one from to old) type is)

  renamed_fine : (renames : Option (VType × VType)) (types : List VType) → AreFine types → AreFine (renamed renames types)
  unfolding AreFine
  renamed_fine None types fine local type is reference = fine local type is reference
  renamed_fine (Some (from, to)) types fine local type is reference =
      let found = renamed_some from to (slice_get types local) type (sym (slice_get-map (renamed_one from to) types local) ∙ is) in
      fine local found.0 found.1 (renamed_reference from to found.0 (is_same_object from found.0) refl (ap is_any_reference found.2 ∙ reference))

  stored_fine : (stores : Option (ℕ × VType)) (types : List VType) → AreFine types → ((local : ℕ) (type : VType) → stores ≡ Some (local, type) → IsFine local type) → AreFine (stored stores types)
  unfolding AreFine
  stored_fine None types fine sets local type is reference = fine local type is reference
  stored_fine (Some (at, set)) types fine sets local type is reference =
      elim (cases_Bool (nat_eq local at)) [
        | inl same ↦
            let one = eqb-true local at same in
            let there : slice_get (slice_set types at set) at ≡ Some type = subst (λ (l : ℕ). slice_get (slice_set types at set) l ≡ Some type) one is in
            let within = slice_get_within (slice_set types at set) at type there in
            let long = length-set types at set in
            let value : set ≡ type = same_Some set type (sym (get_set types at set (omega (arith, within, long))) ∙ there) in
            subst (λ (l : ℕ). is_slotted body l ≡ true) (sym one) (sets at set refl (ap is_any_reference value ∙ reference))
        | inr differs ↦ fine local type (sym (get_beside types at local set differs) ∙ is) reference
      ]

  no_int : (type : VType) → has_kind value_kind.Int type ≡ true → is_any_reference type ≡ true → ⊥
  no_int known.Int int reference = cc
  no_int type int reference = cc

  store_fine : (pc : ℕ) (instruction : Op) → op_at body.ops pc ≡ Some instruction → (local : ℕ) (type : VType) (kind : ValueKind) → instruction ≡ op.Store kind local → has_kind kind type ≡ true → IsFine local type
  store_fine pc instruction at local type value_kind.Int is has reference = absurd (no_int type has reference)
  store_fine pc instruction at local type value_kind.Ref is has reference =
      or_second (is_reference_parameter body local) (is_stored value_kind.Ref body local)
      (any_there (is_store value_kind.Ref local) pc (op.Store value_kind.Ref local) (λ pc. grind (arith, nat_tests)) body.ops (at ∙ ap (λ (i : Op). Some i) is))

  pub after_fine : (files : List ClassFile) (pc : ℕ) (instruction : Op) (before after : VFrame) → op_at body.ops pc ≡ Some instruction → AreFine before.locals → frame_after files body pc instruction before ≡ Some after → AreFine after.locals
  after_fine files pc instruction before after at fine is =
      let parts = where_true (is_within body before && not (goes_on instruction && is_last body.ops pc)) _ after is in
      let change = and_then_some (change_of files body pc instruction before) _ after parts.1 in
      let reached : where_within body (changed change.0 before) ≡ Some after = sym (ap (option_and_then (λ change. where_within body (changed change before))) change.1) ∙ parts.1 in
      let same = same_Some (changed change.0 before) after (where_true (is_within body (changed change.0 before)) _ after reached).1 in
      subst (λ (f : VFrame). AreFine f.locals) same
      (stored_fine change.0.stores (renamed change.0.renames before.locals) (renamed_fine change.0.renames before.locals fine)
      (λ local type sets.
      let by = stores_by_store files body pc instruction before change.0 change.1 local type sets in
      store_fine pc instruction at local type by.0 by.1 by.2))
