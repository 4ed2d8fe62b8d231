-- The counts of the instructions of a set are small: the arguments of a call, the rows of a switch, and the dimensions of
-- an array that is made.
use Rattle.std.proofs.Common.{◌≡◌, inl, inr, ℕ, ◌<◌, ◌≤◌, Bool, true, false, List, length, slice_get, Some, None, Ok, ap, subst, ◌∙◌, arith}
use Rattle.std.specs.Prelude.{if◌then◌else◌}
use Rattle.std.specs.List.{AllByRecursion}
use Rattle.std.specs.Option.{ok_or}
use Rattle.std.proofs.lemmas.Bool.{cases_lt}
use Rattle.class_pool.specs.declared.descriptor.Descriptor.{Descriptor}
use Rattle.class_pool.specs.declared.descriptor.Kind.{Kind}
use Rattle.class_pool.specs.declared.descriptor.Kind.TheVariants.{Array}
use Rattle.class_pool.specs.declared.types.MemberId.{MemberId}
use Rattle.class_pool.specs.declared.types.TypeBase.TheVariants as base
use Rattle.class_pool.specs.declared.types.TypeRef.{TypeRef}
use Rattle.class_pool.specs.Pool.{Slots, utf8_at, class_name_at}
use Rattle.class_pool.specs.Descriptors.{dims_of, base_of, HasDims}
use Rattle.class_pool.specs.DescriptorReading.{method_of, field_of}
use Rattle.class_pool.proofs.descriptors.FieldTypes.{field_taken}
use Rattle.class_file.specs.Rules.{is_array_name, is_static_method}
use Rattle.class_file.specs.ReadingMembers.{head_in}
use Rattle.class_file.specs.declared.record.ClassFile.{ClassFile}
use Rattle.body_form.specs.declared.op.MethodUse.{MethodUse}
use Rattle.body_form.specs.declared.op.Op.{Op}
use Rattle.body_form.specs.declared.op.Op.TheVariants as op
use Rattle.class_tree.specs.Members.{Declaration, methods_of}
use Rattle.class_tree.specs.Tree.{Gathers}
use Rattle.class_tree.proofs.ancestors.Superclasses.{IsRanked}
use Rattle.jvm_model.specs.declared.refusal.Cause.TheVariants.{Unresolved, WrongKind, Denied}
use Rattle.jvm_model.specs.Resolution.{and_then, where_passes, type_with, class_named, base_named, kind_named, type_named, type_used, may_use_base, MethodName}
use Rattle.jvm_model.specs.MethodUses.{Call, use_of, call_used, special_target, special_use}
use Rattle.jvm_model.proofs.bodies.BodyNames.{then_ok, there_ok, passes_ok}
use Rattle.type_safety.proofs.facts.CodeRead.{IsRead}
use Rattle.type_safety.proofs.facts.ArgumentSlots.{arguments_few}
use Rattle.type_safety.proofs.facts.LibraryMethods.{library_method, native_few}
use Rattle.type_safety.proofs.facts.RunMethods.{method_of_file, method_rules, text_type}
use Rattle.type_safety.proofs.facts.FoundMethods.{named_at, looked}
use Rattle.type_safety.proofs.facts.NamedMethods.{CallSays, call_says}

abbrev pub HasFewArguments : MethodUse → Type 0
HasFewArguments used = length used.descriptor.params ≤ 255

-- what an instruction counts is little
abbrev pub HasFewCounts : Op → Type 0
HasFewCounts (op.Switch form default rows) = length rows < 65536
HasFewCounts (op.MultiArray array dims) = dims ≤ 255
HasFewCounts (op.CallVirtual used) = HasFewArguments used
HasFewCounts (op.CallSpecial used) = HasFewArguments used
HasFewCounts (op.CallStatic used) = HasFewArguments used
HasFewCounts (op.CallInterface used) = HasFewArguments used
HasFewCounts instruction = Unit {0}

-- ---- dimensions

dims_few : (kind : Kind) → HasDims kind → dims_of kind ≤ 255
dims_few (Array dims of) has = has.1
dims_few kind has = omega arith

module _ (files : List ClassFile) where
  named_few : (name : List ℕ) (type : TypeRef) → type_named files name ≡ Ok type → type.dims ≤ 255
  named_few name type e = by_name (is_array_name name) e
    where
      by_name : (array : Bool) → (if array then and_then (kind_named files) (ok_or (field_of name) Unresolved) else and_then (λ class. Ok (type_with 0 (base.Class class))) (class_named files name)) ≡ Ok type → type.dims ≤ 255
      by_name true e =
          let kind = then_ok (kind_named files) (ok_or (field_of name) Unresolved) type e in
          let is = field_taken name kind.0 (there_ok (field_of name) Unresolved kind.0 kind.1) in
          let of = then_ok (λ of. Ok (type_with (dims_of kind.0) of)) (base_named files (base_of kind.0)) type kind.2 in
          let same : type_with (dims_of kind.0) of.0 ≡ type = cc in
          subst (λ (t : TypeRef). t.dims ≤ 255) same (dims_few kind.0 is.0.0)
      by_name false e =
          let class = then_ok (λ class. Ok (type_with 0 (base.Class class))) (class_named files name) type e in
          let same : type_with 0 (base.Class class.0) ≡ type = cc in
          subst (λ (t : TypeRef). t.dims ≤ 255) same (omega arith)

  -- a type that is named has few dimensions
  pub type_few : (from : ℕ) (pool : Slots) (test : TypeRef → Bool) (index : ℕ) (type : TypeRef) → type_used files from pool test index ≡ Ok type → type.dims ≤ 255
  type_few from pool test index type e =
      let named =
      then_ok (λ name. and_then (λ type. and_then (λ _. where_passes (may_use_base files from type.base) Denied type) (where_passes (test type) WrongKind type)) (type_named files name))
      (ok_or (class_name_at pool index) WrongKind) type e in
      let typed = then_ok (λ type. and_then (λ _. where_passes (may_use_base files from type.base) Denied type) (where_passes (test type) WrongKind type)) (type_named files named.0) type named.2 in
      let tested = then_ok (λ _. where_passes (may_use_base files from typed.0.base) Denied typed.0) (where_passes (test typed.0) WrongKind typed.0) type typed.2 in
      let same : typed.0 ≡ type = passes_ok (may_use_base files from typed.0.base) Denied typed.0 type tested.2 in
      subst (λ (t : TypeRef). t.dims ≤ 255) same (named_few named.0 typed.0 typed.1)

-- ---- arguments

module _ (files : List ClassFile) (gathers : Gathers files None) (rank : ℕ → ℕ) (ranked : IsRanked files rank) (read : AllByRecursion IsRead files) where
  -- a method that is declared takes few
  declared_few : (id : MemberId) (declaration : Declaration) (type : Descriptor) → slice_get (methods_of files id.class) id.member ≡ Some declaration → method_of declaration.descriptor ≡ Some type → length type.params ≤ 255
  declared_few id declaration type there is =
      elim (cases_lt id.class 32) [
        | inl library ↦
            let found = library_method files id.class id.member declaration library there in
            let few = native_few found.native type (ap (λ (d : Declaration). method_of d.descriptor) found.is ∙ is) in
            omega (arith, few)
        | inr own ↦
            let stands = method_of_file files id.class id.member declaration own there in
            let rules = method_rules files read id.class id.member declaration stands in
            let same : rules.type ≡ type = text_type files read (utf8_at stands.has.file.pool stands.method.descriptor) declaration.descriptor type rules.type (ap (λ (d : Declaration). d.descriptor) stands.is) is rules.typed in
            let few = arguments_few (is_static_method stands.has.file.pool (head_in stands.method)) rules.type rules.slots in
            let same_params : length rules.type.params ≡ length type.params = ap (λ (d : Descriptor). length d.params) same in
            omega (arith, few, same_params)
      ]

  call_few : (from : ℕ) (tag : MethodName → Bool) (test : Call → Bool) (call : Call) → CallSays files from tag test call → length call.type.params ≤ 255
  call_few from tag test call says =
      let look = looked files gathers rank ranked call.class says.class call.named.member.name call.named.member.descriptor call.found says.found in
      let named = named_at files call.named.member.name call.named.member.descriptor look.at call.found look.is in
      declared_few call.found named.0.declaration call.type named.0.there (ap method_of named.0.descriptor_is ∙ says.type)

  -- so does what a call names
  pub found_few : (from : ℕ) (pool : Slots) (tag : MethodName → Bool) (test : Call → Bool) (index : ℕ) (used : MethodUse) → and_then (λ call. Ok (use_of files call call.found)) (call_used files from pool tag test index) ≡ Ok used → HasFewArguments used
  found_few from pool tag test index used e =
      let call = then_ok (λ call. Ok (use_of files call call.found)) (call_used files from pool tag test index) used e in
      let is : use_of files call.0 call.0.found ≡ used = cc in
      subst HasFewArguments is (call_few from tag test call.0 (call_says files from pool tag test index call.0 call.1))

  pub special_few : (from : ℕ) (pool : Slots) (tag : MethodName → Bool) (test : Call → Bool) (index : ℕ) (used : MethodUse) → and_then (special_use files from) (call_used files from pool tag test index) ≡ Ok used → HasFewArguments used
  special_few from pool tag test index used e =
      let call = then_ok (special_use files from) (call_used files from pool tag test index) used e in
      let target = then_ok (λ target. Ok (use_of files call.0 target)) (ok_or (special_target files from call.0) WrongKind) used call.2 in
      let is : use_of files call.0 target.0 ≡ used = cc in
      subst HasFewArguments is (call_few from tag test call.0 (call_says files from pool tag test index call.0 call.1))
