-- What the instructions of a body name is of the set: its classes, and types over them.
use Rattle.std.proofs.Common.{◌≡◌, ℕ, suc, ◌+◌, ◌≤◌, Bool, true, false, List, [], ◌∷◌, length, Option, Some, None, refl, sym, ap, ◌∙◌, subst, arith}
use Rattle.std.specs.Prelude.{Ok, Err, IfSome, ◌&&◌, ◌==◌, not, nat_eq, nat_lt, drop, if◌then◌else◌}
use Rattle.std.specs.Option.{ok_or}
use Rattle.std.proofs.lemmas.Bool.{false≢true, eqb-true, cond-false}
use Rattle.std.proofs.Math.Dec.{eqb-suc-zero}
use Rattle.std.proofs.Math.Bool.{and-true}
use Rattle.std.proofs.lemmas.Option.{none-some, same_Some}
use Rattle.std.specs.List.{AllByRecursion}
use Rattle.class_pool.specs.declared.descriptor.Base.{Base}
use Rattle.class_pool.specs.declared.descriptor.Base.TheVariants as named
use Rattle.class_pool.specs.declared.descriptor.Kind.{Kind}
use Rattle.class_pool.specs.declared.descriptor.Kind.TheVariants.{Array}
use Rattle.class_pool.specs.declared.types.TypeBase.{TypeBase}
use Rattle.class_pool.specs.declared.types.TypeBase.TheVariants as base
use Rattle.class_pool.specs.declared.types.TypeRef.{TypeRef}
use Rattle.class_pool.specs.Pool.{Slots, class_name_at}
use Rattle.class_pool.specs.Members.{MemberName}
use Rattle.class_pool.specs.Descriptors.{base_of, dims_of}
use Rattle.class_pool.specs.DescriptorReading.{◌>>=◌, base_at, brackets, plain_kind, kind_with, kind_at, field_of}
use Rattle.class_file.specs.declared.record.ClassFile.{ClassFile}
use Rattle.class_file.specs.Rules.{is_array_name}
use Rattle.class_code.specs.declared.insn.Insn.{Insn}
use Rattle.class_code.specs.declared.insn.Insn.TheVariants as insns
use Rattle.class_tree.specs.Set.{IsClass, number_of}
use Rattle.class_tree.specs.Subtypes.{IsType, IsBaseType, HasDimensions, array_of}
use Rattle.class_tree.specs.FieldLookup.{find_field}
use Rattle.class_tree.specs.Members.{member_flags}
use Rattle.class_file.specs.declared.record.HandlerRow.{HandlerRow}
use Rattle.class_file.specs.Rules.{is_static}
use Rattle.class_pool.specs.declared.types.MemberId.{MemberId}
use Rattle.class_pool.specs.DescriptorReading.{method_of}
use Rattle.class_pool.specs.Pool.{integer_at}
use Rattle.class_code.specs.declared.insn.ArrayKind.{ArrayKind}
use Rattle.class_code.specs.declared.insn.ArrayKind.TheVariants as array
use Rattle.class_code.specs.Code.{Insns, RiseFrom}
use Rattle.class_code.specs.Flow.{code_ways}
use Rattle.code_reach.specs.Reached.{Ways}
use Rattle.body_form.specs.declared.body.Body.{Body}
use Rattle.body_form.specs.declared.body.Guard.{Guard}
use Rattle.body_form.specs.declared.op.Op.{Op}
use Rattle.body_form.specs.declared.op.Op.TheVariants as op
use Rattle.body_form.specs.declared.op.FieldUse.{FieldUse}
use Rattle.body_form.specs.declared.op.MethodUse.{MethodUse}
use Rattle.body_form.specs.declared.op.Literal.TheVariants as literal
use Rattle.body_form.specs.declared.op.UnaryOp.TheVariants as unary
use Rattle.body_form.specs.Flow.{Ops}
use Rattle.jvm_model.specs.declared.refusal.Cause.{Cause}
use Rattle.jvm_model.specs.declared.refusal.Cause.TheVariants.{Unresolved, WrongKind, Denied}
use Rattle.jvm_model.specs.Resolution.{Resolved, and_then, where_passes, is_as_asked, class_named, base_named, kind_named, type_with, type_named, type_used, may_use_base, field_name_at, MethodName, method_name_at}
use Rattle.jvm_model.specs.FieldUses.{FieldAsked, may_use_field, field_found, field_tested, field_used}
use Rattle.jvm_model.specs.MethodUses.{Call, method_from, call_found, is_constructor, fits_call, special_target, fits_special, use_of, may_use_method, call_used, names_class_method, names_interface_method, names_method, virtual_call, static_call, argument_places, interface_call, special_use, special_call}
use Rattle.jvm_model.specs.Instructions.{may_be_made, may_be_element, has_counted, any_type, element_of, read_of, write_of, op_of, may_be_caught, class_in, caught_by}
use Rattle.jvm_model.specs.Bodies.{AreEach, IsFamily, IsResolved, IsNop, IsGuard, Coded, IsBody}
use Rattle.jvm_model.specs.TypesNames.{NamesKnown, IsOfSet}
use Rattle.jvm_model.proofs.bodies.NamedClasses.{named_class}
use Rattle.jvm_model.proofs.bodies.FamiliesRise.{families_rise}

-- ---- tests one after another

pub then_ok : {X Y : Type 0} (next : X → Resolved Y) (r : Resolved X) (y : Y) → and_then next r ≡ Ok y → (x : X) × (r ≡ Ok x) × (next x ≡ Ok y)
then_ok next (Ok x) y e = (x, refl, e)
then_ok next (Err why) y e = absurd (let bad : Err why ≡ Ok y = e in cc)

pub passes_ok : {X : Type 0} (passes : Bool) (why : Cause) (x y : X) → where_passes passes why x ≡ Ok y → x ≡ y
passes_ok true why x y e = cc
passes_ok false why x y e = absurd (let bad : Err why ≡ Ok y = e in cc)

pub there_ok : {X : Type 0} (o : Option X) (why : Cause) (x : X) → ok_or o why ≡ Ok x → o ≡ Some x
there_ok (Some x) why y e = cc
there_ok None why y e = absurd (let bad : Err why ≡ Ok y = e in cc)

-- ---- types

-- a value behind a test
tested_some : {X : Type 0} (b : Bool) (x y : X) → (if b then Some x else None) ≡ Some y → x ≡ y
tested_some true x y e = same_Some x y e
tested_some false x y e = absurd (none-some y e)

-- a type of some dimensions that is read with all of a text
some_dims : (m : ℕ) (of : Base) → 1 ≤ dims_of (kind_with (suc m) of)
some_dims m of = subst (λ (k : Kind). 1 ≤ dims_of k) (sym (cond-false (suc m == 0) (plain_kind of) (Array (suc m) of) (eqb-suc-zero m))) (omega arith)

abbrev typed : ℕ → Base × List ℕ → Option (Kind × List ℕ)
typed n base = Some (kind_with n base.0, base.1)

abbrev whole : Kind × List ℕ → Option Kind
whole kind = if length kind.1 == 0 then Some kind.0 else None

read_dims : (n m : ℕ) (kind : Kind) (many : Bool) (read : Option (Base × List ℕ)) → n ≡ suc m
    → ((if many then None else (read >>= typed n)) >>= whole) ≡ Some kind → 1 ≤ dims_of kind
read_dims n m kind true read is e = absurd (none-some kind e)
read_dims n m kind false None is e = absurd (none-some kind e)
read_dims n m kind false (Some base) is e =
    let same : kind_with n base.0 ≡ kind = tested_some (length base.1 == 0) (kind_with n base.0) kind e in
    subst (λ (k : Kind). 1 ≤ dims_of k) same (subst (λ d. 1 ≤ dims_of (kind_with d base.0)) (sym is) (some_dims m base.0))

-- the type of a text that begins with `[` has a dimension
array_dims : (name : List ℕ) (kind : Kind) → is_array_name name ≡ true → field_of name ≡ Some kind → 1 ≤ dims_of kind
unfolding field_of kind_at brackets
array_dims [] kind is e = absurd (false≢true is)
array_dims (letter ∷ text) kind is e =
    let first : letter ≡ 91 = sym (eqb-true 91 letter (sym (and-true (nat_eq 91 letter)) ∙ is)) in
    read_dims (brackets (letter ∷ text)) (brackets text) kind (nat_lt 255 (brackets (letter ∷ text))) (base_at (drop (brackets (letter ∷ text)) (letter ∷ text)))
    (ap (λ l. if l == 91 then suc (brackets text) else 0) first) e

abbrev ok_of : Op → Resolved Op
ok_of found = Ok found

same_op : (made found : Op) → ok_of made ≡ ok_of found → made ≡ found
same_op made found e = cc

module _ (files : List ClassFile) where
  primitive_array : (kind : ArrayKind) → IsType files (type_with 1 (element_of kind))
  primitive_array array.Boolean = (tt, omega arith)
  primitive_array array.Char = (tt, omega arith)
  primitive_array array.Byte = (tt, omega arith)
  primitive_array array.Short = (tt, omega arith)
  primitive_array array.Int = (tt, omega arith)

  -- an array of a type of the set is one of the set
  array_type : (type : TypeRef) → IsType files type → IsType files (array_of type)
  array_type type is = (is.0, more type.base is.1)
    where
      more : (of : TypeBase) → HasDimensions type.dims of → HasDimensions (type.dims + 1) of
      more (base.Class class) le = tt
      more base.Byte le = omega (arith, le)
      more base.Char le = omega (arith, le)
      more base.Short le = omega (arith, le)
      more base.Int le = omega (arith, le)
      more base.Boolean le = omega (arith, le)

  pub class_ok : (name : List ℕ) (class : ℕ) → class_named files name ≡ Ok class → IsClass files class
  class_ok name class e = named_class files name class (sym (there_ok (number_of files name) Unresolved class e))

  base_ok : (of : Base) (found : TypeBase) → base_named files of ≡ Ok found → IsBaseType files found
  base_ok named.Byte found e = let is : base.Byte ≡ found = cc in subst (IsBaseType files) is tt
  base_ok named.Char found e = let is : base.Char ≡ found = cc in subst (IsBaseType files) is tt
  base_ok named.Short found e = let is : base.Short ≡ found = cc in subst (IsBaseType files) is tt
  base_ok named.Int found e = let is : base.Int ≡ found = cc in subst (IsBaseType files) is tt
  base_ok named.Boolean found e = let is : base.Boolean ≡ found = cc in subst (IsBaseType files) is tt
  base_ok (named.Class name) found e =
      let made = then_ok (λ class. Ok (base.Class class)) (class_named files name) found e in
      let is : base.Class made.0 ≡ found = cc in
      subst (IsBaseType files) is (class_ok name made.0 made.1)
  base_ok named.Double found e = absurd (let bad : Err WrongKind ≡ Ok found = e in cc)
  base_ok named.Float found e = absurd (let bad : Err WrongKind ≡ Ok found = e in cc)
  base_ok named.Long found e = absurd (let bad : Err WrongKind ≡ Ok found = e in cc)

  kind_ok : (kind : Kind) (type : TypeRef) → 1 ≤ dims_of kind → kind_named files kind ≡ Ok type → IsType files type
  kind_ok kind type le e =
      let made = then_ok (λ of. Ok (type_with (dims_of kind) of)) (base_named files (base_of kind)) type e in
      let is : type_with (dims_of kind) made.0 ≡ type = cc in
      subst (IsType files) is (base_ok (base_of kind) made.0 made.1, has_dims (dims_of kind) made.0 le)
    where
      has_dims : (dims : ℕ) (of : TypeBase) → 1 ≤ dims → HasDimensions dims of
      has_dims dims (base.Class class) le = tt
      has_dims dims base.Byte le = le
      has_dims dims base.Char le = le
      has_dims dims base.Short le = le
      has_dims dims base.Int le = le
      has_dims dims base.Boolean le = le

  type_ok : (name : List ℕ) (type : TypeRef) → type_named files name ≡ Ok type → IsType files type
  type_ok name type e = by_form (is_array_name name) refl e
    where
      by_form : (array : Bool) → is_array_name name ≡ array
          → (if array then and_then (kind_named files) (ok_or (field_of name) Unresolved) else and_then (λ class. Ok (type_with 0 (base.Class class))) (class_named files name)) ≡ Ok type → IsType files type
      by_form true is e =
          let made = then_ok (kind_named files) (ok_or (field_of name) Unresolved) type e in
          kind_ok made.0 type (array_dims name made.0 is (there_ok (field_of name) Unresolved made.0 made.1)) made.2
      by_form false is e =
          let made = then_ok (λ class. Ok (type_with 0 (base.Class class))) (class_named files name) type e in
          let same : type_with 0 (base.Class made.0) ≡ type = cc in
          subst (IsType files) same (class_ok name made.0 made.1, tt)

  pub used_type : (from : ℕ) (pool : Slots) (test : TypeRef → Bool) (index : ℕ) (type : TypeRef) → type_used files from pool test index ≡ Ok type → IsType files type
  used_type from pool test index type e =
      let named =
      then_ok
      (λ name. and_then (λ type. and_then (λ _. where_passes (may_use_base files from type.base) Denied type) (where_passes (test type) WrongKind type)) (type_named files name))
      (ok_or (class_name_at pool index) WrongKind) type e in
      let typed = then_ok (λ type. and_then (λ _. where_passes (may_use_base files from type.base) Denied type) (where_passes (test type) WrongKind type)) (type_named files named.0) type named.2 in
      let tested = then_ok (λ _. where_passes (may_use_base files from typed.0.base) Denied typed.0) (where_passes (test typed.0) WrongKind typed.0) type typed.2 in
      subst (IsType files) (passes_ok (may_use_base files from typed.0.base) Denied typed.0 type tested.2) (type_ok named.0 typed.0 typed.1)

  -- ---- members

  found_class : (member : MemberName) (class : ℕ) (found : FieldUse) → field_found files member class ≡ Ok found → found.class ≡ class
  found_class member class found e =
      let kind =
      then_ok (λ kind. and_then (λ id. Ok (record { field = id; kind = kind; class = class })) (ok_or (find_field files member.name member.descriptor class) Unresolved))
      (ok_or (field_of member.descriptor) Unresolved) found e in
      let id = then_ok {X = MemberId} {Y = FieldUse} (λ id. Ok (record { field = id; kind = kind.0; class = class })) (ok_or (find_field files member.name member.descriptor class) Unresolved) found kind.2 in
      let is : record { field = id.0; kind = kind.0; class = class } ≡ found = cc in
      sym (ap (λ (u : FieldUse). u.class) is)

  tested_field : (from : ℕ) (asked : FieldAsked) (found used : FieldUse) → field_tested files from asked found ≡ Ok used → found ≡ used
  tested_field from asked found used e =
      let passed =
      then_ok (λ (checked : FieldUse). where_passes (may_use_field files from asked checked.class checked.field) Denied checked)
      (where_passes (is_as_asked asked.static (is_static (member_flags files true found.field))) WrongKind found) used e in
      passes_ok (is_as_asked asked.static (is_static (member_flags files true found.field))) WrongKind found passed.0 passed.1
      ∙ passes_ok (may_use_field files from asked passed.0.class passed.0.field) Denied passed.0 used passed.2

  pub used_field : (from : ℕ) (pool : Slots) (asked : FieldAsked) (index : ℕ) (used : FieldUse) → field_used files from pool asked index ≡ Ok used → IsClass files used.class
  used_field from pool asked index used e =
      let member =
      then_ok (λ member. and_then (λ class. and_then (field_tested files from asked) (field_found files member class)) (class_named files member.class)) (ok_or (field_name_at pool index) WrongKind) used e in
      let class = then_ok (λ class. and_then (field_tested files from asked) (field_found files member.0 class)) (class_named files member.0.class) used member.2 in
      let found = then_ok (field_tested files from asked) (field_found files member.0 class.0) used class.2 in
      let same : used.class ≡ class.0 = ap (λ (u : FieldUse). u.class) (sym (tested_field from asked found.0 used found.2)) ∙ found_class member.0 class.0 found.0 found.1 in
      subst (IsClass files) (sym same) (class_ok member.0.class class.0 class.1)

  found_call : (named : MethodName) (class : ℕ) (call : Call) → call_found files named class ≡ Ok call → call.class ≡ class
  found_call named class call e =
      let type =
      then_ok (λ type. and_then (λ found. Ok (record { named = named; class = class; found = found; type = type })) (ok_or (method_from files named.member class) Unresolved))
      (ok_or (method_of named.member.descriptor) Unresolved) call e in
      let found = then_ok {X = MemberId} {Y = Call} (λ found. Ok (record { named = named; class = class; found = found; type = type.0 })) (ok_or (method_from files named.member class) Unresolved) call type.2 in
      let is : record { named = named; class = class; found = found.0; type = type.0 } ≡ call = cc in
      sym (ap (λ (c : Call). c.class) is)

  used_call : (from : ℕ) (pool : Slots) (tag : MethodName → Bool) (test : Call → Bool) (index : ℕ) (call : Call) → call_used files from pool tag test index ≡ Ok call → IsClass files call.class
  used_call from pool tag test index call e =
      let allowed =
      then_ok (λ call. where_passes (may_use_method files from call) Denied call)
      (and_then (λ call. where_passes (test call) WrongKind call)
      (and_then (λ named. and_then (call_found files named) (class_named files named.member.class))
      (and_then (λ named. where_passes (tag named) WrongKind named) (ok_or (method_name_at pool index) WrongKind)))) call e in
      let tested =
      then_ok (λ call. where_passes (test call) WrongKind call)
      (and_then (λ named. and_then (call_found files named) (class_named files named.member.class)) (and_then (λ named. where_passes (tag named) WrongKind named) (ok_or (method_name_at pool index) WrongKind)))
      allowed.0 allowed.1 in
      let named =
      then_ok (λ named. and_then (call_found files named) (class_named files named.member.class)) (and_then (λ named. where_passes (tag named) WrongKind named) (ok_or (method_name_at pool index) WrongKind))
      tested.0 tested.1 in
      let class = then_ok (call_found files named.0) (class_named files named.0.member.class) tested.0 named.2 in
      let same : tested.0 ≡ call = passes_ok (test tested.0) WrongKind tested.0 allowed.0 tested.2 ∙ passes_ok (may_use_method files from allowed.0) Denied allowed.0 call allowed.2 in
      let at : call.class ≡ class.0 = ap (λ (c : Call). c.class) (sym same) ∙ found_call named.0 class.0 tested.0 class.2 in
      subst (IsClass files) (sym at) (class_ok named.0.member.class class.0 class.1)

  plain_use : (from : ℕ) (pool : Slots) (tag : MethodName → Bool) (test : Call → Bool) (index : ℕ) (used : MethodUse) → and_then (λ call. Ok (use_of files call call.found)) (call_used files from pool tag test index) ≡ Ok used → IsClass files used.class
  plain_use from pool tag test index used e =
      let call = then_ok (λ call. Ok (use_of files call call.found)) (call_used files from pool tag test index) used e in
      let is : use_of files call.0 call.0.found ≡ used = cc in
      subst (λ (u : MethodUse). IsClass files u.class) is (used_call from pool tag test index call.0 call.1)

  special_ok : (from : ℕ) (pool : Slots) (index : ℕ) (used : MethodUse) → special_call files from pool index ≡ Ok used → IsClass files used.class
  special_ok from pool index used e =
      let call = then_ok (special_use files from) (call_used files from pool names_method (λ call. fits_call files false call && fits_special files from call) index) used e in
      let target = then_ok (λ target. Ok (use_of files call.0 target)) (ok_or (special_target files from call.0) WrongKind) used call.2 in
      let is : use_of files call.0 target.0 ≡ used = cc in
      subst (λ (u : MethodUse). IsClass files u.class) is (used_call from pool names_method (λ call. fits_call files false call && fits_special files from call) index call.0 call.1)

  -- ---- instructions

  pub op_names : (from : ℕ) (pool : Slots) (insn : Insn) (found : Op) → op_of files from pool insn ≡ Ok found → NamesKnown files found
  op_names from pool insns.Nop found e = subst (NamesKnown files) (same_op (op.Nop) found e) tt
  op_names from pool insns.Null found e = subst (NamesKnown files) (same_op (op.Const literal.Null) found e) tt
  op_names from pool (insns.Push number) found e = subst (NamesKnown files) (same_op (op.Const (literal.Int number)) found e) tt
  op_names from pool (insns.Load kind local) found e = subst (NamesKnown files) (same_op (op.Load kind local) found e) tt
  op_names from pool (insns.Store kind local) found e = subst (NamesKnown files) (same_op (op.Store kind local) found e) tt
  op_names from pool (insns.Inc local amount) found e = subst (NamesKnown files) (same_op (op.Inc local amount) found e) tt
  op_names from pool (insns.Stack form) found e = subst (NamesKnown files) (same_op (op.Stack form) found e) tt
  op_names from pool (insns.Bin operation) found e = subst (NamesKnown files) (same_op (op.Bin operation) found e) tt
  op_names from pool insns.Neg found e = subst (NamesKnown files) (same_op (op.Unary unary.Neg) found e) tt
  op_names from pool (insns.Convert conv) found e = subst (NamesKnown files) (same_op (op.Unary (unary.Convert conv)) found e) tt
  op_names from pool (insns.If cond target) found e = subst (NamesKnown files) (same_op (op.If cond target) found e) tt
  op_names from pool (insns.IfCmp cond target) found e = subst (NamesKnown files) (same_op (op.IfCmp cond target) found e) tt
  op_names from pool (insns.IfRef cond target) found e = subst (NamesKnown files) (same_op (op.IfRef cond target) found e) tt
  op_names from pool (insns.Goto target) found e = subst (NamesKnown files) (same_op (op.Goto target) found e) tt
  op_names from pool (insns.Switch form default rows) found e = subst (NamesKnown files) (same_op (op.Switch form default rows) found e) tt
  op_names from pool (insns.Return kind) found e = subst (NamesKnown files) (same_op (op.Return kind) found e) tt
  op_names from pool insns.ArrayLength found e = subst (NamesKnown files) (same_op (op.ArrayLength) found e) tt
  op_names from pool (insns.ArrayLoad kind) found e = subst (NamesKnown files) (same_op (op.ArrayLoad kind) found e) tt
  op_names from pool (insns.ArrayStore kind) found e = subst (NamesKnown files) (same_op (op.ArrayStore kind) found e) tt
  op_names from pool insns.Throw found e = subst (NamesKnown files) (same_op (op.Throw) found e) tt
  op_names from pool (insns.Ldc index) found e =
      let number = then_ok (λ number. Ok (op.Const (literal.Int number))) (ok_or (integer_at pool index) WrongKind) found e in
      subst (NamesKnown files) (same_op (op.Const (literal.Int number.0)) found number.2) tt
  op_names from pool (insns.NewArray kind) found e = subst (NamesKnown files) (same_op (op.NewArray (type_with 1 (element_of kind))) found e) (primitive_array kind)
  op_names from pool (insns.GetStatic index) found e =
      let used = then_ok (λ used. Ok (op.GetStatic used)) (field_used files from pool (read_of true) index) found e in
      subst (NamesKnown files) (same_op (op.GetStatic used.0) found used.2) (used_field from pool (read_of true) index used.0 used.1)
  op_names from pool (insns.PutStatic index) found e =
      let used = then_ok (λ used. Ok (op.PutStatic used)) (field_used files from pool (write_of true) index) found e in
      subst (NamesKnown files) (same_op (op.PutStatic used.0) found used.2) (used_field from pool (write_of true) index used.0 used.1)
  op_names from pool (insns.GetField index) found e =
      let used = then_ok (λ used. Ok (op.GetField used)) (field_used files from pool (read_of false) index) found e in
      subst (NamesKnown files) (same_op (op.GetField used.0) found used.2) (used_field from pool (read_of false) index used.0 used.1)
  op_names from pool (insns.PutField index) found e =
      let used = then_ok (λ used. Ok (op.PutField used)) (field_used files from pool (write_of false) index) found e in
      subst (NamesKnown files) (same_op (op.PutField used.0) found used.2) (used_field from pool (write_of false) index used.0 used.1)
  op_names from pool (insns.CallVirtual index) found e =
      let used = then_ok (λ used. Ok (op.CallVirtual used)) (virtual_call files from pool index) found e in
      subst (NamesKnown files) (same_op (op.CallVirtual used.0) found used.2) (plain_use from pool names_class_method (λ call. fits_call files false call && not (is_constructor call)) index used.0 used.1)
  op_names from pool (insns.CallSpecial index) found e =
      let used = then_ok (λ used. Ok (op.CallSpecial used)) (special_call files from pool index) found e in
      subst (NamesKnown files) (same_op (op.CallSpecial used.0) found used.2) (special_ok from pool index used.0 used.1)
  op_names from pool (insns.CallStatic index) found e =
      let used = then_ok (λ used. Ok (op.CallStatic used)) (static_call files from pool index) found e in
      subst (NamesKnown files) (same_op (op.CallStatic used.0) found used.2) (plain_use from pool names_method (λ call. fits_call files true call && not (is_constructor call)) index used.0 used.1)
  op_names from pool (insns.CallInterface index count) found e =
      let used = then_ok (λ used. Ok (op.CallInterface used)) (interface_call files from pool count index) found e in
      subst (NamesKnown files) (same_op (op.CallInterface used.0) found used.2) (plain_use from pool names_interface_method (λ call. fits_call files false call && (not (is_constructor call) && nat_eq count (argument_places call.type))) index used.0 used.1)
  op_names from pool (insns.New index) found e =
      let type = then_ok (λ type. Ok (op.New type)) (type_used files from pool (may_be_made files) index) found e in
      subst (NamesKnown files) (same_op (op.New type.0) found type.2) (used_type from pool (may_be_made files) index type.0 type.1)
  op_names from pool (insns.NewRefArray index) found e =
      let type = then_ok (λ type. Ok (op.NewArray (array_of type))) (type_used files from pool may_be_element index) found e in
      subst (NamesKnown files) (same_op (op.NewArray (array_of type.0)) found type.2) (array_type type.0 (used_type from pool may_be_element index type.0 type.1))
  op_names from pool (insns.CheckCast index) found e =
      let type = then_ok (λ type. Ok (op.CheckCast type)) (type_used files from pool any_type index) found e in
      subst (NamesKnown files) (same_op (op.CheckCast type.0) found type.2) (used_type from pool any_type index type.0 type.1)
  op_names from pool (insns.InstanceOf index) found e =
      let type = then_ok (λ type. Ok (op.InstanceOf type)) (type_used files from pool any_type index) found e in
      subst (NamesKnown files) (same_op (op.InstanceOf type.0) found type.2) (used_type from pool any_type index type.0 type.1)
  op_names from pool (insns.MultiArray index dims) found e =
      let type = then_ok (λ type. Ok (op.MultiArray type dims)) (type_used files from pool (has_counted dims) index) found e in
      subst (NamesKnown files) (same_op (op.MultiArray type.0 dims) found type.2) (used_type from pool (has_counted dims) index type.0 type.1)

  -- ---- rows

  pub row_names : (from : ℕ) (pool : Slots) (index : ℕ) (caught : Option ℕ) → caught_by files from pool index ≡ Ok caught → IfSome caught (IsClass files)
  row_names from pool index caught e = by_index (nat_eq index 0) e
    where
      class_of : (of : TypeBase) → IsBaseType files of → IfSome (class_in of) (IsClass files)
      class_of (base.Class class) is = is
      class_of base.Byte is = tt
      class_of base.Char is = tt
      class_of base.Short is = tt
      class_of base.Int is = tt
      class_of base.Boolean is = tt

      by_index : (any : Bool) → (if any then Ok None else and_then (λ type. Ok (class_in type.base)) (type_used files from pool (may_be_caught files) index)) ≡ Ok caught → IfSome caught (IsClass files)
      by_index true e = let is : None ≡ caught = cc in subst (λ (c : Option ℕ). IfSome c (IsClass files)) is tt
      by_index false e =
          let type = then_ok (λ type. Ok (class_in type.base)) (type_used files from pool (may_be_caught files) index) caught e in
          let is : class_in type.0.base ≡ caught = cc in
          subst (λ (c : Option ℕ). IfSome c (IsClass files)) is (class_of type.0.base (used_type from pool (may_be_caught files) index type.0 type.1).0)

  -- ---- bodies

  module _ (class : ℕ) (pool : Slots) where
    ops_names : (ways : Ways) (insns : Insns) (ops : Ops) → AreEach (IsFamily files class pool ways) insns ops → AllByRecursion (λ y. NamesKnown files y.1) ops
    ops_names ways [] [] each = tt
    ops_names ways [] (y ∷ ops) each = absurd each
    ops_names ways (x ∷ insns) [] each = absurd each
    ops_names ways (x ∷ insns) (y ∷ ops) each = (one x y each.0, ops_names ways insns ops each.1)
      where
        one : (x : ℕ × Insn) (y : ℕ × Op) → IsFamily files class pool ways x y → NamesKnown files y.1
        one x y (IsResolved at reached is) = op_names class pool x.1 y.1 is
        one x y (IsNop at unreached is) = subst (NamesKnown files) (sym is) tt

    rows_names : (rows : List HandlerRow) (guards : List Guard) → AreEach (IsGuard files class pool) rows guards → AllByRecursion (λ guard. IfSome guard.class (IsClass files)) guards
    rows_names [] [] each = tt
    rows_names [] (g ∷ guards) each = absurd each
    rows_names (row ∷ rows) [] each = absurd each
    rows_names (row ∷ rows) (g ∷ guards) each = (row_names class pool row.catch_type g.class each.0.catches, rows_names rows guards each.1)

  -- a body of a method that stands in a class of the set, with instructions in order
  pub of_set : (coded : Coded) (body : Body) → IsClass files coded.class → RiseFrom 0 coded.insns → IsBody files coded body → IsOfSet files body
  of_set coded body class rise is =
      record {
        rise = families_rise files coded.class coded.file.pool (code_ways coded.code.handlers coded.insns) 0 coded.insns body.ops rise is.ops;
        class = subst (IsClass files) (sym is.class) class;
        ops = ops_names coded.class coded.file.pool (code_ways coded.code.handlers coded.insns) coded.insns body.ops is.ops;
        handlers = rows_names coded.class coded.file.pool coded.code.handlers body.handlers is.handlers;
      }
