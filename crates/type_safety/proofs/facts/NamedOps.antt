-- What each instruction of a class file names is there, and what it counts is little.
use Rattle.std.proofs.Common.{◌≡◌, ℕ, ℤ, ◌≤◌, Bool, true, false, ◌&&◌, not, nat_eq, nat_le, List, Option, Some, None, Ok, refl, sym, ap, subst, ◌∙◌, arith, eqb-true}
use Rattle.std.specs.List.{AllByRecursion}
use Rattle.std.specs.Option.{ok_or}
use Rattle.std.proofs.lemmas.Bool.{and_parts, leb-true}
use Rattle.class_pool.specs.declared.types.TypeBase.{TypeBase}
use Rattle.class_pool.specs.declared.types.TypeBase.TheVariants as base
use Rattle.class_pool.specs.declared.types.TypeRef.{TypeRef}
use Rattle.class_pool.specs.Pool.{Slots, integer_at, class_name_at, EachEntry}
use Rattle.class_file.specs.declared.record.ClassFile.{ClassFile}
use Rattle.class_file.specs.Rules.{is_interface, is_abstract}
use Rattle.class_code.specs.declared.insn.Insn.{Insn}
use Rattle.class_code.specs.declared.insn.Insn.TheVariants as insns
use Rattle.class_code.proofs.Numbers.{HasNumbers}
use Rattle.body_form.specs.declared.op.Literal.TheVariants as literal
use Rattle.body_form.specs.declared.op.MethodUse.{MethodUse}
use Rattle.body_form.specs.declared.op.Op.{Op}
use Rattle.body_form.specs.declared.op.Op.TheVariants as op
use Rattle.body_form.specs.declared.op.UnaryOp.TheVariants as unary
use Rattle.class_tree.specs.Set.{IsClass, flags_of}
use Rattle.class_tree.specs.Subtypes.{class_type, array_of, IsBaseType}
use Rattle.class_tree.specs.Tree.{Gathers}
use Rattle.class_tree.proofs.ancestors.Superclasses.{IsRanked}
use Rattle.jvm_model.specs.declared.refusal.Cause.TheVariants.{WrongKind, Denied}
use Rattle.jvm_model.specs.Bodies.{AreBodies}
use Rattle.jvm_model.specs.FieldUses.{field_used}
use Rattle.jvm_model.specs.Instructions.{may_be_made_of, may_be_made, may_be_element, has_counted, any_type, element_of, read_of, write_of, op_of}
use Rattle.jvm_model.specs.Linking.{Linking}
use Rattle.jvm_model.specs.MethodUses.{is_constructor, fits_call, fits_special, argument_places, names_class_method, names_interface_method, names_method, virtual_call, static_call, interface_call, special_call}
use Rattle.jvm_model.specs.Resolution.{and_then, where_passes, type_with, type_named, type_used, may_use_base}
use Rattle.jvm_model.proofs.bodies.BodyNames.{then_ok, passes_ok, used_type}
use Rattle.typed_machine.specs.TypedWorld.{World}
use Rattle.type_safety.specs.Facts.{IsConcrete, Named, is_named_constructor}
use Rattle.type_safety.proofs.fitting.SetLists.{not_true_is}
use Rattle.type_safety.proofs.facts.RowCounts.{HasRowsWithin}
use Rattle.type_safety.proofs.facts.FewCounts.{HasFewCounts, type_few, found_few, special_few}
use Rattle.type_safety.proofs.facts.CodeRead.{IsRead}
use Rattle.type_safety.proofs.facts.PoolNumbers.{IntegerFits, integer_fits}
use Rattle.type_safety.proofs.facts.SwitchKeys.{switch_fits}
use Rattle.type_safety.proofs.facts.Control.{same_op}
use Rattle.type_safety.proofs.facts.NamedFields.{passed, named_static, named_instance}
use Rattle.type_safety.proofs.facts.NamedMethods.{named_static_call, named_virtual, named_interface}
use Rattle.type_safety.proofs.facts.NamedSpecial.{named_special}

-- what an instruction names is there, and it counts little
abbrev pub NamedAndFew : World → ℕ → Op → Type 0
NamedAndFew world from found = Named world from found × HasFewCounts found

-- ---- numbers of the pool

found_ok : {E : Type 0} (found : Option ℤ) (why : E) (number : ℤ) → ok_or found why ≡ Ok number → found ≡ Some number
found_ok None why number e = cc
found_ok (Some other) why number e = cc

-- ---- classes that are made

module _ (world : World) (gathers : Gathers world.files None) (rank : ℕ → ℕ) (ranked : IsRanked world.files rank) (read : AllByRecursion IsRead world.files) (are : AreBodies world.files world.bodies) (links : Linking world.files None) where
  abbrev files : List ClassFile
  files = world.files

  abbrev Made : TypeRef → Type 0
  Made type = (class : ℕ) × (type ≡ class_type class) × IsConcrete world class

  made_of : (dims : ℕ) (of : TypeBase) → dims ≡ 0 → may_be_made_of files of ≡ true → ((class : ℕ) → of ≡ base.Class class → IsClass files class) → Made (record { dims = dims; base = of })
  made_of dims (base.Class class) zero_is e inside =
      let both = and_parts (not (is_interface (flags_of files class))) (not (is_abstract (flags_of files class))) e in
      (class, ap (λ (n : ℕ). record { dims = n; base = base.Class class }) zero_is, (inside class refl, not_true_is (is_interface (flags_of files class)) both.0, not_true_is (is_abstract (flags_of files class)) both.1))
  made_of dims base.Byte zero_is e inside = absurd (let bad : false ≡ true = e in cc)
  made_of dims base.Char zero_is e inside = absurd (let bad : false ≡ true = e in cc)
  made_of dims base.Short zero_is e inside = absurd (let bad : false ≡ true = e in cc)
  made_of dims base.Int zero_is e inside = absurd (let bad : false ≡ true = e in cc)
  made_of dims base.Boolean zero_is e inside = absurd (let bad : false ≡ true = e in cc)

  -- a type that is named passes the test that is asked of it
  used_passes : (from : ℕ) (pool : Slots) (test : TypeRef → Bool) (index : ℕ) (type : TypeRef) → type_used files from pool test index ≡ Ok type → test type ≡ true
  used_passes from pool test index type e =
      let named =
      then_ok
      (λ name. and_then (λ type. and_then (λ _. where_passes (may_use_base files from type.base) Denied type) (where_passes (test type) WrongKind type)) (type_named files name))
      (ok_or (class_name_at pool index) WrongKind) type e in
      let typed = then_ok (λ type. and_then (λ _. where_passes (may_use_base files from type.base) Denied type) (where_passes (test type) WrongKind type)) (type_named files named.0) type named.2 in
      let tested = then_ok (λ _. where_passes (may_use_base files from typed.0.base) Denied typed.0) (where_passes (test typed.0) WrongKind typed.0) type typed.2 in
      let same : typed.0 ≡ type = passes_ok (may_use_base files from typed.0.base) Denied typed.0 type tested.2 in
      ap test (sym same) ∙ (passed (test typed.0) WrongKind typed.0 tested.0 tested.1).0

  -- so many dimensions of a type are counted, one at least
  counted_within : (dims : ℕ) (type : TypeRef) → has_counted dims type ≡ true → (1 ≤ dims) × (dims ≤ type.dims)
  counted_within dims type e = let both = and_parts (nat_le 1 dims) (nat_le dims type.dims) e in (leb-true 1 dims both.0, leb-true dims type.dims both.1)

  named_new : (from : ℕ) (pool : Slots) (index : ℕ) (type : TypeRef) → type_used files from pool (may_be_made files) index ≡ Ok type → Made type
  named_new from pool index type e =
      let named =
      then_ok
      (λ name. and_then (λ type. and_then (λ _. where_passes (may_use_base files from type.base) Denied type) (where_passes (may_be_made files type) WrongKind type)) (type_named files name))
      (ok_or (class_name_at pool index) WrongKind) type e in
      let typed = then_ok (λ type. and_then (λ _. where_passes (may_use_base files from type.base) Denied type) (where_passes (may_be_made files type) WrongKind type)) (type_named files named.0) type named.2 in
      let tested = then_ok (λ _. where_passes (may_use_base files from typed.0.base) Denied typed.0) (where_passes (may_be_made files typed.0) WrongKind typed.0) type typed.2 in
      let same : typed.0 ≡ type = passes_ok (may_use_base files from typed.0.base) Denied typed.0 type tested.2 in
      let made : may_be_made files type ≡ true = ap (may_be_made files) (sym same) ∙ (passed (may_be_made files typed.0) WrongKind typed.0 tested.0 tested.1).0 in
      let both = and_parts (nat_eq type.dims 0) (may_be_made_of files type.base) made in
      let inside = used_type files from pool (may_be_made files) index type e in
      made_of type.dims type.base (eqb-true type.dims 0 both.0) both.1 (λ class is. of_class type.base inside.0 class is)
    where
      of_class : (of : TypeBase) → IsBaseType files of → (class : ℕ) → of ≡ base.Class class → IsClass files class
      of_class of inside class is = subst (IsBaseType files) is inside

  -- ---- instructions

  pub op_named : (from : ℕ) (pool : Slots) → is_interface (flags_of files from) ≡ false → EachEntry IntegerFits pool → (insn : Insn) (found : Op) → ((used : MethodUse) → found ≡ op.CallSpecial used → is_named_constructor used ≡ true → is_interface (flags_of files used.class) ≡ false)
      → op_of files from pool insn ≡ Ok found → HasNumbers insn → HasRowsWithin 65535 insn → NamedAndFew world from found
  op_named from pool own_class entries insns.Nop found constructed e numbers switches = subst (NamedAndFew world from) (same_op (op.Nop) found e) (tt, tt)
  op_named from pool own_class entries insns.Null found constructed e numbers switches = subst (NamedAndFew world from) (same_op (op.Const literal.Null) found e) (tt, tt)
  op_named from pool own_class entries (insns.Push number) found constructed e numbers switches = subst (NamedAndFew world from) (same_op (op.Const (literal.Int number)) found e) (numbers, tt)
  op_named from pool own_class entries (insns.Load kind local) found constructed e numbers switches = subst (NamedAndFew world from) (same_op (op.Load kind local) found e) (tt, tt)
  op_named from pool own_class entries (insns.Store kind local) found constructed e numbers switches = subst (NamedAndFew world from) (same_op (op.Store kind local) found e) (tt, tt)
  op_named from pool own_class entries (insns.Inc local amount) found constructed e numbers switches = subst (NamedAndFew world from) (same_op (op.Inc local amount) found e) (numbers, tt)
  op_named from pool own_class entries (insns.Stack form) found constructed e numbers switches = subst (NamedAndFew world from) (same_op (op.Stack form) found e) (tt, tt)
  op_named from pool own_class entries (insns.Bin operation) found constructed e numbers switches = subst (NamedAndFew world from) (same_op (op.Bin operation) found e) (tt, tt)
  op_named from pool own_class entries insns.Neg found constructed e numbers switches = subst (NamedAndFew world from) (same_op (op.Unary unary.Neg) found e) (tt, tt)
  op_named from pool own_class entries (insns.Convert conv) found constructed e numbers switches = subst (NamedAndFew world from) (same_op (op.Unary (unary.Convert conv)) found e) (tt, tt)
  op_named from pool own_class entries (insns.If cond target) found constructed e numbers switches = subst (NamedAndFew world from) (same_op (op.If cond target) found e) (tt, tt)
  op_named from pool own_class entries (insns.IfCmp cond target) found constructed e numbers switches = subst (NamedAndFew world from) (same_op (op.IfCmp cond target) found e) (tt, tt)
  op_named from pool own_class entries (insns.IfRef cond target) found constructed e numbers switches = subst (NamedAndFew world from) (same_op (op.IfRef cond target) found e) (tt, tt)
  op_named from pool own_class entries (insns.Goto target) found constructed e numbers switches = subst (NamedAndFew world from) (same_op (op.Goto target) found e) (tt, tt)
  op_named from pool own_class entries (insns.Switch form default rows) found constructed e numbers switches = subst (NamedAndFew world from) (same_op (op.Switch form default rows) found e) (switch_fits form rows numbers, omega (arith, switches))
  op_named from pool own_class entries (insns.Return kind) found constructed e numbers switches = subst (NamedAndFew world from) (same_op (op.Return kind) found e) (tt, tt)
  op_named from pool own_class entries insns.ArrayLength found constructed e numbers switches = subst (NamedAndFew world from) (same_op (op.ArrayLength) found e) (tt, tt)
  op_named from pool own_class entries (insns.ArrayLoad kind) found constructed e numbers switches = subst (NamedAndFew world from) (same_op (op.ArrayLoad kind) found e) (tt, tt)
  op_named from pool own_class entries (insns.ArrayStore kind) found constructed e numbers switches = subst (NamedAndFew world from) (same_op (op.ArrayStore kind) found e) (tt, tt)
  op_named from pool own_class entries insns.Throw found constructed e numbers switches = subst (NamedAndFew world from) (same_op (op.Throw) found e) (tt, tt)
  op_named from pool own_class entries (insns.NewArray kind) found constructed e numbers switches = subst (NamedAndFew world from) (same_op (op.NewArray (type_with 1 (element_of kind))) found e) (omega arith, tt)
  op_named from pool own_class entries (insns.Ldc index) found constructed e numbers switches =
      let made = then_ok (λ number. Ok (op.Const (literal.Int number))) (ok_or (integer_at pool index) WrongKind) found e in
      subst (NamedAndFew world from) (same_op (op.Const (literal.Int made.0)) found made.2) (integer_fits pool index made.0 entries (found_ok (integer_at pool index) WrongKind made.0 made.1), tt)
  op_named from pool own_class entries (insns.GetStatic index) found constructed e numbers switches =
      let made = then_ok (λ used. Ok (op.GetStatic used)) (field_used files from pool (read_of true) index) found e in
      subst (NamedAndFew world from) (same_op (op.GetStatic made.0) found made.2) (named_static world gathers rank ranked read from pool (read_of true) index made.0 refl made.1, tt)
  op_named from pool own_class entries (insns.PutStatic index) found constructed e numbers switches =
      let made = then_ok (λ used. Ok (op.PutStatic used)) (field_used files from pool (write_of true) index) found e in
      subst (NamedAndFew world from) (same_op (op.PutStatic made.0) found made.2) (named_static world gathers rank ranked read from pool (write_of true) index made.0 refl made.1, tt)
  op_named from pool own_class entries (insns.GetField index) found constructed e numbers switches =
      let made = then_ok (λ used. Ok (op.GetField used)) (field_used files from pool (read_of false) index) found e in
      subst (NamedAndFew world from) (same_op (op.GetField made.0) found made.2) (named_instance world gathers rank ranked read from pool (read_of false) index made.0 refl made.1, tt)
  op_named from pool own_class entries (insns.PutField index) found constructed e numbers switches =
      let made = then_ok (λ used. Ok (op.PutField used)) (field_used files from pool (write_of false) index) found e in
      subst (NamedAndFew world from) (same_op (op.PutField made.0) found made.2) (named_instance world gathers rank ranked read from pool (write_of false) index made.0 refl made.1, tt)
  op_named from pool own_class entries (insns.CallVirtual index) found constructed e numbers switches =
      let made = then_ok (λ used. Ok (op.CallVirtual used)) (virtual_call files from pool index) found e in
      subst (NamedAndFew world from) (same_op (op.CallVirtual made.0) found made.2) (
        named_virtual world gathers rank ranked read are links from pool index made.0 made.1,
        found_few files gathers rank ranked read from pool names_class_method (λ call. fits_call files false call && not (is_constructor call)) index made.0 made.1,
      )
  op_named from pool own_class entries (insns.CallSpecial index) found constructed e numbers switches =
      let made = then_ok (λ used. Ok (op.CallSpecial used)) (special_call files from pool index) found e in
      subst (NamedAndFew world from) (same_op (op.CallSpecial made.0) found made.2) (
        named_special world gathers rank ranked read are links from pool index made.0 own_class (constructed made.0 (sym (same_op (op.CallSpecial made.0) found made.2))) made.1,
        special_few files gathers rank ranked read from pool names_method (λ call. fits_call files false call && fits_special files from call) index made.0 made.1,
      )
  op_named from pool own_class entries (insns.CallStatic index) found constructed e numbers switches =
      let made = then_ok (λ used. Ok (op.CallStatic used)) (static_call files from pool index) found e in
      subst (NamedAndFew world from) (same_op (op.CallStatic made.0) found made.2) (
        named_static_call world gathers rank ranked read are links from pool index made.0 made.1,
        found_few files gathers rank ranked read from pool names_method (λ call. fits_call files true call && not (is_constructor call)) index made.0 made.1,
      )
  op_named from pool own_class entries (insns.CallInterface index count) found constructed e numbers switches =
      let made = then_ok (λ used. Ok (op.CallInterface used)) (interface_call files from pool count index) found e in
      subst (NamedAndFew world from) (same_op (op.CallInterface made.0) found made.2) (
        named_interface world gathers rank ranked read are links from pool count index made.0 made.1,
        found_few files gathers rank ranked read from pool names_interface_method (λ call. fits_call files false call && (not (is_constructor call) && nat_eq count (argument_places call.type))) index made.0 made.1,
      )
  op_named from pool own_class entries (insns.New index) found constructed e numbers switches =
      let made = then_ok (λ type. Ok (op.New type)) (type_used files from pool (may_be_made files) index) found e in
      subst (NamedAndFew world from) (same_op (op.New made.0) found made.2) (named_new from pool index made.0 made.1, tt)
  op_named from pool own_class entries (insns.NewRefArray index) found constructed e numbers switches =
      let made = then_ok (λ type. Ok (op.NewArray (array_of type))) (type_used files from pool may_be_element index) found e in
      subst (NamedAndFew world from) (same_op (op.NewArray (array_of made.0)) found made.2) (omega arith, tt)
  op_named from pool own_class entries (insns.CheckCast index) found constructed e numbers switches =
      let made = then_ok (λ type. Ok (op.CheckCast type)) (type_used files from pool any_type index) found e in
      subst (NamedAndFew world from) (same_op (op.CheckCast made.0) found made.2) (tt, tt)
  op_named from pool own_class entries (insns.InstanceOf index) found constructed e numbers switches =
      let made = then_ok (λ type. Ok (op.InstanceOf type)) (type_used files from pool any_type index) found e in
      subst (NamedAndFew world from) (same_op (op.InstanceOf made.0) found made.2) (tt, tt)
  op_named from pool own_class entries (insns.MultiArray index dims) found constructed e numbers switches =
      let made = then_ok (λ type. Ok (op.MultiArray type dims)) (type_used files from pool (has_counted dims) index) found e in
      let counted = counted_within dims made.0 (used_passes from pool (has_counted dims) index made.0 made.1) in
      subst (NamedAndFew world from) (same_op (op.MultiArray made.0 dims) found made.2) (counted, omega (arith, counted.1, type_few files from pool (has_counted dims) index made.0 made.1))
