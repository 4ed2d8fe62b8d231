-- Types that instructions push of themselves: of the set, and of values that are known and constructed or new.
use Rattle.std.proofs.Common.{◌≡◌, ℕ, true, false, inl, inr, List, Option, Some, None, Ok, Err, ok_or, unwrap_or, option_map, if◌then◌else◌, refl, sym, subst, ◌∷◌, []}
use Rattle.std.specs.List.{AllByRecursion}
use Rattle.std.proofs.lemmas.Bool.{cases_Bool}
use Rattle.std.proofs.lemmas.Option.{same_Some}
use Rattle.class_pool.specs.declared.descriptor.Base.{Base}
use Rattle.class_pool.specs.declared.descriptor.Base.TheVariants as named
use Rattle.class_pool.specs.declared.descriptor.Kind.{Kind}
use Rattle.class_pool.specs.declared.types.TypeRef.{TypeRef}
use Rattle.class_pool.specs.declared.types.TypeBase.{TypeBase}
use Rattle.class_pool.specs.declared.types.TypeBase.TheVariants as base
use Rattle.class_pool.specs.Descriptors.{base_of, dims_of}
use Rattle.class_file.specs.declared.record.ClassFile.{ClassFile}
use Rattle.body_form.specs.declared.op.FieldUse.{FieldUse}
use Rattle.body_form.specs.declared.op.Literal.{Literal}
use Rattle.body_form.specs.declared.op.Literal.TheVariants as literal
use Rattle.body_form.specs.declared.types.VType.{VType}
use Rattle.body_form.specs.declared.types.VType.TheVariants.{Top, Int, Ref}
use Rattle.class_tree.specs.Set.{number_of, IsClass}
use Rattle.class_tree.specs.Subtypes.{IsBaseType, IsType, class_type}
use Rattle.class_tree.specs.Merge.{is_reference}
use Rattle.class_tree.specs.MergeLaws.{IsKnown}
use Rattle.class_tree.proofs.ancestors.Superclasses.{named_class}
use Rattle.class_tree.proofs.merging.RefParts.{has_dims}
use Rattle.jvm_model.specs.declared.refusal.Cause.TheVariants.{Unresolved}
use Rattle.jvm_model.specs.Resolution.{Resolved, and_then, base_named, type_with}
use Rattle.jvm_model.specs.TypesFrames.{may_be_operand, value_of, value_in, value_of_kind, parameter_of}
use Rattle.jvm_model.specs.TypesRules.{is_this, constant_of, one, field_value, result_of}

-- an operand of a type of the set that is no constructor's own object
pub record IsFresh (files : List ClassFile) (type : VType) : Type 0 where
  pub known : IsKnown files type
  pub allows : may_be_operand type ≡ true
  pub lacks : is_this type ≡ false

module _ (files : List ClassFile) where
  pub int_fresh : IsFresh files Int
  int_fresh = record { known = tt; allows = refl; lacks = refl }

  pub ref_fresh : (type : TypeRef) → IsType files type → IsFresh files (Ref type)
  ref_fresh type known = record { known = known; allows = refl; lacks = refl }

  pub class_fresh : (class : ℕ) → IsClass files class → IsFresh files (Ref (class_type class))
  class_fresh class inside = ref_fresh (class_type class) (inside, tt)

  pub constant_fresh : (constant : Literal) → IsFresh files (constant_of constant)
  constant_fresh (literal.Int number) = int_fresh
  constant_fresh literal.Null = record { known = tt; allows = refl; lacks = refl }

  -- ---- values of declared types

  same_ok : (a b : TypeBase) → ◌≡◌ {A = Resolved TypeBase} (Ok a) (Ok b) → a ≡ b
  same_ok a b e = cc

  class_base : (found : Option ℕ) → ((class : ℕ) → found ≡ Some class → IsClass files class) → (of : TypeBase)
      → and_then (λ class. Ok (base.Class class)) (ok_or found Unresolved) ≡ Ok of → IsBaseType files of
  class_base None inside of e = cc
  class_base (Some class) inside of e = subst (IsBaseType files) (same_ok (base.Class class) of e) (inside class refl)

  base_known : (from : Base) (of : TypeBase) → base_named files from ≡ Ok of → IsBaseType files of
  base_known named.Byte of e = subst (IsBaseType files) (same_ok base.Byte of e) tt
  base_known named.Char of e = subst (IsBaseType files) (same_ok base.Char of e) tt
  base_known named.Short of e = subst (IsBaseType files) (same_ok base.Short of e) tt
  base_known named.Int of e = subst (IsBaseType files) (same_ok base.Int of e) tt
  base_known named.Boolean of e = subst (IsBaseType files) (same_ok base.Boolean of e) tt
  base_known (named.Class name) of e = class_base (number_of files name) (λ class is. named_class files (Some name) class is) of e
  base_known from of e = cc

  value_fresh : (dims : ℕ) (of : TypeBase) → IsBaseType files of → IsFresh files (value_of (type_with dims of))
  value_fresh dims of known =
      elim (cases_Bool (is_reference dims of)) [
        | inl refers ↦ subst (λ b. IsFresh files (if b then Ref (type_with dims of) else Int)) (sym refers) (ref_fresh (type_with dims of) (known, has_dims dims of refers))
        | inr none ↦ subst (λ b. IsFresh files (if b then Ref (type_with dims of) else Int)) (sym none) int_fresh
      ]

  resolved_fresh : (dims : ℕ) (found : Resolved TypeBase) → ((of : TypeBase) → found ≡ Ok of → IsBaseType files of) → (value : VType)
      → value_in (and_then (λ of. Ok (type_with dims of)) found) ≡ Some value → IsFresh files value
  resolved_fresh dims (Ok of) known value e = subst (IsFresh files) (same_Some (value_of (type_with dims of)) value e) (value_fresh dims of (known of refl))
  resolved_fresh dims (Err why) known value e = cc

  kind_fresh : (kind : Kind) (value : VType) → value_of_kind files kind ≡ Some value → IsFresh files value
  kind_fresh kind value e = resolved_fresh (dims_of kind) (base_named files (base_of kind)) (base_known (base_of kind)) value e

  -- ---- what is pushed

  abbrev pub AreFresh : List VType → Type 0
  AreFresh types = AllByRecursion (IsFresh files) types

  one_fresh : (found : Option VType) → ((value : VType) → found ≡ Some value → IsFresh files value) → (pushes : List VType) → option_map one found ≡ Some pushes → AreFresh pushes
  one_fresh None fresh pushes e = cc
  one_fresh (Some value) fresh pushes e = subst AreFresh (same_Some (value ∷ []) pushes e) (fresh value refl, tt)

  pub field_fresh : (used : FieldUse) (pushes : List VType) → field_value files used ≡ Some pushes → AreFresh pushes
  field_fresh used pushes e = one_fresh (value_of_kind files used.kind) (kind_fresh used.kind) pushes e

  pub result_fresh : (result : Option Kind) (pushes : List VType) → result_of files result ≡ Some pushes → AreFresh pushes
  result_fresh None pushes e = subst AreFresh (same_Some [] pushes e) tt
  result_fresh (Some kind) pushes e = one_fresh (value_of_kind files kind) (kind_fresh kind) pushes e

  -- ---- what parameters hold

  held_by : (found : Option VType) → ((value : VType) → found ≡ Some value → IsFresh files value) → IsKnown files (unwrap_or found Top) × (is_this (unwrap_or found Top) ≡ false)
  held_by None fresh = (tt, refl)
  held_by (Some value) fresh = let is = fresh value refl in (is.known, is.lacks)

  pub parameter_known : (kind : Kind) → IsKnown files (parameter_of files kind)
  parameter_known kind = (held_by (value_of_kind files kind) (kind_fresh kind)).0

  pub parameter_lacks : (kind : Kind) → is_this (parameter_of files kind) ≡ false
  parameter_lacks kind = (held_by (value_of_kind files kind) (kind_fresh kind)).1
