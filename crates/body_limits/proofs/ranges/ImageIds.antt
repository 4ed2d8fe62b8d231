-- The numbers of what instructions name fit two bytes where the lists that number them are not too long.
use Rattle.std.proofs.Common.{◌≡◌, ℕ, ◌+◌, ◌^◌, ◌<◌, Bool, true, false, nat_eq, nat_lt, cond, if◌then◌else◌, List, [], ◌∷◌, length, slice_get, Option, Some, None, unwrap_or, refl, arith}
use Rattle.std.specs.List.{AllByRecursion}
use Rattle.std.specs.Option.{option_map_or}
use Rattle.std.proofs.lemmas.Bool.{ltb-true}
use Rattle.library.specs.declared.natives.Native.{Native}
use Rattle.library.specs.declared.natives.Native.TheVariants as native
use Rattle.library.specs.Members.{methods_of as natives_of}
use Rattle.library.specs.Natives.{number_of}
use Rattle.class_pool.specs.declared.types.MemberId.{MemberId}
use Rattle.class_pool.specs.declared.types.TypeBase.{TypeBase}
use Rattle.class_pool.specs.declared.types.TypeBase.TheVariants as base
use Rattle.class_pool.specs.declared.types.TypeRef.{TypeRef}
use Rattle.class_pool.specs.Descriptors.{descriptor_text}
use Rattle.body_form.specs.declared.op.MethodUse.{MethodUse}
use Rattle.jvm_model.specs.declared.numbers.FieldPlace.{FieldPlace}
use Rattle.jvm_model.specs.ImageExpansion.{Ids}
use Rattle.jvm_model.specs.ImageNumbering.{Numbering, is_member, is_type, is_selector, number_from, method_id, place_listed, library_class, library_id, type_id, ids_of}
use Rattle.type_safety.proofs.fitting.SetLists.{none_some, same_some}

-- what instructions name has numbers of two bytes
pub record IdsFit (ids : Ids) : Type 0 where
  pub static : (member : MemberId) → ids.static member < 2 ^ 16
  pub field : (member : MemberId) → ids.field member < 2 ^ 16
  pub type : (type : TypeRef) → ids.type type < 2 ^ 16
  pub method : (member : MemberId) → ids.method member < 2 ^ 16
  pub selector : (used : MethodUse) → ids.selector used < 2 ^ 16

-- ---- numbers in lists

-- a number is one of the list's, or the first
number_low : {X : Type 0} (first room : ℕ) (is : X → Bool) (items : List X) → length items < room → number_from first is items < first + room
number_low first room is items few = by_test _ (length items) few (nat_lt _ (length items)) refl
  where
    by_test : (at count : ℕ) → count < room → (within : Bool) → nat_lt at count ≡ within → first + unwrap_or (cond within (Some at) None) 0 < first + room
    by_test at count few true within =
        let low : at < count = ltb-true at count within in
        omega (arith, low, few)
    by_test at count few false within = omega (arith, few)

library_low : (type : TypeRef) (class : ℕ) → library_id type ≡ Some class → class < 32
library_low type class is = by_dims (nat_eq type.dims 0) is
  where
    by_class : (n : ℕ) (low : Bool) → nat_lt n 32 ≡ low → (if low then Some n else None) ≡ Some class → class < 32
    by_class n true low is =
        let same : n ≡ class = same_some n class is in
        let lt : n < 32 = ltb-true n 32 low in
        omega (arith, same, lt)
    by_class n false low is = none_some class is

    by_base : (of : TypeBase) → library_class of ≡ Some class → class < 32
    by_base (base.Class n) is = by_class n (nat_lt n 32) refl is
    by_base base.Byte is = none_some class is
    by_base base.Char is = none_some class is
    by_base base.Short is = none_some class is
    by_base base.Int is = none_some class is
    by_base base.Boolean is = none_some class is

    by_dims : (none : Bool) → (if none then library_class type.base else None) ≡ Some class → class < 32
    by_dims true is = by_base type.base is
    by_dims false is = none_some class is

type_low : (types : List TypeRef) → length types < 65504 → (type : TypeRef) → type_id types type < 2 ^ 16
type_low types few type = by_library (library_id type) refl
  where
    by_library : (o : Option ℕ) → library_id type ≡ o → unwrap_or o (number_from 32 (is_type type) types) < 2 ^ 16
    by_library None is =
        let low = number_low 32 65504 (is_type type) types few in
        omega (arith, low)
    by_library (Some class) is =
        let low = library_low type class is in
        omega (arith, low)

native_low : (n : Native) → number_of n < 2 ^ 16
native_low native.Construct = omega arith
native_low native.Write = omega arith
native_low native.Read = omega arith
native_low native.Print = omega arith

method_low : (methods : List MemberId) → length methods < 65504 → (member : MemberId) → method_id methods member < 2 ^ 16
method_low methods few member = by_native (slice_get (natives_of member.class) member.member)
  where
    by_native : (o : Option Native) → option_map_or number_of o (number_from 32 (is_member member) methods) < 2 ^ 16
    by_native None =
        let low = number_low 32 65504 (is_member member) methods few in
        omega (arith, low)
    by_native (Some n) = native_low n

place_low : (fields : List FieldPlace) → AllByRecursion (λ (field : FieldPlace). field.place < 65536) fields → (member : MemberId) → place_listed fields member < 2 ^ 16
unfolding place_listed
place_low [] low member = omega arith
place_low (field ∷ fields) low member = by_member (is_member member field.member) (place_low fields low.1 member)
  where
    by_member : (here : Bool) → place_listed fields member < 2 ^ 16 → (if here then field.place else place_listed fields member) < 2 ^ 16
    by_member true later = low.0
    by_member false later = later

-- ---- all of them

pub ids_fit : (numbering : Numbering) → length numbering.types < 65504 → length numbering.methods < 65504 → length numbering.selectors < 65536 → AllByRecursion (λ (field : FieldPlace). field.place < 65536) numbering.fields → IdsFit (ids_of numbering)
ids_fit numbering types methods selectors places =
    record {
      static = place_low numbering.fields places;
      field = place_low numbering.fields places;
      type = type_low numbering.types types;
      method = method_low numbering.methods methods;
      selector = λ used.
          let low = number_low 0 65536 (is_selector used.name (descriptor_text used.descriptor)) numbering.selectors selectors in
          omega (arith, low);
    }
