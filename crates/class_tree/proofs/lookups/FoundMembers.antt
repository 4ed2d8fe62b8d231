-- What lookups find are members of the set.
use Rattle.std.proofs.Common.{◌≡◌, ℕ, zero, suc, ◌-◌, ◌<◌, ◌≤◌, Bool, true, false, not, nat_lt, nat_eq, cond, List, [], ◌∷◌, length, map, slice_get, Option, Some, None, option_map, option_and_then, position, inl, inr, refl, sym, ap, subst, ◌∙◌, arith, codes}
use Rattle.std.specs.Option.{option_or, option_map_or}
use Rattle.std.specs.Str.{bytes_eq}
use Rattle.std.proofs.lemmas.Bool.{lt-ltb, le-ltb, cases_lt, eqb-true}
use Rattle.std.proofs.lemmas.List.Quantifiers.{position-Some}
use Rattle.library.specs.Classes.{first_own}
use Rattle.library.specs.declared.natives.Native.{Native}
use Rattle.library.specs.declared.natives.Native.TheVariants.{Construct, Write, Read, Print}
use Rattle.class_file.specs.Rules.{is_private}
use Rattle.class_tree.proofs.ancestors.Acyclic.{not_true}
use Rattle.library.specs.Members.{methods_of as natives_of}
use Rattle.class_pool.specs.declared.types.MemberId.{MemberId}
use Rattle.class_file.specs.declared.record.ClassFile.{ClassFile}
use Rattle.class_tree.specs.Set.{file_of, IsClass}
use Rattle.class_tree.specs.Members.{Declaration, in_file, in_library, fields_of, methods_of, IsMember, is_called, member_at, field_in, method_in, method_flags, method_passing}
use Rattle.class_tree.specs.Upwards.{first_answer, first_upwards}
use Rattle.class_tree.specs.DirectSupers.{class_count, superclass_of, superclasses_of, superinterfaces_of, all_supers_of}
use Rattle.class_tree.specs.InterfaceLookup.{object, is_public_instance, interface_method_in, find_interface_method}
use Rattle.class_tree.specs.MethodLookup.{first_in_superclasses, method_of_superinterfaces}
use Rattle.class_tree.specs.Selection.{is_selectable}
use Rattle.class_tree.specs.Found.{AreMembers}

-- ---- where an answer comes from

module _ (P : MemberId → Type 0) where
  -- what answers is so
  abbrev pub AreSo : (ℕ → Option MemberId) → Type 0
  AreSo own = (class : ℕ) (id : MemberId) → own class ≡ Some id → P id

  from_none : (id : MemberId) → None ≡ Some id → P id
  from_none id e = cc

  from_or : (first second : Option MemberId) (id : MemberId) → (first ≡ Some id → P id) → (second ≡ Some id → P id) → option_or first second ≡ Some id → P id
  from_or None second id h k e = k e
  from_or (Some x) second id h k e = h e

  from_list : (own : ℕ → Option MemberId) → AreSo own → (classes : List ℕ) (id : MemberId) → first_answer own classes ≡ Some id → P id
  unfolding first_answer
  from_list own so [] id e = from_none id e
  from_list own so (c ∷ cs) id e = from_or (own c) (first_answer own cs) id (so c id) (from_list own so cs id) e

  from_up : (above : ℕ → List ℕ) (own : ℕ → Option MemberId) → AreSo own → (levels : ℕ) → AreSo (first_upwards above own levels)
  unfolding first_upwards
  from_up above own so zero class id e = from_none id e
  from_up above own so (suc levels) class id e =
      from_or (own class) (first_answer (first_upwards above own levels) (above class)) id (so class id) (from_list (first_upwards above own levels) (from_up above own so levels) (above class) id) e

  from_test : (b : Bool) (found id : MemberId) → P found → cond b (Some found) None ≡ Some id → P id
  from_test true found id p e = let same : found ≡ id = cc in subst P same p
  from_test false found id p e = from_none id e

  from_passing : (test : MemberId → Bool) (o : Option MemberId) (id : MemberId) → ((found : MemberId) → o ≡ Some found → P found) → option_and_then (λ found. cond (test found) (Some found) None) o ≡ Some id → P id
  from_passing test None id h e = from_none id e
  from_passing test (Some found) id h e = from_test (test found) found id (h found refl) e

  from_then : (own : ℕ → Option MemberId) → AreSo own → (o : Option ℕ) (id : MemberId) → option_and_then own o ≡ Some id → P id
  from_then own so None id e = from_none id e
  from_then own so (Some class) id e = so class id e

-- ---- what a class declares

module _ (files : List ClassFile) where
  -- a class that has a file
  with_file : (class : ℕ) (file : ClassFile) → file_of files class ≡ Some file → IsClass files class
  with_file class file is =
      elim (cases_lt class first_own) [
        | inl library ↦ let none : None ≡ Some file = sym (ap (λ b. cond b None (slice_get files (class - first_own))) (lt-ltb class first_own library)) ∙ is in cc
        | inr own ↦ inr (own, there files (class - first_own) file (sym (ap (λ b. cond b None (slice_get files (class - first_own))) (le-ltb class first_own own)) ∙ is))
      ]
    where
      there : (fs : List ClassFile) (i : ℕ) (f : ClassFile) → slice_get fs i ≡ Some f → i < length fs
      there [] i f e = cc
      there (g ∷ fs) zero f e = omega arith
      there (g ∷ fs) (suc i) f e = omega (arith, there fs i f e)

  some_field : (class : ℕ) (o : Option ClassFile) (n : ℕ) → file_of files class ≡ o → n < length (option_map_or (λ (file : ClassFile). map (in_file file.pool) file.fields) o []) → IsClass files class
  some_field class None n is lt = absurd (omega (arith, lt))
  some_field class (Some file) n is lt = with_file class file is

  some_method : (class : ℕ) (o : Option ClassFile) (n : ℕ) → file_of files class ≡ o → n < length (option_map_or (λ (file : ClassFile). map (in_file file.pool) file.methods) o []) → IsClass files class
  some_method class None n is lt = absurd (omega (arith, lt))
  some_method class (Some file) n is lt = with_file class file is

  no_native : (class : ℕ) → 15 ≤ class → natives_of class ≡ []
  no_native class le =
      ap (λ b. cond b (Write ∷ Read ∷ Print ∷ []) (cond (nat_lt class 15) (Construct ∷ []) [])) (not_true (nat_eq class 14) (λ e. omega (arith, eqb-true class 14 e, le)))
      ∙ ap (λ b. cond b (Construct ∷ []) []) (le-ltb class 15 le)

  some_native : (class n : ℕ) → n < length (map in_library (natives_of class)) → IsClass files class
  some_native class n lt =
      elim (cases_lt class 15) [
        | inl less ↦ inl less
        | inr more ↦ let none : length (map in_library (natives_of class)) ≡ 0 = ap (λ (l : List Native). length (map in_library l)) (no_native class more) in absurd (omega (arith, lt, none))
      ]

  field_class : (class n : ℕ) → n < length (fields_of files class) → IsClass files class
  field_class class n lt = some_field class (file_of files class) n refl lt

  method_class : (class n : ℕ) → n < length (methods_of files class) → IsClass files class
  method_class class n lt =
      let P : List Declaration → Type 0 = λ l. n < length l in
      let own : List Declaration = option_map_or (λ (file : ClassFile). map (in_file file.pool) file.methods) (file_of files class) [] in
      elim (cases_lt class first_own) [
        | inl library ↦ some_native class n (subst P (ap (λ b. cond b (map in_library (natives_of class)) own) (lt-ltb class first_own library)) lt)
        | inr over ↦ some_method class (file_of files class) n refl (subst P (ap (λ b. cond b (map in_library (natives_of class)) own) (le-ltb class first_own over)) lt)
      ]

  -- a position that is found is one of a member
  placed : (class : ℕ) (members : List Declaration) (p : Declaration → Bool) (P : MemberId → Type 0) → ((n : ℕ) → n < length members → P (member_at class n))
      → (o : Option ℕ) → position p members ≡ o → (id : MemberId) → option_map (member_at class) o ≡ Some id → P id
  placed class members p P h None is id e = cc
  placed class members p P h (Some n) is id e =
      let same : member_at class n ≡ id = cc in
      subst P same (h n (position-Some p members n (record { name = []; descriptor = []; flags = 0 }) is).0)

  field_member : (name descriptor : List ℕ) → AreSo (IsMember files true) (field_in files name descriptor)
  field_member name descriptor class id e =
      placed class (fields_of files class) (is_called name descriptor) (IsMember files true) (λ n lt. record { class = field_class class n lt; member = lt }) (position (is_called name descriptor) (fields_of files class)) refl id e

  method_member : (name descriptor : List ℕ) → AreSo (IsMember files false) (method_in files name descriptor)
  method_member name descriptor class id e =
      placed class (methods_of files class) (is_called name descriptor) (IsMember files false) (λ n lt. record { class = method_class class n lt; member = lt }) (position (is_called name descriptor) (methods_of files class)) refl id e

  passing_member : (test : ℕ → Bool) (name descriptor : List ℕ) → AreSo (IsMember files false) (method_passing test files name descriptor)
  passing_member test name descriptor class id e =
      from_passing (IsMember files false) (λ found. test (method_flags files found)) (method_in files name descriptor class) id (method_member name descriptor class) e

  -- ---- what lookups find

  interface_own : (name descriptor : List ℕ) → AreSo (IsMember files false) (interface_method_in files name descriptor)
  interface_own name descriptor class id e =
      from_or (IsMember files false) (method_in files name descriptor class) (method_passing is_public_instance files name descriptor object) id (method_member name descriptor class id) (passing_member is_public_instance name descriptor object id) e

  interface_found : (name descriptor : List ℕ) → AreSo (IsMember files false) (find_interface_method files name descriptor)
  interface_found name descriptor = from_up (IsMember files false) (superinterfaces_of files) (interface_method_in files name descriptor) (interface_own name descriptor) (class_count files)

  in_superclasses : (own : ℕ → Option MemberId) → AreSo (IsMember files false) own → AreSo (IsMember files false) (first_in_superclasses files own)
  in_superclasses own so = from_up (IsMember files false) (superclasses_of files) own so (class_count files)

  method_found : (name descriptor : List ℕ) (b : Bool) (class : ℕ) (id : MemberId)
      → cond b (method_in files name descriptor class) (option_or (first_in_superclasses files (method_in files name descriptor) class) (first_in_superclasses files (method_of_superinterfaces files name descriptor) class)) ≡ Some id
      → IsMember files false id
  method_found name descriptor true class id e = method_member name descriptor class id e
  method_found name descriptor false class id e =
      from_or (IsMember files false) (first_in_superclasses files (method_in files name descriptor) class) (first_in_superclasses files (method_of_superinterfaces files name descriptor) class) id
      (in_superclasses (method_in files name descriptor) (method_member name descriptor) class id)
      (in_superclasses (method_of_superinterfaces files name descriptor) (λ c i f. from_list (IsMember files false) (find_interface_method files name descriptor) (interface_found name descriptor) (superinterfaces_of files c) i f) class id) e

  pub found_members : (name descriptor : List ℕ) (class : ℕ) (id : MemberId) → AreMembers files name descriptor class id
  found_members name descriptor class id =
      record {
        field = from_up (IsMember files true) (all_supers_of files) (field_in files name descriptor) (field_member name descriptor) (class_count files) class id;
        method = method_found name descriptor (bytes_eq name (codes "<init>")) class id;
        interface_method = interface_found name descriptor class id;
        selected = in_superclasses (method_passing is_selectable files name descriptor) (passing_member is_selectable name descriptor) class id;
        overridden_one = from_then (IsMember files false) (first_in_superclasses files (method_passing (λ flags. not (is_private flags)) files name descriptor))
            (in_superclasses (method_passing (λ flags. not (is_private flags)) files name descriptor) (passing_member (λ flags. not (is_private flags)) name descriptor)) (superclass_of files class) id;
      }
