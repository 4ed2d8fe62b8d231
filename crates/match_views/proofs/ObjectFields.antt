-- The fields of an object, as its class and its superclasses declare them.
use Rattle.std.proofs.Common.{◌≡◌, ℕ, zero, suc, ◌+◌, Bool, true, false, cond, not, nat_eq, List, [], ◌∷◌, ◌++◌, map, filter, Option, Some, None, is_some, unwrap_or, slice_get, option_and_then, if◌then◌else◌, refl, sym, ap, subst, ◌∙◌, arith}
use Rattle.std.specs.List.{AllByRecursion}
use Rattle.std.specs.Option.{option_map_or, option_or, option_to_list}
use Rattle.std.proofs.lemmas.Bool.{eq-eqb}
use Rattle.class_pool.specs.declared.descriptor.Kind.TheVariants as declared
use Rattle.class_pool.specs.DescriptorReading.{kind_at, brackets, base_at, field_of}
use Rattle.class_pool.specs.Pool.{utf8_at}
use Rattle.class_file.specs.Rules.{is_static}
use Rattle.class_file.specs.declared.record.ClassFile.{ClassFile}
use Rattle.class_file.specs.declared.record.Member.{Member}
use Rattle.class_tree.specs.DirectSupers.{class_count, superclass_of, superclasses_of}
use Rattle.class_tree.specs.Members.{Declaration, in_file, fields_of, member_at}
use Rattle.class_tree.specs.Set.{file_of}
use Rattle.class_tree.specs.Upwards.{first_answer, first_upwards}
use Rattle.jvm_model.specs.ImageNumbering.{Field, fields_from, class_fields, object_fields, fields_of_object}
use Rattle.typed_machine.specs.TypedWorld.{kind_of, instance_field}

-- ---- lists

pub all_joined : {X : Type 0} (P : X → Type 0) (xs ys : List X) → AllByRecursion P xs → AllByRecursion P ys → AllByRecursion P (xs ++ ys)
all_joined P [] ys first second = second
all_joined P (x ∷ xs) ys first second = (first.0, all_joined P xs ys first.1 second)

pub all_mapped : {X : Type 0} (P Q : X → Type 0) → ((x : X) → P x → Q x) → (xs : List X) → AllByRecursion P xs → AllByRecursion Q xs
all_mapped P Q so [] all = tt
all_mapped P Q so (x ∷ xs) all = (so x all.0, all_mapped P Q so xs all.1)

module _ {X : Type 0} (test : X → Bool) (P : X → Type 0) where
  kept_first : (x : X) (xs : List X) (passes : Bool) → (passes ≡ true → P x) → AllByRecursion P xs → AllByRecursion P (cond passes (x ∷ xs) xs)
  kept_first x xs true here rest = (here refl, rest)
  kept_first x xs false here rest = rest

  -- what holds of each item that passes holds of all that are kept
  all_kept : (xs : List X) → AllByRecursion (λ x. test x ≡ true → P x) xs → AllByRecursion P (filter test xs)
  all_kept [] all = tt
  all_kept (x ∷ xs) all = kept_first x (filter test xs) (test x) all.0 (all_kept xs all.1)

-- ---- the kind that a field declares

nothing_named : field_of [] ≡ None
unfolding field_of kind_at brackets base_at
nothing_named = refl

pub same_kind : (text : Option (List ℕ)) → unwrap_or (field_of (unwrap_or text [])) declared.Int ≡ unwrap_or (option_and_then field_of text) declared.Int
same_kind None = ap (λ found. unwrap_or found declared.Int) nothing_named
same_kind (Some text) = refl

-- ---- a class or one above it

abbrev itself : ℕ → ℕ → Option ℕ
itself upper class = if nat_eq upper class then Some class else None

-- the class is the upper one, or leads up to it in at most so many levels
abbrev IsAbove : List ClassFile → ℕ → ℕ → ℕ → Type 0
IsAbove files levels class upper = is_some (first_upwards (superclasses_of files) (itself upper) levels class) ≡ true

either_first : {X : Type 0} (first second : Option X) → is_some first ≡ true → is_some (option_or first second) ≡ true
either_first None second e = absurd cc
either_first (Some x) second e = refl

either_second : {X : Type 0} (first second : Option X) → is_some second ≡ true → is_some (option_or first second) ≡ true
either_second None second e = e
either_second (Some x) second e = refl

or_nothing : {X : Type 0} (first : Option X) → option_or first None ≡ first
or_nothing None = refl
or_nothing (Some x) = refl

above_itself : (files : List ClassFile) (levels class : ℕ) → IsAbove files (suc levels) class class
unfolding first_upwards
above_itself files levels class =
    let here : is_some (itself class class) ≡ true = ap (λ same. is_some (if same then Some class else None)) (eq-eqb class class refl) in
    either_first (itself class class) (first_answer (first_upwards (superclasses_of files) (itself class) levels) (superclasses_of files class)) here

one_answer : {X : Type 0} (answer : ℕ → Option X) (class : ℕ) → first_answer answer (class ∷ []) ≡ answer class
unfolding first_answer
one_answer answer class = or_nothing (answer class)

above_more : (files : List ClassFile) (levels class between upper : ℕ) → superclass_of files class ≡ Some between → IsAbove files levels between upper → IsAbove files (suc levels) class upper
unfolding first_upwards
above_more files levels class between upper next above =
    let up = first_upwards (superclasses_of files) (itself upper) levels in
    let same : first_answer up (superclasses_of files class) ≡ up between = ap (λ found. first_answer up (option_to_list found)) next ∙ one_answer up between in
    either_second (itself upper class) (first_answer up (superclasses_of files class)) (ap is_some same ∙ above)

-- ---- fields as classes declare them

-- a field that the class has, or one that leads to it in at most so many levels
pub record IsFieldOf (files : List ClassFile) (levels class : ℕ) (field : Field) : Type 0 where
  pub above : IsAbove files levels class field.member.class
  pub declaration : Declaration
  pub there : slice_get (fields_of files field.member.class) field.member.member ≡ Some declaration
  pub instance_one : is_static declaration.flags ≡ false
  pub kind : kind_of declaration ≡ field.kind

not_is : (b : Bool) → not b ≡ true → b ≡ false
not_is true e = absurd cc
not_is false e = refl

module _ (files : List ClassFile) (levels class : ℕ) (file : ClassFile) (own : fields_of files class ≡ map (in_file file.pool) file.fields) where
  abbrev field_at : ℕ → Member → Field
  field_at at member = record { member = member_at class at; kind = unwrap_or (option_and_then field_of (utf8_at file.pool member.descriptor)) declared.Int; static = is_static member.flags }

  own_field : (at : ℕ) (member : Member) → slice_get (map (in_file file.pool) file.fields) at ≡ Some (in_file file.pool member) → not (is_static member.flags) ≡ true → IsFieldOf files (suc levels) class (field_at at member)
  own_field at member is passes =
      record {
        above = above_itself files levels class;
        declaration = in_file file.pool member;
        there = ap (λ fields. slice_get fields at) own ∙ is;
        instance_one = not_is (is_static member.flags) passes;
        kind = same_kind (utf8_at file.pool member.descriptor);
      }

  own_from : (at : ℕ) (members : List Member) → ((i : ℕ) → slice_get (map (in_file file.pool) file.fields) (at + i) ≡ slice_get (map (in_file file.pool) members) i)
      → AllByRecursion (λ (field : Field). not field.static ≡ true → IsFieldOf files (suc levels) class field) (fields_from class file at members)
  unfolding fields_from
  own_from at [] rest = tt
  own_from at (member ∷ members) rest =
      let here : at ≡ at + 0 = omega arith in (
        own_field at member (ap (slice_get (map (in_file file.pool) file.fields)) here ∙ rest 0),
        own_from (suc at) members (λ i. let next : suc at + i ≡ at + suc i = omega arith in ap (slice_get (map (in_file file.pool) file.fields)) next ∙ rest (suc i)),
      )

module _ (files : List ClassFile) where
  abbrev instance_fields : ℕ → List Field
  instance_fields class = filter (λ field. not field.static) (class_fields files class)

  own_of_file : (levels class : ℕ) (found : Option ClassFile) → file_of files class ≡ found → AllByRecursion (IsFieldOf files (suc levels) class) (instance_fields class)
  own_of_file levels class None is =
      subst (λ fields. AllByRecursion (IsFieldOf files (suc levels) class) (filter (λ field. not field.static) fields)) (sym (ap (λ found. option_map_or (λ (file : ClassFile). fields_from class file 0 file.fields) found []) is)) tt
  own_of_file levels class (Some file) is =
      subst (λ fields. AllByRecursion (IsFieldOf files (suc levels) class) (filter (λ field. not field.static) fields)) (sym (ap (λ found. option_map_or (λ (file : ClassFile). fields_from class file 0 file.fields) found []) is))
      (all_kept (λ field. not field.static) (IsFieldOf files (suc levels) class) (fields_from class file 0 file.fields)
      (own_from files levels class file (ap (λ found. option_map_or (λ (file : ClassFile). map (in_file file.pool) file.fields) found []) is) 0 file.fields (λ i. let here : 0 + i ≡ i = omega arith in ap (slice_get (map (in_file file.pool) file.fields)) here)))

  from_above : (levels class : ℕ) (found : Option ℕ) → superclass_of files class ≡ found → ((upper : ℕ) → AllByRecursion (IsFieldOf files levels upper) (object_fields files levels upper))
      → AllByRecursion (IsFieldOf files (suc levels) class) (option_map_or (object_fields files levels) found [])
  from_above levels class None is before = tt
  from_above levels class (Some upper) is before =
      all_mapped (IsFieldOf files levels upper) (IsFieldOf files (suc levels) class)
      (λ field of. record { above = above_more files levels class upper field.member.class is of.above; declaration = of.declaration; there = of.there; instance_one = of.instance_one; kind = of.kind })
      (object_fields files levels upper) (before upper)

  fields_declared : (levels class : ℕ) → AllByRecursion (IsFieldOf files levels class) (object_fields files levels class)
  unfolding object_fields
  fields_declared zero class = tt
  fields_declared (suc levels) class =
      all_joined (IsFieldOf files (suc levels) class) (option_map_or (object_fields files levels) (superclass_of files class) []) (instance_fields class)
      (from_above levels class (superclass_of files class) refl (fields_declared levels)) (own_of_file levels class (file_of files class) refl)

  -- ---- the fields of an object

  -- the field is an instance field of the class, and declares its kind
  pub record DeclaresField (class : ℕ) (field : Field) : Type 0 where
    pub declaration : Declaration
    pub is : instance_field files class field.member ≡ Some declaration
    pub kind : kind_of declaration ≡ field.kind

  instance_by : (class : ℕ) (field : Field) → IsFieldOf files (class_count files) class field → DeclaresField class field
  instance_by class field of =
      let within = λ (declaration : Declaration). if is_static declaration.flags then None else Some declaration in
      record {
        declaration = of.declaration;
        is =
            ap (λ above. if above then option_and_then within (slice_get (fields_of files field.member.class) field.member.member) else None) of.above
            ∙ ap (option_and_then within) of.there
            ∙ ap (λ static. if static then None else Some of.declaration) of.instance_one;
        kind = of.kind;
      }

  pub all_instance_fields : (class : ℕ) → AllByRecursion (DeclaresField class) (fields_of_object files class)
  all_instance_fields class = all_mapped (IsFieldOf files (class_count files) class) (DeclaresField class) (instance_by class) (fields_of_object files class) (fields_declared (class_count files) class)
