-- Each method of a file that is read has a type.
use Rattle.std.proofs.Common.{◌≡◌, ℕ, zero, suc, Bool, ◌&&◌, not, cond, List, [], ◌∷◌, ◌++◌, length, take, drop, Option, Some, None, option_and_then, option_map, Result, Ok, Err, refl, sym, subst}
use Rattle.std.specs.Prelude.{nat_lt, ◌==◌}
use Rattle.std.specs.Str.{bytes_eq}
use Rattle.std.specs.List.{AllByRecursion}
use Rattle.std.proofs.lemmas.Option.{none-some, same_Some}
use Rattle.byte_read.specs.Reading.{steps_at, one_more}
use Rattle.byte_read.proofs.Steps.{bind_then, ok_is, no_failure, passes, chosen}
use Rattle.class_pool.specs.declared.descriptor.Descriptor.{Descriptor}
use Rattle.class_pool.specs.Pool.{Slots, utf8_at}
use Rattle.class_pool.specs.DescriptorReading.{method_of}
use Rattle.class_file.specs.declared.record.ClassFile.{ClassFile}
use Rattle.class_file.specs.declared.record.Member.{Member}
use Rattle.class_file.specs.declared.refusal.ReadRefusal.{ReadRefusal}
use Rattle.class_file.specs.declared.refusal.ReadRefusal.TheVariants.{NotClass, TrailingBytes, BadShape, TooLarge}
use Rattle.class_file.specs.Layout.{magic}
use Rattle.class_file.specs.Relation.{largest}
use Rattle.class_file.specs.Rules.{is_abstract}
use Rattle.class_file.specs.Reading.{u2_at, counted_at, list_at}
use Rattle.class_file.specs.ReadingMembers.{described, head_at, is_declared, is_method_head, method_type, method_head_at, method_attributes_at, method_at, fields_at, methods_at, skip_all_at}
use Rattle.class_file.specs.ReadingClass.{capped, version_at, pool_at, class_head_at, members_at, body_of, class_of}
use Rattle.class_tree.proofs.lookups.Climbing.{all_append}
use Rattle.jvm_model.specs.Phases.{record_in}
use Rattle.jvm_model.specs.ClosedSet.{records_of}
use Rattle.jvm_model.specs.Bodies.{HasType}

-- the method has a type
abbrev pub IsTypedMethod : Slots → Member → Type 0
IsTypedMethod pool m = (type : Descriptor) × HasType pool m type

-- each method of the class has one
abbrev pub HasTypes : ClassFile → Type 0
HasTypes file = AllByRecursion (IsTypedMethod file.pool) file.methods

-- ---- what holds of each item that is read holds of all

module _ {A : Type 0} (P : A → Type 0) (item : List A → List ℕ → Result (A × List ℕ) ReadRefusal) (each : (earlier : List A) (bytes : List ℕ) (x : A × List ℕ) → item earlier bytes ≡ Ok x → P x.0) where
  grown : (earlier : List A) → AllByRecursion P earlier → (bytes : List ℕ) (x : List A × List ℕ) → one_more item earlier bytes ≡ Ok x → AllByRecursion P x.0
  grown earlier all bytes x e =
      bind_then (item earlier bytes) (λ next. Ok (earlier ++ next.0 ∷ [], next.1)) x e (λ next at_next is.
      subst (λ (y : List A × List ℕ). AllByRecursion P y.0) (ok_is {E = ReadRefusal} (earlier ++ next.0 ∷ [], next.1) x is) (all_append P earlier (next.0 ∷ []) all (each earlier bytes next at_next, tt)))

  all_steps : (earlier : List A) → AllByRecursion P earlier → (count : ℕ) (bytes : List ℕ) (x : List A × List ℕ) → steps_at (one_more item) earlier count bytes ≡ Ok x → AllByRecursion P x.0
  unfolding steps_at
  all_steps earlier all zero bytes x e = subst (λ (y : List A × List ℕ). AllByRecursion P y.0) (ok_is {E = ReadRefusal} (earlier, bytes) x e) all
  all_steps earlier all (suc count) bytes x e =
      bind_then (one_more item earlier bytes) (λ y. steps_at (one_more item) y.0 count y.1) x e (λ y at_y is. all_steps y.0 (grown earlier all bytes y at_y) count y.1 x is)

  all_read : (bytes : List ℕ) (x : List A × List ℕ) → list_at item bytes ≡ Ok x → AllByRecursion P x.0
  unfolding counted_at
  all_read bytes x e = bind_then (u2_at bytes) (λ count. steps_at (one_more item) [] count.0 count.1) x e (λ count at_count is. all_steps [] tt count.0 count.1 x is)

-- ---- methods

described_is : (index : ℕ) (found : Option Descriptor) (type : Descriptor) → described index found ≡ Ok type → found ≡ Some type
described_is index None type e = absurd cc
described_is index (Some other) type e = cc

-- a test that lets a value through, and what holds of it
passes_with : {X : Type 0} (b : Bool) (x y : X) (why : ReadRefusal) → cond b (Ok x) (Err why) ≡ Ok y → (P : X → Type 0) → P x → P y
passes_with b x y why e P p = subst P (passes b x y why e).1 p

-- the descriptor at an index is the type of a method
abbrev IsType : Slots → ℕ → Type 0
IsType pool index = (type : Descriptor) × (option_and_then method_of (utf8_at pool index) ≡ Some type)

module _ (class_flags : ℕ) (pool : Slots) where
  method_typed : (earlier : List Member) (bytes : List ℕ) (x : Member × List ℕ) → method_at class_flags pool earlier bytes ≡ Ok x → IsTypedMethod pool x.0
  unfolding method_at method_head_at method_type
  method_typed earlier bytes x e =
      bind_then (method_head_at class_flags pool earlier bytes) _ x e (λ head at_head e_code.
      let typed : IsType pool head.0.descriptor =
      bind_then (head_at pool bytes) _ head at_head (λ first at_first e_type.
      bind_then (method_type pool first.0.descriptor) _ head e_type (λ type at_type e_head.
      passes_with (is_method_head class_flags pool first.0 type && not (is_declared pool earlier first.0)) first head BadShape e_head (λ y. IsType pool y.0.descriptor) (type, described_is first.0.descriptor (option_and_then method_of (utf8_at pool first.0.descriptor)) type at_type))) in
      bind_then (method_attributes_at pool (is_abstract head.0.flags) head.1) _ x e_code (λ code at_code is. subst (λ (y : Member × List ℕ). IsTypedMethod pool y.0) (ok_is {E = ReadRefusal} _ x is) typed))

  members_typed : (bytes : List ℕ) (x : (List Member × List Member) × List ℕ) → members_at class_flags pool bytes ≡ Ok x → AllByRecursion (IsTypedMethod pool) x.0.1
  unfolding members_at methods_at
  members_typed bytes x e =
      bind_then (fields_at class_flags pool bytes) _ x e (λ fields at_fields e_methods.
      bind_then (methods_at class_flags pool fields.1) _ x e_methods (λ methods at_methods e_rest.
      bind_then (skip_all_at pool methods.1) _ x e_rest (λ rest at_rest is.
      subst (λ (y : (List Member × List Member) × List ℕ). AllByRecursion (IsTypedMethod pool) y.0.1) (ok_is {E = ReadRefusal} _ x is)
      (all_read (IsTypedMethod pool) (method_at class_flags pool) method_typed fields.1 methods at_methods))))

-- ---- files

body_typed : (bytes : List ℕ) (file : ClassFile) → body_of bytes ≡ Ok file → HasTypes file
unfolding body_of
body_typed bytes file e =
    bind_then (version_at bytes) _ file e (λ version at_version e_pool.
    bind_then (pool_at version.1) _ file e_pool (λ pool at_pool e_head.
    bind_then (class_head_at pool.0 pool.1) _ file e_head (λ head at_head e_members.
    bind_then (members_at head.0.flags pool.0 head.1) _ file e_members (λ members at_members is.
    passes_with (length members.1 == 0) _ file (TrailingBytes (capped (length members.1))) is HasTypes (members_typed head.0.flags pool.0 head.1 members at_members)))))

pub read_typed : (bytes : List ℕ) (file : ClassFile) → class_of bytes ≡ Ok file → HasTypes file
unfolding class_of
read_typed bytes file e =
    chosen (nat_lt largest (length bytes)) _ _ (Ok file) e (λ many is. absurd (no_failure file (TooLarge (capped (length bytes))) (sym is)))
    (λ few is. chosen (bytes_eq (take 4 bytes) magic) _ _ (Ok file) is (λ same e_file. body_typed (drop 4 bytes) file e_file) (λ other none. absurd (no_failure file NotClass (sym none))))

-- each class of a set whose files are read
pub records_typed : (files : List (List ℕ)) (classes : List ClassFile) → records_of files ≡ Some classes → AllByRecursion HasTypes classes
records_typed [] classes e = subst (AllByRecursion HasTypes) (same_Some [] classes e) tt
records_typed (bytes ∷ files) classes e = by_class (class_of bytes) refl (records_of files) (records_typed files) e
  where
    by_class : (read : Result ClassFile ReadRefusal) → class_of bytes ≡ read → (more : Option (List ClassFile)) → ((rest : List ClassFile) → more ≡ Some rest → AllByRecursion HasTypes rest)
        → option_and_then (λ file. option_map (λ rest. file ∷ rest) more) (record_in read) ≡ Some classes → AllByRecursion HasTypes classes
    by_class (Err why) is more typed none = absurd (none-some classes none)
    by_class (Ok file) is None typed none = absurd (none-some classes none)
    by_class (Ok file) is (Some rest) typed same = subst (AllByRecursion HasTypes) (same_Some (file ∷ rest) classes same) (read_typed bytes file is, typed rest refl)
