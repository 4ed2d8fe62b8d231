-- A method that is read of a class file and has the name of the initialiser takes nothing and gives nothing.
use Rattle.std.proofs.Common.{◌≡◌, ℕ, zero, suc, Bool, true, ◌&&◌, not, List, [], ◌∷◌, ◌++◌, length, Some, None, option_map, option_and_then, Option, Result, Ok, Err, refl, sym, ap, subst, ◌∙◌}
use Rattle.std.specs.List.{AllByRecursion}
use Rattle.std.proofs.lemmas.Bool.{and_parts}
use Rattle.byte_read.proofs.Steps.{bind_then, ok_is, no_failure, passes}
use Rattle.byte_read.specs.Reading.{steps_at, one_more}
use Rattle.class_pool.specs.Pool.{Slots}
use Rattle.class_file.specs.declared.record.ClassFile.{ClassFile}
use Rattle.class_file.specs.declared.record.Member.{Member}
use Rattle.class_file.specs.declared.refusal.ReadRefusal.{ReadRefusal}
use Rattle.class_file.specs.declared.refusal.ReadRefusal.TheVariants.{BadShape, TooLarge, NotClass, TrailingBytes}
use Rattle.class_file.proofs.layout.Whole.{ways}
use Rattle.class_file.specs.Rules.{is_abstract, is_native, has_one_access, fits_abstract, fits_constructor, fits_initialiser, fits_interface_method, fits_slots, fits_special_name}
use Rattle.class_file.specs.Reading.{u2_at, counted_at, list_at}
use Rattle.class_file.specs.ReadingMembers.{skip_all_at, method_type, is_declared, is_method_head, head_in, head_at, method_head_at, method_attributes_at, method_at, fields_at, methods_at}
use Rattle.class_file.specs.ReadingClass.{version_at, pool_at, class_head_at, members_at, body_of, class_of, capped}
use Rattle.jvm_model.specs.ClosedSet.{records_of}
use Rattle.jvm_model.specs.Phases.{record_in}
use Rattle.type_safety.proofs.fitting.SetLists.{none_some, same_some}

-- ---- lists that are read

module _ {S : Type 0} (step : S → List ℕ → Result (S × List ℕ) ReadRefusal) (Q : S → Type 0) (keeps : (s : S) (bytes : List ℕ) (x : S × List ℕ) → Q s → step s bytes ≡ Ok x → Q x.0) where
  steps_keep : (s : S) (count : ℕ) (bytes : List ℕ) (x : S × List ℕ) → Q s → steps_at step s count bytes ≡ Ok x → Q x.0
  unfolding steps_at
  steps_keep s zero bytes x q e = subst (λ (y : S × List ℕ). Q y.0) (ok_is (s, bytes) x e) q
  steps_keep s (suc count) bytes x q e = bind_then (step s bytes) _ x e (λ y at e_x. steps_keep y.0 count y.1 x (keeps s bytes y q at) e_x)

  counted_keep : (s : S) (bytes : List ℕ) (x : S × List ℕ) → Q s → counted_at step s bytes ≡ Ok x → Q x.0
  unfolding counted_at
  counted_keep s bytes x q e = bind_then (u2_at bytes) _ x e (λ count at e_x. steps_keep s count.0 count.1 x q e_x)

all_push : {A : Type 0} (P : A → Type 0) (xs : List A) (x : A) → AllByRecursion P xs → P x → AllByRecursion P (xs ++ x ∷ [])
all_push P [] x all p = (p, tt)
all_push P (y ∷ xs) x all p = (all.0, all_push P xs x all.1 p)

items_keep : {A : Type 0} (item : List A → List ℕ → Result (A × List ℕ) ReadRefusal) (P : A → Type 0)
    → ((earlier : List A) (bytes : List ℕ) (x : A × List ℕ) → item earlier bytes ≡ Ok x → P x.0) → (bytes : List ℕ) (x : List A × List ℕ) → list_at item bytes ≡ Ok x → AllByRecursion P x.0
items_keep {A = A} item P each bytes x e =
    counted_keep (one_more item) (AllByRecursion P)
    (λ earlier bytes y all e. bind_then (item earlier bytes) _ y e (λ next at e_y.
    subst (λ (z : List A × List ℕ). AllByRecursion P z.0) (ok_is (earlier ++ next.0 ∷ [], next.1) y e_y) (all_push P earlier next.0 all (each earlier bytes next at))))
    [] bytes x tt e

-- ---- methods

abbrev pub KeepsInitialiser : Slots → Member → Type 0
KeepsInitialiser pool m = fits_initialiser pool (head_in m) ≡ true

fourth_holds : (a b c d e : Bool) → (a && (b && (c && (d && e)))) ≡ true → d ≡ true
fourth_holds a b c d e is = (and_parts d e (and_parts c (d && e) (and_parts b (c && (d && e)) (and_parts a (b && (c && (d && e))) is).1).1).1).0

method_keeps : (class_flags : ℕ) (pool : Slots) (earlier : List Member) (bytes : List ℕ) (x : Member × List ℕ) → method_at class_flags pool earlier bytes ≡ Ok x → KeepsInitialiser pool x.0
unfolding method_at method_head_at method_type
method_keeps class_flags pool earlier bytes x e =
    bind_then (method_head_at class_flags pool earlier bytes) _ x e (λ head at_head e1.
    bind_then (method_attributes_at pool (is_abstract head.0.flags) head.1) _ x e1 (λ code at_code e2.
    bind_then (head_at pool bytes) _ head at_head (λ other at_other e3.
    bind_then (method_type pool other.0.descriptor) _ head e3 (λ type at_type e4.
    let passed = passes _ _ head BadShape e4 in
    let heads = ap (λ (h : _). h.0) passed.1 in
    subst (λ (y : Member × List ℕ). KeepsInitialiser pool y.0) (ok_is _ x e2)
    (ap (λ (h : _). fits_initialiser pool h) (sym heads)
    ∙ fourth_holds (has_one_access other.0.flags && (fits_interface_method class_flags pool other.0 && not (is_native other.0.flags)))
    (fits_abstract pool other.0 && fits_special_name pool other.0) (fits_constructor pool other.0 type) (fits_initialiser pool other.0) (fits_slots pool other.0 type)
    (and_parts (is_method_head class_flags pool other.0 type) (not (is_declared pool earlier other.0)) passed.0).0)))))

-- ---- files

abbrev pub KeepsInitialisers : ClassFile → Type 0
KeepsInitialisers file = AllByRecursion (KeepsInitialiser file.pool) file.methods

body_keeps : (bytes : List ℕ) (file : ClassFile) → body_of bytes ≡ Ok file → KeepsInitialisers file
unfolding body_of members_at methods_at
body_keeps bytes file e =
    bind_then (version_at bytes) _ file e (λ version at_version e1.
    bind_then (pool_at version.1) _ file e1 (λ pool at_pool e2.
    bind_then (class_head_at pool.0 pool.1) _ file e2 (λ head at_head e3.
    bind_then (members_at head.0.flags pool.0 head.1) _ file e3 (λ members at_members e4.
    bind_then (fields_at head.0.flags pool.0 head.1) _ members at_members (λ fields at_fields e5.
    bind_then (methods_at head.0.flags pool.0 fields.1) _ members e5 (λ methods at_methods e6.
    bind_then (skip_all_at pool.0 methods.1) _ members e6 (λ rest at_rest e7.
    let made = passes _ _ file (TrailingBytes (capped (length members.1))) e4 in
    let are = ap (λ (m : (List Member × List Member) × List ℕ). m.0) (ok_is _ members e7) in
    let kept_methods = items_keep (method_at head.0.flags pool.0) (KeepsInitialiser pool.0) (method_keeps head.0.flags pool.0) fields.1 methods at_methods in
    subst KeepsInitialisers made.1 (subst (λ (l : List Member). AllByRecursion (KeepsInitialiser pool.0) l) (ap (λ (m : List Member × List Member). m.1) are) kept_methods))))))))

pub file_keeps : (bytes : List ℕ) (file : ClassFile) → class_of bytes ≡ Ok file → KeepsInitialisers file
file_keeps bytes file e =
    ways (KeepsInitialisers file) bytes (Ok file) e (λ many is. absurd (no_failure file (TooLarge (capped (length bytes))) (sym is))) (λ size other is. absurd (no_failure file NotClass (sym is)))
    (λ begun e_file. body_keeps _ file e_file)

-- what is read of each file, the records of all have
module _ (P : ClassFile → Type 0) (Fits : List ℕ → Type 0) (each : (bytes : List ℕ) (file : ClassFile) → Fits bytes → class_of bytes ≡ Ok file → P file) where
  one_more_file : (bytes : List ℕ) (read : Result ClassFile ReadRefusal) → Fits bytes → class_of bytes ≡ read → (rest : Option (List ClassFile)) (classes : List ClassFile)
      → ((others : List ClassFile) → rest ≡ Some others → AllByRecursion P others) → option_and_then (λ class. option_map (λ others. class ∷ others) rest) (record_in read) ≡ Some classes → AllByRecursion P classes
  one_more_file bytes (Err why) fit is rest classes others e = none_some classes e
  one_more_file bytes (Ok file) fit is None classes others e = none_some classes e
  one_more_file bytes (Ok file) fit is (Some more) classes others e = subst (AllByRecursion P) (same_some (file ∷ more) classes e) (each bytes file fit is, others more refl)

  pub records_keep : (files : List (List ℕ)) (classes : List ClassFile) → AllByRecursion Fits files → records_of files ≡ Some classes → AllByRecursion P classes
  records_keep [] classes fit e = subst (AllByRecursion P) (same_some [] classes e) tt
  records_keep (bytes ∷ files) classes fit e =
      one_more_file bytes (class_of bytes) fit.0 refl (records_of files) classes (λ others is. records_keep files others fit.1 is) e
