-- The bodies of the methods of classes, method by method and class by class.
use Rattle.std.proofs.Common.{◌≡◌, inl, inr, ℕ, zero, suc, ◌+◌, ◌-◌, ◌<◌, ◌≤◌, List, [], ◌∷◌, ◌++◌, length, drop, get_or, slice_get, drop-cons, add-one, Option, Some, None, refl, sym, ap, subst, ◌∙◌, arith}
use Rattle.std.specs.Prelude.{IfSome}
use Rattle.std.specs.Option.{option_to_list}
use Rattle.std.proofs.lemmas.List.{drop_all}
use Rattle.std.proofs.lemmas.Option.{same_Some}
use Rattle.class_file.specs.declared.record.ClassFile.{ClassFile}
use Rattle.class_file.specs.declared.record.Member.{Member}
use Rattle.body_form.specs.declared.body.Body.{Body}
use Rattle.body_make.specs.Names.{Adds}
use Rattle.body_make.proofs.Adding.{adds_then, adds_none, adds_all}
use Rattle.jvm_model.specs.declared.refusal.Refusal.{Refusal}
use Rattle.jvm_model.specs.FirstOf.{FirstOf}
use Rattle.jvm_model.specs.Linking.{MethodNames, ClassLinks, declared_refusal}
use Rattle.jvm_model.specs.Bodies.{Coded, coded_of, coded_from, coded_in, IsBody, AreBodies}

-- ---- the methods of a class

module _ (files : List ClassFile) (class : ℕ) (file : ClassFile) where
  -- what completes the bodies of all these methods, where those from a position on are left
  abbrev pub CompletesMethods : List Member → ℕ → List Body → List Body → Type 0
  CompletesMethods methods i old now = (new : List Body) → Adds (IsBody files) (coded_from class file i (drop i methods)) now new → Adds (IsBody files) (coded_from class file 0 methods) old new

  methods_at : (methods : List Member) (i : ℕ) (m : Member) → i < length methods → m ≡ get_or methods i m
      → coded_from class file i (drop i methods) ≡ option_to_list (coded_of class file i m) ++ coded_from class file (i + 1) (drop (i + 1) methods)
  unfolding coded_from
  methods_at methods i m lt is =
      ap (coded_from class file i) (drop-cons methods i m lt ∙ ap (λ (x : Member). x ∷ drop (suc i) methods) (sym is))
      ∙ ap (λ n. option_to_list (coded_of class file i m) ++ coded_from class file n (drop n methods)) (sym (add-one i))

  no_methods : (i : ℕ) → coded_from class file i [] ≡ []
  unfolding coded_from
  no_methods i = refl

  pub methods_more : (methods : List Member) (i : ℕ) (m : Member) (old now next : List Body) → i < length methods → m ≡ get_or methods i m → Adds (IsBody files) (option_to_list (coded_of class file i m)) now next
      → CompletesMethods methods i old now → CompletesMethods methods (i + 1) old next
  methods_more methods i m old now next lt is added completes = λ new adds.
      completes new (subst (λ (l : List Coded). Adds (IsBody files) l now new) (sym (methods_at methods i m lt is))
      (adds_then (IsBody files) (option_to_list (coded_of class file i m)) (coded_from class file (i + 1) (drop (i + 1) methods)) now next new added adds))

  pub methods_end : (methods : List Member) (i : ℕ) (old now : List Body) → length methods ≤ i → CompletesMethods methods i old now → Adds (IsBody files) (coded_from class file 0 methods) old now
  methods_end methods i old now le completes =
      completes now (subst (λ (l : List Coded). Adds (IsBody files) l now now) (sym (ap (coded_from class file i) (drop_all i methods le) ∙ no_methods i)) (adds_none (IsBody files) now))

-- ---- the classes of a set

-- a file that is there is the item at its position
pub item_at : (files : List ClassFile) (i : ℕ) (file : ClassFile) → slice_get files i ≡ Some file → file ≡ get_or files i file
item_at [] i file e = refl
item_at (other ∷ files) zero file e = sym (same_Some other file e)
item_at (other ∷ files) (suc i) file e = item_at files i file e

module _ (files : List ClassFile) where
  abbrev pub CompletesClasses : ℕ → List Body → Type 0
  CompletesClasses i now = (new : List Body) → Adds (IsBody files) (coded_in (32 + i) (drop i files)) now new → Adds (IsBody files) (coded_in 32 files) [] new

  classes_at : (i : ℕ) (file : ClassFile) → i < length files → file ≡ get_or files i file
      → coded_in (32 + i) (drop i files) ≡ coded_from (32 + i) file 0 file.methods ++ coded_in (32 + (i + 1)) (drop (i + 1) files)
  unfolding coded_in
  classes_at i file lt is =
      ap (coded_in (32 + i)) (drop-cons files i file lt ∙ ap (λ (x : ClassFile). x ∷ drop (suc i) files) (sym is))
      ∙ ap (λ n. coded_from (32 + i) file 0 file.methods ++ coded_in n (drop (suc i) files)) (next i)
      ∙ ap (λ n. coded_from (32 + i) file 0 file.methods ++ coded_in (32 + n) (drop n files)) (sym (add-one i))
    where
      next : (n : ℕ) → suc (32 + n) ≡ 32 + suc n
      next n = omega arith

  no_classes : (class : ℕ) → coded_in class [] ≡ []
  unfolding coded_in
  no_classes class = refl

  pub classes_more : (i : ℕ) (file : ClassFile) (now next : List Body) → i < length files → file ≡ get_or files i file → Adds (IsBody files) (coded_from (32 + i) file 0 file.methods) now next
      → CompletesClasses i now → CompletesClasses (i + 1) next
  classes_more i file now next lt is added completes = λ new adds.
      completes new (subst (λ (l : List Coded). Adds (IsBody files) l now new) (sym (classes_at i file lt is))
      (adds_then (IsBody files) (coded_from (32 + i) file 0 file.methods) (coded_in (32 + (i + 1)) (drop (i + 1) files)) now next new added adds))

  pub classes_end : (i : ℕ) (now : List Body) → length files ≤ i → CompletesClasses i now → AreBodies files now
  classes_end i now le completes =
      adds_all (IsBody files) (coded_in 32 files) now
      (completes now (subst (λ (l : List Coded). Adds (IsBody files) l now now) (sym (ap (coded_in (32 + i)) (drop_all i files le) ∙ no_classes (32 + i))) (adds_none (IsBody files) now)))

-- the number of a class and the position of its file
pub own_position : (i : ℕ) → (32 + i) - 32 ≡ i
own_position i = omega arith

-- ---- a class

-- what is said of the file of a class that is there
pub said_of : (files : List ClassFile) (position : ℕ) (file : ClassFile) (P : ClassFile → Type 0) → slice_get files position ≡ Some file → IfSome (slice_get files position) P → P file
said_of files position file P there says = subst (λ (o : Option ClassFile). IfSome o P) there says

module _ (files : List ClassFile) (position : ℕ) (file : ClassFile) where
  pub class_none : (methods : List Member) → methods ≡ file.methods → declared_refusal files position file ≡ None → FirstOf (MethodNames files position file) 0 methods None → ClassLinks files position file None
  class_none methods same declares names = (sym declares, subst (λ (l : List Member). FirstOf (MethodNames files position file) 0 l None) same names)

  pub class_declares : (why : Refusal) → declared_refusal files position file ≡ Some why → ClassLinks files position file (Some why)
  class_declares why declares = inl (sym declares)

  pub class_names : (methods : List Member) (why : Refusal) → methods ≡ file.methods → declared_refusal files position file ≡ None → FirstOf (MethodNames files position file) 0 methods (Some why) → ClassLinks files position file (Some why)
  class_names methods why same declares names = inr (sym declares, subst (λ (l : List Member). FirstOf (MethodNames files position file) 0 l (Some why)) same names)
