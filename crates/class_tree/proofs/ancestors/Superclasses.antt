-- In a set that the phases accept, each class but java/lang/Object has a superclass in the set.
use Rattle.std.proofs.Common.{◌≡◌, ℕ, zero, suc, ◌+◌, ◌-◌, ◌<◌, ◌≤◌, ◌⊎◌, Bool, true, false, ◌||◌, cond, nat_lt, inl, inr, List, [], ◌∷◌, map, length, slice_get, Option, Some, None, is_none, unwrap_or, option_map, option_and_then, position, refl, sym, ap, subst, ◌∙◌, arith}
use Rattle.std.specs.Option.{option_or, option_to_list}
use Rattle.std.specs.List.{AllByRecursion, list_all}
use Rattle.std.specs.Str.{bytes_eq}
use Rattle.std.proofs.lemmas.Bool.{lt-ltb, le-ltb, ltb-true, and_parts}
use Rattle.std.proofs.lemmas.List.{length-map}
use Rattle.std.proofs.lemmas.List.Quantifiers.{position-Some}
use Rattle.library.specs.Classes.{first_own, class_names}
use Rattle.class_pool.specs.Pool.{class_name_at}
use Rattle.class_file.specs.declared.record.ClassFile.{ClassFile}
use Rattle.class_tree.specs.declared.refusal.TreeRefusal.{TreeRefusal}
use Rattle.class_tree.specs.declared.refusal.TreeRefusal.TheVariants.{MissingClass}
use Rattle.class_tree.specs.Scan.{first_refusal}
use Rattle.class_tree.specs.Set.{own_name, number_among, named_among, library_superclass, file_of, is_directly_below, IsClass}
use Rattle.class_tree.specs.Supers.{lacks_super, super_fault, supers_refusal}
use Rattle.class_tree.specs.Tree.{Gathers}
use Rattle.class_tree.specs.Closure.{leads_over}
use Rattle.class_tree.specs.Ranks.{how_many, AreRanks}
use Rattle.class_tree.specs.DirectSupers.{class_count, superclass_of, superclasses_of}
use Rattle.class_tree.proofs.ancestors.Acyclic.{ranks_by_ways}
use Rattle.class_tree.proofs.ancestors.SupersAbove.{superclasses_fall}
use Rattle.class_tree.proofs.tables.Within.{same_some}

-- ---- a rank that falls

pub record IsRanked (files : List ClassFile) (rank : ℕ → ℕ) : Type 0 where
  pub falls : (class : ℕ) → AllByRecursion (λ upper. rank upper < rank class) (superclasses_of files class)
  pub bound : (class : ℕ) → rank class < class_count files

pub ranked : (files : List ClassFile) → Gathers files None → (rank : ℕ → ℕ) × IsRanked files rank
ranked files gathers =
    let names = map own_name files in
    let rank : ℕ → ℕ = λ class. how_many (leads_over (is_directly_below names files) (32 + length names) class) (32 + length names) in
    let ranks : AreRanks names files rank = ranks_by_ways names files gathers.1.1.1.0 (length-map files own_name) in (
      rank,
      record {
        falls = superclasses_fall names files rank ranks;
        bound = λ class. subst (λ n. rank class < 32 + n) (length-map files own_name) (ranks.bound class);
      },
    )

pub falls_to : (files : List ClassFile) (rank : ℕ → ℕ) → IsRanked files rank → (class by : ℕ) → superclass_of files class ≡ Some by → rank by < rank class
falls_to files rank is class by e =
    let P : Option ℕ → Type 0 = λ o. AllByRecursion (λ upper. rank upper < rank class) (option_to_list o) in
    (subst P e (is.falls class)).0

-- ---- a scan that finds nothing

none_first : {R : Type 0} (first second : Option R) → option_or first second ≡ None → first ≡ None
none_first None second e = refl
none_first (Some x) second e = e

none_second : {R : Type 0} (first second : Option R) → option_or first second ≡ None → second ≡ None
none_second None second e = e
none_second (Some x) second e = cc

pub passed : {X R : Type 0} (test : ℕ → X → Option R) (from : ℕ) (xs : List X) → first_refusal test from xs ≡ None → (i : ℕ) (x : X) → slice_get xs i ≡ Some x → test (from + i) x ≡ None
unfolding first_refusal
passed test from [] e i x is = cc
passed test from (y ∷ xs) e zero x is =
    let same : y ≡ x = ap (λ o. unwrap_or o y) is in
    let start : from + 0 ≡ from = omega arith in
    ap (λ n. test n x) start ∙ ap (test from) (sym same) ∙ none_first (test from y) (first_refusal test (suc from) xs) e
passed test from (y ∷ xs) e (suc i) x is =
    let more : from + suc i ≡ suc from + i = omega arith in
    ap (λ n. test n x) more ∙ passed test (suc from) xs (none_second (test from y) (first_refusal test (suc from) xs) e) i x is

-- ---- classes of the library

-- a number of a class of the library
pub is_small : Option ℕ → Bool
is_small None = false
is_small (Some n) = nat_lt n 15

abbrev SmallAt : List (Option ℕ) → ℕ → Type 0
SmallAt xs i = (n : ℕ) × (option_and_then (λ above. above) (slice_get xs i) ≡ Some n) × (n < 15)

some_at : (xs : List (Option ℕ)) → list_all is_small xs ≡ true → (i : ℕ) → i < length xs → SmallAt xs i
unfolding is_small
some_at [] all i lt = absurd (omega (arith, lt))
some_at (None ∷ xs) all i lt = cc
some_at (Some n ∷ xs) all zero lt = (n, refl, ltb-true n 15 (and_parts (nat_lt n 15) (list_all is_small xs) all).0)
some_at (Some n ∷ xs) all (suc i) lt = some_at xs (and_parts (nat_lt n 15) (list_all is_small xs) all).1 i (omega (arith, lt))

library_above : (class : ℕ) → class < 14 → (n : ℕ) × (library_superclass (suc class) ≡ Some n) × (n < 15)
unfolding is_small
library_above class lt =
    let others : List (Option ℕ) = Some 0 ∷ Some 1 ∷ Some 2 ∷ Some 3 ∷ Some 3 ∷ Some 3 ∷ Some 3 ∷ Some 3 ∷ Some 3 ∷ Some 9 ∷ Some 1 ∷ Some 11 ∷ Some 12 ∷ Some 0 ∷ [] in
    some_at others refl class lt

-- ---- numbers of names

module _ (files : List ClassFile) where
  abbrev names : List (List ℕ)
  names = map own_name files

  among_files : (o : Option ℕ) (n : ℕ) → ((k : ℕ) → o ≡ Some k → k < length files) → option_map (λ file. first_own + file) o ≡ Some n → IsClass files n
  among_files None n within e = cc
  among_files (Some k) n within e =
      let same : first_own + k ≡ n = same_some (first_own + k) n e in
      let lt = within k refl in
      inr (omega (arith, same), omega (arith, same, lt))

  either : (first second : Option ℕ) (n : ℕ) → ((k : ℕ) → first ≡ Some k → k < 15) → (second ≡ Some n → IsClass files n) → option_or first second ≡ Some n → IsClass files n
  either None second n small other e = other e
  either (Some k) second n small other e = inl (subst (λ m. m < 15) (same_some k n e) (small k refl))

  pub named_class : (o : Option (List ℕ)) (n : ℕ) → option_and_then (number_among names) o ≡ Some n → IsClass files n
  named_class None n e = cc
  named_class (Some name) n e =
      either (position (bytes_eq name) class_names) (option_map (λ file. first_own + file) (position (bytes_eq name) names)) n
      (λ k is. (position-Some (bytes_eq name) class_names k [] is).0)
      (λ is. among_files (position (bytes_eq name) names) n (λ k here. subst (λ m. k < m) (length-map files own_name) (position-Some (bytes_eq name) names k [] here).0) is)
      e

  -- ---- the next class

  pub super_by_library : (class : ℕ) → class < first_own → superclass_of files class ≡ library_superclass class
  super_by_library class lt = ap (λ b. cond b (library_superclass class) (option_and_then (λ (file : ClassFile). named_among names file file.super_class) (file_of files class))) (lt-ltb class first_own lt)

  pub super_by_file : (class : ℕ) → first_own ≤ class → superclass_of files class ≡ option_and_then (λ (file : ClassFile). named_among names file file.super_class) (slice_get files (class - first_own))
  super_by_file class le =
      ap (λ b. cond b (library_superclass class) (option_and_then (λ (file : ClassFile). named_among names file file.super_class) (file_of files class))) (le-ltb class first_own le)
      ∙ ap (λ b. option_and_then (λ (file : ClassFile). named_among names file file.super_class) (cond b None (slice_get files (class - first_own)))) (le-ltb class first_own le)

  -- the next class of the set
  abbrev pub Next : ℕ → Type 0
  Next class = (n : ℕ) × (superclass_of files class ≡ Some n) × IsClass files n

  there : (o : Option ℕ) → is_none o ≡ false → (n : ℕ) × (o ≡ Some n)
  there None e = cc
  there (Some n) e = (n, refl)

  not_first : (a b : Bool) → (a || b) ≡ false → a ≡ false
  not_first false b e = refl
  not_first true b e = cc

  pub lack : (b : Bool) (why : TreeRefusal) (other : Option TreeRefusal) → cond b (Some why) other ≡ None → b ≡ false
  lack false why other e = refl
  lack true why other e = cc

  no_lack : (i : ℕ) (file : ClassFile) → super_fault names files i file ≡ None → lacks_super names file ≡ false
  no_lack i file e = lack (lacks_super names file) (MissingClass i 0 0) _ e

  library_next : (class : ℕ) → class < 14 → Next (suc class)
  library_next class lt =
      let above = library_above class lt in
      (above.0, super_by_library (suc class) (omega (arith, lt)) ∙ above.1, inl above.2)

  pub beyond : {X : Type 0} (xs : List X) (i : ℕ) → slice_get xs i ≡ None → length xs ≤ i
  beyond [] i e = omega arith
  beyond (x ∷ xs) zero e = cc
  beyond (x ∷ xs) (suc i) e = omega (arith, beyond xs i e)

  file_next : (class : ℕ) → first_own ≤ class → (o : Option ClassFile) → slice_get files (class - first_own) ≡ o → class - first_own < length files → supers_refusal names files ≡ None → Next class
  file_next class le None is within e = absurd (omega (arith, beyond files (class - first_own) is, within))
  file_next class le (Some file) is within e =
      let position = class - first_own in
      let start : 0 + position ≡ position = omega arith in
      let accepted : super_fault names files position file ≡ None = ap (λ n. super_fault names files n file) (sym start) ∙ passed (super_fault names files) 0 files e position file is in
      let super = there (named_among names file file.super_class) (not_first (is_none (named_among names file file.super_class)) _ (no_lack position file accepted)) in
      (super.0, super_by_file class le ∙ ap (option_and_then (λ (f : ClassFile). named_among names f f.super_class)) is ∙ super.1, named_class (class_name_at file.pool file.super_class) super.0 super.1)

  small_next : (class : ℕ) → class < 15 → (class ≡ 0) ⊎ Next class
  small_next zero lt = inl refl
  small_next (suc class) lt = inr (library_next class (omega (arith, lt)))

  pub next_class : Gathers files None → (class : ℕ) → IsClass files class → (class ≡ 0) ⊎ Next class
  next_class gathers class inside =
      elim inside [
        | inl library ↦ small_next class library
        | inr own ↦ inr (file_next class own.0 (slice_get files (class - first_own)) refl own.1 (sym gathers.1.1.0))
      ]
