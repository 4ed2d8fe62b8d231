-- What a class has above it, among the classes that have files.
use Rattle.std.proofs.Common.{◌≡◌, ℕ, zero, suc, ◌+◌, ◌-◌, ◌<◌, ◌≤◌, Bool, true, false, ◌||◌, ◌&&◌, cond, List, [], ◌∷◌, map, slice_get, Option, Some, None, inl, inr, refl, sym, ap, ◌∙◌, arith}
use Rattle.std.specs.Option.{option_map_or}
use Rattle.std.specs.List.{list_any, filter, range_with_len}
use Rattle.std.proofs.lemmas.Bool.{lt-ltb, le-ltb, cases_lt}
use Rattle.library.specs.Classes.{first_own}
use Rattle.library.specs.declared.natives.Native.{Native}
use Rattle.library.specs.declared.natives.Native.TheVariants.{Construct, Write, Read, Print}
use Rattle.library.specs.Members.{methods_of as natives_of}
use Rattle.class_file.specs.declared.record.ClassFile.{ClassFile}
use Rattle.class_file.specs.Rules.{is_interface}
use Rattle.class_tree.specs.Set.{file_of}
use Rattle.class_tree.specs.Members.{Declaration, in_file, in_library, methods_of}
use Rattle.class_tree.specs.AccessTests.{is_subclass}
use Rattle.jvm_model.specs.Overrides.{hides_method, hides_methods_of, lacks_body}

-- ---- truth values

or_left : (a b : Bool) → a ≡ true → (a || b) ≡ true
or_left a b e = ap (λ x. x || b) e

or_right : (a b : Bool) → b ≡ true → (a || b) ≡ true
or_right true b e = refl
or_right false b e = e

or_both : (a b : Bool) → a ≡ false → b ≡ false → (a || b) ≡ false
or_both a b e f = ap (λ x. x || b) e ∙ f

-- ---- lists

pub any_map : {X Y : Type 0} (view : X → Y) (p : Y → Bool) (xs : List X) → list_any p (map view xs) ≡ list_any (λ x. p (view x)) xs
any_map view p [] = refl
any_map view p (x ∷ xs) = ap (λ b. p (view x) || b) (any_map view p xs)

-- ---- a class that has a file

pub file_there : (files : List ClassFile) (class : ℕ) (file : ClassFile) → first_own ≤ class → slice_get files (class - first_own) ≡ Some file → file_of files class ≡ Some file
file_there files class file le is = ap (λ b. cond b None (slice_get files (class - first_own))) (le-ltb class first_own le) ∙ is

pub methods_there : (files : List ClassFile) (class : ℕ) (file : ClassFile) → first_own ≤ class → slice_get files (class - first_own) ≡ Some file → methods_of files class ≡ map (in_file file.pool) file.methods
methods_there files class file le is =
    ap (λ b. cond b (map in_library (natives_of class)) (option_map_or (λ (f : ClassFile). map (in_file f.pool) f.methods) (file_of files class) [])) (le-ltb class first_own le)
    ∙ ap (λ (o : Option ClassFile). option_map_or (λ (f : ClassFile). map (in_file f.pool) f.methods) o []) (file_there files class file le is)

-- the methods of its file pass a test as those of the class do
any_there : (files : List ClassFile) (p : Declaration → Bool) (class : ℕ) (file : ClassFile) → first_own ≤ class → slice_get files (class - first_own) ≡ Some file → list_any (λ m. p (in_file file.pool m)) file.methods ≡ list_any p (methods_of files class)
any_there files p class file le is = sym (ap (list_any p) (methods_there files class file le is) ∙ any_map (in_file file.pool) p file.methods)

pub hides_there : (files : List ClassFile) (class interface : ℕ) (file : ClassFile) → first_own ≤ interface → slice_get files (interface - first_own) ≡ Some file
    → list_any (λ m. hides_method files class (in_file file.pool m)) file.methods ≡ list_any (hides_method files class) (methods_of files interface)
hides_there files class = any_there files (hides_method files class)

pub lacks_there : (files : List ClassFile) (class upper : ℕ) (file : ClassFile) → first_own ≤ upper → slice_get files (upper - first_own) ≡ Some file
    → list_any (λ m. lacks_body files class (in_file file.pool m)) file.methods ≡ list_any (lacks_body files class) (methods_of files upper)
lacks_there files class = any_there files (lacks_body files class)

-- ---- numbers below a count

module _ (P Q : ℕ → Bool) where
  -- one of so many numbers passes both tests
  among : ℕ → ℕ → Bool
  among first count = list_any P (filter Q (range_with_len first count))

  kept : (b : Bool) (x : ℕ) (xs : List ℕ) → list_any P (cond b (x ∷ xs) xs) ≡ ((b && P x) || list_any P xs)
  kept true x xs = refl
  kept false x xs = refl

  starts : (first count : ℕ) → among first (suc count) ≡ ((Q first && P first) || among (first + 1) count)
  unfolding among
  starts first count = kept (Q first) first (filter Q (range_with_len (first + 1) count))

  one_there : (first count k : ℕ) → first ≤ k → k < first + count → (Q k && P k) ≡ true → among first count ≡ true
  one_there first zero k le lt e = absurd (omega (arith, le, lt))
  one_there first (suc count) k le lt e =
      elim (cases_lt first k) [
        | inl less ↦ starts first count ∙ or_right (Q first && P first) (among (first + 1) count) (one_there (first + 1) count k (omega (arith, less)) (omega (arith, lt)) e)
        | inr more ↦ let same : k ≡ first = omega (arith, le, more) in
            starts first count ∙ or_left (Q first && P first) (among (first + 1) count) (ap (λ n. Q n && P n) (sym same) ∙ e)
      ]

  none_there : (first count : ℕ) → ((k : ℕ) → first ≤ k → k < first + count → (Q k && P k) ≡ false) → among first count ≡ false
  unfolding among
  none_there first zero none = refl
  none_there first (suc count) none =
      starts first count
      ∙ or_both (Q first && P first) (among (first + 1) count) (none first (omega arith) (omega arith)) (none_there (first + 1) count (λ k le lt. none k (omega (arith, le)) (omega (arith, lt))))

  -- one passes where one is known, and none where each is known not to
  pub one_of : (count k : ℕ) → k < count → (Q k && P k) ≡ true → list_any P (filter Q (range_with_len 0 count)) ≡ true
  unfolding among
  one_of count k lt e = one_there 0 count k (omega arith) (omega (arith, lt)) e

  pub none_of : (count : ℕ) → ((k : ℕ) → k < count → (Q k && P k) ≡ false) → list_any P (filter Q (range_with_len 0 count)) ≡ false
  unfolding among
  none_of count none = none_there 0 count (λ k le lt. none k (omega (arith, lt)))

  -- what holds of all numbers below one, and of it, holds of all below the next
  pub none_more : (count : ℕ) → ((k : ℕ) → k < first_own + count → (Q k && P k) ≡ false) → (Q (first_own + count) && P (first_own + count)) ≡ false → (k : ℕ) → k < first_own + (count + 1) → (Q k && P k) ≡ false
  none_more count none here k lt =
      elim (cases_lt k (first_own + count)) [
        | inl less ↦ none k less
        | inr more ↦ let same : k ≡ first_own + count = omega (arith, lt, more) in ap (λ n. Q n && P n) same ∙ here
      ]

-- ---- the library has no interfaces and no abstract methods

and_false : (a : Bool) → (a && false) ≡ false
and_false true = refl
and_false false = refl

module _ (files : List ClassFile) (class : ℕ) where
  no_interface : (k : ℕ) → k < first_own → hides_methods_of files class k ≡ false
  no_interface k lt =
      ap (λ b. is_interface (option_map_or (λ (file : ClassFile). file.flags) (cond b None (slice_get files (k - first_own))) 1) && list_any (hides_method files class) (methods_of files k)) (lt-ltb k first_own lt)

  pub none_hidden : (k : ℕ) → k < first_own → (is_subclass files class k && hides_methods_of files class k) ≡ false
  none_hidden k lt = ap (λ b. is_subclass files class k && b) (no_interface k lt) ∙ and_false (is_subclass files class k)

  native_has_body : (native : Native) → lacks_body files class (in_library native) ≡ false
  native_has_body Construct = refl
  native_has_body Write = refl
  native_has_body Read = refl
  native_has_body Print = refl

  natives_have_bodies : (natives : List Native) → list_any (lacks_body files class) (map in_library natives) ≡ false
  natives_have_bodies [] = refl
  natives_have_bodies (native ∷ natives) = or_both (lacks_body files class (in_library native)) (list_any (lacks_body files class) (map in_library natives)) (native_has_body native) (natives_have_bodies natives)

  no_abstract : (k : ℕ) → k < first_own → list_any (lacks_body files class) (methods_of files k) ≡ false
  no_abstract k lt =
      ap (λ b. list_any (lacks_body files class) (cond b (map in_library (natives_of k)) (option_map_or (λ (f : ClassFile). map (in_file f.pool) f.methods) (file_of files k) []))) (lt-ltb k first_own lt)
      ∙ natives_have_bodies (natives_of k)

  pub none_lacking : (k : ℕ) → k < first_own → (is_subclass files class k && list_any (lacks_body files class) (methods_of files k)) ≡ false
  none_lacking k lt = ap (λ b. is_subclass files class k && b) (no_abstract k lt) ∙ and_false (is_subclass files class k)
