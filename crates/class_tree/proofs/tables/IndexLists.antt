-- The indexes of files, one for each.
use Rattle.std.proofs.Common.{◌≡◌, ℕ, zero, suc, ◌+◌, ◌-◌, ◌<◌, ◌≤◌, cond, List, [], ◌∷◌, ◌++◌, length, get_or, take, slice_get, Option, Some, None, position, refl, sym, ap, subst, ◌∙◌, arith}
use Rattle.std.specs.Option.{option_map_or}
use Rattle.std.specs.List.{AllZip}
use Rattle.std.proofs.lemmas.Bool.{lt-ltb, le-ltb}
use Rattle.library.specs.Classes.{first_own}
use Rattle.class_file.specs.declared.record.ClassFile.{ClassFile}
use Rattle.class_tree.specs.declared.member_index.MemberIndex.{MemberIndex}
use Rattle.class_tree.specs.Set.{file_of}
use Rattle.class_tree.specs.Members.{Declaration, is_called}
use Rattle.class_tree.specs.MemberIndex.{IsIndexOf, AreIndexes}
use Rattle.class_tree.proofs.tables.Scans.{taken}

module _ {X Y : Type 0} (C : X → Y → Type 0) where
  zip_more : (xs : List X) (ys : List Y) (x : X) (y : Y) → AllZip C xs ys → C x y → AllZip C (xs ++ x ∷ []) (ys ++ y ∷ [])
  zip_more [] [] x y all new = (new, tt)
  zip_more [] (b ∷ ys) x y all new = absurd all
  zip_more (a ∷ xs) [] x y all new = absurd all
  zip_more (a ∷ xs) (b ∷ ys) x y all new = (all.0, zip_more xs ys x y all.1 new)

  zip_at : (xs : List X) (ys : List Y) (i : ℕ) (x : X) (y : Y) → AllZip C xs ys → slice_get xs i ≡ Some x → slice_get ys i ≡ Some y → C x y
  zip_at [] ys i x y all e f = cc
  zip_at (a ∷ xs) [] i x y all e f = absurd all
  zip_at (a ∷ xs) (b ∷ ys) zero x y all e f =
      let same_x : a ≡ x = cc in
      let same_y : b ≡ y = cc in
      let P : X → Type 0 = λ u. C u y in
      subst P same_x (subst (C a) same_y all.0)
  zip_at (a ∷ xs) (b ∷ ys) (suc i) x y all e f = zip_at xs ys i x y all.1 e f

  zip_none : (xs : List X) (ys : List Y) (i : ℕ) → AllZip C xs ys → slice_get ys i ≡ None → slice_get xs i ≡ None
  zip_none [] ys i all e = refl
  zip_none (a ∷ xs) [] i all e = absurd all
  zip_none (a ∷ xs) (b ∷ ys) zero all e = cc
  zip_none (a ∷ xs) (b ∷ ys) (suc i) all e = zip_none xs ys i all.1 e

  zip_some : (xs : List X) (ys : List Y) (i : ℕ) (o : Option X) (y : Y) → AllZip C xs ys → slice_get xs i ≡ o → slice_get ys i ≡ Some y → (x : X) × (slice_get xs i ≡ Some x)
  zip_some [] [] i o y all e f = cc
  zip_some [] (b ∷ ys) i o y all e f = absurd all
  zip_some (a ∷ xs) [] i o y all e f = absurd all
  zip_some (a ∷ xs) (b ∷ ys) zero o y all e f = (a, refl)
  zip_some (a ∷ xs) (b ∷ ys) (suc i) o y all e f = zip_some xs ys i o y all.1 e f

-- one file more
pub indexes_more : (members : ClassFile → List Declaration) (files : List ClassFile) (indexes : List MemberIndex) (i : ℕ) (file : ClassFile) (index : MemberIndex)
    → i < length files → file ≡ get_or files i file → AreIndexes members (take i files) indexes → IsIndexOf (members file) index.texts index.keys.keys
    → AreIndexes members (take (i + 1) files) (indexes ++ index ∷ [])
indexes_more members files indexes i file index lt is all new =
    let P : List ClassFile → Type 0 = λ l. AreIndexes members l (indexes ++ index ∷ []) in
    subst P (sym (taken files i file lt is)) (zip_more (λ (f : ClassFile) (x : MemberIndex). IsIndexOf (members f) x.texts x.keys.keys) (take i files) indexes file index all new)

module _ (members : ClassFile → List Declaration) (files : List ClassFile) (indexes : List MemberIndex) (all : AreIndexes members files indexes) (name descriptor : List ℕ) (class : ℕ) where
  wanted : Option ℕ
  wanted = position (is_called name descriptor) (option_map_or members (file_of files class) [])

  by_file : (o : Option ClassFile) → file_of files class ≡ o → wanted ≡ position (is_called name descriptor) (option_map_or members o [])
  unfolding wanted
  by_file o is = ap (λ (f : Option ClassFile). position (is_called name descriptor) (option_map_or members f [])) is

  there : first_own ≤ class → file_of files class ≡ slice_get files (class - first_own)
  there le = ap (λ b. cond b None (slice_get files (class - first_own))) (le-ltb class first_own le)

  pub position_library : class < first_own → None ≡ position (is_called name descriptor) (option_map_or members (file_of files class) [])
  unfolding wanted
  position_library lt = sym (by_file None (ap (λ b. cond b None (slice_get files (class - first_own))) (lt-ltb class first_own lt)))

  pub position_absent : first_own ≤ class → slice_get indexes (class - first_own) ≡ None → None ≡ position (is_called name descriptor) (option_map_or members (file_of files class) [])
  unfolding wanted
  position_absent le none = sym (by_file None (there le ∙ zip_none (λ (f : ClassFile) (x : MemberIndex). IsIndexOf (members f) x.texts x.keys.keys) files indexes (class - first_own) all none))

  pub position_there : (index : MemberIndex) (found : Option ℕ) → first_own ≤ class → slice_get indexes (class - first_own) ≡ Some index
      → ((declared : List Declaration) → IsIndexOf declared index.texts index.keys.keys → found ≡ position (is_called name descriptor) declared)
      → found ≡ position (is_called name descriptor) (option_map_or members (file_of files class) [])
  unfolding wanted
  position_there index found le is says =
      let C : ClassFile → MemberIndex → Type 0 = λ f x. IsIndexOf (members f) x.texts x.keys.keys in
      let some = zip_some C files indexes (class - first_own) (slice_get files (class - first_own)) index all refl is in
      says (members some.0) (zip_at C files indexes (class - first_own) some.0 index all some.1 is) ∙ sym (by_file (Some some.0) (there le ∙ some.1))

pub get_past : {X : Type 0} (xs : List X) (i : ℕ) → length xs ≤ i → slice_get xs i ≡ None
get_past [] i le = refl
get_past (x ∷ xs) zero le = absurd (omega (arith, le))
get_past (x ∷ xs) (suc i) le = get_past xs i (omega (arith, le))
