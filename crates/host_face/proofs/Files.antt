-- What the files of a map from names to bytes have at a name, and how a change of the map changes them.
use Rattle.std.proofs.Common.{◌≡◌, ℕ, Bool, true, false, cond, List, [], ◌∷◌, map, Option, Some, String, Vec, BTreeMap, refl, sym, ap, ◌∙◌, string_bytes}
use Rattle.std.specs.Option.{option_map}
use Rattle.std.specs.Ordering.{nat_cmp, is_eq}
use Rattle.std.specs.Cmp.Lexicographic.{slice_cmp, nat_list_cmp_total, nat_list_eq_equiv}
use Rattle.std.specs.BTreeMap.{get_by_text, is_at, UpdatesBy}
use Rattle.std.specs.Map.{lookup}
use Rattle.std.specs.Str.{bytes_eq}
use Rattle.std.specs.String.{string_cmp}
use Rattle.std.specs.FinMap.{find, get, insert, empty, get-from_entries, get-insert, same_map, slice_cmp-IsAntisymmetric, nat_cmp-IsAntisymmetric}
use Rattle.std.proofs.lemmas.Map.Text.{btree_map_updates_text, is_eq-slice_cmp}
use Rattle.host_face.specs.MemShelf.{files_of}

module _ {Z : Type 0} where
  -- the bytes at a name, read from the pairs
  abbrev pub bytes_at : List (String Z × Vec ℕ Z) → List ℕ → Option (List ℕ)
  bytes_at files name = option_map (λ bytes. bytes.items) (lookup (is_at (λ key. slice_cmp nat_cmp name (string_bytes key))) files)

  mapped_cond : (b : Bool) (x : Vec ℕ Z) (y : Option (Vec ℕ Z)) → cond b (Some x.items) (option_map (λ v. v.items) y) ≡ option_map (λ v. v.items) (cond b (Some x) y)
  mapped_cond true x y = refl
  mapped_cond false x y = refl

  find-bytes_at : (files : List (String Z × Vec ℕ Z)) (name : List ℕ) → find (slice_cmp nat_cmp) name (map (λ file. (string_bytes file.0, file.1.items)) files) ≡ bytes_at files name
  find-bytes_at [] name = refl
  find-bytes_at (file ∷ files) name =
      ap (cond (is_eq (slice_cmp nat_cmp name (string_bytes file.0))) (Some file.1.items)) (find-bytes_at files name)
      ∙ mapped_cond (is_eq (slice_cmp nat_cmp name (string_bytes file.0))) file.1 _

  -- the files have what the pairs have
  pub get-files_of : (files : List (String Z × Vec ℕ Z)) (name : List ℕ) → get (files_of files) name ≡ bytes_at files name
  unfolding files_of
  get-files_of files name = get-from_entries nat_list_cmp_total _ name ∙ find-bytes_at files name

  -- a map whose value at one name is set has the files with those bytes inserted
  pub insert-files_of : (old new : BTreeMap (String Z) (Vec ℕ Z)) (name : List ℕ) (bytes : Vec ℕ Z) → UpdatesBy string_cmp (λ key. slice_cmp nat_cmp name (string_bytes key)) old new (Some bytes) → files_of new.entries ≡ insert (files_of old.entries) name bytes.items
  insert-files_of old new name bytes updates = same_map nat_list_cmp_total (slice_cmp-IsAntisymmetric nat_cmp-IsAntisymmetric) _ _ (λ other.
      get-files_of new.entries other
      ∙ ap (option_map (λ v. v.items)) (btree_map_updates_text name old new (Some bytes) updates other)
      ∙ sym (mapped_cond (bytes_eq name other) bytes (get_by_text old other))
      ∙ ap (λ found. cond (bytes_eq name other) (Some bytes.items) found) (sym (get-files_of old.entries other))
      ∙ ap (λ same. cond same (Some bytes.items) (get (files_of old.entries) other)) (nat_list_eq_equiv.symm name other ∙ sym (is_eq-slice_cmp other name))
      ∙ sym (get-insert nat_list_cmp_total (files_of old.entries) name bytes.items other))

-- no pairs, no files
pub no_files : (Z : Type 0) → files_of {Z = Z} [] ≡ empty
unfolding files_of
no_files Z = refl
