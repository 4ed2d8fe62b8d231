-- The entry of an own class stands in the image at the place of the class in the order of classes.
use Rattle.std.proofs.Common.{◌≡◌, ℕ, suc, ◌+◌, ◌-◌, ◌≤◌, Bool, true, false, cond, nat_eq, List, [], ◌∷◌, ◌++◌, map, length, Option, Some, None, is_some, slice_get, refl, ap, ◌∙◌, arith, append_assoc}
use Rattle.std.specs.List.{flat_map}
use Rattle.std.specs.Option.{option_map_or}
use Rattle.std.proofs.lemmas.Bool.{le-ltb}
use Rattle.std.proofs.lemmas.List.{map-append}
use Rattle.library.specs.Classes.{first_own}
use Rattle.class_pool.specs.declared.types.TypeRef.{TypeRef}
use Rattle.class_file.specs.declared.record.ClassFile.{ClassFile}
use Rattle.class_tree.specs.Set.{IsClass, file_of}
use Rattle.class_tree.specs.Subtypes.{class_type}
use Rattle.class_tree.specs.Tree.{Gathers}
use Rattle.class_tree.proofs.ancestors.Leading.{or_right}
use Rattle.image_form.specs.declared.record.Image.{Image}
use Rattle.image_form.specs.declared.record.TypeEntry.{TypeEntry}
use Rattle.image_form.specs.declared.record.TypeEntry.TheVariants as entry
use Rattle.jvm_model.specs.ImageNumbering.{Numbering, class_order, is_among, type_id}
use Rattle.jvm_model.specs.ImageTables.{class_entry_of, entry_of}
use Rattle.class_order.proofs.AmongNumbers.{among_here, among_left}
use Rattle.class_order.proofs.ClassOrders.{right_order}
use Rattle.class_order.proofs.SetClasses.{is_own, has_file}
use Rattle.mote_model.specs.SplitTypes.{entry_at}
use Rattle.match_states.specs.Setting.{Setting, IsCompiled}
use Rattle.follow_numbers.proofs.CaughtClasses.{class_id}
use Rattle.follow_numbers.proofs.ClassPlaces.{first_place, id_is}
use Rattle.follow_numbers.proofs.TypesBegin.{types_begin}

module _ (files : List ClassFile) (numbering : Numbering) where
  -- an own class has one entry
  one_entry : (class : ℕ) (file : ClassFile) → file_of files class ≡ Some file → entry_of files numbering (class_type class) ≡ entry.Class (class_entry_of files numbering class file) ∷ []
  one_entry class file is = ap (λ (found : Option ClassFile). option_map_or (λ (file : ClassFile). entry.Class (class_entry_of files numbering class file) ∷ []) found []) is

  some_file : (class : ℕ) → is_own files class ≡ true → (file : ClassFile) × (file_of files class ≡ Some file)
  some_file class own = by (file_of files class) refl own
    where
      by : (found : Option ClassFile) → file_of files class ≡ found → is_some found ≡ true → (file : ClassFile) × (file_of files class ≡ Some file)
      by None is some = cc
      by (Some file) is some = (file, is)

  -- the entries of own classes stand at the places of the classes
  entry_here : (before : List ℕ) (class : ℕ) (file : ClassFile) (rest : List TypeRef) → ((first : ℕ) → is_among first before ≡ true → is_own files first ≡ true) → file_of files class ≡ Some file
      → slice_get (flat_map (entry_of files numbering) (map class_type before ++ class_type class ∷ rest)) (length before) ≡ Some (entry.Class (class_entry_of files numbering class file))
  entry_here [] class file rest own is = ap (λ (entries : List TypeEntry). slice_get (entries ++ flat_map (entry_of files numbering) rest) 0) (one_entry class file is)
  entry_here (first ∷ before) class file rest own is =
      let there = some_file first (own first (among_here first before)) in
      ap (λ (entries : List TypeEntry). slice_get (entries ++ flat_map (entry_of files numbering) (map class_type before ++ class_type class ∷ rest)) (suc (length before))) (one_entry first there.0 there.1)
      ∙ entry_here before class file rest (λ other among. own other (or_right (nat_eq other first) (is_among other before) among)) is

-- An own class stands in the order of classes, behind these.
pub record IsPlaced (setting : Setting) (class : ℕ) : Type 0 where
  pub before : List ℕ
  pub after : List ℕ
  pub first : is_among class before ≡ false
  pub order_is : class_order setting.world.files ≡ before ++ class ∷ after
  pub file : ClassFile
  pub file_is : file_of setting.world.files class ≡ Some file
  pub id : class_id setting class ≡ 32 + length before
  pub entry_is : entry_at setting.image (class_id setting class) ≡ Some (entry.Class (class_entry_of setting.world.files setting.numbering class file))

module _ (setting : Setting) (compiled : IsCompiled setting) (closed : Gathers setting.world.files None) where
  split_types : (before after : List ℕ) (class : ℕ) (more : List TypeRef) → map class_type (before ++ class ∷ after) ++ more ≡ map class_type before ++ class_type class ∷ (map class_type after ++ more)
  split_types before after class more =
      ap (λ (types : List TypeRef). types ++ more) (map-append class_type before (class ∷ after)) ∙ append_assoc (map class_type before) (class_type class ∷ map class_type after) more

  entry_by_id : (id place : ℕ) → id ≡ 32 + place → entry_at setting.image id ≡ slice_get setting.image.types place
  entry_by_id id place is =
      let own : first_own ≤ id = omega (arith, is) in
      let back : id - first_own ≡ place = omega (arith, is) in
      ap (λ (library : Bool). cond library None (slice_get setting.image.types (id - first_own))) (le-ltb id first_own own) ∙ ap (slice_get setting.image.types) back

  -- the id of an own class, by its first place
  pub id_at : (class : ℕ) → first_own ≤ class → (before after : List ℕ) → class_order setting.world.files ≡ before ++ class ∷ after → is_among class before ≡ false → class_id setting class ≡ 32 + length before
  id_at class own before after is first =
      let begins = types_begin setting.world.files setting.world.bodies in
      ap (λ (types : List TypeRef). type_id types (class_type class)) (
      ap (λ (n : Numbering). n.types) compiled.numbering ∙ begins.1 ∙ ap (λ (order : List ℕ). map class_type order ++ begins.0) is
      )
      ∙ id_is class before after begins.0 (le-ltb class first_own own) first

  pub placed : (class : ℕ) → IsClass setting.world.files class → first_own ≤ class → IsPlaced setting class
  placed class is own =
      let files = setting.world.files in
      let right = right_order files closed in
      let here = has_file files class is own in
      let place = first_place class (class_order files) (right.each class here) in
      let begins = types_begin files setting.world.bodies in
      let file = some_file files setting.numbering class here in
      let types : setting.numbering.types ≡ map class_type (place.before ++ class ∷ place.after) ++ begins.0 =
      ap (λ (n : Numbering). n.types) compiled.numbering ∙ begins.1 ∙ ap (λ (order : List ℕ). map class_type order ++ begins.0) place.is in
      let id = id_at class own place.before place.after place.is place.first in
      record {
        before = place.before;
        after = place.after;
        first = place.first;
        order_is = place.is;
        file = file.0;
        file_is = file.1;
        id = id;
        entry_is =
            entry_by_id (class_id setting class) (length place.before) id
            ∙ ap (λ (image : Image). slice_get image.types (length place.before)) compiled.image
            ∙ ap (λ (types : List TypeRef). slice_get (flat_map (entry_of files setting.numbering) types) (length place.before)) (types ∙ split_types place.before place.after class begins.0)
            ∙ entry_here files setting.numbering place.before class file.0 (map class_type place.after ++ begins.0)
            (λ first among. right.only first (ap (is_among first) place.is ∙ among_left first place.before (class ∷ place.after) among)) file.1;
      }
