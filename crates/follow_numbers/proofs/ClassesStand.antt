-- The classes of a closed set stand in its image: the image says of two of them which is below which as the set does.
use Rattle.std.proofs.Common.{◌≡◌, ℕ, zero, suc, ◌+◌, ◌-◌, ◌<◌, ◌≤◌, Bool, true, ◌&&◌, cond, nat_lt, inl, inr, List, [], ◌∷◌, ◌++◌, map, length, Option, Some, None, slice_get, unwrap_or, option_and_then, refl, sym, ap, ◌∙◌, arith}
use Rattle.std.specs.Prelude.{position}
use Rattle.std.specs.Option.{option_map_or, option_to_list}
use Rattle.std.proofs.lemmas.Bool.{lt-ltb, le-ltb, ltb-true, and_parts}
use Rattle.std.proofs.lemmas.Option.{same_Some, slice_get_within}
use Rattle.std.proofs.lemmas.List.{length-append, append-nil, append_assoc}
use Rattle.std.specs.List.{filter_map}
use Rattle.library.specs.Classes.{first_own, superclasses}
use Rattle.class_file.specs.declared.record.ClassFile.{ClassFile}
use Rattle.class_tree.specs.DirectSupers.{superclass_of, superinterfaces_of}
use Rattle.class_tree.specs.Set.{IsClass, own_name, named_among, library_superclass}
use Rattle.class_tree.specs.Subtypes.{class_type}
use Rattle.class_tree.specs.Tree.{Gathers}
use Rattle.class_tree.proofs.ancestors.Superclasses.{next_class, super_by_library}
use Rattle.image_form.specs.declared.record.TypeEntry.{TypeEntry}
use Rattle.image_form.specs.declared.record.TypeEntry.TheVariants as entry
use Rattle.jvm_model.specs.ImageLimits.{first_excess}
use Rattle.jvm_model.specs.ImageNumbering.{class_order, is_among, is_type}
use Rattle.jvm_model.specs.ImageTables.{class_entry_of}
use Rattle.class_order.proofs.ClassOrders.{right_order}
use Rattle.class_order.proofs.SetClasses.{has_file}
use Rattle.mote_model.specs.SplitTypes.{entry_at, above, above_entry, elements_of}
use Rattle.match_states.specs.Setting.{Setting, IsCompiled}
use Rattle.follow_numbers.proofs.CaughtClasses.{class_id, ClassesAgree, all_catch_alike}
use Rattle.follow_numbers.proofs.CaughtFrames.{AllCatchAlike}
use Rattle.follow_numbers.proofs.ClassEntries.{placed, id_at}
use Rattle.follow_numbers.proofs.ClassPlaces.{first_place}
use Rattle.follow_numbers.proofs.ClassesUp.{supers_of}
use Rattle.follow_numbers.proofs.ImageClasses.{HasClasses, classes_agree}
use Rattle.follow_numbers.proofs.SupersInside.{among_either, super_inside}

-- ---- classes of the library

-- a superclass has a lower number than the class at this place
abbrev is_low : ℕ → Option ℕ → Bool
is_low class None = true
is_low class (Some super) = nat_lt super class

unfoldable are_low : ℕ → List (Option ℕ) → Bool
are_low class [] = true
are_low class (super ∷ supers) = is_low class super && are_low (suc class) supers

low_at : (first : ℕ) (supers : List (Option ℕ)) → are_low first supers ≡ true → (place super : ℕ) → option_and_then (λ (above : Option ℕ). above) (slice_get supers place) ≡ Some super → super < first + place
unfolding are_low
low_at first [] low place super is = cc
low_at first (found ∷ supers) low zero super is =
    let less : super < first = ltb-true super first (ap (is_low first) (sym is) ∙ (and_parts (is_low first found) (are_low (suc first) supers) low).0) in
    omega (arith, less)
low_at first (found ∷ supers) low (suc place) super is =
    let less = low_at (suc first) supers (and_parts (is_low first found) (are_low (suc first) supers) low).1 place super is in
    omega (arith, less)

library_low : (class super : ℕ) → library_superclass class ≡ Some super → super < class
unfolding are_low
library_low class super is = let less = low_at 0 superclasses refl class super is in omega (arith, less)

found_above : (found : Option (Option ℕ)) → option_map_or (λ (super : Option ℕ). super) found None ≡ option_and_then (λ (super : Option ℕ). super) found
found_above None = refl
found_above (Some super) = refl

module _ (files : List ClassFile) (class : ℕ) (less : class < first_own) where
  no_interfaces : superinterfaces_of files class ≡ []
  no_interfaces =
      ap (λ (library : Bool). option_map_or (λ (file : ClassFile). filter_map (named_among (map own_name files) file) file.interfaces) (cond library None (slice_get files (class - first_own))) [])
      (lt-ltb class first_own less)

  library_supers : supers_of files class ≡ option_to_list (library_superclass class)
  library_supers =
      ap (λ (found : Option ℕ). option_to_list found ++ superinterfaces_of files class) (super_by_library files class less)
      ∙ ap (λ (interfaces : List ℕ). option_to_list (library_superclass class) ++ interfaces) no_interfaces ∙ append-nil (option_to_list (library_superclass class))

-- ---- lists with a number at a place

here : (before after : List ℕ) (class : ℕ) → slice_get (before ++ class ∷ after) (length before) ≡ Some class
here [] after class = refl
here (first ∷ before) after class = here before after class

same_place : (order before after : List ℕ) (class : ℕ) (other_before other_after : List ℕ) (other : ℕ) → order ≡ before ++ class ∷ after → order ≡ other_before ++ other ∷ other_after → length before ≡ length other_before → class ≡ other
same_place order before after class other_before other_after other is other_is same =
    same_Some class other (
    sym (ap (λ (list : List ℕ). slice_get list (length before)) is ∙ here before after class) ∙ ap (slice_get order) same
    ∙ ap (λ (list : List ℕ). slice_get list (length other_before)) other_is ∙ here other_before other_after other
    )

with_super : (f : ℕ → ℕ) (found : Option ℕ) (super : ℕ) (rest : List ℕ) → found ≡ Some super → option_map_or f found 0 ∷ map f rest ≡ map f (option_to_list found ++ rest)
with_super f None super rest is = cc
with_super f (Some other) super rest is = refl

module _ (setting : Setting) (compiled : IsCompiled setting) (closed : Gathers setting.world.files None) where
  library_id : (class : ℕ) → class < first_own → class_id setting class ≡ class
  library_id class less = ap (λ (library : Bool). unwrap_or (cond library (Some class) None) (32 + unwrap_or (position (is_type (class_type class)) setting.numbering.types) 0)) (lt-ltb class first_own less)

  -- ---- lower ids

  lower_own : (class : ℕ) (is : IsClass setting.world.files class) → first_own ≤ class → (by : ℕ) → is_among by (supers_of setting.world.files class) ≡ true → IsClass setting.world.files by → class_id setting by < class_id setting class
  lower_own class is own by among (inl library) =
      let id = (placed setting compiled closed class is own).id in
      let by_id = library_id by (omega (arith, library)) in
      omega (arith, id, by_id, library)
  lower_own class is own by among (inr by_own) =
      let place = placed setting compiled closed class is own in
      let right = right_order setting.world.files closed in
      let before = right.above place.before place.after class place.order_is by among (has_file setting.world.files by (inr by_own) by_own.0) in
      let first = first_place by place.before before in
      let order : class_order setting.world.files ≡ first.before ++ by ∷ (first.after ++ class ∷ place.after) =
      place.order_is ∙ ap (λ (list : List ℕ). list ++ class ∷ place.after) first.is ∙ append_assoc first.before (by ∷ first.after) (class ∷ place.after) in
      let by_id = id_at setting compiled closed by by_own.0 first.before (first.after ++ class ∷ place.after) order first.first in
      let longer : length place.before ≡ length first.before + suc (length first.after) = ap length first.is ∙ length-append first.before (by ∷ first.after) in
      let id = place.id in
      omega (arith, id, by_id, longer)

  lower : (class by : ℕ) → IsClass setting.world.files class → is_among by (supers_of setting.world.files class) ≡ true → class_id setting by < class_id setting class
  lower class by (inl library) among =
      let less : class < first_own = omega (arith, library) in
      let super : library_superclass class ≡ Some by =
      elim (among_either by (library_superclass class) [] (ap (is_among by) (append-nil (option_to_list (library_superclass class)) ∙ sym (library_supers setting.world.files class less)) ∙ among)) [
        | inl found ↦ found
        | inr none ↦ cc
      ] in
      let low = library_low class by super in
      let id = library_id class less in
      let by_id = library_id by (omega (arith, low, less)) in
      omega (arith, id, by_id, low)
  lower class by (inr own) among = lower_own class (inr own) own.0 by among (super_inside setting.world.files closed by class (inr own) among)

  -- ---- what stands above

  same_ids : (found : Option ℕ) → ((super : ℕ) → found ≡ Some super → super < first_own) → option_to_list found ≡ map (class_id setting) (option_to_list found)
  same_ids None low = refl
  same_ids (Some super) low = ap (λ (id : ℕ). id ∷ []) (sym (library_id super (low super refl)))

  above_is : (class : ℕ) → IsClass setting.world.files class → above setting.image (class_id setting class) ≡ map (class_id setting) (supers_of setting.world.files class)
  above_is class (inl library) =
      let less : class < first_own = omega (arith, library) in
      ap (above setting.image) (library_id class less)
      ∙ ap (λ (is : Bool). cond is (option_to_list (option_map_or (λ (super : Option ℕ). super) (slice_get superclasses class) None)) (above_entry (entry_at setting.image class))) (lt-ltb class first_own less)
      ∙ ap (λ (found : Option ℕ). option_to_list found) (found_above (slice_get superclasses class))
      ∙ same_ids (library_superclass class) (λ super found. let low = library_low class super found in omega (arith, low, less))
      ∙ ap (map (class_id setting)) (sym (library_supers setting.world.files class less))
  above_is class (inr own) =
      let files = setting.world.files in
      let id = class_id setting class in
      let place = placed setting compiled closed class (inr own) own.0 in
      let there = place.id in
      let high : first_own ≤ id = omega (arith, there) in
      elim (next_class files closed class (inr own)) [
        | inl object ↦ absurd (let le = own.0 in omega (arith, le, object))
        | inr next ↦
            ap (λ (is : Bool). cond is (option_to_list (option_map_or (λ (super : Option ℕ). super) (slice_get superclasses id) None)) (above_entry (entry_at setting.image id))) (le-ltb id first_own high)
            ∙ ap above_entry place.entry_is ∙ with_super (class_id setting) (superclass_of files class) next.0 (superinterfaces_of files class) next.1
      ]

  -- ---- entries

  library_entry : (class : ℕ) → class < first_own → entry_at setting.image (class_id setting class) ≡ None
  library_entry class less =
      ap (entry_at setting.image) (library_id class less) ∙ ap (λ (is : Bool). cond is None (slice_get setting.image.types (class - first_own))) (lt-ltb class first_own less)

  no_array : (class : ℕ) → IsClass setting.world.files class → (other : Option TypeEntry) → elements_of (entry_at setting.image (class_id setting class)) other ≡ None
  no_array class (inl library) other = ap (λ (found : Option TypeEntry). elements_of found other) (library_entry class (omega (arith, library)))
  no_array class (inr own) other = ap (λ (found : Option TypeEntry). elements_of found other) (placed setting compiled closed class (inr own) own.0).entry_is

  counted : (class : ℕ) → IsClass setting.world.files class → class_id setting class < first_own + length setting.image.types
  counted class (inl library) = let id = library_id class (omega (arith, library)) in omega (arith, id, library)
  counted class (inr own) =
      let id = class_id setting class in
      let place = placed setting compiled closed class (inr own) own.0 in
      let there = place.id in
      let high : first_own ≤ id = omega (arith, there) in
      let found : slice_get setting.image.types (id - first_own) ≡ Some (entry.Class (class_entry_of setting.world.files setting.numbering class place.file)) =
      sym (ap (λ (is : Bool). cond is None (slice_get setting.image.types (id - first_own))) (le-ltb id first_own high)) ∙ place.entry_is in
      let within = slice_get_within setting.image.types (id - first_own) (entry.Class (class_entry_of setting.world.files setting.numbering class place.file)) found in
      omega (arith, within, high)

  -- ---- ids apart

  apart : (a b : ℕ) → IsClass setting.world.files a → IsClass setting.world.files b → class_id setting a ≡ class_id setting b → a ≡ b
  apart a b (inl library) (inl other) same = sym (library_id a (omega (arith, library))) ∙ same ∙ library_id b (omega (arith, other))
  apart a b (inl library) (inr own) same =
      let first = library_id a (omega (arith, library)) in
      let second = (placed setting compiled closed b (inr own) own.0).id in
      absurd (omega (arith, library, first, second, same))
  apart a b (inr own) (inl library) same =
      let first = (placed setting compiled closed a (inr own) own.0).id in
      let second = library_id b (omega (arith, library)) in
      absurd (omega (arith, library, first, second, same))
  apart a b (inr own) (inr other) same =
      let first = placed setting compiled closed a (inr own) own.0 in
      let second = placed setting compiled closed b (inr other) other.0 in
      let first_id = first.id in
      let second_id = second.id in
      same_place (class_order setting.world.files) first.before first.after a second.before second.after b first.order_is second.order_is (omega (arith, first_id, second_id, same))

  pub has_classes : HasClasses setting
  has_classes = record { lower = lower; above_is = above_is; no_array = no_array; apart = apart; counted = counted }

  pub agree : (class : ℕ) → IsClass setting.world.files class → ClassesAgree setting class
  agree = classes_agree setting closed has_classes

  -- the rows of all bodies catch alike what is of a class of the set
  pub catch_alike : first_excess setting.world.files setting.numbering ≡ None → (class : ℕ) → IsClass setting.world.files class → AllCatchAlike setting (class_id setting class) class
  catch_alike within class is = all_catch_alike setting compiled within class (agree class is)
