-- Each next field of a class is counted, and listed with its place.
use Rattle.std.proofs.Common.{◌≡◌, ℕ, ◌+◌, ◌<◌, ◌≤◌, Bool, true, false, not, ◌||◌, nat_eq, cond, List, [], ◌∷◌, ◌++◌, length, take, drop, get_or, map, Some, None, refl, sym, ap, subst, ◌∙◌, arith}
use Rattle.std.specs.List.{IsDistinct, flat_map}
use Rattle.std.proofs.lemmas.List.{append-nil, append_assoc, map_push, take-append-drop, take_all}
use Rattle.std.proofs.lemmas.Grind.{flat_map-append}
use Rattle.class_file.specs.declared.record.ClassFile.{ClassFile}
use Rattle.class_file.specs.declared.record.Member.{Member}
use Rattle.class_tree.specs.Members.{member_at}
use Rattle.class_tree.specs.Set.{file_of}
use Rattle.class_tree.specs.Tree.{Gathers}
use Rattle.class_tree.proofs.ancestors.Superclasses.{ranked}
use Rattle.class_tree.proofs.lookups.Climbing.{all_append}
use Rattle.jvm_model.specs.declared.numbers.FieldPlace.{FieldPlace}
use Rattle.jvm_model.specs.declared.numbers.Layout.{Layout}
use Rattle.jvm_model.specs.Initialisers.{is_whole_kind, is_reference_kind}
use Rattle.jvm_model.specs.ImageNumbering.{Field, is_member, all_fields, class_fields, fields_from, class_order, fields_of_object, static_fields, place_in, place_of}
use Rattle.infuse_ids.specs.declared.places.Counts.{Counts}
use Rattle.infuse_ids.specs.Places.{layout_in, statics_among, of_objects, with_kind, place_behind, counts_for, count_field, field_at, placed, AddsField, fields_above, StandsAmong, ArePlaced}
use Rattle.infuse_ids.proofs.ClassFields.{fields_in, as_many, split_at, take_next, earlier_positions, others_absent, flat_others, distinct_before, others_above}
use Rattle.infuse_ids.proofs.LastWrites.{at_hand}
use Rattle.infuse_ids.proofs.ObjectFields.{fields_by_superclass}
use Rattle.infuse_ids.proofs.PlacesAmong.{IsAbsent, kept_all, kept_here, left_here, placed_behind, counted_too}

abbrev is_static_field : Field → Bool
is_static_field field = field.static

abbrev is_object_field : Field → Bool
is_object_field field = not field.static

-- what is known of the field at hand, behind those of its class so far
pub record IsNext (files : List ClassFile) (before after own rest : List Field) (field : Field) : Type 0 where
  pub among : StandsAmong files field.member.class before after
  pub split : class_fields files field.member.class ≡ own ++ field ∷ rest
  pub absent : IsAbsent field.member own

module _ (files : List ClassFile) (before after own rest : List Field) (field : Field) (next : IsNext files before after own rest field) where
  abbrev above : List Field
  above = fields_above files field.member.class

  absent_before : IsAbsent field.member (before ++ own)
  absent_before = all_append (λ (other : Field). is_member field.member other.member ≡ false) before own (others_absent field.member before next.among.earlier) next.absent

  absent_above : IsAbsent field.member (above ++ of_objects own)
  absent_above =
      all_append (λ (other : Field). is_member field.member other.member ≡ false) above (of_objects own)
      (others_absent field.member above next.among.upper) (kept_all (λ (other : Field). is_member field.member other.member ≡ false) is_object_field own next.absent)

  all_split : all_fields files ≡ (before ++ own) ++ field ∷ (rest ++ after)
  all_split =
      next.among.all ∙ ap (λ (fields : List Field). before ++ (fields ++ after)) next.split
      ∙ ap (λ (fields : List Field). before ++ fields) (append_assoc own (field ∷ rest) after)
      ∙ sym (append_assoc before own (field ∷ (rest ++ after)))

  module _ (adds_known : (is_reference_kind field.kind || is_whole_kind field.kind) ≡ true) where
    place_static : field.static ≡ true → place_of files field ≡ place_behind field.kind (layout_in (statics_among (before ++ own)))
    place_static is =
        ap (λ (b : Bool). place_in (cond b (static_fields files) (fields_of_object files field.member.class)) field) is
        ∙ ap (λ (fields : List Field). place_in fields field) (ap statics_among all_split ∙ kept_here is_static_field field is (before ++ own) (rest ++ after))
        ∙ placed_behind field adds_known (statics_among (before ++ own)) (statics_among (rest ++ after)) (kept_all (λ (other : Field). is_member field.member other.member ≡ false) is_static_field (before ++ own) absent_before)

    place_object : field.static ≡ false → place_of files field ≡ place_behind field.kind (layout_in (above ++ of_objects own))
    place_object is =
        ap (λ (b : Bool). place_in (cond b (static_fields files) (fields_of_object files field.member.class)) field) is
        ∙ ap (λ (fields : List Field). place_in fields field) (
        next.among.object
        ∙ ap (λ (fields : List Field). above ++ fields) (ap of_objects next.split ∙ kept_here is_object_field field (ap not is) own rest)
        ∙ sym (append_assoc above (of_objects own) (field ∷ of_objects rest))
        )
        ∙ placed_behind field adds_known (above ++ of_objects own) (of_objects rest) absent_above

  module _ (old new : Counts) (old_places new_places : List FieldPlace) (adds : AddsField field old new old_places new_places) (are : ArePlaced files (before ++ own) old.statics old_places) (object : old.object ≡ layout_in (above ++ of_objects own)) where
    statics_now : (is : Bool) → field.static ≡ is → (count_field field.kind is old).statics ≡ layout_in (statics_among ((before ++ own) ++ field ∷ []))
    statics_now true e =
        ap (with_kind field.kind) are.counted ∙ sym (counted_too field adds.known (statics_among (before ++ own)))
        ∙ ap layout_in (sym (kept_here is_static_field field e (before ++ own) []))
    statics_now false e = are.counted ∙ ap layout_in (sym (left_here is_static_field field e (before ++ own) [] ∙ append-nil (statics_among (before ++ own))))

    object_now : (is : Bool) → field.static ≡ is → (count_field field.kind is old).object ≡ layout_in (above ++ of_objects (own ++ field ∷ []))
    object_now true e = object ∙ ap (λ (fields : List Field). layout_in (above ++ fields)) (sym (left_here is_object_field field (ap not e) own [] ∙ append-nil (of_objects own)))
    object_now false e =
        ap (with_kind field.kind) object ∙ sym (counted_too field adds.known (above ++ of_objects own))
        ∙ ap layout_in (append_assoc above (of_objects own) (field ∷ []))
        ∙ ap (λ (fields : List Field). layout_in (above ++ fields)) (sym (kept_here is_object_field field (ap not e) own []))

    place_now : (is : Bool) → field.static ≡ is → place_behind field.kind (counts_for is old) ≡ place_of files field
    place_now true e = ap (place_behind field.kind) are.counted ∙ sym (place_static adds.known e)
    place_now false e = ap (place_behind field.kind) object ∙ sym (place_object adds.known e)

    whole : (before ++ own) ++ field ∷ [] ≡ before ++ (own ++ field ∷ [])
    whole = append_assoc before own (field ∷ [])

    -- the fields with the next one have their places
    pub placed_next : ArePlaced files (before ++ (own ++ field ∷ [])) new.statics new_places
    placed_next = record {
      counted = ap (λ (counts : Counts). counts.statics) adds.counted ∙ statics_now field.static refl ∙ ap (λ (fields : List Field). layout_in (statics_among fields)) whole;
      listed =
          adds.listed
          ∙ ap (λ (n : ℕ). old_places ++ record { member = field.member; place = n } ∷ []) (place_now field.static refl)
          ∙ ap (λ (places : List FieldPlace). places ++ placed files field ∷ []) are.listed
          ∙ sym (map_push (placed files) (before ++ own) field)
          ∙ ap (map (placed files)) whole;
    }

    pub object_next : new.object ≡ layout_in (above ++ of_objects (own ++ field ∷ []))
    object_next = ap (λ (counts : Counts). counts.object) adds.counted ∙ object_now field.static refl

-- ---- the fields of a class

-- places of the same fields
pub placed_same : (files : List ClassFile) (fields others : List Field) (statics : Layout) (places : List FieldPlace) → fields ≡ others → ArePlaced files fields statics places → ArePlaced files others statics places
placed_same files fields others statics places same are = record {
  counted = are.counted ∙ ap (λ (xs : List Field). layout_in (statics_among xs)) same;
  listed = are.listed ∙ ap (map (placed files)) same;
}

module _ (files : List ClassFile) (class : ℕ) (file : ClassFile) (before after : List Field) (is : file_of files class ≡ Some file) (among : StandsAmong files class before after) where
  -- the fields up to a position have their places, and those of objects are counted
  abbrev pub PlacedTo : ℕ → Counts → List FieldPlace → Type 0
  PlacedTo position counts places =
      ArePlaced files (before ++ take position (class_fields files class)) counts.statics places
      × (counts.object ≡ layout_in (fields_above files class ++ of_objects (take position (class_fields files class))))

  pub placed_begin : (counts : Counts) (places : List FieldPlace) → counts.object ≡ layout_in (fields_above files class) → ArePlaced files before counts.statics places → PlacedTo 0 counts places
  placed_begin counts places object are = (
    placed_same files before (before ++ []) counts.statics places (sym (append-nil before)) are,
    object ∙ ap layout_in (sym (append-nil (fields_above files class))),
  )

  pub placed_more : (position : ℕ) (member : Member) (old new : Counts) (old_places new_places : List FieldPlace) → position < length file.fields → member ≡ get_or file.fields position member
      → AddsField (field_at (member_at class position) file.pool member) old new old_places new_places → PlacedTo position old old_places → PlacedTo (position + 1) new new_places
  placed_more position member old new old_places new_places lt here adds placed_so =
      let field = field_at (member_at class position) file.pool member in
      let fields = class_fields files class in
      let from = fields_from class file 0 file.fields in
      let same : fields ≡ from = fields_in files class file is in
      let own = take position fields in
      let rest = drop (position + 1) fields in
      let start : 0 + position ≤ position = omega arith in
      let next : IsNext files before after own rest field = record {
        among = among;
        split =
            same ∙ split_at class file file.fields position member lt here
            ∙ ap (λ (xs : List Field). take position xs ++ field ∷ drop (position + 1) xs) (sym same);
        absent = subst (λ (xs : List Field). IsAbsent (member_at class position) (take position xs)) (sym same) (earlier_positions class file 0 position position file.fields start);
      } in
      let taken : own ++ field ∷ [] ≡ take (position + 1) fields =
      ap (λ (xs : List Field). take position xs ++ field ∷ []) same ∙ sym (take_next class file file.fields position member lt here) ∙ ap (take (position + 1)) (sym same)
      in (
        placed_same files (before ++ (own ++ field ∷ [])) (before ++ take (position + 1) fields) new.statics new_places (ap (λ (xs : List Field). before ++ xs) taken)
            (placed_next files before after own rest field next old new old_places new_places adds placed_so.0 placed_so.1),
        object_next files before after own rest field next old new old_places new_places adds placed_so.0 placed_so.1
            ∙ ap (λ (xs : List Field). layout_in (fields_above files class ++ of_objects xs)) taken,
      )

  pub placed_end : (position : ℕ) (statics : Layout) (places : List FieldPlace) → length file.fields ≤ position → ArePlaced files (before ++ take position (class_fields files class)) statics places
      → ArePlaced files (before ++ class_fields files class) statics places
  placed_end position statics places le are =
      let many = ap (λ (xs : List Field). length xs) (fields_in files class file is) ∙ as_many class file 0 file.fields in
      let past : length (class_fields files class) ≤ position = omega (arith, many, le) in
      placed_same files (before ++ take position (class_fields files class)) (before ++ class_fields files class) statics places
      (ap (λ (xs : List Field). before ++ xs) (take_all position (class_fields files class) past)) are

-- ---- classes

-- where the fields of the class at a position of the order stand
pub stands : (files : List ClassFile) (order : List ℕ) (position class : ℕ) → Gathers files None → order ≡ class_order files → IsDistinct nat_eq order → position < length order → class ≡ get_or order position class
    → StandsAmong files class (flat_map (class_fields files) (take position order)) (flat_map (class_fields files) (drop (position + 1) order))
stands files order position class gathers is distinct lt here =
    let found = ranked files gathers in record {
      all =
          ap (flat_map (class_fields files)) (sym is ∙ sym (take-append-drop position order))
          ∙ flat_map-append (class_fields files) (take position order) (drop position order)
          ∙ ap (λ (classes : List ℕ). flat_map (class_fields files) (take position order) ++ flat_map (class_fields files) classes) (at_hand order position class lt here);
      object = fields_by_superclass files gathers class;
      earlier = flat_others files class (take position order) (distinct_before order position class distinct lt here);
      upper = others_above files found.0 found.1 class;
    }
