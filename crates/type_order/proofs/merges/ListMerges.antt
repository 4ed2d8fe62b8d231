-- The merge of two lists of types is their join, where one list is above another when each type is above the one at
-- its position and may stand there.
use Rattle.std.proofs.Common.{◌≡◌, Bool, true, false, List, [], ◌∷◌, Option, Some, None, option_map, if◌then◌else◌, refl, sym, ap, ap₂, subst, ◌∙◌}
use Rattle.std.specs.List.{AllByRecursion, AllZip}
use Rattle.class_file.specs.declared.record.ClassFile.{ClassFile}
use Rattle.body_form.specs.declared.types.VType.{VType}
use Rattle.body_form.specs.declared.types.VType.TheVariants.{Top}
use Rattle.class_tree.specs.Tree.{Gathers}
use Rattle.class_tree.specs.Merge.{merge}
use Rattle.class_tree.specs.MergeLaws.{IsKnown}
use Rattle.class_tree.proofs.merging.MergeLaws.{stays}
use Rattle.jvm_model.specs.TypesFrames.{may_be_local, may_be_operand, merge_lists}
use Rattle.type_order.proofs.merges.TypeMerges.{merge_known, above_first, above_second, above_merge, goes_on, one_way, with_top}

-- ---- lists by their positions

-- one type is above another, and may stand there
pub record IsOver (files : List ClassFile) (allowed : VType → Bool) (upper lower : VType) : Type 0 where
  pub above : merge files upper lower ≡ upper
  pub allows : allowed upper ≡ true

abbrev pub AreOver : List ClassFile → (VType → Bool) → List VType → List VType → Type 0
AreOver files allowed uppers lowers = AllZip (IsOver files allowed) uppers lowers

-- ---- a merge and its parts

record HasParts (passes : Bool) (type : VType) (rest : Option (List VType)) (first : VType) (others : List VType) : Type 0 where
  allows : passes ≡ true
  head : type ≡ first
  tail : rest ≡ Some others

parts : (passes : Bool) (type : VType) (rest : Option (List VType)) (first : VType) (others : List VType)
    → (if passes then option_map (λ types. type ∷ types) rest else None) ≡ Some (first ∷ others) → HasParts passes type rest first others
parts true type (Some types) first others e = record { allows = refl; head = cc; tail = cc }
parts true type None first others e = cc
parts false type rest first others e = cc

no_parts : (passes : Bool) (type : VType) (rest : Option (List VType)) → (if passes then option_map (λ types. type ∷ types) rest else None) ≡ Some [] → ⊥
no_parts true type (Some types) e = cc
no_parts true type None e = cc
no_parts false type rest e = cc

whole : (passes : Bool) (type : VType) (rest : Option (List VType)) (others : List VType) → passes ≡ true → rest ≡ Some others
    → (if passes then option_map (λ types. type ∷ types) rest else None) ≡ Some (type ∷ others)
whole passes type rest others allows tail = ap (λ b. if b then option_map (λ types. type ∷ types) rest else None) allows ∙ ap (option_map (λ types. type ∷ types)) tail

module _ (files : List ClassFile) (allowed : VType → Bool) where
  pub over_from : (uppers lowers : List VType) → merge_lists files allowed uppers lowers ≡ Some uppers → AreOver files allowed uppers lowers
  unfolding merge_lists
  over_from [] [] e = tt
  over_from [] (l ∷ ls) e = cc
  over_from (u ∷ us) [] e = cc
  over_from (u ∷ us) (l ∷ ls) e =
      let is = parts (allowed (merge files u l)) (merge files u l) (merge_lists files allowed us ls) u us e in
      (record { above = is.head; allows = subst (λ x. allowed x ≡ true) is.head is.allows }, over_from us ls is.tail)

  pub over_to : (uppers lowers : List VType) → AreOver files allowed uppers lowers → merge_lists files allowed uppers lowers ≡ Some uppers
  unfolding merge_lists
  over_to [] [] over = refl
  over_to [] (l ∷ ls) over = absurd over
  over_to (u ∷ us) [] over = absurd over
  over_to (u ∷ us) (l ∷ ls) over =
      let merged = merge files u l in
      whole (allowed merged) merged (merge_lists files allowed us ls) us (subst (λ x. allowed x ≡ true) (sym over.0.above) over.0.allows) (over_to us ls over.1)
      ∙ ap (λ x. Some (x ∷ us)) over.0.above

  pub over_allows : (uppers lowers : List VType) → AreOver files allowed uppers lowers → AllByRecursion (λ type. allowed type ≡ true) uppers
  over_allows [] [] over = tt
  over_allows [] (l ∷ ls) over = absurd over
  over_allows (u ∷ us) [] over = absurd over
  over_allows (u ∷ us) (l ∷ ls) over = (over.0.allows, over_allows us ls over.1)

  -- ---- what holds of each type of a merge

  pub merged_keeps : (P : VType → Type 0) → ((a b : VType) → P a → P (merge files a b)) → (fs gs hs : List VType) → AllByRecursion P fs → merge_lists files allowed fs gs ≡ Some hs → AllByRecursion P hs
  unfolding merge_lists
  merged_keeps P keeps [] [] [] all e = tt
  merged_keeps P keeps [] [] (h ∷ hs) all e = cc
  merged_keeps P keeps [] (g ∷ gs) hs all e = cc
  merged_keeps P keeps (f ∷ fs) [] hs all e = cc
  merged_keeps P keeps (f ∷ fs) (g ∷ gs) [] all e = tt
  merged_keeps P keeps (f ∷ fs) (g ∷ gs) (h ∷ hs) all e =
      let is = parts (allowed (merge files f g)) (merge files f g) (merge_lists files allowed fs gs) h hs e in
      (subst P is.head (keeps f g all.0), merged_keeps P keeps fs gs hs all.1 is.tail)

  module _ (gathers : Gathers files None) where
    abbrev pub AreKnown : List VType → Type 0
    AreKnown types = AllByRecursion (IsKnown files) types

    -- ---- a merge is above both

    pub record IsAboveBoth (fs gs hs : List VType) : Type 0 where
      pub first : AreOver files allowed hs fs
      pub second : AreOver files allowed hs gs
      pub known : AreKnown hs

    pub merged_above : (fs gs hs : List VType) → AreKnown fs → AreKnown gs → merge_lists files allowed fs gs ≡ Some hs → IsAboveBoth fs gs hs
    unfolding merge_lists
    merged_above [] [] [] one two e = record { first = tt; second = tt; known = tt }
    merged_above [] [] (h ∷ hs) one two e = cc
    merged_above [] (g ∷ gs) hs one two e = cc
    merged_above (f ∷ fs) [] hs one two e = cc
    merged_above (f ∷ fs) (g ∷ gs) [] one two e = absurd (no_parts (allowed (merge files f g)) (merge files f g) (merge_lists files allowed fs gs) e)
    merged_above (f ∷ fs) (g ∷ gs) (h ∷ hs) one two e =
        let merged = merge files f g in
        let is = parts (allowed merged) merged (merge_lists files allowed fs gs) h hs e in
        let rest = merged_above fs gs hs one.1 two.1 is.tail in
        subst (λ x. IsAboveBoth (f ∷ fs) (g ∷ gs) (x ∷ hs)) is.head (record {
          first = (record { above = above_first files gathers f g one.0 two.0; allows = is.allows }, rest.first);
          second = (record { above = above_second files gathers f g one.0 two.0; allows = is.allows }, rest.second);
          known = (merge_known files gathers f g one.0 two.0, rest.known);
        })

    -- ---- what is above both is above the merge

    -- what may stand above a type, the type may
    abbrev pub IsDownward : Type 0
    IsDownward = (upper lower : VType) → IsKnown files upper → allowed (merge files upper lower) ≡ true → allowed lower ≡ true

    pub merged_least : IsDownward → (uppers fs gs : List VType) → AreKnown uppers → AreKnown fs → AreKnown gs → AreOver files allowed uppers fs → AreOver files allowed uppers gs
        → (hs : List VType) × (merge_lists files allowed fs gs ≡ Some hs) × AreOver files allowed uppers hs
    unfolding merge_lists
    merged_least downward [] [] [] known one two first second = ([], refl, tt)
    merged_least downward [] [] (g ∷ gs) known one two first second = absurd second
    merged_least downward [] (f ∷ fs) gs known one two first second = absurd first
    merged_least downward (u ∷ us) [] gs known one two first second = absurd first
    merged_least downward (u ∷ us) (f ∷ fs) [] known one two first second = absurd second
    merged_least downward (u ∷ us) (f ∷ fs) (g ∷ gs) known one two first second =
        let merged = merge files f g in
        let rest = merged_least downward us fs gs known.1 one.1 two.1 first.1 second.1 in
        let above = above_merge files gathers u f g known.0 one.0 two.0 first.0.above second.0.above in
        let allows = downward u merged known.0 (subst (λ x. allowed x ≡ true) (sym above) first.0.allows) in (
          merged ∷ rest.0,
          whole (allowed merged) merged (merge_lists files allowed fs gs) rest.0 allows rest.1,
          (record { above = above; allows = first.0.allows }, rest.2),
        )

    -- ---- an order

    pub over_goes_on : (fs gs hs : List VType) → AreKnown fs → AreKnown gs → AreKnown hs → AreOver files allowed fs gs → AreOver files allowed gs hs → AreOver files allowed fs hs
    over_goes_on [] [] hs one two three first second = second
    over_goes_on [] (g ∷ gs) hs one two three first second = absurd first
    over_goes_on (f ∷ fs) [] hs one two three first second = absurd first
    over_goes_on (f ∷ fs) (g ∷ gs) [] one two three first second = absurd second
    over_goes_on (f ∷ fs) (g ∷ gs) (h ∷ hs) one two three first second = (
      record { above = goes_on files gathers f g h one.0 two.0 three.0 first.0.above second.0.above; allows = first.0.allows },
      over_goes_on fs gs hs one.1 two.1 three.1 first.1 second.1,
    )

    pub over_one_way : (fs gs : List VType) → AreKnown fs → AreKnown gs → AreOver files allowed fs gs → AreOver files allowed gs fs → fs ≡ gs
    over_one_way [] [] one two first second = refl
    over_one_way [] (g ∷ gs) one two first second = absurd first
    over_one_way (f ∷ fs) [] one two first second = absurd first
    over_one_way (f ∷ fs) (g ∷ gs) one two first second =
        ap₂ ◌∷◌ (one_way files gathers f g one.0 two.0 first.0.above second.0.above) (over_one_way fs gs one.1 two.1 first.1 second.1)

    pub over_itself : (fs : List VType) → AreKnown fs → AllByRecursion (λ f. allowed f ≡ true) fs → AreOver files allowed fs fs
    over_itself [] known all = tt
    over_itself (f ∷ fs) known all = (record { above = stays files gathers f known.0; allows = all.0 }, over_itself fs known.1 all.1)

-- ---- what may stand in frames

module _ (files : List ClassFile) (gathers : Gathers files None) where
  pub locals_downward : IsDownward files may_be_local gathers
  locals_downward upper lower known e = refl

  pub operands_downward : IsDownward files may_be_operand gathers
  operands_downward upper Top known e = subst (λ x. may_be_operand x ≡ true) (with_top files gathers upper known) e
  operands_downward upper lower known e = refl

  pub all_locals : (types : List VType) → AllByRecursion (λ type. may_be_local type ≡ true) types
  all_locals [] = tt
  all_locals (type ∷ types) = (refl, all_locals types)
