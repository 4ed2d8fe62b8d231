-- Objects that are not yet constructed, where a list lacks them.
use Rattle.std.proofs.Common.{◌≡◌, ℕ, Bool, true, false, ◌||◌, not, cond, List, [], ◌∷◌, ◌++◌, map, take, drop, Option, Some, None, refl, sym, ap, ◌∙◌}
use Rattle.std.proofs.lemmas.List.{take-append-drop, map-append, take-map}
use Rattle.std.specs.List.{list_any}
use Rattle.body_form.specs.declared.types.VType.{VType}
use Rattle.body_form.specs.declared.types.VType.TheVariants as known
use Rattle.jvm_model.specs.TypesRules.{is_same_object, renamed, renamed_one}
use Rattle.type_table.specs.Frames.{is_unconstructed}

pub left_false : (a b : Bool) → (a || b) ≡ false → a ≡ false
left_false true b is = is
left_false false b is = refl

pub right_false : (a b : Bool) → (a || b) ≡ false → b ≡ false
right_false true b is = let none : true ≡ false = is in absurd (cc)
right_false false b is = is

pub both_false : (a b : Bool) → a ≡ false → b ≡ false → (a || b) ≡ false
both_false a b first second = ap (λ v. v || b) first ∙ second

-- what is constructed is no object that is not
constructed_lacks : (object type : VType) → is_unconstructed type ≡ false → is_same_object object type ≡ false
constructed_lacks (known.New p) (known.New q) is = let none : true ≡ false = is in absurd (cc)
constructed_lacks (known.New p) known.Top is = refl
constructed_lacks (known.New p) known.Int is = refl
constructed_lacks (known.New p) known.Null is = refl
constructed_lacks (known.New p) (known.Ref t) is = refl
constructed_lacks (known.New p) known.This is = refl
constructed_lacks known.This known.This is = let none : true ≡ false = is in absurd (cc)
constructed_lacks known.This known.Top is = refl
constructed_lacks known.This known.Int is = refl
constructed_lacks known.This known.Null is = refl
constructed_lacks known.This (known.Ref t) is = refl
constructed_lacks known.This (known.New q) is = refl
constructed_lacks known.Top type is = refl
constructed_lacks known.Int type is = refl
constructed_lacks known.Null type is = refl
constructed_lacks (known.Ref t) type is = refl

pub all_constructed_lack : (object : VType) (types : List VType) → list_any is_unconstructed types ≡ false → list_any (is_same_object object) types ≡ false
all_constructed_lack object [] is = refl
all_constructed_lack object (type ∷ types) is =
    both_false (is_same_object object type) (list_any (is_same_object object) types)
    (constructed_lacks object type (left_false (is_unconstructed type) (list_any is_unconstructed types) is))
    (all_constructed_lack object types (right_false (is_unconstructed type) (list_any is_unconstructed types) is))

-- where the object is lacking, nothing is renamed
pub lacking_stays : (from to : VType) (types : List VType) → list_any (is_same_object from) types ≡ false → map (renamed_one from to) types ≡ types
lacking_stays from to [] is = refl
lacking_stays from to (type ∷ types) is =
    let here : renamed_one from to type ≡ type = ap (λ (b : Bool). cond b to type) (left_false (is_same_object from type) (list_any (is_same_object from) types) is) in
    let rest = lacking_stays from to types (right_false (is_same_object from type) (list_any (is_same_object from) types) is) in
    ap (λ (t : VType). t ∷ map (renamed_one from to) types) here ∙ ap (λ (list : List VType). type ∷ list) rest

-- where the object is lacking below so many, those above are renamed alone
pub renamed_parts : (from to : VType) (types : List VType) (count : ℕ) → list_any (is_same_object from) (drop count types) ≡ false
    → map (renamed_one from to) types ≡ map (renamed_one from to) (take count types) ++ drop count types
renamed_parts from to types count lacks =
    let f : VType → VType = renamed_one from to in
    ap (map f) (sym (take-append-drop count types)) ∙ map-append f (take count types) (drop count types)
    ∙ ap (λ (list : List VType). map f (take count types) ++ list) (lacking_stays from to (drop count types) lacks)

pub not_true : (b : Bool) → not b ≡ true → b ≡ false
not_true true is = let none : false ≡ true = is in absurd (cc)
not_true false is = refl

pub take_renamed : (renames : Option (VType × VType)) (count : ℕ) (types : List VType) → take count (renamed renames types) ≡ renamed renames (take count types)
take_renamed None count types = refl
take_renamed (Some (from, to)) count types = take-map (renamed_one from to) count types
