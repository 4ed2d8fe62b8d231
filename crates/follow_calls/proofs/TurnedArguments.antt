-- Arguments turned around, as they stand on the stack: the last one is on top.
use Rattle.std.proofs.Common.{◌≡◌, List, [], ◌∷◌, ◌++◌, map, reverse, refl, sym, ap, ap₂, subst, ◌∙◌, append-nil}
use Rattle.std.specs.List.{AllByRecursion, flat_map}
use Rattle.std.proofs.lemmas.Grind.{flat_map-append}
use Rattle.std.proofs.lemmas.List.{map-append, reverse-append}
use Rattle.jvm_model.specs.State.{Value, Whole, Null, Name}
use Rattle.mote_model.specs.State.{Reference}
use Rattle.type_safety.proofs.fitting.SetLists.{all_joined}
use Rattle.follow_numbers.specs.WideCode.{refs_of_value, value_refs}
use Rattle.follow_operands.proofs.ValueShapes.{refs-append}

pub mapped_reverse : {X Y : Type 0} (f : X → Y) (xs : List X) → map f (reverse xs) ≡ reverse (map f xs)
mapped_reverse f [] = refl
mapped_reverse f (x ∷ xs) =
    ap (map f) (reverse-append (x ∷ []) xs) ∙ map-append f (reverse xs) (x ∷ [])
    ∙ ap (λ l. l ++ f x ∷ []) (mapped_reverse f xs) ∙ sym (reverse-append (f x ∷ []) (map f xs))

pub turned_pieces : {X A : Type 0} (pieces : X → List A) (xs : List X) → flat_map (λ x. reverse (pieces x)) (reverse xs) ≡ reverse (flat_map pieces xs)
turned_pieces pieces [] = refl
turned_pieces pieces (x ∷ xs) =
    ap (flat_map (λ x. reverse (pieces x))) (reverse-append (x ∷ []) xs)
    ∙ flat_map-append (λ x. reverse (pieces x)) (reverse xs) (x ∷ [])
    ∙ ap₂ (λ a b. a ++ b) (turned_pieces pieces xs) (append-nil (reverse (pieces x)))
    ∙ sym (reverse-append (pieces x) (flat_map pieces xs))

one_turned : (value : Value) → reverse (refs_of_value value) ≡ refs_of_value value
one_turned (Whole number) = refl
one_turned Null = refl
one_turned (Name name) = refl

pub turned_refs : (values : List Value) → value_refs (reverse values) ≡ reverse (value_refs values)
turned_refs [] = refl
turned_refs (value ∷ values) =
    ap value_refs (reverse-append (value ∷ []) values)
    ∙ refs-append (reverse values) (value ∷ [])
    ∙ ap₂ (λ (a b : List Reference). a ++ b) (turned_refs values) (append-nil (refs_of_value value) ∙ sym (one_turned value))
    ∙ sym (reverse-append (refs_of_value value) (value_refs values))

pub all_turned : {X : Type 0} (P : X → Type 0) (xs : List X) → AllByRecursion P xs → AllByRecursion P (reverse xs)
all_turned P [] all = tt
all_turned P (x ∷ xs) all = subst (AllByRecursion P) (sym (reverse-append (x ∷ []) xs)) (all_joined P (reverse xs) (x ∷ []) (all_turned P xs all.1) (all.0, tt))
