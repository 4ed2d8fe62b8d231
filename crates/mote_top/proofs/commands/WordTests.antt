-- What the tests of words tell.
use Rattle.std.proofs.Common.{◌≡◌, ◌≢◌, ℕ, Bool, true, false, not, List, [], ◌∷◌, length, refl, sym, subst, ◌∙◌}
use Rattle.std.specs.Prelude.{IsTrue, ◌↔◌, ◌==◌}
use Rattle.std.specs.Str.{bytes_eq}
use Rattle.std.proofs.lemmas.Bool.{false≢true, not-false, not-true, eqb-true}
use Rattle.std.proofs.lemmas.List.{nil_from_length}
use Rattle.std.proofs.lemmas.Slice.Eq.{bytes_eq-Decides}
use Rattle.mote_top.specs.Words.{IsName}

pub no_name : (word text : List ℕ) (is : Bool) → text ≡ word → (IsTrue is ↔ IsName text) → is ≡ false → IsName word → ⊥
no_name word text is same test is_false is_name = false≢true (sym is_false ∙ test.1 (subst IsName (sym same) is_name))

pub is_a_name : (word text : List ℕ) (is : Bool) → text ≡ word → (IsTrue is ↔ IsName text) → is ≡ true → IsName word
is_a_name word text is same test is_true = subst IsName same (test.0 is_true)

-- a list that is not empty has a first item
pub not_empty : {A : Type 0} (xs : List A) (is_empty : Bool) → is_empty ≡ (length xs == 0) → is_empty ≡ false → (first : A) × (rest : List A) × (xs ≡ first ∷ rest)
not_empty [] is_empty test is_false = absurd (false≢true (sym is_false ∙ test))
not_empty (first ∷ rest) is_empty test is_false = (first, rest, refl)

pub is_nil : {A : Type 0} (xs : List A) (is_empty : Bool) → is_empty ≡ (length xs == 0) → is_empty ≡ true → xs ≡ []
is_nil xs is_empty test is_true = nil_from_length xs (eqb-true (length xs) 0 (sym test ∙ is_true))

pub word-is : (word other : List ℕ) (same : Bool) → same ≡ bytes_eq word other → same ≡ true → word ≡ other
word-is word other same e is_true = (bytes_eq-Decides word other).0 (sym e ∙ is_true)

pub word-is_not : (word other : List ℕ) (same : Bool) → same ≡ bytes_eq word other → same ≡ false → word ≢ other
word-is_not word other same e is_false = λ is. let one : bytes_eq word other ≡ true = (bytes_eq-Decides word other).1 is in false≢true (sym is_false ∙ e ∙ one)

pub word-same : (word other : List ℕ) (differs : Bool) → differs ≡ not (bytes_eq word other) → differs ≡ false → word ≡ other
word-same word other differs e is_false = (bytes_eq-Decides word other).0 (not-false (bytes_eq word other) (sym e ∙ is_false))

pub word-differs : (word other : List ℕ) (differs : Bool) → differs ≡ not (bytes_eq word other) → differs ≡ true → word ≢ other
word-differs word other differs e is_true =
    let apart : bytes_eq word other ≡ false = not-true (bytes_eq word other) (sym e ∙ is_true) in
    λ same. let one : bytes_eq word other ≡ true = (bytes_eq-Decides word other).1 same in cc
