-- The names of a command are at their places among the words.
use Rattle.std.proofs.Common.{◌≡◌, ℕ, suc, ◌+◌, ◌≤◌, List, [], ◌∷◌, ◌++◌, length, drop, get_or, map, refl, sym, ap, ◌∙◌, arith}
use Rattle.std.specs.Prelude.{codes}
use Rattle.std.proofs.Math.ListN.{get_or-map}
use Rattle.std.proofs.lemmas.List.{drop-map, length-append, length-map}
use Rattle.mote_top.specs.Words.{Setting, option_words, infuse_of, run_of, go_of, class_place}

-- the word at a place, read as text
word_at : {A : Type 0} (f : A → List ℕ) (xs : List A) (place : ℕ) (x : A) (words : List (List ℕ)) → x ≡ get_or xs place x → map f xs ≡ words → f x ≡ get_or words place (f x)
word_at f xs place x words is whole = ap f is ∙ sym (get_or-map f xs place x) ∙ ap (λ (w : List (List ℕ)). get_or w place (f x)) whole

pub run_name : {A : Type 0} (f : A → List ℕ) (xs : List A) (place : ℕ) (x : A) (name : List ℕ) (settings : List Setting) → x ≡ get_or xs place x → map f xs ≡ run_of name settings → place ≡ 1 → f x ≡ name
run_name f xs place x name settings is whole there =
    word_at f xs place x (run_of name settings) is whole ∙ ap (λ (p : ℕ). get_or (run_of name settings) p (f x)) there

pub infuse_out : {A : Type 0} (f : A → List ℕ) (xs : List A) (place : ℕ) (x : A) (out : List ℕ) (classes : List (List ℕ)) → x ≡ get_or xs place x → map f xs ≡ infuse_of out classes → place ≡ 1 → f x ≡ out
infuse_out f xs place x out classes is whole there =
    word_at f xs place x (infuse_of out classes) is whole ∙ ap (λ (p : ℕ). get_or (infuse_of out classes) p (f x)) there

-- the words from a place on, read as texts
words_from : {A : Type 0} (f : A → List ℕ) (xs rest : List A) (place : ℕ) (words : List (List ℕ)) → rest ≡ drop place xs → map f xs ≡ words → map f rest ≡ drop place words
words_from f xs rest place words is whole = ap (map f) is ∙ sym (drop-map f place xs) ∙ ap (drop place) whole

after_words : (prefix classes : List (List ℕ)) → drop (length prefix) (prefix ++ classes) ≡ classes
after_words [] classes = refl
after_words (word ∷ prefix) classes = after_words prefix classes

pub go_classes : {A : Type 0} (f : A → List ℕ) (xs rest : List A) (place : ℕ) (settings : List Setting) (classes : List (List ℕ)) → rest ≡ drop place xs → map f xs ≡ go_of settings classes → place ≡ class_place settings → map f rest ≡ classes
go_classes f xs rest place settings classes is whole there =
    words_from f xs rest place (go_of settings classes) is whole
    ∙ ap (λ n. drop n (go_of settings classes)) (there ∙ one_more (length (option_words settings)))
    ∙ after_words (codes "go" ∷ option_words settings) classes
  where
    one_more : (n : ℕ) → 1 + n ≡ suc n
    one_more n = omega arith

pub infuse_classes : {A : Type 0} (f : A → List ℕ) (xs rest : List A) (place : ℕ) (out : List ℕ) (classes : List (List ℕ)) → rest ≡ drop place xs → map f xs ≡ infuse_of out classes → place ≡ 2 → map f rest ≡ classes
infuse_classes f xs rest place out classes is whole there =
    words_from f xs rest place (infuse_of out classes) is whole ∙ ap (λ n. drop n (infuse_of out classes)) there

-- the names are among the words
pub go_within : {A : Type 0} (f : A → List ℕ) (xs : List A) (place : ℕ) (settings : List Setting) (classes : List (List ℕ)) → map f xs ≡ go_of settings classes → place ≡ class_place settings → place ≤ length xs
go_within f xs place settings classes whole there =
    let count : length xs ≡ length (go_of settings classes) = sym (length-map xs f) ∙ ap (λ (ws : List (List ℕ)). length ws) whole in
    let all = length-append (option_words settings) classes in
    omega (arith, count, all, there)

pub infuse_within : {A : Type 0} (f : A → List ℕ) (xs : List A) (place : ℕ) (out : List ℕ) (classes : List (List ℕ)) → map f xs ≡ infuse_of out classes → place ≡ 2 → place ≤ length xs
infuse_within f xs place out classes whole there =
    let count : length xs ≡ length (infuse_of out classes) = sym (length-map xs f) ∙ ap (λ (ws : List (List ℕ)). length ws) whole in
    omega (arith, count, there)
