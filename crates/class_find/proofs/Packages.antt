-- The package of a name, byte by byte.
use Rattle.std.proofs.Common.{◌≡◌, ℕ, ◌+◌, ◌<◌, Bool, true, false, ◌||◌, cond, List, [], ◌∷◌, ◌++◌, length, take, get_or, refl, sym, ap, ◌∙◌}
use Rattle.std.specs.List.{list_any}
use Rattle.std.proofs.lemmas.List.{take_more}
use Rattle.class_tree.specs.Access.{is_slash, package_of}

pub package_none : package_of [] ≡ []
unfolding package_of
package_none = refl

begun : (x : ℕ) (xs : List ℕ) → package_of (x ∷ xs) ≡ cond (list_any is_slash xs) (x ∷ package_of xs) []
unfolding package_of
begun x xs = refl

or_true : (a : Bool) → (a || true) ≡ true
or_true true = refl
or_true false = refl

or_false : (a : Bool) → (a || false) ≡ a
or_false true = refl
or_false false = refl

has_slash : (xs : List ℕ) → list_any is_slash (xs ++ 47 ∷ []) ≡ true
has_slash [] = refl
has_slash (x ∷ xs) = ap (λ b. is_slash x || b) (has_slash xs) ∙ or_true (is_slash x)

no_slash : (xs : List ℕ) (x : ℕ) → is_slash x ≡ false → list_any is_slash (xs ++ x ∷ []) ≡ list_any is_slash xs
no_slash [] x e = ap (λ b. b || false) e
no_slash (y ∷ ys) x e = ap (λ b. is_slash y || b) (no_slash ys x e)

-- before a slash that comes last stands the package
slash_last : (xs : List ℕ) → package_of (xs ++ 47 ∷ []) ≡ xs
slash_last [] = begun 47 []
slash_last (x ∷ xs) = begun x (xs ++ 47 ∷ []) ∙ ap (λ b. cond b (x ∷ package_of (xs ++ 47 ∷ [])) []) (has_slash xs) ∙ ap (λ l. x ∷ l) (slash_last xs)

-- another byte changes nothing
other_last : (xs : List ℕ) (x : ℕ) → is_slash x ≡ false → package_of (xs ++ x ∷ []) ≡ package_of xs
other_last [] x e = begun x [] ∙ sym package_none
other_last (y ∷ ys) x e =
    begun y (ys ++ x ∷ []) ∙ ap (λ b. cond b (y ∷ package_of (ys ++ x ∷ [])) []) (no_slash ys x e)
    ∙ ap (λ l. cond (list_any is_slash ys) (y ∷ l) []) (other_last ys x e) ∙ sym (begun y ys)

-- one byte more of a name
pub slash_more : (name : List ℕ) (i : ℕ) → i < length name → get_or name i 0 ≡ 47 → take i name ≡ package_of (take (i + 1) name)
slash_more name i lt e = sym (ap package_of (take_more name i 0 lt ∙ ap (λ x. take i name ++ x ∷ []) e) ∙ slash_last (take i name))

pub other_more : (name : List ℕ) (i : ℕ) → i < length name → is_slash (get_or name i 0) ≡ false → package_of (take i name) ≡ package_of (take (i + 1) name)
other_more name i lt e = sym (ap package_of (take_more name i 0 lt) ∙ other_last (take i name) (get_or name i 0) e)
