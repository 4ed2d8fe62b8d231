-- Lists of names.
use Rattle.std.proofs.Common.{◌≡◌, ℕ, false, cond, List, [], ◌∷◌, ◌++◌, map, Vec, Global, sym, ◌∙◌, ap}
use Rattle.std.proofs.lemmas.List.{map-append}
use Rattle.std.specs.List.{list_any}
use Rattle.std.specs.Str.{bytes_eq}
use Rattle.class_tree.proofs.tables.Finding.{list_any_map}

items : Vec ℕ Global → List ℕ
items v = v.items

-- a name that is not there stands after the others
pub pushed : (keys : List (Vec ℕ Global)) (v : Vec ℕ Global) (names : List (List ℕ)) → map (λ (k : Vec ℕ Global). k.items) keys ≡ names → list_any (bytes_eq v.items) names ≡ false
    → map (λ (k : Vec ℕ Global). k.items) (cond (list_any (λ (k : Vec ℕ Global). bytes_eq v.items k.items) keys) keys (keys ++ v ∷ [])) ≡ names ++ v.items ∷ []
pushed keys v names is none =
    let e : list_any (λ (k : Vec ℕ Global). bytes_eq v.items k.items) keys ≡ false =
    sym (list_any_map (λ (k : Vec ℕ Global). k.items) (bytes_eq v.items) keys) ∙ ap (list_any (bytes_eq v.items)) is ∙ none in
    ap (λ b. map (λ (k : Vec ℕ Global). k.items) (cond b keys (keys ++ v ∷ []))) e
    ∙ map-append (λ (k : Vec ℕ Global). k.items) keys (v ∷ []) ∙ ap (λ l. l ++ v.items ∷ []) is
