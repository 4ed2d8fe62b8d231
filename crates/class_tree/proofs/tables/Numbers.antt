-- The numbers of classes by their names.
use Rattle.std.proofs.Common.{◌≡◌, ℕ, ◌+◌, List, Option, None, option_map, map, position, Vec, Global, ◌∙◌, ap}
use Rattle.std.specs.Option.{option_or}
use Rattle.std.specs.Str.{bytes_eq}
use Rattle.library.specs.Classes.{first_own, class_names}
use Rattle.class_tree.specs.Set.{number_among}
use Rattle.class_tree.proofs.tables.Finding.{position_map}

-- a name that is none of the library's has the number of the first file of that name
pub among_own : (names : List (Vec ℕ Global)) (name : List ℕ) (found : Option ℕ) → position (bytes_eq name) class_names ≡ None
    → position (λ (v : Vec ℕ Global). bytes_eq name v.items) names ≡ found
    → number_among (map (λ (v : Vec ℕ Global). v.items) names) name ≡ option_map (λ file. first_own + file) found
among_own names name found none is =
    let own = position (bytes_eq name) (map (λ (v : Vec ℕ Global). v.items) names) in
    ap (λ o. option_or o (option_map (λ file. first_own + file) own)) none
    ∙ ap (option_map (λ file. first_own + file)) (position_map (λ (v : Vec ℕ Global). v.items) (bytes_eq name) names ∙ is)
