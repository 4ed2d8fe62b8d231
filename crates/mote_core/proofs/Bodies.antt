-- The body cells of the methods of an image of the grammar leave room for the header of a frame.
use Rattle.std.proofs.Common.{◌≤◌, ℕ, List, [], ◌∷◌, map, replicate, arith}
use Rattle.std.specs.List.{All, AllByRecursion}
use Rattle.std.proofs.lemmas.List.Elements.{All-append, All-cons, All-map, All-nil, All-replicate}
use Rattle.library.specs.Classes.{first_own}
use Rattle.image_form.specs.declared.record.Image.{Image}
use Rattle.image_form.specs.declared.record.Method.{Method}
use Rattle.image_form.specs.Grammar.{IsImage, IsMethod}
use Rattle.mote_model.specs.Picture.{bodies_of}
use Rattle.split_safety.proofs.facts.Lists.{all_of_each}

-- the body leaves room for the header
abbrev Fits : ℕ → Type 0
Fits body = body ≤ 32763

bodies_of_methods : (image : Image) (methods : List Method) → AllByRecursion (IsMethod image.types) methods → All (λ (method : Method). Fits method.body) methods
bodies_of_methods image [] all = All-nil (λ (method : Method). Fits method.body)
bodies_of_methods image (method ∷ methods) all =
    let one = all.0 in
    All-cons (λ (method : Method). Fits method.body) method methods one.body_fits (bodies_of_methods image methods all.1)

pub bodies_fit : (image : Image) → IsImage image → All (λ body. body ≤ 32763) (bodies_of image)
bodies_fit image grammar =
    let own = bodies_of_methods image image.methods (all_of_each (IsMethod image.types) [] image.methods grammar.methods_are) in
    All-append Fits (replicate first_own 0) (map (λ (method : Method). method.body) image.methods) (All-replicate Fits first_own 0 (omega (arith)))
    (All-map Fits (λ (method : Method). method.body) image.methods own)
