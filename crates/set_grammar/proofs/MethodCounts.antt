-- The image of a set has a method for each that is numbered.
use Rattle.std.proofs.Common.{◌≡◌, ◌≤◌, List, length, sym, ap, ◌∙◌, arith}
use Rattle.std.proofs.lemmas.List.{length-map}
use Rattle.class_pool.specs.declared.types.MemberId.{MemberId}
use Rattle.image_form.specs.Grammar.{most_methods}
use Rattle.set_image.specs.Linked.{Linked, IsLinked, in_order, image_in, method_in, numbering_in}
use Rattle.set_compile.proofs.FoundCode.{own_method}
use Rattle.set_compile.proofs.PlacedMethods.{methods_are as methods_in_order}
use Rattle.set_image.proofs.CountLimits.{are_within}
use Rattle.set_image.proofs.NoRefusals.{HasNoRefusal}

pub methods_fit : (linked : Linked) → IsLinked linked → HasNoRefusal linked → length (image_in linked).methods ≤ most_methods
methods_fit linked is none =
    let ordered = in_order linked.classes linked.code in
    let numbered : length ordered ≡ length (numbering_in linked).methods =
    sym (length-map ordered own_method) ∙ ap (λ (methods : List MemberId). length methods) (sym (methods_in_order linked.classes linked.code is.are_bodies))
    in
    let limit = (are_within linked.classes (numbering_in linked) none.counts).methods in
    omega (arith, limit, numbered, length-map ordered (method_in linked))
