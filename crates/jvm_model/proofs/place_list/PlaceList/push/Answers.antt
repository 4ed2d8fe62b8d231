use Rattle.std.proofs.Common.{◌≡◌, ℕ, Bool, true, false, not, List, [], ◌∷◌, ◌++◌, map, Option, Some, None, is_some, refl, sym, ap, ◌∙◌}
use Rattle.std.proofs.lemmas.List.{map-append}
use Rattle.indexmap.proofs.CallerLemmas.{insert_entry-new}
use Rattle.class_pool.specs.declared.types.MemberId.{MemberId}
use Rattle.jvm_model.specs.declared.numbers.FieldPlace.{FieldPlace}
use Rattle.jvm_model.specs.ImageNumbering.{is_member}
use Rattle.jvm_model.proofs.PlaceLists.{place_at}
use Rattle.jvm_model.proofs.place_list.PlaceList.push.Goals as goal

absent : (o : Option ℕ) (b : Bool) → is_some o ≡ not b → b ≡ true → o ≡ None
absent None b e is = refl
absent (Some n) true e is = cc
absent (Some n) false e is = cc

pub returns : goal.returns
returns c new =
    let old = c.self.inside.map in
    let none = sym c.in_ok-old.ensures.old ∙ absent c.in_ok-old.old c.is_none.result c.is_none.ensures new in
    ap (map place_at) (c.in_ok-old.ensures.entries ∙ insert_entry-new is_member old c.args.member c.args.place none)
    ∙ map-append place_at old.entries ((c.args.member, c.args.place) ∷ [])
    ∙ ap (λ (places : List FieldPlace). places ++ place_at (c.args.member, c.args.place) ∷ []) c.self.view_is
