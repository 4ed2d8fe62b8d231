use Rattle.std.proofs.Common.{ℕ, Option, Some, None, unwrap_or, sym, ap, ◌∙◌}
use Rattle.jvm_model.specs.ImageNumbering.{place_listed}
use Rattle.jvm_model.proofs.PlaceLists.{listed}
use Rattle.jvm_model.proofs.place_list.PlaceList.place_of.Goals as goal

pub returns-in-Some : goal.returns-in-Some
returns-in-Some c =
    ap (λ (o : Option ℕ). unwrap_or o 0) c.in-Some.ensures.value
    ∙ listed c.args.member c.self.inside.map.entries
    ∙ ap (λ places. place_listed places c.args.member) c.self.view_is

pub returns-in-None : goal.returns-in-None
returns-in-None c =
    ap (λ (o : Option ℕ). unwrap_or o 0) c.in-None.ensures.value
    ∙ listed c.args.member c.self.inside.map.entries
    ∙ ap (λ places. place_listed places c.args.member) c.self.view_is
