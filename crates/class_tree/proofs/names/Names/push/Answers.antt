use Rattle.std.proofs.Common.{ℕ, List, [], ◌∷◌, ◌++◌, map, Vec, Global, ◌∙◌, ap}
use Rattle.std.specs.List.{list_any}
use Rattle.std.specs.Str.{bytes_eq}
use Rattle.class_tree.proofs.tables.NameLists.{pushed}
use Rattle.class_tree.proofs.names.Names.push.Goals as goal

pub returns : goal.returns
returns c =
    let name = c.in_ok-name.name in
    let is = c.in_ok-name.ensures.items in
    ap (map (λ (v : Vec ℕ Global). v.items)) c.in_ok-insert.ensures.keys
    ∙ pushed c.self.inside.set.keys name c.args.self.now c.self.view_is (ap (λ (n : List ℕ). list_any (bytes_eq n) c.args.self.now) is ∙ c.requires)
    ∙ ap (λ (n : List ℕ). c.args.self.now ++ n ∷ []) is
