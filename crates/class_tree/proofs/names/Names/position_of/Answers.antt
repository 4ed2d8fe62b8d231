use Rattle.std.proofs.Common.{ℕ, Vec, Global, sym, ap, ◌∙◌}
use Rattle.std.specs.List.{position_or_len}
use Rattle.std.specs.Str.{bytes_eq}
use Rattle.class_tree.proofs.tables.Finding.{first_map}
use Rattle.class_tree.proofs.lookups.MemberKeys.{some_first, none_first}
use Rattle.class_tree.proofs.names.Names.position_of.Goals as goal

pub returns-in-Some : goal.returns-in-Some
returns-in-Some c =
    some_first (λ (v : Vec ℕ Global). bytes_eq c.args.name.now v.items) c.self.inside.set.keys c.in-Some.position (sym c.in-Some.ensures.index)
    ∙ sym (first_map (λ (v : Vec ℕ Global). v.items) (bytes_eq c.args.name.now) c.self.inside.set.keys)
    ∙ ap (position_or_len (bytes_eq c.args.name.now)) c.self.view_is

pub returns-in-None : goal.returns-in-None
returns-in-None c =
    c.len.ensures.len ∙ none_first (λ (v : Vec ℕ Global). bytes_eq c.args.name.now v.items) c.self.inside.set.keys (sym c.in-None.ensures.index)
    ∙ sym (first_map (λ (v : Vec ℕ Global). v.items) (bytes_eq c.args.name.now) c.self.inside.set.keys)
    ∙ ap (position_or_len (bytes_eq c.args.name.now)) c.self.view_is
