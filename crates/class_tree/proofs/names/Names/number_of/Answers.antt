use Rattle.std.proofs.Common.{List, ℕ, Some, None, sym, ◌∙◌, ap}
use Rattle.class_tree.specs.Set.{number_among}
use Rattle.class_tree.proofs.tables.Numbers.{among_own}
use Rattle.class_tree.proofs.names.Names.number_of.Goals as goal

pub returns-in-Some-get_index_of-clause-number : goal.returns-in-Some-get_index_of-clause-number
returns-in-Some-get_index_of-clause-number c =
    sym (among_own c.self.inside.set.keys c.args.name.now (Some c.in-Some-get_index_of.file) (sym c.in-None.ensures) (sym c.in-Some-get_index_of.ensures.index))
    ∙ ap (λ (names : List (List ℕ)). number_among names c.args.name.now) c.self.view_is

pub returns-in-None-get_index_of-clause-number : goal.returns-in-None-get_index_of-clause-number
returns-in-None-get_index_of-clause-number c =
    sym (among_own c.self.inside.set.keys c.args.name.now None (sym c.in-None.ensures) (sym c.in-None-get_index_of.ensures.index))
    ∙ ap (λ (names : List (List ℕ)). number_among names c.args.name.now) c.self.view_is
