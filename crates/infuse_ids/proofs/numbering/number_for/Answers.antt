use Rattle.std.proofs.Common.{ℕ, List, ap, sym, subst, ◌∙◌}
use Rattle.infuse_ids.specs.Orders.{methods_over, selectors_over, types_over}
use Rattle.infuse_ids.specs.Sizes.{RefusesFor, list_excess}
use Rattle.infuse_ids.proofs.ClassBodies.{are_by_class}
use Rattle.infuse_ids.proofs.NumberedSets.{numbering_is, lists_refused, fields_refused, all_within}
use Rattle.infuse_ids.proofs.numbering.number_for.Goals as goal

pub returns-in-Err-lists-clause-refused : goal.returns-in-Err-lists-clause-refused
returns-in-Err-lists-clause-refused c =
    let files = c.args.set.now in
    let bodies = c.args.bodies.now in
    let why = c.in-Err-lists.why in
    let order = c.as_slice.ensures.keys ∙ c.in-Ok.ensures.order in
    lists_refused files bodies c.requires.closed c.requires.bodies c.args.main why
    (subst (λ (classes : List ℕ). RefusesFor (list_excess files classes bodies) why) order c.in-Err-lists.ensures.refused)

pub returns-in-Err-fields-clause-refused : goal.returns-in-Err-fields-clause-refused
returns-in-Err-fields-clause-refused c =
    let files = c.args.set.now in
    let bodies = c.args.bodies.now in
    let order = c.as_slice.ensures.keys ∙ c.in-Ok.ensures.order in
    fields_refused files bodies c.requires.closed c.requires.bodies c.args.main c.in-Err-fields.why
    (ap (λ (classes : List ℕ). list_excess files classes bodies) (sym order) ∙ c.in-Ok-lists.ensures.within) c.in-Err-fields.ensures.refused

pub returns-clause-numbers : goal.returns-clause-numbers
returns-clause-numbers c =
    let files = c.args.set.now in
    let bodies = c.args.bodies.now in
    let order = c.as_slice.ensures.keys ∙ c.in-Ok.ensures.order in
    let lists = c.in-Ok-lists.lists in
    let fields = c.in-Ok-fields.fields in
    numbering_is files bodies c.requires.closed c.requires.bodies c.args.main lists.types lists.selectors lists.methods fields.layouts fields.places fields.statics.refs c.from_vec.result c.id_of-main.result
    (c.in-Ok-lists.ensures.types ∙ ap (λ (classes : List ℕ). types_over classes bodies) order)
    (c.in-Ok-lists.ensures.selectors ∙ ap (λ (classes : List ℕ). selectors_over files classes) order)
    (c.in-Ok-lists.ensures.methods ∙ ap (λ (classes : List ℕ). methods_over classes bodies) order)
    c.in-Ok-fields.ensures.layouts c.in-Ok-fields.ensures.placed c.in-Ok-fields.ensures.refs (c.from_vec.ensures ∙ c.in-Ok-fields.ensures.cells) c.id_of-main.ensures

pub returns-clause-fits : goal.returns-clause-fits
returns-clause-fits c =
    let files = c.args.set.now in
    let bodies = c.args.bodies.now in
    let order = c.as_slice.ensures.keys ∙ c.in-Ok.ensures.order in
    all_within files bodies c.requires.closed c.requires.bodies c.args.main
    (ap (λ (classes : List ℕ). list_excess files classes bodies) (sym order) ∙ c.in-Ok-lists.ensures.within) c.in-Ok-fields.ensures.within

pub lists-requires-clause-bodies : goal.lists-requires-clause-bodies
lists-requires-clause-bodies c = are_by_class c.args.set.now c.args.bodies.now c.requires.bodies
