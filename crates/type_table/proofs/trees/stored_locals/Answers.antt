-- A local among the first ones is set among them.
use Rattle.std.proofs.Common.{◌≡◌, ℕ, take, set, Option, sym, ap, ◌∙◌}
use Rattle.std.proofs.lemmas.Result.{IfOk-weaker}
use Rattle.body_form.specs.declared.types.VType.{VType}
use Rattle.jvm_model.specs.TypesRules.{stored}
use Rattle.type_table.specs.Trees.{tree_of, IsTree, IsPartly}
use Rattle.type_table.proofs.Lists.{take_set}
use Rattle.type_table.proofs.trees.stored_locals.Goals as goal

pub returns-in-Some-clause-stored : goal.returns-in-Some-clause-stored
returns-in-Some-clause-stored c =
    let locals = tree_of c.args.trees.now c.args.depth c.args.root in
    let count = c.args.count in
    let index = c.in-Some.index in
    let value = c.in-Some.value in
    let same : take count (set locals c.from-in-Some.result value) ≡ stored c.args.stores (take count locals) =
    ap (λ i. take count (set locals i value)) c.from-in-Some.ensures ∙ take_set count locals index value
    ∙ sym (ap (λ (stores : Option (ℕ × VType)). stored stores (take count locals)) c.in-Some.is)
    in
    IfOk-weaker c.set_local.result (λ (after : ℕ). IsTree c.set_local.new.trees c.args.depth after (set locals c.from-in-Some.result value))
    (λ (after : ℕ). IsPartly c.set_local.new.trees c.args.depth after count (stored c.args.stores (take count locals)))
    (λ after made. record { has = made.has; is = ap (take count) made.is ∙ same }) c.set_local.ensures.set
