-- The first locals are renamed and then stored.
use Rattle.std.proofs.Common.{◌≡◌, ℕ, take, ap, ◌∙◌}
use Rattle.std.proofs.lemmas.Result.{IfOk-weaker}
use Rattle.jvm_model.specs.TypesRules.{renamed, stored}
use Rattle.type_table.specs.Trees.{tree_of, IsPartly}
use Rattle.type_table.proofs.Lacking.{take_renamed}
use Rattle.type_table.proofs.trees.changed_locals.Goals as goal

pub returns-clause-changed : goal.returns-clause-changed
returns-clause-changed c =
    let change = c.args.change.now in
    let count = c.args.count in
    let locals = tree_of c.args.trees.now c.args.depth c.args.root in
    let named = tree_of c.renamed_locals.new.trees c.args.depth c.in-Ok.named in
    let same : take count named ≡ renamed change.renames (take count locals) = ap (take count) c.in-Ok.ensures.named.is ∙ take_renamed change.renames count locals in
    IfOk-weaker c.stored_locals.result (λ (after : ℕ). IsPartly c.stored_locals.new.trees c.args.depth after count (stored change.stores (take count named)))
    (λ (after : ℕ). IsPartly c.stored_locals.new.trees c.args.depth after count (stored change.stores (renamed change.renames (take count locals))))
    (λ after made. record { has = made.has; is = made.is ∙ ap (stored change.stores) same }) c.stored_locals.ensures.stored
