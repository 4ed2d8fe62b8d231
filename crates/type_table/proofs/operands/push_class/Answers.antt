-- One operand stands on none.
use Rattle.std.proofs.Common.{◌≡◌, ◌∷◌, [], List, refl, ap, ◌∙◌}
use Rattle.std.proofs.lemmas.Result.{IfOk-weaker}
use Rattle.class_tree.specs.Subtypes.{class_type}
use Rattle.body_form.specs.declared.types.VType.{VType}
use Rattle.body_form.specs.declared.types.VType.TheVariants as known
use Rattle.type_table.specs.declared.operands.Chain.{Chain}
use Rattle.type_table.specs.Frames.{operands_of}
use Rattle.type_table.specs.Chains.{IsChain}
use Rattle.type_table.proofs.Chaining.{no_operands}
use Rattle.type_table.proofs.Filling.{no_chain}
use Rattle.type_table.proofs.operands.push_class.Goals as goal

pub push-requires : goal.push-requires
push-requires c = no_chain c.args.cells.now.items 0

pub returns-clause-pushed : goal.returns-clause-pushed
returns-clause-pushed c =
    let object = known.Ref (class_type c.args.class) in
    let cells = c.args.cells.now.items in
    let one : object ∷ operands_of cells 0 0 ≡ object ∷ [] = ap (λ (list : List VType). object ∷ list) (no_operands cells 0 0 refl) in
    IfOk-weaker c.push.result (λ (pushed : Chain). IsChain c.push.new.cells.items pushed (object ∷ operands_of cells 0 0)) (λ (pushed : Chain). IsChain c.push.new.cells.items pushed (object ∷ []))
    (λ pushed is. record { has = is.has; is = is.is ∙ one }) c.push.ensures.pushed
