-- Each turn renames one more type.
use Rattle.std.proofs.Common.{get_or, set, ap, ◌∙◌, arith}
use Rattle.std.proofs.lemmas.List.Edits.{map_over_more}
use Rattle.std.proofs.lemmas.List.{get_or_default}
use Rattle.body_form.specs.declared.types.VType.{VType}
use Rattle.body_form.specs.declared.types.VType.TheVariants as known
use Rattle.jvm_model.specs.TypesRules.{renamed_one}
use Rattle.type_table.proofs.operands.rename_all.Goals as goal

pub loop-value-preserved : goal.loop-value-preserved
loop-value-preserved c =
    let f : VType → VType = renamed_one c.args.from c.args.to in
    let values = c.loop-value.values in
    let i = c.loop-value.value-index in
    let x = get_or values i known.Top in
    let within = c.loop-value-test.true in
    ap (set values i) c.renamed.ensures
    ∙ map_over_more f c.args.values.now values i x within c.loop-value.invariant (get_or_default values i known.Top x (omega (arith, c.loop-value.auto.values)))
