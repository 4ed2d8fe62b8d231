-- Each turn takes one more local.
use Rattle.std.proofs.Common.{◌++◌, ◌∷◌, [], List, take, sym, ap, ◌∙◌}
use Rattle.std.proofs.lemmas.Option.{get_or_from_slice_get, slice_get_within}
use Rattle.std.proofs.lemmas.List.{take_more}
use Rattle.body_form.specs.declared.types.VType.{VType}
use Rattle.type_table.specs.Trees.{tree_of}
use Rattle.type_table.proofs.trees.first_locals.Goals as goal

pub loop-index-preserved : goal.loop-index-preserved
loop-index-preserved c =
    let locals = tree_of c.args.trees.now c.args.depth c.args.root in
    let index = c.loop-index.index in
    let value = c.local_at.result in
    let is = c.local_at.ensures in
    c.in_ok-push.ensures.items
    ∙ ap (λ (list : List VType). list ++ value ∷ []) c.loop-index.invariant
    ∙ ap (λ (v : VType). take index locals ++ v ∷ []) (sym (get_or_from_slice_get locals index value value is))
    ∙ sym (take_more locals index value (slice_get_within locals index value is))
