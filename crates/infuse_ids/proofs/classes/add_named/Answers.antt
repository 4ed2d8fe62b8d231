use Rattle.std.proofs.Common.{ℕ, List, ◌++◌, map, take, ap, ◌∙◌}
use Rattle.std.specs.List.{filter_map}
use Rattle.std.specs.Option.{option_to_list}
use Rattle.class_tree.specs.Set.{own_name, named_among}
use Rattle.infuse_ids.proofs.Folds.{found_more}
use Rattle.infuse_ids.proofs.classes.add_named.Goals as goal

pub loop-index-preserved : goal.loop-index-preserved
loop-index-preserved c =
    let name = named_among (map own_name c.args.set.now) c.args.file.now in
    c.in-Ok.ensures
    ∙ ap (λ (uppers : List ℕ). uppers ++ option_to_list c.named.result) c.loop-index.invariant
    ∙ ap (λ o. (c.args.uppers.now.items ++ filter_map name (take c.loop-index.index-index c.args.indexes.now)) ++ option_to_list o) c.named.ensures
    ∙ found_more name c.args.uppers.now.items c.args.indexes.now c.loop-index.index-index 0 c.loop-index-test.true
