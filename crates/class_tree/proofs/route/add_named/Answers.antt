use Rattle.std.proofs.Common.{ℕ, Option, List, take, sym, ap, ◌∙◌}
use Rattle.std.specs.Option.{option_to_list}
use Rattle.std.specs.List.{filter_map}
use Rattle.class_tree.specs.Set.{named_among}
use Rattle.class_tree.specs.Ways.{seen_after}
use Rattle.class_tree.proofs.tables.Seen.{named_more}
use Rattle.class_tree.proofs.route.add_named.Goals as goal

pub loop-index-preserved : goal.loop-index-preserved
loop-index-preserved c =
    c.in_ok-add.ensures
    ∙ ap (λ (seen : List ℕ). seen_after seen (option_to_list c.named.result)) c.loop-index.invariant
    ∙ ap (λ (o : Option ℕ). seen_after (seen_after c.args.way.now (filter_map (named_among c.args.names.now c.args.file.now) (take c.loop-index.index-index c.args.indexes.now))) (option_to_list o)) c.named.ensures.number
    ∙ sym (named_more (named_among c.args.names.now c.args.file.now) c.args.way.now c.args.indexes.now c.loop-index.index-index 0 c.loop-index-test.true)
