use Rattle.std.proofs.Common.{ℕ}
use Rattle.infuse_ids.proofs.SortedParts.{between, is_ordered}
use Rattle.infuse_sets.specs.declared.laid.LaidBody.{LaidBody}
use Rattle.infuse_sets.specs.LaidBodies.{laid_as}
use Rattle.infuse_sets.proofs.code.of_class.Goals as goal

abbrev class_in : LaidBody → ℕ
class_in one = let body = (laid_as one).body in body.class

pub slice_bounds-result-count : goal.slice_bounds-result-count
slice_bounds-result-count c =
    is_ordered class_in c.args.class c.from.result c.from-2.result c.args.laid.now c.count_below-start.result c.count_below-end.result
    c.from.ensures c.from-2.ensures c.count_below-start.ensures.within c.count_below-start.ensures.point c.count_below-end.ensures.point

pub slice_bounds-result-start : goal.slice_bounds-result-start
slice_bounds-result-start c =
    is_ordered class_in c.args.class c.from.result c.from-2.result c.args.laid.now c.count_below-start.result c.count_below-end.result
    c.from.ensures c.from-2.ensures c.count_below-start.ensures.within c.count_below-start.ensures.point c.count_below-end.ensures.point

pub returns : goal.returns
returns c =
    between class_in c.args.class c.from.result c.from-2.result c.args.laid.now c.count_below-start.result c.count_below-end.result
    c.from.ensures c.from-2.ensures c.count_below-start.ensures.point c.count_below-end.ensures.point
