use Rattle.body_form.specs.declared.body.Body.{Body}
use Rattle.infuse_ids.proofs.SortedParts.{between, is_ordered}
use Rattle.infuse_ids.proofs.bodies.bodies_of.Goals as goal

pub slice_bounds-result-count : goal.slice_bounds-result-count
slice_bounds-result-count c =
    is_ordered (λ (body : Body). body.class) c.args.class c.from.result c.from-2.result c.args.bodies.now c.count_below-start.result c.count_below-end.result
    c.from.ensures c.from-2.ensures c.count_below-start.ensures.within c.count_below-start.ensures.point c.count_below-end.ensures.point

pub slice_bounds-result-start : goal.slice_bounds-result-start
slice_bounds-result-start c =
    is_ordered (λ (body : Body). body.class) c.args.class c.from.result c.from-2.result c.args.bodies.now c.count_below-start.result c.count_below-end.result
    c.from.ensures c.from-2.ensures c.count_below-start.ensures.within c.count_below-start.ensures.point c.count_below-end.ensures.point

pub returns : goal.returns
returns c =
    between (λ (body : Body). body.class) c.args.class c.from.result c.from-2.result c.args.bodies.now c.count_below-start.result c.count_below-end.result
    c.from.ensures c.from-2.ensures c.count_below-start.ensures.point c.count_below-end.ensures.point
