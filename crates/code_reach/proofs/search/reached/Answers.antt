use Rattle.std.proofs.Common.{◌≡◌, ℕ, ◌∷◌, List, [], length, replicate, false, refl, sym, ap, ◌∙◌, subst, arith, length-append}
use Rattle.code_reach.specs.declared.visits.Visits.{Visits}
use Rattle.code_reach.specs.Reached.{code_ways}
use Rattle.code_reach.specs.Visits.{Reaches, pcs_of, index_of}
use Rattle.code_reach.proofs.Members.{empty, in_new}
use Rattle.code_reach.proofs.Rows.{tree_grows}
use Rattle.code_reach.proofs.Ways.{same_pcs, same_length, ways_rise}
use Rattle.code_reach.proofs.Reaching.{reaching_first, reaching_more, reaching_last}
use Rattle.code_reach.proofs.search.reached.Goals as goal

pub loop-index-init : goal.loop-index-init
loop-index-init g c =
    let code = c.args.code.now in
    let rows = c.args.rows.now in
    let way = g.F.Flow.way in
    let ways = code_ways way rows code in
    let s = c.in_ok-visits.visits in
    let t = c.reach.new.self in
    let marks : s.marks.items ≡ replicate (length ways) false = c.in_ok-visits.ensures.0 ∙ ap (λ n. replicate n false) (sym (same_length way rows code)) in
    let zero : c.index_of.result ≡ index_of (pcs_of ways) 0 = c.index_of.ensures ∙ ap (λ (pcs : List ℕ). index_of pcs 0) (sym (same_pcs way rows code)) in
    record {
      tree = c.in_ok-tree.ensures t;
      reaching = reaching_first ways s t marks c.in_ok-visits.ensures.1 (subst (λ n. Reaches (λ i. i ≡ n) s t) zero c.in_ok-reach.ensures);
    }

pub visit-requires-clause-within : goal.visit-requires-clause-within
visit-requires-clause-within g c =
    let popped : Visits = record { marks = c.loop-index.visits.marks; todo = c.pop.new.self } in
    let ways = code_ways g.F.Flow.way c.args.rows.now c.args.code.now in
    let within = c.loop-index.invariant.reaching.waits c.in-Some.index (in_new popped.todo.items c.loop-index.visits.todo.items c.in-Some.index c.in-Some.index c.in-Some.ensures.items refl) in
    omega (arith, within.0, same_length g.F.Flow.way c.args.rows.now c.args.code.now)

pub loop-index-smaller : goal.loop-index-smaller
loop-index-smaller g c =
    let s = c.loop-index.visits in
    let popped : Visits = record { marks = s.marks; todo = c.pop.new.self } in
    let tree = tree_grows (pcs_of c.args.code.now) c.args.rows.now c.loop-index.tree s popped (λ i e. e) c.loop-index.invariant.tree in
    let visited = c.in_ok-visit.ensures c.args.rows.now tree in
    let size = ap length c.in-Some.ensures.items ∙ length-append popped.todo.items (c.in-Some.index ∷ []) in
    let fewer = visited.0.grows.fewer in
    omega (arith, size, fewer)

pub loop-index-preserved : goal.loop-index-preserved
loop-index-preserved g c =
    let code = c.args.code.now in
    let rows = c.args.rows.now in
    let way = g.F.Flow.way in
    let s = c.loop-index.visits in
    let popped : Visits = record { marks = s.marks; todo = c.pop.new.self } in
    let tree = tree_grows (pcs_of code) rows c.loop-index.tree s popped (λ i e. e) c.loop-index.invariant.tree in
    let visited = c.in_ok-visit.ensures rows tree in
    record {
      tree = visited.1;
      reaching = reaching_more (code_ways way rows code) (ways_rise way rows 0 code c.requires) c.in-Some.index s popped c.visit.new.visits c.in-Some.ensures.items refl visited.0 c.loop-index.invariant.reaching;
    }

pub returns : goal.returns
returns g c =
    let code = c.args.code.now in
    let rows = c.args.rows.now in
    let way = g.F.Flow.way in
    let none : length c.loop-index.visits.todo.items ≡ 0 = omega (arith, c.in_default.ensures.cases.0, c.loop-index.visits.todo.ok.0) in
    reaching_last (code_ways way rows code) (ways_rise way rows 0 code c.requires) c.loop-index.visits (empty c.loop-index.visits.todo.items none) c.loop-index.invariant.reaching
