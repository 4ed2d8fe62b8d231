use Rattle.std.proofs.Common.{◌≡◌, ℕ, List, Bool, Vec, Global, length, sym, ◌∙◌, subst, arith}
use Rattle.std.proofs.lemmas.List.{length-map}
use Rattle.class_tree.specs.Closure.{AreOver, IsSquare}
use Rattle.class_tree.proofs.tables.Rows.{lists}
use Rattle.class_tree.proofs.ancestors.Leading.{rounds, rounds_square, closed}
use Rattle.class_tree.proofs.closure.close.Goals as goal

counted : (rows : List (Vec Bool Global)) → length (lists rows) ≡ length rows
counted rows = length-map rows (λ (v : Vec Bool Global). v.items)

pub round-requires-clause-square : goal.round-requires-clause-square
round-requires-clause-square c =
    let P : ℕ → Type 0 = λ n. IsSquare n (lists c.loop-number.rows.items) in
    subst P (sym c.loop-number.invariant.same_length) c.loop-number.invariant.square

pub loop-number-preserved : goal.loop-number-preserved
loop-number-preserved c =
    let count = length c.args.rows.now.items in
    let old = lists c.loop-number.rows.items in
    let new = lists c.round.new.rows.items in
    let r = c.in_ok-round.ensures in
    record {
      same_length = sym (counted c.round.new.rows.items) ∙ r.same_length ∙ counted c.loop-number.rows.items ∙ c.loop-number.invariant.same_length;
      square = rounds_square count c.loop-number.number old new c.loop-number.invariant.square r;
      over = λ edge begins. rounds edge count c.loop-number.number old new (omega (arith, c.loop-number-test.true, c.len-number-end.ensures)) (c.loop-number.invariant.over edge begins) r;
    }

pub returns : goal.returns
returns c = λ edge stays begins.
    let count = length c.args.rows.now.items in
    let rows = lists c.loop-number.rows.items in
    let P : ℕ → Type 0 = λ n. AreOver edge count n rows in
    let e : c.loop-number.number ≡ count = omega (arith, c.loop-number-test.false, c.loop-number.auto.number-end, c.len-number-end.ensures) in
    closed edge count rows stays (subst P e (c.loop-number.invariant.over edge begins))
