-- Below the lowest operand that is the object none is.
use Rattle.std.proofs.Common.{◌≡◌, ◌+◌, ◌-◌, sym, ap, ◌∙◌, subst, arith}
use Rattle.std.specs.List.{list_any}
use Rattle.jvm_model.specs.TypesRules.{is_same_object}
use Rattle.type_table.proofs.Chaining.{IsWalked, walk_on, marked_lacks, lacks_below, no_operands}
use Rattle.type_table.proofs.operands.count_to_object.Goals as goal

pub returns-then-not-cell-clause-rest : goal.returns-then-not-cell-clause-rest
returns-then-not-cell-clause-rest c =
    c.loop-cell.invariant.lacks (marked_lacks c.args.cells.now c.loop-cell.rest c.in-Some.below c.in-Some.cell c.args.object c.in-Some.ensures c.if-not-cell.true)

pub loop-cell-preserved-then-is_same_object : goal.loop-cell-preserved-then-is_same_object
loop-cell-preserved-then-is_same_object c =
    let cells = c.args.cells.now in
    let top = c.in-Some.ensures in
    let on = walk_on cells c.args.chain (c.args.chain.height - c.loop-cell.rest.height) c.loop-cell.rest c.in-Some.below c.in-Some.cell c.loop-cell.invariant.walked top in
    let count : c.args.chain.height - c.loop-cell.rest.height + 1 ≡ c.args.chain.height - c.in-Some.below.height = omega (arith, top.height, c.loop-cell.invariant.within) in
    let walked = subst (λ n. IsWalked cells c.args.chain n c.in-Some.below) count on in
    record {
      within = omega (arith, top.height, c.loop-cell.invariant.within);
      walked = walked;
      count = omega arith;
      lacks = λ lacks. ap (list_any (is_same_object c.args.object)) (sym walked.operands) ∙ lacks;
    }

pub loop-cell-preserved : goal.loop-cell-preserved
loop-cell-preserved c =
    let cells = c.args.cells.now in
    let top = c.in-Some.ensures in
    let on = walk_on cells c.args.chain (c.args.chain.height - c.loop-cell.rest.height) c.loop-cell.rest c.in-Some.below c.in-Some.cell c.loop-cell.invariant.walked top in
    let count : c.args.chain.height - c.loop-cell.rest.height + 1 ≡ c.args.chain.height - c.in-Some.below.height = omega (arith, top.height, c.loop-cell.invariant.within) in
    record {
      within = omega (arith, top.height, c.loop-cell.invariant.within);
      walked = subst (λ n. IsWalked cells c.args.chain n c.in-Some.below) count on;
      count = omega (arith, top.height, c.loop-cell.invariant.within, c.loop-cell.invariant.count);
      lacks = λ lacks. c.loop-cell.invariant.lacks (lacks_below cells c.loop-cell.rest c.in-Some.below c.in-Some.cell c.args.object top (sym c.if-is_same_object.ensures) ∙ lacks);
    }

pub returns-clause-rest : goal.returns-clause-rest
returns-clause-rest c =
    c.loop-cell.invariant.lacks (ap (list_any (is_same_object c.args.object)) (no_operands c.args.cells.now c.loop-cell.rest.height c.loop-cell.rest.top c.in_default.ensures))
