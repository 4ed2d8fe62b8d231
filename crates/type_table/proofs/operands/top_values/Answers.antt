-- Each turn takes one more operand.
use Rattle.std.proofs.Common.{◌+◌, ◌++◌, ◌∷◌, [], List, sym, ap, ◌∙◌, subst, arith, Vec, Global}
use Rattle.body_form.specs.declared.types.VType.{VType}
use Rattle.type_table.specs.declared.operands.Chain.{Chain}
use Rattle.type_table.proofs.Chaining.{IsWalked, walk_on, taken_on}
use Rattle.type_table.proofs.operands.top_values.Goals as goal
use Rattle.type_table.proofs.operands.top_values.Goals.{in-Some+in_ok-push, in_default}

pub loop-preserved : goal.loop-preserved
loop-preserved c =
    let cells = c.args.cells.now in
    elim c.match-split_top.branch [
      | in-Some+in_ok-push w ↦
          record {
            walked = subst (λ (rest : Chain). IsWalked cells c.args.chain (c.loop.counter + 1) rest) (sym w.rest-is) (walk_on cells c.args.chain c.loop.counter c.loop.rest _ _ c.loop.invariant.walked w.in-Some.ensures);
            taken =
                ap (λ (v : Vec VType Global). v.items) w.values-is ∙ w.in_ok-push.ensures.items
                ∙ ap (λ (list : List VType). list ++ w.in-Some.cell.value ∷ []) c.loop.invariant.taken
                ∙ sym (taken_on cells c.args.chain c.loop.counter c.loop.rest _ _ c.loop.invariant.walked w.in-Some.ensures);
          }
      | in_default w ↦ absurd (omega (arith, w.in_default.ensures, c.loop.invariant.walked.height))
    ]
