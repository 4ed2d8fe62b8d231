use Rattle.std.proofs.Common.{◌≡◌, ◌+◌, List, Bool, Vec, Global, length, sym, ◌∙◌, ap, subst, arith, [], ◌∷◌}
use Rattle.std.proofs.lemmas.List.{length-append}
use Rattle.class_tree.specs.Set.{is_directly_below}
use Rattle.class_tree.proofs.tables.Tables.{AreRows, rows_more, table_begins}
use Rattle.class_tree.proofs.above.table_of.Goals as goal

pub loop-class-preserved : goal.loop-class-preserved
loop-class-preserved c =
    let edge = is_directly_below c.args.names.now c.args.files.now in
    let count = 32 + length c.args.names.now in
    let rows = c.loop-class.rows.items in
    let row = c.in_ok-row.row in
    let P : List (Vec Bool Global) → Type 0 = λ items. AreRows edge count (c.loop-class.class + 1) items in
    record {
      many = ap length c.in_ok-push.ensures.items ∙ length-append rows (row ∷ []) ∙ ap (λ n. n + 1) c.loop-class.invariant.many;
      done = subst P (sym c.in_ok-push.ensures.items) (rows_more edge count rows c.loop-class.class row c.loop-class.invariant.many c.loop-class.invariant.done c.in_ok-row.ensures);
    }

pub returns : goal.returns
returns c =
    let edge = is_directly_below c.args.names.now c.args.files.now in
    let count = 32 + length c.args.names.now in
    let e : c.loop-class.class ≡ count = omega (arith, c.loop-class-test.false, c.loop-class.auto.class-end, c.from.ensures, c.requires.files) in
    table_begins edge count c.loop-class.rows.items (c.loop-class.invariant.many ∙ e) (λ from lt. c.loop-class.invariant.done from (omega (arith, e, lt)))
