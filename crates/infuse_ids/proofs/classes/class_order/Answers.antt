use Rattle.std.proofs.Common.{◌≡◌, ℕ, ◌+◌, [], List, length, sym, ap, subst, ◌∙◌, arith}
use Rattle.std.specs.List.{fold, range_with_len}
use Rattle.library.specs.Classes.{first_own}
use Rattle.class_tree.specs.DirectSupers.{class_count}
use Rattle.jvm_model.specs.ImageNumbering.{number_class}
use Rattle.infuse_ids.proofs.Numbered.{range_more}
use Rattle.infuse_ids.proofs.OwnClasses.{AreOwn, all_own}
use Rattle.infuse_ids.proofs.classes.class_order.Goals as goal

pub loop-position-preserved : goal.loop-position-preserved
loop-position-preserved c =
    let files = c.args.set.now in
    c.in-Ok.ensures.numbered
    ∙ ap (λ (n : ℕ). number_class files (first_own + n) c.loop-position.order.keys (first_own + c.loop-position.position)) c.file_count-levels.ensures.count
    ∙ ap (λ (order : List ℕ). number_class files (class_count files) order (first_own + c.loop-position.position)) c.loop-position.invariant
    ∙ range_more (number_class files (class_count files)) [] first_own c.loop-position.position

pub returns-clause-own : goal.returns-clause-own
returns-clause-own c =
    let files = c.args.set.now in
    let all : c.loop-position.position ≡ length files = omega (arith, c.loop-position-test.false, c.loop-position.auto.position-end, c.file_count-position-end.ensures.count) in
    subst AreOwn
    (
    sym (
    c.loop-position.invariant
    ∙ ap (λ (n : ℕ). fold (number_class files (class_count files)) [] (range_with_len first_own n)) all
    )
    )
    (all_own files)
