use Rattle.std.proofs.Common.{arith, ◌+◌, sym, ◌∙◌}
use Rattle.class_tree.specs.AccessTests.{is_subclass}
use Rattle.class_tree.specs.DirectSupers.{class_count}
use Rattle.jvm_model.specs.Overrides.{hides_methods_of}
use Rattle.body_make.proofs.FilesAbove.{one_of, none_of}
use Rattle.body_make.proofs.uppers.hides_interface.Goals as goal

pub returns-then-hides_from : goal.returns-then-hides_from
returns-then-hides_from c =
    let files = c.args.set.now in
    sym (one_of (hides_methods_of files c.args.class) (is_subclass files c.args.class) (class_count files) (32 + c.loop-position.position) (omega arith) (sym c.hides_from.ensures ∙ c.if-hides_from.true))

pub returns : goal.returns
returns c =
    let files = c.args.set.now in
    sym (none_of (hides_methods_of files c.args.class) (is_subclass files c.args.class) (class_count files) (λ k lt. c.loop-position.invariant k (omega arith)))
