use Rattle.std.proofs.Common.{◌≡◌, ℕ, ◌+◌, ◌<◌, length, map, None, Option, sym, ap, subst, ◌∙◌, arith}
use Rattle.std.specs.Option.{option_or}
use Rattle.jvm_model.specs.declared.numbers.Layout.{Layout}
use Rattle.jvm_model.specs.ImageLimits.{excess, object_cells, first_large}
use Rattle.jvm_model.specs.ImageNumbering.{layout_of}
use Rattle.infuse_ids.specs.Sizes.{RefusesFor}
use Rattle.infuse_ids.proofs.LargeObjects.{refuses_first, from_class, at_class, at_end}
use Rattle.infuse_ids.proofs.Numbered.{all_of}
use Rattle.infuse_ids.proofs.limits.test_objects.Goals as goal

pub returns-in-Err-test_object-clause-refused : goal.returns-in-Err-test_object-clause-refused
returns-in-Err-test_object-clause-refused c =
    let files = c.args.set.now in
    let keys = c.args.order.now.keys in
    let position = c.loop-position.position in
    let why = c.in-Err-test_object.why in
    let lt : position < length files = omega (arith, c.loop-position-test.true, c.file_count-position-end.ensures.count) in
    let size = c.in-Ok.ensures.size files (length keys) (c.requires ∙ ap (map (layout_of files)) (sym (all_of keys (length keys) (omega arith)))) in
    let here = subst (λ (layout : Layout). RefusesFor (excess 7 (object_cells layout) 32767) why) size c.in-Err-test_object.ensures.refused in
    subst (λ (found : Option (ℕ × ℕ)). RefusesFor found why) (sym (at_class files position lt) ∙ c.loop-position.invariant)
    (refuses_first (excess 7 (object_cells (layout_of files (32 + position))) 32767) (first_large (from_class files (position + 1))) why here)

pub loop-position-preserved : goal.loop-position-preserved
loop-position-preserved c =
    let files = c.args.set.now in
    let keys = c.args.order.now.keys in
    let position = c.loop-position.position in
    let lt : position < length files = omega (arith, c.loop-position-test.true, c.file_count-position-end.ensures.count) in
    let size = c.in-Ok.ensures.size files (length keys) (c.requires ∙ ap (map (layout_of files)) (sym (all_of keys (length keys) (omega arith)))) in
    let fits : excess 7 (object_cells (layout_of files (32 + position))) 32767 ≡ None = ap (λ (layout : Layout). excess 7 (object_cells layout) 32767) (sym size) ∙ c.in-Ok-test_object.ensures.passed in
    sym (ap (λ (found : Option (ℕ × ℕ)). option_or found (first_large (from_class files (position + 1)))) fits)
    ∙ sym (at_class files position lt) ∙ c.loop-position.invariant

pub returns-clause-passed : goal.returns-clause-passed
returns-clause-passed c =
    let files = c.args.set.now in
    let position = c.loop-position.position in
    sym c.loop-position.invariant ∙ at_end files position (omega (arith, c.loop-position-test.false, c.file_count-position-end.ensures.count))
