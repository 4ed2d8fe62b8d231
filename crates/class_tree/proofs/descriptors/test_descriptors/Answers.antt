use Rattle.std.proofs.Common.{sym, ◌∙◌, inr}
use Rattle.class_tree.specs.Descriptors.{file_refusal}
use Rattle.class_tree.proofs.tables.Scans.{scan_more, scan_here, scan_end}
use Rattle.class_tree.proofs.descriptors.test_descriptors.Goals as goal

pub returns-in-Ok-Some-clause-refused : goal.returns-in-Ok-Some-clause-refused
returns-in-Ok-Some-clause-refused c =
    inr (sym c.loop-position.invariant
    ∙ scan_here (file_refusal c.args.names.now) c.args.files.now c.loop-position.position c.index-files-position.result c.in-Ok-Some.why c.loop-position-test.true c.index-files-position.is (sym c.in-Ok-Some.ensures.found ∙ c.in-Ok-Some.field-0-is))

pub loop-position-preserved : goal.loop-position-preserved
loop-position-preserved c =
    scan_more (file_refusal c.args.names.now) c.args.files.now c.loop-position.position c.index-files-position.result c.loop-position-test.true c.index-files-position.is (sym c.in-Ok-None.ensures.found ∙ c.in-Ok-None.field-0-is)
    ∙ c.loop-position.invariant

pub returns-clause-passed : goal.returns-clause-passed
returns-clause-passed c =
    sym c.loop-position.invariant ∙ scan_end (file_refusal c.args.names.now) c.args.files.now c.loop-position.position c.loop-position-test.false
