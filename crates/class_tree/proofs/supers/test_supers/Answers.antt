use Rattle.std.proofs.Common.{sym, ◌∙◌}
use Rattle.class_tree.specs.Supers.{super_fault}
use Rattle.class_tree.proofs.tables.Scans.{scan_more, scan_here, scan_end}
use Rattle.class_tree.proofs.supers.test_supers.Goals as goal

pub returns-in-Some-clause-refused : goal.returns-in-Some-clause-refused
returns-in-Some-clause-refused c =
    let test = super_fault c.args.names.now c.args.files.now in
    sym c.loop-position.invariant
    ∙ scan_here test c.args.files.now c.loop-position.position c.index-files-position.result c.in-Some.why c.loop-position-test.true c.index-files-position.is (sym c.in-Some.ensures)

pub loop-position-preserved : goal.loop-position-preserved
loop-position-preserved c =
    let test = super_fault c.args.names.now c.args.files.now in
    scan_more test c.args.files.now c.loop-position.position c.index-files-position.result c.loop-position-test.true c.index-files-position.is (sym c.in-None.ensures)
    ∙ c.loop-position.invariant

pub returns-clause-passed : goal.returns-clause-passed
returns-clause-passed c =
    sym c.loop-position.invariant ∙ scan_end (super_fault c.args.names.now c.args.files.now) c.args.files.now c.loop-position.position c.loop-position-test.false
