use Rattle.std.proofs.Common.{Some, ap, sym, ◌∙◌, option_map}
use Rattle.class_tree.specs.Scan.{saturated}
use Rattle.class_tree.specs.Descriptors.{fault_at, fault_refusal, member_refusal}
use Rattle.class_tree.proofs.tables.Scans.{scan_more, scan_here, scan_end}
use Rattle.class_tree.proofs.descriptors.first_member.Goals as goal

pub returns-in-Some : goal.returns-in-Some
returns-in-Some c =
    let test = member_refusal (fault_at c.args.faults.now) c.args.file c.args.value in
    let member = c.index-members-position.result in
    sym (sym c.loop-position.invariant
    ∙ scan_here test c.args.members.now c.loop-position.position member c.fault_refusal.result c.loop-position-test.true c.index-members-position.is
    (ap (option_map (fault_refusal c.args.file c.args.value (saturated c.loop-position.position))) (sym c.in-Some.ensures)
    ∙ ap (λ n. Some (fault_refusal c.args.file c.args.value n c.in-Some.fault)) (sym c.saturated.ensures) ∙ ap Some (sym c.fault_refusal.ensures)))

pub loop-position-preserved : goal.loop-position-preserved
loop-position-preserved c =
    let test = member_refusal (fault_at c.args.faults.now) c.args.file c.args.value in
    let member = c.index-members-position.result in
    scan_more test c.args.members.now c.loop-position.position member c.loop-position-test.true c.index-members-position.is
    (ap (option_map (fault_refusal c.args.file c.args.value (saturated c.loop-position.position))) (sym c.in-None.ensures))
    ∙ c.loop-position.invariant

pub returns : goal.returns
returns c =
    let test = member_refusal (fault_at c.args.faults.now) c.args.file c.args.value in
    sym (sym c.loop-position.invariant ∙ scan_end test c.args.members.now c.loop-position.position c.loop-position-test.false)
