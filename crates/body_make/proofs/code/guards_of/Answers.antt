use Rattle.std.proofs.Common.{◌≡◌, ◌-◌, ◌∙◌, inl, inr, sym, get_or, []}
use Rattle.class_file.specs.declared.record.HandlerRow.{HandlerRow}
use Rattle.jvm_model.specs.Linking.{row_refusal}
use Rattle.jvm_model.specs.Bodies.{IsGuard}
use Rattle.body_make.specs.Refusals.{refusal_of}
use Rattle.body_make.proofs.Adding.{within, completes_more, completes_end}
use Rattle.jvm_model.proofs.phases.Scans.{scan_more, scan_here, scan_end}
use Rattle.body_make.proofs.Placed.{row_none, row_some}
use Rattle.body_make.proofs.code.guards_of.Goals as goal

no_row : HandlerRow
no_row = record { start = 0; end = 0; target = 0; catch_type = 0 }

pub returns-in-Err-clause-refused : goal.returns-in-Err-clause-refused
unfolding no_row
returns-in-Err-clause-refused c =
    let i = c.loop-row.row-index in
    let rows = c.args.rows.now in
    let row : HandlerRow = get_or rows i no_row in
    let file = c.args.file.now in
    elim c.in-Err.ensures.refused [
      | inl memory ↦ inl memory
      | inr has ↦
          inr (sym c.loop-row.invariant.decides
          ∙ scan_here (row_refusal c.args.set.now (c.args.class - 32) file c.args.member) rows i row (refusal_of c.in-Err.why) c.loop-row-test.true (within rows i no_row c.loop-row-test.true)
          (row_some c.args.set.now c.args.class file c.args.member i row (refusal_of c.in-Err.why) c.requires.own has))
    ]

pub loop-row-preserved : goal.loop-row-preserved
unfolding no_row
loop-row-preserved c =
    let i = c.loop-row.row-index in
    let rows = c.args.rows.now in
    let row : HandlerRow = get_or rows i no_row in
    let file = c.args.file.now in
    let is : row ≡ get_or rows i row = within rows i no_row c.loop-row-test.true in
    record {
      decides = scan_more (row_refusal c.args.set.now (c.args.class - 32) file c.args.member) rows i row c.loop-row-test.true is
          (row_none c.args.set.now c.args.class file c.args.member i row c.in-Ok.guard c.requires.own c.in-Ok.ensures.guard) ∙ c.loop-row.invariant.decides;
      completes = completes_more (IsGuard c.args.set.now c.args.class file.pool) rows i row c.in-Ok.guard [] c.loop-row.guards.items c.push.new.self.items c.loop-row-test.true is c.in-Ok-push.ensures.items c.in-Ok.ensures.guard c.loop-row.invariant.completes;
    }

pub returns-clause-guards : goal.returns-clause-guards
returns-clause-guards c = completes_end (IsGuard c.args.set.now c.args.class c.args.file.now.pool) c.args.rows.now c.loop-row.row-index c.loop-row.guards.items c.loop-row-test.false c.loop-row.invariant.completes

pub returns-clause-passed : goal.returns-clause-passed
returns-clause-passed c =
    sym c.loop-row.invariant.decides ∙ scan_end (row_refusal c.args.set.now (c.args.class - 32) c.args.file.now c.args.member) c.args.rows.now c.loop-row.row-index c.loop-row-test.false
