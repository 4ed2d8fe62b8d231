use Rattle.std.proofs.Common.{◌<◌, ◌≤◌, List, length, get_or, ap, ◌∙◌, arith}
use Rattle.class_file.specs.declared.record.Member.{Member}
use Rattle.infuse_ids.proofs.Placing.{placed_begin, placed_more, placed_end}
use Rattle.infuse_ids.proofs.places.add_fields.Goals as goal

pub loop-position-init : goal.loop-position-init
loop-position-init c files before after is among object are = placed_begin files c.args.class c.args.file.now before after is among c.args.counts.now c.args.places.now object are

pub loop-position-preserved : goal.loop-position-preserved
loop-position-preserved c files before after is among object are =
    let file = c.args.file.now in
    let i = c.loop-position.position in
    let member = c.index-fields-position.result in
    let same = c.as_slice-fields.ensures in
    let many = ap (λ (members : List Member). length members) same in
    let lt : i < length file.fields = omega (arith, many, c.loop-position-test.true) in
    placed_more files c.args.class file before after is among i member c.loop-position.counts c.add_field_at.new.counts c.loop-position.places c.add_field_at.new.places lt
    (c.index-fields-position.is ∙ ap (λ (members : List Member). get_or members i member) same)
    c.in-Ok.ensures.added (c.loop-position.invariant files before after is among object are)

pub returns-clause-placed : goal.returns-clause-placed
returns-clause-placed c files before after is among object are =
    let file = c.args.file.now in
    let i = c.loop-position.position in
    let many = ap (λ (members : List Member). length members) c.as_slice-fields.ensures in
    let le : length file.fields ≤ i = omega (arith, many, c.loop-position-test.false) in
    placed_end files c.args.class file before after is among i c.loop-position.counts.statics c.loop-position.places le (c.loop-position.invariant files before after is among object are).0
