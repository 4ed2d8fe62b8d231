use Rattle.std.proofs.Common.{◌≡◌, ◌++◌, ◌∷◌, [], rules}
use Rattle.std.proofs.lemmas.Result.{err_from_is_err_and}
use Rattle.byte_read.specs.Reading.{steps_at, one_more}
use Rattle.class_file.specs.ReadingMembers.{field_at}
use Rattle.byte_read.proofs.Loop.{item_goes_on, is_done}
use Rattle.class_file.proofs.readers.Loop.{item_ends}
use Rattle.class_file.proofs.text_table.SameTexts.{none_seen}
use Rattle.class_file.proofs.member.field_list.Goals as goal

pub loop-init : goal.loop-init
loop-init c = (search rules, rw c.new-fields.ensures.items (none_seen c.args.pool.now c.args.texts.now c.new-seen.result c.new-seen.ensures.empty))

pub field_at-requires-clause-seen : goal.field_at-requires-clause-seen
field_at-requires-clause-seen c = rw c.as_slice.ensures.value c.loop.invariant.1

pub returns-in_err-field : goal.returns-in_err-field
returns-in_err-field c =
    let item = field_at c.args.class_flags c.args.pool.now in
    let p = err_from_is_err_and c.from_residual.result c.from_residual.ensures.1 in
    rw (p.1, p.2) (item_ends c.in_err-field.field-0.0 item c.loop.fields.items c.args.count c.loop.counter c.loop.rest.now (steps_at (one_more item) [] c.args.count c.args.bytes.now) c.loop-test.true (rw c.as_slice.ensures.value at c.in_err-field.ensures) c.loop.invariant.0)

pub loop-preserved : goal.loop-preserved
loop-preserved c =
    let item = field_at c.args.class_flags c.args.pool.now in
    let pushed : c.push.new.self.items ≡ c.loop.fields.items ++ c.in_ok-field.field ∷ [] = c.in_ok-push.ensures.items in
    rw pushed (
      item_goes_on item c.loop.fields.items c.args.count c.loop.counter c.loop.rest.now c.in_ok-field.field c.in_ok-field.after.now (steps_at (one_more item) [] c.args.count c.args.bytes.now) c.loop-test.true (rw c.as_slice.ensures.value at c.in_ok-field.ensures) c.loop.invariant.0,
      c.in_ok-note.ensures.seen c.args.pool.now c.loop.fields.items c.requires c.loop.invariant.1,
    )

pub returns : goal.returns
returns c =
    let item = field_at c.args.class_flags c.args.pool.now in
    is_done (one_more item) c.loop.fields.items c.args.count c.loop.counter c.loop.rest.now (steps_at (one_more item) [] c.args.count c.args.bytes.now) c.loop-test.false c.loop.invariant.0
