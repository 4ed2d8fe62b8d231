-- The operand below the arguments is the object.
use Rattle.std.proofs.Common.{◌≤◌, length, refl, sym, ◌∙◌, arith}
use Rattle.std.proofs.lemmas.Option.{slice_get_past}
use Rattle.type_table.specs.Frames.{frame_of}
use Rattle.type_table.proofs.Lengths.{frame_is_high}
use Rattle.flow_verify.proofs.families.Constructing.{object_at, no_object}
use Rattle.flow_verify.proofs.constructors.construct_on.Goals as goal

pub returns-then-frame-count-clause-change : goal.returns-then-frame-count-clause-change
returns-then-frame-count-clause-change c =
    let frame = frame_of c.args.store.now c.args.frame in
    let long : length frame.stack ≤ c.args.count = omega (arith, frame_is_high c.args.store.now c.args.frame c.requires.there) in
    sym (no_object c.args.set.now c.args.body.now frame c.args.used.now frame.stack c.args.count (slice_get_past frame.stack c.args.count long))

pub returns-in-Some-clause-change : goal.returns-in-Some-clause-change
returns-in-Some-clause-change c =
    let frame = frame_of c.args.store.now c.args.frame in
    c.construct_object.ensures.change frame refl
    ∙ sym (object_at c.args.set.now c.args.body.now frame c.args.used.now frame.stack c.args.count c.in-Some.object (sym c.in-Some.ensures))

pub returns-in-None-clause-change : goal.returns-in-None-clause-change
returns-in-None-clause-change c =
    let frame = frame_of c.args.store.now c.args.frame in
    sym (no_object c.args.set.now c.args.body.now frame c.args.used.now frame.stack c.args.count (sym c.in-None.ensures))
