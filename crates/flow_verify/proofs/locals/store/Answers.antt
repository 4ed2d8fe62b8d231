-- The top operand is taken.
use Rattle.std.proofs.Common.{◌<◌, length, Some, None, sym, ap, ◌∙◌, arith}
use Rattle.std.proofs.lemmas.Option.{slice_get_within}
use Rattle.type_table.specs.Frames.{frame_of}
use Rattle.type_table.proofs.Lengths.{frame_is_high, frame_is_wide}
use Rattle.flow_verify.proofs.families.Taking.{stored_top}
use Rattle.flow_verify.proofs.locals.store.Goals as goal

pub returns-in-Some-clause-change : goal.returns-in-Some-clause-change
returns-in-Some-clause-change c =
    let frame = frame_of c.args.store.now c.args.frame in
    let within : c.args.local < length frame.locals = omega (arith, frame_is_wide c.args.store.now c.args.frame c.local_count.ensures.deep c.requires, c.local_count.ensures.count) in
    ap (λ pushes. Some (record { pops = 1; renames = None; stores = Some (c.args.local, c.in-Some.value); pushes = pushes; pending = c.args.frame.pending })) c.of.ensures
    ∙ sym (stored_top frame c.args.kind c.args.local frame.stack c.in-Some.value (sym c.in-Some.ensures) (sym c.has_kind.ensures ∙ c.if-has_kind.true) within)

pub returns-in-Some-clause-pops : goal.returns-in-Some-clause-pops
returns-in-Some-clause-pops c =
    let stack = (frame_of c.args.store.now c.args.frame).stack in
    let there : 0 < length stack = slice_get_within stack 0 c.in-Some.value (sym c.in-Some.ensures) in
    omega (arith, there, frame_is_high c.args.store.now c.args.frame c.requires)
