-- No value fits a type that is absent.
use Rattle.std.proofs.Common.{sym}
use Rattle.type_table.specs.Frames.{frame_of}
use Rattle.flow_verify.proofs.families.Returning.{none_returned}
use Rattle.flow_verify.proofs.returns.return_of.Goals as goal

pub returns-in-None-clause-change : goal.returns-in-None-clause-change
returns-in-None-clause-change c =
    let k = c.in-Some-Some in
    sym (none_returned c.args.set.now c.args.body.now (frame_of c.args.store.now c.args.frame) k.result k.kind c.args.kind k.is-0 k.is-1 c.if-frame.false (sym c.in-None.ensures))
