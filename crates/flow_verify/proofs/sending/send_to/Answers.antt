-- A frame is added where an instruction is at the pc.
use Rattle.std.proofs.Common.{refl}
use Rattle.flow_verify.proofs.waves.Positions.{start_here}
use Rattle.flow_verify.proofs.waves.Adding.{adds_one, adds_nowhere}
use Rattle.type_table.specs.Frames.{frame_of}
use Rattle.flow_verify.proofs.sending.send_to.Goals as goal

pub returns-in_ok-push : goal.returns-in_ok-push
returns-in_ok-push c = λ stored there.
    let ops = c.args.body.now.ops in
    let position = c.in-Some.position in
    let at = c.in-Some.ensures.found in
    adds_one ops stored position c.args.pc c.args.frame c.args.arriving.now.items c.push.new.self.items at.0 at.1 (start_here ops position c.args.pc at.0 at.1) there c.in_ok-push.ensures.items

pub returns-in_default : goal.returns-in_default
returns-in_default c = λ stored there. adds_nowhere c.args.body.now.ops stored c.args.pc (frame_of stored c.args.frame) c.args.arriving.now.items (c.in_default.ensures.none refl)
