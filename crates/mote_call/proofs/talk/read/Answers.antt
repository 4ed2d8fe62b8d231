use Rattle.std.proofs.Common.{◌<◌, ◌∙◌, rules, subst, sym}
use mir.Syntax.{w32}
use mir.Val.{SFits}
use Rattle.std.proofs.lemmas.Int.{to_z-of_z}
use Rattle.std.proofs.lemmas.Result.{err_from_is_err_and}
use Rattle.host_face.specs.Console.{Takes}
use Rattle.mote_call.specs.Reads.{IsRead}
use Rattle.mote_call.proofs.Consoles.{BrokeOff-get, read-byte, read-end, untold-fails}
use Rattle.mote_call.proofs.talk.read.Goals as goal

pub returns-in_err-byte-clause-said : goal.returns-in_err-byte-clause-said
returns-in_err-byte-clause-said g c =
    let C = g.C.Console in
    let said = c.in_err-byte.ensures in
    let p = err_from_is_err_and c.from_residual.result c.from_residual.ensures.1 in
    rw p.1 (BrokeOff-get C.left C.shown C.noted C.faults C.room c.args.console.now c.get.new.self said.shown said.noted said.faults said.room said.failed (untold-fails (C.room c.args.console.now) said.succeeds))

pub returns-in-Some-clause-number : goal.returns-in-Some-clause-number
returns-in-Some-clause-number g c =
    let C = g.C.Console in
    let before = C.left c.args.console.now in
    let after = C.left c.get.new.self in
    let takes = subst (λ byte. Takes byte before after) c.in-Some.is c.in_ok-byte.ensures.left in
    let fits : c.in-Some.byte < 256 = search rules in
    let value_fits : SFits w32 c.from.result = search rules in
    subst (IsRead before after) (sym (to_z-of_z w32 c.from.result value_fits ∙ c.from.ensures)) (read-byte before after c.in-Some.byte fits takes)

pub returns-in-None-clause-number : goal.returns-in-None-clause-number
returns-in-None-clause-number g c =
    let C = g.C.Console in
    let before = C.left c.args.console.now in
    let after = C.left c.get.new.self in
    read-end before after (subst (λ byte. Takes byte before after) c.in-None.is c.in_ok-byte.ensures.left)
