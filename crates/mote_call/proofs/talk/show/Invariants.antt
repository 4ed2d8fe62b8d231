use Rattle.std.proofs.Common.{◌≡◌, take}
use Rattle.dialogue.specs.Dialogue.{putting}
use Rattle.host_face.specs.Talk.{Talked}
use Rattle.mote_call.proofs.talk.show.Given as goal

-- the bytes so far are shown, and the input is as it was
abbrev pub invariant-loop-byte : goal.invariant-loop-byte
invariant-loop-byte g l =
    let console = g.C.Console in
    record {
      talked : Talked console.shown console.noted console.faults console.room l.fn.console l.console (putting (take l.byte-index l.bytes));
      left : console.left l.console ≡ console.left l.fn.console;
    }
