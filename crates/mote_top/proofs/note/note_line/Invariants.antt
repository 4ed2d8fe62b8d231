use Rattle.std.proofs.Common.{◌≡◌, ◌++◌, take}
use Rattle.dialogue.specs.Dialogue.{noting}
use Rattle.host_face.specs.Talk.{Talked}
use Rattle.mote_top.proofs.replies.Notes.{numbers_of}
use Rattle.mote_top.proofs.note.note_line.Given as goal

-- the word and the numbers so far are noted, and the input is as it was
abbrev pub invariant-loop-number : goal.invariant-loop-number
invariant-loop-number g l =
    let console = g.C.Console in
    record {
      talked : Talked console.shown console.noted console.faults console.room l.fn.console l.console (noting (l.word ++ numbers_of (take l.number-index l.numbers)));
      left : console.left l.console ≡ console.left l.fn.console;
    }
