-- The next instruction of a mote that is ready keeps its rules, and has its operands.
use Rattle.std.proofs.Common.{◌≡◌, List, ◌∷◌, Some, sym, ap, subst, ◌∙◌}
use Rattle.std.proofs.lemmas.Option.{some_pair_parts}
use Rattle.image_instr.specs.declared.insn.MInsn.{MInsn}
use Rattle.image_form.specs.declared.record.Image.{Image}
use Rattle.image_form.specs.declared.record.Method.{Method}
use Rattle.mote_model.specs.State.{Frame}
use Rattle.mote_model.specs.SplitState.{State, method_at}
use Rattle.mote_model.specs.declared.memory.State.{State as Memory}
use Rattle.split_safety.specs.Reached.{IsReached}
use Rattle.split_safety.specs.Ready.{Shown, IsNext, IsReady}
use Rattle.split_safety.specs.Safety.{IsSound}
use Rattle.split_safety.proofs.moves.AllMoves.{at, stands}
use Rattle.split_safety.proofs.moves.Going.{IsAt}

first_same : (a b : Frame) (xs ys : List Frame) → (a ∷ xs) ≡ (b ∷ ys) → (a ≡ b) × (xs ≡ ys)
first_same a b xs ys e = (cc, cc)

method_same : (a b : Method) → Some a ≡ Some b → a ≡ b
method_same a b e = cc

-- in a reached state the next instruction is at the pc of the youngest frame
pub next_at : (image : Image) → IsSound image → (state : State) → IsReached image state → (insn : MInsn) (next : IsNext image state insn) → IsAt image state next.frame next.others next.method insn next.size
next_at image sound state reached insn next =
    let here = at image sound state reached in
    let there = stands image sound state reached in
    let frames = first_same reached.frame next.frame reached.others next.others (sym reached.frames_are ∙ next.frames_are) in
    let method = method_same reached.running.method next.method (sym reached.running.found ∙ ap (λ (frame : Frame). method_at image frame.method) frames.0 ∙ next.found) in
    let moved = subst (λ (method : Method). IsAt image state next.frame next.others method there.insn there.size) method
    (subst (λ (others : List Frame). IsAt image state next.frame others reached.running.method there.insn there.size) frames.1
    (subst (λ (frame : Frame). IsAt image state frame reached.others reached.running.method there.insn there.size) frames.0 here)) in
    let same = some_pair_parts there.insn insn there.size next.size (sym moved.there ∙ next.there) in
    subst (λ size. IsAt image state next.frame next.others next.method insn size) same.1
    (subst (λ (insn : MInsn). IsAt image state next.frame next.others next.method insn there.size) same.0 moved)

pub ready_at : (shown : Shown) (memory : Memory) (insn : MInsn) (ready : IsReady shown memory insn) → IsAt shown.image shown.state ready.next.frame ready.next.others ready.next.method insn ready.next.size
ready_at shown memory insn ready = next_at shown.image ready.sound shown.state ready.reached insn ready.next
