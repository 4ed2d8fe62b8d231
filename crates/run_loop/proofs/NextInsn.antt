-- The instruction that is next where the memory stands for a reached state.
use Rattle.std.proofs.Common.{◌≡◌, ℕ, ◌-◌, true, List, drop, slice_get, Some, sym, ◌∙◌, subst}
use Rattle.std.proofs.lemmas.Option.{some_pair_parts}
use Rattle.image_instr.specs.declared.insn.MInsn.{MInsn}
use Rattle.image_instr.specs.Reading.{insn_at}
use Rattle.image_form.specs.declared.record.Image.{Image}
use Rattle.image_form.specs.declared.record.Method.{Method}
use Rattle.mote_stack.specs.Frames.{youngest_frame}
use Rattle.mote_model.specs.declared.memory.State.{State as Memory}
use Rattle.split_safety.specs.Ready.{Shown, IsNext, IsReady}
use Rattle.split_safety.specs.Reached.{depth_of}
use Rattle.split_safety.specs.Runs.{runs_so_far}
use Rattle.split_safety.proofs.facts.Standing.{Stands as StandsAt}
use Rattle.split_safety.proofs.moves.AllMoves.{stands as stands_at}
use Rattle.mote_exec.proofs.Jumping as jumping
use Rattle.mote_exec.proofs.Standing as standing
use Rattle.run_loop.specs.Ran.{Stands}

module _ (shown : Shown) (memory : Memory) (stands : Stands shown memory) where
  abbrev pub here : StandsAt shown.image stands.reached.running.method stands.reached.frame.pc (depth_of stands.reached.frame)
  here = stands_at shown.image stands.sound shown.state stands.reached

  abbrev pub ready : IsReady shown memory here.insn
  ready = record {
    sound = stands.sound;
    reached = stands.reached;
    pictures = stands.pictures;
    next = record {
      frame = stands.reached.frame;
      others = stands.reached.others;
      frames_are = stands.reached.frames_are;
      method = stands.reached.running.method;
      found = stands.reached.running.found;
      size = here.size;
      there = here.found;
    };
  }

  -- where the code and the pc are those of the youngest frame
  module _ (image : Image) (id pc : ℕ) (code : List ℕ) (same : shown.image ≡ image) (id_is : id ≡ (let youngest = youngest_frame memory.region in youngest.method))
      (code_is : (entry : Method) → slice_get image.methods (id - 32) ≡ Some entry → code ≡ entry.code) (place : pc ≡ (let youngest = youngest_frame memory.region in youngest.pc)) where
    pub found : insn_at (drop pc code) ≡ Some (here.insn, here.size)
    found =
        let its = code_is ready.next.method (standing.method_there shown memory here.insn ready image id same id_is) in
        let at = place ∙ jumping.pc_is shown memory memory here.insn (standing.behind shown memory here.insn ready) (standing.step_of shown memory here.insn ready) in
        standing.there shown memory here.insn ready code its pc at

    -- what is read there is next
    module _ (read : MInsn × ℕ) (exact : insn_at (drop pc code) ≡ Some read) where
      same_insn : here.insn ≡ read.0
      same_insn = (some_pair_parts here.insn read.0 here.size read.1 (sym found ∙ exact)).0

      pub is_next : IsNext shown.image shown.state read.0
      is_next = subst (IsNext shown.image shown.state) same_insn ready.next

      pub runs : runs_so_far read.0 ≡ true
      runs = subst (λ insn. runs_so_far insn ≡ true) same_insn here.run
