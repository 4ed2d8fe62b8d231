-- Returns of a reference and of cells, by what they take.
use Rattle.std.proofs.Common.{◌≡◌, ℕ, ◌+◌, ◌≤◌, List, [], length, take, reverse, Some, refl, ap, arith}
use Rattle.std.proofs.lemmas.List.{append-nil}
use Rattle.dialogue.specs.Answers.{Answers}
use Rattle.image_instr.specs.declared.insn.Kind.{Kind}
use Rattle.image_instr.specs.declared.insn.Kind.TheVariants as kind
use Rattle.image_instr.specs.declared.insn.MInsn.{MInsn}
use Rattle.image_instr.specs.declared.insn.MInsn.TheVariants as insns
use Rattle.mote_stack.specs.Frames.{Stack, youngest_frame, last_items}
use Rattle.mote_model.specs.declared.memory.State.{State as Memory}
use Rattle.mote_model.specs.declared.turn.Turn.TheVariants.{On}
use Rattle.mote_model.specs.State.{Reference, Frame, whole}
use Rattle.mote_model.specs.SplitMoves.{push_cells, push_ref}
use Rattle.mote_model.specs.SplitStep.{returns}
use Rattle.split_safety.specs.Ready.{Shown, IsReady}
use Rattle.mote_exec.specs.Steps.{with_stack}
use Rattle.mote_exec.proofs.GoingOn.{at, cells_counted, refs_counted}
use Rattle.mote_exec.proofs.Taking.{takes_cells}
use Rattle.mote_call.specs.CallTurns.{with_answers}
use Rattle.mote_call.specs.Leaving.{HasCaller, HasRoom, returned}
use Rattle.mote_call.specs.Quiet.{QuietStep}
use Rattle.mote_call.proofs.Answering.{move_with, step_of}
use Rattle.mote_call.proofs.Results.{HasFirst, cells_are, cells_given, cells_more, ref_given, ref_kept, refs_given, resumed_is, same_kept, takes_ref, top_of}
use Rattle.mote_call.proofs.Returning.{Returns, goes_back, has_caller, has_room}

-- ---- a reference

module _ (shown : Shown) (old : Memory) (ready : IsReady shown old (insns.Ret (Some kind.Ref))) where
  abbrev ret : MInsn
  ret = insns.Ret (Some kind.Ref)

  enough : 1 ≤ length ready.next.frame.refs.operands
  enough = (at shown old old ret (ready.next.frame.pc + ready.next.size) (step_of shown old ret ready)).operands.refs

  pub gives_ref : (answers : Answers) → move_with shown ret ready.next answers ≡ returns shown.image (with_answers shown.state answers) ready.next.others (push_ref (top_of ready.next.frame.refs.operands))
  gives_ref answers =
      takes_ref ready.next.frame ready.next.frame.refs.operands (λ (reference : Reference) (rest : Frame). returns shown.image (with_answers shown.state answers) ready.next.others (push_ref reference)) enough

  pub ref_there : let youngest = youngest_frame old.region in 1 ≤ length youngest.refs
  ref_there = omega (arith, enough, refs_counted shown old old ret (ready.next.frame.pc + ready.next.size) (step_of shown old ret ready))

  module _ (up : HasFirst ready.next.others) where
    resumed : Returns shown old ret ready up.caller up.rest up.waits (refs_given shown old ret ready up.caller up.rest up.waits enough) up.caller.cells
    resumed = resumed_is shown old ret ready (push_ref (top_of ready.next.frame.refs.operands)) gives_ref up.caller up.rest up.waits

    pub ref_caller : HasCaller shown.image old.region
    ref_caller = has_caller shown old ret ready up.caller up.rest up.waits (refs_given shown old ret ready up.caller up.rest up.waits enough) up.caller.cells resumed

    pub ref_room : HasRoom old.region 1
    ref_room =
        has_room shown old ret ready up.caller up.rest up.waits (refs_given shown old ret ready up.caller up.rest up.waits enough) up.caller.cells resumed 1 refl refl (omega arith)

    pub ref_back : (stack : Stack) → stack ≡ returned shown.image old.region (let youngest = youngest_frame old.region in last_items 1 youngest.refs) [] → QuietStep shown old (with_stack old stack) On
    ref_back stack e =
        goes_back shown old ret ready up.caller up.rest up.waits (refs_given shown old ret ready up.caller up.rest up.waits enough) up.caller.cells resumed (with_stack old stack)
        (let youngest = youngest_frame old.region in last_items 1 youngest.refs) [] (ap (with_stack old) e)
        (ref_given shown old ret ready up.caller up.rest up.waits enough) (append-nil (whole up.caller.cells)) (ref_kept shown old ret ready up.caller up.rest up.waits enough)

-- ---- so many cells

module _ (shown : Shown) (old : Memory) (k : Kind) (count : ℕ) (ready : IsReady shown old (insns.Ret (Some k))) (enough : count ≤ length ready.next.frame.cells.operands) where
  abbrev ret_cells : MInsn
  ret_cells = insns.Ret (Some k)

  abbrev items : List ℕ
  items = reverse (take count ready.next.frame.cells.operands)

  pub cells_there : let youngest = youngest_frame old.region in count ≤ length youngest.cells
  cells_there = omega (arith, enough, cells_counted shown old old ret_cells (ready.next.frame.pc + ready.next.size) (step_of shown old ret_cells ready))

  abbrev pub GivesCells : Type 0
  GivesCells = (answers : Answers) → move_with shown ret_cells ready.next answers ≡ returns shown.image (with_answers shown.state answers) ready.next.others (push_cells items)

  module _ (gives : GivesCells) (up : HasFirst ready.next.others) where
    resumed_cells : Returns shown old ret_cells ready up.caller up.rest up.waits up.caller.refs (cells_given shown old ret_cells ready up.caller up.rest up.waits count enough)
    resumed_cells = resumed_is shown old ret_cells ready (push_cells items) gives up.caller up.rest up.waits

    pub cells_caller : HasCaller shown.image old.region
    cells_caller = has_caller shown old ret_cells ready up.caller up.rest up.waits up.caller.refs (cells_given shown old ret_cells ready up.caller up.rest up.waits count enough) resumed_cells

    pub cells_room : HasRoom old.region count
    cells_room =
        has_room shown old ret_cells ready up.caller up.rest up.waits up.caller.refs (cells_given shown old ret_cells ready up.caller up.rest up.waits count enough) resumed_cells count refl refl
        (cells_more shown old ret_cells ready up.caller up.rest up.waits count enough)

    pub cells_back : (stack : Stack) → stack ≡ returned shown.image old.region [] (let youngest = youngest_frame old.region in last_items count youngest.cells) → QuietStep shown old (with_stack old stack) On
    cells_back stack e =
        goes_back shown old ret_cells ready up.caller up.rest up.waits up.caller.refs (cells_given shown old ret_cells ready up.caller up.rest up.waits count enough) resumed_cells (with_stack old stack)
        [] (let youngest = youngest_frame old.region in last_items count youngest.cells) (ap (with_stack old) e)
        (append-nil _) (cells_are shown old ret_cells ready up.caller up.rest up.waits count enough) (same_kept shown old ret_cells ready up.caller up.rest up.waits)

module _ (shown : Shown) (old : Memory) where
  pub one_there : (ready : IsReady shown old (insns.Ret (Some kind.One))) → 1 ≤ length ready.next.frame.cells.operands
  one_there ready = let ret = insns.Ret (Some kind.One) in (at shown old old ret (ready.next.frame.pc + ready.next.size) (step_of shown old ret ready)).operands.cells

  pub gives_one : (ready : IsReady shown old (insns.Ret (Some kind.One))) → GivesCells shown old kind.One 1 ready (one_there ready)
  gives_one ready answers = takes_cells 1 ready.next.frame (λ (cells : List ℕ) (rest : Frame). returns shown.image (with_answers shown.state answers) ready.next.others (push_cells cells)) (one_there ready)

  pub two_there : (ready : IsReady shown old (insns.Ret (Some kind.Two))) → 2 ≤ length ready.next.frame.cells.operands
  two_there ready = let ret = insns.Ret (Some kind.Two) in (at shown old old ret (ready.next.frame.pc + ready.next.size) (step_of shown old ret ready)).operands.cells

  pub gives_two : (ready : IsReady shown old (insns.Ret (Some kind.Two))) → GivesCells shown old kind.Two 2 ready (two_there ready)
  gives_two ready answers = takes_cells 2 ready.next.frame (λ (cells : List ℕ) (rest : Frame). returns shown.image (with_answers shown.state answers) ready.next.others (push_cells cells)) (two_there ready)
