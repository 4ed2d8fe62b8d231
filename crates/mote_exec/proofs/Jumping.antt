-- Steps that jump, or go on, without cells that they take off the top.
use Rattle.std.proofs.Common.{◌≡◌, ℕ, ◌≤◌, Bool, true, false, nat_lt, None, List, [], ◌∷◌, map, length, refl, sym, ap, ap₂, subst, ◌∙◌, if◌then◌else◌}
use Rattle.std.specs.List.{AllByRecursion}
use Rattle.std.proofs.lemmas.List.{append-nil}
use Rattle.image_instr.specs.declared.insn.MInsn.{MInsn}
use Rattle.account.specs.Account.{Need, no_need, tick_need}
use Rattle.mote_stack.specs.Frames.{Stack, youngest_frame, without_last}
use Rattle.mote_model.specs.declared.memory.State.{State as Memory}
use Rattle.mote_model.specs.declared.ending.Ending.TheVariants.{Spent}
use Rattle.mote_model.specs.declared.turn.Turn.{Turn}
use Rattle.mote_model.specs.declared.turn.Turn.TheVariants.{On, Ends}
use Rattle.mote_model.specs.State.{Frame, whole}
use Rattle.mote_model.specs.Picture.{cell_of, KeepsFrame}
use Rattle.mote_model.specs.SplitMoves.{at_pc, goes_on, jumps}
use Rattle.mote_model.specs.SplitState.{with_frames}
use Rattle.mote_model.specs.SplitStep.{move_of}
use Rattle.mote_model.specs.Turns.{TakesTick}
use Rattle.split_safety.specs.Ready.{Shown}
use Rattle.mote_exec.specs.Steps.{IsStep, StepsTo, GoesTo, Jumps, Jumped, WasSpent, is_tick, stepped, with_stack, with_taken}
use Rattle.mote_exec.proofs.GoingOn.{frame, others, rows, move_here, own_cells, own_refs, was, gives, pictured}
use Rattle.mote_exec.proofs.HalfLists.{rest}

-- what a jump needs
abbrev need_for : Bool → Need
need_for forward = if forward then no_need else tick_need

places_nothing : (forward : Bool) → (need_for forward).placed ≡ None
places_nothing true = refl
places_nothing false = refl

calls_nothing : (forward : Bool) → (need_for forward).frame ≡ None
calls_nothing true = refl
calls_nothing false = refl

tick_same : (forward : Bool) → (if forward then false else true) ≡ (need_for forward).tick
tick_same true = refl
tick_same false = refl

module _ (shown : Shown) (old new : Memory) (insn : MInsn) (pc : ℕ) (step : IsStep shown old insn pc) where
  abbrev here : Frame
  here = frame shown old new insn pc step

  abbrev below : List Frame
  below = others shown old new insn pc step

  pub pc_is : (let youngest = youngest_frame old.region in youngest.pc) ≡ here.pc
  pc_is = ap (λ (stack : Stack). let youngest = youngest_frame stack in youngest.pc) (was shown old new insn pc step)

  -- what is left of the cells
  left_cells : (taken : ℕ) → taken ≤ length here.cells.operands → (let youngest = youngest_frame old.region in without_last taken youngest.cells) ≡ whole (with_taken taken here).cells
  left_cells taken enough = ap (without_last taken) (own_cells shown old new insn pc step) ∙ rest here.cells.locals here.cells.operands taken enough

  -- the step goes on behind its instruction
  pub falls : (counted taken : ℕ) → counted ≡ taken → taken ≤ length here.cells.operands
      → new ≡ with_stack old (let youngest = youngest_frame old.region in stepped old.region pc youngest.refs (without_last counted youngest.cells))
      → move_of shown.image shown.state here below pc insn (rows shown old new insn pc step) ≡ goes_on shown.state (with_taken taken here) below pc → GoesTo shown old new On
  falls counted taken count enough e is =
      let put : ℕ → List ℕ → Memory = λ taken more. with_stack old (let youngest = youngest_frame old.region in stepped old.region pc youngest.refs more) in
      let cells = ap (λ taken. let youngest = youngest_frame old.region in without_last taken youngest.cells) count ∙ sym (append-nil (let youngest = youngest_frame old.region in without_last taken youngest.cells)) in
      gives shown old new insn pc step taken [] enough (e ∙ ap (put taken) cells) is

  -- the step jumps, with this frame
  pub jumps_with : (moved : Frame) (target left after : ℕ) → moved.method ≡ here.method → moved.pc ≡ here.pc → KeepsFrame shown.naming moved
      → new ≡ with_stack old (stepped old.region target (map (cell_of shown.naming) (whole moved.refs)) (whole moved.cells))
      → (let youngest = youngest_frame old.region in TakesTick (is_tick youngest.pc target) left after)
      → move_of shown.image shown.state here below pc insn (rows shown old new insn pc step) ≡ jumps shown.state moved below target → StepsTo shown old new left after On
  jumps_with moved target left after method same_pc keeps stack tick is =
      let pictures = step.ready.pictures in
      record {
        need = need_for (nat_lt moved.pc target);
        next = with_frames shown.state (at_pc moved target ∷ below);
        goes = move_here shown old new insn pc step ∙ is;
        places_nothing = places_nothing (nat_lt moved.pc target);
        calls_nothing = calls_nothing (nat_lt moved.pc target);
        tick = subst (λ tick. TakesTick tick left after) (ap (λ pc. is_tick pc target) (pc_is ∙ sym same_pc) ∙ tick_same (nat_lt moved.pc target)) tick;
        pictures = pictured shown old new insn pc step target (with_frames shown.state (at_pc moved target ∷ below)) moved refl method keeps (ap (λ (memory : Memory). memory.region) stack)
            (ap (λ (memory : Memory). memory.ref_statics.items) stack ∙ pictures.ref_statics) (ap (λ (memory : Memory). memory.cell_statics.items) stack ∙ pictures.cell_statics) pictures.kept_statics;
        collections = ap (λ (memory : Memory). memory.collections) stack;
      }

  -- the jump is a tick, and none is left
  pub is_spent : (moved : Frame) (target left after : ℕ) → moved.pc ≡ here.pc → new ≡ old → (let youngest = youngest_frame old.region in is_tick youngest.pc target ≡ true) → left ≡ 0 → after ≡ left
      → move_of shown.image shown.state here below pc insn (rows shown old new insn pc step) ≡ jumps shown.state moved below target → StepsTo shown old new left after (Ends Spent)
  is_spent moved target left after same_pc e tick none same is =
      record {
        need = need_for (nat_lt moved.pc target);
        next = with_frames shown.state (at_pc moved target ∷ below);
        goes = move_here shown old new insn pc step ∙ is;
        tick = sym (ap (λ pc. is_tick pc target) (pc_is ∙ sym same_pc) ∙ tick_same (nat_lt moved.pc target)) ∙ tick;
        none = none;
        same = record { memory = e; ticks = same };
      }

  -- the step jumps without cells that it takes off the top
  pub jumped : (counted taken target left after : ℕ) (turn : Turn) → counted ≡ taken → taken ≤ length here.cells.operands → Jumps old new counted target left after turn
      → move_of shown.image shown.state here below pc insn (rows shown old new insn pc step) ≡ jumps shown.state (with_taken taken here) below target → StepsTo shown old new left after turn
  jumped counted taken target left after turn count enough (Jumped on e tick) is =
      let pictures = step.ready.pictures in
      let next = step.ready.next in
      let keeps = subst (AllByRecursion (KeepsFrame shown.naming)) next.frames_are pictures.kept_frames in
      let cells = ap (λ taken. let youngest = youngest_frame old.region in without_last taken youngest.cells) count ∙ left_cells taken enough in
      let stack = e ∙ ap₂ (λ refs cells. with_stack old (stepped old.region target refs cells)) (own_refs shown old new insn pc step) cells in
      subst (StepsTo shown old new left after) (sym on) (jumps_with (with_taken taken here) target left after refl refl keeps.0 stack tick is)
  jumped counted taken target left after turn count enough (WasSpent ends e tick none same) is =
      subst (StepsTo shown old new left after) (sym ends) (is_spent (with_taken taken here) target left after refl e tick none same is)
