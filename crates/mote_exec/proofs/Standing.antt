-- The instruction at the pc of a step, in the code of the youngest frame's method.
use Rattle.std.proofs.Common.{◌≡◌, ℕ, ℤ, ◌+◌, ◌-◌, ◌^◌, ◌<◌, Bool, true, false, nat_lt, if◌then◌else◌, IsTrue, List, [], slice_get, None, length, drop, Some, refl, sym, ap, subst, ◌∙◌}
use Rattle.std.specs.Prelude.{IfSome, IsSomeAnd}
use Rattle.std.proofs.lemmas.Option.{none-some}
use Rattle.image_instr.specs.declared.insn.MInsn.{MInsn}
use Rattle.image_instr.specs.declared.insn.MInsn.TheVariants as insns
use Rattle.image_instr.specs.declared.insn.SwitchRow.{SwitchRow}
use Rattle.image_instr.specs.declared.insn.Width.{Width}
use Rattle.image_instr.specs.declared.signature.Effect.{Effect}
use Rattle.image_instr.specs.Effect.{cells_in}
use Rattle.image_instr.specs.Insn.{HoldsAt, IsAtPrefix}
use Rattle.image_instr.specs.Reading.{Found, insn_at, rows_at}
use Rattle.image_instr.specs.Switch.{is_switch, default_of, IsSwitchAt}
use Rattle.image_instr.proofs.encoding.Bytes.{IsBytes, IsBytes-drop}
use Rattle.image_instr.proofs.encoding.Decode.{found_holds}
use Rattle.image_form.specs.declared.record.Image.{Image}
use Rattle.image_form.specs.declared.record.Method.{Method}
use Rattle.image_form.specs.Grammar.{IsMethod}
use Rattle.image_check.specs.Visits.{moved_by}
use Rattle.mote_stack.specs.Frames.{Stack, youngest_frame}
use Rattle.mote_model.specs.SplitState.{method_at}
use Rattle.mote_model.specs.SplitStep.{move_of, choose}
use Rattle.mote_model.specs.declared.memory.State.{State as Memory}
use Rattle.mote_model.specs.State.{Frame}
use Rattle.split_safety.specs.Ready.{Shown, IsReady}
use Rattle.split_safety.proofs.facts.Lists.{all_of_each}
use Rattle.split_safety.proofs.moves.Throwing.{own_method}
use Rattle.mote_exec.specs.Steps.{IsStep, IsStepIn, IsChoice}
use Rattle.mote_exec.proofs.GoingOn.{was}
use Rattle.mote_exec.proofs.Widths.{cells_same}

-- the pc behind the instruction
abbrev pub behind : (shown : Shown) (memory : Memory) (insn : MInsn) → IsReady shown memory insn → ℕ
behind shown memory insn ready = let next = ready.next in let frame = next.frame in frame.pc + next.size

abbrev pub step_of : (shown : Shown) (memory : Memory) (insn : MInsn) (ready : IsReady shown memory insn) → IsStep shown memory insn (behind shown memory insn ready)
step_of shown memory insn ready = record { ready = ready; behind = refl }

-- the same for an instruction that is this one
pub same_step : (shown : Shown) (memory : Memory) (pc : ℕ) (insn other : MInsn) → insn ≡ other → IsStep shown memory insn pc → IsStep shown memory other pc
same_step shown memory pc insn other same step = subst (λ insn. IsStep shown memory insn pc) same step

-- a method with code is one of the image
own_there : (image : Image) (id : ℕ) (method : Method) → method_at image id ≡ Some method → slice_get image.methods (id - 32) ≡ Some method
own_there image id method is = own (nat_lt id 32) is
  where
    own : (below : Bool) → (if below then None else slice_get image.methods (id - 32)) ≡ Some method → slice_get image.methods (id - 32) ≡ Some method
    own true is = absurd (none-some method is)
    own false is = is

-- the code of the youngest frame's method
module _ (shown : Shown) (memory : Memory) (insn : MInsn) (ready : IsReady shown memory insn) where
  abbrev method : Method
  method = let next = ready.next in next.method

  method_is : (let youngest = youngest_frame memory.region in youngest.method) ≡ (let next = ready.next in let frame = next.frame in frame.method)
  method_is = ap (λ (stack : Stack). let youngest = youngest_frame stack in youngest.method) (was shown memory memory insn (behind shown memory insn ready) (step_of shown memory insn ready))

  pub method_there : (image : Image) (id : ℕ) → shown.image ≡ image → id ≡ (let youngest = youngest_frame memory.region in youngest.method) → slice_get image.methods (id - 32) ≡ Some method
  method_there image id same id_is =
      let next = ready.next in
      let frame = next.frame in
      ap (λ id. slice_get image.methods (id - 32)) (id_is ∙ method_is) ∙ ap (λ (image : Image). slice_get image.methods (frame.method - 32)) (sym same) ∙ own_there shown.image frame.method method next.found

  pub code_fits : length method.code < 2 ^ 16
  code_fits =
      let next = ready.next in
      let frame = next.frame in
      let is : IsMethod (shown.image).types method = own_method (IsMethod (shown.image).types) shown.image frame.method method (all_of_each (IsMethod (shown.image).types) [] (shown.image).methods (ready.sound.image_is).methods_are) next.found in
      is.code_fits

-- a switch, and a table
module _ (shown : Shown) (memory : Memory) (code : List ℕ) (pc : ℕ) where
  pub is_choice : (insn : MInsn) (w : Width) → IsStepIn shown memory code insn pc → IsTrue (is_switch insn)
      → ((frame : Frame) (others : List Frame) (next : ℕ) (rows : List SwitchRow) → move_of shown.image shown.state frame others next insn rows ≡ choose shown.state frame others w rows (default_of insn))
      → moved_by shown.image insn ≡ record { ref_pop = 0; ref_push = 0; cell_pop = cells_in w; cell_push = 0 } → IsChoice shown memory code w
  is_choice insn w at switches chooses effect =
      let popped : ℕ → Effect = λ count. record { ref_pop = 0; ref_push = 0; cell_pop = count; cell_push = 0 } in
      record { insn = insn; ready = at.step.ready; code_is = at.code_is; switches = switches; chooses = chooses; effect = effect ∙ ap popped (cells_same w) }

  pub switch_choice : (w : Width) (default count : ℕ) → IsStepIn shown memory code (insns.Switch w default count) pc → IsChoice shown memory code w
  switch_choice w default count at = is_choice (insns.Switch w default count) w at refl (λ frame others next rows. refl) refl

  pub table_choice : (w : Width) (default : ℕ) (low : ℤ) (count : ℕ) → IsStepIn shown memory code (insns.Table w default low count) pc → IsChoice shown memory code w
  table_choice w default low count at = is_choice (insns.Table w default low count) w at refl (λ frame others next rows. refl) refl

  pub same_step_in : (insn other : MInsn) → insn ≡ other → IsStepIn shown memory code insn pc → IsStepIn shown memory code other pc
  same_step_in insn other same at = subst (λ insn. IsStepIn shown memory code insn pc) same at

module _ (shown : Shown) (memory : Memory) (insn : MInsn) (ready : IsReady shown memory insn) (code : List ℕ) (code_is : let next = ready.next in let method = next.method in code ≡ method.code) (pc : ℕ) (pc_is : let next = ready.next in let frame = next.frame in pc ≡ frame.pc) where
  abbrev size : ℕ
  size = let next = ready.next in next.size

  bytes_are : (let next = ready.next in let frame = next.frame in let method = next.method in drop frame.pc method.code) ≡ drop pc code
  bytes_are = let next = ready.next in let frame = next.frame in ap (λ code. drop frame.pc code) (sym code_is) ∙ ap (λ pc. drop pc code) (sym pc_is)

  pub there : insn_at (drop pc code) ≡ Some (insn, size)
  there = let next = ready.next in ap insn_at (sym bytes_are) ∙ next.there

  pub switch_there : IsTrue (is_switch insn) → IsSwitchAt code pc
  switch_there switches = subst (λ (found : Found). IsSomeAnd found (λ found. IsTrue (is_switch found.0))) (sym there) switches

  -- with its rows
  pub holds : IsBytes code → let next = ready.next in let frame = next.frame in let method = next.method in HoldsAt code pc insn (rows_at insn (drop frame.pc method.code)) size
  holds fits =
      let bytes = drop pc code in
      let at : IsAtPrefix insn (rows_at insn bytes) size bytes = subst (λ (found : Found). IfSome found (λ f. IsAtPrefix f.0 (rows_at f.0 bytes) f.1 bytes)) there (found_holds bytes (IsBytes-drop pc code fits)) in
      subst (λ read. IsAtPrefix insn (rows_at insn read) size bytes) (sym bytes_are) at
