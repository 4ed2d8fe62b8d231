-- The locals of a width, as instructions name them.
use Rattle.std.proofs.Common.{◌≡◌, ℕ, ◌+◌, ◌≤◌, List, refl, subst, arith}
use Rattle.image_instr.specs.declared.insn.MInsn.TheVariants as insns
use Rattle.image_instr.specs.declared.insn.Kind.{Kind}
use Rattle.image_instr.specs.declared.insn.Width.{Width}
use Rattle.image_instr.specs.declared.insn.Width.TheVariants as width
use Rattle.image_instr.specs.Effect as effect
use Rattle.image_form.specs.declared.record.Method.{Method}
use Rattle.image_check.specs.Ids.{HasLocal, kind_of}
use Rattle.mote_model.specs.declared.memory.State.{State as Memory}
use Rattle.mote_model.specs.State.{Frame}
use Rattle.mote_model.specs.SplitMoves.{cells_at, count_of, goes_on, push_cells, take_cells, using, with_cell_locals, with_cells_at}
use Rattle.mote_model.specs.SplitState.{State}
use Rattle.mote_model.specs.SplitStep.{load, store}
use Rattle.split_safety.specs.Ready.{Shown}
use Rattle.mote_exec.specs.Steps.{IsStep}

-- the step of an instruction on a kind that is known
module _ (shown : Shown) (memory : Memory) (local pc : ℕ) (kind known : Kind) (same : kind ≡ known) where
  pub load_step : IsStep shown memory (insns.Load kind local) pc → IsStep shown memory (insns.Load known local) pc
  load_step step = subst (λ (k : Kind). IsStep shown memory (insns.Load k local) pc) same step

  pub store_step : IsStep shown memory (insns.Store kind local) pc → IsStep shown memory (insns.Store known local) pc
  store_step step = subst (λ (k : Kind). IsStep shown memory (insns.Store k local) pc) same step

-- each cell of the local is there
pub has_cells : (w : Width) (method : Method) (local : ℕ) → HasLocal method (kind_of w) local → local + count_of w ≤ method.cell_locals
has_cells width.One method local has = omega (arith, has)
has_cells width.Two method local has = omega (arith, has)

pub kind_refs : (w : Width) → effect.refs_of (kind_of w) ≡ 0
kind_refs width.One = refl
kind_refs width.Two = refl

pub kind_cells : (w : Width) → effect.cells_of (kind_of w) ≡ count_of w
kind_cells width.One = refl
kind_cells width.Two = refl

module _ (state : State) (frame : Frame) (others : List Frame) (next local : ℕ) where
  pub loads_cells : (w : Width) → load state frame others next (kind_of w) local ≡ using (cells_at frame.cells.locals local (count_of w)) (λ cells. goes_on state (push_cells cells frame) others next)
  loads_cells width.One = refl
  loads_cells width.Two = refl

  pub stores_cells : (w : Width) → store state frame others next (kind_of w) local
      ≡ take_cells (count_of w) frame (λ cells rest. using (with_cells_at rest.cells.locals local cells) (λ locals. goes_on state (with_cell_locals rest locals) others next))
  stores_cells width.One = refl
  stores_cells width.Two = refl
