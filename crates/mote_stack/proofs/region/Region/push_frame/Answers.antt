use Rattle.std.proofs.Common.{◌≡◌, ℕ, ◌+◌, ◌-◌, ◌≤◌, get_or, length, refl, sym, ◌∙◌, ap, subst, arith}
use Rattle.mote_stack.specs.Frames.{cells_in_use, frame_need}
use Rattle.mote_stack.specs.Moves.{LaysFrame, HandsOver}
use Rattle.mote_stack.specs.Layout.{base_of, ref_depth_of, cell_depth_of}
use Rattle.mote_stack.specs.declared.region.Region.TheInside.{Inside}
use Rattle.mote_stack.specs.declared.region.StackWanted.{StackWanted}
use Rattle.mote_stack.proofs.Changed.{seen}
use Rattle.mote_stack.proofs.Calls.{sizes, count_of, caller_method, caller_body, few_frames, Called, called_next, called_first, entered}
use Rattle.mote_stack.proofs.region.Region.push_frame.Goals as goal
use Rattle.mote_stack.proofs.region.Region.push_frame.Goals.{then-self-gt0, else-self-gt0, After-from-then-self-gt0-2}

made : ℕ → ℕ → StackWanted
made need used = record { need = need; used = used }

made_alike : (a b c d : ℕ) → a ≡ b → c ≡ d → made a c ≡ made b d
made_alike a b c d e f = cc

wanted : (a b c d : ℕ) → a ≡ b → c ≡ d → ◌≡◌ {A = StackWanted} (record { need = a; used = c }) (record { need = b; used = d })
unfolding made
wanted a b c d e f = made_alike a b c d e f

pub returns-then-used-need : goal.returns-then-used-need
returns-then-used-need c =
    let i = c.self.inside in
    let stack = c.args.self.now in
    let z = sizes i stack c.args.method c.from.result c.index-body.result.now c.self.view_is c.self.invariant c.requires.method c.from.ensures c.index-body.ensures in
    let need : c.from-need.result + 4 ≡ frame_need stack c.args.method = omega arith in
    let used : c.from-used.result ≡ cells_in_use stack = omega arith in
    (omega arith, wanted (c.from-need.result + 4) (frame_need stack c.args.method) c.from-used.result (cells_in_use stack) need used, refl)

pub index-requires-then-self-gt0 : goal.index-requires-then-self-gt0
index-requires-then-self-gt0 c =
    let i = c.self.inside in
    let stack = c.args.self.now in
    let z = sizes i stack c.args.method c.from.result c.index-body.result.now c.self.view_is c.self.invariant c.requires.method c.from.ensures c.index-body.ensures in
    let s = seen i stack c.self.view_is c.self.invariant (omega (arith, count_of i stack c.self.view_is, c.if-self-gt0.true)) in
    let base_as = c.from-base.ensures in
    let header = c.from-base.result + c.from-2.result in
    let laid_long : length c.lay_frame.new.cells.items ≡ length i.cells.items = sym c.lay_frame.new.cells.ok.0 ∙ (c.lay_frame.ensures.len ∙ i.cells.ok.0) in
    let Lays : ℕ → Type 0 = λ b. LaysFrame i.cells.items c.lay_frame.new.cells.items b header c.args.method c.args.ref_locals c.args.cell_locals in
    let lays : Lays i.used = subst Lays base_as c.lay_frame.ensures.laid in
    let method = caller_method i stack c.lay_frame.new.cells.items header c.args.method c.args.ref_locals c.args.cell_locals c.from-caller.result c.index.result.now c.from-then-self-gt0.result s lays laid_long c.from-caller.ensures c.index.ensures c.from-then-self-gt0.ensures in
    let table = i.bodies.ok.0 in
    omega arith

-- what is asked of the caller: its body lies below its header, and its halves lie in it and have the arguments
abbrev HasArguments : goal.After-from-then-self-gt0-2 → Type 0
HasArguments c =
    let caller = c.from-caller.result in
    let refs = get_or c.lay_frame.new.cells.items (caller + 2) 0 in
    let cells = get_or c.lay_frame.new.cells.items (caller + 3) 0 in
    (c.from-then-self-gt0-2.result ≤ caller) × (caller - c.from-then-self-gt0-2.result + refs + cells ≤ caller) × (c.args.ref_args ≤ refs) × (c.args.cell_args ≤ cells)

has_arguments : (c : goal.After-from-then-self-gt0-2) → HasArguments c
has_arguments c =
    let i = c.self.inside in
    let stack = c.args.self.now in
    let z = sizes i stack c.args.method c.from.result c.index-body.result.now c.self.view_is c.self.invariant c.requires.method c.from.ensures c.index-body.ensures in
    let s = seen i stack c.self.view_is c.self.invariant (omega (arith, count_of i stack c.self.view_is, c.if-self-gt0.true)) in
    let base_as = c.from-base.ensures in
    let header = c.from-base.result + c.from-2.result in
    let laid = c.lay_frame.new.cells.items in
    let laid_long : length laid ≡ length i.cells.items = sym c.lay_frame.new.cells.ok.0 ∙ (c.lay_frame.ensures.len ∙ i.cells.ok.0) in
    let Lays : ℕ → Type 0 = λ b. LaysFrame i.cells.items laid b header c.args.method c.args.ref_locals c.args.cell_locals in
    let lays : Lays i.used = subst Lays base_as c.lay_frame.ensures.laid in
    let caller_is = caller_body i stack laid header c.args.method c.args.ref_locals c.args.cell_locals c.from-caller.result c.index.result.now c.from-then-self-gt0.result c.index-then-self-gt0.result.now s lays laid_long c.from-caller.ensures c.index.ensures c.from-then-self-gt0.ensures c.index-then-self-gt0.ensures in
    let caller_as : c.from-caller.result ≡ i.youngest = c.from-caller.ensures in
    let refs_same : get_or laid (c.from-caller.result + 2) 0 ≡ ref_depth_of i.cells.items i.youngest = ap (λ k. get_or laid (k + 2) 0) caller_as ∙ lays.below (i.youngest + 2) (omega arith) in
    let cells_same : get_or laid (c.from-caller.result + 3) 0 ≡ cell_depth_of i.cells.items i.youngest = ap (λ k. get_or laid (k + 3) 0) caller_as ∙ lays.below (i.youngest + 3) (omega arith) in
    (omega arith, omega arith, omega arith, omega arith)

pub overflow_sub-caller_base : goal.overflow_sub-caller_base
overflow_sub-caller_base c = omega (arith, (has_arguments (goal.at.overflow_sub-caller_base c).After-from-then-self-gt0-2).0)

pub hand_over-requires-clause-halves : goal.hand_over-requires-clause-halves
hand_over-requires-clause-halves c = (has_arguments (goal.at.hand_over-requires-clause-halves c).After-from-then-self-gt0-2).1

pub hand_over-requires-clause-ref_args : goal.hand_over-requires-clause-ref_args
hand_over-requires-clause-ref_args c = (has_arguments (goal.at.hand_over-requires-clause-ref_args c).After-from-then-self-gt0-2).2

pub hand_over-requires-clause-cell_args : goal.hand_over-requires-clause-cell_args
hand_over-requires-clause-cell_args c = (has_arguments (goal.at.hand_over-requires-clause-cell_args c).After-from-then-self-gt0-2).3

pub overflow_add-self-2 : goal.overflow_add-self-2
overflow_add-self-2 c =
    let i = c.self.inside in
    let same : c.if-self-gt0.self-inside.count ≡ i.count =
    elim c.if-self-gt0.branch [
      | then-self-gt0 w ↦ ap (λ (j : Inside). j.count) w.self-inside-is
      | else-self-gt0 w ↦ ap (λ (j : Inside). j.count) w.self-inside-is
    ] in
    let few = few_frames i.bodies.items i.cells.items i.count i.used c.self.invariant.in_frames in
    omega arith

pub invariant_of-self : goal.invariant_of-self
invariant_of-self c =
    let i = c.self.inside in
    let stack = c.args.self.now in
    let z = sizes i stack c.args.method c.from.result c.index-body.result.now c.self.view_is c.self.invariant c.requires.method c.from.ensures c.index-body.ensures in
    let len = c.len.ensures in
    let base_as = c.from-base.ensures in
    let header = c.from-base.result + c.from-2.result in
    let laid = c.lay_frame.new.cells.items in
    let laid_long : length laid ≡ length i.cells.items = sym c.lay_frame.new.cells.ok.0 ∙ (c.lay_frame.ensures.len ∙ i.cells.ok.0) in
    let Lays : ℕ → Type 0 = λ b. LaysFrame i.cells.items laid b header c.args.method c.args.ref_locals c.args.cell_locals in
    let P : Inside → Type 0 = λ j. Called i j stack header c.args.method c.args.ref_locals c.args.cell_locals c.args.ref_args c.args.cell_args in
    let called : P c.if-self-gt0.self-inside =
    elim c.if-self-gt0.branch [
      | then-self-gt0 w ↦
          let s = seen i stack c.self.view_is c.self.invariant (omega (arith, count_of i stack c.self.view_is, w.if-self-gt0.true)) in
          let lays : Lays i.used = subst Lays base_as c.lay_frame.ensures.laid in
          let caller_is = caller_body i stack laid header c.args.method c.args.ref_locals c.args.cell_locals w.from-caller.result w.index.result.now w.from-then-self-gt0.result w.index-then-self-gt0.result.now s lays laid_long w.from-caller.ensures w.index.ensures w.from-then-self-gt0.ensures w.index-then-self-gt0.ensures in
          let caller_as = w.from-caller.ensures in
          let caller_body_as = w.from-then-self-gt0-2.ensures in
          let caller_base = w.from-caller.result - w.from-then-self-gt0-2.result in
          let low : caller_base ≡ base_of i.bodies.items i.cells.items i.youngest = omega arith in
          let Hands : ℕ → ℕ → Type 0 = λ caller base. HandsOver laid w.hand_over.new.cells.items caller caller_base base header c.args.ref_args c.args.cell_args in
          let hands : Hands i.youngest i.used = subst (λ b. Hands i.youngest b) base_as (subst (λ k. Hands k c.from-base.result) caller_as w.hand_over.ensures.handed) in
          subst P (sym w.self-inside-is) (called_next i (record i { cells = w.hand_over.new.cells }) stack laid caller_base header c.args.method c.args.ref_locals c.args.cell_locals c.args.ref_args c.args.cell_args c.self.invariant s
          (record { bodies = refl; used = refl; count = refl; youngest = refl; len = w.hand_over.ensures.len ∙ c.lay_frame.ensures.len }) low c.requires.ref_locals c.requires.cell_locals (omega arith) c.requires.ref_args c.requires.cell_args lays hands)
      | else-self-gt0 w ↦
          subst P (sym w.self-inside-is) (called_first i (record i { cells = c.lay_frame.new.cells }) stack header c.args.method c.args.ref_locals c.args.cell_locals c.args.ref_args c.args.cell_args c.self.view_is c.self.invariant
          (record { bodies = refl; used = refl; count = refl; youngest = refl; len = c.lay_frame.ensures.len }) (omega (arith, w.if-self-gt0.false)) (omega arith) c.requires.ref_args c.requires.cell_args (subst Lays base_as c.lay_frame.ensures.laid))
    ] in
    let used = called.used in
    let count = called.count in
    let long = called.long in
    let done = entered c.if-self-gt0.self-inside stack c.args.method c.args.ref_locals c.args.cell_locals c.args.ref_args c.args.cell_args (header + 4) (c.if-self-gt0.self-inside.count + 1) header called.becomes (omega arith) refl refl (omega arith) c.requires.method (omega arith) c.requires.ref_locals c.requires.cell_locals c.requires.ref_args c.requires.cell_args called.passed in
    done.1

pub returns : goal.returns
returns c =
    let i = c.self.inside in
    let stack = c.args.self.now in
    let z = sizes i stack c.args.method c.from.result c.index-body.result.now c.self.view_is c.self.invariant c.requires.method c.from.ensures c.index-body.ensures in
    let len = c.len.ensures in
    let base_as = c.from-base.ensures in
    let header = c.from-base.result + c.from-2.result in
    let laid = c.lay_frame.new.cells.items in
    let laid_long : length laid ≡ length i.cells.items = sym c.lay_frame.new.cells.ok.0 ∙ (c.lay_frame.ensures.len ∙ i.cells.ok.0) in
    let Lays : ℕ → Type 0 = λ b. LaysFrame i.cells.items laid b header c.args.method c.args.ref_locals c.args.cell_locals in
    let P : Inside → Type 0 = λ j. Called i j stack header c.args.method c.args.ref_locals c.args.cell_locals c.args.ref_args c.args.cell_args in
    let called : P c.if-self-gt0.self-inside =
    elim c.if-self-gt0.branch [
      | then-self-gt0 w ↦
          let s = seen i stack c.self.view_is c.self.invariant (omega (arith, count_of i stack c.self.view_is, w.if-self-gt0.true)) in
          let lays : Lays i.used = subst Lays base_as c.lay_frame.ensures.laid in
          let caller_is = caller_body i stack laid header c.args.method c.args.ref_locals c.args.cell_locals w.from-caller.result w.index.result.now w.from-then-self-gt0.result w.index-then-self-gt0.result.now s lays laid_long w.from-caller.ensures w.index.ensures w.from-then-self-gt0.ensures w.index-then-self-gt0.ensures in
          let caller_as = w.from-caller.ensures in
          let caller_body_as = w.from-then-self-gt0-2.ensures in
          let caller_base = w.from-caller.result - w.from-then-self-gt0-2.result in
          let low : caller_base ≡ base_of i.bodies.items i.cells.items i.youngest = omega arith in
          let Hands : ℕ → ℕ → Type 0 = λ caller base. HandsOver laid w.hand_over.new.cells.items caller caller_base base header c.args.ref_args c.args.cell_args in
          let hands : Hands i.youngest i.used = subst (λ b. Hands i.youngest b) base_as (subst (λ k. Hands k c.from-base.result) caller_as w.hand_over.ensures.handed) in
          subst P (sym w.self-inside-is) (called_next i (record i { cells = w.hand_over.new.cells }) stack laid caller_base header c.args.method c.args.ref_locals c.args.cell_locals c.args.ref_args c.args.cell_args c.self.invariant s
          (record { bodies = refl; used = refl; count = refl; youngest = refl; len = w.hand_over.ensures.len ∙ c.lay_frame.ensures.len }) low c.requires.ref_locals c.requires.cell_locals (omega arith) c.requires.ref_args c.requires.cell_args lays hands)
      | else-self-gt0 w ↦
          subst P (sym w.self-inside-is) (called_first i (record i { cells = c.lay_frame.new.cells }) stack header c.args.method c.args.ref_locals c.args.cell_locals c.args.ref_args c.args.cell_args c.self.view_is c.self.invariant
          (record { bodies = refl; used = refl; count = refl; youngest = refl; len = c.lay_frame.ensures.len }) (omega (arith, w.if-self-gt0.false)) (omega arith) c.requires.ref_args c.requires.cell_args (subst Lays base_as c.lay_frame.ensures.laid))
    ] in
    let used = called.used in
    let count = called.count in
    let long = called.long in
    let done = entered c.if-self-gt0.self-inside stack c.args.method c.args.ref_locals c.args.cell_locals c.args.ref_args c.args.cell_args (header + 4) (c.if-self-gt0.self-inside.count + 1) header called.becomes (omega arith) refl refl (omega arith) c.requires.method (omega arith) c.requires.ref_locals c.requires.cell_locals c.requires.ref_args c.requires.cell_args called.passed in
    (omega arith, done.0)
