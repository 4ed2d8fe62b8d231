-- Each plain instruction makes a plain move.
use Rattle.std.proofs.Common.{◌≡◌, ℕ, ℤ, pos, neg_ℤ, Bool, ◌+ℤ◌, ◌%◌, true, not, is_some, List, [], ◌∷◌, drop, take, reverse, slice_get, Option, Some, None, option_and_then, refl}
use Rattle.std.specs.Int.{w32, int_wrap}
use Rattle.std.proofs.lemmas.Bool.{false≢true}
use Rattle.cell_num.specs.declared.conversions.Conv.TheVariants as conv
use Rattle.cell_num.specs.Arithmetic.{applied}
use Rattle.cell_num.specs.Cells.{sign_extended, low_cell}
use Rattle.cell_num.specs.Conditions.{is_met}
use Rattle.cell_num.specs.Conversions.{converted}
use Rattle.dialogue.specs.Answers.{Answers}
use Rattle.image_instr.specs.declared.insn.Condition.{Condition}
use Rattle.image_instr.specs.declared.insn.Kind.{Kind}
use Rattle.image_instr.specs.declared.insn.Kind.TheVariants as kind
use Rattle.image_instr.specs.declared.insn.MInsn.{MInsn}
use Rattle.image_instr.specs.declared.insn.MInsn.TheVariants as insns
use Rattle.image_instr.specs.declared.insn.Operation.{Operation}
use Rattle.image_instr.specs.declared.insn.RefTest.{RefTest}
use Rattle.image_instr.specs.declared.insn.RefTest.TheVariants as ref_test
use Rattle.image_instr.specs.declared.insn.SwitchRow.{SwitchRow}
use Rattle.image_instr.specs.declared.insn.Width.{Width}
use Rattle.image_instr.specs.declared.insn.Width.TheVariants as width
use Rattle.image_instr.specs.Switch.{target_in}
use Rattle.image_form.specs.declared.record.Image.{Image}
use Rattle.mote_model.specs.Numbers.{op_of, cond_of}
use Rattle.mote_model.specs.State.{Reference, Frame}
use Rattle.mote_model.specs.SplitMoves.{SplitMove, with_cells, with_refs, with_ref_locals, with_cell_locals, number_of, cells_of, count_of, cells_at, with_cells_at, with_ref_at, push_ref, push_cells, push_number, goes_on, jumps, branches, using, take_cells, take_number, take_ref, dupx, swapped, without, without_at, arithmetic_exception}
use Rattle.mote_model.specs.SplitState.{State}
use Rattle.mote_model.specs.SplitStep.{move_of, load, store, get_static, put_static, change_cell, result, are_same, jump_if_reference, choose}
use Rattle.split_safety.specs.Runs.{is_plain}
use Rattle.split_safety.specs.Safety.{IsSound}
use Rattle.run_loop.proofs.PlainForms.{IsPlain, on, on_from, jumped, branched, used, taken_cells, taken_ref, thrown}

module _ (image : Image) (sound : IsSound image) (state : State) (answers : Answers) (frame : Frame) (others : List Frame) (next : ℕ) where
  abbrev Kept : (State → SplitMove) → Type 0
  Kept made = IsPlain image sound state answers others made

  abbrev goes : (moved : Frame) → Kept (λ s. goes_on s moved others next)
  goes moved = on image sound state answers others moved next

  abbrev using_it : {X : Type 0} (found : Option X) (made : State → X → SplitMove) → ((x : X) → Kept (λ s. made s x)) → Kept (λ s. using found (made s))
  using_it found made each = used image sound state answers others found made each

  abbrev taking : (count : ℕ) (from : Frame) (made : State → List ℕ → Frame → SplitMove)
      → Kept (λ s. made s (reverse (take count from.cells.operands)) (with_cells from (drop count from.cells.operands))) → Kept (λ s. take_cells count from (made s))
  taking count from made is = taken_cells image sound state answers others count from made is

  abbrev taking_ref : (from : Frame) (made : State → Reference → Frame → SplitMove) → ((reference : Reference) (rest : List Reference) → Kept (λ s. made s reference (with_refs from rest)))
      → Kept (λ s. take_ref from (made s))
  taking_ref from made each = taken_ref image sound state answers others from made each

  -- ---- locals and statics

  loads : (k : Kind) (at : ℕ) → Kept (λ s. load s frame others next k at)
  loads kind.Ref at = using_it (slice_get frame.refs.locals at) (λ s reference. goes_on s (push_ref reference frame) others next) (λ reference. goes (push_ref reference frame))
  loads kind.One at = using_it (cells_at frame.cells.locals at 1) (λ s cells. goes_on s (push_cells cells frame) others next) (λ cells. goes (push_cells cells frame))
  loads kind.Two at = using_it (cells_at frame.cells.locals at 2) (λ s cells. goes_on s (push_cells cells frame) others next) (λ cells. goes (push_cells cells frame))

  stores_cells : (count at : ℕ) → Kept (λ s. take_cells count frame (λ cells rest. using (with_cells_at rest.cells.locals at cells) (λ locals. goes_on s (with_cell_locals rest locals) others next)))
  stores_cells count at =
      let rest = with_cells frame (drop count frame.cells.operands) in
      taking count frame (λ s cells rest. using (with_cells_at rest.cells.locals at cells) (λ locals. goes_on s (with_cell_locals rest locals) others next))
      (using_it (with_cells_at frame.cells.locals at (reverse (take count frame.cells.operands))) (λ s locals. goes_on s (with_cell_locals rest locals) others next) (λ locals. goes (with_cell_locals rest locals)))

  stores : (k : Kind) (at : ℕ) → Kept (λ s. store s frame others next k at)
  stores kind.Ref at =
      taking_ref frame (λ s reference rest. using (with_ref_at rest.refs.locals at reference) (λ locals. goes_on s (with_ref_locals rest locals) others next))
      (λ reference rest. using_it (with_ref_at frame.refs.locals at reference) (λ s locals. goes_on s (with_ref_locals (with_refs frame rest) locals) others next) (λ locals. goes (with_ref_locals (with_refs frame rest) locals)))
  stores kind.One at = stores_cells 1 at
  stores kind.Two at = stores_cells 2 at

  gets_static : (k : Kind) (at : ℕ) → Kept (λ s. get_static s frame others next k at)
  gets_static kind.Ref at = using_it (slice_get state.ref_statics at) (λ s reference. goes_on s (push_ref reference frame) others next) (λ reference. goes (push_ref reference frame))
  gets_static kind.One at = using_it (cells_at state.cell_statics at 1) (λ s cells. goes_on s (push_cells cells frame) others next) (λ cells. goes (push_cells cells frame))
  gets_static kind.Two at = using_it (cells_at state.cell_statics at 2) (λ s cells. goes_on s (push_cells cells frame) others next) (λ cells. goes (push_cells cells frame))

  puts_cells : (count at : ℕ) → Kept (λ s. take_cells count frame (λ cells rest. using (with_cells_at s.cell_statics at cells) (λ (statics : List ℕ). goes_on (record s { cell_statics = statics }) rest others next)))
  puts_cells count at =
      let rest = with_cells frame (drop count frame.cells.operands) in
      taking count frame (λ s cells rest. using (with_cells_at s.cell_statics at cells) (λ (statics : List ℕ). goes_on (record s { cell_statics = statics }) rest others next))
      (using_it (with_cells_at state.cell_statics at (reverse (take count frame.cells.operands))) (λ s (statics : List ℕ). goes_on (record s { cell_statics = statics }) rest others next)
      (λ statics. on_from image sound state answers others (record state { cell_statics = statics }) rest next refl))

  puts_static : (k : Kind) (at : ℕ) → Kept (λ s. put_static s frame others next k at)
  puts_static kind.Ref at =
      taking_ref frame (λ s reference rest. using (with_ref_at s.ref_statics at reference) (λ (statics : List Reference). goes_on (record s { ref_statics = statics }) rest others next))
      (λ reference rest. using_it (with_ref_at state.ref_statics at reference) (λ s (statics : List Reference). goes_on (record s { ref_statics = statics }) (with_refs frame rest) others next)
      (λ statics. on_from image sound state answers others (record state { ref_statics = statics }) (with_refs frame rest) next refl))
  puts_static kind.One at = puts_cells 1 at
  puts_static kind.Two at = puts_cells 2 at

  -- ---- operands and numbers

  moves_refs : (moved : Option (List Reference)) → Kept (λ s. using moved (λ operands. goes_on s (with_refs frame operands) others next))
  moves_refs moved = using_it moved (λ s operands. goes_on s (with_refs frame operands) others next) (λ operands. goes (with_refs frame operands))

  moves_cells : (moved : Option (List ℕ)) → Kept (λ s. using moved (λ operands. goes_on s (with_cells frame operands) others next))
  moves_cells moved = using_it moved (λ s operands. goes_on s (with_cells frame operands) others next) (λ operands. goes (with_cells frame operands))

  changes : (changed : ℕ → List ℕ) → Kept (λ s. change_cell s frame others next changed)
  changes changed =
      let rest = with_cells frame (drop 1 frame.cells.operands) in
      taking 1 frame (λ s cells rest. using (slice_get cells 0) (λ cell. goes_on s (push_cells (changed cell) rest) others next))
      (using_it (slice_get (reverse (take 1 frame.cells.operands)) 0) (λ s cell. goes_on s (push_cells (changed cell) rest) others next) (λ cell. goes (push_cells (changed cell) rest)))

  results : (rest : Frame) (w : Width) (found : Option ℤ) → Kept (λ s. result image s (frame ∷ others) rest others next w found)
  results rest w None = thrown image sound state answers others (frame ∷ others) arithmetic_exception
  results rest w (Some number) = goes (push_number w number rest)

  computes : (w : Width) (operation : Operation) → Kept (λ s. move_of image s frame others next (insns.Bin w operation) [])
  computes w operation =
      let c = count_of w in
      let operands = frame.cells.operands in
      taking c frame (λ s cells below. take_number w below (λ a rest. result image s (frame ∷ others) rest others next w (applied (op_of operation) a (number_of cells))))
      (taking c (with_cells frame (drop c operands)) (λ s cells rest. result image s (frame ∷ others) rest others next w (applied (op_of operation) (number_of cells) (number_of (reverse (take c operands)))))
      (results (with_cells frame (drop c (drop c operands))) w (applied (op_of operation) (number_of (reverse (take c (drop c operands)))) (number_of (reverse (take c operands))))))

  negates : (w : Width) → Kept (λ s. move_of image s frame others next (insns.Neg w) [])
  negates w =
      let c = count_of w in
      let rest = with_cells frame (drop c frame.cells.operands) in
      taking c frame (λ s cells rest. goes_on s (push_number w (int_wrap w32 (neg_ℤ (number_of cells))) rest) others next)
      (goes (push_number w (int_wrap w32 (neg_ℤ (number_of (reverse (take c frame.cells.operands))))) rest))

  -- ---- jumps

  abbrev branching : (taken : Bool) (moved : Frame) (target : ℕ) → Kept (λ s. branches taken s moved others target next)
  branching taken moved target = branched image sound state answers others taken moved target next

  if_zero : (w : Width) (condition : Condition) (target : ℕ) → Kept (λ s. move_of image s frame others next (insns.Jz w condition target) [])
  if_zero w condition target =
      let c = count_of w in
      taking c frame (λ s cells rest. branches (is_met (cond_of condition) (number_of cells) (pos 0)) s rest others target next)
      (branching (is_met (cond_of condition) (number_of (reverse (take c frame.cells.operands))) (pos 0)) (with_cells frame (drop c frame.cells.operands)) target)

  if_compared : (w : Width) (condition : Condition) (target : ℕ) → Kept (λ s. move_of image s frame others next (insns.JCmp w condition target) [])
  if_compared w condition target =
      let c = count_of w in
      let operands = frame.cells.operands in
      taking c frame (λ s cells below. take_number w below (λ a rest. branches (is_met (cond_of condition) a (number_of cells)) s rest others target next))
      (taking c (with_cells frame (drop c operands)) (λ s cells rest. branches (is_met (cond_of condition) (number_of cells) (number_of (reverse (take c operands)))) s rest others target next)
      (branching (is_met (cond_of condition) (number_of (reverse (take c (drop c operands)))) (number_of (reverse (take c operands)))) (with_cells frame (drop c (drop c operands))) target))

  if_reference : (test : RefTest) (target : ℕ) → Kept (λ s. jump_if_reference s frame others next test target)
  if_reference ref_test.Null target = taking_ref frame (λ s a rest. branches (not (is_some a)) s rest others target next) (λ a rest. branching (not (is_some a)) (with_refs frame rest) target)
  if_reference ref_test.NonNull target = taking_ref frame (λ s a rest. branches (is_some a) s rest others target next) (λ a rest. branching (is_some a) (with_refs frame rest) target)
  if_reference ref_test.Equal target =
      taking_ref frame (λ s b below. take_ref below (λ a rest. branches (are_same a b) s rest others target next))
      (λ b below. taking_ref (with_refs frame below) (λ s a rest. branches (are_same a b) s rest others target next) (λ a rest. branching (are_same a b) (with_refs frame rest) target))
  if_reference ref_test.NotEqual target =
      taking_ref frame (λ s b below. take_ref below (λ a rest. branches (not (are_same a b)) s rest others target next))
      (λ b below. taking_ref (with_refs frame below) (λ s a rest. branches (not (are_same a b)) s rest others target next) (λ a rest. branching (not (are_same a b)) (with_refs frame rest) target))

  chooses : (w : Width) (rows : List SwitchRow) (default : ℕ) → Kept (λ s. choose s frame others w rows default)
  chooses w rows default =
      let c = count_of w in
      taking c frame (λ s cells rest. jumps s rest others (target_in default rows (number_of cells)))
      (jumped image sound state answers others (with_cells frame (drop c frame.cells.operands)) (target_in default rows (number_of (reverse (take c frame.cells.operands)))))

  -- ---- each instruction

  pub insn_plain : (insn : MInsn) (rows : List SwitchRow) → is_plain insn ≡ true → Kept (λ s. move_of image s frame others next insn rows)
  insn_plain (insns.Const1 value) rows run = goes (push_number width.One value frame)
  insn_plain (insns.Const2 value) rows run = goes (push_number width.Two value frame)
  insn_plain (insns.Small1 value) rows run = goes (push_number width.One value frame)
  insn_plain (insns.Small2 value) rows run = goes (push_number width.Two value frame)
  insn_plain (insns.Mid2 value) rows run = goes (push_number width.Two value frame)
  insn_plain insns.Null rows run = goes (push_ref None frame)
  insn_plain (insns.Load k at) rows run = loads k at
  insn_plain (insns.Store k at) rows run = stores k at
  insn_plain (insns.RClear at) rows run = using_it (with_ref_at frame.refs.locals at None) (λ s locals. goes_on s (with_ref_locals frame locals) others next) (λ locals. goes (with_ref_locals frame locals))
  insn_plain (insns.Inc w at amount) rows run =
      using_it (option_and_then (λ cells. with_cells_at frame.cells.locals at (cells_of w (int_wrap w32 (number_of cells +ℤ amount)))) (cells_at frame.cells.locals at (count_of w)))
      (λ s locals. goes_on s (with_cell_locals frame locals) others next) (λ locals. goes (with_cell_locals frame locals))
  insn_plain (insns.RDupX m n) rows run = moves_refs (dupx m n frame.refs.operands)
  insn_plain (insns.DupX m n) rows run = moves_cells (dupx m n frame.cells.operands)
  insn_plain (insns.RPop count) rows run = moves_refs (without count frame.refs.operands)
  insn_plain (insns.Pop count) rows run = moves_cells (without count frame.cells.operands)
  insn_plain insns.RSwap rows run = moves_refs (swapped 1 1 frame.refs.operands)
  insn_plain (insns.Swap m n) rows run = moves_cells (swapped m n frame.cells.operands)
  insn_plain (insns.Drop above) rows run = moves_cells (without_at above frame.cells.operands)
  insn_plain (insns.Bin w operation) rows run = computes w operation
  insn_plain (insns.Neg w) rows run = negates w
  insn_plain insns.Sx rows run = changes (λ cell. cells_of width.Two (sign_extended cell))
  insn_plain insns.Zx rows run = changes (λ cell. cells_of width.Two (pos cell))
  insn_plain insns.Sb rows run = changes (λ cell. low_cell (converted conv.Byte (sign_extended cell)) ∷ [])
  insn_plain insns.Bit rows run = changes (λ cell. cell % 2 ∷ [])
  insn_plain (insns.Jz w condition target) rows run = if_zero w condition target
  insn_plain (insns.JCmp w condition target) rows run = if_compared w condition target
  insn_plain (insns.RJ test target) rows run = if_reference test target
  insn_plain (insns.Goto target) rows run = jumped image sound state answers others frame target
  insn_plain (insns.Switch w default count) rows run = chooses w rows default
  insn_plain (insns.Table w default low count) rows run = chooses w rows default
  insn_plain (insns.GetS k at) rows run = gets_static k at
  insn_plain (insns.PutS k at) rows run = puts_static k at
  insn_plain insn rows run = absurd (false≢true run)
