use Rattle.std.proofs.Common.{◌≤◌, ◌+◌, ◌*◌, ◌∷◌, ℤ, Option, FitsSigned, to_z, of_z, rules, refl, sym, ap, ap₂, ◌∙◌, arith, length, drop, reverse, take}
use Rattle.std.specs.Int.{w32}
use Rattle.std.proofs.lemmas.Int.{to_z-of_z}
use Rattle.image_instr.specs.declared.insn.MInsn.TheVariants as insns
use Rattle.cell_num.specs.Arithmetic.{applied}
use Rattle.mote_model.specs.Numbers.{op_of}
use Rattle.mote_model.specs.SplitMoves.{SplitMove, count_of, number_of, throws}
use Rattle.mote_model.specs.SplitStep.{result}
use Rattle.mote_stack.specs.Frames.{youngest_frame}
use Rattle.mote_exec.specs.Steps.{number_below, with_taken}
use Rattle.mote_exec.proofs.Taking.{takes_two}
use Rattle.mote_exec.proofs.GoingOn.{at, body_is, cells_counted, gives_number, move_here, number_is, refs_counted, there}
use Rattle.mote_exec.proofs.Widths.{cells_same}
use Rattle.mote_exec.proofs.numbers.binary.Goals as goal

pub number_below-right-requires-clause-there : goal.number_below-right-requires-clause-there
number_below-right-requires-clause-there g c =
    let memory = c.args.mote.now in
    let insn = insns.Bin c.args.width c.args.operation in
    let operands = (at g.shown memory memory insn c.args.next c.requires).operands in
    let enough = there g.shown memory memory insn c.args.next c.requires (count_of c.args.width) (omega (arith, operands.cells, cells_same c.args.width)) in
    omega (arith, enough)

pub number_below-left-requires-clause-there : goal.number_below-left-requires-clause-there
number_below-left-requires-clause-there g c =
    let memory = c.args.mote.now in
    let insn = insns.Bin c.args.width c.args.operation in
    let operands = (at g.shown memory memory insn c.args.next c.requires).operands in
    let enough = there g.shown memory memory insn c.args.next c.requires (count_of c.args.width + count_of c.args.width) (omega (arith, operands.cells, cells_same c.args.width)) in
    omega (arith, enough, c.cell_count-count.ensures)

pub put_number-requires-clause-there : goal.put_number-requires-clause-there
put_number-requires-clause-there g c =
    let memory = c.args.mote.now in
    let insn = insns.Bin c.args.width c.args.operation in
    let operands = (at g.shown memory memory insn c.args.next c.requires).operands in
    omega (arith, operands.cells, cells_same c.args.width, c.cell_count-count.ensures, cells_counted g.shown memory memory insn c.args.next c.requires)

pub put_number-requires-clause-room : goal.put_number-requires-clause-room
put_number-requires-clause-room g c =
    let memory = c.args.mote.now in
    let insn = insns.Bin c.args.width c.args.operation in
    let here = at g.shown memory memory insn c.args.next c.requires in
    omega (
      arith,
      here.operands.cells,
      here.fits_after,
      cells_same c.args.width,
      c.cell_count-count.ensures,
      refs_counted g.shown memory memory insn c.args.next c.requires,
      cells_counted g.shown memory memory insn c.args.next c.requires,
      body_is g.shown memory memory insn c.args.next c.requires,
    )

pub returns-in-Some : goal.returns-in-Some
returns-in-Some g c =
    let memory = c.args.mote.now in
    let w = c.args.width in
    let count = count_of w in
    let insn = insns.Bin w c.args.operation in
    let next = c.requires.ready.next in
    let frame = next.frame in
    let operands = frame.cells.operands in
    let here = at g.shown memory memory insn c.args.next c.requires in
    let enough : count + count ≤ length operands = omega (arith, here.operands.cells, cells_same w) in
    let b = number_of (reverse (take count operands)) in
    let a = number_of (reverse (take count (drop count operands))) in
    let right = c.number_below-right in
    let left = c.number_below-left in
    let right_is = to_z-of_z w32 right.result right.ensures.fits ∙ right.ensures.value ∙ number_is g.shown memory memory insn c.args.next c.requires w 0 (omega (arith, enough)) in
    let left_is = to_z-of_z w32 left.result left.ensures.fits ∙ left.ensures.value ∙ ap (λ above. number_below w above (youngest_frame memory.region).cells) c.cell_count-count.ensures
    ∙ number_is g.shown memory memory insn c.args.next c.requires w count enough in
    let applied_is = c.apply.ensures.value ∙ ap (λ of. applied of (to_z w32 (of_z w32 left.result)) (to_z w32 (of_z w32 right.result))) c.operator.ensures ∙ ap₂ (applied (op_of c.args.operation)) left_is right_is in
    let moves : Option ℤ → SplitMove = λ found. result g.shown.image g.shown.state (frame ∷ next.others) (with_taken (count + count) frame) next.others c.args.next w found in
    let taken = takes_two w frame (λ b a rest. result g.shown.image g.shown.state (frame ∷ next.others) rest next.others c.args.next w (applied (op_of c.args.operation) a b)) enough in
    let new = c.put_number.new.mote in
    let fits : FitsSigned w32 c.in-Some.number = search rules in
    rw c.put_number.ensures.on
    (gives_number g.shown memory new insn c.args.next c.requires (2 * c.cell_count-count.result) (count + count) w c.in-Some.number c.in-Some.number (omega (arith, c.cell_count-count.ensures)) fits refl enough c.put_number.ensures.stepped
    (taken ∙ ap moves (sym applied_is ∙ c.in-Some.is)))

pub returns-in-None : goal.returns-in-None
returns-in-None g c =
    let memory = c.args.mote.now in
    let w = c.args.width in
    let count = count_of w in
    let insn = insns.Bin w c.args.operation in
    let next = c.requires.ready.next in
    let frame = next.frame in
    let operands = frame.cells.operands in
    let here = at g.shown memory memory insn c.args.next c.requires in
    let enough : count + count ≤ length operands = omega (arith, here.operands.cells, cells_same w) in
    let b = number_of (reverse (take count operands)) in
    let a = number_of (reverse (take count (drop count operands))) in
    let right = c.number_below-right in
    let left = c.number_below-left in
    let right_is = to_z-of_z w32 right.result right.ensures.fits ∙ right.ensures.value ∙ number_is g.shown memory memory insn c.args.next c.requires w 0 (omega (arith, enough)) in
    let left_is = to_z-of_z w32 left.result left.ensures.fits ∙ left.ensures.value ∙ ap (λ above. number_below w above (youngest_frame memory.region).cells) c.cell_count-count.ensures
    ∙ number_is g.shown memory memory insn c.args.next c.requires w count enough in
    let applied_is = c.apply.ensures.value ∙ ap (λ of. applied of (to_z w32 (of_z w32 left.result)) (to_z w32 (of_z w32 right.result))) c.operator.ensures ∙ ap₂ (applied (op_of c.args.operation)) left_is right_is in
    let moves : Option ℤ → SplitMove = λ found. result g.shown.image g.shown.state (frame ∷ next.others) (with_taken (count + count) frame) next.others c.args.next w found in
    let taken = takes_two w frame (λ b a rest. result g.shown.image g.shown.state (frame ∷ next.others) rest next.others c.args.next w (applied (op_of c.args.operation) a b)) enough in
    let here_is = move_here g.shown memory memory insn c.args.next c.requires in
    λ ticks. record {
      is_throw = here_is ∙ taken ∙ ap moves (sym applied_is ∙ c.in-None.is) ∙ ap (λ frames. throws g.shown.image g.shown.state frames 4) (sym next.frames_are);
      of_library = omega arith;
      same = record { memory = refl; ticks = refl };
    }
