use Rattle.image_instr.specs.declared.insn.Kind.TheVariants as kind
use Rattle.image_instr.specs.declared.insn.Width.TheVariants as width
use Rattle.mote_exec.proofs.LocalWidths.{store_step}
use Rattle.mote_exec.proofs.StoredLocals.{popped_cells_there, popped_ref_there, stores_number, stores_ref}
use Rattle.mote_exec.proofs.locals.store.Goals as goal

pub pop_ref_local-requires-clause-there : goal.pop_ref_local-requires-clause-there
pop_ref_local-requires-clause-there g c =
    let memory = c.args.mote.now in
    let step = store_step g.shown memory c.args.local c.args.next c.args.kind kind.Ref c.in-Ref.is c.requires in
    popped_ref_there g.shown memory memory c.args.local c.args.next step

pub pop_cell_local-requires-clause-there : goal.pop_cell_local-requires-clause-there
pop_cell_local-requires-clause-there g c =
    let memory = c.args.mote.now in
    let step = store_step g.shown memory c.args.local c.args.next c.args.kind kind.One c.in-One.is c.requires in
    popped_cells_there g.shown memory memory width.One c.args.local c.args.next step

pub pop_cell_local-requires-in-Two-clause-there : goal.pop_cell_local-requires-in-Two-clause-there
pop_cell_local-requires-in-Two-clause-there g c =
    let memory = c.args.mote.now in
    let step = store_step g.shown memory c.args.local c.args.next c.args.kind kind.Two c.in-Two.is c.requires in
    popped_cells_there g.shown memory memory width.Two c.args.local c.args.next step

pub returns-in-Ref : goal.returns-in-Ref
returns-in-Ref g c =
    let memory = c.args.mote.now in
    let step = store_step g.shown memory c.args.local c.args.next c.args.kind kind.Ref c.in-Ref.is c.requires in
    rw c.pop_ref_local.ensures.on (stores_ref g.shown memory c.pop_ref_local.new.mote c.args.local c.args.next step c.pop_ref_local.ensures.stepped)

pub returns-in-One : goal.returns-in-One
returns-in-One g c =
    let memory = c.args.mote.now in
    let step = store_step g.shown memory c.args.local c.args.next c.args.kind kind.One c.in-One.is c.requires in
    rw c.pop_cell_local.ensures.on (stores_number g.shown memory c.pop_cell_local.new.mote width.One c.args.local c.args.next step c.pop_cell_local.ensures.stepped)

pub returns-in-Two : goal.returns-in-Two
returns-in-Two g c =
    let memory = c.args.mote.now in
    let step = store_step g.shown memory c.args.local c.args.next c.args.kind kind.Two c.in-Two.is c.requires in
    rw c.pop_cell_local-in-Two.ensures.on (stores_number g.shown memory c.pop_cell_local-in-Two.new.mote width.Two c.args.local c.args.next step c.pop_cell_local-in-Two.ensures.stepped)
