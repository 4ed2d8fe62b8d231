use Rattle.image_instr.specs.declared.insn.Kind.TheVariants as kind
use Rattle.image_instr.specs.declared.insn.Width.TheVariants as width
use Rattle.mote_exec.proofs.LoadedLocals.{cells_room, cells_there, loads_number, loads_ref, ref_room, ref_there}
use Rattle.mote_exec.proofs.LocalWidths.{load_step}
use Rattle.mote_exec.proofs.locals.load.Goals as goal

pub push_ref_local-requires-clause-there : goal.push_ref_local-requires-clause-there
push_ref_local-requires-clause-there g c =
    let memory = c.args.mote.now in
    let step = load_step g.shown memory c.args.local c.args.next c.args.kind kind.Ref c.in-Ref.is c.requires in
    ref_there g.shown memory memory c.args.local c.args.next step

pub push_ref_local-requires-clause-room : goal.push_ref_local-requires-clause-room
push_ref_local-requires-clause-room g c =
    let memory = c.args.mote.now in
    let step = load_step g.shown memory c.args.local c.args.next c.args.kind kind.Ref c.in-Ref.is c.requires in
    ref_room g.shown memory memory c.args.local c.args.next step

pub push_cell_local-requires-clause-there : goal.push_cell_local-requires-clause-there
push_cell_local-requires-clause-there g c =
    let memory = c.args.mote.now in
    let step = load_step g.shown memory c.args.local c.args.next c.args.kind kind.One c.in-One.is c.requires in
    cells_there g.shown memory memory width.One c.args.local c.args.next step

pub push_cell_local-requires-clause-room : goal.push_cell_local-requires-clause-room
push_cell_local-requires-clause-room g c =
    let memory = c.args.mote.now in
    let step = load_step g.shown memory c.args.local c.args.next c.args.kind kind.One c.in-One.is c.requires in
    cells_room g.shown memory memory width.One c.args.local c.args.next step

pub push_cell_local-requires-in-Two-clause-there : goal.push_cell_local-requires-in-Two-clause-there
push_cell_local-requires-in-Two-clause-there g c =
    let memory = c.args.mote.now in
    let step = load_step g.shown memory c.args.local c.args.next c.args.kind kind.Two c.in-Two.is c.requires in
    cells_there g.shown memory memory width.Two c.args.local c.args.next step

pub push_cell_local-requires-in-Two-clause-room : goal.push_cell_local-requires-in-Two-clause-room
push_cell_local-requires-in-Two-clause-room g c =
    let memory = c.args.mote.now in
    let step = load_step g.shown memory c.args.local c.args.next c.args.kind kind.Two c.in-Two.is c.requires in
    cells_room g.shown memory memory width.Two c.args.local c.args.next step

pub returns-in-Ref : goal.returns-in-Ref
returns-in-Ref g c =
    let memory = c.args.mote.now in
    let step = load_step g.shown memory c.args.local c.args.next c.args.kind kind.Ref c.in-Ref.is c.requires in
    rw c.push_ref_local.ensures.on (loads_ref g.shown memory c.push_ref_local.new.mote c.args.local c.args.next step c.push_ref_local.ensures.stepped)

pub returns-in-One : goal.returns-in-One
returns-in-One g c =
    let memory = c.args.mote.now in
    let step = load_step g.shown memory c.args.local c.args.next c.args.kind kind.One c.in-One.is c.requires in
    rw c.push_cell_local.ensures.on (loads_number g.shown memory c.push_cell_local.new.mote width.One c.args.local c.args.next step c.push_cell_local.ensures.stepped)

pub returns-in-Two : goal.returns-in-Two
returns-in-Two g c =
    let memory = c.args.mote.now in
    let step = load_step g.shown memory c.args.local c.args.next c.args.kind kind.Two c.in-Two.is c.requires in
    rw c.push_cell_local-in-Two.ensures.on (loads_number g.shown memory c.push_cell_local-in-Two.new.mote width.Two c.args.local c.args.next step c.push_cell_local-in-Two.ensures.stepped)
