use Rattle.std.proofs.Common.{ap, ◌∙◌}
use Rattle.mote_stack.specs.Frames.{youngest_frame, with_cells}
use Rattle.mote_exec.proofs.LocalCells.{one_set}
use Rattle.mote_exec.proofs.locals.set_cell.Goals as goal

pub returns : goal.returns
returns c = c.set_int.ensures ∙ ap (with_cells c.args.region.now) (one_set (youngest_frame c.args.region.now).cells c.args.local c.args.cell c.requires.there)
