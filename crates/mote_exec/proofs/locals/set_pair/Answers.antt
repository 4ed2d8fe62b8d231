use Rattle.std.proofs.Common.{arith, ◌≡◌, ap, ◌∙◌}
use Rattle.std.proofs.lemmas.Grind.{common_steps}
use Rattle.std.specs.Prelude.{slice_set, ◌+◌}
use Rattle.mote_stack.specs.Frames.{youngest_frame, with_cells}
use Rattle.mote_exec.proofs.LocalCells.{two_set}
use Rattle.mote_exec.proofs.locals.set_pair.Goals as goal

pub returns : goal.returns
returns c =
    let cells = (youngest_frame c.args.region.now).cells in
    let e : c.set_int-2.new.self ≡ with_cells c.args.region.now (slice_set (slice_set cells c.args.local c.args.first) (c.args.local + 1) c.args.second) = grind (arith, common_steps) in
    e ∙ ap (with_cells c.args.region.now) (two_set cells c.args.local c.args.first c.args.second c.requires.there)
