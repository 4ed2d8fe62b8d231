-- Both operands count.
use Rattle.std.proofs.Common.{ap, arith, add-one, take, drop}
use Rattle.image_instr.specs.Effect.{refs_of, cells_of}
use Rattle.jvm_model.specs.ImageExpansion.{refs_in, cells_in}
use Rattle.flow_split.proofs.RoomsOf.{two_sums}
use Rattle.flow_split.proofs.restacking.rooms_at.Goals as goal

pub returns-clause-is : goal.returns-clause-is
returns-clause-is c =
    let shapes = c.args.shapes.now in
    let at = c.args.position in
    record {
      refs = omega (arith, c.room_at-top.ensures.is.refs, c.room_at-below.ensures.is.refs, two_sums refs_of shapes at, ap (λ n. refs_in (take 1 (drop n shapes))) (add-one at));
      cells = omega (arith, c.room_at-top.ensures.is.cells, c.room_at-below.ensures.is.cells, two_sums cells_of shapes at, ap (λ n. cells_in (take 1 (drop n shapes))) (add-one at));
    }
