use Rattle.std.proofs.Common.{ℕ, ◌<◌, get_or}
use Rattle.image_check.specs.Visits.{successors}
use Rattle.image_check.specs.Table.{as_depth, Has}
use Rattle.image_check.specs.Flow.{IsSpread}
use Rattle.image_check.proofs.send.send_all.Given as goal

-- the depth is at the successors so far
abbrev pub invariant-loop-index : goal.invariant-loop-index
invariant-loop-index l =
    record {
      spread : IsSpread (successors l.code l.pc l.insn l.size) (as_depth l.d) l.fn.flow.depths.items l.fn.flow.work.items l.flow.depths.items l.flow.work.items;
      each : (k : ℕ) → k < l.index → Has l.flow.depths.items (get_or (successors l.code l.pc l.insn l.size) k 0) (as_depth l.d);
    }
