use Rattle.std.proofs.Common.{[], take}
use Rattle.std.specs.List.{flat_map}
use Rattle.flow_verify.specs.Lowest.{IsLowest}
use Rattle.flow_verify.specs.Waves.{sent_at, UnruledIn}
use Rattle.flow_verify.proofs.waves.Adding.{Sends}
use Rattle.flow_verify.proofs.sending.send_wave.Given as goal

abbrev pub invariant-loop-position : goal.invariant-loop-position
invariant-loop-position l =
    record {
      sent : Sends l.body.ops l.fn.store l.store (flat_map (sent_at l.set l.body l.fn.store l.known) (take l.position-index l.wave)) [] l.arriving.items;
      ruled : IsLowest (UnruledIn l.set l.body l.fn.store l.known (take l.position-index l.wave)) l.failing;
    }
