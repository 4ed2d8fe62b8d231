-- A run has one end.
use Rattle.std.proofs.Common.{◌≡◌, List, sym, ap, ◌∙◌, add_comm}
use Rattle.account.specs.Account.{Event, Bounds, Standing, Ends, Settled, Over}
use Rattle.account.specs.Run.{Machine, run_from, EndsSo}
use Rattle.account.proofs.Running.{run_from-over}

same_parts : {State Ending : Type 0} (events other_events : List Event) (last other_last : Standing State) (how other_how : Ends Ending) → Over events last how ≡ Over other_events other_last other_how → (events ≡ other_events) × (last ≡ other_last) × (how ≡ other_how)
same_parts events other_events last other_last how other_how e = (cc, cc, cc)

-- both runs, each as long as the two together, are one
pub one_end : {State Ending : Type 0} (machine : Machine State Ending) (bounds : Bounds) (start : Settled State Ending) (events other_events : List Event) (last other_last : Standing State) (how other_how : Ends Ending) → EndsSo machine bounds start events last how → EndsSo machine bounds start other_events other_last other_how → (events ≡ other_events) × (last ≡ other_last) × (how ≡ other_how)
one_end machine bounds start events other_events last other_last how other_how one other =
    same_parts events other_events last other_last how other_how (
    sym (run_from-over machine bounds start events last how one.moves other.moves one.over)
    ∙ ap (run_from machine bounds start) (add_comm one.moves other.moves)
    ∙ run_from-over machine bounds start other_events other_last other_how other.moves one.moves other.over
    )
