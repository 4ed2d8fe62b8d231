-- Moves from a state that fits lead to states that fit.
use Rattle.std.proofs.Common.{subst}
use Rattle.typed_machine.specs.TypedState.{State}
use Rattle.typed_machine.specs.TypedWorld.{World}
use Rattle.type_safety.specs.Fitting.{Tables, StateFits}
use Rattle.type_safety.specs.Safety.{MoveFits, GoesOnTo, Here, Next, IsSafe, TypedCodeIsSafe, IsSet}
use Rattle.type_safety.proofs.SafeMoves.{facts_keep_safe}
use Rattle.type_safety.proofs.facts.PhaseFacts.{phases_give_facts}

safe_on : (world : World) (tables : Tables) → IsSet world tables → (first later : State) → StateFits world tables first → GoesOnTo world first later → IsSafe world tables later
safe_on world tables set first later fits Here = record { fits = fits; moves = facts_keep_safe world tables set first fits }
safe_on world tables set first later fits (Next need events next is rest) = safe_on world tables set next later (subst (MoveFits world tables) is (facts_keep_safe world tables set first fits)) rest

pub safe_runs : TypedCodeIsSafe
safe_runs files world tables is first fits later way = safe_on world tables (record { closed = is.closed; facts = phases_give_facts files world tables is; types = is.types }) first later fits way
