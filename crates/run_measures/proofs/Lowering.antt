-- Moves that are ticks, end the run, or go on to a state of a lower rank, whichever machine makes them.
use Rattle.std.proofs.Common.{◌≡◌, ℕ, ◌<◌, Bool, true, false, cond, List, Option, Some, None, sym, ap, subst}
use Rattle.std.specs.Option.{option_map_or}
use Rattle.account.specs.Account.{Event, Need, Move, Does, Stops, Stuck}

-- where the move goes on without a tick, the rank of the next state is below this one
pub record Lowers {State Ending : Type 0} (rank : State → ℕ) (bound : ℕ) (move : Move State Ending) : Type 0 where
  pub lower : (need : Need) (events : List Event) (next : State) → move ≡ Does need events next → need.tick ≡ false → rank next < bound

module _ {State Ending : Type 0} {rank : State → ℕ} {bound : ℕ} where
  pub stuck : Lowers {Ending = Ending} rank bound Stuck
  stuck = record { lower = λ need events next is. absurd cc }

  pub stops : (need : Need) (events : List Event) (ending : Ending) → Lowers rank bound (Stops need events ending)
  stops need events ending = record { lower = λ other more next is. absurd cc }

  pub ticks : (need : Need) (events : List Event) (state : State) → need.tick ≡ true → Lowers {Ending = Ending} rank bound (Does need events state)
  ticks need events state tick =
      record { lower = λ other more next is quiet. let same : need ≡ other = cc in let e : need.tick ≡ other.tick = ap (λ (need : Need). need.tick) same in absurd (let bad : true ≡ false = cc in cc) }

  pub to_state : (need : Need) (events : List Event) (state : State) → (need.tick ≡ false → rank state < bound) → Lowers {Ending = Ending} rank bound (Does need events state)
  to_state need events state below =
      record {
        lower = λ other more next is quiet.
            let same : need ≡ other = cc in
            let state_is : state ≡ next = cc in
            subst (λ (state : State). rank state < bound) state_is (below (subst (λ (need : Need). need.tick ≡ false) (sym same) quiet));
      }

  pub either : (test : Bool) (first second : Move State Ending) → Lowers rank bound first → Lowers rank bound second → Lowers rank bound (cond test first second)
  either true first second p q = p
  either false first second p q = q

  pub mapped_or : {X : Type 0} (found : Option X) (use_it : X → Move State Ending) (other : Move State Ending) → ((x : X) → Lowers rank bound (use_it x)) → Lowers rank bound other → Lowers rank bound (option_map_or use_it found other)
  mapped_or None use_it other each none = none
  mapped_or (Some x) use_it other each none = each x
