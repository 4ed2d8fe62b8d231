-- Where one machine follows another, the second ends as the first.
use Rattle.std.proofs.Common.{◌≡◌, ℕ, ◌+◌, zero, suc, List, refl, sym, ap, subst, ◌∙◌, add-zero, add-suc}
use Rattle.dialogue.specs.Dialogue.{Item}
use Rattle.dialogue.specs.Outcome.{Outcome}
use Rattle.dialogue.specs.Run.{Step, Goes, Ends, Stuck, Machine, Progress, Running, Over, Lost, after_step, advance, run_from, EndsSo}
use Rattle.dialogue.specs.Simulation.{Matches, Follows, SameOutcome}

-- steps, and then more steps
pub run_from-more : {State Ending : Type 0} (machine : Machine State Ending) (start : Progress State Ending) (steps more : ℕ) → run_from machine start (steps + more) ≡ run_from machine (run_from machine start steps) more
run_from-more machine start steps zero = ap (run_from machine start) (add-zero steps)
run_from-more machine start steps (suc more) =
    ap (run_from machine start) (add-suc steps more)
    ∙ ap (advance machine) (run_from-more machine start steps more)

module _ {First E Second F : Type 0} (first : Machine First E) (second : Machine Second F) (Same : E → F → Type 0) (Belong : First → Second → Type 0) (follows : Follows first second Same Belong) (start : Progress Second F) where
  -- the second machine has come as far as the first
  abbrev pub AsFar : Progress First E → Type 0
  AsFar (Running said state) = (steps : ℕ) × (other : Second) × (run_from second start steps ≡ Running said other) × Belong state other
  AsFar (Over said last ending) = (steps : ℕ) × (other : Second) × (so : F) × (run_from second start steps ≡ Over said other so) × Same ending so × (second.left other ≡ first.left last)
  AsFar Lost = Unit {0}

  matched : (said : List Item) (state : First) (steps : ℕ) (other : Second) → run_from second start steps ≡ Running said other → (step : Step First E) → Matches second Same Belong (first.left state) other step → AsFar (after_step said state step)
  matched said state steps other running (Goes items next) matches =
      let reached = matches said in
      (steps + reached.steps, reached.next, run_from-more second start steps reached.steps ∙ ap (λ from. run_from second from reached.steps) running ∙ reached.running, reached.holds)
  matched said state steps other running (Ends ending) matches =
      let done = matches said in
      (steps + done.steps, done.last, done.ending, run_from-more second start steps done.steps ∙ ap (λ from. run_from second from done.steps) running ∙ done.over, done.holds, done.same_left)
  matched said state steps other running Stuck matches = tt

  go_on : (progress : Progress First E) → AsFar progress → AsFar (advance first progress)
  go_on (Running said state) (steps, other, running, belong) = matched said state steps other running (first.step state) (follows state other belong)
  go_on (Over said last ending) far = far
  go_on Lost far = tt

  pub as_far : (from : Progress First E) → AsFar from → (steps : ℕ) → AsFar (run_from first from steps)
  as_far from far zero = far
  as_far from far (suc steps) = go_on (run_from first from steps) (as_far from far steps)

  -- the second ends as the first
  pub ends_as : (from : Progress First E) → AsFar from → (outcome : Outcome E) → EndsSo first from outcome → (other : Outcome F) × EndsSo second start other × SameOutcome Same outcome other
  ends_as from far outcome ends =
      let last = subst AsFar ends.over (as_far from far ends.steps) in (
        record { ending = last.2; dialogue = outcome.dialogue; left = second.left last.1 },
        record { steps = last.0; last = last.1; over = last.3; left = refl },
        record { ending = last.4; dialogue = refl; left = ends.left ∙ sym last.5 },
      )
