-- After an end, more steps change nothing; so a run has one ending.
use Rattle.std.proofs.Common.{◌≡◌, ℕ, ◌+◌, zero, suc, List, sym, ap, ◌∙◌, add-zero, add-suc, add_comm}
use Rattle.dialogue.specs.Answers.{Answers}
use Rattle.dialogue.specs.Dialogue.{Item}
use Rattle.dialogue.specs.Outcome.{Outcome}
use Rattle.dialogue.specs.Run.{Machine, Progress, Over, advance, run_from, EndsSo}

pub run_from-over : {State Ending : Type 0} (machine : Machine State Ending) (start : Progress State Ending) (said : List Item) (last : State) (ending : Ending) (steps more : ℕ) → run_from machine start steps ≡ Over said last ending → run_from machine start (steps + more) ≡ Over said last ending
run_from-over machine start said last ending steps zero over = ap (run_from machine start) (add-zero steps) ∙ over
run_from-over machine start said last ending steps (suc more) over =
    ap (run_from machine start) (add-suc steps more)
    ∙ ap (advance machine) (run_from-over machine start said last ending steps more over)

-- both runs, each as long as the two together, are one
pub one_ending : {State Ending : Type 0} (machine : Machine State Ending) (start : Progress State Ending) (first second : Outcome Ending) → EndsSo machine start first → EndsSo machine start second → first ≡ second
one_ending {State} {Ending} machine start first second a b =
    let one = run_from-over machine start first.dialogue a.last first.ending a.steps b.steps a.over in
    let other = run_from-over machine start second.dialogue b.last second.ending b.steps a.steps b.over in
    let same = ap (run_from machine start) (add_comm a.steps b.steps) in
    same_outcome first second a.last b.last (sym one ∙ same ∙ other) a.left b.left
  where
    outcome : Ending → List Item → Answers → Outcome Ending
    outcome ending dialogue left = record { ending = ending; dialogue = dialogue; left = left }

    same_parts : (e f : Ending) (d h : List Item) (l m : Answers) → e ≡ f → d ≡ h → l ≡ m → outcome e d l ≡ outcome f h m
    same_parts e f d h l m p q r = cc

    same_outcome : (first second : Outcome Ending) (x y : State) → Over first.dialogue x first.ending ≡ Over second.dialogue y second.ending → first.left ≡ machine.left x → second.left ≡ machine.left y → first ≡ second
    same_outcome first second x y both left_a left_b =
        let endings : first.ending ≡ second.ending = cc in
        let dialogues : first.dialogue ≡ second.dialogue = cc in
        let states : x ≡ y = cc in
        same_parts first.ending second.ending first.dialogue second.dialogue first.left second.left endings dialogues (left_a ∙ ap machine.left states ∙ sym left_b)
