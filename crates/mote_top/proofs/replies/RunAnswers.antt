-- What a run of a new mote answers is the reply of its image.
use Rattle.std.proofs.Common.{◌≡◌, ℕ, ◌+◌, ◌<◌, ◌≤◌, Bool, true, false, nat_le, if◌then◌else◌, List, [], drop, map, Option, Some, None, refl, sym, ap, subst, ◌∙◌}
use Rattle.std.specs.Prelude.{unwrap_or}
use Rattle.std.proofs.lemmas.Bool.{le-leb, lt-leb}
use Rattle.std.proofs.lemmas.List.{drop-map}
use Rattle.dialogue.specs.Answers as gets
use Rattle.dialogue.specs.Answers.{answers_of, bytes_of, MayGive}
use Rattle.dialogue.specs.Limits.{Limits}
use Rattle.dialogue.specs.Outcome.{Outcome}
use Rattle.dialogue.proofs.Inputs.{bytes_of-answers_of}
use Rattle.host_face.specs.Talk.{without_first}
use Rattle.image_form.specs.declared.record.Image.{Image}
use Rattle.image_form.specs.declared.record.Method.{Method}
use Rattle.image_form.specs.Library.{signature}
use Rattle.account.specs.Account.{Event, Standing, Ends, Ended, Spent, HeapWanted, StackWanted, Settled, Goes, Over, standing_at}
use Rattle.account.specs.Run.{EndsSo}
use Rattle.account.specs.RunLaws.{asked}
use Rattle.account.proofs.Answering.{answers_left, gets-dialogue_of}
use Rattle.mote_model.specs.declared.ending.Ending.{Ending}
use Rattle.mote_model.specs.declared.ending.Ending.TheVariants as ending
use Rattle.mote_model.specs.declared.memory.State.{State as Memory}
use Rattle.mote_model.specs.SplitMoves as split
use Rattle.mote_model.specs.SplitRun.{start_main, start_of, start_state}
use Rattle.mote_model.specs.SplitState.{State, frame_cells, method_at}
use Rattle.mote_model.specs.SplitStep.{machine}
use Rattle.run_loop.specs.Ran as loop
use Rattle.run_loop.specs.Ran.{IsEnding, Ran, RanTo, Start}
use Rattle.mote_core.specs.Kept.{begun}
use Rattle.set_runs.proofs.SplitAnswers.{split_asks}
use Rattle.set_outcome.specs.ImageOutcome.{LimitedSo, bounds_of, ending_of, outcome_of}
use Rattle.mote_top.specs.declared.status.Status.{Status}
use Rattle.mote_top.specs.declared.status.Status.TheVariants as status
use Rattle.mote_top.specs.Endings.{split_status}
use Rattle.mote_top.specs.Call.{Spoken, spoken}
use Rattle.mote_top.specs.Reply.{Reply, RunsImage, IsRunEnd, dialogue_of, left_of, quiet}
use Rattle.mote_top.specs.Answer.{Replied, Failed, Answers}
use Rattle.mote_top.proofs.replies.Answering.{said_of, broke_of, Replied-quiet}

-- ---- endings

ending_is : (ends : Ends split.Ending) (how : Ending) → IsEnding ends how → how ≡ ending_of ends
ending_is (Ended split.Done) how is = is
ending_is (Ended (split.Uncaught class)) how is = is
ending_is (Ended (split.Misfit class place)) how is = is
ending_is Spent how is = is
ending_is (HeapWanted need live) how is = is
ending_is (StackWanted need used) how is = is

end_status : (image : Image) (ends : Ends split.Ending) → IsRunEnd (split_status image (ending_of ends))
end_status image (Ended split.Done) = tt
end_status image (Ended (split.Uncaught class)) = tt
end_status image (Ended (split.Misfit class place)) = tt
end_status image Spent = tt
end_status image (HeapWanted need live) = tt
end_status image (StackWanted need used) = tt

-- ---- main

abbrev pub no_method : Method
no_method = record { sig = signature 0 0 0; ref_locals = 0; cell_locals = 0; body = 0; code = []; handlers = [] }

-- the method that is main's
abbrev pub main_of : Image → Method
main_of image = unwrap_or (method_at image image.main) no_method

-- ---- what is left

-- what is left of the input is what a run leaves of its answers
left_is : (old now : Option (List ℕ)) (count : ℕ) (answers last : gets.Answers) → MayGive old answers → now ≡ without_first count old → last ≡ drop count answers → now ≡ left_of old last
left_is None now count answers last may rest dropped = rest
left_is (Some input) now count answers last may rest dropped =
    let given : last ≡ answers_of (drop count input) = dropped ∙ ap (drop count) may ∙ drop-map Some count input in
    rest ∙ ap (λ (bytes : List ℕ). Some bytes) (sym (bytes_of-answers_of (drop count input)) ∙ ap bytes_of (sym given))

-- answers that a console may give
given : (old : Option (List ℕ)) → (answers : gets.Answers) × MayGive old answers × (old ≡ left_of old answers)
given None = ([], tt, refl)
given (Some input) = (answers_of input, refl, ap (λ (bytes : List ℕ). Some bytes) (sym (bytes_of-answers_of input)))

-- ---- the limited run

module _ (image : Image) (heap size ticks : ℕ) (method : Method) (found : method_at image image.main ≡ Some method) where
  abbrev pub limits : Limits
  limits = record { heap = heap; stack = size; ticks = ticks }

  abbrev first : gets.Answers → Standing State
  first answers = standing_at (start_state image method answers) 0 0

  abbrev by : gets.Answers → Bool → Settled State split.Ending
  by answers fits = if fits then Goes [] (first answers) else Over [] (first answers) (StackWanted (frame_cells method) 0)

  starts : (answers : gets.Answers) (fits : Bool) → nat_le (frame_cells method) size ≡ fits → start_of image (bounds_of limits) answers ≡ by answers fits
  starts answers fits is = ap (start_main image (bounds_of limits) answers) found ∙ ap (by answers) is

  -- the reply of an outcome, with what is left
  abbrev made : Outcome Ending → Option (List ℕ) → Reply
  made outcome left = record { status = split_status image outcome.ending; dialogue = outcome.dialogue; left = left }

  -- a run that ended so is the limited run of the image
  replies : (left now : Option (List ℕ)) (answers : gets.Answers) (events : List Event) (last : Standing State) (ends : Ends split.Ending) → MayGive left answers
      → EndsSo (machine image) (bounds_of limits) (start_of image (bounds_of limits) answers) events last ends → now ≡ left_of left (outcome_of events last ends).left
      → RunsImage image limits left (made (outcome_of events last ends) now)
  replies left now answers events last ends may runs same =
      record {
        status = end_status image ends;
        answers = answers;
        may = may;
        ends =
            record {
              outcome = outcome_of events last ends;
              ends = record { events = events; last = last; how = ends; runs = runs; is = refl };
              is = ap (made (outcome_of events last ends)) same;
            };
      }

  -- ---- where main's frame does not fit

  pub wants : size < frame_cells method → (left : Option (List ℕ)) → RunsImage image limits left (quiet (status.StackWanted (frame_cells method) 0) left)
  wants less left =
      let may = given left in
      let last = first may.0 in
      let over : EndsSo (machine image) (bounds_of limits) (start_of image (bounds_of limits) may.0) [] last (StackWanted (frame_cells method) 0) =
      record { moves = 0; over = starts may.0 false (lt-leb (frame_cells method) size less) }
      in
      replies left left may.0 [] last (StackWanted (frame_cells method) 0) may.1 over may.2

  -- ---- where it does

  module _ {C : Type 0} (left shown noted : C → Option (List ℕ)) (faults : C → ℕ) (room : C → Option ℕ) (answered : gets.Answers) (fits : frame_cells method ≤ size) (old new : C) (after : Memory) where
    abbrev May : Reply → Type 0
    May reply = RunsImage image limits (left old) reply

    abbrev spoken_old : Spoken
    spoken_old = spoken left shown noted faults room old

    abbrev spoken_new : Spoken
    spoken_new = spoken left shown noted faults room new

    abbrev start : Start
    start = record { at = begun image size method answered; heap = heap }

    from_start : (answers : gets.Answers) (events : List Event) (last : Standing State) (ends : Ends split.Ending) → EndsSo (machine image) (bounds_of limits) (Goes [] (first answers)) events last ends
        → EndsSo (machine image) (bounds_of limits) (start_of image (bounds_of limits) answers) events last ends
    from_start answers events last ends runs =
        subst (λ (s : Settled State split.Ending). EndsSo (machine image) (bounds_of limits) s events last ends) (sym (starts answers true (le-leb (frame_cells method) size fits))) runs

    ended : (how : Ending) → RanTo left shown noted faults room start ticks old new after how → Replied dialogue_of May spoken_old spoken_new (split_status image how)
    ended how ran =
        let rest : left new ≡ without_first (asked ran.events) (left old) = ran.rest in
        let dropped = answers_left (machine image) (λ (state : State). state.answers) (split_asks image) (bounds_of limits) (start_state image method ran.answers) 0 0 ran.events ran.last ran.ends ran.runs in
        let last = ran.last.state in
        let same = left_is (left old) (left new) (asked ran.events) ran.answers last.answers ran.may rest dropped in
        record {
          reply = made (outcome_of ran.events ran.last ran.ends) (left new);
          may = replies (left old) (left new) ran.answers ran.events ran.last ran.ends ran.may (from_start ran.answers ran.events ran.last ran.ends ran.runs) same;
          same = ap (split_status image) (ending_is ran.ends how ran.ending_is);
          talked = said_of left shown noted faults room old new (outcome_of ran.events ran.last ran.ends).dialogue ran.talked;
          same_left = refl;
          rest = rest ∙ ap (λ count. without_first count (left old)) (sym (gets-dialogue_of false ran.events));
        }

    failed : loop.Failed left shown noted faults room start ticks old new → Failed dialogue_of May spoken_old spoken_new
    failed ran =
        let outcome = outcome_of ran.events ran.last ran.ends in
        record {
          reply = made outcome (left_of (left old) outcome.left);
          may = replies (left old) (left_of (left old) outcome.left) ran.answers ran.events ran.last ran.ends ran.may (from_start ran.answers ran.events ran.last ran.ends ran.runs) refl;
          broke = broke_of left shown noted faults room old new outcome.dialogue ran.broke;
        }

    -- the run answered this ending
    pub run_answers : (how : Ending) → Ran left shown noted faults room start ticks old new after how → Answers dialogue_of May spoken_old spoken_new (split_status image how)
    run_answers ending.ConsoleFault ran = failed ran
    run_answers ending.Done ran = ended ending.Done ran
    run_answers (ending.Uncaught class) ran = ended (ending.Uncaught class) ran
    run_answers ending.Spent ran = ended ending.Spent ran
    run_answers (ending.HeapWanted need live) ran = ended (ending.HeapWanted need live) ran
    run_answers (ending.StackWanted need used) ran = ended (ending.StackWanted need used) ran
    run_answers (ending.Misfit class place) ran = ended (ending.Misfit class place) ran
