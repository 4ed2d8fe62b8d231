-- A run of a new mote answers for its image.
use Rattle.std.proofs.Common.{◌≡◌, ℕ, ◌-◌, ◌<◌, ◌≤◌, inl, inr, Bool, if◌then◌else◌, [], List, slice_get, Option, Some, None, refl, sym, ap, subst, ◌∙◌}
use Rattle.std.specs.Prelude.{unwrap_or}
use Rattle.std.proofs.lemmas.Bool.{cases_lt, le-ltb}
use Rattle.std.proofs.lemmas.Option.{none-some}
use Rattle.library.specs.Classes.{first_own}
use Rattle.image_form.specs.Grammar.{IsMain}
use Rattle.image_form.specs.declared.record.Image.{Image}
use Rattle.image_form.specs.declared.record.Method.{Method}
use Rattle.mote_stack.specs.Frames.{Stack}
use Rattle.mote_model.specs.declared.ending.Ending.{Ending}
use Rattle.mote_model.specs.declared.ending.Ending.TheVariants as ending
use Rattle.mote_model.specs.SplitState.{frame_cells, method_at}
use Rattle.split_safety.specs.Ready.{Shown}
use Rattle.run_loop.specs.Ran.{Ran, Stands, Start}
use Rattle.mote_core.specs.Kept.{IsNew, Kept, StandsFor, begun, start_of}
use Rattle.mote_top.specs.declared.status.Status.TheVariants as status
use Rattle.mote_top.specs.Endings.{split_status}
use Rattle.mote_top.specs.Call.{Spoken, spoken}
use Rattle.mote_top.specs.Reply.{Reply, RunsImage, dialogue_of}
use Rattle.mote_top.specs.Answer.{Answers}
use Rattle.mote_top.proofs.replies.Answering.{Replied-quiet}
use Rattle.mote_top.proofs.replies.RunAnswers.{limits, main_of, no_method, run_answers, wants}

-- the cells of a mote's stack
abbrev pub size_of : Kept → ℕ
size_of mote = let memory = mote.memory in let stack = memory.region in stack.size

-- what a new mote stands for, as far as it is seen in it
abbrev pub begins : Kept → Shown
begins mote = begun mote.image (size_of mote) (main_of mote.image) []

-- main's method, as the machine finds it
pub main_found : (image : Image) (main : IsMain image.methods image.main) → method_at image image.main ≡ Some main.method
main_found image main = ap (λ (library : Bool). if library then None else slice_get image.methods (image.main - first_own)) (le-ltb image.main first_own main.not_library) ∙ main.method_is

module _ (image : Image) (heap size : ℕ) (method : Method) (found : method_at image image.main ≡ Some method) (mote : Kept) (new : IsNew image heap size mote) where
  main_is : main_of image ≡ method
  main_is = ap (λ (o : Option Method). unwrap_or o no_method) found

  -- where main's frame fits, the stack that is seen is that of the mote
  size_is : frame_cells method ≤ size → size_of mote ≡ size
  size_is fits =
      let stands = (new.stands method found fits).1 [] in
      let pictures = stands.pictures in
      ap (λ (stack : Stack). stack.size) pictures.region

  pub stands_new : StandsFor (begins mote) mote
  stands_new none =
      elim (cases_lt size (frame_cells method)) [
        | inl less ↦ absurd (none-some (ending.StackWanted (frame_cells method) 0) (sym none ∙ new.wants method found less))
        | inr fits ↦
            let stands = (new.stands method found fits).1 [] in
            let sized = subst (λ n. Stands (begun image n method []) mote.memory) (sym (size_is fits)) stands in
            let named = subst (λ (m : Method). Stands (begun image (size_of mote) m []) mote.memory) (sym main_is) sized in
            (refl, subst (λ (i : Image). Stands (begun i (size_of mote) (main_of i) []) mote.memory) (sym new.image_is) named)
      ]

  start_is : frame_cells method ≤ size → start_of (begins mote) mote ≡ record { at = begun image size method []; heap = heap }
  start_is fits =
      ap (λ (i : Image). record { at = begun i (size_of mote) (main_of i) []; heap = mote.heap }) new.image_is
      ∙ ap (λ n. record { at = begun image n (main_of image) []; heap = mote.heap }) (size_is fits)
      ∙ ap (λ (m : Method). record { at = begun image size m []; heap = mote.heap }) main_is
      ∙ ap (λ h. record { at = begun image size method []; heap = h }) new.heap_is

  module _ {C : Type 0} (left shown noted : C → Option (List ℕ)) (faults : C → ℕ) (room : C → Option ℕ) (ticks : ℕ) (old new_console : C) (after : Kept) (how : Ending)
      (kept : (other : Ending) → mote.ending ≡ Some other → (how ≡ other) × (after ≡ mote) × (new_console ≡ old))
      (ran : mote.ending ≡ None → Ran left shown noted faults room (start_of (begins mote) mote) ticks old new_console after.memory how) where
    abbrev May : Reply → Type 0
    May reply = RunsImage image (limits image heap size ticks method found) (left old) reply

    abbrev seen : C → Spoken
    seen console = spoken left shown noted faults room console

    pub new_mote_answers : Answers dialogue_of May (seen old) (seen new_console) (split_status image how)
    new_mote_answers =
        elim (cases_lt size (frame_cells method)) [
          | inl less ↦
              let same = kept (ending.StackWanted (frame_cells method) 0) (new.wants method found less) in
              let quiet = Replied-quiet May (seen old) (status.StackWanted (frame_cells method) 0) (wants image heap size ticks method found less (left old)) in
              subst (λ (e : Ending). Answers dialogue_of May (seen old) (seen new_console) (split_status image e)) (sym same.0)
              (subst (λ (c : C). Answers dialogue_of May (seen old) (seen c) (status.StackWanted (frame_cells method) 0)) (sym same.2) quiet)
          | inr fits ↦
              let none = (new.stands method found fits).0 in
              let here = subst (λ (start : Start). Ran left shown noted faults room start ticks old new_console after.memory how) (start_is fits) (ran none) in
              run_answers image heap size ticks method found left shown noted faults room [] fits old new_console after.memory how here
        ]
