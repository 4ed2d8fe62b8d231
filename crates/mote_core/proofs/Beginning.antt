-- The memory when main's frame is pushed on an empty stack.
use Rattle.std.proofs.Common.{◌≡◌, ℕ, zero, suc, ◌-◌, List, [], ◌∷◌, ◌++◌, map, replicate, slice_index, Option, Some, None, refl, sym, ap, ◌∙◌, arith}
use Rattle.std.specs.List.{AllByRecursion}
use Rattle.std.specs.Option.{option_map_or}
use Rattle.std.proofs.lemmas.Bool.{false≢true}
use Rattle.std.proofs.lemmas.List.{append-nil}
use Rattle.dialogue.specs.Answers.{Answers}
use Rattle.image_form.specs.declared.record.Image.{Image}
use Rattle.image_form.specs.declared.record.Method.{Method}
use Rattle.mote_stack.specs.Frames.{Stack, cells_in_use, frame_need, locals_from, with_frame}
use Rattle.mote_model.specs.declared.memory.State.{State as Memory}
use Rattle.mote_model.specs.State.{Reference}
use Rattle.mote_model.specs.Picture.{IsNaming, Pictures, IsKept, bodies_of, body_of, cell_of, shown_stack}
use Rattle.mote_model.specs.SplitRun.{first_frame, start_state}
use Rattle.mote_model.specs.SplitState.{frame_cells, method_at}
use Rattle.split_safety.proofs.facts.Lists.{all_append, all_replicate}
use Rattle.mote_exec.specs.Steps.{with_stack}
use Rattle.mote_call.proofs.CalledStack.{body_there}
use Rattle.mote_core.specs.Kept.{nothing_placed}
use Rattle.mote_core.specs.Begun.{IsEmpty}

-- no object is kept
pub is_naming : IsNaming nothing_placed
is_naming = record { apart = λ first second kept. absurd (false≢true kept); above = λ name kept. absurd (false≢true kept) }

-- without arguments all locals are 0
zeros : (count : ℕ) → locals_from 0 count [] ≡ replicate count 0
zeros count = let same : count - 0 ≡ count = omega (arith) in ap (λ n. replicate n 0) same

-- nulls are cells of 0
null_cells : (n : ℕ) → map (cell_of nothing_placed) (replicate n None) ≡ replicate n 0
null_cells zero = refl
null_cells (suc n) = ap (λ cells. 0 ∷ cells) (null_cells n)

-- and nulls are kept
kept_nulls : (n : ℕ) → AllByRecursion (IsKept nothing_placed) (replicate n None)
kept_nulls n = all_replicate (IsKept nothing_placed) n None tt

module _ (image : Image) (size : ℕ) (old : Memory) (empty : IsEmpty image size old) (method : Method) (found : method_at image image.main ≡ Some method) where
  body_is : slice_index (bodies_of image) image.main ≡ method.body
  body_is = body_there image image.main method found

  -- ---- the stack

  pub body_before : slice_index old.region.bodies image.main ≡ method.body
  body_before = ap (λ (stack : Stack). slice_index stack.bodies image.main) empty.region ∙ body_is

  pub wanted : frame_need old.region image.main ≡ frame_cells method
  wanted = omega (arith, body_before)

  pub unused : cells_in_use old.region ≡ 0
  unused = ap cells_in_use empty.region

  stack_begun : with_frame old.region image.main method.ref_locals method.cell_locals 0 0 ≡ shown_stack image nothing_placed size (first_frame image.main method ∷ [])
  stack_begun =
      let body : slice_index (bodies_of image) image.main ≡ body_of image image.main = body_is ∙ sym (ap (λ (o : Option Method). option_map_or (λ (method : Method). method.body) o 0) found) in
      let nulls : List Reference = replicate method.ref_locals None in
      let refs : locals_from 0 method.ref_locals [] ≡ map (cell_of nothing_placed) (nulls ++ []) = zeros method.ref_locals ∙ sym (ap (map (cell_of nothing_placed)) (append-nil nulls) ∙ null_cells method.ref_locals) in
      let cells : locals_from 0 method.cell_locals [] ≡ replicate {A = ℕ} method.cell_locals 0 ++ [] = zeros method.cell_locals ∙ sym (append-nil (replicate method.cell_locals 0)) in
      ap (λ stack. with_frame stack image.main method.ref_locals method.cell_locals 0 0) empty.region
      ∙ (λ i. record {
        size = size;
        bodies = bodies_of image;
        frames = record { method = image.main; pc = 0; body = body i; refs = refs i; cells = cells i } ∷ [];
      })

  -- the memory with main's frame stands for the start of the run, whatever its gets are answered
  pub begun : (region : Stack) → region ≡ with_frame old.region image.main method.ref_locals method.cell_locals 0 0 → (answers : Answers) → Pictures image nothing_placed size (with_stack old region) (start_state image method answers)
  begun region e answers =
      record {
        naming_is = is_naming;
        region = e ∙ stack_begun;
        ref_statics = empty.ref_statics ∙ sym (null_cells image.static_refs);
        cell_statics = empty.cell_statics;
        kept_frames = (all_append (IsKept nothing_placed) (replicate method.ref_locals None) [] (kept_nulls method.ref_locals) tt, tt);
        kept_statics = kept_nulls image.static_refs;
      }
