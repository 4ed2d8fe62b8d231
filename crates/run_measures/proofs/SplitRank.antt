-- The rank of a state of the split machine: the code behind the pcs of its frames. A frame that goes on or jumps forward
-- lowers it, and so does one that leaves.
use Rattle.std.proofs.Common.{◌≡◌, ℕ, suc, ◌+◌, ◌<◌, ◌≤◌, List, [], ◌∷◌, length, drop, Some, sym, subst, arith, length-drop}
use Rattle.std.specs.List.{sum_by}
use Rattle.std.specs.Option.{option_map_or}
use Rattle.std.proofs.lemmas.List.Sums.{sum_by-cons}
use Rattle.std.proofs.lemmas.Option.{none-some}
use Rattle.image_instr.specs.declared.insn.MInsn.{MInsn}
use Rattle.image_instr.specs.Reading.{insn_at}
use Rattle.image_form.specs.declared.record.Image.{Image}
use Rattle.image_form.specs.declared.record.Method.{Method}
use Rattle.mote_model.specs.State.{Frame}
use Rattle.mote_model.specs.SplitState.{method_at}
use Rattle.mote_model.specs.SplitStep.{code_from}

-- a frame counts the bytes of its code from its pc on, and itself
abbrev pub code_behind : Image → Frame → ℕ
code_behind image frame = suc (length (code_from image frame))

abbrev pub rank_of : Image → List Frame → ℕ
rank_of image frames = sum_by (code_behind image) frames

-- the code of a method
abbrev code_in : Image → ℕ → List ℕ
code_in image id = option_map_or (λ (method : Method). method.code) (method_at image id) []

-- there is code from the frame's pc on, and the pc with which it goes on is behind it
pub record IsAhead (image : Image) (frame : Frame) (next : ℕ) : Type 0 where
  pub some : 0 < length (code_from image frame)
  pub later : frame.pc < next

found_inside : (code : List ℕ) (found : MInsn × ℕ) → insn_at code ≡ Some found → 0 < length code
found_inside [] found is = absurd (none-some found is)
found_inside (byte ∷ code) found is = omega arith

pub code_there : (image : Image) (frame : Frame) (found : MInsn × ℕ) → insn_at (code_from image frame) ≡ Some found → 0 < length (code_from image frame)
code_there image frame found is = found_inside (code_from image frame) found is

less_behind : (code : List ℕ) (pc next : ℕ) → 0 < length (drop pc code) → pc < next → length (drop next code) < length (drop pc code)
less_behind code pc next some later = omega (arith, length-drop pc code, length-drop next code)

no_more_behind : (code : List ℕ) (pc size : ℕ) → length (drop (pc + size) code) ≤ length (drop pc code)
no_more_behind code pc size = omega (arith, length-drop pc code, length-drop (pc + size) code)

-- ---- the youngest frame

module _ (image : Image) (frame : Frame) (others : List Frame) where
  -- the frame of the same method at a later pc
  pub later_lowers : (first : Frame) → first.method ≡ frame.method → IsAhead image frame first.pc → rank_of image (first ∷ others) < rank_of image (frame ∷ others)
  later_lowers first same ahead =
      let less : length (code_from image first) < length (code_from image frame) =
      subst (λ id. length (drop first.pc (code_in image id)) < length (code_from image frame)) (sym same) (less_behind (code_in image frame.method) frame.pc first.pc ahead.some ahead.later) in
      omega (arith, less, sum_by-cons (code_behind image) first others, sum_by-cons (code_behind image) frame others)

-- the frame below, behind its call
pub return_lowers : (image : Image) (frame caller first : Frame) (others : List Frame) (size : ℕ) → first.method ≡ caller.method → first.pc ≡ caller.pc + size
    → rank_of image (first ∷ others) < rank_of image (frame ∷ caller ∷ others)
return_lowers image frame caller first others size same place =
    let below : length (code_from image first) ≤ length (code_from image caller) =
    subst (λ id. length (drop first.pc (code_in image id)) ≤ length (code_from image caller)) (sym same)
    (subst (λ pc. length (drop pc (code_in image caller.method)) ≤ length (code_from image caller)) (sym place) (no_more_behind (code_in image caller.method) caller.pc size)) in
    omega (arith, below, sum_by-cons (code_behind image) first others, sum_by-cons (code_behind image) caller others, sum_by-cons (code_behind image) frame (caller ∷ others))
