-- Methods with code by their ids, and where their frames go on.
use Rattle.std.proofs.Common.{◌≡◌, ℕ, ◌+◌, ◌-◌, ◌≤◌, Bool, true, false, nat_lt, if◌then◌else◌, [], drop, slice_get, Option, Some, None, refl, ap, ◌∙◌}
use Rattle.std.specs.Option.{option_map_or}
use Rattle.std.proofs.lemmas.Bool.{ltb-false}
use Rattle.std.proofs.lemmas.Option.{none-some}
use Rattle.library.specs.Classes.{first_own}
use Rattle.image_instr.specs.declared.insn.MInsn.{MInsn}
use Rattle.image_instr.specs.Reading.{insn_at}
use Rattle.image_form.specs.declared.record.Image.{Image}
use Rattle.image_form.specs.declared.record.Method.{Method}
use Rattle.image_form.specs.Grammar.{IsMethod}
use Rattle.split_safety.specs.Safety.{IsSound}
use Rattle.split_safety.proofs.facts.Lists.{all_of_each}
use Rattle.split_safety.proofs.moves.Throwing.{own_method}
use Rattle.mote_stack.specs.Frames.{Frame}
use Rattle.mote_model.specs.SplitState.{method_at}
use Rattle.mote_call.specs.Leaving.{IsInCode, behind, code_of}

-- a method with code is one of the image's
own_by : (below : Bool) (id : ℕ) (found : Option Method) (method : Method) → nat_lt id first_own ≡ below → (if below then None else found) ≡ Some method → (first_own ≤ id) × (found ≡ Some method)
own_by true id found method test e = absurd (none-some method e)
own_by false id found method test e = (ltb-false id first_own test, e)

pub own_id : (image : Image) (id : ℕ) (method : Method) → method_at image id ≡ Some method → (first_own ≤ id) × (slice_get image.methods (id - first_own) ≡ Some method)
own_id image id method e = own_by (nat_lt id first_own) id (slice_get image.methods (id - first_own)) method refl e

pub behind_is : (image : Image) (frame : Frame) (in_code : IsInCode image frame) → behind image frame ≡ frame.pc + in_code.size
behind_is image frame in_code =
    let next : Option (MInsn × ℕ) → ℕ = λ found. option_map_or (λ (found : MInsn × ℕ). frame.pc + found.1) found 0 in
    let code : code_of image frame.method ≡ in_code.method.code = ap (λ (o : Option Method). option_map_or (λ (method : Method). method.code) o []) in_code.found in
    ap (λ code. next (insn_at (drop frame.pc code))) code ∙ ap next in_code.there

pub of_grammar : (image : Image) → IsSound image → (id : ℕ) (method : Method) → method_at image id ≡ Some method → IsMethod image.types method
of_grammar image sound id method found = own_method (IsMethod image.types) image id method (all_of_each (IsMethod image.types) [] image.methods sound.image_is.methods_are) found
