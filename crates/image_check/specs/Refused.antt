-- Why an image is not checked: its form, or a rule, and an offset of a method at which it fails, or, where
-- all rules hold, an instruction that the machine does not run.
use Rattle.std.specs.Prelude.{◌≡◌, ◌≢◌, ℕ, ◌+◌, ◌-◌, ◌<◌, ◌≤◌, true, false, IsTrue, List, length, drop, Some, None, ◌⊎◌, slice_get}
use Rattle.std.specs.List.{Contains}
use Rattle.library.specs.Classes.{first_own}
use Rattle.image_instr.specs.declared.insn.MInsn.{MInsn}
use Rattle.image_instr.specs.Reading.{insn_at}
use Rattle.image_form.specs.declared.record.Image.{Image}
use Rattle.image_form.specs.declared.record.Method.{Method}
use Rattle.image_check.specs.declared.refusal.CheckCause.{CheckCause}
use Rattle.image_check.specs.declared.refusal.CheckCause.TheVariants.{BadCode, BadTarget, BadId, BadDepth, Crosses, Falls, Unbuilt, Memory}
use Rattle.image_check.specs.declared.refusal.CheckRefusal.{CheckRefusal}
use Rattle.image_check.specs.Code.{Insns, AreIn, CodeIs, JumpsToStarts}
use Rattle.image_check.specs.Ids.{HasIds}
use Rattle.image_check.specs.Built.{is_built}
use Rattle.image_check.specs.Checked.{IsChecked}
use Rattle.image_check.specs.BuiltForm.{has_built_form}
use Rattle.image_check.specs.Visits.{Depth, IsSent, HasOperands, ReturnsResult, FitsBody, moved_by, suffix, goes_on, successors}

-- instructions stand up to the offset, and none stands there, though bytes do
pub record StopsAt (code : List ℕ) (pc : ℕ) : Type 0 where
  pub insns : Insns
  pub left : List ℕ
  pub stand : AreIn 0 code insns pc left
  pub there : 0 < length left
  pub none : insn_at left ≡ None

-- an instruction of the code, at the offset, of which P does not hold
pub record HasOther (code : List ℕ) (pc : ℕ) (P : Insns → ℕ × MInsn → Type 0) : Type 0 where
  pub insns : Insns
  pub insn : MInsn
  pub is_code : CodeIs code insns
  pub stands : Contains insns (pc, insn)
  pub is_not : ¬ P insns (pc, insn)

-- a depth reaches the offset, and of the instruction of this size there P holds
pub record IsReachedWith (image : Image) (method : Method) (pc : ℕ) (P : Depth → MInsn → ℕ → Type 0) : Type 0 where
  pub d : Depth
  pub sent : IsSent image method.code pc d
  pub insn : MInsn
  pub size : ℕ
  pub found : insn_at (drop pc method.code) ≡ Some (insn, size)
  pub fails : P d insn size

-- a successor is reached with another depth than is sent to it
pub record SendsOther (image : Image) (method : Method) (pc : ℕ) (d : Depth) (insn : MInsn) (size : ℕ) : Type 0 where
  pub to : ℕ
  pub other : Depth
  pub successor : Contains (successors method.code pc insn size) to
  pub operands : HasOperands (moved_by image insn) d
  pub sent : IsSent image method.code to other
  pub differ : other ≢ suffix (moved_by image insn) d

-- operands are missing, the return is not the method's result, or a successor has another depth
abbrev pub FailsDepth : Image → Method → ℕ → Depth → MInsn → ℕ → Type 0
FailsDepth image method pc d insn size =
    (¬ HasOperands (moved_by image insn) d) ⊎ ((¬ ReturnsResult method insn) ⊎ SendsOther image method pc d insn size)

-- locals and operands exceed the body before or after the instruction
abbrev pub FailsBody : Image → Method → Depth → MInsn → ℕ → Type 0
FailsBody image method d insn size = (¬ FitsBody method d) ⊎ (¬ FitsBody method (suffix (moved_by image insn) d))

-- control passes the code's end
abbrev pub FailsEnd : Method → ℕ → MInsn → ℕ → Type 0
FailsEnd method pc insn size = IsTrue (goes_on insn) × (length method.code ≤ pc + size)

-- the rule that a cause names fails in the method at the offset
abbrev pub FailsIn : Image → Method → CheckCause → ℕ → Type 0
FailsIn image method BadCode pc = StopsAt method.code pc
FailsIn image method BadTarget pc = HasOther method.code pc (λ insns x. JumpsToStarts method.code insns x)
FailsIn image method BadId pc = HasOther method.code pc (λ insns x. HasIds image method x.1)
FailsIn image method BadDepth pc = IsReachedWith image method pc (FailsDepth image method pc)
FailsIn image method Crosses pc = IsReachedWith image method pc (FailsBody image method)
FailsIn image method Falls pc = IsReachedWith image method pc (λ d insn size. FailsEnd method pc insn size)
FailsIn image method Unbuilt pc = ⊥
FailsIn image method Memory pc = ⊥

-- the image is not of the form that the machine runs, which has no place
pub record IsNoForm (image : Image) (refusal : CheckRefusal) : Type 0 where
  pub no_form : has_built_form image ≡ false
  pub is : refusal ≡ record { cause = Unbuilt; method = 0; pc = 0 }

-- the method of the id is there, and the rule fails in it
pub record FailsThere (image : Image) (refusal : CheckRefusal) : Type 0 where
  pub form : has_built_form image ≡ true
  pub method : Method
  pub is_method : slice_get image.methods (refusal.method - first_own) ≡ Some method
  pub own : first_own ≤ refusal.method
  pub fails : FailsIn image method refusal.cause refusal.pc

-- the machine does not run the instruction that is at the offset
abbrev pub IsUnbuiltAt : Method → ℕ → Type 0
IsUnbuiltAt method pc = HasOther method.code pc (λ insns x. is_built x.1 ≡ true)

-- all rules hold, and the machine does not run the instruction at the offset of the method of the id
pub record IsUnbuiltThere (image : Image) (refusal : CheckRefusal) : Type 0 where
  pub form : has_built_form image ≡ true
  pub checked : IsChecked image
  pub method : Method
  pub is_method : slice_get image.methods (refusal.method - first_own) ≡ Some method
  pub own : first_own ≤ refusal.method
  pub cause : refusal.cause ≡ Unbuilt
  pub unbuilt : IsUnbuiltAt method refusal.pc

-- the image is refused so: for its form, or else for a rule, or else for an instruction
abbrev pub IsRefused : Image → CheckRefusal → Type 0
IsRefused image refusal = IsNoForm image refusal ⊎ (FailsThere image refusal ⊎ IsUnbuiltThere image refusal)

-- for want of memory, or the rule that the cause names fails in the method at the offset
abbrev pub IsFault : Image → Method → CheckCause → ℕ → Type 0
IsFault image method cause pc = (cause ≡ Memory) ⊎ FailsIn image method cause pc
