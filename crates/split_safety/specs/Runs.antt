-- The images that the machine runs so far.
use Rattle.std.specs.Prelude.{◌≡◌, Bool, true, []}
use Rattle.std.specs.List.{AllByRecursion}
use Rattle.image_instr.specs.declared.insn.MInsn.{MInsn}
use Rattle.image_form.specs.declared.record.Image.{Image}
use Rattle.image_form.specs.declared.record.Method.{Method}
pub use Rattle.image_check.specs.Built.{is_plain, is_static_call}
use Rattle.image_check.specs.Built.{is_built}
use Rattle.image_check.specs.Code.{Insns, CodeIs}

-- the machine runs the instruction
abbrev pub runs_so_far : MInsn → Bool
runs_so_far insn = is_built insn

-- the method has no handlers, and the machine runs each of its instructions
pub record RunsMethod (method : Method) : Type 0 where
  pub handlers : method.handlers ≡ []
  pub insns : Insns
  pub code : CodeIs method.code insns
  pub run : AllByRecursion (λ x. runs_so_far x.1 ≡ true) insns

abbrev pub RunsImage : Image → Type 0
RunsImage image = AllByRecursion RunsMethod image.methods
