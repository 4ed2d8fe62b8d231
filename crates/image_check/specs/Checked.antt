-- The rules that an image keeps before it runs, and that the machine runs it. The machine runs no image
-- with handlers yet, so no rule speaks of them.
use Rattle.std.specs.Prelude.{◌≡◌, ℕ, true}
use Rattle.std.specs.List.{AllByRecursion}
use Rattle.image_form.specs.declared.record.Image.{Image}
use Rattle.image_form.specs.declared.record.Method.{Method}
use Rattle.image_check.specs.Code.{Insns, CodeIs, JumpsToStarts}
use Rattle.image_check.specs.Ids.{HasIds}
use Rattle.image_check.specs.Built.{is_built}
use Rattle.image_check.specs.BuiltForm.{has_built_form}
use Rattle.image_check.specs.Visits.{Depth, IsSent, IsRight}

-- the code is instructions, which jump to starts and name what is there; each offset is reached with one
-- depth, at which its instruction keeps its rule
pub record IsCheckedMethod (image : Image) (method : Method) : Type 0 where
  pub insns : Insns
  pub code : CodeIs method.code insns
  pub targets : AllByRecursion (JumpsToStarts method.code insns) insns
  pub ids : AllByRecursion (λ x. HasIds image method x.1) insns
  pub right : (pc : ℕ) (d : Depth) → IsSent image method.code pc d → IsRight image method pc d
  pub one_depth : (pc : ℕ) (d e : Depth) → IsSent image method.code pc d → IsSent image method.code pc e → d ≡ e

-- each method keeps the rules
abbrev pub IsChecked : Image → Type 0
IsChecked image = AllByRecursion (IsCheckedMethod image) image.methods

-- the machine runs each instruction of the method
abbrev pub IsBuiltMethod : Method → Type 0
IsBuiltMethod method = (insns : Insns) × CodeIs method.code insns × AllByRecursion (λ x. is_built x.1 ≡ true) insns

-- the machine runs the image: it has the form, and each instruction is run
pub record IsBuilt (image : Image) : Type 0 where
  pub form : has_built_form image ≡ true
  pub methods : AllByRecursion IsBuiltMethod image.methods
