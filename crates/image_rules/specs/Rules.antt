-- The image of a set that has no refusal keeps the rules that an image keeps before it runs, and the machine runs it.
use Rattle.std.specs.Prelude.{◌≡◌, ℕ, true, List, []}
use Rattle.std.specs.List.{AllByRecursion}
use Rattle.image_form.specs.declared.record.Image.{Image}
use Rattle.image_form.specs.declared.record.Method.{Method}
use Rattle.image_check.specs.Code.{Insns, CodeIs, JumpsToStarts}
use Rattle.image_check.specs.Ids.{HasIds}
use Rattle.image_check.specs.Visits.{Depth, IsSent, IsRight}
use Rattle.split_safety.specs.Runs.{runs_so_far}
use Rattle.set_image.specs.Linked.{Linked, image_in}
use Rattle.set_image.specs.LinkRefusals.{IsAccepted}

-- the code is instructions, which jump to starts, name what is there and are run so far; no handler covers any of them
pub record HasRightInsns (image : Image) (method : Method) : Type 0 where
  pub insns : Insns
  pub code : CodeIs method.code insns
  pub targets : AllByRecursion (JumpsToStarts method.code insns) insns
  pub ids : AllByRecursion (λ x. HasIds image method x.1) insns
  pub run : AllByRecursion (λ x. runs_so_far x.1 ≡ true) insns
  pub handlers : method.handlers ≡ []

-- each offset is reached with one depth, at which its instruction keeps its rule
pub record HasRightDepths (image : Image) (method : Method) : Type 0 where
  pub right : (pc : ℕ) (d : Depth) → IsSent image method.code pc d → IsRight image method pc d
  pub one_depth : (pc : ℕ) (d e : Depth) → IsSent image method.code pc d → IsSent image method.code pc e → d ≡ e

-- each method of the image of an accepted set is so
abbrev pub OfEachMethod : (Image → Method → Type 0) → Type 0
OfEachMethod Is = (files : List (List ℕ)) (linked : Linked) → IsAccepted files linked → AllByRecursion (Is (image_in linked)) (image_in linked).methods

abbrev pub InsnsAreRight : Type 0
InsnsAreRight = OfEachMethod HasRightInsns

abbrev pub DepthsAreRight : Type 0
DepthsAreRight = OfEachMethod HasRightDepths
