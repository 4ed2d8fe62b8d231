-- The verdict on a set of class files, each a list of bytes: it is accepted, or refused in one way. It is the first refusal
-- in a list of phases.
use Rattle.std.specs.Prelude.{◌≡◌, ℕ, List, [], ◌∷◌, Option, Some, None}
use Rattle.image_form.specs.declared.record.Image.{Image}
use Rattle.jvm_model.specs.declared.refusal.Refusal.{Refusal}
use Rattle.jvm_model.specs.Phases.{SetSize, Reading, MethodCode}
use Rattle.jvm_model.specs.ClosedSet.{ClosedSet}
use Rattle.jvm_model.specs.Linking.{Members}
use Rattle.jvm_model.specs.Entry.{EntryPoint}
use Rattle.jvm_model.specs.Verdict.{AreBytes, Phase, FirstRefusal}
use Rattle.jvm_model.specs.Verification.{Verification}
use Rattle.set_image.specs.Linked.{Linked, IsOfFiles, image_in}
use Rattle.set_verdict.specs.Phases.{BuiltForm, FrameSize, Counts, CodeLength}

-- the phases in their order
abbrev pub phases : List Phase
phases =
    SetSize
    ∷ Reading
    ∷ MethodCode
    ∷ ClosedSet
    ∷ Members
    ∷ EntryPoint
    ∷ Verification
    ∷ BuiltForm
    ∷ FrameSize
    ∷ Counts
    ∷ CodeLength
    ∷ []

abbrev pub Verdict : List (List ℕ) → Option Refusal → Type 0
Verdict files found = FirstRefusal phases files found

abbrev pub Accepted : List (List ℕ) → Type 0
Accepted files = Verdict files None

abbrev pub IsRefused : List (List ℕ) → Refusal → Type 0
IsRefused files refusal = Verdict files (Some refusal)

-- the files are of bytes, the set is accepted, and this is its image
pub record IsImageOf (files : List (List ℕ)) (image : Image) : Type 0 where
  pub bytes : AreBytes files
  pub accepted : Accepted files
  pub linked : Linked
  pub of_files : IsOfFiles files linked
  pub image_is : image ≡ image_in linked
