-- The phases behind that of types: the form, the frames, the counts and the code of the set of files that are linked.
use Rattle.std.specs.Prelude.{◌≡◌, ℕ, List, Option, None}
use Rattle.jvm_model.specs.declared.refusal.Refusal.{Refusal}
use Rattle.set_image.specs.Linked.{Linked, IsOfFiles, bodies_of, numbering_in}
use Rattle.set_image.specs.LinkRefusals.{count_refusal, first_of, form_refusal, frame_refusal, length_refusal}

-- what the set of these files is refused for; a set that an earlier phase refuses has no refusal here
pub data OfLinked (refusal : Linked → Option Refusal) (files : List (List ℕ)) (found : Option Refusal) : Type 0 where
  WhereLinked : (linked : Linked) → IsOfFiles files linked → found ≡ refusal linked → OfLinked refusal files found
  WhereNot : ((linked : Linked) → IsOfFiles files linked → ⊥) → found ≡ None → OfLinked refusal files found

-- the first body that is of no form that is built
abbrev pub BuiltForm : List (List ℕ) → Option Refusal → Type 0
BuiltForm = OfLinked (λ linked. first_of form_refusal (bodies_of linked))

-- the first body whose frame is too large
abbrev pub FrameSize : List (List ℕ) → Option Refusal → Type 0
FrameSize = OfLinked (λ linked. first_of frame_refusal linked.code)

-- the first count that is above its limit
abbrev pub Counts : List (List ℕ) → Option Refusal → Type 0
Counts = OfLinked (λ linked. count_refusal linked.classes (numbering_in linked))

-- the first body whose code is too long
abbrev pub CodeLength : List (List ℕ) → Option Refusal → Type 0
CodeLength = OfLinked (λ linked. first_of (length_refusal (numbering_in linked)) linked.code)
