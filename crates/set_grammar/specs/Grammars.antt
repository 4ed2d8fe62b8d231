-- The image of a set of files of bytes that has no refusal is one that an infusion may hold.
use Rattle.std.specs.Prelude.{ℕ, List}
use Rattle.image_form.specs.Grammar.{IsImage}
use Rattle.jvm_model.specs.Verdict.{AreBytes}
use Rattle.set_image.specs.Linked.{Linked, image_in}
use Rattle.set_image.specs.LinkRefusals.{IsAccepted}

abbrev pub SetImagesAreImages : Type 0
SetImagesAreImages = (files : List (List ℕ)) (linked : Linked) → AreBytes files → IsAccepted files linked → IsImage (image_in linked)
