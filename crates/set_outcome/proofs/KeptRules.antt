-- The image of an accepted set is of the grammar, keeps the rules of the check, and is run.
use Rattle.std.proofs.Common.{◌≡◌, ℕ, Bool, true, List, [], ◌∷◌, ◌&&◌, ◌==◌, length, refl, sym, ap, subst, ◌∙◌}
use Rattle.std.specs.List.{AllByRecursion, list_all}
use Rattle.image_form.specs.Grammar.{IsImage}
use Rattle.image_form.specs.declared.record.HandlerEntry.{HandlerEntry}
use Rattle.image_form.specs.declared.record.Image.{Image}
use Rattle.image_form.specs.declared.record.Method.{Method}
use Rattle.image_check.specs.BuiltForm.{has_built_form, has_no_handler}
use Rattle.image_check.specs.Checked.{IsBuilt, IsBuiltMethod, IsChecked, IsCheckedMethod}
use Rattle.set_image.specs.Linked.{Linked, image_in}
use Rattle.set_image.specs.LinkRefusals.{IsAccepted}
use Rattle.set_verdict.specs.Verdict.{IsImageOf}
use Rattle.set_grammar.specs.Grammars.{SetImagesAreImages}
use Rattle.image_rules.specs.Rules.{DepthsAreRight, HasRightDepths, HasRightInsns, InsnsAreRight}
use Rattle.set_outcome.proofs.OneOutcome.{AcceptedLinked, LinkedOnce, accepted_set}

-- ---- methods

checked_one : (image : Image) (method : Method) → HasRightInsns image method → HasRightDepths image method → IsCheckedMethod image method
checked_one image method insns depths =
    record { insns = insns.insns; code = insns.code; targets = insns.targets; ids = insns.ids; right = depths.right; one_depth = depths.one_depth }

all_checked : (image : Image) (methods : List Method) → AllByRecursion (HasRightInsns image) methods → AllByRecursion (HasRightDepths image) methods → AllByRecursion (IsCheckedMethod image) methods
all_checked image [] insns depths = tt
all_checked image (method ∷ methods) insns depths = (checked_one image method insns.0 depths.0, all_checked image methods insns.1 depths.1)

all_built : (image : Image) (methods : List Method) → AllByRecursion (HasRightInsns image) methods → AllByRecursion IsBuiltMethod methods
all_built image [] insns = tt
all_built image (method ∷ methods) insns = let right = insns.0 in ((right.insns, right.code, right.run), all_built image methods insns.1)

no_handler : (image : Image) (method : Method) → HasRightInsns image method → has_no_handler method ≡ true
no_handler image method insns = ap (λ (handlers : List HandlerEntry). length handlers == 0) insns.handlers

none_handled : (image : Image) (methods : List Method) → AllByRecursion (HasRightInsns image) methods → list_all has_no_handler methods ≡ true
none_handled image [] insns = refl
none_handled image (method ∷ methods) insns =
    ap (λ b. b && list_all has_no_handler methods) (no_handler image method insns.0) ∙ none_handled image methods insns.1

-- ---- images of sets

module _ (once : LinkedOnce) (there : AcceptedLinked) where
  pub images_formed : SetImagesAreImages → (files : List (List ℕ)) (image : Image) → IsImageOf files image → IsImage image
  images_formed formed files image is =
      let accepted : IsAccepted files is.linked = accepted_set once there files is.linked is.accepted is.of_files in
      subst IsImage (sym is.image_is) (formed files is.linked is.bytes accepted)

  pub images_checked : InsnsAreRight → DepthsAreRight → (files : List (List ℕ)) (image : Image) → IsImageOf files image → IsChecked image
  images_checked insns depths files image is =
      let accepted : IsAccepted files is.linked = accepted_set once there files is.linked is.accepted is.of_files in
      let own = image_in is.linked in
      subst IsChecked (sym is.image_is) (all_checked own own.methods (insns files is.linked accepted) (depths files is.linked accepted))

  pub images_built : InsnsAreRight → (files : List (List ℕ)) (image : Image) → IsImageOf files image → IsBuilt image
  images_built insns files image is =
      let accepted : IsAccepted files is.linked = accepted_set once there files is.linked is.accepted is.of_files in
      let own = image_in is.linked in
      let right = insns files is.linked accepted in
      subst IsBuilt (sym is.image_is) (record { form = none_handled own own.methods right; methods = all_built own own.methods right })
