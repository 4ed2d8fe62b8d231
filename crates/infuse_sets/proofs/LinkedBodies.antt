-- What a linked set gives for its typed bodies, and for those whose frames are laid out.
use Rattle.std.proofs.Common.{◌≡◌, ℕ, List, map, Option, Some, None, option_map, sym, ap, subst, ◌∙◌}
use Rattle.std.specs.List.{AllByRecursion}
use Rattle.std.specs.Option.{option_or}
use Rattle.std.proofs.lemmas.Simd.{map-map}
use Rattle.class_file.specs.declared.record.ClassFile.{ClassFile}
use Rattle.class_tree.specs.Tree.{Gathers}
use Rattle.image_form.specs.declared.record.Method.{Method}
use Rattle.body_form.specs.declared.body.Body.{Body}
use Rattle.jvm_model.specs.declared.refusal.Refusal.{Refusal}
use Rattle.jvm_model.specs.Bodies.{AreBodies}
use Rattle.jvm_model.specs.Entry.{entry_of}
use Rattle.jvm_model.specs.ImageEmission.{method_of}
use Rattle.jvm_model.specs.ImageLimits.{first_excess}
use Rattle.jvm_model.specs.ImageNumbering.{Numbering, numbering_of}
use Rattle.jvm_model.specs.ImageTables.{image_with}
use Rattle.jvm_model.specs.Phases.{too_many}
use Rattle.type_rounds.proofs.tables.Lists.{all_both, all_from}
use Rattle.set_image.specs.Linked.{IsTyped, Linked, Typed, bodies_of, body_of, image_in, in_order, method_in, numbering_in, source_by}
use Rattle.set_image.specs.LinkRefusals.{count_refusal, first_of, form_refusal, frame_refusal, length_refusal, link_refusal}
use Rattle.infuse_sets.specs.declared.laid.LaidBody.{LaidBody}
use Rattle.infuse_sets.specs.declared.typed.TypedBody.{TypedBody}
use Rattle.infuse_sets.specs.LaidBodies.{IsFitLaid, IsLaid, laid_as}
use Rattle.infuse_sets.specs.TypedBodies.{AreOf, IsFit, typed_of}

-- ---- the first refusal of a set

module _ (linked : Linked) where
  abbrev pub forms : Option Refusal
  forms = first_of form_refusal (bodies_of linked)

  abbrev pub frames : Option Refusal
  frames = first_of frame_refusal linked.code

  abbrev pub counts : Option Refusal
  counts = count_refusal linked.classes (numbering_in linked)

  abbrev pub lengths : Option Refusal
  lengths = first_of (length_refusal (numbering_in linked)) linked.code

  pub by_forms : (why : Refusal) → forms ≡ Some why → link_refusal linked ≡ Some why
  by_forms why is = ap (λ (found : Option Refusal). option_or found (option_or frames (option_or counts lengths))) is

  pub after_forms : forms ≡ None → link_refusal linked ≡ option_or frames (option_or counts lengths)
  after_forms none = ap (λ (found : Option Refusal). option_or found (option_or frames (option_or counts lengths))) none

  pub by_frames : (why : Refusal) → forms ≡ None → frames ≡ Some why → link_refusal linked ≡ Some why
  by_frames why none is = after_forms none ∙ ap (λ (found : Option Refusal). option_or found (option_or counts lengths)) is

  pub by_counts : (why : Refusal) → forms ≡ None → frames ≡ None → counts ≡ Some why → link_refusal linked ≡ Some why
  by_counts why none fits is =
      after_forms none ∙ ap (λ (found : Option Refusal). option_or found (option_or counts lengths)) fits ∙ ap (λ (found : Option Refusal). option_or found lengths) is

  -- where there are neither of these, the lengths decide
  pub by_lengths : (found : Option Refusal) → forms ≡ None → frames ≡ None → first_excess linked.classes (numbering_in linked) ≡ None → lengths ≡ found
      → link_refusal linked ≡ found
  by_lengths found none fits few is =
      after_forms none
      ∙ ap (λ (first : Option Refusal). option_or first (option_or counts lengths)) fits
      ∙ ap (λ (excess : Option (ℕ × ℕ)). option_or (option_map (λ count. too_many count.0 count.1) excess) lengths) few
      ∙ is

-- ---- a linked set

module _ (linked : Linked) (classes : List ClassFile) (typed : List TypedBody) (are : AreOf linked classes typed) where
  pub closed : Gathers classes None
  closed = subst (λ (files : List ClassFile). Gathers files None) are.classes_are are.is_linked.closed

  pub main_is : entry_of classes ≡ Some linked.main
  main_is = subst (λ (files : List ClassFile). entry_of files ≡ Some linked.main) are.classes_are are.is_linked.is_main

  pub least_types : AllByRecursion (λ (one : TypedBody). IsTyped linked.classes (typed_of one)) typed
  least_types = all_from (IsTyped linked.classes) typed_of typed (subst (AllByRecursion (IsTyped linked.classes)) are.code_is are.is_linked.are_typed)

  -- these are its bodies
  module _ (bodies : List Body) (bodies_are : map (λ (one : TypedBody). one.body.now) typed ≡ bodies) where
    pub same_bodies : bodies_of linked ≡ bodies
    same_bodies = ap (map body_of) are.code_is ∙ map-map body_of typed_of typed ∙ bodies_are

    pub are_bodies : AreBodies classes bodies
    are_bodies = subst (λ (files : List ClassFile). AreBodies files bodies) are.classes_are (subst (AreBodies linked.classes) same_bodies are.is_linked.are_bodies)

    pub same_numbering : numbering_of classes bodies linked.main ≡ numbering_in linked
    same_numbering =
        ap (λ (files : List ClassFile). numbering_of files bodies linked.main) (sym are.classes_are)
        ∙ ap (λ (list : List Body). numbering_of linked.classes list linked.main) (sym same_bodies)

    pub same_excess : first_excess linked.classes (numbering_in linked) ≡ first_excess classes (numbering_of classes bodies linked.main)
    same_excess = ap (λ (files : List ClassFile). first_excess files (numbering_in linked)) are.classes_are ∙ ap (first_excess classes) (sym same_numbering)

    pub same_counts : counts linked ≡ count_refusal classes (numbering_of classes bodies linked.main)
    same_counts = ap (option_map (λ (count : ℕ × ℕ). too_many count.0 count.1)) same_excess

    pub same_forms : forms linked ≡ first_of form_refusal bodies
    same_forms = ap (first_of form_refusal) same_bodies

  pub same_frames : frames linked ≡ first_of frame_refusal (map typed_of typed)
  same_frames = ap (first_of frame_refusal) are.code_is

  -- these are its typed bodies with the layouts of their frames
  module _ (laid : List LaidBody) (all : map (λ (one : LaidBody). one.typed.now) laid ≡ typed) where
    pub same_code : map laid_as laid ≡ linked.code
    same_code = sym (map-map typed_of (λ (one : LaidBody). one.typed.now) laid) ∙ ap (map typed_of) all ∙ sym are.code_is

    pub laid_bodies : AreBodies classes (map (λ (one : LaidBody). (laid_as one).body) laid)
    laid_bodies =
        let same : bodies_of linked ≡ map (λ (one : LaidBody). (laid_as one).body) laid = ap (map body_of) (sym same_code) ∙ map-map body_of laid_as laid in
        subst (λ (files : List ClassFile). AreBodies files (map (λ (one : LaidBody). (laid_as one).body) laid)) are.classes_are
        (subst (AreBodies linked.classes) same are.is_linked.are_bodies)

    pub fit_laid : AllByRecursion IsLaid laid → AllByRecursion IsFitLaid laid
    fit_laid are_laid =
        all_both (λ (one : LaidBody). IsFit one.typed.now) IsLaid IsFitLaid (λ one fit is. record { fit = fit; laid_is = is }) laid
        (all_from IsFit (λ (one : LaidBody). one.typed.now) laid (subst (AllByRecursion IsFit) (sym all) are.fit)) are_laid

    pub same_lengths : (numbering : Numbering) → numbering ≡ numbering_in linked → first_of (length_refusal numbering) (map laid_as laid) ≡ lengths linked
    same_lengths numbering is = ap (λ (n : Numbering). first_of (length_refusal n) (map laid_as laid)) is ∙ ap (first_of (length_refusal (numbering_in linked))) same_code

    -- the image with their methods is that of the set
    pub same_image : (numbering : Numbering) (methods : List Method) → numbering ≡ numbering_in linked
        → methods ≡ map (λ (one : Typed). method_of (source_by numbering one)) (in_order classes (map laid_as laid)) → image_with classes numbering methods ≡ image_in linked
    same_image numbering methods is methods_are =
        ap (image_with classes numbering) methods_are
        ∙ ap (λ (n : Numbering). image_with classes n (map (λ (one : Typed). method_of (source_by n one)) (in_order classes (map laid_as laid)))) is
        ∙ ap (λ (code : List Typed). image_with classes (numbering_in linked) (map (method_in linked) (in_order classes code))) same_code
        ∙ ap (λ (files : List ClassFile). image_with files (numbering_in linked) (map (method_in linked) (in_order files linked.code))) (sym are.classes_are)
