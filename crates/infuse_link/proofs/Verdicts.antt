-- What is answered for a set is its verdict.
use Rattle.std.proofs.Common.{◌⊎◌, inl, inr, ◌≡◌, ℕ, List, [], ◌∷◌, Option, Some, None, refl, sym, ap, ◌∙◌}
use Rattle.std.proofs.lemmas.Option.{none-some, same_Some}
use Rattle.std.specs.Option.{option_or}
use Rattle.std.specs.Prelude.{Result, Ok, Err, IfOk, IfErr}
use Rattle.class_file.specs.declared.record.ClassFile.{ClassFile}
use Rattle.body_form.specs.declared.body.Body.{Body}
use Rattle.image_form.specs.declared.record.Image.{Image}
use Rattle.jvm_model.specs.declared.refusal.Refusal.{Refusal}
use Rattle.jvm_model.specs.Phases.{SetSize, first_refusal, class_refusal}
use Rattle.jvm_model.specs.ClosedSet.{ClosedClasses}
use Rattle.jvm_model.specs.Linking.{Linking, Members}
use Rattle.jvm_model.specs.Entry.{Entering, EntryPoint}
use Rattle.jvm_model.specs.Verification.{Typing, Verification}
use Rattle.jvm_model.specs.Verdict.{FirstRefusal}
use Rattle.body_make.specs.Names.{IsUnlinked}
use Rattle.set_image.specs.Linked.{Linked, IsOfFiles, bodies_of, numbering_in}
use Rattle.set_image.specs.LinkRefusals.{IsLinkedImage, IsLinkRefusal, count_refusal, first_of, form_refusal, frame_refusal, length_refusal, link_refusal}
use Rattle.set_image.proofs.CountLimits.{first_none, second_none}
use Rattle.set_verdict.specs.Phases.{BuiltForm, FrameSize, Counts, CodeLength, WhereLinked}
use Rattle.set_verdict.specs.Verdict.{IsImageOf, IsRefused}
use Rattle.set_verdict.proofs.SetVerdicts.{image_is_one, verdict_unique}
use Rattle.infuse_link.specs.Infused.{Gives, RefusedOrMemory}
use Rattle.infuse_link.specs.Sets.{AreRead}
use Rattle.infuse_link.specs.Stages.{IsClosedSet, IsLinkedSet}
use Rattle.infuse_link.proofs.ReadSets.{scan_same, none_unread, classes_read}

-- ---- the phases of the set that is linked

-- the first of two that has a refusal
chosen : {P Q : Type 0} (first second : Option Refusal) (why : Refusal) → option_or first second ≡ Some why → (first ≡ Some why → P) → (first ≡ None → second ≡ Some why → Q) → P ⊎ Q
chosen None second why is here later = inr (later refl is)
chosen (Some other) second why is here later = inl (here is)

module _ (files : List (List ℕ)) (linked : Linked) (of : IsOfFiles files linked) where
  late_none : link_refusal linked ≡ None → FirstRefusal (BuiltForm ∷ FrameSize ∷ Counts ∷ CodeLength ∷ []) files None
  late_none none =
      let forms = first_of form_refusal (bodies_of linked) in
      let frames = first_of frame_refusal linked.code in
      let counts = count_refusal linked.classes (numbering_in linked) in
      let lengths = first_of (length_refusal (numbering_in linked)) linked.code in
      let behind_forms = second_none forms (option_or frames (option_or counts lengths)) none in
      let behind_frames = second_none frames (option_or counts lengths) behind_forms in (
        WhereLinked linked of (sym (first_none forms (option_or frames (option_or counts lengths)) none)),
        (
          WhereLinked linked of (sym (first_none frames (option_or counts lengths) behind_forms)),
          (WhereLinked linked of (sym (first_none counts lengths behind_frames)), (WhereLinked linked of (sym (second_none counts lengths behind_frames)), refl)),
        ),
      )

  late_refused : (why : Refusal) → link_refusal linked ≡ Some why → FirstRefusal (BuiltForm ∷ FrameSize ∷ Counts ∷ CodeLength ∷ []) files (Some why)
  late_refused why is =
      let forms = first_of form_refusal (bodies_of linked) in
      let frames = first_of frame_refusal linked.code in
      let counts = count_refusal linked.classes (numbering_in linked) in
      let lengths = first_of (length_refusal (numbering_in linked)) linked.code in
      chosen forms (option_or frames (option_or counts lengths)) why is (λ here. WhereLinked linked of (sym here)) (λ none later. (
        WhereLinked linked of (sym none),
        chosen frames (option_or counts lengths) why later (λ here. WhereLinked linked of (sym here)) (λ none later. (
          WhereLinked linked of (sym none),
          chosen counts lengths why later (λ here. WhereLinked linked of (sym here)) (λ none last. (WhereLinked linked of (sym none), inl (WhereLinked linked of (sym last)))),
        )),
      ))

-- ---- sets that are refused

-- a set whose classes are no closed set
pub set_unclosed : (files : List (List ℕ)) (classes : List ClassFile) (refusal : Refusal) → SetSize files None → AreRead files classes → first_refusal class_refusal 0 classes ≡ None → ClosedClasses classes (Some refusal) → RefusedOrMemory files refusal
set_unclosed files classes refusal size read coded unclosed =
    inr (inr (size, inr (none_unread 0 files classes read, inr (scan_same class_refusal 0 files classes read ∙ coded, inl (classes_read ClosedClasses files classes (Some refusal) read unclosed)))))

module _ (files : List (List ℕ)) (classes : List ClassFile) where
  -- a refusal that comes after the phase of a closed set
  behind : IsClosedSet files classes → (why : Refusal) → FirstRefusal (Members ∷ EntryPoint ∷ Verification ∷ BuiltForm ∷ FrameSize ∷ Counts ∷ CodeLength ∷ []) files (Some why) → RefusedOrMemory files why
  behind set why fails =
      let read = set.read in
      inr (inr (set.size, inr (none_unread 0 files classes read, inr (scan_same class_refusal 0 files classes read ∙ set.codes, inr (classes_read ClosedClasses files classes None read set.closed, fails)))))

  -- a closed set whose classes do not stand together, or that has no entry
  pub set_unlinked : IsClosedSet files classes → (refusal : Refusal) → IsUnlinked classes refusal → RefusedOrMemory files refusal
  set_unlinked set refusal (inl unlinked) = behind set refusal (inl (classes_read Linking files classes (Some refusal) set.read unlinked))
  set_unlinked set refusal (inr none) =
      behind set refusal (inr (classes_read Linking files classes None set.read none.0, inl (classes_read Entering files classes (Some refusal) set.read (sym none.1))))

  module _ (bodies : List Body) (is : IsLinkedSet files classes bodies) where
    -- a refusal that comes after the phase of the entry
    behind_entry : (why : Refusal) → FirstRefusal (Verification ∷ BuiltForm ∷ FrameSize ∷ Counts ∷ CodeLength ∷ []) files (Some why) → RefusedOrMemory files why
    behind_entry why fails =
        let set = is.is_closed in
        behind set why (inr (classes_read Linking files classes None set.read is.links, inr (classes_read Entering files classes None set.read (sym is.enters), fails)))

    -- a linked set of which a body has no types
    pub set_untyped : (refusal : Refusal) → Typing classes (Some refusal) → RefusedOrMemory files refusal
    set_untyped refusal untyped = let set = is.is_closed in behind_entry refusal (inl (classes_read Typing files classes (Some refusal) set.read untyped))

    module _ (typing : Typing classes None) (linked : Linked) (of : IsOfFiles files linked) where
      -- a typed set that has no image
      pub set_refused : (refusal : Refusal) → IsLinkRefusal linked refusal → RefusedOrMemory files refusal
      set_refused refusal (inl memory) = inl memory
      set_refused refusal (inr has) = let set = is.is_closed in behind_entry refusal (inr (classes_read Typing files classes None set.read typing, late_refused files linked of refusal has))

      -- a typed set with its image
      pub set_infused : (image : Image) → IsLinkedImage linked image → IsImageOf files image
      set_infused image made =
          let set = is.is_closed in
          let read = set.read in
          record {
            bytes = set.bytes;
            accepted = (
              set.size,
              (
                none_unread 0 files classes read,
                (
                  scan_same class_refusal 0 files classes read ∙ set.codes,
                  (
                    classes_read ClosedClasses files classes None read set.closed,
                    (
                      classes_read Linking files classes None read is.links,
                      (
                        classes_read Entering files classes None read (sym is.enters),
                        (classes_read Typing files classes None read typing, late_none files linked of made.accepted),
                      ),
                    ),
                  ),
                ),
              ),
            );
            linked = linked;
            of_files = of;
            image_is = made.image_is;
          }

-- ---- the answer

pub gives_image : (files : List (List ℕ)) (r : Result Image Refusal) → IfOk r (IsImageOf files) → IfErr r (RefusedOrMemory files) → (image : Image) → IsImageOf files image → Gives r (Ok image)
gives_image files (Ok other) found refused image is = ap (λ (i : Image). Ok i) (image_is_one files image other is found)
gives_image files (Err why) found refused image is = elim refused [ inl e ↦ inl e | inr was ↦ absurd (none-some why (verdict_unique files None (Some why) is.accepted was)) ]

pub gives_refusal : (files : List (List ℕ)) (r : Result Image Refusal) → IfOk r (IsImageOf files) → IfErr r (RefusedOrMemory files) → (why : Refusal) → IsRefused files why → Gives r (Err why)
gives_refusal files (Ok image) found refused why is = absurd (none-some why (verdict_unique files None (Some why) found.accepted is))
gives_refusal files (Err other) found refused why is =
    elim refused [ inl e ↦ inl e | inr was ↦ inr (ap (λ (w : Refusal). Err w) (same_Some why other (verdict_unique files (Some why) (Some other) is was))) ]
