-- Each phase has one answer for each set, and so the verdict is one; and an accepted set has one image.
use Rattle.std.proofs.Common.{◌≡◌, inl, inr, ℕ, List, Option, None, refl, sym, ap, ◌∙◌}
use Rattle.std.specs.Option.{option_or}
use Rattle.image_form.specs.declared.record.Image.{Image}
use Rattle.jvm_model.specs.declared.refusal.Refusal.{Refusal}
use Rattle.jvm_model.specs.Verdict.{AreBytes, IsFunction, AreFunctions}
use Rattle.jvm_model.proofs.phases.Decisions.{Decided}
use Rattle.jvm_model.proofs.phases.PhaseLists.{first_total, first_unique}
use Rattle.set_laws.proofs.EarlyPhases.{early_phase_functions}
use Rattle.set_image.specs.Linked.{Linked, IsOfFiles, bodies_of, numbering_in, image_in}
use Rattle.set_image.specs.LinkRefusals.{count_refusal, first_of, form_refusal, frame_refusal, length_refusal, link_refusal}
use Rattle.set_verdict.specs.Phases.{OfLinked, WhereLinked, WhereNot}
use Rattle.set_verdict.specs.Verdict.{phases, Verdict, Accepted, IsImageOf}
use Rattle.set_verdict.proofs.OneLinked.{one_linked}
use Rattle.set_verdict.proofs.LinkedSets.{AreLinked, linked_of, decide_linked}

-- ---- the phases of the set of files that are linked

module _ (refusal : Linked → Option Refusal) (files : List (List ℕ)) where
  of_linked_total : Decided (AreLinked files) → (found : Option Refusal) × OfLinked refusal files found
  of_linked_total (inl (linked, is)) = (refusal linked, WhereLinked linked is refl)
  of_linked_total (inr none) = (None, WhereNot (λ linked is. none (linked, is)) refl)

  of_linked_unique : (a b : Option Refusal) → OfLinked refusal files a → OfLinked refusal files b → a ≡ b
  of_linked_unique a b (WhereLinked linked is e) (WhereLinked other also same) = e ∙ ap refusal (one_linked files linked other is also) ∙ sym same
  of_linked_unique a b (WhereLinked linked is e) (WhereNot none same) = absurd (none linked is)
  of_linked_unique a b (WhereNot none e) (WhereLinked linked is same) = absurd (none linked is)
  of_linked_unique a b (WhereNot none e) (WhereNot other same) = e ∙ sym same

  -- where the files are linked to this set, the phase gives its refusal
  of_this : (linked : Linked) → IsOfFiles files linked → OfLinked refusal files None → refusal linked ≡ None
  of_this linked is (WhereLinked other also e) = ap refusal (one_linked files linked other is also) ∙ sym e
  of_this linked is (WhereNot none e) = absurd (none linked is)

of_linked_function : (refusal : Linked → Option Refusal) → IsFunction (OfLinked refusal)
of_linked_function refusal = record { total = λ files bytes. of_linked_total refusal files (decide_linked files); unique = of_linked_unique refusal }

-- ---- the verdict

-- those up to that of types, and those of the set of files that are linked
pub phase_functions : AreFunctions phases
phase_functions =
    let first = early_phase_functions in (
      first.0,
      (
        first.1.0,
        (
          first.1.1.0,
          (
            first.1.1.1.0,
            (
              first.1.1.1.1.0,
              (
                first.1.1.1.1.1.0,
                (
                  first.1.1.1.1.1.1.0,
                  (
                    of_linked_function (λ linked. first_of form_refusal (bodies_of linked)),
                    (
                      of_linked_function (λ linked. first_of frame_refusal linked.code),
                      (
                        of_linked_function (λ linked. count_refusal linked.classes (numbering_in linked)),
                        (
                          of_linked_function (λ linked. first_of (length_refusal (numbering_in linked)) linked.code),
                          tt,
                        ),
                      ),
                    ),
                  ),
                ),
              ),
            ),
          ),
        ),
      ),
    )

pub verdict_total : (files : List (List ℕ)) → AreBytes files → (found : Option Refusal) × Verdict files found
verdict_total = first_total phases phase_functions

pub verdict_unique : (files : List (List ℕ)) (a b : Option Refusal) → Verdict files a → Verdict files b → a ≡ b
verdict_unique = first_unique phases phase_functions

-- ---- accepted sets

none_of : (first second third last : Option Refusal) → first ≡ None → second ≡ None → third ≡ None → last ≡ None → option_or first (option_or second (option_or third last)) ≡ None
none_of first second third last p q r s = rw (p, q, r, s) refl

pub accepted_linked : (files : List (List ℕ)) → Accepted files → (linked : Linked) × IsOfFiles files linked × (link_refusal linked ≡ None)
accepted_linked files accepted =
    let made = linked_of files accepted.1.0 (accepted.1.1.0, (accepted.1.1.1.0, (accepted.1.1.1.1.0, (accepted.1.1.1.1.1.0, accepted.1.1.1.1.1.1.0)))) in
    let linked = made.0 in
    let late = accepted.1.1.1.1.1.1.1 in (
      linked,
      made.1,
      none_of (first_of form_refusal (bodies_of linked)) (first_of frame_refusal linked.code) (count_refusal linked.classes (numbering_in linked)) (first_of (length_refusal (numbering_in linked)) linked.code)
          (of_this (λ linked. first_of form_refusal (bodies_of linked)) files linked made.1 late.0)
          (of_this (λ linked. first_of frame_refusal linked.code) files linked made.1 late.1.0)
          (of_this (λ linked. count_refusal linked.classes (numbering_in linked)) files linked made.1 late.1.1.0)
          (of_this (λ linked. first_of (length_refusal (numbering_in linked)) linked.code) files linked made.1 late.1.1.1.0),
    )

pub image_there : (files : List (List ℕ)) → AreBytes files → Accepted files → (image : Image) × IsImageOf files image
image_there files bytes accepted =
    let set = accepted_linked files accepted in
    (image_in set.0, record { bytes = bytes; accepted = accepted; linked = set.0; of_files = set.1; image_is = refl })

pub image_is_one : (files : List (List ℕ)) (first second : Image) → IsImageOf files first → IsImageOf files second → first ≡ second
image_is_one files first second p q = p.image_is ∙ ap image_in (one_linked files p.linked q.linked p.of_files q.of_files) ∙ sym q.image_is
