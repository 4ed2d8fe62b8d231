use Rattle.std.proofs.Common.{inl, inr, ℕ, List, sym, ap, ◌∙◌, subst}
use Rattle.jvm_model.specs.Phases.{first_refusal, class_refusal}
use Rattle.infuse_link.specs.Sets.{AreRead}
use Rattle.infuse_link.proofs.ReadSets.{none_unread, scan_same}
use Rattle.infuse_link.proofs.Verdicts.{set_unclosed}
use Rattle.infuse_link.proofs.infusing.infuse_sized.Goals as goal

pub returns-in-Err-test_classes-clause-refused : goal.returns-in-Err-test_classes-clause-refused
returns-in-Err-test_classes-clause-refused g c =
    let classes = c.in-Ok.classes.items in
    let read = subst (λ (files : List (List ℕ)). AreRead files classes) c.requires.0 c.in-Ok.ensures.read in
    elim c.in-Err-test_classes.ensures.refused [
      | inl memory ↦ inl memory
      | inr e ↦
          inr (inr (
            c.requires.1,
            inr (none_unread 0 g.bytes classes read, inl (scan_same class_refusal 0 g.bytes classes read ∙ ap (first_refusal class_refusal 0) (sym c.as_slice.ensures.value) ∙ e)),
          ))
    ]

pub returns-in-Err-closed_set-clause-refused : goal.returns-in-Err-closed_set-clause-refused
returns-in-Err-closed_set-clause-refused g c =
    let classes = c.in-Ok.classes.items in
    let read = subst (λ (files : List (List ℕ)). AreRead files classes) c.requires.0 c.in-Ok.ensures.read in
    let fits = ap (first_refusal class_refusal 0) (sym c.as_slice.ensures.value) ∙ c.in-Ok-test_classes.ensures.fits in
    elim c.in-Err-closed_set.ensures.refused [
      | inl memory ↦ inl memory
      | inr unclosed ↦ set_unclosed g.bytes classes c.in-Err-closed_set.why c.requires.1 read fits unclosed
    ]
