-- The slots of reference locals: no local has two, and those that are stored as references have one.
use Rattle.std.proofs.Common.{◌≡◌, inl, inr, ℕ, ◌<◌, Bool, true, ◌&&◌, ◌||◌, not, filter, Some, sym, ap, ◌∙◌}
use Rattle.std.specs.List.{position_or_len}
use Rattle.std.specs.Prelude.{nat_eq}
use Rattle.std.proofs.lemmas.Bool.{cases_Bool, and_parts}
use Rattle.std.proofs.lemmas.List.Folds.{list_any-append}
use Rattle.insn_form.specs.declared.ValueKind.TheVariants as value_kind
use Rattle.body_form.specs.declared.body.Body.{Body}
use Rattle.jvm_model.specs.WidthsSlots.{is_reference_parameter, is_stored, locals_of, reference_locals, slot_of}
use Rattle.follow_operands.proofs.LocalRooms.{is_in, in_all, in_filter, or_second}
use Rattle.follow_operands.proofs.DistinctLocals.{AreDistinct, distinct_range, distinct_filter, distinct_both, place_found}

module _ (body : Body) where
  abbrev is_other : ℕ → Bool
  is_other local = not (is_reference_parameter body local) && is_stored value_kind.Ref body local

  pub distinct_slots : AreDistinct (reference_locals body)
  distinct_slots =
      let all = distinct_range 0 body.max_locals in
      distinct_both (filter (is_reference_parameter body) (locals_of body)) (filter is_other (locals_of body))
      (distinct_filter (is_reference_parameter body) (locals_of body) all) (distinct_filter is_other (locals_of body) all)
      (λ local is.
      let parameter = (and_parts (is_reference_parameter body local) (is_in local (locals_of body)) (sym (in_filter (is_reference_parameter body) local (locals_of body)) ∙ is)).0 in
      in_filter is_other local (locals_of body) ∙ ap (λ (b : Bool). (not b && is_stored value_kind.Ref body local) && is_in local (locals_of body)) parameter)

  -- a local that is a reference parameter, or is stored as a reference
  abbrev pub is_slotted : ℕ → Bool
  is_slotted local = is_reference_parameter body local || is_stored value_kind.Ref body local

  module _ (local : ℕ) (low : local < body.max_locals) where
    in_one : (test : ℕ → Bool) → test local ≡ true → is_in local (filter test (locals_of body)) ≡ true
    in_one test is = in_filter test local (locals_of body) ∙ ap (λ (b : Bool). b && is_in local (locals_of body)) is ∙ in_all body.max_locals local low

    in_slots : is_slotted local ≡ true → is_in local (reference_locals body) ≡ true
    in_slots is =
        let first = filter (is_reference_parameter body) (locals_of body) in
        let second = filter is_other (locals_of body) in
        list_any-append (λ (other : ℕ). nat_eq other local) first second
        ∙ elim (cases_Bool (is_reference_parameter body local)) [
          | inl parameter ↦ ap (λ (b : Bool). b || is_in local second) (in_one (is_reference_parameter body) parameter)
          | inr other ↦
              let stores : is_stored value_kind.Ref body local ≡ true = sym (ap (λ (b : Bool). b || is_stored value_kind.Ref body local) other) ∙ is in
              or_second (is_in local first) (is_in local second) (in_one is_other (ap (λ (b : Bool). not b && is_stored value_kind.Ref body local) other ∙ stores))
        ]

    pub has_slot : is_slotted local ≡ true → (slot : ℕ) × (slot_of body local ≡ Some slot)
    has_slot is = (position_or_len (nat_eq local) (reference_locals body), place_found (reference_locals body) local (in_slots is))
