-- The first entry of the types with a row that is not matched, as a loop finds it.
use Rattle.std.proofs.Common.{◌≡◌, ℕ, ◌+◌, ◌<◌, ◌≤◌, Bool, true, false, cond, List, length, get_or, drop, drop-cons, add-one, Option, Some, None, refl, sym, ap, ◌∙◌}
use Rattle.std.proofs.lemmas.List.{drop_all}
use Rattle.image_instr.specs.declared.signature.Sig.{Sig}
use Rattle.image_form.specs.declared.record.Method.{Method}
use Rattle.image_form.specs.declared.record.TypeEntry.{TypeEntry}
use Rattle.image_form.specs.Reading.{is_entry_matched, first_unmatched}

module _ (selectors : List Sig) (methods : List Method) where
  -- the entry at i, and those after it
  prefix : (types : List TypeEntry) (index i : ℕ) (entry : TypeEntry) → i < length types → entry ≡ get_or types i entry
      → first_unmatched selectors methods index (drop i types) ≡ cond (is_entry_matched selectors methods entry) (first_unmatched selectors methods (index + 1) (drop (i + 1) types)) (Some index)
  unfolding first_unmatched
  prefix types index i entry lt is = rw (add-one, add-one, drop-cons types i entry, ← is) refl

  pub goes_on : (types : List TypeEntry) (index i : ℕ) (entry : TypeEntry) (total : Option ℕ) → i < length types → entry ≡ get_or types i entry → is_entry_matched selectors methods entry ≡ true
      → first_unmatched selectors methods index (drop i types) ≡ total → first_unmatched selectors methods (index + 1) (drop (i + 1) types) ≡ total
  goes_on types index i entry total lt is matched so_far =
      ap (λ (b : Bool). cond b (first_unmatched selectors methods (index + 1) (drop (i + 1) types)) (Some index)) (sym matched) ∙ sym (prefix types index i entry lt is) ∙ so_far

  pub ends : (types : List TypeEntry) (index i : ℕ) (entry : TypeEntry) (total : Option ℕ) → i < length types → entry ≡ get_or types i entry → is_entry_matched selectors methods entry ≡ false
      → first_unmatched selectors methods index (drop i types) ≡ total → total ≡ Some index
  ends types index i entry total lt is unmatched so_far =
      sym so_far ∙ prefix types index i entry lt is ∙ ap (λ (b : Bool). cond b (first_unmatched selectors methods (index + 1) (drop (i + 1) types)) (Some index)) unmatched

  pub is_done : (types : List TypeEntry) (index i : ℕ) (total : Option ℕ) → length types ≤ i → first_unmatched selectors methods index (drop i types) ≡ total → total ≡ None
  unfolding first_unmatched
  is_done types index i total le so_far = sym so_far ∙ rw (drop_all i types) refl
