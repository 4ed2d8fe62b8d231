-- What follows an instruction, by its position.
use Rattle.std.proofs.Common.{◌≡◌, ℕ, zero, suc, ◌+◌, ◌<◌, ◌≤◌, true, false, cond, nat_eq, [], ◌∷◌, length, get_or, Some, None, slice_get, option_map, refl, sym, ap, ◌∙◌, arith, add-one}
use Rattle.std.proofs.lemmas.Bool.Decides.{nat_tests}
use Rattle.std.proofs.lemmas.Option.{same_Some}
use Rattle.code_reach.proofs.Indexes.{pcs_rise}
use Rattle.body_form.specs.declared.op.Op.{Op}
use Rattle.code_reach.specs.Reached.{RisesFrom}
use Rattle.body_form.specs.Flow.{Ops, pc_at}
use Rattle.jvm_model.specs.WidthsShapes.{pc_after}

-- the pc after that at a position is the next one
pub after_at : (low : ℕ) (ops : Ops) → RisesFrom low ops → (position : ℕ) → position < length ops → pc_after ops (pc_at ops position) ≡ option_map (λ (x : ℕ × Op). x.0) (slice_get ops (suc position))
unfolding pc_after
after_at low [] rise position within = absurd (omega (arith, within))
after_at low (x ∷ []) rise zero within = refl
after_at low (x ∷ []) rise (suc position) within = absurd (omega (arith, within))
after_at low (x ∷ next ∷ ops) rise zero within =
    let here : nat_eq x.0 x.0 ≡ true = grind (arith, nat_tests) in
    ap (λ b. cond b (Some next.0) (pc_after (next ∷ ops) x.0)) here
after_at low (x ∷ next ∷ ops) rise (suc position) within =
    let above = pcs_rise low (x ∷ next ∷ ops) rise 0 (suc position) (omega arith) within in
    let other : nat_eq x.0 (pc_at (next ∷ ops) position) ≡ false = grind (arith, nat_tests, above) in
    ap (λ b. cond b (Some next.0) (pc_after (next ∷ ops) (pc_at (next ∷ ops) position))) other ∙ after_at (suc x.0) (next ∷ ops) rise.1 position (omega (arith, within))

-- which is higher
pub after_higher : (ops : Ops) → RisesFrom 0 ops → (position next : ℕ) → position < length ops → pc_after ops (pc_at ops position) ≡ Some next → pc_at ops position ≤ next
after_higher ops rise position next within is =
    next_of ops position next (sym (after_at 0 ops rise position within) ∙ is) (λ inside. pcs_rise 0 ops rise position (suc position) (omega arith) inside)
  where
    found_at : (ops : Ops) (index next : ℕ) → option_map (λ (x : ℕ × Op). x.0) (slice_get ops index) ≡ Some next → (index < length ops) × (pc_at ops index ≡ next)
    found_at [] index next is = absurd (grind (arith, is))
    found_at (x ∷ ops) zero next is = (omega arith, same_Some x.0 next is)
    found_at (x ∷ ops) (suc index) next is = let more = found_at ops index next is in (omega (arith, more.0), more.1)

    next_of : (ops : Ops) (position next : ℕ) → option_map (λ (x : ℕ × Op). x.0) (slice_get ops (suc position)) ≡ Some next → (suc position < length ops → pc_at ops position < pc_at ops (suc position)) → pc_at ops position ≤ next
    next_of ops position next is less = let found = found_at ops (suc position) next is in omega (arith, found.1, less found.0)

pub got : (ops : Ops) (index : ℕ) (none : ℕ × Op) → index < length ops → slice_get ops index ≡ Some (get_or ops index none)
got [] index none within = absurd (omega (arith, within))
got (x ∷ ops) zero none within = refl
got (x ∷ ops) (suc index) none within = got ops index none (omega (arith, within))

got_none : (ops : Ops) (index : ℕ) → length ops ≤ index → slice_get ops index ≡ None
got_none [] index past = refl
got_none (x ∷ ops) zero past = absurd (omega (arith, past))
got_none (x ∷ ops) (suc index) past = got_none ops index (omega (arith, past))

pub pc_got : (ops : Ops) (index : ℕ) (none : ℕ × Op) → index < length ops → (get_or ops index none).0 ≡ pc_at ops index
pc_got [] index none within = absurd (omega (arith, within))
pc_got (x ∷ ops) zero none within = refl
pc_got (x ∷ ops) (suc index) none within = pc_got ops index none (omega (arith, within))

pub after_some : (ops : Ops) (none : ℕ × Op) → RisesFrom 0 ops → (position : ℕ) → position + 1 < length ops → Some ((get_or ops (position + 1) none).0) ≡ pc_after ops (pc_at ops position)
after_some ops none rise position within =
    sym (after_at 0 ops rise position (omega (arith, within)) ∙ ap (λ k. option_map (λ (x : ℕ × Op). x.0) (slice_get ops k)) (sym (add-one position)) ∙ ap (option_map (λ (x : ℕ × Op). x.0)) (got ops (position + 1) none within))

pub after_none : (ops : Ops) → RisesFrom 0 ops → (position : ℕ) → position < length ops → length ops ≤ position + 1 → pc_after ops (pc_at ops position) ≡ None
after_none ops rise position within past =
    after_at 0 ops rise position within ∙ ap (option_map (λ (x : ℕ × Op). x.0)) (got_none ops (suc position) (omega (arith, past)))
