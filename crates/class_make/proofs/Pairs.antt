-- Parts of records that are the same.
use Rattle.std.proofs.Common.{◌≡◌, ℕ, Bool, true, ◌&&◌, eqb, eq-eqb, Option, Some, sym, ap, ◌∙◌}
use Rattle.std.proofs.lemmas.Bool.{and_parts, and_from, eqb-true}
use Rattle.class_pool.specs.declared.pool.Const.{Const}
use Rattle.class_file.specs.declared.record.HandlerRow.{HandlerRow}
use Rattle.class_make.specs.Entries.{is_same}
use Rattle.class_make.proofs.Slots.{same_again, same_says}

-- two places with entries
pub slot_same : (a b : Option Const) (x y : Const) (r : Bool) → a ≡ Some x → b ≡ Some y → r ≡ is_same x y → (r ≡ true → a ≡ b) × (a ≡ b → r ≡ true)
slot_same a b x y r a_is b_is r_is =
    (λ t. a_is ∙ ap (λ (c : Const). Some c) (same_says x y (sym r_is ∙ t)) ∙ sym b_is, λ e. let xy : x ≡ y = cc in r_is ∙ ap (is_same x) (sym xy) ∙ same_again x)

abbrev row_at : ℕ → ℕ → ℕ → ℕ → HandlerRow
row_at start end target catch_type = record { start = start; end = end; target = target; catch_type = catch_type }

-- what `==` tests of two rows
abbrev pub is_same_row : HandlerRow → HandlerRow → Bool
is_same_row x y = eqb x.start y.start && (eqb x.end y.end && (eqb x.target y.target && eqb x.catch_type y.catch_type))

row_says : (x y : HandlerRow) → is_same_row x y ≡ true → x ≡ y
row_says x y e =
    let first = and_parts (eqb x.start y.start) _ e in
    let second = and_parts (eqb x.end y.end) _ first.1 in
    let third = and_parts (eqb x.target y.target) _ second.1 in
    ap (λ (n : ℕ). row_at n x.end x.target x.catch_type) (eqb-true _ _ first.0)
    ∙ ap (λ (n : ℕ). row_at y.start n x.target x.catch_type) (eqb-true _ _ second.0)
    ∙ ap (λ (n : ℕ). row_at y.start y.end n x.catch_type) (eqb-true _ _ third.0)
    ∙ ap (λ (n : ℕ). row_at y.start y.end y.target n) (eqb-true _ _ third.1)

row_again : (x y : HandlerRow) → x ≡ y → is_same_row x y ≡ true
row_again x y e =
    and_from _ _ (eq-eqb _ _ (ap (λ (r : HandlerRow). r.start) e))
    (and_from _ _ (eq-eqb _ _ (ap (λ (r : HandlerRow). r.end) e)) (and_from _ _ (eq-eqb _ _ (ap (λ (r : HandlerRow). r.target) e)) (eq-eqb _ _ (ap (λ (r : HandlerRow). r.catch_type) e))))

pub row_same : (x y : HandlerRow) → (is_same_row x y ≡ true → x ≡ y) × (x ≡ y → is_same_row x y ≡ true)
row_same x y = (row_says x y, row_again x y)
