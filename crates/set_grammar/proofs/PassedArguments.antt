-- The locals of a body have places for what is passed: a slot for each parameter that is a reference, and for the object
-- that the method is called on, and cells for each that is a whole number.
use Rattle.std.proofs.Common.{◌≡◌, ℕ, zero, suc, ◌+◌, ◌-◌, ◌≤◌, Bool, true, false, ◌&&◌, not, cond, nat_lt, if◌then◌else◌, List, [], ◌∷◌, map, filter, length, slice_get, Some, None, refl, sym, ap, subst, ◌∙◌, arith, length-append}
use Rattle.std.specs.List.{range_with_len, sum_by}
use Rattle.std.specs.Option.{option_map_or}
use Rattle.std.proofs.lemmas.Bool.{le-ltb}
use Rattle.std.proofs.lemmas.List.Sums.{length-filter, sum_by-cons}
use Rattle.class_pool.specs.declared.descriptor.Kind.{Kind}
use Rattle.class_pool.specs.declared.descriptor.Kind.TheVariants as kind
use Rattle.insn_form.specs.declared.ValueKind.TheVariants as value_kind
use Rattle.body_form.specs.declared.body.Body.{Body}
use Rattle.jvm_model.specs.Initialisers.{is_reference_kind, is_whole_kind}
use Rattle.jvm_model.specs.WidthsShapes.{Widths}
use Rattle.jvm_model.specs.WidthsSlots.{Room, cell_count, first_parameter, is_parameter, is_reference_parameter, is_stored, locals_of, parameter_at, passed_cells, slot_count}

-- ---- sums

-- what is counted of some kinds is counted of the numbers from one on
counted_from : (weight : Kind → ℕ) (counted : ℕ → ℕ) (kinds : List Kind) (from count : ℕ) → length kinds ≤ count → ((i : ℕ) (k : Kind) → slice_get kinds i ≡ Some k → weight k ≤ counted (from + i))
    → sum_by weight kinds ≤ sum_by counted (range_with_len from count)
counted_from weight counted [] from count few each = omega arith
counted_from weight counted (k ∷ kinds) from zero few each = absurd (omega (arith, few))
counted_from weight counted (k ∷ kinds) from (suc count) few each =
    let here : weight k ≤ counted (from + 0) = each 0 k refl in
    let begin : counted (from + 0) ≡ counted from = ap counted (omega arith) in
    let later = counted_from weight counted kinds (from + 1) count (omega (arith, few)) (λ i other is. let next : from + suc i ≡ (from + 1) + i = omega arith in subst (λ n. weight other ≤ counted n) next (each (suc i) other is)) in
    omega (arith, here, begin, later, sum_by-cons weight k kinds, sum_by-cons counted from (range_with_len (from + 1) count))

-- what comes first is counted beside
counted_first : (instance : Bool) (counted : ℕ → ℕ) (weight count : ℕ) → (instance ≡ true → weight ≤ counted 0)
    → (if instance then weight else 0) + sum_by counted (range_with_len (if instance then 1 else 0) count) ≤ sum_by counted (range_with_len 0 ((if instance then 1 else 0) + count))
counted_first true counted weight count first =
    let same : 1 + count ≡ suc count = omega arith in
    let here = first refl in
    let whole : sum_by counted (range_with_len 0 (1 + count)) ≡ sum_by counted (0 ∷ range_with_len 1 count) = ap (λ n. sum_by counted (range_with_len 0 n)) same in
    omega (arith, here, whole, sum_by-cons counted 0 (range_with_len 1 count))
counted_first false counted weight count first =
    let same : 0 + count ≡ count = omega arith in
    let whole = ap (λ n. sum_by counted (range_with_len 0 n)) same in
    omega (arith, whole)

sum_filtered : {X : Type 0} (test : X → Bool) (weight : X → ℕ) (items : List X) → sum_by weight (filter test items) ≡ sum_by (λ x. cond (test x) (weight x) 0) items
sum_filtered test weight [] = refl
sum_filtered {X} test weight (x ∷ items) =
    let rest = sum_filtered test weight items in
    let whole = sum_by-cons (λ (y : X). cond (test y) (weight y) 0) x items in
    by (test x) rest ∙ sym whole
  where
    by : (passes : Bool) → sum_by weight (filter test items) ≡ sum_by (λ y. cond (test y) (weight y) 0) items
        → sum_by weight (cond passes (x ∷ filter test items) (filter test items)) ≡ cond passes (weight x) 0 + sum_by (λ y. cond (test y) (weight y) 0) items
    by true rest = omega (arith, rest, sum_by-cons weight x (filter test items))
    by false rest = omega (arith, rest)

sum_mapped : {X Y : Type 0} (weight : Y → ℕ) (f : X → Y) (items : List X) → sum_by weight (map f items) ≡ sum_by (λ x. weight (f x)) items
sum_mapped weight f [] = refl
sum_mapped {X} weight f (x ∷ items) = omega (arith, sum_mapped weight f items, sum_by-cons weight (f x) (map f items), sum_by-cons (λ (y : X). weight (f y)) x items)

-- ---- parameters

-- only whole numbers have cells
whole_cells : (k : Kind) → passed_cells k ≤ cond (is_whole_kind k) (passed_cells k) 0
whole_cells kind.Byte = omega arith
whole_cells kind.Char = omega arith
whole_cells kind.Short = omega arith
whole_cells kind.Int = omega arith
whole_cells kind.Boolean = omega arith
whole_cells kind.Long = omega arith
whole_cells kind.Float = omega arith
whole_cells kind.Double = omega arith
whole_cells (kind.Class name) = omega arith
whole_cells (kind.Array dims of) = omega arith

module _ (body : Body) where
  -- a parameter is the local of its position, behind the object that the method is called on
  at_position : (i : ℕ) (k : Kind) → slice_get body.params i ≡ Some k → parameter_at body (first_parameter body + i) ≡ Some k
  at_position i k is =
      let local = first_parameter body + i in
      let behind : local - first_parameter body ≡ i = omega arith in
      ap (λ b. if b then None else slice_get body.params (local - first_parameter body)) (le-ltb local (first_parameter body) (omega arith)) ∙ ap (slice_get body.params) behind ∙ is

  passes_at : (test : Kind → Bool) (i : ℕ) (k : Kind) → slice_get body.params i ≡ Some k → is_parameter test body (first_parameter body + i) ≡ test k
  passes_at test i k is = ap (λ found. option_map_or test found false) (at_position i k is)

  module _ (room : first_parameter body + length body.params ≤ body.max_locals) where
    abbrev behind_first : ℕ
    behind_first = body.max_locals - first_parameter body

    enough : length body.params ≤ behind_first
    enough = omega (arith, room)

    all_locals : first_parameter body + behind_first ≡ body.max_locals
    all_locals = omega (arith, room)

    -- ---- references

    abbrev reference_at : ℕ → ℕ
    reference_at local = cond (is_reference_parameter body local) 1 0

    reference_passed : (i : ℕ) (k : Kind) → slice_get body.params i ≡ Some k → cond (is_reference_kind k) 1 0 ≤ reference_at (first_parameter body + i)
    reference_passed i k is =
        let local = first_parameter body + i in
        let same : reference_at local ≡ cond (is_reference_kind k) 1 0 =
        ap (λ b. cond (if b then true else is_parameter is_reference_kind body local) 1 0) (le-ltb local (first_parameter body) (omega arith)) ∙ ap (λ b. cond b 1 0) (passes_at is_reference_kind i k is)
        in
        omega (arith, same)

    receiver_passed : (instance : Bool) → body.instance ≡ instance → instance ≡ true → 1 ≤ reference_at 0
    receiver_passed instance is on =
        let same : reference_at 0 ≡ 1 = ap (λ b. cond (if nat_lt 0 (if b then 1 else 0) then true else is_parameter is_reference_kind body 0) 1 0) (is ∙ on) in
        omega (arith, same)

    pub slots_cover : first_parameter body + length (filter is_reference_kind body.params) ≤ slot_count body
    slots_cover =
        let references = filter (is_reference_parameter body) (locals_of body) in
        let others = filter (λ local. not (is_reference_parameter body local) && is_stored value_kind.Ref body local) (locals_of body) in
        let first = first_parameter body in
        let behind = counted_from (λ k. cond (is_reference_kind k) 1 0) reference_at body.params first behind_first enough reference_passed in
        let whole = counted_first body.instance reference_at 1 behind_first (receiver_passed body.instance refl) in
        let locals : sum_by reference_at (range_with_len 0 (first + behind_first)) ≡ sum_by reference_at (locals_of body) = ap (λ n. sum_by reference_at (range_with_len 0 n)) all_locals in
        omega (arith, behind, whole, locals, length-filter is_reference_kind body.params, length-filter (is_reference_parameter body) (locals_of body), length-append references others)

    -- ---- whole numbers

    abbrev cells_passed : ℕ → ℕ
    cells_passed local = option_map_or passed_cells (parameter_at body local) 0

    abbrev cells_at : ℕ → ℕ
    cells_at local = cond (is_parameter is_whole_kind body local) (cells_passed local) 0

    number_passed : (i : ℕ) (k : Kind) → slice_get body.params i ≡ Some k → passed_cells k ≤ cells_at (first_parameter body + i)
    number_passed i k is =
        let local = first_parameter body + i in
        let same : cells_at local ≡ cond (is_whole_kind k) (passed_cells k) 0 =
        ap (λ b. cond b (cells_passed local) 0) (passes_at is_whole_kind i k is) ∙ ap (λ found. cond (is_whole_kind k) (option_map_or passed_cells found 0) 0) (at_position i k is)
        in
        omega (arith, same, whole_cells k)

    pub cells_cover : (widths : Widths) → sum_by passed_cells body.params ≤ cell_count body widths
    cells_cover widths =
        let first = first_parameter body in
        let room : ℕ → Room = λ local. (local, cells_passed local) in
        let numbers = filter (is_parameter is_whole_kind body) (locals_of body) in
        let behind = counted_from passed_cells cells_at body.params first behind_first enough number_passed in
        let whole = counted_first body.instance cells_at 0 behind_first (λ on. omega arith) in
        let locals : sum_by cells_at (range_with_len 0 (first + behind_first)) ≡ sum_by cells_at (locals_of body) = ap (λ n. sum_by cells_at (range_with_len 0 n)) all_locals in
        omega (arith, behind, whole, locals, sum_mapped (λ (r : Room). r.1) room numbers, sum_filtered (is_parameter is_whole_kind body) cells_passed (locals_of body))
