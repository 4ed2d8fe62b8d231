-- Where the offset of a pc is among those of instructions, and how many bytes they have.
use Rattle.std.proofs.Common.{◌≡◌, inl, inr, ℕ, zero, suc, ◌+◌, ◌<◌, ◌≤◌, true, false, nat_lt, cond, List, [], ◌∷◌, ◌++◌, length, get_or, drop, refl, sym, ap, ◌∙◌, append_assoc, length-append, arith}
use Rattle.std.specs.List.{flat_map, sum_by}
use Rattle.std.proofs.lemmas.Bool.{cases_lt}
use Rattle.std.proofs.lemmas.Bool.Decides.{nat_tests}
use Rattle.std.proofs.lemmas.List.Concat.{flat_map-cons}
use Rattle.std.proofs.lemmas.List.{drop_more, drop_all}
use Rattle.std.proofs.lemmas.List.Sums.{sum_by-cons, sum_by-drop_more}
use Rattle.std.specs.List.Sorted.{IsPartitionedBy, IsPartitionPoint}
use Rattle.code_reach.specs.Reached.{Placed, RisesFrom}
use Rattle.body_form.specs.declared.op.Op.{Op}
use Rattle.body_form.specs.Flow.{Ops}
use Rattle.jvm_model.specs.ImageEmission.{Source, bytes_at, size_at, size_below, fill_bytes, offset_of, code_of}
use Rattle.expansion.proofs.ExpansionSizes.{size_is}
use Rattle.expansion.proofs.SizesBelow.{below_none, below_first, below_later}
use Rattle.infuse_emit.specs.Offsets.{starts_below, offset_in, offsets_from}

-- ---- how many pcs are below one

starts_none : (pc : ℕ) → starts_below [] pc ≡ 0
unfolding starts_below
starts_none pc = refl

starts_first : (x : ℕ × Op) (ops : Ops) (pc : ℕ) → pc ≤ x.0 → starts_below (x ∷ ops) pc ≡ 0
unfolding starts_below
starts_first x ops pc le =
    let fails : nat_lt x.0 pc ≡ false = grind (arith, nat_tests, le) in
    ap (λ b. cond b (suc (starts_below ops pc)) 0) fails

starts_later : (x : ℕ × Op) (ops : Ops) (pc : ℕ) → x.0 < pc → starts_below (x ∷ ops) pc ≡ suc (starts_below ops pc)
unfolding starts_below
starts_later x ops pc lt =
    let passes : nat_lt x.0 pc ≡ true = grind (arith, nat_tests, lt) in
    ap (λ b. cond b (suc (starts_below ops pc)) 0) passes

-- ---- pcs that rise are parted by a pc

pub not_below : {X : Type 0} (low : ℕ) (code : Placed X) → RisesFrom low code → (i : ℕ) (d : ℕ × X) → i < length code → low ≤ (let x = get_or code i d in x.0)
not_below low [] rise i d lt = absurd (omega (arith, lt))
not_below low (x ∷ code) rise zero d lt = rise.0
not_below low (x ∷ code) rise (suc i) d lt = omega (arith, rise.0, not_below (suc x.0) code rise.1 i d (omega (arith, lt)))

lower_passes : (m n pc : ℕ) → m ≤ n → nat_lt n pc ≡ true → nat_lt m pc ≡ true
lower_passes m n pc le e = grind (arith, nat_tests)

pub parted : {X : Type 0} (low : ℕ) (code : Placed X) (pc : ℕ) → RisesFrom low code → IsPartitionedBy (λ (x : ℕ × X). nat_lt x.0 pc) code
parted low [] pc rise i j d le within e = absurd (omega (arith, within))
parted low (x ∷ code) pc rise zero zero d le within e = e
parted low (x ∷ code) pc rise zero (suc j) d le within e =
    let above = not_below (suc x.0) code rise.1 j d (omega (arith, within)) in
    lower_passes x.0 (let y = get_or code j d in y.0) pc (omega (arith, above)) e
parted low (x ∷ code) pc rise (suc i) zero d le within e = absurd (omega (arith, le))
parted low (x ∷ code) pc rise (suc i) (suc j) d le within e = parted (suc x.0) code pc rise.1 i j d (omega (arith, le)) (omega (arith, within)) e

-- the point where they are parted is how many are below it
pub point_is : (ops : Ops) (pc i : ℕ) → i ≤ length ops → IsPartitionPoint (λ x. nat_lt x.0 pc ≡ true) (λ x. nat_lt x.0 pc ≡ false) ops i → i ≡ starts_below ops pc
point_is [] pc i le point = omega (arith, le, starts_none pc)
point_is (x ∷ ops) pc zero le point =
    let fails : nat_lt x.0 pc ≡ false = point.1 0 x (omega arith) (omega arith) in
    let from : pc ≤ x.0 = grind (arith, nat_tests, fails) in
    sym (starts_first x ops pc from)
point_is (x ∷ ops) pc (suc i) le point =
    let passes : nat_lt x.0 pc ≡ true = point.0 0 x (omega arith) (omega arith) in
    let less : x.0 < pc = grind (arith, nat_tests, passes) in
    let rest : i ≡ starts_below ops pc = point_is ops pc i (omega (arith, le)) (λ k d from to. point.0 (suc k) d (omega arith) (omega (arith, to)), λ k d from to. point.1 (suc k) d (omega (arith, from)) (omega (arith, to))) in
    ap suc rest ∙ sym (starts_later x ops pc less)

-- ---- offsets

module _ (source : Source) where
  list_none : (from : ℕ) → offsets_from source from [] ≡ from ∷ []
  unfolding offsets_from
  list_none from = refl

  pub list_more : (from : ℕ) (x : ℕ × Op) (ops : Ops) → offsets_from source from (x ∷ ops) ≡ from ∷ offsets_from source (from + size_at source x) ops
  unfolding offsets_from
  list_more from x ops = refl

  pub offset_found : (from : ℕ) (ops : Ops) (pc : ℕ) → get_or (offsets_from source from ops) (starts_below ops pc) 0 ≡ from + size_below source ops pc
  offset_found from [] pc =
      ap (λ l. get_or l (starts_below [] pc) 0) (list_none from) ∙ ap (λ i. get_or (from ∷ []) i 0) (starts_none pc) ∙ omega (arith, below_none source pc)
  offset_found from (x ∷ ops) pc =
      ap (λ l. get_or l (starts_below (x ∷ ops) pc) 0) (list_more from x ops)
      ∙ elim (cases_lt x.0 pc) [
        | inl less ↦
            ap (λ i. get_or (from ∷ offsets_from source (from + size_at source x) ops) i 0) (starts_later x ops pc less)
            ∙ offset_found (from + size_at source x) ops pc
            ∙ omega (arith, below_later source x ops pc less)
        | inr first ↦
            ap (λ i. get_or (from ∷ offsets_from source (from + size_at source x) ops) i 0) (starts_first x ops pc first)
            ∙ omega (arith, below_first source x ops pc first)
      ]

  -- the bytes of instructions are as many as their sizes say
  sized : (offset : ℕ → ℕ) (ops : Ops) → length (flat_map (bytes_at source offset) ops) ≡ sum_by (size_at source) ops
  sized offset [] = refl
  sized offset (x ∷ ops) =
      ap length (flat_map-cons (bytes_at source offset) x ops)
      ∙ length-append (bytes_at source offset x) (flat_map (bytes_at source offset) ops)
      ∙ omega (arith, size_is source offset x, sized offset ops, sum_by-cons (size_at source) x ops)

  pub code_sized : length (code_of source) ≡ length (fill_bytes source) + sum_by (size_at source) source.body.ops
  code_sized = omega (arith, length-append (fill_bytes source) (flat_map (bytes_at source (offset_of source)) source.body.ops), sized (offset_of source) source.body.ops)

  -- the list of offsets has the offset of each pc
  pub told_by : (first : ℕ) (offsets : List ℕ) → first ≡ length (fill_bytes source) → offsets ≡ offsets_from source first source.body.ops → (pc : ℕ) → offset_in source.body.ops offsets pc ≡ offset_of source pc
  told_by first offsets at is pc =
      ap (λ l. get_or l (starts_below source.body.ops pc) 0) is ∙ offset_found first source.body.ops pc ∙ ap (λ n. n + size_below source source.body.ops pc) at

  -- one more offset
  pub written_more : (offset behind : ℕ) (ops : Ops) (i : ℕ) (d : ℕ × Op) (offsets after : List ℕ) → i < length ops → after ≡ offsets ++ offset ∷ [] → behind ≡ offset + size_at source (get_or ops i d)
      → after ++ offsets_from source behind (drop (i + 1) ops) ≡ offsets ++ offsets_from source offset (drop i ops)
  written_more offset behind ops i d offsets after lt pushed is =
      let x = get_or ops i d in
      let rest = drop (i + 1) ops in
      ap (λ list. list ++ offsets_from source behind rest) pushed
      ∙ append_assoc offsets (offset ∷ []) (offsets_from source behind rest)
      ∙ ap (λ n. offsets ++ offset ∷ offsets_from source n rest) is
      ∙ sym (ap (λ list. offsets ++ list) (ap (offsets_from source offset) (drop_more ops i d lt) ∙ list_more offset x rest))

  -- that of the end is the last
  pub written_all : (offset : ℕ) (ops : Ops) (i : ℕ) (offsets after : List ℕ) → length ops ≤ i → after ≡ offsets ++ offset ∷ [] → after ≡ offsets ++ offsets_from source offset (drop i ops)
  written_all offset ops i offsets after le pushed = pushed ∙ sym (ap (λ list. offsets ++ list) (ap (offsets_from source offset) (drop_all i ops le) ∙ list_none offset))

  pub total_more : (offset behind : ℕ) (ops : Ops) (i : ℕ) (d : ℕ × Op) → i < length ops → behind ≡ offset + size_at source (get_or ops i d)
      → behind + sum_by (size_at source) (drop (i + 1) ops) ≡ offset + sum_by (size_at source) (drop i ops)
  total_more offset behind ops i d lt is = omega (arith, is, sum_by-drop_more (size_at source) ops i d lt)

  -- the end is where the code ends
  pub end_is : (offset first i : ℕ) → length source.body.ops ≤ i → first ≡ length (fill_bytes source)
      → offset + sum_by (size_at source) (drop i source.body.ops) ≡ first + sum_by (size_at source) source.body.ops → offset ≡ length (code_of source)
  end_is offset first i le at total = omega (arith, ap (sum_by (size_at source)) (drop_all i source.body.ops le), at, total, code_sized)
