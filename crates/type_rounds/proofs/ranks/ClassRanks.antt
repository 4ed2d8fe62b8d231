-- Ranks of classes: a class that a merge leaves as it is has a lower rank than the other one, or is the same.
use Rattle.std.proofs.Common.{◌≡◌, ℕ, zero, suc, ◌+◌, ◌-◌, ◌<◌, ◌≤◌, ◌⊎◌, Bool, true, false, cond, inl, inr, List, length, None, nat_eq, refl, sym, ap, ◌∙◌, arith}
use Rattle.std.proofs.lemmas.Bool.{cases_Bool, cases_lt, eqb-true}
use Rattle.std.proofs.lemmas.Bool.Decides.{Decides-eqb}
use Rattle.library.specs.Classes.{first_own}
use Rattle.class_pool.specs.declared.types.TypeBase.{TypeBase}
use Rattle.class_pool.specs.declared.types.TypeBase.TheVariants.{Class}
use Rattle.class_file.specs.declared.record.ClassFile.{ClassFile}
use Rattle.body_form.specs.declared.types.VType.{VType}
use Rattle.body_form.specs.declared.types.VType.TheVariants as known
use Rattle.class_tree.specs.Set.{IsClass}
use Rattle.class_tree.specs.Subtypes.{class_type}
use Rattle.class_tree.specs.Tree.{Gathers}
use Rattle.class_tree.specs.Ranks.{how_many}
use Rattle.class_tree.specs.Merge.{common_super, merge_refs}
use Rattle.class_tree.specs.MergeLaws.{MergeCommutes, MergeAssociates, EqualTypesStay}

-- what class_tree says of merges of types
pub record TypesMerge : Type 0 where
  pub commutes : MergeCommutes
  pub associates : MergeAssociates
  pub stays : EqualTypesStay

-- ---- how many numbers pass

one : Bool → ℕ
one passes = cond passes 1 0

passes_none : (f : ℕ → Bool) → how_many f zero ≡ 0
unfolding how_many
passes_none f = refl

passes_more : (f : ℕ → Bool) (n : ℕ) → how_many f (suc n) ≡ how_many f n + one (f n)
unfolding how_many one
passes_more f n = refl

one_most : (a : Bool) → one a ≤ 1
unfolding one
one_most true = omega arith
one_most false = omega arith

one_grows : (a b : Bool) → (a ≡ true → b ≡ true) → one a ≤ one b
unfolding one
one_grows false b h = omega arith
one_grows true true h = omega arith
one_grows true false h = cc (h refl)

one_rises : (a b : Bool) → a ≡ false → b ≡ true → one a < one b
unfolding one
one_rises false true fails passes = omega arith
one_rises true b fails passes = cc
one_rises false false fails passes = cc

at_most : (f : ℕ → Bool) (n : ℕ) → how_many f n ≤ n
at_most f zero = omega (arith, passes_none f)
at_most f (suc n) = omega (arith, passes_more f n, at_most f n, one_most (f n))

module _ (f g : ℕ → Bool) where
  grows : (n : ℕ) → ((k : ℕ) → k < n → f k ≡ true → g k ≡ true) → how_many f n ≤ how_many g n
  grows zero h = omega (arith, passes_none f, passes_none g)
  grows (suc n) h = omega (arith, passes_more f n, passes_more g n, grows n (λ k lt. h k (omega (arith, lt))), one_grows (f n) (g n) (h n (omega arith)))

  rises : (n s : ℕ) → s < n → ((k : ℕ) → k < n → f k ≡ true → g k ≡ true) → f s ≡ false → g s ≡ true → how_many f n < how_many g n
  rises zero s lt h fails passes = absurd (omega (arith, lt))
  rises (suc n) s lt h fails passes =
      elim (cases_lt s n) [
        | inl below ↦ omega (arith, passes_more f n, passes_more g n, rises n s below (λ k less. h k (omega (arith, less))) fails passes, one_grows (f n) (g n) (h n (omega arith)))
        | inr le ↦
            let is : s ≡ n = omega (arith, lt, le) in
            omega (arith, passes_more f n, passes_more g n, grows n (λ k less. h k (omega (arith, less))), one_rises (f n) (g n) (ap f (sym is) ∙ fails) (ap g (sym is) ∙ passes))
      ]

-- ---- ranks of classes

abbrev pub class_of : TypeBase → ℕ
class_of (Class class) = class
class_of base = 0

-- the class of a type, where it is a class
abbrev class_in : VType → ℕ
class_in (known.Ref type) = class_of type.base
class_in type = 0

module _ (files : List ClassFile) where
  -- merged with a class, the number stays
  abbrev is_over : ℕ → ℕ → Bool
  is_over class upper = nat_eq (common_super files upper class) upper

  -- how many classes are above a class
  pub class_rank : ℕ → ℕ
  class_rank class = how_many (is_over class) 15 + how_many (λ i. is_over class (first_own + i)) (length files)

  abbrev pub most : ℕ
  most = 16 + length files

  pub rank_below : (class : ℕ) → class_rank class < most
  unfolding class_rank
  rank_below class = omega (arith, at_most (is_over class) 15, at_most (λ i. is_over class (first_own + i)) (length files))

module _ (merges : TypesMerge) (files : List ClassFile) (gathers : Gathers files None) where
  abbrev common : ℕ → ℕ → ℕ
  common a b = common_super files a b

  common_commutes : (a b : ℕ) → IsClass files a → IsClass files b → common a b ≡ common b a
  unfolding merge_refs
  common_commutes a b first second = ap class_in (merges.commutes files gathers (known.Ref (class_type a)) (known.Ref (class_type b)) (first, tt) (second, tt))

  common_associates : (a b c : ℕ) → IsClass files a → IsClass files b → IsClass files c → common (common a b) c ≡ common a (common b c)
  unfolding merge_refs
  common_associates a b c first second third =
      ap class_in (merges.associates files gathers (known.Ref (class_type a)) (known.Ref (class_type b)) (known.Ref (class_type c)) (first, tt) (second, tt) (third, tt))

  common_stays : (a : ℕ) → IsClass files a → common a a ≡ a
  unfolding merge_refs
  common_stays a is = ap class_in (merges.stays files gathers (known.Ref (class_type a)) (is, tt))

  equal : (m n : ℕ) → m ≡ n → nat_eq m n ≡ true
  equal m n e = (Decides-eqb m n).1 e

  module _ (upper lower : ℕ) (upper_is : IsClass files upper) (lower_is : IsClass files lower) (above : common upper lower ≡ upper) where
    -- what is above the upper class is above the lower one
    more_over : (class : ℕ) → IsClass files class → is_over files upper class ≡ true → is_over files lower class ≡ true
    more_over class class_is over =
        let stays : common class upper ≡ class = eqb-true (common class upper) class over in
        equal (common class lower) class
        (ap (λ c. common c lower) (sym stays) ∙ common_associates class upper lower class_is upper_is lower_is ∙ ap (common class) above ∙ stays)

    over_itself : is_over files lower lower ≡ true
    over_itself = equal (common lower lower) lower (common_stays lower lower_is)

    not_over : nat_eq upper lower ≡ false → is_over files upper lower ≡ false
    not_over differ =
        elim (cases_Bool (is_over files upper lower)) [
          | inr never ↦ never
          | inl over ↦
              let same : upper ≡ lower = sym above ∙ common_commutes upper lower upper_is lower_is ∙ eqb-true (common lower upper) lower over in
              let f : false ≡ true = sym differ ∙ equal upper lower same in
              cc
        ]

    own_class : (k : ℕ) → k < length files → IsClass files (first_own + k)
    own_class k lt = inr (omega arith, omega (arith, lt))

    library_rises : (s : ℕ) → s < 15 → is_over files upper s ≡ false → is_over files lower s ≡ true → class_rank files upper < class_rank files lower
    unfolding class_rank
    library_rises s lt fails passes =
        let one = rises (is_over files upper) (is_over files lower) 15 s lt (λ k less. more_over k (inl less)) fails passes in
        let two = grows (λ i. is_over files upper (first_own + i)) (λ i. is_over files lower (first_own + i)) (length files) (λ k less. more_over (first_own + k) (own_class k less)) in
        omega (arith, one, two)

    own_rises : (s : ℕ) → s < length files → is_over files upper (first_own + s) ≡ false → is_over files lower (first_own + s) ≡ true → class_rank files upper < class_rank files lower
    unfolding class_rank
    own_rises s lt fails passes =
        let one = grows (is_over files upper) (is_over files lower) 15 (λ k less. more_over k (inl less)) in
        let two = rises (λ i. is_over files upper (first_own + i)) (λ i. is_over files lower (first_own + i)) (length files) s lt (λ k less. more_over (first_own + k) (own_class k less)) fails passes in
        omega (arith, one, two)

    -- a class that a merge leaves as it is is the other one, or has a lower rank
    pub class_above : (upper ≡ lower) ⊎ (class_rank files upper < class_rank files lower)
    class_above =
        elim (cases_Bool (nat_eq upper lower)) [
          | inl same ↦ inl (eqb-true upper lower same)
          | inr differ ↦
              elim lower_is [
                | inl library ↦ inr (library_rises lower library (not_over differ) over_itself)
                | inr own ↦
                    let start : lower ≡ first_own + (lower - first_own) = let low = own.0 in omega (arith, low) in
                    inr (own_rises (lower - first_own) own.1 (ap (is_over files upper) (sym start) ∙ not_over differ) (ap (is_over files lower) (sym start) ∙ over_itself))
              ]
        ]
