-- Files have one answer of all phases.
use Rattle.std.proofs.Common.{◌≡◌, ℕ, zero, suc, ◌+◌, ◌<◌, ◌≤◌, ◌⊎◌, inl, inr, Bool, true, false, List, [], ◌∷◌, length, map, Option, Some, None, refl, sym, ap, subst, ◌∙◌, arith}
use Rattle.std.proofs.lemmas.Bool.{false≢true, cases_lt}
use Rattle.std.proofs.lemmas.Option.{none-some}
use Rattle.library.specs.Classes.{first_own}
use Rattle.class_file.specs.declared.record.ClassFile.{ClassFile}
use Rattle.class_tree.specs.declared.refusal.TreeRefusal.{TreeRefusal}
use Rattle.class_tree.specs.declared.refusal.TreeRefusal.TheVariants.{Circular}
use Rattle.class_tree.specs.Closure.{Edges, leads_over}
use Rattle.class_tree.specs.Set.{own_name, is_directly_below}
use Rattle.class_tree.specs.Circles.{IsCircular, IsFirstCircular, Circles}
use Rattle.class_tree.specs.Tree.{Phase, FirstRefusal, NoCircles, phases, Gathers}
use Rattle.class_tree.proofs.ancestors.Leading.{sound, complete}
use Rattle.class_tree.proofs.tables.Within.{stays_below}

-- ---- the first number of which something holds

abbrev Decided : Type 0 → Type 0
Decided P = P ⊎ (P → ⊥)

-- the first number below a count of which it holds
record IsFirst (P : ℕ → Type 0) (count n : ℕ) : Type 0 where
  within : n < count
  holds : P n
  earlier : (other : ℕ) → other < n → P other → ⊥

abbrev NoneBelow : (ℕ → Type 0) → ℕ → Type 0
NoneBelow P count = (n : ℕ) → n < count → P n → ⊥

abbrev FirstOrNone : (ℕ → Type 0) → ℕ → Type 0
FirstOrNone P count = ((n : ℕ) × IsFirst P count n) ⊎ NoneBelow P count

same_number : (a b : ℕ) → a < suc b → b ≤ a → a ≡ b
same_number a b lt most = omega arith

below_more : (P : ℕ → Type 0) (count : ℕ) → NoneBelow P count → (P count → ⊥) → NoneBelow P (suc count)
below_more P count none not n lt holds =
    elim (cases_lt n count) [
      | inl less ↦ none n less holds
      | inr most ↦ not (subst P (same_number n count lt most) holds)
    ]

first_or_none : (P : ℕ → Type 0) → ((n : ℕ) → Decided (P n)) → (count : ℕ) → FirstOrNone P count
first_or_none P decide zero = inr (λ n lt holds. absurd (omega (arith, lt)))
first_or_none P decide (suc count) = more (first_or_none P decide count) (decide count)
  where
    more : FirstOrNone P count → Decided (P count) → FirstOrNone P (suc count)
    more (inl (n, first)) here = inl (n, record { within = omega (arith, first.within); holds = first.holds; earlier = first.earlier })
    more (inr none) (inl holds) = inl (count, record { within = omega arith; holds = holds; earlier = none })
    more (inr none) (inr not) = inr (below_more P count none not)

-- ---- circles

decide_true : (b : Bool) → Decided (b ≡ true)
decide_true true = inl refl
decide_true false = inr (λ e. false≢true e)

module _ (names : List (List ℕ)) (files : List ClassFile) where
  abbrev edge : Edges
  edge = is_directly_below names files

  -- a class is above itself, or is not
  decide_circular : (file : ℕ) → Decided (IsCircular names files file)
  decide_circular file = by_table (decide_true (leads_over edge (32 + length names) (first_own + file) (first_own + file)))
    where
      by_table : Decided (leads_over edge (32 + length names) (first_own + file) (first_own + file) ≡ true) → Decided (IsCircular names files file)
      by_table (inl e) = inl (sound edge (32 + length names) (first_own + file) (first_own + file) e)
      by_table (inr not) = inr (λ leads. not (complete edge (32 + length names) (first_own + file) (first_own + file) (stays_below names files) leads))

  circles_total : (found : Option TreeRefusal) × Circles names files found
  circles_total = by_first (first_or_none (IsCircular names files) decide_circular (length files))
    where
      by_first : FirstOrNone (IsCircular names files) (length files) → (found : Option TreeRefusal) × Circles names files found
      by_first (inl (file, first)) = (Some (Circular file), (file, record { within = first.within; circular = first.holds; earlier = first.earlier }, refl))
      by_first (inr none) = (None, none)

  one_first : (a b : ℕ) → IsFirstCircular names files a → IsFirstCircular names files b → a ≡ b
  one_first a b p q =
      elim (cases_lt a b) [
        | inl less ↦ absurd (q.earlier a less p.circular)
        | inr most ↦ elim (cases_lt b a) [
          | inl less ↦ absurd (p.earlier b less q.circular)
          | inr least ↦ omega (arith, most, least)
        ]
      ]

  circles_unique : (a b : Option TreeRefusal) → Circles names files a → Circles names files b → a ≡ b
  circles_unique None None p q = refl
  circles_unique None (Some b) p (file, first, is) = absurd (p file first.within first.circular)
  circles_unique (Some a) None (file, first, is) q = absurd (q file first.within first.circular)
  circles_unique (Some a) (Some b) (file, first, is) (other, second, same) =
      ap (λ (why : TreeRefusal). Some why) (is ∙ ap (λ n. Circular n) (one_first file other first second) ∙ sym same)

-- ---- phases

-- the phase has an answer for all files, and one at most
record IsFunction (phase : Phase) : Type 0 where
  total : (files : List ClassFile) → (found : Option TreeRefusal) × phase files found
  unique : (files : List ClassFile) (first second : Option TreeRefusal) → phase files first → phase files second → first ≡ second

abbrev AreFunctions : List Phase → Type 0
AreFunctions [] = Unit {0}
AreFunctions (phase ∷ rest) = IsFunction phase × AreFunctions rest

-- what is computed is one
computed : (answer : List ClassFile → Option TreeRefusal) → IsFunction (λ files found. found ≡ answer files)
computed answer = record { total = λ files. (answer files, refl); unique = λ files a b p q. p ∙ sym q }

circles_function : IsFunction NoCircles
circles_function = record { total = λ files. circles_total (map own_name files) files; unique = λ files. circles_unique (map own_name files) files }

first_total : (phases : List Phase) → AreFunctions phases → (files : List ClassFile) → (found : Option TreeRefusal) × FirstRefusal phases files found
first_total [] all files = (None, refl)
first_total (phase ∷ rest) all files = by_phase (all.0.total files) (first_total rest all.1 files)
  where
    by_phase : (found : Option TreeRefusal) × phase files found → (found : Option TreeRefusal) × FirstRefusal rest files found → (found : Option TreeRefusal) × FirstRefusal (phase ∷ rest) files found
    by_phase (Some why, has) more = (Some why, inl has)
    by_phase (None, none) (None, more) = (None, (none, more))
    by_phase (None, none) (Some why, more) = (Some why, inr (none, more))

first_unique : (phases : List Phase) → AreFunctions phases → (files : List ClassFile) (a b : Option TreeRefusal) → FirstRefusal phases files a → FirstRefusal phases files b → a ≡ b
first_unique [] all files a b p q = p ∙ sym q
first_unique (phase ∷ rest) all files None None p q = refl
first_unique (phase ∷ rest) all files None (Some b) p (inl q) = all.0.unique files None (Some b) p.0 q
first_unique (phase ∷ rest) all files None (Some b) p (inr q) = first_unique rest all.1 files None (Some b) p.1 q.1
first_unique (phase ∷ rest) all files (Some a) None (inl p) q = all.0.unique files (Some a) None p q.0
first_unique (phase ∷ rest) all files (Some a) None (inr p) q = first_unique rest all.1 files (Some a) None p.1 q.1
first_unique (phase ∷ rest) all files (Some a) (Some b) (inl p) (inl q) = all.0.unique files (Some a) (Some b) p q
first_unique (phase ∷ rest) all files (Some a) (Some b) (inl p) (inr q) = absurd (none-some a (sym (all.0.unique files (Some a) None p q.0)))
first_unique (phase ∷ rest) all files (Some a) (Some b) (inr p) (inl q) = absurd (none-some b (all.0.unique files None (Some b) p.0 q))
first_unique (phase ∷ rest) all files (Some a) (Some b) (inr p) (inr q) = first_unique rest all.1 files (Some a) (Some b) p.1 q.1

phase_functions : AreFunctions phases
phase_functions = (
  computed _,
  (
    computed _,
    (
      computed _,
      (
        circles_function,
        (
          computed _,
          tt,
        ),
      ),
    ),
  ),
)

pub gathers_total : (files : List ClassFile) → (found : Option TreeRefusal) × Gathers files found
gathers_total = first_total phases phase_functions

pub gathers_unique : (files : List ClassFile) (a b : Option TreeRefusal) → Gathers files a → Gathers files b → a ≡ b
gathers_unique = first_unique phases phase_functions
