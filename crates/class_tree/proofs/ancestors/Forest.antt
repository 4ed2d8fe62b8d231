-- Walks from a class to its superclasses, over any function that gives the next class and a rank that falls:
-- what two walks have in common begins at one class.
use Rattle.std.proofs.Common.{◌≡◌, ℕ, zero, suc, ◌<◌, ◌⊎◌, Bool, true, false, inl, inr, Option, Some, None, if◌then◌else◌, refl, sym, ap, subst, ◌∙◌, arith}
use Rattle.std.specs.Option.{option_or, option_to_list}
use Rattle.class_tree.specs.Upwards.{first_answer}
use Rattle.class_tree.proofs.lookups.Climbing.{answer_none, answer_one}
use Rattle.class_tree.proofs.tables.Within.{same_some}

-- one class is another one, or leads to it step by step
pub data Up (next : ℕ → Option ℕ) : ℕ → ℕ → Type 0 where
  Same : {class : ℕ} → Up next class class
  Over : {class upper : ℕ} (by : ℕ) → next class ≡ Some by → Up next by upper → Up next class upper

module _ (next : ℕ → Option ℕ) where
  pub over : (a b c : ℕ) → Up next a b → Up next b c → Up next a c
  over a b c Same second = second
  over a b c (Over by e first) second = Over by e (over by b c first second)

  -- where the next class is known, the way is empty or goes over it
  pub step : (a by c : ℕ) → next a ≡ Some by → Up next a c → (a ≡ c) ⊎ Up next by c
  step a by c e Same = inl refl
  step a by c e (Over other f rest) = inr (subst (λ n. Up next n c) (same_some other by (sym f ∙ e)) rest)

  pub last : (a c : ℕ) → next a ≡ None → Up next a c → a ≡ c
  last a c e Same = refl
  last a c e (Over other f rest) = cc

  module _ (rank : ℕ → ℕ) (falls : (a by : ℕ) → next a ≡ Some by → rank by < rank a) where
    up_falls : (a c : ℕ) → Up next a c → (a ≡ c) ⊎ (rank c < rank a)
    up_falls a c Same = inl refl
    up_falls a c (Over by e rest) =
        elim (up_falls by c rest) [
          | inl same ↦ inr (subst (λ n. rank n < rank a) same (falls a by e))
          | inr less ↦ let one = falls a by e in inr (omega (arith, less, one))
        ]

    pub both_ways : (a c : ℕ) → Up next a c → Up next c a → a ≡ c
    both_ways a c first second =
        elim (up_falls a c first) [
          | inl same ↦ same
          | inr less ↦ elim (up_falls c a second) [ inl same ↦ sym same | inr more ↦ absurd (omega (arith, less, more)) ]
        ]

    -- ---- the first that passes a test

    module _ (test : ℕ → Bool) where
      -- what is found is on the way, passes, and leads to whatever else on the way passes
      pub record IsFirst (class found : ℕ) : Type 0 where
        pub up : Up next class found
        pub passes : test found ≡ true
        pub first : (other : ℕ) → Up next class other → test other ≡ true → Up next found other

      abbrev pub IsFound : ℕ → Option ℕ → Type 0
      IsFound class None = (other : ℕ) → Up next class other → test other ≡ true → ⊥
      IsFound class (Some found) = IsFirst class found

      abbrev own : ℕ → Option ℕ
      own class = if test class then Some class else None

      -- where the class itself does not pass, what is found from the next one on is found
      lifted : (class by : ℕ) (found : Option ℕ) → next class ≡ Some by → test class ≡ false → IsFound by found → IsFound class found
      lifted class by None e fails none = λ other way passes. elim (step class by other e way) [ inl same ↦ let f : false ≡ true = sym fails ∙ ap test same ∙ passes in cc | inr rest ↦ none other rest passes ]
      lifted class by (Some found) e fails is =
          record {
            up = Over by e is.up;
            passes = is.passes;
            first = λ other way passes. elim (step class by other e way) [ inl same ↦ let f : false ≡ true = sym fails ∙ ap test same ∙ passes in cc | inr rest ↦ is.first other rest passes ];
          }

      module _ (look : ℕ → Option ℕ) (rule : (class : ℕ) → look class ≡ option_or (own class) (first_answer look (option_to_list (next class)))) where
        here : (class : ℕ) → test class ≡ true → look class ≡ Some class
        here class e = rule class ∙ ap (λ b. option_or (if b then Some class else None) (first_answer look (option_to_list (next class)))) e

        beyond : (class : ℕ) → test class ≡ false → look class ≡ first_answer look (option_to_list (next class))
        beyond class e = rule class ∙ ap (λ b. option_or (if b then Some class else None) (first_answer look (option_to_list (next class)))) e

        looked : (n class : ℕ) → rank class < n → (b : Bool) → test class ≡ b → (o : Option ℕ) → next class ≡ o → IsFound class (look class)
        looked zero class lt b tested o is = absurd (omega (arith, lt))
        looked (suc n) class lt true tested o is =
            subst (IsFound class) (sym (here class tested)) (record { up = Same; passes = tested; first = λ other way passes. way })
        looked (suc n) class lt false tested None is =
            subst (IsFound class) (sym (beyond class tested ∙ ap (λ o. first_answer look (option_to_list o)) is ∙ answer_none look))
            (λ other way passes. let f : false ≡ true = sym tested ∙ ap test (last class other is way) ∙ passes in cc)
        looked (suc n) class lt false tested (Some by) is =
            let less = falls class by is in
            subst (IsFound class) (sym (beyond class tested ∙ ap (λ o. first_answer look (option_to_list o)) is ∙ answer_one look by))
            (lifted class by (look by) is tested (looked n by (omega (arith, lt, less)) (test by) refl (next by) refl))

        pub is_found : (class : ℕ) → IsFound class (look class)
        is_found class = looked (suc (rank class)) class (omega arith) (test class) refl (next class) refl
