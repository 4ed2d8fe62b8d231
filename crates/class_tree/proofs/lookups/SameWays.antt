-- Ways up over lists that answer alike, for the classes of a set.
use Rattle.std.proofs.Common.{◌≡◌, ℕ, zero, suc, ◌<◌, List, Option, refl, ap, ◌∙◌}
use Rattle.std.specs.Option.{option_or}
use Rattle.std.specs.List.{AllByRecursion}
use Rattle.class_tree.specs.Upwards.{first_answer, first_upwards}
use Rattle.class_tree.proofs.lookups.Climbing.{all_map, answers_alike}

module _ {X : Type 0} (A B : ℕ → List ℕ) (f g : ℕ → Option X) (count : ℕ)
    (above : (class : ℕ) → class < count → (h : ℕ → Option X) → first_answer h (A class) ≡ first_answer h (B class))
    (within : (class : ℕ) → class < count → AllByRecursion (λ upper. upper < count) (B class))
    (own : (class : ℕ) → class < count → f class ≡ g class) where
  pub same_up : (levels class : ℕ) → class < count → first_upwards A f levels class ≡ first_upwards B g levels class
  unfolding first_upwards
  same_up zero class lt = refl
  same_up (suc levels) class lt =
      ap (λ o. option_or o (first_answer (first_upwards A f levels) (A class))) (own class lt)
      ∙ ap (option_or (g class)) (above class lt (first_upwards A f levels)
      ∙ answers_alike (first_upwards A f levels) (first_upwards B g levels) (B class)
      (all_map (λ upper. upper < count) (λ upper. first_upwards A f levels upper ≡ first_upwards B g levels upper) (λ upper less. same_up levels upper less) (B class) (within class lt)))
