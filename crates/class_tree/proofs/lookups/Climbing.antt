-- The first answer on the way up, where a rank falls from class to class: it keeps its rule, and only it does.
use Rattle.std.proofs.Common.{◌≡◌, ℕ, zero, suc, ◌<◌, List, [], ◌∷◌, ◌++◌, Option, Some, None, refl, sym, ◌∙◌, ap, arith}
use Rattle.std.specs.Option.{option_or}
use Rattle.std.specs.List.{AllByRecursion}
use Rattle.class_tree.specs.Upwards.{first_answer, first_upwards}

-- ---- lists

pub all_map : {X : Type 0} (P Q : X → Type 0) → ((x : X) → P x → Q x) → (xs : List X) → AllByRecursion P xs → AllByRecursion Q xs
all_map P Q h [] all = tt
all_map P Q h (x ∷ xs) all = (h x all.0, all_map P Q h xs all.1)

pub all_append : {X : Type 0} (P : X → Type 0) (xs ys : List X) → AllByRecursion P xs → AllByRecursion P ys → AllByRecursion P (xs ++ ys)
all_append P [] ys first second = second
all_append P (x ∷ xs) ys first second = (first.0, all_append P xs ys first.1 second)

module _ {X : Type 0} where
  pub or_none : (o : Option X) → option_or o None ≡ o
  or_none None = refl
  or_none (Some x) = refl

  pub or_assoc : (first second third : Option X) → option_or (option_or first second) third ≡ option_or first (option_or second third)
  or_assoc None second third = refl
  or_assoc (Some x) second third = refl

  pub answer_none : (f : ℕ → Option X) → first_answer f [] ≡ None
  unfolding first_answer
  answer_none f = refl

  pub answer_cons : (f : ℕ → Option X) (x : ℕ) (xs : List ℕ) → first_answer f (x ∷ xs) ≡ option_or (f x) (first_answer f xs)
  unfolding first_answer
  answer_cons f x xs = refl

  pub answer_one : (f : ℕ → Option X) (x : ℕ) → first_answer f (x ∷ []) ≡ f x
  answer_one f x = answer_cons f x [] ∙ ap (option_or (f x)) (answer_none f) ∙ or_none (f x)

  pub answer_append : (f : ℕ → Option X) (xs ys : List ℕ) → first_answer f (xs ++ ys) ≡ option_or (first_answer f xs) (first_answer f ys)
  unfolding first_answer
  answer_append f [] ys = refl
  answer_append f (x ∷ xs) ys = ap (option_or (f x)) (answer_append f xs ys) ∙ sym (or_assoc (f x) (first_answer f xs) (first_answer f ys))

  -- lookups that answer alike for the classes of a list
  pub answers_alike : (f g : ℕ → Option X) (xs : List ℕ) → AllByRecursion (λ x. f x ≡ g x) xs → first_answer f xs ≡ first_answer g xs
  unfolding first_answer
  answers_alike f g [] all = refl
  answers_alike f g (x ∷ xs) all = ap (λ o. option_or o (first_answer f xs)) all.0 ∙ ap (option_or (g x)) (answers_alike f g xs all.1)

  pub all_of : (f g : ℕ → Option X) → ((x : ℕ) → f x ≡ g x) → (xs : List ℕ) → AllByRecursion (λ x. f x ≡ g x) xs
  all_of f g h [] = tt
  all_of f g h (x ∷ xs) = (h x, all_of f g h xs)

-- ---- the way up

pub up_more : {X : Type 0} (above : ℕ → List ℕ) (own : ℕ → Option X) (levels class : ℕ)
    → first_upwards above own (suc levels) class ≡ option_or (own class) (first_answer (first_upwards above own levels) (above class))
unfolding first_upwards
up_more above own levels class = refl

-- a rank that falls from each class to those above it
abbrev pub Falls : (ℕ → List ℕ) → (ℕ → ℕ) → Type 0
Falls above rank = (class : ℕ) → AllByRecursion (λ upper. rank upper < rank class) (above class)

module _ {X : Type 0} (above : ℕ → List ℕ) (rank : ℕ → ℕ) (falls : Falls above rank) (own : ℕ → Option X) where
  abbrev up : ℕ → ℕ → Option X
  up levels class = first_upwards above own levels class

  -- more levels than the rank change nothing
  pub stable : (k m class : ℕ) → rank class < k → rank class < m → up k class ≡ up m class
  stable zero m class lt more = absurd (omega (arith, lt))
  stable (suc k) zero class lt more = absurd (omega (arith, more))
  stable (suc k) (suc m) class lt more =
      up_more above own k class
      ∙ ap (option_or (own class)) (answers_alike (up k) (up m) (above class)
      (all_map (λ upper. rank upper < rank class) (λ upper. up k upper ≡ up m upper) (λ upper less. stable k m upper (omega (arith, less, lt)) (omega (arith, less, more))) (above class) (falls class)))
      ∙ sym (up_more above own m class)

  -- so the rule holds as an equation
  pub ruled : (levels : ℕ) → ((class : ℕ) → rank class < levels) → (class : ℕ) → up levels class ≡ option_or (own class) (first_answer (up levels) (above class))
  ruled levels bound class = stable levels (suc levels) class (bound class) (omega (arith, bound class)) ∙ up_more above own levels class

  -- and what keeps the rule answers alike
  pub alike : (other : ℕ → Option X) → ((class : ℕ) → other class ≡ option_or (own class) (first_answer other (above class))) → (levels class : ℕ) → rank class < levels → other class ≡ up levels class
  alike other rule zero class lt = absurd (omega (arith, lt))
  alike other rule (suc levels) class lt =
      rule class
      ∙ ap (option_or (own class)) (answers_alike other (up levels) (above class)
      (all_map (λ upper. rank upper < rank class) (λ upper. other upper ≡ up levels upper) (λ upper less. alike other rule levels upper (omega (arith, less, lt))) (above class) (falls class)))
      ∙ sym (up_more above own levels class)

-- lookups whose own answers are the same
pub same_own : {X : Type 0} (above : ℕ → List ℕ) (f g : ℕ → Option X) → ((class : ℕ) → f class ≡ g class) → (levels class : ℕ) → first_upwards above f levels class ≡ first_upwards above g levels class
unfolding first_upwards
same_own above f g h zero class = refl
same_own above f g h (suc levels) class =
    ap (λ o. option_or o (first_answer (first_upwards above f levels) (above class))) (h class)
    ∙ ap (option_or (g class)) (answers_alike (first_upwards above f levels) (first_upwards above g levels) (above class)
    (all_of (first_upwards above f levels) (first_upwards above g levels) (same_own above f g h levels) (above class)))
