-- The first answer along a way: how it is at each position.
use Rattle.std.proofs.Common.{◌≡◌, ℕ, ◌+◌, ◌<◌, ◌≤◌, List, length, drop, get_or, drop-cons, add-one, Option, Some, None, sym, ap, ◌∙◌}
use Rattle.std.specs.Option.{option_or}
use Rattle.std.proofs.lemmas.List.{drop_all}
use Rattle.class_tree.specs.Upwards.{first_answer}

module _ {X : Type 0} (answer : ℕ → Option X) where
  at_hand : (way : List ℕ) (i : ℕ) → i < length way → first_answer answer (drop i way) ≡ option_or (answer (get_or way i 0)) (first_answer answer (drop (i + 1) way))
  unfolding first_answer
  at_hand way i lt = ap (first_answer answer) (drop-cons way i 0 lt) ∙ ap (λ n. option_or (answer (get_or way i 0)) (first_answer answer (drop n way))) (sym (add-one i))

  -- where a class does not answer, those after it decide
  pub along_more : (way : List ℕ) (i : ℕ) → i < length way → answer (get_or way i 0) ≡ None → first_answer answer (drop (i + 1) way) ≡ first_answer answer (drop i way)
  along_more way i lt e = sym (at_hand way i lt ∙ ap (λ o. option_or o (first_answer answer (drop (i + 1) way))) e)

  -- where it answers, it decides
  pub along_here : (way : List ℕ) (i : ℕ) (x : X) → i < length way → answer (get_or way i 0) ≡ Some x → first_answer answer (drop i way) ≡ Some x
  along_here way i x lt e = at_hand way i lt ∙ ap (λ o. option_or o (first_answer answer (drop (i + 1) way))) e

  -- after the last there is none
  pub along_end : (way : List ℕ) (i : ℕ) → length way ≤ i → first_answer answer (drop i way) ≡ None
  unfolding first_answer
  along_end way i le = ap (first_answer answer) (drop_all i way le)
