-- A scan for the first refusal: what is left decides.
use Rattle.std.proofs.Common.{◌≡◌, ℕ, suc, ◌+◌, ◌<◌, ◌≤◌, true, false, cond, List, [], ◌∷◌, length, drop, get_or, slice_get, drop-cons, add-one, Option, Some, None, refl, sym, ap, ◌∙◌}
use Rattle.std.specs.List.{AllByRecursion, cons_option, filter_map}
use Rattle.std.proofs.lemmas.List.{drop_all}
use Rattle.body_form.specs.declared.op.Op.{Op}
use Rattle.body_form.specs.Flow.{Ops}
use Rattle.jvm_model.specs.declared.refusal.Refusal.{Refusal}
use Rattle.set_image.specs.LinkRefusals.{first_of, first_outside, is_built}

-- the items from one on
pub from_item : {X : Type 0} (xs : List X) (i : ℕ) (x : X) → i < length xs → x ≡ get_or xs i x → drop i xs ≡ x ∷ drop (i + 1) xs
from_item xs i x lt is = drop-cons xs i x lt ∙ ap (λ y. y ∷ drop (suc i) xs) (sym is) ∙ ap (λ n. x ∷ drop n xs) (sym (add-one i))

-- ---- the first refusal

module _ {X : Type 0} (refusal : X → Option Refusal) where
  passed : (x : X) (xs : List X) → refusal x ≡ None → first_of refusal (x ∷ xs) ≡ first_of refusal xs
  passed x xs e = ap (λ (o : Option Refusal). slice_get (cons_option o (filter_map refusal xs)) 0) e

  failed : (x : X) (xs : List X) (why : Refusal) → refusal x ≡ Some why → first_of refusal (x ∷ xs) ≡ Some why
  failed x xs why e = ap (λ (o : Option Refusal). slice_get (cons_option o (filter_map refusal xs)) 0) e

  -- where an item has none, those after it decide
  pub later : (xs : List X) (i : ℕ) (x : X) → i < length xs → x ≡ get_or xs i x → refusal x ≡ None → first_of refusal (drop (i + 1) xs) ≡ first_of refusal (drop i xs)
  later xs i x lt is e = sym (ap (first_of refusal) (from_item xs i x lt is) ∙ passed x (drop (i + 1) xs) e)

  -- where it has one, it decides
  pub here : (xs : List X) (i : ℕ) (x : X) (why : Refusal) → i < length xs → x ≡ get_or xs i x → refusal x ≡ Some why → first_of refusal (drop i xs) ≡ Some why
  here xs i x why lt is e = ap (first_of refusal) (from_item xs i x lt is) ∙ failed x (drop (i + 1) xs) why e

  -- behind all there is none
  pub none : (xs : List X) (i : ℕ) → length xs ≤ i → first_of refusal (drop i xs) ≡ None
  none xs i le = ap (first_of refusal) (drop_all i xs le)

  -- where no item has one
  pub none_of_all : (xs : List X) → AllByRecursion (λ x. refusal x ≡ None) xs → first_of refusal xs ≡ None
  none_of_all [] all = refl
  none_of_all (x ∷ xs) all = passed x xs all.0 ∙ none_of_all xs all.1

-- ---- the first instruction outside

built_later : (x : ℕ × Op) (ops : Ops) → is_built x.1 ≡ true → first_outside (x ∷ ops) ≡ first_outside ops
unfolding first_outside
built_later x ops e = ap (λ b. cond b (first_outside ops) (Some x.0)) e

outside_now : (x : ℕ × Op) (ops : Ops) → is_built x.1 ≡ false → first_outside (x ∷ ops) ≡ Some x.0
unfolding first_outside
outside_now x ops e = ap (λ b. cond b (first_outside ops) (Some x.0)) e

pub outside_later : (ops : Ops) (i : ℕ) (x : ℕ × Op) → i < length ops → x ≡ get_or ops i x → is_built x.1 ≡ true → first_outside (drop (i + 1) ops) ≡ first_outside (drop i ops)
outside_later ops i x lt is e = sym (ap first_outside (from_item ops i x lt is) ∙ built_later x (drop (i + 1) ops) e)

pub outside_here : (ops : Ops) (i : ℕ) (x : ℕ × Op) → i < length ops → x ≡ get_or ops i x → is_built x.1 ≡ false → first_outside (drop i ops) ≡ Some x.0
outside_here ops i x lt is e = ap first_outside (from_item ops i x lt is) ∙ outside_now x (drop (i + 1) ops) e

pub outside_none : (ops : Ops) (i : ℕ) → length ops ≤ i → first_outside (drop i ops) ≡ None
unfolding first_outside
outside_none ops i le = ap first_outside (drop_all i ops le)
