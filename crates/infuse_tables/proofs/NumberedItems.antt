-- Items with their numbers, as many as are passed.
use Rattle.std.proofs.Common.{◌≡◌, ℕ, zero, suc, ◌+◌, ◌<◌, ◌≤◌, List, [], ◌∷◌, ◌++◌, take, length, get_or, Option, Some, None, refl, sym, ap, ◌∙◌, arith, add-one}
use Rattle.std.specs.List.{cons_option, filter_map}
use Rattle.std.specs.Option.{option_to_list}
use Rattle.std.proofs.lemmas.List.{take_all}
use Rattle.std.proofs.lemmas.List.Elements.{filter_map-append}
use Rattle.jvm_model.specs.ImageTables.{numbered}

pub numbered_length : {X : Type 0} (first : ℕ) (items : List X) → length (numbered first items) ≡ length items
unfolding numbered
numbered_length first [] = refl
numbered_length first (item ∷ items) = ap suc (numbered_length (suc first) items)

-- one item more is taken
next_taken : {X : Type 0} (items : List X) (first i : ℕ) (x : X) → i < length items → x ≡ get_or items i x → take (suc i) (numbered first items) ≡ take i (numbered first items) ++ (first + i, x) ∷ []
unfolding numbered
next_taken [] first i x lt is = absurd (omega (arith, lt))
next_taken (item ∷ items) first zero x lt is =
    let here : first ≡ first + 0 = omega arith in
    ap (λ n. (n, item) ∷ []) here ∙ ap (λ y. (first + 0, y) ∷ []) (sym is)
next_taken (item ∷ items) first (suc i) x lt is =
    let next : suc first + i ≡ first + suc i = omega arith in
    ap (λ l. (first, item) ∷ l) (next_taken items (suc first) i x (omega (arith, lt)) is)
    ∙ ap (λ n. (first, item) ∷ (take i (numbered (suc first) items) ++ (n, x) ∷ [])) next

-- and is added where it has something
pub mapped_next : {X Y : Type 0} (f : ℕ × X → Option Y) (items : List X) (i : ℕ) (x : X) → i < length items → x ≡ get_or items i x
    → filter_map f (take (i + 1) (numbered 0 items)) ≡ filter_map f (take i (numbered 0 items)) ++ filter_map f ((i, x) ∷ [])
mapped_next f items i x lt is =
    let same : 0 + i ≡ i = omega arith in
    ap (λ n. filter_map f (take n (numbered 0 items))) (add-one i)
    ∙ ap (filter_map f) (next_taken items 0 i x lt is)
    ∙ filter_map-append f (take i (numbered 0 items)) ((0 + i, x) ∷ [])
    ∙ ap (λ n. filter_map f (take i (numbered 0 items)) ++ filter_map f ((n, x) ∷ [])) same

-- all of them are taken
pub mapped_all : {X Y : Type 0} (f : ℕ × X → Option Y) (items : List X) (i : ℕ) → length items ≤ i → filter_map f (take i (numbered 0 items)) ≡ filter_map f (numbered 0 items)
mapped_all f items i le = ap (filter_map f) (take_all i (numbered 0 items) (omega (arith, le, numbered_length 0 items)))

-- one item gives what it has
pub one_mapped : {X Y : Type 0} (f : X → Option Y) (x : X) → filter_map f (x ∷ []) ≡ option_to_list (f x)
one_mapped {Y = Y} f x = by (f x)
  where
    by : (o : Option Y) → cons_option o [] ≡ option_to_list o
    by None = refl
    by (Some y) = refl
