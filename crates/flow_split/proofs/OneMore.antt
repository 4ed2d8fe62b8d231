-- A list of what each number gives goes on by one.
use Rattle.std.proofs.Common.{◌≡◌, ℕ, ◌+◌, List, [], ◌∷◌, ◌++◌, map, get_or, sym, ap, ◌∙◌, arith}
use Rattle.std.specs.List.{range_with_len}
use Rattle.std.proofs.lemmas.List.FromFn.{map-range_with_len_more}

pub one_more : {X : Type 0} (f : ℕ → X) (k : ℕ) (old new : List X) (x : X) → new ≡ old ++ x ∷ [] → old ≡ map f (range_with_len 0 k) → x ≡ f k → new ≡ map f (range_with_len 0 (k + 1))
one_more {X} f k old new x pushed is same =
    pushed
    ∙ ap (λ (list : List X). list ++ x ∷ []) is
    ∙ ap (λ (y : X). map f (range_with_len 0 k) ++ y ∷ []) same
    ∙ sym (map-range_with_len_more f 0 k k (omega arith))

-- an element of a list that is another, at an index that is another
pub at_same : {X : Type 0} (list other : List X) (i j : ℕ) (d : X) → list ≡ other → i ≡ j → get_or list i d ≡ get_or other j d
at_same list other i j d same is = ap (λ l. get_or l i d) same ∙ ap (λ k. get_or other k d) is
