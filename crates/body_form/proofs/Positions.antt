-- The positions of the rows whose range holds a pc, one position after the other.
use Rattle.std.proofs.Common.{◌≡◌, ℕ, ◌+◌, Bool, true, false, cond, List, [], ◌∷◌, ◌++◌, refl, sym, ap, ◌∙◌, arith, append-nil, ◌<◌, length, get_or}
use Rattle.std.specs.Prelude.{filter, map}
use Rattle.std.specs.Option.{option_map_or}
use Rattle.std.proofs.lemmas.Option.{slice_get-get_or}
use Rattle.std.specs.List.{range_with_len}
use Rattle.std.proofs.lemmas.List.FromFn.{filter_of_map_range_with_len_more}
use Rattle.body_form.specs.declared.body.Guard.{Guard}
use Rattle.body_form.specs.Flow.{covers, covers_from}

same : (xs : List ℕ) → map (λ (x : ℕ). x) xs ≡ xs
same [] = refl
same (x ∷ xs) = ap (λ (l : List ℕ). x ∷ l) (same xs)

-- one position more
more : (p : ℕ → Bool) (n : ℕ) → filter p (range_with_len 0 (n + 1)) ≡ filter p (range_with_len 0 n) ++ cond (p n) (n ∷ []) []
more p n =
    ap (filter p) (sym (same (range_with_len 0 (n + 1))))
    ∙ filter_of_map_range_with_len_more p (λ (x : ℕ). x) 0 n n (omega arith)
    ∙ ap (λ (l : List ℕ). filter p l ++ cond (p n) (n ∷ []) []) (same (range_with_len 0 n))

more_with : (p : ℕ → Bool) (n : ℕ) → p n ≡ true → filter p (range_with_len 0 (n + 1)) ≡ filter p (range_with_len 0 n) ++ n ∷ []
more_with p n e = more p n ∙ ap (λ (b : Bool). filter p (range_with_len 0 n) ++ cond b (n ∷ []) []) e

more_without : (p : ℕ → Bool) (n : ℕ) → p n ≡ false → filter p (range_with_len 0 (n + 1)) ≡ filter p (range_with_len 0 n)
more_without p n e = more p n ∙ ap (λ (b : Bool). filter p (range_with_len 0 n) ++ cond b (n ∷ []) []) e ∙ append-nil _

-- the row at a position
covered : (guards : List Guard) (at i : ℕ) (d : Guard) → i < length guards → covers_from guards at i ≡ covers at (get_or guards i d)
covered guards at i d within = ap (λ o. option_map_or (covers at) o false) (slice_get-get_or guards i d within)

pub row_more : (guards : List Guard) (at i : ℕ) (d : Guard) → i < length guards → covers at (get_or guards i d) ≡ true
    → filter (covers_from guards at) (range_with_len 0 (i + 1)) ≡ filter (covers_from guards at) (range_with_len 0 i) ++ i ∷ []
row_more guards at i d within e = more_with (covers_from guards at) i (covered guards at i d within ∙ e)

pub row_less : (guards : List Guard) (at i : ℕ) (d : Guard) → i < length guards → covers at (get_or guards i d) ≡ false
    → filter (covers_from guards at) (range_with_len 0 (i + 1)) ≡ filter (covers_from guards at) (range_with_len 0 i)
row_less guards at i d within e = more_without (covers_from guards at) i (covered guards at i d within ∙ e)
