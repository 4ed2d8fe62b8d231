-- Rows of a table as vectors, and as lists.
use Rattle.std.proofs.Common.{◌≡◌, ◌≢◌, ℕ, zero, suc, ◌<◌, List, [], ◌∷◌, ◌++◌, map, length, get_or, Vec, Global, refl, sym, ◌∙◌, ap, subst, arith}
use Rattle.std.specs.Prelude.{slice_set}
use Rattle.std.proofs.lemmas.List.{get_or-map, get_or-set_same, get_or-set_other, map-set, length-map}

module _ {X : Type 0} where
  -- the lists of vectors
  abbrev pub lists : List (Vec X Global) → List (List X)
  lists rows = map (λ v. v.items) rows

  pub row_is : (rows : List (Vec X Global)) (i : ℕ) (d : Vec X Global) → i < length rows → get_or (lists rows) i [] ≡ (get_or rows i d).items
  row_is rows i d within = get_or-map (λ (v : Vec X Global). v.items) rows i d [] within

  pub row_set : (rows : List (Vec X Global)) (i : ℕ) (v : Vec X Global) → i < length rows → get_or (lists (slice_set rows i v)) i [] ≡ v.items
  row_set rows i v within =
      ap (λ (l : List (List X)). get_or l i []) (map-set (λ (w : Vec X Global). w.items) rows i v)
      ∙ get_or-set_same (lists rows) i v.items [] (subst (λ n. i < n) (sym (length-map rows (λ (w : Vec X Global). w.items))) within)

  pub row_other : (rows : List (Vec X Global)) (i j : ℕ) (v : Vec X Global) → j ≢ i → get_or (lists (slice_set rows i v)) j [] ≡ get_or (lists rows) j []
  row_other rows i j v apart =
      ap (λ (l : List (List X)). get_or l j []) (map-set (λ (w : Vec X Global). w.items) rows i v)
      ∙ get_or-set_other (lists rows) i j v.items [] apart

  -- a row that was pushed, and those before it
  pub row_pushed : (rows : List (Vec X Global)) (v : Vec X Global) → get_or (lists (rows ++ v ∷ [])) (length rows) [] ≡ v.items
  row_pushed [] v = refl
  row_pushed (w ∷ rows) v = row_pushed rows v

  pub row_earlier : (rows : List (Vec X Global)) (v : Vec X Global) (i : ℕ) → i < length rows → get_or (lists (rows ++ v ∷ [])) i [] ≡ get_or (lists rows) i []
  row_earlier [] v i lt = absurd (omega (arith, lt))
  row_earlier (w ∷ rows) v zero lt = refl
  row_earlier (w ∷ rows) v (suc i) lt = row_earlier rows v i (omega (arith, lt))
