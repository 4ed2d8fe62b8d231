-- No class is above itself, so that how many are above a class falls on the way up.
use Rattle.std.proofs.Common.{◌≡◌, ℕ, zero, suc, ◌+◌, ◌-◌, ◌<◌, ◌≤◌, Bool, true, false, cond, inl, inr, List, [], ◌∷◌, length, slice_get, Option, Some, None, option_and_then, refl, sym, ap, subst, ◌∙◌, arith, get_or}
use Rattle.std.specs.Option.{option_map_or}
use Rattle.std.proofs.lemmas.Bool.{lt-ltb, le-ltb, cases_lt}
use Rattle.library.specs.Classes.{first_own, superclasses}
use Rattle.class_file.specs.declared.record.ClassFile.{ClassFile}
use Rattle.class_tree.specs.Set.{is_number, library_superclass, names_super, is_directly_below}
use Rattle.class_tree.specs.Closure.{Leads, AtOnce, Over, Rows, at, IsClosure, leads_over}
use Rattle.class_tree.specs.Circles.{IsCircular}
use Rattle.class_tree.specs.Ranks.{how_many, rank_in, AreRanks}
use Rattle.class_tree.proofs.tables.Counting.{grows_more, not_all}
use Rattle.class_tree.proofs.tables.Within.{same_some, is_number_same, stays_below}
use Rattle.class_tree.proofs.ancestors.Leading.{sound, complete}

-- ---- classes of the library

-- each number, where there is one, is below its position, which counts from here
AreLower : ℕ → List (Option ℕ) → Type 0
AreLower here [] = Unit {0}
AreLower here (x ∷ xs) = ((n : ℕ) → x ≡ Some n → n < here) × AreLower (suc here) xs

lower_at : (here : ℕ) (xs : List (Option ℕ)) → AreLower here xs → (i n : ℕ) → option_and_then (λ above. above) (slice_get xs i) ≡ Some n → n < here + i
unfolding AreLower
lower_at here [] all i n e = cc
lower_at here (x ∷ xs) all zero n e = omega (arith, all.0 n e)
lower_at here (x ∷ xs) all (suc i) n e = omega (arith, lower_at (suc here) xs all.1 i n e)

no_super : (here n : ℕ) → None ≡ Some n → n < here
no_super here n e = cc

a_super : (k here : ℕ) → k < here → (n : ℕ) → Some k ≡ Some n → n < here
a_super k here lt n e = subst (λ m. m < here) (same_some k n e) lt

library_lower : (class upper : ℕ) → library_superclass class ≡ Some upper → upper < class
unfolding AreLower
library_lower class upper e =
    let all : AreLower 0 superclasses = (no_super 0, (a_super 0 1 (omega arith), (a_super 1 2 (omega arith), (a_super 2 3 (omega arith), (a_super 3 4 (omega arith), (a_super 3 5 (omega arith), (a_super 3 6 (omega arith), (a_super 3 7 (omega arith), (a_super 3 8 (omega arith), (a_super 3 9 (omega arith), (a_super 9 10 (omega arith), (a_super 1 11 (omega arith), (a_super 11 12 (omega arith), (a_super 12 13 (omega arith), (a_super 0 14 (omega arith), tt))))))))))))))) in
    omega (arith, lower_at 0 superclasses all class upper e)

pub not_true : (b : Bool) → (b ≡ true → ⊥) → b ≡ false
not_true false h = refl
not_true true h = absurd (h refl)

module _ (names : List (List ℕ)) (files : List ClassFile) where
  abbrev count : ℕ
  count = 32 + length names

  -- ---- what stands directly above

  pub by_library : (class upper : ℕ) → class < first_own → is_directly_below names files class upper ≡ is_number upper (library_superclass class)
  by_library class upper lt =
      ap (λ b. cond b (is_number upper (library_superclass class)) (option_map_or (names_super names upper) (slice_get files (class - first_own)) false)) (lt-ltb class first_own lt)

  pub by_file : (class upper : ℕ) → first_own ≤ class → is_directly_below names files class upper ≡ option_map_or (names_super names upper) (slice_get files (class - first_own)) false
  by_file class upper le =
      ap (λ b. cond b (is_number upper (library_superclass class)) (option_map_or (names_super names upper) (slice_get files (class - first_own)) false)) (le-ltb class first_own le)

  no_file : (upper : ℕ) (fs : List ClassFile) (i : ℕ) → length fs ≤ i → option_map_or (names_super names upper) (slice_get fs i) false ≡ false
  no_file upper [] i le = refl
  no_file upper (f ∷ fs) zero le = absurd (omega (arith, le))
  no_file upper (f ∷ fs) (suc i) le = no_file upper fs i (omega (arith, le))

  nowhere : (class upper : ℕ) → first_own + length files ≤ class → is_directly_below names files class upper ≡ true → ⊥
  nowhere class upper le e =
      let f : false ≡ true = sym (no_file upper files (class - first_own) (omega (arith, le))) ∙ sym (by_file class upper (omega (arith, le))) ∙ e in cc

  -- what leads somewhere leads there at once
  leads_nowhere : (class upper : ℕ) → first_own + length files ≤ class → Leads (is_directly_below names files) class upper → ⊥
  leads_nowhere class upper le (AtOnce e) = nowhere class upper le e
  leads_nowhere class upper le (Over by e p) = nowhere class by le e

  library_step : (class upper : ℕ) → class < first_own → is_directly_below names files class upper ≡ true → upper < class
  library_step class upper lt e = library_lower class upper (is_number_same upper (library_superclass class) (sym (by_library class upper lt) ∙ e))

  library_leads : (class upper : ℕ) → class < first_own → Leads (is_directly_below names files) class upper → upper < class
  library_leads class upper lt (AtOnce e) = library_step class upper lt e
  library_leads class upper lt (Over by e p) =
      let step = library_step class by lt e in omega (arith, step, library_leads by upper (omega (arith, step, lt)) p)

  -- ---- no class is above itself, where none of the files' is

  module _ (none : (file : ℕ) → file < length files → IsCircular names files file → ⊥) (same : length names ≡ length files) where
    pub no_circle : (class : ℕ) → Leads (is_directly_below names files) class class → ⊥
    no_circle class leads =
        elim (cases_lt class first_own) [
          | inl library ↦ omega (arith, library_leads class class library leads)
          | inr own ↦ elim (cases_lt (class - first_own) (length files)) [
            | inl within ↦
                let P : ℕ → Type 0 = λ n. Leads (is_directly_below names files) n n in
                none (class - first_own) within (subst P (omega (arith, own)) leads)
            | inr beyond ↦ leads_nowhere class class (omega (arith, own, beyond)) leads
          ]
        ]

    module _ (test : ℕ → ℕ → Bool) (is_sound : (from to : ℕ) → to < count → test from to ≡ true → Leads (is_directly_below names files) from to)
        (is_complete : (from to : ℕ) → from < count → to < count → Leads (is_directly_below names files) from to → test from to ≡ true) where
      rank_falls : (class upper : ℕ) → is_directly_below names files class upper ≡ true → how_many (test upper) count < how_many (test class) count
      rank_falls class upper e =
          elim (cases_lt class count) [
            | inl within ↦
                let upper_within = stays_below names files class upper e in
                grows_more (test upper) (test class) count upper upper_within
                (λ to lt leads. is_complete class to within lt (Over upper e (is_sound upper to lt leads)))
                (not_true (test upper upper) (λ leads. no_circle upper (is_sound upper upper upper_within leads)))
                (is_complete class upper within upper_within (AtOnce e))
            | inr beyond ↦ absurd (nowhere class upper (omega (arith, beyond, same)) e)
          ]

      rank_bound : (class : ℕ) → how_many (test class) count < count
      rank_bound class =
          elim (cases_lt class count) [
            | inl within ↦ not_all (test class) count class within (not_true (test class class) (λ leads. no_circle class (is_sound class class within leads)))
            | inr beyond ↦
                not_all (test class) count 0 (omega arith) (not_true (test class 0) (λ leads. leads_nowhere class 0 (omega (arith, beyond, same)) (is_sound class 0 (omega arith) leads)))
          ]

      ranks : AreRanks names files (λ class. how_many (test class) count)
      ranks = record { falls = rank_falls; bound = rank_bound }

    -- the rank by ways over all numbers
    pub ranks_by_ways : AreRanks names files (λ class. how_many (leads_over (is_directly_below names files) count class) count)
    ranks_by_ways =
        ranks (leads_over (is_directly_below names files) count) (λ from to lt e. sound (is_directly_below names files) count from to e)
        (λ from to f t p. complete (is_directly_below names files) count from to (stays_below names files) p)

    -- the rank by the table
    outside : (rows : Rows) (from to : ℕ) → length rows ≤ from → at rows from to ≡ false
    outside [] from to le = refl
    outside (r ∷ rows) zero to le = absurd (omega (arith, le))
    outside (r ∷ rows) (suc from) to le = outside rows from to (omega (arith, le))

    table_sound : (rows : Rows) → IsClosure (is_directly_below names files) count rows → (from to : ℕ) → to < count → at rows from to ≡ true → Leads (is_directly_below names files) from to
    table_sound rows closure from to lt e =
        elim (cases_lt from count) [
          | inl within ↦ (closure.says from to within lt).0 e
          | inr beyond ↦ let f : false ≡ true = sym (outside rows from to (omega (arith, beyond, closure.square.many))) ∙ e in cc
        ]

    pub ranks_by_table : (rows : Rows) → IsClosure (is_directly_below names files) count rows → AreRanks names files (rank_in rows count)
    ranks_by_table rows closure = ranks (at rows) (table_sound rows closure) (λ from to f t p. (closure.says from to f t).1 p)

    -- the rank in a list of as many numbers
    no_rank : (list : List ℕ) (class : ℕ) → length list ≤ class → get_or list class 0 ≡ 0
    no_rank [] class le = refl
    no_rank (r ∷ list) zero le = absurd (omega (arith, le))
    no_rank (r ∷ list) (suc class) le = no_rank list class (omega (arith, le))

    pub ranks_listed : (rank : ℕ → ℕ) (list : List ℕ) → length list ≡ count → ((class : ℕ) → class < count → get_or list class 0 ≡ rank class) → AreRanks names files rank
        → AreRanks names files (λ class. get_or list class 0)
    ranks_listed rank list many each ranked =
        record {
          falls = λ class upper e. elim (cases_lt class count) [
            | inl within ↦ omega (arith, each class within, each upper (stays_below names files class upper e), ranked.falls class upper e)
            | inr beyond ↦ absurd (nowhere class upper (omega (arith, beyond, same)) e)
          ];
          bound = λ class. elim (cases_lt class count) [
            | inl within ↦ omega (arith, each class within, ranked.bound class)
            | inr beyond ↦ omega (arith, no_rank list class (omega (arith, beyond, many)))
          ];
        }
