-- In a closed set the classes of the files have one number each, behind what stands above them.
use Rattle.std.proofs.Common.{◌≡◌, ◌⊎◌, ℕ, zero, suc, ◌+◌, ◌-◌, ◌<◌, ◌≤◌, Bool, true, false, ◌||◌, nat_eq, nat_lt, cond, inl, inr, List, [], ◌∷◌, ◌++◌, map, length, None, refl, sym, ap, subst, ◌∙◌, arith}
use Rattle.std.specs.List.{fold, range_with_len, AllByRecursion}
use Rattle.std.specs.Option.{option_to_list}
use Rattle.std.proofs.lemmas.Bool.{le-ltb, cases_lt, ltb-false}
use Rattle.std.proofs.lemmas.Bool.Decides.{Decides-eqb}
use Rattle.std.proofs.lemmas.List.{length-map, append-nil, append_assoc}
use Rattle.library.specs.Classes.{first_own}
use Rattle.class_file.specs.declared.record.ClassFile.{ClassFile}
use Rattle.class_tree.specs.Closure.{leads_over}
use Rattle.class_tree.specs.DirectSupers.{class_count, superclass_of, superinterfaces_of}
use Rattle.class_tree.specs.Ranks.{how_many, AreRanks}
use Rattle.class_tree.specs.Set.{IsClass, own_name, is_directly_below}
use Rattle.class_tree.specs.Tree.{Gathers}
use Rattle.class_tree.proofs.ancestors.Acyclic.{ranks_by_ways}
use Rattle.class_tree.proofs.ancestors.Leading.{or_cases, or_left, or_right}
use Rattle.class_tree.proofs.ancestors.SupersAbove.{superclasses_fall, superinterfaces_fall}
use Rattle.class_tree.proofs.lookups.Climbing.{all_append}
use Rattle.jvm_model.specs.ImageNumbering.{is_among, number_class, class_order, IsClassOrder}
use Rattle.class_order.proofs.AmongNumbers.{among_left, among_right, among_cases, among_here, among_one, not_true, no_split, split}
use Rattle.class_order.proofs.SetClasses.{uppers, is_own, uppers_in, has_file, is_file, file_within}

module _ (files : List ClassFile) where
  abbrev names : List (List ℕ)
  names = map own_name files

  -- ---- what holds of the classes that have numbers so far

  pub record IsPart (order : List ℕ) : Type 0 where
    pub only : (class : ℕ) → is_among class order ≡ true → is_own files class ≡ true
    pub once : (before after : List ℕ) (class : ℕ) → order ≡ before ++ class ∷ after → is_among class (before ++ after) ≡ false
    pub above : (before after : List ℕ) (class : ℕ) → order ≡ before ++ class ∷ after → (upper : ℕ) → is_among upper (uppers files class) ≡ true → is_own files upper ≡ true → is_among upper before ≡ true

  none_yet : IsPart []
  none_yet =
      record {
        only = λ class e. cc;
        once = λ before after class e. absurd (no_split before after class e);
        above = λ before after class e upper up own. absurd (no_split before after class e);
      }

  module _ (order : List ℕ) (c : ℕ) (part : IsPart order) (own : is_own files c ≡ true) (new : is_among c order ≡ false)
      (behind : (upper : ℕ) → is_among upper (uppers files c) ≡ true → is_own files upper ≡ true → is_among upper order ≡ true) where
    still_only : (class : ℕ) → is_among class (order ++ c ∷ []) ≡ true → is_own files class ≡ true
    still_only class e =
        elim (among_cases class order (c ∷ []) e) [
          | inl there ↦ part.only class there
          | inr here ↦ ap (is_own files) (among_one class c here) ∙ own
        ]

    still_once : (before after : List ℕ) (class : ℕ) → order ++ c ∷ [] ≡ before ++ class ∷ after → is_among class (before ++ after) ≡ false
    still_once before after class e =
        elim (split order c before class after e) [
          | inl last ↦
              ap (λ (ys : List ℕ). is_among class (before ++ ys)) last.2 ∙ ap (is_among class) (append-nil before)
              ∙ ap (is_among class) (sym last.0) ∙ ap (λ n. is_among n order) (sym last.1) ∙ new
          | inr earlier ↦
              let rest = earlier.0 in
              let there : is_among class order ≡ true = ap (is_among class) earlier.1 ∙ among_right class before (class ∷ rest) (among_here class rest) in
              not_true (is_among class (before ++ after))
              (λ twice. elim (among_cases class (before ++ rest) (c ∷ []) (ap (is_among class) (append_assoc before rest (c ∷ []) ∙ ap (λ (ys : List ℕ). before ++ ys) (sym earlier.2)) ∙ twice)) [
                | inl again ↦ let once : is_among class (before ++ rest) ≡ false = part.once before rest class earlier.1 in cc
                | inr here ↦ let same : is_among c order ≡ true = ap (λ n. is_among n order) (sym (among_one class c here)) ∙ there in cc
              ])
        ]

    still_above : (before after : List ℕ) (class : ℕ) → order ++ c ∷ [] ≡ before ++ class ∷ after → (upper : ℕ) → is_among upper (uppers files class) ≡ true → is_own files upper ≡ true → is_among upper before ≡ true
    still_above before after class e upper up own_upper =
        elim (split order c before class after e) [
          | inl last ↦ ap (is_among upper) (sym last.0) ∙ behind upper (ap (λ n. is_among upper (uppers files n)) last.1 ∙ up) own_upper
          | inr earlier ↦ part.above before earlier.0 class earlier.1 upper up own_upper
        ]

    pub one_more : IsPart (order ++ c ∷ [])
    one_more = record { only = still_only; once = still_once; above = still_above }

  -- ---- numbers given by rank

  module _ (rank : ℕ → ℕ) (ranks : AreRanks names files rank) where
    uppers_fall : (class : ℕ) → AllByRecursion (λ upper. rank upper < rank class) (uppers files class)
    uppers_fall class =
        all_append (λ upper. rank upper < rank class) (option_to_list (superclass_of files class)) (superinterfaces_of files class)
        (superclasses_fall names files rank ranks class) (superinterfaces_fall names files rank ranks class)

    -- to some classes came others of lower rank, and all that were wanted
    record IsGrown (order new : List ℕ) (bound : ℕ) (wanted : List ℕ) : Type 0 where
      part : IsPart new
      keeps : (n : ℕ) → is_among n order ≡ true → is_among n new ≡ true
      adds : (n : ℕ) → is_among n new ≡ true → (is_among n order ≡ true) ⊎ (rank n < bound)
      there : (n : ℕ) → is_among n wanted ≡ true → is_own files n ≡ true → is_among n new ≡ true

    abbrev Grows : (List ℕ → ℕ → List ℕ) → ℕ → Type 0
    Grows step levels = (order : List ℕ) (class : ℕ) → IsPart order → IsClass files class → rank class < levels → IsGrown order (step order class) (suc (rank class)) (class ∷ [])

    all_grown : (step : List ℕ → ℕ → List ℕ) (levels : ℕ) → Grows step levels → (bound : ℕ) → bound ≤ levels → (classes order : List ℕ) → IsPart order
        → AllByRecursion (IsClass files) classes → AllByRecursion (λ class. rank class < bound) classes → IsGrown order (fold step order classes) bound classes
    all_grown step levels grows bound le [] order part all low = record { part = part; keeps = λ n e. e; adds = λ n e. inl e; there = λ n e own. cc }
    all_grown step levels grows bound le (class ∷ classes) order part all low =
        let first = grows order class part all.0 (omega (arith, low.0, le)) in
        let rest = all_grown step levels grows bound le classes (step order class) first.part all.1 low.1 in
        record {
          part = rest.part;
          keeps = λ n e. rest.keeps n (first.keeps n e);
          adds = λ n e. elim (rest.adds n e) [
            | inl middle ↦ elim (first.adds n middle) [
              | inl old ↦ inl old
              | inr lower ↦ inr (omega (arith, lower, low.0))
            ]
            | inr lower ↦ inr lower
          ];
          there = λ n e own. elim (or_cases (nat_eq n class) (is_among n classes) e) [
            | inl same ↦ rest.keeps n (first.there n (or_left (nat_eq n class) false same) own)
            | inr later ↦ rest.there n later own
          ];
        }

    module _ (levels : ℕ) (grows : Grows (number_class files levels) levels) (order : List ℕ) (class : ℕ) (part : IsPart order) (inside : IsClass files class) (low : rank class < suc levels) where
      -- it has a number, or gets none
      passed : (nat_lt class first_own || is_among class order) ≡ true → IsGrown order order (suc (rank class)) (class ∷ [])
      passed e =
          record {
            part = part;
            keeps = λ n e. e;
            adds = λ n e. inl e;
            there = λ n here own.
                let same = among_one n class here in
                let own_class : first_own ≤ class = subst (λ (m : ℕ). first_own ≤ m) same (is_file files n own) in
                elim (or_cases (nat_lt class first_own) (is_among class order) e) [
                  | inl library ↦ let no : nat_lt class first_own ≡ false = le-ltb class first_own own_class in cc
                  | inr among ↦ ap (λ m. is_among m order) same ∙ among
                ];
          }

      abbrev behind_uppers : List ℕ
      behind_uppers = fold (number_class files levels) order (uppers files class)

      -- it gets one behind what stands above it
      behind : first_own ≤ class → is_among class order ≡ false → IsGrown order (behind_uppers ++ class ∷ []) (suc (rank class)) (class ∷ [])
      behind own none =
          let grown = all_grown (number_class files levels) levels grows (rank class) (omega (arith, low)) (uppers files class) order part (uppers_in files class own) (uppers_fall class) in
          let new : is_among class behind_uppers ≡ false = not_true (is_among class behind_uppers)
          (λ among. elim (grown.adds class among) [
            | inl old ↦ cc
            | inr lower ↦ omega (arith, lower)
          ])
          in
          record {
            part = one_more behind_uppers class grown.part (has_file files class inside own) new grown.there;
            keeps = λ n e. among_left n behind_uppers (class ∷ []) (grown.keeps n e);
            adds = λ n e. elim (among_cases n behind_uppers (class ∷ []) e) [
              | inl among ↦ elim (grown.adds n among) [
                | inl old ↦ inl old
                | inr lower ↦ inr (omega (arith, lower))
              ]
              | inr here ↦ inr (let same = among_one n class here in subst (λ (m : ℕ). rank m < suc (rank class)) (sym same) (omega arith))
            ];
            there = λ n here own_n. among_right n behind_uppers (class ∷ []) here;
          }

      either : (b : Bool) → (nat_lt class first_own || is_among class order) ≡ b → IsGrown order (cond b order (behind_uppers ++ class ∷ [])) (suc (rank class)) (class ∷ [])
      either true e = passed e
      either false e =
          let own : nat_lt class first_own ≡ false = not_true (nat_lt class first_own) (λ is. let both = or_left (nat_lt class first_own) (is_among class order) is in cc) in
          let none : is_among class order ≡ false = not_true (is_among class order) (λ is. let both = or_right (nat_lt class first_own) (is_among class order) is in cc) in
          behind (ltb-false class first_own own) none

    numbered : (levels : ℕ) → Grows (number_class files levels) levels
    unfolding number_class
    numbered zero order class part inside low = absurd (omega (arith, low))
    numbered (suc levels) order class part inside low =
        either levels (numbered levels) order class part inside low (nat_lt class first_own || is_among class order) refl

    -- ---- all classes of files

    range_in : (first many : ℕ) → first_own ≤ first → first - first_own + many ≤ length files → AllByRecursion (IsClass files) (range_with_len first many)
    range_in first zero own le = tt
    range_in first (suc many) own le = (inr (own, omega (arith, own, le)), range_in (first + 1) many (omega (arith, own)) (omega (arith, own, le)))

    range_low : (bound : ℕ) → ((class : ℕ) → rank class < bound) → (first many : ℕ) → AllByRecursion (λ class. rank class < bound) (range_with_len first many)
    range_low bound all first zero = tt
    range_low bound all first (suc many) = (all first, range_low bound all (first + 1) many)

    range_has : (first many n : ℕ) → first ≤ n → n < first + many → is_among n (range_with_len first many) ≡ true
    range_has first zero n le lt = absurd (omega (arith, le, lt))
    range_has first (suc many) n le lt =
        elim (cases_lt first n) [
          | inl less ↦ or_right (nat_eq n first) (is_among n (range_with_len (first + 1) many)) (range_has (first + 1) many n (omega (arith, less)) (omega (arith, lt)))
          | inr more ↦ or_left (nat_eq n first) (is_among n (range_with_len (first + 1) many)) ((Decides-eqb n first).1 (omega (arith, le, more)))
        ]

    low_ranks : (class : ℕ) → rank class < class_count files
    low_ranks class = subst (λ n. rank class < 32 + n) (length-map files own_name) (ranks.bound class)

    all_numbered : IsGrown [] (class_order files) (class_count files) (range_with_len first_own (length files))
    all_numbered =
        all_grown (number_class files (class_count files)) (class_count files) (numbered (class_count files)) (class_count files) (omega arith) (range_with_len first_own (length files)) [] none_yet
        (range_in first_own (length files) (omega arith) (omega arith)) (range_low (class_count files) low_ranks first_own (length files))

    by_ranks : IsClassOrder files (class_order files)
    by_ranks =
        record {
          each = λ class own. all_numbered.there class (range_has first_own (length files) class (is_file files class own) (omega (arith, is_file files class own, file_within files class own))) own;
          only = all_numbered.part.only;
          once = all_numbered.part.once;
          above = λ before after class e upper up own. all_numbered.part.above before after class e upper up own;
        }

  pub right_order : Gathers files None → IsClassOrder files (class_order files)
  right_order gathers =
      let rank : ℕ → ℕ = λ class. how_many (leads_over (is_directly_below names files) (32 + length names) class) (32 + length names) in
      by_ranks rank (ranks_by_ways names files gathers.1.1.1.0 (length-map files own_name))
