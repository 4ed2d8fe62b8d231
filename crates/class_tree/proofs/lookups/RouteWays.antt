-- The ways by a route, and those of a whole set.
use Rattle.std.proofs.Common.{◌≡◌, ℕ, ◌+◌, ◌<◌, List, [], length, map, Option, refl, sym, ap, subst, ◌∙◌, arith, inl, inr}
use Rattle.std.specs.Option.{option_or, option_to_list}
use Rattle.std.specs.List.{AllByRecursion}
use Rattle.std.proofs.lemmas.Bool.{cases_lt}
use Rattle.std.proofs.lemmas.List.{get_or_past, length-map}
use Rattle.class_pool.specs.declared.types.MemberId.{MemberId}
use Rattle.class_file.specs.declared.record.ClassFile.{ClassFile}
use Rattle.class_tree.specs.declared.route.Route.{Route}
use Rattle.class_tree.specs.declared.route.Route.TheVariants.{Superclass, Superinterfaces, Both}
use Rattle.class_tree.specs.Set.{own_name}
use Rattle.class_tree.specs.DirectSupers.{class_count, above_by, superclass_among, superinterfaces_among}
use Rattle.class_tree.specs.Upwards.{first_answer, first_upwards}
use Rattle.class_tree.specs.Ranks.{AreRanks}
use Rattle.class_tree.specs.Ways.{seen_after, way_at, answer_of, rank_at, FallAlong, IsWayOver, AreWaysUp}
use Rattle.class_tree.specs.LookupWays.{AreAlone, LeadUpBy, LeadBeside, AreLookupWays}
use Rattle.class_tree.proofs.lookups.Climbing.{all_map, all_append, answer_none, answer_one, answers_alike}
use Rattle.class_tree.proofs.tables.Within.{stays_below}
use Rattle.class_tree.proofs.ancestors.SupersAbove.{IsAbove, superclasses_above, superinterfaces_above}
use Rattle.class_tree.proofs.tables.Seen.{answer_seen, all_seen}
use Rattle.class_tree.proofs.lookups.SameWays.{same_up}

-- what is seen answers as the classes do
pub seen_alike : (answer : ℕ → Option MemberId) (xs : List ℕ) → first_answer answer (seen_after [] xs) ≡ first_answer answer xs
seen_alike answer xs = answer_seen answer [] xs ∙ ap (λ o. option_or o (first_answer answer xs)) (answer_none answer)

module _ (names : List (List ℕ)) (files : List ClassFile) where
  abbrev count : ℕ
  count = 32 + length names

  -- what a route goes up to is directly above
  route_above : (route : Route) (class : ℕ) → AllByRecursion (IsAbove names files class) (above_by route names files class)
  route_above Superclass class = superclasses_above names files class
  route_above Superinterfaces class = superinterfaces_above names files class
  route_above Both class =
      all_append (IsAbove names files class) (superinterfaces_among names files class) (option_to_list (superclass_among names files class)) (superinterfaces_above names files class) (superclasses_above names files class)

  pub route_within : (route : Route) (class : ℕ) → AllByRecursion (λ upper. upper < count) (above_by route names files class)
  route_within route class = all_map (IsAbove names files class) (λ upper. upper < count) (λ upper e. stays_below names files class upper e) (above_by route names files class) (route_above route class)

  -- the lists of a route
  module _ (route : Route) (above : List (List ℕ)) (many : length above ≡ count)
      (each : (class : ℕ) → class < count → way_at above class ≡ seen_after [] (above_by route names files class)) where
    pub route_falls : (ranks : List ℕ) → length ranks ≡ count → AreRanks names files (rank_at ranks) → FallAlong above ranks count
    route_falls ranks same ranked =
        let P : ℕ → ℕ → Type 0 = λ class upper. (upper < count) × (rank_at ranks upper < rank_at ranks class) in
        let Q : ℕ → List ℕ → Type 0 = λ class uppers. AllByRecursion (P class) uppers in
        record {
          many = same;
          bound = λ class. ranked.bound class;
          falls = λ class. elim (cases_lt class count) [
            | inl within ↦
                subst (Q class) (sym (each class within))
                (all_seen (P class) [] (above_by route names files class) tt
                (all_map (IsAbove names files class) (P class) (λ upper e. (stays_below names files class upper e, ranked.falls class upper e)) (above_by route names files class) (route_above route class)))
            | inr beyond ↦ subst (Q class) (sym (get_or_past above class [] (omega (arith, beyond, many)))) tt
          ];
        }

    -- ways up over the lists are ways up by the route
    pub route_ways : (own ways : List (List ℕ)) → AreWaysUp own above count ways → LeadUpBy names files route own ways
    route_ways own ways up class lt answer =
        let A : ℕ → List ℕ = way_at above in
        let B : ℕ → List ℕ = above_by route names files in
        up.each class lt answer
        ∙ same_up A B (answer_of own answer) (answer_of own answer) count
        (λ c within h. ap (first_answer h) (each c within) ∙ seen_alike h (B c)) (λ c within. route_within route c) (λ c within. refl) count class lt

  -- the list beside a class
  pub beside : (ways above : List (List ℕ)) (class : ℕ) (way : List ℕ) → way_at above class ≡ seen_after [] (above_by Superinterfaces names files class) → IsWayOver ways [] (way_at above class) way
      → (answer : ℕ → Option MemberId) → first_answer answer way ≡ first_answer (answer_of ways answer) (above_by Superinterfaces names files class)
  beside ways above class way is over answer =
      over answer ∙ ap (λ o. option_or o (first_answer (answer_of ways answer) (way_at above class))) (answer_none answer)
      ∙ ap (first_answer (answer_of ways answer)) is ∙ seen_alike (answer_of ways answer) (above_by Superinterfaces names files class)

  -- a class that answers by itself
  alone_answers : (own : List (List ℕ)) → AreAlone count own → (answer : ℕ → Option MemberId) (class : ℕ) → class < count → answer_of own answer class ≡ answer class
  alone_answers own alone answer class lt = ap (first_answer answer) (alone class lt) ∙ answer_one answer class

  pub up_alone : (route : Route) (own ways : List (List ℕ)) → AreAlone count own → LeadUpBy names files route own ways → (class : ℕ) → class < count → (answer : ℕ → Option MemberId)
      → first_answer answer (way_at ways class) ≡ first_upwards (above_by route names files) answer count class
  up_alone route own ways alone up class lt answer =
      let B : ℕ → List ℕ = above_by route names files in
      up class lt answer
      ∙ same_up B B (answer_of own answer) answer count (λ c within h. refl) (λ c within. route_within route c) (λ c within. alone_answers own alone answer c within) count class lt

  pub up_beside : (own interfaces lists ways : List (List ℕ)) → AreAlone count own → LeadUpBy names files Superinterfaces own interfaces → LeadBeside names files interfaces lists
      → LeadUpBy names files Superclass lists ways → (class : ℕ) → class < count → (answer : ℕ → Option MemberId)
      → first_answer answer (way_at ways class)
      ≡ first_upwards (above_by Superclass names files) (λ lower. first_answer (first_upwards (above_by Superinterfaces names files) answer count) (above_by Superinterfaces names files lower)) count class
  up_beside own interfaces lists ways alone up beside_lists up_lists class lt answer =
      let B : ℕ → List ℕ = above_by Superclass names files in
      let I : ℕ → List ℕ = above_by Superinterfaces names files in
      let by_way : ℕ → Option MemberId = answer_of interfaces answer in
      let by_rule : ℕ → Option MemberId = first_upwards I answer count in
      up_lists class lt answer
      ∙ same_up B B (answer_of lists answer) (λ lower. first_answer by_rule (I lower)) count (λ c within h. refl) (λ c within. route_within Superclass c)
      (λ c within. beside_lists c within answer
      ∙ answers_alike by_way by_rule (I c)
      (all_map (λ upper. upper < count) (λ upper. by_way upper ≡ by_rule upper) (λ upper less. up_alone Superinterfaces own interfaces alone up upper less answer) (I c) (route_within Superinterfaces c)))
      count class lt

-- the ways of a set
pub all_ways : (names : List (List ℕ)) (files : List ClassFile) → names ≡ map own_name files → (own both superclasses superinterfaces lists beside_ways : List (List ℕ))
    → AreAlone (32 + length names) own → LeadUpBy names files Both own both → LeadUpBy names files Superclass own superclasses → LeadUpBy names files Superinterfaces own superinterfaces
    → LeadBeside names files superinterfaces lists → LeadUpBy names files Superclass lists beside_ways → AreLookupWays files both superclasses superinterfaces beside_ways
all_ways names files named own both superclasses superinterfaces lists beside_ways alone up_both up_superclasses up_superinterfaces beside_lists up_lists =
    let own_names = map own_name files in
    let counts : 32 + length names ≡ class_count files = ap (λ (l : List (List ℕ)). 32 + length l) named ∙ ap (λ n. 32 + n) (length-map files own_name) in
    let UpBy : Route → List (List ℕ) → List (List ℕ) → ℕ → Type 0 = λ route ways ns levels. (class : ℕ) → class < levels → (answer : ℕ → Option MemberId)
    → first_answer answer (way_at ways class) ≡ first_upwards (above_by route ns files) answer levels class in
    let Beside : List (List ℕ) → ℕ → Type 0 = λ ns levels. (class : ℕ) → class < levels → (answer : ℕ → Option MemberId)
    → first_answer answer (way_at beside_ways class)
    ≡ first_upwards (above_by Superclass ns files) (λ lower. first_answer (first_upwards (above_by Superinterfaces ns files) answer levels) (above_by Superinterfaces ns files lower)) levels class in
    let moved : (P : List (List ℕ) → ℕ → Type 0) → P names (32 + length names) → P own_names (class_count files) =
    λ P p. subst (λ n. P own_names n) counts (subst (λ (ns : List (List ℕ)). P ns (32 + length names)) named p) in
    record {
      by_both = moved (UpBy Both both) (up_alone names files Both own both alone up_both);
      by_superclasses = moved (UpBy Superclass superclasses) (up_alone names files Superclass own superclasses alone up_superclasses);
      by_superinterfaces = moved (UpBy Superinterfaces superinterfaces) (up_alone names files Superinterfaces own superinterfaces alone up_superinterfaces);
      besides = moved Beside (up_beside names files own superinterfaces lists beside_ways alone up_superinterfaces beside_lists up_lists);
    }
