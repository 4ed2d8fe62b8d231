-- The classes that a lookup visits from a class on, each once, in the order of the first visits.
use Rattle.std.specs.Prelude.{◌≡◌, ℕ, ◌<◌, nat_eq, List, [], length, get_or, Option}
use Rattle.std.specs.Option.{option_or}
use Rattle.std.specs.List.{AllByRecursion}
use Rattle.indexmap.specs.IndexSet.{insert_all}
use Rattle.class_pool.specs.declared.types.MemberId.{MemberId}
use Rattle.class_tree.specs.Upwards.{first_answer, first_upwards}

-- classes after those that were seen, without those that were seen before them
abbrev pub seen_after : List ℕ → List ℕ → List ℕ
seen_after seen classes = insert_all nat_eq seen classes

-- the list of a class
abbrev pub way_at : List (List ℕ) → ℕ → List ℕ
way_at ways class = get_or ways class []

-- what a class itself answers, by a list of its own for each class
abbrev pub answer_of : List (List ℕ) → (ℕ → Option MemberId) → ℕ → Option MemberId
answer_of own answer class = first_answer answer (way_at own class)

-- the first answer along the way is that of the class's own list, or else the first along the ways of those above
abbrev pub IsWayOver : List (List ℕ) → List ℕ → List ℕ → List ℕ → Type 0
IsWayOver ways own above way = (answer : ℕ → Option MemberId) → first_answer answer way ≡ option_or (first_answer answer own) (first_answer (answer_of ways answer) above)

-- the first answer along the way is the first on the way up from the class
abbrev pub IsWayUp : List (List ℕ) → List (List ℕ) → ℕ → ℕ → List ℕ → Type 0
IsWayUp own above levels class way = (answer : ℕ → Option MemberId) → first_answer answer way ≡ first_upwards (way_at above) (answer_of own answer) levels class

-- there is such a way for each of so many classes
pub record AreWaysUp (own above : List (List ℕ)) (count : ℕ) (ways : List (List ℕ)) : Type 0 where
  pub many : length ways ≡ count
  pub each : (class : ℕ) → class < count → IsWayUp own above count class (way_at ways class)

-- ---- how the ways are made, those of the classes of the lowest ranks first

-- the rank of a class
abbrev pub rank_at : List ℕ → ℕ → ℕ
rank_at ranks class = get_or ranks class 0

-- the ranks fall to the classes above, and each stays below the number of classes
pub record FallAlong (above : List (List ℕ)) (ranks : List ℕ) (count : ℕ) : Type 0 where
  pub many : length ranks ≡ count
  pub bound : (class : ℕ) → rank_at ranks class < count
  pub falls : (class : ℕ) → AllByRecursion (λ upper. (upper < count) × (rank_at ranks upper < rank_at ranks class)) (way_at above class)

-- there is a way for each class of a lower rank, and for the classes of this rank below this one
pub record AreWaysBelow (own above : List (List ℕ)) (ranks : List ℕ) (count rank class : ℕ) (ways : List (List ℕ)) : Type 0 where
  pub many : length ways ≡ count
  pub lower : (other : ℕ) → other < count → rank_at ranks other < rank → IsWayUp own above count other (way_at ways other)
  pub equal : (other : ℕ) → other < class → rank_at ranks other ≡ rank → IsWayUp own above count other (way_at ways other)
