-- The ways of all classes, made by rank.
use Rattle.std.proofs.Common.{◌≡◌, ◌≢◌, ℕ, ◌+◌, ◌<◌, List, length, Option, inl, inr, sym, ap, subst, ◌∙◌, arith}
use Rattle.std.specs.Option.{option_or}
use Rattle.std.specs.List.{AllByRecursion}
use Rattle.std.proofs.lemmas.Bool.{cases_lt}
use Rattle.class_pool.specs.declared.types.MemberId.{MemberId}
use Rattle.class_tree.specs.Upwards.{first_answer, first_upwards}
use Rattle.class_tree.specs.Ways.{way_at, answer_of, rank_at, FallAlong, IsWayOver, IsWayUp, AreWaysUp, AreWaysBelow}
use Rattle.class_tree.proofs.lookups.Climbing.{all_map, answers_alike, ruled}

module _ (own above : List (List ℕ)) (ranks : List ℕ) (count : ℕ) (fall : FallAlong above ranks count) where
  IsUp : ℕ → List ℕ → Type 0
  IsUp class way = IsWayUp own above count class way

  falls : (class : ℕ) → AllByRecursion (λ upper. rank_at ranks upper < rank_at ranks class) (way_at above class)
  falls class =
      all_map (λ upper. (upper < count) × (rank_at ranks upper < rank_at ranks class)) (λ upper. rank_at ranks upper < rank_at ranks class) (λ upper h. h.1) (way_at above class) (fall.falls class)

  -- over ways of all lower ranks stands a way up
  pub made : (ways : List (List ℕ)) (rank class : ℕ) (way : List ℕ) → AreWaysBelow own above ranks count rank class ways → rank_at ranks class ≡ rank
      → IsWayOver ways (way_at own class) (way_at above class) way → IsWayUp own above count class way
  made ways rank class way below is over answer =
      let up : ℕ → Option MemberId = λ c. first_upwards (way_at above) (answer_of own answer) count c in
      over answer
      ∙ ap (option_or (answer_of own answer class)) (answers_alike (answer_of ways answer) up (way_at above class)
      (all_map (λ upper. (upper < count) × (rank_at ranks upper < rank_at ranks class)) (λ upper. answer_of ways answer upper ≡ up upper)
      (λ upper h. below.lower upper h.0 (subst (λ n. rank_at ranks upper < n) is h.1) answer) (way_at above class) (fall.falls class)))
      ∙ sym (ruled (way_at above) (rank_at ranks) falls (answer_of own answer) count fall.bound class)

  -- a class of another rank needs no way yet
  pub skipped : (ways : List (List ℕ)) (rank class : ℕ) → AreWaysBelow own above ranks count rank class ways → (rank_at ranks class ≡ rank → ⊥) → AreWaysBelow own above ranks count rank (class + 1) ways
  skipped ways rank class below not_here =
      record {
        many = below.many;
        lower = below.lower;
        equal = λ other lt is. elim (cases_lt other class) [
          | inl less ↦ below.equal other less is
          | inr more ↦ absurd (not_here (ap (rank_at ranks) (omega (arith, lt, more)) ∙ is))
        ];
      }

  -- a way more
  pub put : (ways next : List (List ℕ)) (rank class : ℕ) → AreWaysBelow own above ranks count rank class ways → rank_at ranks class ≡ rank → length next ≡ length ways
      → IsWayOver ways (way_at own class) (way_at above class) (way_at next class) → ((other : ℕ) → other ≢ class → way_at next other ≡ way_at ways other)
      → AreWaysBelow own above ranks count rank (class + 1) next
  put ways next rank class below is same over others =
      let keep : (other : ℕ) → other ≢ class → IsWayUp own above count other (way_at ways other) → IsWayUp own above count other (way_at next other) =
      λ other apart up answer. ap (first_answer answer) (others other apart) ∙ up answer in
      record {
        many = same ∙ below.many;
        lower = λ other within less. keep other (λ e. omega (arith, less, is, ap (rank_at ranks) e)) (below.lower other within less);
        equal = λ other lt equal. elim (cases_lt other class) [
          | inl less ↦ keep other (λ e. omega (arith, less, e)) (below.equal other less equal)
          | inr more ↦
              let P : ℕ → Type 0 = λ c. IsWayUp own above count c (way_at next c) in
              subst P (omega (arith, lt, more)) (made ways rank class (way_at next class) below is over)
        ];
      }

  -- the next rank
  pub raised : (ways : List (List ℕ)) (rank : ℕ) → AreWaysBelow own above ranks count rank count ways → AreWaysBelow own above ranks count (rank + 1) 0 ways
  raised ways rank below =
      record {
        many = below.many;
        lower = λ other within less. elim (cases_lt (rank_at ranks other) rank) [
          | inl fewer ↦ below.lower other within fewer
          | inr more ↦ below.equal other within (omega (arith, less, more))
        ];
        equal = λ other lt is. absurd (omega (arith, lt));
      }

  -- all ranks
  pub finished : (ways : List (List ℕ)) → AreWaysBelow own above ranks count count 0 ways → AreWaysUp own above count ways
  finished ways below = record { many = below.many; each = λ class within. below.lower class within (fall.bound class) }

  pub started : (ways : List (List ℕ)) → length ways ≡ count → AreWaysBelow own above ranks count 0 0 ways
  started ways many = record { many = many; lower = λ other within less. absurd (omega (arith, less)); equal = λ other lt is. absurd (omega (arith, lt)) }
