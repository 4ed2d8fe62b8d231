-- The search as a whole: the set has what is reached and nothing else.
use Rattle.std.proofs.Common.{inl, inr, ◌↔◌, ◌≡◌, ℕ, zero, suc, ◌<◌, Bool, true, false, List, [], ◌∷◌, ◌++◌, length, map, get_or, replicate, refl, sym, ap, ◌∙◌, subst, arith}
use Rattle.std.specs.List.{AllByRecursion}
use Rattle.std.proofs.lemmas.Bool.{false≢true}
use Rattle.std.proofs.lemmas.List.{get_or-replicate, length-replicate}
use Rattle.code_reach.specs.declared.visits.Visits.{Visits}
use Rattle.code_reach.specs.Reached.{Ways, RisesFrom, IsClosed, IsReached, AreFlags, TellReached}
use Rattle.code_reach.specs.Visits.{IsIn, IsMarked, Reaches, Reaching, Follows, pc_at, pcs_of, index_of, successors_at}
use Rattle.code_reach.proofs.Members.{in_none, in_cons, in_here, in_rest, in_pushed, in_new, in_old}
use Rattle.code_reach.proofs.Indexes.{index_within, index_at}

-- ---- lists of pcs and lists of their indexes

-- a number in a view of a list comes from one of the list
from_map : (view : ℕ → ℕ) (P : ℕ → Type 0) (xs : List ℕ) (n : ℕ) → AllByRecursion P xs → IsIn (map view xs) n → (x : ℕ) × (P x) × (view x ≡ n)
from_map view P [] n all e = absurd (in_none n e)
from_map view P (x ∷ xs) n all e = elim (in_cons (view x) (map view xs) n e) [ inl here ↦ (x, all.0, here) | inr rest ↦ from_map view P xs n all.1 rest ]

to_map : (view : ℕ → ℕ) (P : ℕ → Type 0) (xs : List ℕ) → ((n : ℕ) → IsIn (map view xs) n → P n) → AllByRecursion (λ x. P (view x)) xs
to_map view P [] all = tt
to_map view P (x ∷ xs) all = (all (view x) (in_here (view x) (map view xs) (view x) refl), to_map view P xs (λ n e. all n (in_rest (view x) (map view xs) n e)))

-- ---- closed sets, instruction by instruction

closed_at : (holds : ℕ → Bool) (ways : Ways) (i : ℕ) → i < length ways → IsClosed holds ways → holds (pc_at ways i) ≡ true → AllByRecursion (λ to. holds to ≡ true) (successors_at ways i)
closed_at holds [] i lt closed e = absurd (omega (arith, lt))
closed_at holds (x ∷ ways) zero lt closed e = closed.0 e
closed_at holds (x ∷ ways) (suc i) lt closed e = closed_at holds ways i (omega (arith, lt)) closed.1 e

closed_from : (holds : ℕ → Bool) (ways : Ways) → ((i : ℕ) → i < length ways → holds (pc_at ways i) ≡ true → AllByRecursion (λ to. holds to ≡ true) (successors_at ways i)) → IsClosed holds ways
closed_from holds [] all = tt
closed_from holds (x ∷ ways) all = (all 0 (omega arith), closed_from holds ways (λ i lt. all (suc i) (omega (arith, lt))))

-- ---- pcs and their indexes

pc_is : (ways : Ways) (i : ℕ) → i < length ways → get_or (pcs_of ways) i 0 ≡ pc_at ways i
pc_is [] i lt = absurd (omega (arith, lt))
pc_is (x ∷ ways) zero lt = refl
pc_is (x ∷ ways) (suc i) lt = pc_is ways i (omega (arith, lt))

size_is : (ways : Ways) → length (pcs_of ways) ≡ length ways
size_is [] = refl
size_is (x ∷ ways) = ap suc (size_is ways)

index_is : (ways : Ways) → RisesFrom 0 ways → (i : ℕ) → i < length ways → index_of (pcs_of ways) (pc_at ways i) ≡ i
index_is ways rise i lt = index_at 0 ways rise i (pc_at ways i) lt (pc_is ways i lt)

pc_from : (ways : Ways) (pc i : ℕ) → i < length ways → index_of (pcs_of ways) pc ≡ i → pc_at ways i ≡ pc
pc_from ways pc i lt e =
    let within : index_of (pcs_of ways) pc < length (pcs_of ways) = omega (arith, lt, e, size_is ways) in
    sym (pc_is ways i lt) ∙ ap (λ n. get_or (pcs_of ways) n 0) (sym e) ∙ index_within (pcs_of ways) pc within

-- ---- the start

module _ (ways : Ways) (s t : Visits) (marks : s.marks.items ≡ replicate (length ways) false) (todo : s.todo.items ≡ []) (first : Reaches (λ i. i ≡ index_of (pcs_of ways) 0) s t) where
  unmarked_first : (i : ℕ) → i < length ways → IsMarked s i → ⊥
  unmarked_first i lt e = false≢true (sym (get_or-replicate (length ways) i false true lt) ∙ ap (λ list. get_or list i true) (sym marks) ∙ e)

  pub reaching_first : Reaching ways t
  reaching_first =
      let size : length t.marks.items ≡ length ways = first.grows.size ∙ ap length marks ∙ length-replicate (length ways) false in
      record {
        size = size;
        zero = first.all (index_of (pcs_of ways) 0) refl;
        sound = λ i lt e. elim (first.grows.only i e) [
          | inl old ↦ absurd (unmarked_first i lt old)
          | inr is ↦ λ holds start closed. ap holds (pc_from ways 0 i lt (sym is)) ∙ start
        ];
        waits = λ i e. elim (first.grows.fresh i e) [
          | inl old ↦ absurd (in_none i (subst (λ list. IsIn list i) todo old))
          | inr new ↦ (omega (arith, new.0, size), new.1)
        ];
        closed = λ i lt e. elim (first.grows.noted i e) [ inl old ↦ absurd (unmarked_first i lt old) | inr waits ↦ inl waits ];
      }

-- ---- a visit

module _ (ways : Ways) (rise : RisesFrom 0 ways) (index : ℕ) (s popped t : Visits) (todo : s.todo.items ≡ popped.todo.items ++ index ∷ []) (marks : popped.marks.items ≡ s.marks.items)
    (visited : Reaches (Follows ways index) popped t) (reaching : Reaching ways s) where
  same_marks : (i : ℕ) → IsMarked s i → IsMarked popped i
  same_marks i e = ap (λ list. get_or list i true) marks ∙ e

  were_marks : (i : ℕ) → IsMarked popped i → IsMarked s i
  were_marks i e = ap (λ list. get_or list i true) (sym marks) ∙ e

  pub visits_within : (index < length ways) × IsMarked s index
  visits_within = reaching.waits index (in_new popped.todo.items s.todo.items index index todo refl)

  grown : (i : ℕ) → IsMarked s i → IsMarked t i
  grown i e = visited.grows.grows i (same_marks i e)

  follower : (i : ℕ) → i < length ways → Follows ways index i → IsReached ways (pc_at ways i)
  follower i lt e holds start closed =
      let known = reaching.sound index visits_within.0 visits_within.1 holds start closed in
      let found = from_map (index_of (pcs_of ways)) (λ to. holds to ≡ true) (successors_at ways index) i (closed_at holds ways index visits_within.0 closed known) e in
      ap holds (pc_from ways found.0 i lt found.2) ∙ found.1

  pub reaching_more : Reaching ways t
  reaching_more =
      let size : length t.marks.items ≡ length ways = visited.grows.size ∙ ap length marks ∙ reaching.size in
      record {
        size = size;
        zero = grown (index_of (pcs_of ways) 0) reaching.zero;
        sound = λ i lt e. elim (visited.grows.only i e) [ inl old ↦ reaching.sound i lt (were_marks i old) | inr new ↦ follower i lt new ];
        waits = λ i e. elim (visited.grows.fresh i e) [
          | inl old ↦ let was = reaching.waits i (in_old popped.todo.items s.todo.items index i todo old) in (was.0, grown i was.1)
          | inr new ↦ (omega (arith, new.0, size), new.1)
        ];
        closed = λ i lt e. elim (visited.grows.noted i e) [
          | inl old ↦ elim (reaching.closed i lt (were_marks i old)) [
            | inl waits ↦ elim (in_pushed popped.todo.items s.todo.items index i todo waits) [
              | inl still ↦ inl (visited.grows.keeps i still)
              | inr here ↦ inr (λ other follows. visited.all other (subst (λ n. Follows ways n other) (sym here) follows))
            ]
            | inr all ↦ inr (λ other follows. grown other (all other follows))
          ]
          | inr waits ↦ inl waits
        ];
      }

-- ---- the end

flags_from : (all ways : Ways) (flags : List Bool) → length flags ≡ length ways → ((i : ℕ) → i < length ways → (get_or flags i true ≡ true) ↔ IsReached all (pc_at ways i)) → AreFlags all ways flags
flags_from all [] [] size tell = tt
flags_from all [] (flag ∷ flags) size tell = absurd (omega (arith, size))
flags_from all (x ∷ ways) [] size tell = absurd (omega (arith, size))
flags_from all (x ∷ ways) (flag ∷ flags) size tell = (tell 0 (omega arith), flags_from all ways flags (omega (arith, size)) (λ i lt. tell (suc i) (omega (arith, lt))))

pub reaching_last : (ways : Ways) → RisesFrom 0 ways → (s : Visits) → s.todo.items ≡ [] → Reaching ways s → TellReached ways s.marks.items
reaching_last ways rise s none reaching =
    let holds = λ (pc : ℕ). get_or s.marks.items (index_of (pcs_of ways) pc) true in
    let at : (i : ℕ) → i < length ways → holds (pc_at ways i) ≡ get_or s.marks.items i true = λ i lt. ap (λ n. get_or s.marks.items n true) (index_is ways rise i lt) in
    let closed = closed_from holds ways (λ i lt e. elim (reaching.closed i lt (sym (at i lt) ∙ e)) [
      | inl waits ↦ absurd (in_none i (subst (λ list. IsIn list i) none waits))
      | inr all ↦ to_map (index_of (pcs_of ways)) (IsMarked s) (successors_at ways i) all
    ]) in
    flags_from ways ways s.marks.items reaching.size (λ i lt. (reaching.sound i lt, λ reached. sym (at i lt) ∙ reached holds reaching.zero closed))
