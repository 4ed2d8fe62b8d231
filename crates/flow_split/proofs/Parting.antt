-- Entries in order are parted at the operands of an instruction.
use Rattle.std.proofs.Common.{◌≡◌, ℕ, zero, suc, ◌+◌, ◌<◌, ◌≤◌, Bool, true, false, cond, ◌&&◌, ◌||◌, not, nat_eq, nat_lt, List, [], ◌∷◌, length, get_or, refl, ap, arith}
use Rattle.std.specs.Prelude.{nat_le}
use Rattle.std.specs.List.{AllPairs, count_by}
use Rattle.std.specs.List.Sorted.{IsPartitionedBy, IsPartitionPoint}
use Rattle.std.proofs.lemmas.Bool.Decides.{nat_tests}
use Rattle.jvm_model.specs.declared.entries.Entry.{Entry}
use Rattle.flow_split.specs.Splits.{comes_before}
use Rattle.flow_split.specs.Totals.{is_operand_at, narrow_operands, has_come, is_before_operands}
use Rattle.flow_split.proofs.Counted.{one_if, count_cons}

-- where a list is parted by a test, so many pass it
pub count_parted : {X : Type 0} (p : X → Bool) (xs : List X) (at : ℕ) → IsPartitionPoint (λ y. p y ≡ true) (λ y. p y ≡ false) xs at → at ≤ length xs → count_by p xs ≡ at
count_parted p [] at point le = omega (arith, le)
count_parted p (x ∷ xs) zero point le =
    let here = ap one_if (point.1 0 x (omega arith) (omega arith)) in
    omega (arith, count_cons p x xs, here, count_parted p xs zero ((λ k d low high. absurd (omega (arith, high))), (λ k d low high. point.1 (suc k) d (omega arith) (omega (arith, high)))) (omega arith))
count_parted p (x ∷ xs) (suc at) point le =
    let here = ap one_if (point.0 0 x (omega arith) (omega arith)) in
    omega (
      arith,
      count_cons p x xs,
      here,
      count_parted p xs at ((λ k d low high. point.0 (suc k) d (omega arith) (omega (arith, high))), (λ k d low high. point.1 (suc k) d (omega (arith, low)) (omega (arith, high)))) (omega (arith, le)),
    )

come_step : (pc first_pc first_place second_pc second_place : ℕ) (first second : Bool)
    → (nat_lt first_pc second_pc || (nat_eq first_pc second_pc && ((not first && second) || ((cond first second (not second)) && nat_lt first_place second_place)))) ≡ true
    → nat_le second_pc pc ≡ true → nat_le first_pc pc ≡ true
come_step pc first_pc first_place second_pc second_place first second before come = grind (arith, nat_tests)

before_step : (pc first_pc first_place second_pc second_place : ℕ) (first second : Bool)
    → (nat_lt first_pc second_pc || (nat_eq first_pc second_pc && ((not first && second) || ((cond first second (not second)) && nat_lt first_place second_place)))) ≡ true
    → (nat_lt second_pc pc || (nat_eq second_pc pc && not second)) ≡ true → (nat_lt first_pc pc || (nat_eq first_pc pc && not first)) ≡ true
before_step pc first_pc first_place second_pc second_place true true before come = grind (arith, nat_tests)
before_step pc first_pc first_place second_pc second_place true false before come = grind (arith, nat_tests)
before_step pc first_pc first_place second_pc second_place false true before come = grind (arith, nat_tests)
before_step pc first_pc first_place second_pc second_place false false before come = grind (arith, nat_tests)

one_of : (pc at : ℕ) (operand : Bool) → cond (nat_le at pc) 1 0 ≡ cond (nat_lt at pc || (nat_eq at pc && not operand)) 1 0 + cond (nat_eq at pc && operand) 1 0
one_of pc at true = grind (arith, nat_tests)
one_of pc at false = grind (arith, nat_tests)

module _ (pc : ℕ) where
  pub come_parted : (narrow : List Entry) → AllPairs (λ first second. comes_before first second ≡ true) narrow → IsPartitionedBy (has_come pc) narrow
  come_parted narrow order i j d le within come =
      let first = get_or narrow i d in
      let second = get_or narrow j d in
      grind (arith, λ (lt : i < j). come_step pc first.pc first.place second.pc second.place first.operand second.operand (order i j d lt within) come, λ (same : i ≡ j). ap (λ k. has_come pc (get_or narrow k d)) same)

  pub before_parted : (narrow : List Entry) → AllPairs (λ first second. comes_before first second ≡ true) narrow → IsPartitionedBy (is_before_operands pc) narrow
  before_parted narrow order i j d le within come =
      let first = get_or narrow i d in
      let second = get_or narrow j d in
      grind (arith, λ (lt : i < j). before_step pc first.pc first.place second.pc second.place first.operand second.operand (order i j d lt within) come, λ (same : i ≡ j). ap (λ k. is_before_operands pc (get_or narrow k d)) same)

  -- the entries of operands are those that have come, but for those before
  pub parts_counted : (narrow : List Entry) → count_by (has_come pc) narrow ≡ count_by (is_before_operands pc) narrow + narrow_operands narrow pc
  parts_counted [] = refl
  parts_counted (entry ∷ narrow) =
      omega (arith, count_cons (has_come pc) entry narrow, count_cons (is_before_operands pc) entry narrow, count_cons (is_operand_at pc) entry narrow, one_of pc entry.pc entry.operand, parts_counted narrow)
