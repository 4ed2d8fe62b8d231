-- A search among entries in order tells whether the one sought is there.
use Rattle.std.proofs.Common.{◌≡◌, ℕ, ◌<◌, ◌≤◌, Bool, true, false, cond, ◌&&◌, ◌||◌, not, nat_eq, nat_lt, List, length, get_or, Result, Ok, Err, Ordering, refl, sym, ap, ◌∙◌, arith}
use Rattle.std.specs.Prelude.{is_ok}
use Rattle.std.specs.declared.cmp.Ordering.TheVariants.{Less, Equal, Greater}
use Rattle.std.specs.Ordering.{nat_cmp, bool_cmp, ordering_then, ordering_index}
use Rattle.std.specs.List.{AllPairs}
use Rattle.std.specs.List.Sorted.{IsSearchInRange, IsBinarySearchResult, IsNonDecreasingBy}
use Rattle.std.proofs.lemmas.Bool.Decides.{nat_tests}
use Rattle.std.proofs.lemmas.List.Folds.{list_any_at, list_any_none}
use Rattle.jvm_model.specs.declared.entries.Entry.{Entry}
use Rattle.jvm_model.specs.WidthsShapes.{is_entry, is_narrow}
use Rattle.flow_split.specs.Splits.{comes_before}

-- how what comes before compares, by its parts
rises : (pc place first_pc first_place second_pc second_place : ℕ) (operand first second : Bool)
    → (nat_lt first_pc second_pc || (nat_eq first_pc second_pc && ((not first && second) || ((cond first second (not second)) && nat_lt first_place second_place)))) ≡ true
    → ordering_index (ordering_then (ordering_then (nat_cmp first_pc pc) (bool_cmp first operand)) (nat_cmp first_place place))
    ≤ ordering_index (ordering_then (ordering_then (nat_cmp second_pc pc) (bool_cmp second operand)) (nat_cmp second_place place))
rises pc place first_pc first_place second_pc second_place true true true before = grind (arith, nat_tests)
rises pc place first_pc first_place second_pc second_place true true false before = grind (arith, nat_tests)
rises pc place first_pc first_place second_pc second_place true false true before = grind (arith, nat_tests)
rises pc place first_pc first_place second_pc second_place true false false before = grind (arith, nat_tests)
rises pc place first_pc first_place second_pc second_place false true true before = grind (arith, nat_tests)
rises pc place first_pc first_place second_pc second_place false true false before = grind (arith, nat_tests)
rises pc place first_pc first_place second_pc second_place false false true before = grind (arith, nat_tests)
rises pc place first_pc first_place second_pc second_place false false false before = grind (arith, nat_tests)

-- what compares as equal is the entry sought
equal_at : (pc place first_pc first_place : ℕ) (operand first : Bool)
    → ordering_then (ordering_then (nat_cmp first_pc pc) (bool_cmp first operand)) (nat_cmp first_place place) ≡ Equal
    → (nat_eq first_pc pc && (cond operand first (not first) && nat_eq first_place place)) ≡ true
equal_at pc place first_pc first_place true true e = grind (arith, nat_tests)
equal_at pc place first_pc first_place true false e = grind (arith, nat_tests)
equal_at pc place first_pc first_place false true e = grind (arith, nat_tests)
equal_at pc place first_pc first_place false false e = grind (arith, nat_tests)

-- and the entry sought compares as equal
at_equal : (pc place first_pc first_place : ℕ) (operand first : Bool)
    → (nat_eq first_pc pc && (cond operand first (not first) && nat_eq first_place place)) ≡ true
    → ordering_then (ordering_then (nat_cmp first_pc pc) (bool_cmp first operand)) (nat_cmp first_place place) ≡ Equal
at_equal pc place first_pc first_place true true e = grind (arith, nat_tests)
at_equal pc place first_pc first_place true false e = grind (arith, nat_tests)
at_equal pc place first_pc first_place false true e = grind (arith, nat_tests)
at_equal pc place first_pc first_place false false e = grind (arith, nat_tests)

module _ (narrow : List Entry) (order : AllPairs (λ first second. comes_before first second ≡ true) narrow) (pc : ℕ) (operand : Bool) (place : ℕ) where
  abbrev compared : Entry → Ordering
  compared entry = ordering_then (ordering_then (nat_cmp entry.pc pc) (bool_cmp entry.operand operand)) (nat_cmp entry.place place)

  -- what compares otherwise is another entry
  apart : (o : Ordering) (e : Entry) → compared e ≡ o → (o ≡ Equal → ⊥) → is_entry pc operand place e ≡ false
  apart o e is other =
      elim (is_entry pc operand place e) as (λ b. (is_entry pc operand place e ≡ b → b ≡ false)) [
        | true ↦ λ same. absurd (other (sym is ∙ at_equal pc place e.pc e.place operand e.operand same))
        | false ↦ λ same. refl
      ] refl

  -- the comparisons rise along the list
  comparisons_rise : IsNonDecreasingBy (λ e. ordering_index (compared e)) narrow
  comparisons_rise i j d le within =
      let first = get_or narrow i d in
      let second = get_or narrow j d in
      grind (arith, λ (lt : i < j). rises pc place first.pc first.place second.pc second.place operand first.operand second.operand (order i j d lt within), λ (same : i ≡ j). ap (λ k. ordering_index (compared (get_or narrow k d))) same)

  -- so a search that ends at an entry tells that it is there
  pub searched : (r : Result ℕ ℕ) → IsSearchInRange r (length narrow) → IsBinarySearchResult compared narrow r → is_ok r ≡ is_narrow narrow pc operand place
  searched (Ok at) within equal =
      let d : Entry = record { pc = 0; operand = true; place = 0 } in
      let e = get_or narrow at d in
      sym (list_any_at (is_entry pc operand place) narrow at d within (equal_at pc place e.pc e.place operand e.operand (equal d)))
  searched (Err at) within parted =
      sym (list_any_none (is_entry pc operand place) narrow (λ k d high.
      grind (arith, λ (lt : k < at). apart Less (get_or narrow k d) ((parted comparisons_rise).0 k d (omega arith) lt) (λ e. cc), λ (le : at ≤ k). apart Greater (get_or narrow k d) ((parted comparisons_rise).1 k d le high) (λ e. cc))))
