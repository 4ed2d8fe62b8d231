-- Parts of lists: what is moved among operands, and cells that are read and written in place.
use Rattle.std.proofs.Common.{◌≡◌, ℕ, suc, ◌+◌, ◌<◌, ◌≤◌, Bool, true, nat_le, nat_lt, if◌then◌else◌, List, ◌++◌, length, drop, take, Some, None, ap, arith, length-append, length-drop}
use Rattle.std.specs.Prelude.{slice_set}
use Rattle.std.specs.List.{AllByRecursion}
use Rattle.std.proofs.lemmas.Bool.{le-leb, lt-ltb}
use Rattle.std.proofs.lemmas.List.{length-take-le}
use Rattle.mote_model.specs.State.{Reference}
use Rattle.mote_model.specs.SplitMoves.{dupx, swapped, without, without_at, cells_at, with_cells_at, with_ref_at}
use Rattle.split_safety.proofs.facts.Lists.{all_append, all_drop, all_take}

some_if : {X : Type 0} (test : Bool) (x : X) → test ≡ true → (if test then Some x else None) ≡ Some x
some_if test x e = ap (λ b. if b then Some x else None) e

-- ---- operands

module _ {X : Type 0} (m n : ℕ) (operands : List X) (enough : m + n ≤ length operands) where
  abbrev upper : List X
  upper = take m operands

  abbrev lower : List X
  lower = take n (drop m operands)

  abbrev rest : List X
  rest = drop (m + n) operands

  upper_length : length upper ≡ m
  upper_length = length-take-le m operands (omega (arith, enough))

  lower_length : length lower ≡ n
  lower_length = length-take-le n (drop m operands) (omega (arith, enough, length-drop m operands))

  abbrev pub doubled : List X
  doubled = upper ++ (lower ++ (upper ++ rest))

  abbrev pub turned : List X
  turned = lower ++ (upper ++ rest)

  pub dupx_there : dupx m n operands ≡ Some doubled
  dupx_there = some_if (nat_le (m + n) (length operands)) doubled (le-leb (m + n) (length operands) enough)

  pub swapped_there : swapped m n operands ≡ Some turned
  swapped_there = some_if (nat_le (m + n) (length operands)) turned (le-leb (m + n) (length operands) enough)

  pub turned_length : length turned ≡ length operands
  turned_length = omega (arith, enough, length-append lower (upper ++ rest), length-append upper rest, upper_length, lower_length, length-drop (m + n) operands)

  pub doubled_length : length doubled ≡ m + length operands
  doubled_length = omega (arith, length-append upper turned, upper_length, turned_length)

  pub turned_are : (P : X → Type 0) → AllByRecursion P operands → AllByRecursion P turned
  turned_are P all =
      all_append P lower (upper ++ rest) (all_take P n (drop m operands) (all_drop P m operands all))
      (all_append P upper rest (all_take P m operands all) (all_drop P (m + n) operands all))

  pub doubled_are : (P : X → Type 0) → AllByRecursion P operands → AllByRecursion P doubled
  doubled_are P all = all_append P upper turned (all_take P m operands all) (turned_are P all)

pub without_there : {X : Type 0} (count : ℕ) (operands : List X) → count ≤ length operands → without count operands ≡ Some (drop count operands)
without_there count operands enough = some_if (nat_le count (length operands)) (drop count operands) (le-leb count (length operands) enough)

module _ {X : Type 0} (above : ℕ) (operands : List X) (enough : above + 1 ≤ length operands) where
  abbrev pub less : List X
  less = take above operands ++ drop (suc above) operands

  pub less_there : without_at above operands ≡ Some less
  less_there = some_if (nat_lt above (length operands)) less (lt-ltb above (length operands) (omega (arith, enough)))

  pub less_length : suc (length less) ≡ length operands
  less_length =
      let prefix = length-take-le above operands (omega (arith, enough)) in
      omega (arith, enough, prefix, length-append (take above operands) (drop (suc above) operands), length-drop (suc above) operands)

  pub less_are : (P : X → Type 0) → AllByRecursion P operands → AllByRecursion P less
  less_are P all = all_append P (take above operands) (drop (suc above) operands) (all_take P above operands all) (all_drop P (suc above) operands all)

-- ---- cells in place

module _ (cells : List ℕ) (from count : ℕ) (within : from + count ≤ length cells) where
  abbrev pub part : List ℕ
  part = take count (drop from cells)

  pub part_there : cells_at cells from count ≡ Some part
  part_there = some_if (nat_le (from + count) (length cells)) part (le-leb (from + count) (length cells) within)

  pub part_length : length part ≡ count
  part_length = length-take-le count (drop from cells) (omega (arith, within, length-drop from cells))

  pub part_are : (P : ℕ → Type 0) → AllByRecursion P cells → AllByRecursion P part
  part_are P all = all_take P count (drop from cells) (all_drop P from cells all)

module _ (cells : List ℕ) (from : ℕ) (new : List ℕ) (within : from + length new ≤ length cells) where
  abbrev pub replaced : List ℕ
  replaced = take from cells ++ (new ++ drop (from + length new) cells)

  pub replaced_there : with_cells_at cells from new ≡ Some replaced
  replaced_there = some_if (nat_le (from + length new) (length cells)) replaced (le-leb (from + length new) (length cells) within)

  pub replaced_length : length replaced ≡ length cells
  replaced_length =
      let prefix = length-take-le from cells (omega (arith, within)) in
      let suffix = drop (from + length new) cells in
      omega (arith, within, prefix, length-append (take from cells) (new ++ suffix), length-append new suffix, length-drop (from + length new) cells)

  pub replaced_are : (P : ℕ → Type 0) → AllByRecursion P cells → AllByRecursion P new → AllByRecursion P replaced
  replaced_are P all are =
      all_append P (take from cells) (new ++ drop (from + length new) cells) (all_take P from cells all)
      (all_append P new (drop (from + length new) cells) are (all_drop P (from + length new) cells all))

pub ref_there : (references : List Reference) (at : ℕ) (reference : Reference) → at < length references → with_ref_at references at reference ≡ Some (slice_set references at reference)
ref_there references at reference within = some_if (nat_lt at (length references)) (slice_set references at reference) (lt-ltb at (length references) within)
