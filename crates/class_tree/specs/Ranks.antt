-- How many classes are above a class: fewer than above any class below it.
use Rattle.std.specs.Prelude.{◌≡◌, ℕ, zero, suc, ◌+◌, ◌<◌, Bool, true, if◌then◌else◌, List, length}
use Rattle.class_file.specs.declared.record.ClassFile.{ClassFile}
use Rattle.class_tree.specs.Set.{is_directly_below}
use Rattle.class_tree.specs.Closure.{Rows, at}

-- how many of the numbers below this one pass a test
unfoldable pub how_many : (ℕ → Bool) → ℕ → ℕ
how_many test zero = 0
how_many test (suc n) = how_many test n + (if test n then 1 else 0)

-- to how many of so many numbers a number leads, by the table
abbrev pub rank_in : Rows → ℕ → ℕ → ℕ
rank_in rows count from = how_many (at rows from) count

-- a rank of classes falls on the way up, and stays below the number of classes
pub record AreRanks (names : List (List ℕ)) (files : List ClassFile) (rank : ℕ → ℕ) : Type 0 where
  pub falls : (class upper : ℕ) → is_directly_below names files class upper ≡ true → rank upper < rank class
  pub bound : (class : ℕ) → rank class < 32 + length names
