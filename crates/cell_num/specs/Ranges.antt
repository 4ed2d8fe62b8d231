-- Ranges of ints, and the thresholds that their ends are rounded to.
use Rattle.std.specs.Prelude.{ℤ, pos, neg_ℤ, ◌≤ℤ◌, List, [], ◌∷◌, ◌++◌, Bool, if◌then◌else◌, ◌&&◌, int_le, All, Contains}
use Rattle.cell_num.specs.declared.ranges.Range.{Range}

-- the least and the greatest int
abbrev pub least_int : ℤ
least_int = neg_ℤ (pos 2147483648)

abbrev pub greatest_int : ℤ
greatest_int = pos 2147483647

-- the thresholds between the least and the greatest int, rising: the ends of byte, boolean, short and
-- char, and the numbers beside 0
abbrev pub inner_thresholds : List ℤ
inner_thresholds = neg_ℤ (pos 32768) ∷ neg_ℤ (pos 128) ∷ neg_ℤ (pos 1) ∷ pos 0 ∷ pos 1 ∷ pos 127 ∷ pos 255 ∷ pos 32767 ∷ pos 65535 ∷ []

-- all thresholds, rising
abbrev pub thresholds : List ℤ
thresholds = least_int ∷ (inner_thresholds ++ greatest_int ∷ [])

-- the last of rising numbers that is not above a number, or the one before them where none is
abbrev pub last_not_above : ℤ → ℤ → List ℤ → ℤ
last_not_above number before [] = before
last_not_above number before (next ∷ rest) = if int_le next number then last_not_above number next rest else before

-- the first of rising numbers that is not below a number, or the one after them where none is
abbrev pub first_not_below : ℤ → List ℤ → ℤ → ℤ
first_not_below number [] after = after
first_not_below number (next ∷ rest) after = if int_le number next then next else first_not_below number rest after

-- the threshold that an end goes down to, and the one that an end goes up to
abbrev pub threshold_below : ℤ → ℤ
threshold_below number = last_not_above number least_int (inner_thresholds ++ greatest_int ∷ [])

abbrev pub threshold_above : ℤ → ℤ
threshold_above number = first_not_below number (least_int ∷ inner_thresholds) greatest_int

-- the number is the greatest of these that is not above a given one
pub record IsGreatestNotAbove (these : List ℤ) (given number : ℤ) : Type 0 where
  pub among : Contains these number
  pub not_above : number ≤ℤ given
  pub greatest : All (λ other. other ≤ℤ given → other ≤ℤ number) these

-- the number is the least of these that is not below a given one
pub record IsLeastNotBelow (these : List ℤ) (given number : ℤ) : Type 0 where
  pub among : Contains these number
  pub not_below : given ≤ℤ number
  pub least : All (λ other. given ≤ℤ other → number ≤ℤ other) these

-- both ends are ints, where the first is not above the second
abbrev pub AreInts : ℤ → ℤ → Type 0
AreInts lo hi = (least_int ≤ℤ lo) × (hi ≤ℤ greatest_int)

-- the same as a test
abbrev pub are_ints : ℤ → ℤ → Bool
are_ints lo hi = int_le least_int lo && int_le hi greatest_int

-- all ints
abbrev pub whole_range : Range
whole_range = record { lo = least_int; hi = greatest_int }

-- the range whose ends are rounded out to thresholds, or all ints where an end is none
abbrev pub rounded_out : ℤ → ℤ → Range
rounded_out lo hi =
    if are_ints lo hi
    then record { lo = threshold_below lo; hi = threshold_above hi }
    else whole_range
