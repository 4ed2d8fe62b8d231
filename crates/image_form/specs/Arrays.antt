-- The arrays among the types that were read, kept so that an equal one is found at the cost of a look-up.
use Rattle.std.specs.Prelude.{◌≡◌, ℕ, List}
use Rattle.std.specs.List.{list_any}
use Rattle.std.specs.BTreeSet.{BTreeSet, contains}
use Rattle.std.specs.Ordering.{nat_cmp}
use Rattle.image_form.specs.declared.record.TypeEntry.{TypeEntry}
use Rattle.image_form.specs.Grammar.{is_ref_array}

-- the set has a type exactly where its array is among the types
abbrev pub AreArrays : List TypeEntry → BTreeSet ℕ → Type 0
AreArrays types arrays = (element : ℕ) → contains nat_cmp arrays element ≡ list_any (is_ref_array element) types
