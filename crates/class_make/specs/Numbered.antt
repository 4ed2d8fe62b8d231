-- The constants of a draft, each with the index of its first place.
use Rattle.std.specs.Prelude.{◌≡◌, ℕ, ◌+◌, ◌≤◌, List, [], ◌∷◌, length}
use Rattle.std.specs.List.{flat_map}
use Rattle.std.specs.Map.{keys_of}
use Rattle.class_pool.specs.declared.pool.Const.{Const}
use Rattle.class_pool.specs.Pool.{Slots, width}
use Rattle.class_make.specs.Entries.{slots_of}

-- the places of constants, in their order
abbrev pub slots_of_all : List Const → Slots
slots_of_all constants = flat_map slots_of constants

-- each constant has the index of its first place, where the first of all has the index `first`
abbrev pub AreNumbered : ℕ → List (Const × ℕ) → Type 0
AreNumbered first [] = Unit {0}
AreNumbered first (entry ∷ entries) = (entry.1 ≡ first) × AreNumbered (first + width entry.0) entries

-- so they are, and their places are this many and fit a pool
pub record IsNumbered (entries : List (Const × ℕ)) (taken : ℕ) : Type 0 where
  pub numbered : AreNumbered 1 entries
  pub counted : taken ≡ length (slots_of_all (keys_of entries))
  pub within : taken ≤ 65534

-- the places are those of this many constants
abbrev pub AreOf : ℕ → Slots → Type 0
AreOf count slots = (constants : List Const) × (length constants ≡ count) × (slots ≡ slots_of_all constants)
