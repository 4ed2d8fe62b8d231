-- What a shelf in memory keeps.
use Rattle.std.specs.Prelude.{ℕ, List, map, Contains, string_bytes, refl}
use Rattle.std.specs.FinMap.{from_entries, code}
use Rattle.std.specs.Coded.{Coded, code_by, coded×, coded_ℕ, coded_list}
use Rattle.std.specs.declared.string.String.{String}
use Rattle.std.specs.declared.vec.Vec.{Vec}
use Rattle.host_face.specs.Faults.{one_more}
use Rattle.host_face.specs.Shelf.{Files}

-- the files, the numbers of the calls that are listed to fail, how many calls were made, and how many
-- loads and stores failed
pub record ShelfState : Type 0 where
  pub kept : Files
  pub listed : List ℕ
  pub calls : ℕ
  pub load_faults : ℕ
  pub store_faults : ℕ

-- a state is stored as the tuple of its fields
abbrev pub shelf_code : Coded ShelfState
shelf_code =
    code_by (Files × (List ℕ × (ℕ × (ℕ × ℕ))))
    (coded× (code (coded_list coded_ℕ) (coded_list coded_ℕ)) (coded× (coded_list coded_ℕ) (coded× coded_ℕ (coded× coded_ℕ coded_ℕ))))
    (λ s. (s.kept, (s.listed, (s.calls, (s.load_faults, s.store_faults)))))
    (λ p. record { kept = p.0; listed = p.1.0; calls = p.1.1.0; load_faults = p.1.1.1.0; store_faults = p.1.1.1.1 })
    (λ _. refl)

-- the files of a list of names, each with its bytes
unfoldable pub files_of : {Z : Type 0} → List (String Z × Vec ℕ Z) → Files
files_of files = from_entries (map (λ file. (string_bytes file.0, file.1.items)) files)

-- the next call is listed
abbrev pub NextIsListed : ShelfState → Type 0
NextIsListed shelf = Contains shelf.listed (one_more shelf.calls)

-- after a call that did no more
abbrev pub called : ShelfState → ShelfState
called shelf = record shelf { calls = one_more shelf.calls }

-- after a load that failed
abbrev pub load_failed : ShelfState → ShelfState
load_failed shelf = record (called shelf) { load_faults = one_more shelf.load_faults }

-- after a store that failed
abbrev pub store_failed : ShelfState → ShelfState
store_failed shelf = record (called shelf) { store_faults = one_more shelf.store_faults }
