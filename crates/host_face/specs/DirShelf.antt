-- What a shelf of the current folder tells.
use Rattle.std.specs.Prelude.{ℕ}
use Rattle.host_face.specs.Faults.{one_more}

-- how many loads and stores failed, whatever the name
pub record DirFaults : Type 0 where
  pub load_faults : ℕ
  pub store_faults : ℕ

-- after a load that failed
abbrev pub load_failed : DirFaults → DirFaults
load_failed shelf = record shelf { load_faults = one_more shelf.load_faults }

-- after a store that failed
abbrev pub store_failed : DirFaults → DirFaults
store_failed shelf = record shelf { store_faults = one_more shelf.store_faults }
