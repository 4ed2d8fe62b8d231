-- A call of the program and what stands after it, as values.
use Rattle.std.specs.Prelude.{ℕ, List, Option}
use Rattle.host_face.specs.Shelf.{Files}
use Rattle.mote_top.specs.declared.status.Status.{Status}

-- what a shelf keeps, and how often its loads and its stores of each name failed
pub record Shelved : Type 0 where
  pub kept : Option Files
  pub load_faults : List ℕ → ℕ
  pub store_faults : List ℕ → ℕ

-- what a console has left to read, what it has shown and noted, how often its calls failed, and its room
pub record Spoken : Type 0 where
  pub left : Option (List ℕ)
  pub shown : Option (List ℕ)
  pub noted : Option (List ℕ)
  pub faults : ℕ
  pub room : Option ℕ

-- the words, and the outside before
pub record Call : Type 0 where
  pub words : List (List ℕ)
  pub shelf : Shelved
  pub console : Spoken

-- the outside after a call, and the status that it answered
pub record After : Type 0 where
  pub shelf : Shelved
  pub console : Spoken
  pub status : Status

-- ---- from the meanings of a shelf and of a console

abbrev pub shelved : {S : Type 0} → (S → Option Files) → (load_faults store_faults : S → List ℕ → ℕ) → S → Shelved
shelved kept load_faults store_faults shelf = record { kept = kept shelf; load_faults = load_faults shelf; store_faults = store_faults shelf }

abbrev pub spoken : {C : Type 0} → (left shown noted : C → Option (List ℕ)) → (C → ℕ) → (C → Option ℕ) → C → Spoken
spoken left shown noted faults room console = record { left = left console; shown = shown console; noted = noted console; faults = faults console; room = room console }

abbrev pub call : List (List ℕ) → Shelved → Spoken → Call
call words shelf console = record { words = words; shelf = shelf; console = console }

abbrev pub after : Shelved → Spoken → Status → After
after shelf console status = record { shelf = shelf; console = console; status = status }
