-- The parts of commands: the status of a failed load, that of a refused set, and what a store leaves.
use Rattle.std.specs.Prelude.{◌≡◌, ℕ, ◌+◌, List, Option, Some, option_map, slice_get}
use Rattle.std.specs.FinMap.{insert}
use Rattle.host_face.specs.Faults.{Rose}
use Rattle.host_face.specs.Shelf.{Files, ChangesOnly}
use Rattle.jvm_model.specs.Phases.{saturated}
use Rattle.set_verdict.specs.Verdict.{IsRefused}
use Rattle.mote_top.specs.declared.status.Status.{Status}
use Rattle.mote_top.specs.declared.status.Status.TheVariants.{Done, Refused, ShelfFault, Memory}

-- the load of a name at this place failed, or there was no memory
abbrev pub FailsAt : List ℕ → ℕ → (before after : List ℕ → ℕ) → Status → Type 0
FailsAt name place before after Memory = Unit {0}
FailsAt name place before after (ShelfFault word) = (word ≡ saturated place) × Rose (before name) (after name)
FailsAt name place before after _ = ⊥

-- a load of one of these names failed, of which the first is at this place, or there was no memory
abbrev pub FailsToLoad : List (List ℕ) → ℕ → (before after : List ℕ → ℕ) → Status → Type 0
FailsToLoad names first before after Memory = Unit {0}
FailsToLoad names first before after (ShelfFault word) = (at : ℕ) × (name : List ℕ) × (slice_get names at ≡ Some name) × (word ≡ saturated (first + at)) × Rose (before name) (after name)
FailsToLoad names first before after _ = ⊥

-- the status of a set that is refused, or want of memory
abbrev pub IsRefusedStatus : List (List ℕ) → Status → Type 0
IsRefusedStatus files Memory = Unit {0}
IsRefusedStatus files (Refused refusal) = IsRefused files refusal
IsRefusedStatus files _ = ⊥

-- what a store of bytes at a name leaves
abbrev pub IsStored : (out bytes : List ℕ) → (kept now : Option Files) → (before after : List ℕ → ℕ) → Status → Type 0
IsStored out bytes kept now before after Done = now ≡ option_map (λ kept. insert kept out bytes) kept
IsStored out bytes kept now before after (ShelfFault word) = (word ≡ 1) × ChangesOnly out kept now × Rose (before out) (after out)
IsStored out bytes kept now before after Memory = ChangesOnly out kept now
IsStored out bytes kept now before after _ = ⊥
