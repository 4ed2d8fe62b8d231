-- What holds of each move of the typed machine.
use Rattle.std.specs.Prelude.{◌≡◌, ℕ, List, Some}
use Rattle.account.specs.Account.{Event, Need, Does}
use Rattle.typed_machine.specs.TypedState.{Object, State}
use Rattle.typed_machine.specs.TypedWorld.{World, type_of}
use Rattle.typed_machine.specs.TypedMoves.{object_at}
use Rattle.typed_machine.specs.TypedStep.{move}

-- the object of a name keeps its type, so no name is used again
pub record KeepsType (state : State) (name : ℕ) (object : Object) : Type 0 where
  pub other : Object
  pub is : object_at state name ≡ Some other
  pub type : type_of other ≡ type_of object

abbrev pub ObjectsKeepTypes : Type 0
ObjectsKeepTypes = (world : World) (state next : State) (need : Need) (events : List Event) → move world state ≡ Does need events next
    → (name : ℕ) (object : Object) → object_at state name ≡ Some object → KeepsType next name object
