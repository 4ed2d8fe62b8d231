-- Lists of objects that keep the types of those of another list, and moves that keep those of a list.
use Rattle.std.proofs.Common.{◌≡◌, ℕ, zero, suc, List, [], ◌∷◌, ◌++◌, Some, refl}
use Rattle.std.specs.Prelude.{slice_get, slice_set}
use Rattle.account.specs.Account.{Does, Stops, Stuck}
use Rattle.typed_machine.specs.TypedMoves.{TypedMove}
use Rattle.typed_machine.specs.TypedState.{Object}
use Rattle.typed_machine.specs.TypedWorld.{type_of}

-- the object of a name has a type
pub record HasType (objects : List Object) (name : ℕ) (object : Object) : Type 0 where
  pub other : Object
  pub is : slice_get objects name ≡ Some other
  pub type : type_of other ≡ type_of object

-- each object of a list is in the other one, under its name, with its type
pub record AreKept (before after : List Object) : Type 0 where
  pub each : (name : ℕ) (object : Object) → slice_get before name ≡ Some object → HasType after name object

-- where the move goes on, these objects are kept
abbrev pub Keeps : List Object → TypedMove → Type 0
Keeps objects (Does need events next) = AreKept objects next.objects
Keeps objects (Stops need events ending) = Unit {0}
Keeps objects Stuck = Unit {0}

-- ---- lists

pub kept_itself : (objects : List Object) → AreKept objects objects
kept_itself objects = record { each = λ name object is. record { other = object; is = is; type = refl } }

appended : (objects more : List Object) (name : ℕ) (object : Object) → slice_get objects name ≡ Some object → HasType (objects ++ more) name object
appended [] more name object is = cc
appended (first ∷ objects) more zero object is = record { other = object; is = is; type = refl }
appended (first ∷ objects) more (suc name) object is =
    let rest = appended objects more name object is in record { other = rest.other; is = rest.is; type = rest.type }

pub kept_append : (objects more : List Object) → AreKept objects (objects ++ more)
kept_append objects more = record { each = appended objects more }

-- the object of a name is set to one of its type
after_set : (objects : List Object) (place : ℕ) (old new : Object) → slice_get objects place ≡ Some old → type_of new ≡ type_of old
    → (name : ℕ) (object : Object) → slice_get objects name ≡ Some object → HasType (slice_set objects place new) name object
after_set [] place old new there same name object is = cc
after_set (first ∷ objects) zero old new there same zero object is = record { other = new; is = refl; type = cc }
after_set (first ∷ objects) zero old new there same (suc name) object is = record { other = object; is = is; type = refl }
after_set (first ∷ objects) (suc place) old new there same zero object is = record { other = object; is = is; type = refl }
after_set (first ∷ objects) (suc place) old new there same (suc name) object is =
    let rest = after_set objects place old new there same name object is in record { other = rest.other; is = rest.is; type = rest.type }

pub kept_set : (objects : List Object) (place : ℕ) (old new : Object) → slice_get objects place ≡ Some old → type_of new ≡ type_of old → AreKept objects (slice_set objects place new)
kept_set objects place old new there same = record { each = after_set objects place old new there same }
