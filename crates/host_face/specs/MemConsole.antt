-- What a console in memory keeps.
use Rattle.std.specs.Prelude.{ℕ, List, [], ◌∷◌, Option, Some, None, Contains}
use Rattle.host_face.specs.Faults.{one_more}

-- the bytes still to be read, shown and noted, the room for each of the last two, the numbers of the
-- calls that are listed to fail, how many calls were made, and how many failed
pub record ConsoleState : Type 0 where
  pub left : List ℕ
  pub shown : List ℕ
  pub noted : List ℕ
  pub room : ℕ
  pub listed : List ℕ
  pub calls : ℕ
  pub faults : ℕ

-- the room, as long as no call is listed
abbrev pub room_unless : List ℕ → ℕ → Option ℕ
room_unless [] room = Some room
room_unless (_ ∷ _) room = None

-- the next call is listed
abbrev pub NextIsListed : ConsoleState → Type 0
NextIsListed console = Contains console.listed (one_more console.calls)

-- after a call that did no more
abbrev pub called : ConsoleState → ConsoleState
called console = record console { calls = one_more console.calls }

-- after a call that failed
abbrev pub failed : ConsoleState → ConsoleState
failed console = record (called console) { faults = one_more console.faults }
