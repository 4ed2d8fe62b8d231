-- How a dialogue shows on a console: each word takes the console's meanings, then the console before and
-- after.
use Rattle.std.specs.Prelude.{◌≡◌, ℕ, ◌≤◌, List, ◌∷◌, ◌++◌, Option, drop, IsNone, option_map, Result, MatchResult}
use Rattle.dialogue.specs.Dialogue.{Item, Get, Put, Note, puts, notes, gets}
use Rattle.host_face.specs.declared.console.ConsoleFailed.{ConsoleFailed}
use Rattle.host_face.specs.Faults.{Rose}
use Rattle.host_face.specs.Console.{FillsRoom}

-- these bytes more, where the bytes are told
abbrev pub with_bytes : List ℕ → Option (List ℕ) → Option (List ℕ)
with_bytes more bytes = option_map (λ bytes. bytes ++ more) bytes

-- the puts and notes of these items were shown and noted, and nothing else
pub record Talked {C : Type 0} (shown noted : C → Option (List ℕ)) (faults : C → ℕ) (room : C → Option ℕ) (old new : C) (items : List Item) : Type 0 where
  pub put : shown new ≡ with_bytes (puts items) (shown old)
  pub note : noted new ≡ with_bytes (notes items) (noted old)
  pub counted : faults old ≤ faults new
  pub same_room : room new ≡ room old

-- where the room is told, it was full for this item
abbrev pub WasFull : Item → Option ℕ → Option (List ℕ) → Option (List ℕ) → Type 0
WasFull Get room shown noted = IsNone room
WasFull (Put byte) room shown noted = FillsRoom room shown
WasFull (Note byte) room shown noted = FillsRoom room noted

-- without so many of the first bytes, where the bytes are told
abbrev pub without_first : ℕ → Option (List ℕ) → Option (List ℕ)
without_first count bytes = option_map (drop count) bytes

-- after a failed put or note the input is without the bytes that were asked for before; of a failed get
-- nothing is told
abbrev pub KeepsUngot : Item → List Item → Option (List ℕ) → Option (List ℕ) → Type 0
KeepsUngot Get said old new = Unit {0}
KeepsUngot (Put byte) said old new = new ≡ without_first (gets said) old
KeepsUngot (Note byte) said old new = new ≡ without_first (gets said) old

-- the items before one were said and it failed: the count of faults rose
pub record BrokeOff {C : Type 0} (left shown noted : C → Option (List ℕ)) (faults : C → ℕ) (room : C → Option ℕ) (old new : C) (items : List Item) : Type 0 where
  pub said : List Item
  pub failed : Item
  pub unsaid : List Item
  pub parts : items ≡ said ++ failed ∷ unsaid
  pub talked : Talked shown noted faults room old new said
  pub rose : Rose (faults old) (faults new)
  pub full : WasFull failed (room old) (shown new) (noted new)
  pub rest : KeepsUngot failed said (left old) (left new)

-- all items were said, or they broke off
abbrev pub Says : {C T : Type 0} (left shown noted : C → Option (List ℕ)) (faults : C → ℕ) (room : C → Option ℕ) (old new : C) → List Item → Result T ConsoleFailed → Type 0
Says left shown noted faults room old new items result =
    MatchResult result (λ _. Talked shown noted faults room old new items) (λ _. BrokeOff left shown noted faults room old new items)
