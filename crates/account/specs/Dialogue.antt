-- What the events of a run show: its dialogue.
use Rattle.std.specs.Prelude.{ℕ, Bool, if◌then◌else◌, List, [], ◌∷◌, ◌++◌, length, codes, decimal}
use Rattle.std.specs.List.{flat_map}
use Rattle.dialogue.specs.Dialogue.{Item, noting}
use Rattle.dialogue.specs.Dialogue as item
use Rattle.account.specs.Account.{Event, Get, Put, Collects, Collection}

-- a blank and a number in decimal
abbrev pub blank_number : ℕ → List ℕ
blank_number number = 32 ∷ decimal number

-- the line of a collection: `collect ROOTS OBJECTS CELLS`
abbrev pub collect_line : Collection → List ℕ
collect_line collection =
    codes "collect" ++ (blank_number (length collection.roots) ++ (blank_number collection.objects ++ (blank_number collection.cells ++ 10 ∷ [])))

-- collections are noted or not
abbrev pub items_of : Bool → Event → List Item
items_of noted Get = item.Get ∷ []
items_of noted (Put byte) = item.Put byte ∷ []
items_of noted (Collects collection) = if noted then noting (collect_line collection) else []

abbrev pub dialogue_of : Bool → List Event → List Item
dialogue_of noted events = flat_map (items_of noted) events
