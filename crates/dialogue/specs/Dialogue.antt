-- A dialogue: what a run asks of a console and tells it, in order.
use Rattle.std.specs.Prelude.{◌≡◌, ℕ, zero, suc, List, [], ◌∷◌, ◌++◌, map, refl}
use Rattle.std.proofs.Common.{ap}

-- asks for the next byte of the input, shows a byte, notes a byte
pub data Item : Type 0 where
  Get : Item
  Put : (byte : ℕ) → Item
  Note : (byte : ℕ) → Item

-- the bytes that are shown
abbrev pub puts : List Item → List ℕ
puts [] = []
puts (Get ∷ items) = puts items
puts (Put byte ∷ items) = byte ∷ puts items
puts (Note byte ∷ items) = puts items

-- the bytes that are noted
abbrev pub notes : List Item → List ℕ
notes [] = []
notes (Get ∷ items) = notes items
notes (Put byte ∷ items) = notes items
notes (Note byte ∷ items) = byte ∷ notes items

-- how many bytes are asked for
abbrev pub gets : List Item → ℕ
gets [] = zero
gets (Get ∷ items) = suc (gets items)
gets (Put byte ∷ items) = gets items
gets (Note byte ∷ items) = gets items

-- each byte is noted
abbrev pub noting : List ℕ → List Item
noting bytes = map Note bytes

-- each byte is shown
abbrev pub putting : List ℕ → List Item
putting bytes = map Put bytes

pub puts-append : (first second : List Item) → puts (first ++ second) ≡ puts first ++ puts second
puts-append [] second = refl
puts-append (Get ∷ items) second = puts-append items second
puts-append (Put byte ∷ items) second = ap (λ bytes. byte ∷ bytes) (puts-append items second)
puts-append (Note byte ∷ items) second = puts-append items second

pub notes-append : (first second : List Item) → notes (first ++ second) ≡ notes first ++ notes second
notes-append [] second = refl
notes-append (Get ∷ items) second = notes-append items second
notes-append (Put byte ∷ items) second = notes-append items second
notes-append (Note byte ∷ items) second = ap (λ bytes. byte ∷ bytes) (notes-append items second)

pub puts-noting : (bytes : List ℕ) → puts (noting bytes) ≡ []
puts-noting [] = refl
puts-noting (byte ∷ bytes) = puts-noting bytes

pub notes-noting : (bytes : List ℕ) → notes (noting bytes) ≡ bytes
notes-noting [] = refl
notes-noting (byte ∷ bytes) = ap (λ rest. byte ∷ rest) (notes-noting bytes)

pub gets-noting : (bytes : List ℕ) → gets (noting bytes) ≡ 0
gets-noting [] = refl
gets-noting (byte ∷ bytes) = gets-noting bytes

pub puts-putting : (bytes : List ℕ) → puts (putting bytes) ≡ bytes
puts-putting [] = refl
puts-putting (byte ∷ bytes) = ap (λ rest. byte ∷ rest) (puts-putting bytes)

pub notes-putting : (bytes : List ℕ) → notes (putting bytes) ≡ []
notes-putting [] = refl
notes-putting (byte ∷ bytes) = notes-putting bytes

pub gets-putting : (bytes : List ℕ) → gets (putting bytes) ≡ 0
gets-putting [] = refl
gets-putting (byte ∷ bytes) = gets-putting bytes
