-- The methods of the library, by their numbers.
use Rattle.std.specs.Prelude.{ℕ, List, [], ◌∷◌, Option, slice_get}
use Rattle.library.specs.declared.natives.Native.{Native}
use Rattle.library.specs.declared.natives.Native.TheVariants.{Construct, Write, Read, Print}

-- the natives, that of number 0 first; the numbers from 4 to 31 name none
abbrev pub natives : List Native
natives = Construct ∷ Write ∷ Read ∷ Print ∷ []

abbrev pub native_of : ℕ → Option Native
native_of method = slice_get natives method

abbrev pub number_of : Native → ℕ
number_of Construct = 0
number_of Write = 1
number_of Read = 2
number_of Print = 3
