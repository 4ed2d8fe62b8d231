-- How many bytes a dialogue asks for.
use Rattle.std.proofs.Common.{◌≡◌, ◌+◌, suc, List, [], ◌∷◌, ◌++◌, refl, arith}
use Rattle.dialogue.specs.Dialogue.{Item, Get, Put, Note, gets}

pub gets-append : (first second : List Item) → gets (first ++ second) ≡ gets first + gets second
gets-append [] second = omega arith
gets-append (Get ∷ items) second = let e = gets-append items second in omega (arith, e)
gets-append (Put byte ∷ items) second = gets-append items second
gets-append (Note byte ∷ items) second = gets-append items second
