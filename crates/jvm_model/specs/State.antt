-- The values of the typed machine (JVMS 2.2): they know what they are.
use Rattle.std.specs.Prelude.{ℕ, ℤ}

-- a whole number of 32 bits, null, or the name of an object
pub data Value : Type 0 where
  Whole : (number : ℤ) → Value
  Null : Value
  Name : (name : ℕ) → Value
