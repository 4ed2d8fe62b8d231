-- Frames and objects of the split machine: references and cells stand apart, objects have names and do not move.
use Rattle.std.specs.Prelude.{ℕ, List, ◌++◌, Option, reverse}

-- null, or the name of an object
abbrev pub Reference : Type 0
Reference = Option ℕ

-- one half of a frame's body: its locals, and its operands, the top first
pub record Half (A : Type 0) : Type 0 where
  pub locals : List A
  pub operands : List A

-- the half as one list, the locals first and the top last
abbrev pub whole : {A : Type 0} → Half A → List A
whole half = half.locals ++ reverse half.operands

-- the frame of a method, its pc in bytes from the code's start, its references and its cells; one that
-- waits for a callee has the pc of its call
pub record Frame : Type 0 where
  pub method : ℕ
  pub pc : ℕ
  pub refs : Half Reference
  pub cells : Half ℕ

-- an object of a type, the length of an array, and its fields or elements by halves
pub record Object : Type 0 where
  pub type : ℕ
  pub length : Option ℕ
  pub refs : List Reference
  pub cells : List ℕ
