-- The operands of instructions (JVMS 6.5): each is a value and the bytes after it, or a fault.
use Rattle.std.specs.Prelude.{◌≡◌, ℕ, ℤ, pos, negsuc, ◌+ℤ◌, ◌-◌, ◌^◌, nat_lt, if◌then◌else◌, List, Result, Ok, Err}
use Rattle.std.specs.Int.{w8, w16, w32, cast_signed}
use Rattle.byte_read.specs.Reading.{◌>>=◌, u1_at as byte_at, number_at, slice_at as bytes_at}
use Rattle.class_code.specs.declared.refusal.Fault.{Fault}
use Rattle.class_code.specs.declared.refusal.Fault.TheVariants.{Unsupported, BadCode, Memory}

-- what a function returned, seen by view, is what reading gives, unless memory ran out
abbrev pub Gives : {X Y : Type 0} → (X → Y) → Result X Fault → Result Y Fault → Type 0
Gives view (Ok x) read = read ≡ Ok (view x)
Gives view (Err (Unsupported opcode)) read = read ≡ Err (Unsupported opcode)
Gives view (Err BadCode) read = read ≡ Err BadCode
Gives view (Err Memory) read = Unit {0}

-- ---- numbers

abbrev pub u1_at : List ℕ → Result (ℕ × List ℕ) Fault
u1_at bytes = byte_at BadCode bytes

abbrev pub u2_at : List ℕ → Result (ℕ × List ℕ) Fault
u2_at bytes = number_at BadCode 2 bytes

abbrev pub u4_at : List ℕ → Result (ℕ × List ℕ) Fault
u4_at bytes = number_at BadCode 4 bytes

unfoldable pub i1_at : List ℕ → Result (ℤ × List ℕ) Fault
i1_at bytes = do
  byte ← u1_at bytes
  Ok (cast_signed w8 byte.0, byte.1)

unfoldable pub i2_at : List ℕ → Result (ℤ × List ℕ) Fault
i2_at bytes = do
  number ← u2_at bytes
  Ok (cast_signed w16 number.0, number.1)

unfoldable pub i4_at : List ℕ → Result (ℤ × List ℕ) Fault
i4_at bytes = do
  number ← u4_at bytes
  Ok (cast_signed w32 number.0, number.1)

-- so many bytes
abbrev pub slice_at : ℕ → List ℕ → Result (List ℕ × List ℕ) Fault
slice_at size bytes = bytes_at BadCode size bytes

-- ---- targets

-- no instruction stands there: the code that is decoded has fewer bytes
abbrev pub nowhere : ℕ
nowhere = 2 ^ 32 - 1

-- the place itself where it is a pc, else nowhere
abbrev pub as_pc : ℤ → ℕ
as_pc (pos destination) = if nat_lt nowhere destination then nowhere else destination
as_pc (negsuc destination) = nowhere

-- a target counts from its instruction's pc
abbrev pub target : ℕ → ℤ → ℕ
target pc offset = as_pc (pos pc +ℤ offset)

unfoldable pub target_at : ℕ → List ℕ → Result (ℕ × List ℕ) Fault
target_at pc bytes = do
  offset ← i2_at bytes
  Ok (target pc offset.0, offset.1)

unfoldable pub far_target_at : ℕ → List ℕ → Result (ℕ × List ℕ) Fault
far_target_at pc bytes = do
  offset ← i4_at bytes
  Ok (target pc offset.0, offset.1)
