-- Why bytes are refused, one cause at a time in their order, and what a reading function answers.
use Rattle.std.specs.Prelude.{◌≡◌, ◌≢◌, ℕ, ◌^◌, ◌<◌, List, ◌++◌, length, take, Result, Ok, Err}
use Rattle.image_instr.specs.Insn.{u2}
use Rattle.image_form.specs.declared.refusal.FormRefusal.{FormRefusal}
use Rattle.image_form.specs.declared.refusal.FormRefusal.TheVariants.{NotInfusion, FormVersion, Truncated, TrailingBytes, BadTable, Memory}
use Rattle.image_form.specs.Format.{magic}
use Rattle.image_form.specs.Grammar.{IsFollowed}
use Rattle.image_form.specs.Reading.{image_of}

-- two bytes after the magic encode this version
abbrev pub HasVersion : List ℕ → ℕ → Type 0
HasVersion bytes version = (version < 2 ^ 16) × (take 6 bytes ≡ magic ++ u2 version)

-- the magic or the version is refused so, before any memory is asked for
abbrev pub IsStartRefused : List ℕ → FormRefusal → Type 0
IsStartRefused bytes NotInfusion = take 4 bytes ≢ magic
IsStartRefused bytes (FormVersion version) = HasVersion bytes version × (version ≢ 1)
IsStartRefused bytes Truncated = (length bytes < 6) × (take 4 bytes ≡ magic)
IsStartRefused bytes (BadTable table index) = ⊥
IsStartRefused bytes TrailingBytes = ⊥
IsStartRefused bytes Memory = ⊥

-- the bytes are refused so; where they end too early, and which entry of which table breaks a rule, is
-- the first of what reading meets
abbrev pub IsRefused : List ℕ → FormRefusal → Type 0
IsRefused bytes NotInfusion = take 4 bytes ≢ magic
IsRefused bytes (FormVersion version) = HasVersion bytes version × (version ≢ 1)
IsRefused bytes Truncated = image_of bytes ≡ Err Truncated
IsRefused bytes (BadTable table index) = image_of bytes ≡ Err (BadTable table index)
IsRefused bytes TrailingBytes = IsFollowed bytes
IsRefused bytes Memory = ⊥

-- what a function returned, seen by view, is what reading gives, unless memory ran out
abbrev pub Shows : {X Y : Type 0} → (X → Y) → Result X FormRefusal → Result Y FormRefusal → Type 0
Shows view (Ok x) read = read ≡ Ok (view x)
Shows view (Err Memory) read = Unit {0}
Shows view (Err NotInfusion) read = read ≡ Err NotInfusion
Shows view (Err (FormVersion version)) read = read ≡ Err (FormVersion version)
Shows view (Err Truncated) read = read ≡ Err Truncated
Shows view (Err TrailingBytes) read = read ≡ Err TrailingBytes
Shows view (Err (BadTable table index)) read = read ≡ Err (BadTable table index)

-- a function returned this answer, unless memory ran out
abbrev pub Gives : {X : Type 0} → Result X FormRefusal → Result X FormRefusal → Type 0
Gives result answer = Shows (λ x. x) result answer
