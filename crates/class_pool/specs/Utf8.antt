-- Modified UTF-8 (JVMS 4.4.7): a text is a list of UTF-16 units, each in one, two or three bytes.
use Rattle.std.specs.Prelude.{◌≡◌, ℕ, ◌+◌, ◌/◌, ◌%◌, ◌^◌, ◌<◌, ◌&&◌, nat_lt, if◌then◌else◌, List, [], ◌∷◌}
use Rattle.std.specs.List.{flat_map, AllByRecursion}

-- a unit from 1 to 7f has one byte, 0 and a unit up to 7ff two, any other three
abbrev pub unit_bytes : ℕ → List ℕ
unit_bytes unit =
    if nat_lt 0 unit && nat_lt unit 128 then unit ∷ []
    else (if nat_lt unit 2048 then (192 + unit / 64) ∷ (128 + unit % 64) ∷ []
    else (224 + unit / 4096) ∷ (128 + unit / 64 % 64) ∷ (128 + unit % 64) ∷ [])

-- the bytes encode some units; halves of surrogate pairs may stand alone
pub record IsModifiedUtf8 (bytes : List ℕ) : Type 0 where
  pub units : List ℕ
  pub small : AllByRecursion (λ unit. unit < 2 ^ 16) units
  pub encoded : bytes ≡ flat_map unit_bytes units
