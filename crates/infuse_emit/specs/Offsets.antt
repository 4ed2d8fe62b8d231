-- The offsets of the instructions of a method in its code, and where the offset of a pc is among them.
use Rattle.std.specs.Prelude.{ℕ, suc, ◌+◌, nat_lt, if◌then◌else◌, List, [], ◌∷◌, get_or}
use Rattle.body_form.specs.Flow.{Ops}
use Rattle.jvm_model.specs.ImageEmission.{Source, size_at}

-- how many of these instructions have a pc below this one, where their pcs rise
unfoldable pub starts_below : Ops → ℕ → ℕ
starts_below [] pc = 0
starts_below (x ∷ ops) pc = if nat_lt x.0 pc then suc (starts_below ops pc) else 0

-- The offset of a pc, where these are the offsets of the instructions, and then that of the end. Where there are none, it
-- is 0.
abbrev pub offset_in : Ops → List ℕ → ℕ → ℕ
offset_in ops offsets pc = get_or offsets (starts_below ops pc) 0

-- the offsets of instructions that follow one another from an offset on, and then that of their end
unfoldable pub offsets_from : Source → ℕ → Ops → List ℕ
offsets_from source from [] = from ∷ []
offsets_from source from (x ∷ ops) = from ∷ offsets_from source (from + size_at source x) ops
