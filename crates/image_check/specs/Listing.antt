-- Offsets that rise, and the search among them.
use Rattle.std.specs.Prelude.{ℕ, suc, ◌≤◌, Bool, ◌==◌, [], ◌∷◌}
use Rattle.std.specs.List.{list_any}
use Rattle.image_check.specs.Code.{Insns}

-- the offsets rise, from `low` on and below `high`
abbrev pub RiseWithin : ℕ → Insns → ℕ → Type 0
RiseWithin low [] high = low ≤ high
RiseWithin low ((pc, insn) ∷ insns) high = (low ≤ pc) × RiseWithin (suc pc) insns high

-- the offsets rise
abbrev pub Rises : Insns → Type 0
Rises insns = (high : ℕ) × RiseWithin 0 insns high

-- whether an instruction is at the offset
abbrev pub is_start : Insns → ℕ → Bool
is_start insns pc = list_any (λ x. x.0 == pc) insns
