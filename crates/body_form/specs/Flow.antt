-- Where control goes in a body: after an instruction, and where an exception is thrown.
use Rattle.std.specs.Prelude.{ℕ, Bool, true, false, ◌&&◌, nat_lt, nat_le, nat_eq, if◌then◌else◌, List, [], ◌∷◌, map, filter, length, get_or, slice_get}
use Rattle.std.specs.Option.{option_map_or}
use Rattle.std.specs.List.{range_with_len, Contains}
use Rattle.body_form.specs.declared.op.Op.{Op}
use Rattle.body_form.specs.declared.op.Op.TheVariants.{If, IfCmp, IfRef, Goto, Switch, Return, Throw}
use Rattle.body_form.specs.declared.body.Guard.{Guard}

-- instructions in order, each with its pc
abbrev pub Ops : Type 0
Ops = List (ℕ × Op)

-- the pc of the instruction at a position
abbrev pub pc_at : Ops → ℕ → ℕ
pc_at ops position = get_or (map (λ x. x.0) ops) position 0

-- an instruction is at the pc
abbrev pub IsStart : Ops → ℕ → Type 0
IsStart ops at = Contains (map (λ x. x.0) ops) at

-- ---- after an instruction

-- the instruction goes on to the one after it
abbrev pub goes_on : Op → Bool
goes_on (Goto target) = false
goes_on (Switch form default rows) = false
goes_on (Return kind) = false
goes_on Throw = false
goes_on _ = true

-- the targets that the instruction names, in its order: of a switch the default, then those of its rows
abbrev pub targets : Op → List ℕ
targets (If cond target) = target ∷ []
targets (IfCmp cond target) = target ∷ []
targets (IfRef cond target) = target ∷ []
targets (Goto target) = target ∷ []
targets (Switch form default rows) = default ∷ map (λ row. row.target) rows
targets _ = []

-- the pcs to which an instruction leads, where these follow it: the pc of the next one, if it goes on and there is
-- a next one, and then its targets
abbrev pub leads_to : Op → Ops → List ℕ
leads_to op [] = targets op
leads_to op (next ∷ suffix) = if goes_on op then next.0 ∷ targets op else targets op

-- the pcs to which the first of these instructions leads
abbrev pub lead_from : Ops → List ℕ
lead_from [] = []
lead_from ((pc, op) ∷ suffix) = leads_to op suffix

-- the pcs to which the instruction at a pc leads
abbrev pub successors : Ops → ℕ → List ℕ
successors [] at = []
successors ((pc, op) ∷ suffix) at = if nat_eq pc at then leads_to op suffix else successors suffix at

-- ---- where an exception is thrown

-- the range of the row holds the pc
abbrev pub covers : ℕ → Guard → Bool
covers at guard = nat_le guard.start at && nat_lt at guard.end

-- the row at a position has such a range
abbrev pub covers_from : List Guard → ℕ → ℕ → Bool
covers_from guards at position = option_map_or (covers at) (slice_get guards position) false

-- the positions of the rows whose range holds the pc, in order
abbrev pub handlers_at : List Guard → ℕ → List ℕ
handlers_at guards at = filter (covers_from guards at) (range_with_len 0 (length guards))
