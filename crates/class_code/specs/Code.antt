-- Code as a list of instructions, each with its pc (JVMS 4.9.1): one follows the other from the
-- first byte to the last, and each target is the start of one of them.
use Rattle.std.specs.Prelude.{◌≡◌, ℕ, zero, suc, ◌+◌, ◌-◌, ◌<◌, ◌≤◌, Bool, ◌&&◌, ◌||◌, ◌==◌, if◌then◌else◌, List, [], ◌∷◌, ◌++◌, length, map, Option, Some, None, option_map, Result, Ok, Err, ◌⊎◌}
use Rattle.std.specs.List.{AllByRecursion, Contains, list_any, list_all}
use Rattle.class_file.specs.declared.record.HandlerRow.{HandlerRow}
use Rattle.class_code.specs.declared.refusal.Fault.{Fault}
use Rattle.class_code.specs.declared.refusal.Fault.TheVariants as fault
use Rattle.class_code.specs.declared.refusal.CodeRefusal.{CodeRefusal}
use Rattle.class_code.specs.declared.refusal.CodeRefusal.TheVariants.{Unsupported, BadCode, Memory}
use Rattle.class_code.specs.declared.insn.Insn.{Insn}
use Rattle.class_code.specs.declared.insn.Insn.TheVariants.{If, IfCmp, IfRef, Goto, Switch}
use Rattle.class_code.specs.Table.{Prefix, insn_at}

-- pcs with the instructions that stand there
abbrev pub Insns : Type 0
Insns = List (ℕ × Insn)

-- ---- one after the other

-- The instructions stand one after the other in the bytes, which begin at pc. Behind them the bytes
-- `left` begin, at `next`.
abbrev pub AreIn : ℕ → List ℕ → Insns → ℕ → List ℕ → Type 0
AreIn pc bytes [] next left = (next ≡ pc) × (left ≡ bytes)
AreIn pc bytes ((at, insn) ∷ insns) next left =
    (at ≡ pc) × (suffix : List ℕ) × (insn_at pc bytes ≡ Ok (insn, suffix)) × AreIn (pc + (length bytes - length suffix)) suffix insns next left

-- the code is these instructions
abbrev pub CodeIs : List ℕ → Insns → Type 0
CodeIs code insns = (end : ℕ) × AreIn 0 code insns end []

-- the first place where no instruction stands, and why
pub record FailsAt (code : List ℕ) (pc : ℕ) (why : Fault) : Type 0 where
  pub before : Insns
  pub left : List ℕ
  pub stand : AreIn 0 code before pc left
  pub there : 0 < length left
  pub fails : insn_at pc left ≡ Err why

-- ---- starts and targets

-- an instruction is at the pc
abbrev pub IsStart : Insns → ℕ → Type 0
IsStart insns pc = Contains (map (λ x. x.0) insns) pc

-- where an instruction may jump
abbrev pub targets : Insn → List ℕ
targets (If condition target) = target ∷ []
targets (IfCmp condition target) = target ∷ []
targets (IfRef condition target) = target ∷ []
targets (Goto target) = target ∷ []
targets (Switch form default rows) = default ∷ map (λ row. row.target) rows
targets _ = []

-- the instruction jumps to starts alone
abbrev pub JumpsToStarts : Insns → ℕ × Insn → Type 0
JumpsToStarts insns x = AllByRecursion (IsStart insns) (targets x.1)

-- the code is these instructions, and each target is a start
pub record IsCode (code : List ℕ) (insns : Insns) : Type 0 where
  pub stand : CodeIs code insns
  pub jumps : AllByRecursion (JumpsToStarts insns) insns

-- all before it are so, and it is not
pub record IsFirstOther {X : Type 0} (P : X → Type 0) (xs : List X) (x : X) : Type 0 where
  pub before : List X
  pub after : List X
  pub stands : xs ≡ before ++ x ∷ after
  pub are : AllByRecursion P before
  pub is_not : ¬ P x

-- the code is instructions, and the one at the pc is the first of which a target is no start
pub record LeadsAstray (code : List ℕ) (pc : ℕ) : Type 0 where
  pub insns : Insns
  pub insn : Insn
  pub stand : CodeIs code insns
  pub first : IsFirstOther (JumpsToStarts insns) insns (pc, insn)

-- why the code is none
abbrev pub IsRefused : List ℕ → CodeRefusal → Type 0
IsRefused code (Unsupported pc opcode) = FailsAt code pc (fault.Unsupported opcode)
IsRefused code (BadCode pc) = FailsAt code pc fault.BadCode ⊎ LeadsAstray code pc
IsRefused code Memory = ⊥

-- the pcs rise, from this one on
abbrev pub RiseFrom : ℕ → Insns → Type 0
RiseFrom low [] = Unit {0}
RiseFrom low ((pc, insn) ∷ insns) = (low ≤ pc) × RiseFrom (suc pc) insns

-- ---- the same as a function of the bytes

-- a fault at a pc
abbrev pub at_pc : ℕ → Fault → CodeRefusal
at_pc pc (fault.Unsupported opcode) = Unsupported pc opcode
at_pc pc fault.BadCode = BadCode pc
at_pc pc fault.Memory = Memory

-- these instructions, and then those that were read
abbrev pub with_prefix : Insns → Result Insns CodeRefusal → Result Insns CodeRefusal
with_prefix prefix (Ok insns) = Ok (prefix ++ insns)
with_prefix prefix (Err why) = Err why

-- the instruction at the prefix, and then the rest
abbrev pub go_on : (ℕ → List ℕ → Result Insns CodeRefusal) → ℕ → List ℕ → Prefix → Result Insns CodeRefusal
go_on rest pc bytes (Ok (insn, suffix)) = with_prefix ((pc, insn) ∷ []) (rest (pc + (length bytes - length suffix)) suffix)
go_on rest pc bytes (Err why) = Err (at_pc pc why)

-- the instructions in the bytes from pc on, of which there are at most so many
unfoldable pub insns_within : ℕ → ℕ → List ℕ → Result Insns CodeRefusal
insns_within zero pc bytes = Ok []
insns_within (suc most) pc [] = Ok []
insns_within (suc most) pc (byte ∷ bytes) = go_on (insns_within most) pc (byte ∷ bytes) (insn_at pc (byte ∷ bytes))

abbrev pub insns_of : ℕ → List ℕ → Result Insns CodeRefusal
insns_of pc bytes = insns_within (length bytes) pc bytes

abbrev pub is_start : Insns → ℕ → Bool
is_start insns pc = list_any (λ x. x.0 == pc) insns

abbrev pub jumps_to_starts : Insns → Insn → Bool
jumps_to_starts insns insn = list_all (is_start insns) (targets insn)

-- the first that does not pass the test
unfoldable pub first_other : {X : Type 0} → (X → Bool) → List X → Option X
first_other test [] = None
first_other test (x ∷ xs) = if test x then first_other test xs else Some x

-- the pc of the first instruction of which a target is no start
abbrev pub first_astray : Insns → Option ℕ
first_astray insns = option_map (λ x. x.0) (first_other (λ x. jumps_to_starts insns x.1) insns)

abbrev pub unless_astray : Insns → Option ℕ → Result Insns CodeRefusal
unless_astray insns None = Ok insns
unless_astray insns (Some pc) = Err (BadCode pc)

abbrev pub with_targets : Result Insns CodeRefusal → Result Insns CodeRefusal
with_targets (Ok insns) = unless_astray insns (first_astray insns)
with_targets (Err why) = Err why

-- the instructions of the code, or why it is none
abbrev pub decoded : List ℕ → Result Insns CodeRefusal
decoded code = with_targets (insns_of 0 code)

-- what was answered is this, unless there was no memory
abbrev pub Answers : {X : Type 0} → (X → Insns) → Result X CodeRefusal → Result Insns CodeRefusal → Type 0
Answers view (Ok x) wanted = wanted ≡ Ok (view x)
Answers view (Err (Unsupported pc opcode)) wanted = wanted ≡ Err (Unsupported pc opcode)
Answers view (Err (BadCode pc)) wanted = wanted ≡ Err (BadCode pc)
Answers view (Err Memory) wanted = Unit {0}

-- ---- exception tables (JVMS 4.7.3)

-- the bounds and the handler are starts, and the end may be the length of the code
pub record HandlerFits (insns : Insns) (size : ℕ) (row : HandlerRow) : Type 0 where
  pub start : IsStart insns row.start
  pub end : (row.end ≡ size) ⊎ IsStart insns row.end
  pub handler : IsStart insns row.target

abbrev pub handler_fits : Insns → ℕ → HandlerRow → Bool
handler_fits insns size row = (is_start insns row.start && (row.end == size || is_start insns row.end)) && is_start insns row.target

-- the start of the first row that does not fit
abbrev pub first_unfit : Insns → ℕ → List HandlerRow → Option ℕ
first_unfit insns size rows = option_map (λ row. row.start) (first_other (handler_fits insns size) rows)

-- the first row that does not fit has this start
pub record IsFirstUnfit (insns : Insns) (size : ℕ) (rows : List HandlerRow) (start : ℕ) : Type 0 where
  pub row : HandlerRow
  pub starts : start ≡ row.start
  pub first : IsFirstOther (HandlerFits insns size) rows row
