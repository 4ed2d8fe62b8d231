-- The phase of members: how a class stands beside the methods above it, its initial values, and what its
-- instructions and exception tables name.
use Rattle.std.specs.Prelude.{◌≡◌, ◌⊎◌, ℕ, ◌+◌, Bool, false, if◌then◌else◌, List, length, Option, Some, None, option_map, option_and_then, Ok, Err}
use Rattle.std.specs.Option.{option_or, option_map_or}
use Rattle.std.specs.Str.{bytes_eq}
use Rattle.library.specs.Classes.{first_own}
use Rattle.class_pool.specs.Pool.{Slots, utf8_at}
use Rattle.class_file.specs.declared.record.ClassFile.{ClassFile}
use Rattle.class_file.specs.declared.record.CodeAttr.{CodeAttr}
use Rattle.class_file.specs.declared.record.HandlerRow.{HandlerRow}
use Rattle.class_file.specs.declared.record.Member.{Member}
use Rattle.class_code.specs.declared.insn.Insn.{Insn}
use Rattle.class_code.specs.Code.{Insns, decoded}
use Rattle.class_tree.specs.Members.{in_file}
use Rattle.jvm_model.specs.declared.refusal.Cause.{Cause}
use Rattle.jvm_model.specs.declared.refusal.Cause.TheVariants as cause
use Rattle.jvm_model.specs.declared.refusal.Refusal.{Refusal}
use Rattle.jvm_model.specs.Phases.{first_refusal, refusal_of_insn}
use Rattle.jvm_model.specs.CodeInsns.{insns_in}
use Rattle.code_reach.specs.Reached.{Ways, IsReached}
use Rattle.class_code.specs.Flow.{code_ways}
use Rattle.jvm_model.specs.FirstOf.{FirstOf, IfThere}
use Rattle.jvm_model.specs.ClosedSet.{records_of}
use Rattle.jvm_model.specs.Resolution.{Resolved}
use Rattle.jvm_model.specs.MethodUses.{initialiser_name}
use Rattle.jvm_model.specs.Overrides.{overrides_badly, hides_interface, lacks_bodies}
use Rattle.jvm_model.specs.Initialisers.{has_bad_constant, fails_from}
use Rattle.jvm_model.specs.Instructions.{op_of, caught_by}

-- ---- what a class declares

-- the refusal, where the test says so
abbrev pub refuse_where : Bool → Refusal → Option Refusal
refuse_where says refusal = if says then Some refusal else None

-- a method stands below one below which it may not stand
abbrev pub override_refusal : List ClassFile → ℕ → ClassFile → ℕ → Member → Option Refusal
override_refusal files position file member m =
    refuse_where (overrides_badly files (first_own + position) member (in_file file.pool m)) (refusal_of_insn cause.BadOverride position member 0 0)

-- a field's constant is none of its type: the value is 1
abbrev pub constant_refusal : ℕ → ClassFile → ℕ → Member → Option Refusal
constant_refusal position file member field = refuse_where (has_bad_constant file.pool field) (refusal_of_insn cause.BadInitialiser position member 0 1)

-- the method is the class's initialiser
abbrev pub is_initialiser : Slots → Member → Bool
is_initialiser pool m = option_map_or (bytes_eq initialiser_name) (utf8_at pool m.name) false

-- the first pc at which the code of an initialiser is of another form
abbrev pub initialiser_fault : ClassFile → CodeAttr → Option ℕ
initialiser_fault file code = option_and_then (fails_from file (length code.code) None) (insns_in (decoded code.code))

abbrev pub initialiser_refusal : ℕ → ClassFile → ℕ → Member → Option Refusal
initialiser_refusal position file member m =
    if is_initialiser file.pool m then option_map (λ pc. refusal_of_insn cause.BadInitialiser position member pc 0) (option_and_then (initialiser_fault file) m.code) else None

-- what the class of a file is refused for by what it declares
abbrev pub declared_refusal : List ClassFile → ℕ → ClassFile → Option Refusal
declared_refusal files position file =
    option_or (first_refusal (override_refusal files position file) 0 file.methods)
    (option_or (refuse_where (hides_interface files (first_own + position)) (refusal_of_insn cause.BadOverride position 0 0 0))
    (option_or (refuse_where (lacks_bodies files (first_own + position)) (refusal_of_insn cause.MissingBody position 0 0 0))
    (option_or (first_refusal (constant_refusal position file) 0 file.fields) (first_refusal (initialiser_refusal position file) 0 file.methods))))

-- ---- what its methods name

-- why something is not resolved
abbrev pub fault_of : {X : Type 0} → Resolved X → Option Cause
fault_of (Ok x) = None
fault_of (Err why) = Some why

-- the refusal of a fault at a pc of a method
abbrev pub refusal_at : ℕ → ℕ → ℕ → Option Cause → Option Refusal
refusal_at position member pc fault = option_map (λ why. refusal_of_insn why position member pc 0) fault

-- an instruction that is reached is refused for what it names; one that is not reached is not looked at
pub data NamesOf (files : List ClassFile) (position : ℕ) (file : ClassFile) (member : ℕ) (ways : Ways) (x : ℕ × Insn) (found : Option Refusal) : Type 0 where
  IsSkipped : (IsReached ways x.0 → ⊥) → found ≡ None → NamesOf files position file member ways x found
  IsTested : IsReached ways x.0 → found ≡ refusal_at position member x.0 (fault_of (op_of files (first_own + position) file.pool x.1)) → NamesOf files position file member ways x found

-- a row of an exception table is refused for what it catches, at the pc of its handler
abbrev pub row_refusal : List ClassFile → ℕ → ClassFile → ℕ → ℕ → HandlerRow → Option Refusal
row_refusal files position file member index row =
    refusal_at position member row.target (fault_of (caught_by files (first_own + position) file.pool row.catch_type))

-- the refusal of the first of two tests that has one
abbrev pub OrElse : (Option Refusal → Type 0) → (Option Refusal → Type 0) → Option Refusal → Type 0
OrElse First Second None = First None × Second None
OrElse First Second (Some why) = First (Some why) ⊎ (First None × Second (Some why))

-- the instructions of a method in their order, and then the rows of its exception table
abbrev pub CodeNames : List ClassFile → ℕ → ClassFile → ℕ → CodeAttr → Insns → Option Refusal → Type 0
CodeNames files position file member code insns found =
    OrElse (FirstOf (λ index x. NamesOf files position file member (code_ways code.handlers insns) x) 0 insns)
    (λ found. found ≡ first_refusal (row_refusal files position file member) 0 code.handlers)
    found

abbrev pub MethodNames : List ClassFile → ℕ → ClassFile → ℕ → Member → Option Refusal → Type 0
MethodNames files position file member m found = IfThere (λ code. IfThere (CodeNames files position file member code) (insns_in (decoded code.code))) m.code found

-- ---- the phase

-- the class of a file, by what it declares and then by what its methods name
abbrev pub ClassLinks : List ClassFile → ℕ → ClassFile → Option Refusal → Type 0
ClassLinks files position file found =
    OrElse (λ found. found ≡ declared_refusal files position file) (FirstOf (MethodNames files position file) 0 file.methods) found

-- the first file of which the class is refused so
abbrev pub Linking : List ClassFile → Option Refusal → Type 0
Linking files found = FirstOf (ClassLinks files) 0 files found

-- the phase over the files; a set with a file that is not read, which an earlier phase refuses, has no refusal here
abbrev pub Members : List (List ℕ) → Option Refusal → Type 0
Members files found = IfThere Linking (records_of files) found
