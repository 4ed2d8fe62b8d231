-- What the parts of the crate answer of the instructions and the exception table of a method.
use Rattle.std.specs.Prelude.{◌≡◌, ◌⊎◌, ℕ, Bool, true, false, List, ◌++◌, Option, Some, None, option_map, option_and_then, Result, Ok, Err}
use Rattle.class_pool.specs.Pool.{Slots}
use Rattle.class_file.specs.declared.record.ClassFile.{ClassFile}
use Rattle.class_file.specs.declared.record.CodeAttr.{CodeAttr}
use Rattle.class_file.specs.declared.record.Member.{Member}
use Rattle.class_code.specs.declared.insn.Insn.{Insn}
use Rattle.class_code.specs.Code.{Insns, decoded}
use Rattle.body_form.specs.declared.op.Op.{Op}
use Rattle.body_form.specs.declared.op.Op.TheVariants.{Nop}
use Rattle.body_make.specs.declared.fault.Fault.{Fault}
use Rattle.body_make.specs.declared.fault.Fault.TheVariants as fault
use Rattle.body_make.specs.declared.refusal.LinkCause.TheVariants as link
use Rattle.body_make.specs.declared.refusal.LinkRefusal.{LinkRefusal}
use Rattle.body_make.specs.Refusals.{no_memory, refusal_of}
use Rattle.jvm_model.specs.declared.refusal.Cause.TheVariants as cause
use Rattle.jvm_model.specs.declared.refusal.Refusal.{Refusal}
use Rattle.jvm_model.specs.Phases.{refusal_of_insn}
use Rattle.jvm_model.specs.Instructions.{op_of}
use Rattle.jvm_model.specs.Linking.{Linking}
use Rattle.jvm_model.specs.Entry.{entry_refusal}
use Rattle.jvm_model.specs.CodeInsns.{insns_in}
use Rattle.jvm_model.specs.Bodies.{AreEach, Coded}

-- there was no memory, or the refusal is one that is had
abbrev pub Refuses : (Option Refusal → Type 0) → LinkRefusal → Type 0
Refuses Has why = (why ≡ no_memory) ⊎ Has (Some (refusal_of why))

-- the family of an instruction, where it is reached, and else nop
abbrev pub IsOpOf : List ClassFile → ℕ → Slots → Bool → Insn → Op → Type 0
IsOpOf files class pool reached insn op = ((reached ≡ true) × (op_of files class pool insn ≡ Ok op)) ⊎ ((reached ≡ false) × (op ≡ Nop))

-- a list grew by items that are so, one for each of these
abbrev pub Adds : {X Y : Type 0} → (X → Y → Type 0) → List X → List Y → List Y → Type 0
Adds {Y = Y} Is xs old new = (more : List Y) × (new ≡ old ++ more) × AreEach Is xs more

-- the refusal for a fault at a pc of a method of the class of a file at a position
abbrev pub RefusesFor : ℕ → ℕ → ℕ → Fault → LinkRefusal → Type 0
RefusesFor position member pc fault.Unresolved why = refusal_of why ≡ refusal_of_insn cause.Unresolved position member pc 0
RefusesFor position member pc fault.WrongKind why = refusal_of why ≡ refusal_of_insn cause.WrongKind position member pc 0
RefusesFor position member pc fault.Denied why = refusal_of why ≡ refusal_of_insn cause.Denied position member pc 0
RefusesFor position member pc fault.Memory why = why ≡ no_memory

-- ---- methods

-- a method that has code, with its instructions, where it stands
abbrev pub with_code : ℕ → ClassFile → ℕ → Member → CodeAttr → Insns → Coded
with_code class file position m code insns = record { class = class; file = file; position = position; method = m; code = code; insns = insns }

abbrev pub code_in : ℕ → ClassFile → ℕ → Member → CodeAttr → Option Coded
code_in class file position m code = option_map (with_code class file position m code) (insns_in (decoded code.code))

abbrev pub coded_at : ℕ → ClassFile → ℕ → Member → Option Coded
coded_at class file position m = option_and_then (code_in class file position m) m.code

-- ---- the set

-- the classes do not stand together for this reason, or they do, and there is no entry
abbrev pub IsUnlinked : List ClassFile → Refusal → Type 0
IsUnlinked files why = Linking files (Some why) ⊎ (Linking files None × (entry_refusal files ≡ Some why))

-- a refusal was answered, and it is this one, unless there was no memory
abbrev pub GivesRefusal : {X : Type 0} → Result X LinkRefusal → Refusal → Type 0
GivesRefusal (Ok x) wanted = ⊥
GivesRefusal (Err why) wanted = (why.cause ≡ link.Memory) ⊎ (refusal_of why ≡ wanted)

-- bodies were answered, unless there was no memory
abbrev pub GivesBodies : {X : Type 0} → Result X LinkRefusal → Type 0
GivesBodies (Ok x) = Unit {0}
GivesBodies (Err why) = why.cause ≡ link.Memory
