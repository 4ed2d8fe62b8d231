-- The first phases of the verdict, one after the other: how large the set is, the reading of each file,
-- and the code of each method. Each gives the first refusal in the order of files, methods and pcs, or
-- none.
use Rattle.std.specs.Prelude.{◌≡◌, ℕ, suc, nat_lt, nat_le, if◌then◌else◌, List, [], ◌∷◌, length, map, Option, Some, None, option_map, option_and_then, Result, Ok, Err}
use Rattle.std.specs.Option.{option_or}
use Rattle.std.specs.List.{sum}
use Rattle.class_file.specs.declared.record.ClassFile.{ClassFile}
use Rattle.class_file.specs.declared.record.CodeAttr.{CodeAttr}
use Rattle.class_file.specs.declared.record.Member.{Member}
use Rattle.class_file.specs.declared.refusal.ReadRefusal.{ReadRefusal}
use Rattle.class_file.specs.declared.refusal.ReadRefusal.TheVariants as read
use Rattle.class_file.specs.ReadingClass.{class_of}
use Rattle.class_code.specs.declared.refusal.CodeRefusal.{CodeRefusal}
use Rattle.class_code.specs.declared.refusal.CodeRefusal.TheVariants as fault
use Rattle.class_code.specs.Code.{Insns, decoded, first_unfit}
use Rattle.jvm_model.specs.declared.refusal.Cause.{Cause}
use Rattle.jvm_model.specs.declared.refusal.Cause.TheVariants as cause
use Rattle.jvm_model.specs.declared.refusal.Refusal.{Refusal}
unfoldable pub use Rattle.class_tree.specs.Scan.{first_refusal}
pub use Rattle.class_tree.specs.Scan.{saturated}

-- ---- how large the set is

abbrev pub most_files : ℕ
most_files = 512

abbrev pub most_bytes : ℕ
most_bytes = 16777216

-- how many bytes the files have in all
abbrev pub total_bytes : List (List ℕ) → ℕ
total_bytes files = sum (map length files)

-- too many of the first or of the second kind, and how many there are
abbrev pub too_many : ℕ → ℕ → Refusal
too_many kind count = record { cause = cause.TooMany; file = 0; member = kind; pc = 0; value = saturated count }

-- the files are at most 512, and have at most 16,777,216 bytes in all
abbrev pub size_refusal : List (List ℕ) → Option Refusal
size_refusal files =
    if nat_lt most_files (length files) then Some (too_many 0 (length files))
    else (if nat_lt most_bytes (total_bytes files) then Some (too_many 1 (total_bytes files)) else None)

-- ---- reading

abbrev pub refusal_of_file : Cause → ℕ → ℕ → Refusal
refusal_of_file why file value = record { cause = why; file = saturated file; member = 0; pc = 0; value = value }

-- the refusal of a file of so many bytes
abbrev pub refusal_of_reading : ℕ → ℕ → ReadRefusal → Refusal
refusal_of_reading file size read.NotClass = refusal_of_file cause.NotClass file 0
refusal_of_reading file size (read.Version major) = refusal_of_file cause.Version file major
refusal_of_reading file size read.Truncated = refusal_of_file cause.Truncated file (saturated size)
refusal_of_reading file size (read.TrailingBytes count) = refusal_of_file cause.Trailing file count
refusal_of_reading file size (read.BadPool index) = refusal_of_file cause.BadPool file index
refusal_of_reading file size read.BadShape = refusal_of_file cause.BadShape file 0
refusal_of_reading file size (read.BadDescriptor index) = refusal_of_file cause.BadDescriptor file index
refusal_of_reading file size (read.TooLarge count) = refusal_of_file cause.TooLarge file count
refusal_of_reading file size read.Memory = refusal_of_file cause.Memory file 0

abbrev pub unless_read : ℕ → ℕ → Result ClassFile ReadRefusal → Option Refusal
unless_read file size (Ok class) = None
unless_read file size (Err why) = Some (refusal_of_reading file size why)

-- why the file is not read
abbrev pub reading_refusal : ℕ → List ℕ → Option Refusal
reading_refusal file bytes = unless_read file (length bytes) (class_of bytes)

-- the record of a file, where it is read
abbrev pub record_in : Result ClassFile ReadRefusal → Option ClassFile
record_in (Ok file) = Some file
record_in (Err why) = None

-- ---- code

-- the instructions of some code, where each target, handler and bound of a handler is the start of one
abbrev pub unless_unfit : CodeAttr → Insns → Option CodeRefusal
unless_unfit code insns = option_map (λ pc. fault.BadCode pc) (first_unfit insns (length code.code) code.handlers)

abbrev pub fault_in : CodeAttr → Result Insns CodeRefusal → Option CodeRefusal
fault_in code (Ok insns) = unless_unfit code insns
fault_in code (Err why) = Some why

-- why the code of a method is none
abbrev pub fault_of : CodeAttr → Option CodeRefusal
fault_of code = fault_in code (decoded code.code)

abbrev pub refusal_of_insn : Cause → ℕ → ℕ → ℕ → ℕ → Refusal
refusal_of_insn why file member pc value = record { cause = why; file = saturated file; member = saturated member; pc = pc; value = value }

-- the refusal of the code of a method
abbrev pub refusal_of_code : ℕ → ℕ → CodeRefusal → Refusal
refusal_of_code file member (fault.Unsupported pc opcode) = refusal_of_insn cause.Unsupported file member pc opcode
refusal_of_code file member (fault.BadCode pc) = refusal_of_insn cause.BadCode file member pc 0
refusal_of_code file member fault.Memory = refusal_of_insn cause.Memory file member 0 0

-- why the code of a method is none, where it has code
abbrev pub method_refusal : ℕ → ℕ → Member → Option Refusal
method_refusal file member m = option_map (refusal_of_code file member) (option_and_then fault_of m.code)

-- why the code of the first such method of a class is none
abbrev pub class_refusal : ℕ → ClassFile → Option Refusal
class_refusal file class = first_refusal (method_refusal file) 0 class.methods

abbrev pub code_refusal : ℕ → List ℕ → Option Refusal
code_refusal file bytes = option_and_then (class_refusal file) (record_in (class_of bytes))

-- ---- the phases

abbrev pub SetSize : List (List ℕ) → Option Refusal → Type 0
SetSize files found = size_refusal files ≡ found

abbrev pub Reading : List (List ℕ) → Option Refusal → Type 0
Reading files found = first_refusal reading_refusal 0 files ≡ found

abbrev pub MethodCode : List (List ℕ) → Option Refusal → Type 0
MethodCode files found = first_refusal code_refusal 0 files ≡ found
