-- The phase of the entry: the method where a run begins.
use Rattle.std.specs.Prelude.{◌≡◌, ℕ, ◌+◌, Bool, ◌&&◌, is_some, if◌then◌else◌, List, Option, Some, None, option_map, option_and_then, position, slice_get, codes}
use Rattle.library.specs.Classes.{first_own}
use Rattle.class_pool.specs.declared.types.MemberId.{MemberId}
use Rattle.class_pool.specs.Pool.{Slots}
use Rattle.class_file.specs.Rules.{is_public, is_static}
use Rattle.class_file.specs.declared.record.ClassFile.{ClassFile}
use Rattle.class_file.specs.declared.record.Member.{Member}
use Rattle.class_tree.specs.Members.{in_file, is_called}
use Rattle.jvm_model.specs.declared.refusal.Cause.{Cause}
use Rattle.jvm_model.specs.declared.refusal.Cause.TheVariants as cause
use Rattle.jvm_model.specs.declared.refusal.Refusal.{Refusal}
use Rattle.jvm_model.specs.FirstOf.{IfThere}
use Rattle.jvm_model.specs.ClosedSet.{records_of}

-- the method is `public static main()V`
abbrev pub is_main : Slots → Member → Bool
is_main pool m = is_called (codes "main") (codes "()V") (in_file pool m) && (is_public m.flags && is_static m.flags)

-- the position of a file's main, where it has one
abbrev pub main_in : ClassFile → Option ℕ
main_in file = position (is_main file.pool) file.methods

-- the main of the first file that has one
abbrev pub entry_of : List ClassFile → Option MemberId
entry_of files =
    option_and_then (λ file. option_map (λ member. record { class = first_own + file; member = member }) (option_and_then main_in (slice_get files file)))
    (position (λ file. is_some (main_in file)) files)

-- no place is named
abbrev pub refusal_by : Cause → Refusal
refusal_by why = record { cause = why; file = 0; member = 0; pc = 0; value = 0 }

-- no file has one
abbrev pub entry_refusal : List ClassFile → Option Refusal
entry_refusal files = if is_some (entry_of files) then None else Some (refusal_by cause.NoMain)

-- the set has an entry, or is refused for having none
abbrev pub Entering : List ClassFile → Option Refusal → Type 0
Entering files found = found ≡ entry_refusal files

-- the phase over the files; a set with a file that is not read, which an earlier phase refuses, has no refusal here
abbrev pub EntryPoint : List (List ℕ) → Option Refusal → Type 0
EntryPoint files found = IfThere Entering (records_of files) found
