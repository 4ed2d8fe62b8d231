-- The statuses: their codes and their note lines.
use Rattle.std.specs.Prelude.{ℕ, Bool, true, false, List, [], ◌∷◌, ◌++◌, codes, decimal}
use Rattle.std.specs.List.{flat_map}
use Rattle.dialogue.specs.Limits.{Limits}
use Rattle.jvm_model.specs.declared.refusal.Cause.{Cause}
use Rattle.jvm_model.specs.declared.refusal.Cause.TheVariants as causes
use Rattle.jvm_model.specs.declared.refusal.Refusal.{Refusal}
use Rattle.mote_top.specs.declared.status.ImageCause.{ImageCause}
use Rattle.mote_top.specs.declared.status.ImageCause.TheVariants as image
use Rattle.mote_top.specs.declared.status.ImageRefusal.{ImageRefusal}
use Rattle.mote_top.specs.declared.status.Status.{Status}
use Rattle.mote_top.specs.declared.status.Status.TheVariants.{Done, Uncaught, Words, Refused, Infusion, Spent, HeapWanted, StackWanted, ConsoleFault, ShelfFault, Misfit, Memory}

abbrev pub code_of : Status → ℕ
code_of Done = 0
code_of (Uncaught class) = 1
code_of (Words place) = 2
code_of (Refused refusal) = 3
code_of (Infusion refusal) = 4
code_of Spent = 5
code_of (HeapWanted need live) = 6
code_of (StackWanted need used) = 7
code_of ConsoleFault = 8
code_of (ShelfFault word) = 9
code_of (Misfit class place) = 10
code_of Memory = 11

-- a blank and a number in decimal
abbrev pub blank_number : ℕ → List ℕ
blank_number number = 32 ∷ decimal number

-- a word, numbers in decimal with a blank before each, and byte 10
abbrev pub line : List ℕ → List ℕ → List ℕ
line word numbers = word ++ (flat_map blank_number numbers ++ 10 ∷ [])

abbrev pub cause_word : Cause → List ℕ
cause_word causes.TooMany = codes "toomany"
cause_word causes.TooLarge = codes "toolarge"
cause_word causes.NotClass = codes "notclass"
cause_word causes.Truncated = codes "truncated"
cause_word causes.Version = codes "version"
cause_word causes.BadPool = codes "badpool"
cause_word causes.BadDescriptor = codes "baddescriptor"
cause_word causes.BadShape = codes "badshape"
cause_word causes.Trailing = codes "trailing"
cause_word causes.Unsupported = codes "unsupported"
cause_word causes.BadCode = codes "badcode"
cause_word causes.Duplicate = codes "duplicate"
cause_word causes.Reserved = codes "reserved"
cause_word causes.MissingClass = codes "missingclass"
cause_word causes.BadSuper = codes "badsuper"
cause_word causes.Circular = codes "circular"
cause_word causes.WideType = codes "widetype"
cause_word causes.BadOverride = codes "badoverride"
cause_word causes.MissingBody = codes "missingbody"
cause_word causes.BadInitialiser = codes "badinitialiser"
cause_word causes.Unresolved = codes "unresolved"
cause_word causes.WrongKind = codes "wrongkind"
cause_word causes.Denied = codes "denied"
cause_word causes.NoMain = codes "nomain"
cause_word causes.Unverified = codes "unverified"
cause_word causes.Unbuilt = codes "unbuilt"
cause_word causes.FrameTooLarge = codes "frametoolarge"
cause_word causes.CodeTooLong = codes "codetoolong"
cause_word causes.Memory = codes "memory"

abbrev pub image_word : ImageCause → List ℕ
image_word image.NotInfusion = codes "notinfusion"
image_word image.FormVersion = codes "formversion"
image_word image.Truncated = codes "truncated"
image_word image.Trailing = codes "trailing"
image_word image.BadTable = codes "badtable"
image_word image.BadCode = codes "badcode"
image_word image.BadTarget = codes "badtarget"
image_word image.BadId = codes "badid"
image_word image.BadDepth = codes "baddepth"
image_word image.Crosses = codes "crosses"
image_word image.Falls = codes "falls"
image_word image.Unbuilt = codes "unbuilt"

-- the line of a refused set, and that of a refused infusion
abbrev pub refusal_line : Refusal → List ℕ
refusal_line refusal = codes "refused " ++ line (cause_word refusal.cause) (refusal.file ∷ refusal.member ∷ refusal.pc ∷ refusal.value ∷ [])

abbrev pub image_line : ImageRefusal → List ℕ
image_line refusal = codes "infusion " ++ line (image_word refusal.cause) (refusal.a ∷ refusal.b ∷ [])

-- what is noted at the end of a call whose run may use so much
abbrev pub note_of : Limits → Status → List ℕ
note_of limits Done = []
note_of limits (Uncaught class) = codes "uncaught " ++ (class ++ 10 ∷ [])
note_of limits (Words place) = line (codes "words") (place ∷ [])
note_of limits (Refused refusal) = refusal_line refusal
note_of limits (Infusion refusal) = image_line refusal
note_of limits Spent = line (codes "spent") []
note_of limits (HeapWanted need live) = (codes "heap need" ++ blank_number need) ++ ((codes " live" ++ blank_number live) ++ line (codes " size") (limits.heap ∷ []))
note_of limits (StackWanted need used) = (codes "stack need" ++ blank_number need) ++ ((codes " used" ++ blank_number used) ++ line (codes " size") (limits.stack ∷ []))
note_of limits ConsoleFault = []
note_of limits (ShelfFault word) = line (codes "shelf") (word ∷ [])
note_of limits (Misfit class place) = line (codes "misfit") (class ∷ place ∷ [])
note_of limits Memory = []

-- the status has a note line
abbrev pub has_note : Status → Bool
has_note Done = false
has_note (Uncaught class) = true
has_note (Words place) = true
has_note (Refused refusal) = true
has_note (Infusion refusal) = true
has_note Spent = true
has_note (HeapWanted need live) = true
has_note (StackWanted need used) = true
has_note ConsoleFault = false
has_note (ShelfFault word) = true
has_note (Misfit class place) = true
has_note Memory = false
