-- What a refusal of this crate is among the refusals of a set.
use Rattle.body_make.specs.declared.refusal.LinkCause.{LinkCause}
use Rattle.body_make.specs.declared.refusal.LinkCause.TheVariants as link
use Rattle.body_make.specs.declared.refusal.LinkRefusal.{LinkRefusal}
use Rattle.jvm_model.specs.declared.refusal.Cause.{Cause}
use Rattle.jvm_model.specs.declared.refusal.Cause.TheVariants as cause
use Rattle.jvm_model.specs.declared.refusal.Refusal.{Refusal}

-- want of memory, which names no place
abbrev pub no_memory : LinkRefusal
no_memory = record { cause = link.Memory; file = 0; member = 0; pc = 0; value = 0 }

abbrev pub cause_of : LinkCause → Cause
cause_of link.Unresolved = cause.Unresolved
cause_of link.Denied = cause.Denied
cause_of link.WrongKind = cause.WrongKind
cause_of link.BadOverride = cause.BadOverride
cause_of link.MissingBody = cause.MissingBody
cause_of link.BadInitialiser = cause.BadInitialiser
cause_of link.NoMain = cause.NoMain
cause_of link.Memory = cause.Memory

-- the same cause at the same place
abbrev pub refusal_of : LinkRefusal → Refusal
refusal_of why = record { cause = cause_of why.cause; file = why.file; member = why.member; pc = why.pc; value = why.value }
