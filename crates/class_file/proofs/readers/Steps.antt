-- The faults of a part.
use Rattle.std.proofs.Common.{◌≡◌, ℕ, List, Err, sym, subst}
use Rattle.byte_read.proofs.Steps.{failed, same_why, number_fails, slice_fails as bytes_fail}
use Rattle.class_file.specs.declared.refusal.ReadRefusal.{ReadRefusal}
use Rattle.class_file.specs.declared.refusal.ReadRefusal.TheVariants.{NotClass, Version, Truncated, TrailingBytes, BadPool, BadShape, BadDescriptor, TooLarge, Memory}
use Rattle.class_file.specs.Reading.{u2_at, u4_at, slice_at}

-- the faults that a part of a class file may have
abbrev pub IsPartFault : ReadRefusal → Type 0
IsPartFault Truncated = Unit {0}
IsPartFault (BadPool index) = Unit {0}
IsPartFault BadShape = Unit {0}
IsPartFault (BadDescriptor index) = Unit {0}
IsPartFault NotClass = ⊥
IsPartFault (Version major) = ⊥
IsPartFault (TrailingBytes count) = ⊥
IsPartFault (TooLarge length) = ⊥
IsPartFault Memory = ⊥

pub is_fault : {A : Type 0} (d why : ReadRefusal) → IsPartFault d → failed {A = A} d ≡ Err why → IsPartFault why
is_fault {A = A} d why is e = subst IsPartFault (same_why {A = A} d why e) is

pub u2_fails : (bytes : List ℕ) (why : ReadRefusal) → u2_at bytes ≡ Err why → IsPartFault why
u2_fails bytes why e = subst IsPartFault (sym (number_fails Truncated 2 bytes why e).1) tt

pub u4_fails : (bytes : List ℕ) (why : ReadRefusal) → u4_at bytes ≡ Err why → IsPartFault why
u4_fails bytes why e = subst IsPartFault (sym (number_fails Truncated 4 bytes why e).1) tt

pub slice_fails : (size : ℕ) (bytes : List ℕ) (why : ReadRefusal) → slice_at size bytes ≡ Err why → IsPartFault why
slice_fails size bytes why e = subst IsPartFault (sym (bytes_fail Truncated size bytes why e).1) tt
