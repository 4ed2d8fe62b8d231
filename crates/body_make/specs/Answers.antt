-- What the parts answer, up to want of memory.
use Rattle.std.specs.Prelude.{◌≡◌, Result, Ok, Err}
use Rattle.class_pool.specs.declared.descriptor.DescriptorRefusal.{DescriptorRefusal}
use Rattle.class_pool.specs.declared.descriptor.DescriptorRefusal.TheVariants as descriptor
use Rattle.body_make.specs.declared.fault.Fault.{Fault}
use Rattle.body_make.specs.declared.fault.Fault.TheVariants as fault
use Rattle.jvm_model.specs.declared.refusal.Cause.TheVariants as cause
use Rattle.jvm_model.specs.Resolution.{Resolved}

-- what was answered, seen by view, is this, unless there was no memory
abbrev pub TellsBy : {X Y : Type 0} → (X → Y) → Result X Fault → Resolved Y → Type 0
TellsBy view (Ok x) wanted = wanted ≡ Ok (view x)
TellsBy view (Err fault.Unresolved) wanted = wanted ≡ Err cause.Unresolved
TellsBy view (Err fault.WrongKind) wanted = wanted ≡ Err cause.WrongKind
TellsBy view (Err fault.Denied) wanted = wanted ≡ Err cause.Denied
TellsBy view (Err fault.Memory) wanted = Unit {0}

-- what was answered is this, unless there was no memory
abbrev pub Tells : {X : Type 0} → Result X Fault → Resolved X → Type 0
Tells result wanted = TellsBy (λ x. x) result wanted

-- a name of a type that is no descriptor names nothing
abbrev pub fault_of_descriptor : DescriptorRefusal → Fault
fault_of_descriptor descriptor.BadDescriptor = fault.Unresolved
fault_of_descriptor descriptor.Memory = fault.Memory
