-- The members of the classes of the library: methods alone, by their positions.
use Rattle.std.specs.Prelude.{ℕ, nat_eq, if◌then◌else◌, List, [], ◌∷◌, codes}
use Rattle.library.specs.Classes.{is_library_class}
use Rattle.library.specs.declared.natives.Native.{Native}
use Rattle.library.specs.declared.natives.Native.TheVariants.{Construct, Write, Read, Print}

-- the number of mote/Console
abbrev pub console : ℕ
console = 14

-- the methods of a class, that at position 0 first: those of the console, and each other class's constructor
abbrev pub methods_of : ℕ → List Native
methods_of class =
    if nat_eq class console then Write ∷ Read ∷ Print ∷ []
    else (if is_library_class class then Construct ∷ [] else [])

abbrev pub name_of : Native → List ℕ
name_of Construct = codes "<init>"
name_of Write = codes "write"
name_of Read = codes "read"
name_of Print = codes "print"

abbrev pub descriptor_of : Native → List ℕ
descriptor_of Construct = codes "()V"
descriptor_of Write = codes "(I)V"
descriptor_of Read = codes "()I"
descriptor_of Print = codes "(I)V"

-- ACC_PUBLIC and ACC_NATIVE, and ACC_STATIC for those of the console (JVMS table 4.6-A)
abbrev pub flags_of : Native → ℕ
flags_of Construct = 0x0101
flags_of _ = 0x0109
