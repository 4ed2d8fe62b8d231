-- The record that a draft stands for, and what each call makes of it.
use Rattle.std.specs.Prelude.{◌≡◌, ℕ, ◌<◌, ◌⊎◌, List, [], ◌∷◌, ◌++◌, length, Option, Some, None, codes}
use Rattle.class_pool.specs.declared.pool.Const.{Const}
use Rattle.class_pool.specs.Pool.{Slots}
use Rattle.class_file.specs.declared.record.ClassFile.{ClassFile}
use Rattle.class_file.specs.declared.record.Member.{Member}
use Rattle.class_file.specs.declared.record.CodeAttr.{CodeAttr}
use Rattle.class_make.specs.declared.refusal.DraftRefusal.{DraftRefusal}
use Rattle.class_make.specs.declared.refusal.DraftRefusal.TheVariants.{Full, BadShape, Memory}
use Rattle.class_file.specs.declared.refusal.ReadRefusal.{ReadRefusal}
use Rattle.class_file.specs.declared.refusal.ReadRefusal.TheVariants.{Memory as ReadMemory}
use Rattle.class_file.specs.Relation.{IsRecord}
use Rattle.class_make.specs.Entries.{with_entry, with_text, with_class, text_index, class_index}

-- a class of version 52.0 with the flags ACC_PUBLIC and ACC_SUPER (JVMS 4.1), and without members
abbrev pub empty_class : Slots → List ℕ → List ℕ → ClassFile
empty_class pool name parent =
    record {
      minor = 0;
      major = 52;
      pool = pool;
      flags = 33;
      this_class = class_index pool name;
      super_class = class_index pool parent;
      interfaces = [];
      fields = [];
      methods = [];
    }

-- the class of a name with the superclass of a name
abbrev pub new_class : List ℕ → List ℕ → ClassFile
new_class name parent = empty_class (with_class (with_class [] name) parent) name parent

-- a field or a method whose name and descriptor the pool has
abbrev pub member_in : Slots → ℕ → List ℕ → List ℕ → Option CodeAttr → Member
member_in pool flags name descriptor code =
    record { flags = flags; name = text_index pool name; descriptor = text_index pool descriptor; constant = None; code = code }

-- the pool with the texts of a field, and of a method with code
abbrev pub with_field_texts : Slots → List ℕ → List ℕ → Slots
with_field_texts pool name descriptor = with_text (with_text pool name) descriptor

abbrev pub with_method_texts : Slots → List ℕ → List ℕ → Slots
with_method_texts pool name descriptor = with_text (with_field_texts pool name descriptor) (codes "Code")

-- the class with one field more
abbrev pub with_field : ClassFile → ℕ → List ℕ → List ℕ → ClassFile
with_field file flags name descriptor =
    let pool = with_field_texts file.pool name descriptor in
    record file { pool = pool; fields = file.fields ++ member_in pool flags name descriptor None ∷ [] }

-- the class with one method more
abbrev pub with_method : ClassFile → ℕ → List ℕ → List ℕ → CodeAttr → ClassFile
with_method file flags name descriptor code =
    let pool = with_method_texts file.pool name descriptor in
    record file { pool = pool; methods = file.methods ++ member_in pool flags name descriptor (Some code) ∷ [] }

-- the class with one constant more, unless it is there
abbrev pub with_constant : ClassFile → Const → ClassFile
with_constant file entry = record file { pool = with_entry file.pool entry }

-- how many places a pool may have: its count fits two bytes (JVMS 4.1)
abbrev pub most_slots : ℕ
most_slots = 65534

-- the pool has more places than that
abbrev pub IsOver : Slots → Type 0
IsOver pool = most_slots < length pool

-- why a class with this pool is refused while it is drafted
abbrev pub IsUnplaced : Slots → DraftRefusal → Type 0
IsUnplaced pool why = (why ≡ Memory) ⊎ ((why ≡ Full) × IsOver pool)

-- why a drafted record is refused: no bytes are a class file with it
abbrev pub IsInvalid : ClassFile → DraftRefusal → Type 0
IsInvalid file why = (why ≡ Memory) ⊎ ((why ≡ BadShape) × ¬ (IsRecord file))

-- the refusal of a record whose bytes were refused
abbrev pub refusal_of : ReadRefusal → DraftRefusal
refusal_of ReadMemory = Memory
refusal_of _ = BadShape
