-- What fields were set to last, by their names and descriptors.
use Rattle.std.specs.Prelude.{◌≡◌, Bool, ◌&&◌, List, Option, None, option_map, ℕ}
use Rattle.std.specs.Map.{lookup}
use Rattle.std.specs.Option.{option_or}
use Rattle.std.specs.Str.{bytes_eq}
use Rattle.class_pool.specs.declared.members.MemberName.{MemberName as Named}
use Rattle.class_pool.specs.Members.{MemberName}
use Rattle.class_pool.specs.Pool.{Slots}
use Rattle.class_code.specs.declared.insn.Insn.{Insn}
use Rattle.class_code.specs.declared.insn.Insn.TheVariants as insns
use Rattle.class_tree.specs.Members.{Declaration}
use Rattle.jvm_model.specs.Resolution.{field_name_at}
use Rattle.jvm_model.specs.Initialisers.{Pushed as Held, Number, Null}
use Rattle.jvm_model.specs.InitialStatics.{last_write}
use Rattle.infuse_ids.specs.declared.pushed.Pushed.{Pushed}
use Rattle.infuse_ids.specs.declared.pushed.Pushed.TheVariants as code
use Rattle.infuse_ids.specs.declared.writes.Called.{Called}
use Rattle.infuse_ids.specs.declared.writes.LastWrites.{LastWrites}

-- what is pushed, as the model has it
abbrev pub pushed_of : Pushed → Held
pushed_of (code.Number value) = Number value
pushed_of code.Null = Null

-- what an entry names, as texts
abbrev pub named_of : Named → MemberName
named_of named = record { class = named.class.now; name = named.name.now; descriptor = named.descriptor.now }

-- the field that an instruction writes, where it writes a static one
abbrev pub target_of : Slots → Insn → Option MemberName
target_of pool (insns.PutStatic index) = field_name_at pool index
target_of pool _ = None

-- the name and the descriptor are these
abbrev pub is_key : List ℕ → List ℕ → Called → Bool
is_key name descriptor called = bytes_eq name called.name && bytes_eq descriptor called.descriptor

-- what a field of this name and this descriptor was set to last
abbrev pub last_set : LastWrites → List ℕ → List ℕ → Option Held
last_set writes name descriptor = option_map pushed_of (lookup (is_key name descriptor) writes.map.entries)

-- these writes come behind the earlier ones, for every field
abbrev pub Sets : List (MemberName × Held) → LastWrites → LastWrites → Type 0
Sets writes old new = (field : Declaration) → last_set new field.name field.descriptor ≡ option_or (last_write field writes) (last_set old field.name field.descriptor)
