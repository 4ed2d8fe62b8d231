-- What is known at first.
use Rattle.std.specs.Prelude.{◌≡◌, ℕ, ◌<◌, Bool, false, nat_eq, if◌then◌else◌, List, length, get_or, Option, None, Some, slice_get}
use Rattle.std.specs.Option.{option_map_or}
use Rattle.std.specs.List.{AllByRecursion, Contains}
use Rattle.std.specs.Str.{bytes_eq}
use Rattle.class_tree.specs.Members.{Declaration}
use Rattle.body_form.specs.Flow.{Ops, pc_at}
use Rattle.jvm_model.specs.MethodUses.{constructor_name}
use Rattle.type_table.specs.Frames.{Stored}
use Rattle.type_table.specs.declared.store.FrameId.{FrameId}
use Rattle.flow_verify.specs.declared.frames.Frames.{Frames}
use Rattle.flow_verify.specs.declared.frames.Known.{Known}

-- the method at a position is a constructor
abbrev pub has_constructor : List Declaration → ℕ → Bool
has_constructor methods position = option_map_or (λ method. bytes_eq method.name constructor_name) (slice_get methods position) false

-- the entry of the instruction at a pc
abbrev pub entry_at_first : FrameId → ℕ → Option Known
entry_at_first id pc = if nat_eq pc 0 then Some (record { frame = id; round = 0 }) else None

-- a frame of a store is known at pc 0, and no other; the position there is in a list
pub record IsStored (ops : Ops) (stored : Stored) (id : FrameId) (frames : Frames) (wave : List ℕ) : Type 0 where
  pub store : frames.store ≡ stored
  pub count : length frames.known.items ≡ length ops
  pub entries : (position : ℕ) → position < length ops → get_or frames.known.items position None ≡ entry_at_first id (pc_at ops position)
  pub within : AllByRecursion (λ position. position < length ops) wave
  pub listed : (position : ℕ) → position < length ops → pc_at ops position ≡ 0 → Contains wave position
