-- What a change of the code means, and which frames are made.
use Rattle.std.specs.Prelude.{◌≡◌, ℕ, ◌-◌, Bool, List, [], ◌∷◌, ◌++◌, length, replicate}
use Rattle.class_tree.specs.Subtypes.{class_type}
use Rattle.body_form.specs.declared.types.VFrame.{VFrame}
use Rattle.body_form.specs.declared.types.VType.{VType}
use Rattle.body_form.specs.declared.types.VType.TheVariants as known
use Rattle.jvm_model.specs.TypesRules.{Change as Meaning}
use Rattle.type_table.specs.declared.change.Change.{Change}
use Rattle.type_table.specs.declared.store.FrameId.{FrameId}
use Rattle.type_table.specs.Frames.{Stored, IsFrame, frame_of}

abbrev pub meant : Change → Meaning
meant change = record { pops = change.pops; renames = change.renames; stores = change.stores; pushes = change.pushes; pending = change.pending }

-- these locals first, nothing in the others, no operands
abbrev pub started : ℕ → List VType → Bool → VFrame
started count locals pending = record { locals = locals ++ replicate (count - length locals) known.Top; stack = []; pending = pending }

-- the same locals, and an object of a class as the one operand
abbrev pub entered_with : ℕ → VFrame → VFrame
entered_with class frame = record { locals = frame.locals; stack = known.Ref (class_type class) ∷ []; pending = frame.pending }

-- the frame is there, and is this one
pub record IsFound (stored : Stored) (id : FrameId) (frame : VFrame) : Type 0 where
  pub there : IsFrame stored id
  pub is : frame_of stored id ≡ frame
