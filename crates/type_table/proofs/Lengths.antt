-- How many operands and locals a frame of a store has.
use Rattle.std.proofs.Common.{◌≡◌, ◌≤◌, length, sym, subst}
use Rattle.std.proofs.lemmas.List.{length-take-le}
use Rattle.type_table.specs.declared.store.FrameId.{FrameId}
use Rattle.type_table.specs.Frames.{Stored, IsDeep, IsFrame, frame_of, locals_of}
use Rattle.type_table.proofs.Chaining.{length_operands}
use Rattle.type_table.proofs.Branching.{length_locals}

pub frame_is_high : (stored : Stored) (id : FrameId) → IsFrame stored id → length (frame_of stored id).stack ≡ id.height
frame_is_high stored id frame = length_operands stored.cells id.height id.operands frame.operands

pub frame_is_wide : (stored : Stored) (id : FrameId) → IsDeep stored → IsFrame stored id → length (frame_of stored id).locals ≡ stored.locals
frame_is_wide stored id deep frame =
    let locals = locals_of stored.leaves stored.branches stored.depth id.locals in
    let long = length_locals stored.leaves stored.branches stored.depth id.locals frame.locals in
    length-take-le stored.locals locals (subst (λ n. stored.locals ≤ n) (sym long) deep)
