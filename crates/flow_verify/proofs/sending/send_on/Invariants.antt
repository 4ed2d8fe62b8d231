use Rattle.std.proofs.Common.{map, take}
use Rattle.type_table.specs.Frames.{Stored, IsFrame, frame_of}
use Rattle.flow_verify.specs.Waves.{sent_with, Adds}
use Rattle.flow_verify.proofs.sending.send_on.Given as goal

abbrev pub invariant-loop-to : goal.invariant-loop-to
invariant-loop-to l = (stored : Stored) → IsFrame stored l.after → Adds l.body.ops stored (map (sent_with (frame_of stored l.after)) (take l.to-index l.to-items)) l.fn.arriving.items l.arriving.items
