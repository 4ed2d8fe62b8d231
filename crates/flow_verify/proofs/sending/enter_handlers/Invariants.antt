use Rattle.std.proofs.Common.{take, filter}
use Rattle.body_form.specs.Flow.{covers}
use Rattle.jvm_model.specs.TypesRight.{sent_to_handlers}
use Rattle.type_table.specs.Frames.{frame_of}
use Rattle.flow_verify.proofs.waves.Adding.{Sends}
use Rattle.flow_verify.proofs.sending.enter_handlers.Given as goal

abbrev pub invariant-loop-guard : goal.invariant-loop-guard
invariant-loop-guard l =
    Sends l.body.ops l.fn.store l.store (sent_to_handlers (frame_of l.fn.store l.before) (frame_of l.fn.store l.after) (filter (covers l.pc) (take l.guard-index l.guard-items))) l.fn.arriving.items l.arriving.items
