-- Each successor gets the frame.
use Rattle.std.proofs.Common.{◌≡◌, ℕ, List, map, take, subst, ◌∙◌}
use Rattle.std.proofs.lemmas.List.{take_all}
use Rattle.body_form.specs.Flow.{successors}
use Rattle.type_table.specs.Frames.{frame_of}
use Rattle.flow_verify.specs.Waves.{sent_with, Adds}
use Rattle.flow_verify.proofs.waves.Adding.{adds_none, adds_mapped}
use Rattle.flow_verify.proofs.sending.send_on.Goals as goal

pub loop-to-init : goal.loop-to-init
loop-to-init c = λ stored there. adds_none c.args.body.now.ops stored c.args.arriving.now.items

pub loop-to-preserved : goal.loop-to-preserved
loop-to-preserved c = λ stored there.
    adds_mapped c.args.body.now.ops stored (sent_with (frame_of stored c.args.after)) c.as_slice-to-items.result.now c.loop-to.to-index c.args.arriving.now.items c.loop-to.arriving.items c.send_to.new.arriving.items
    c.loop-to-test.true (c.loop-to.invariant stored there) (c.in-Ok.ensures stored there)

pub returns : goal.returns
returns c = λ stored there.
    let ops = c.args.body.now.ops in
    let xs = c.as_slice-to-items.result.now in
    let all : take c.loop-to.to-index xs ≡ successors ops c.args.pc =
    take_all c.loop-to.to-index xs c.loop-to-test.false ∙ c.as_slice-to-items.ensures.value ∙ c.in_ok-successors.ensures
    in
    subst (λ (pcs : List ℕ). Adds ops stored (map (sent_with (frame_of stored c.args.after)) pcs) c.args.arriving.now.items c.loop-to.arriving.items) all (c.loop-to.invariant stored there)
