-- A frame that fits what its instruction leaves fits its method's types where the instruction leads, if objects are of
-- types of the set.
use Rattle.std.proofs.Common.{◌≡◌, ℕ, List, Some, sym, subst, ◌∙◌}
use Rattle.std.specs.List.{Contains}
use Rattle.std.proofs.lemmas.Option.{same_Some}
use Rattle.std.proofs.lemmas.List.Elements.{All-from_recursion, All-contains}
use Rattle.body_form.specs.declared.body.Body.{Body}
use Rattle.body_form.specs.declared.op.Op.{Op}
use Rattle.body_form.specs.declared.types.VFrame.{VFrame}
use Rattle.body_form.specs.Flow.{IsStart, successors}
use Rattle.jvm_model.specs.TypesFrames.{IsKnownFrame}
use Rattle.jvm_model.specs.TypesRight.{Sent, IsMet}
use Rattle.type_order.proofs.Rules.{after-is-known}
use Rattle.type_rounds.proofs.tables.SentFrames.{sent_successors}
use Rattle.typed_machine.specs.TypedMoves.{at_pc}
use Rattle.typed_machine.specs.TypedState.{Object, Frame}
use Rattle.typed_machine.specs.TypedWorld.{World, body_among}
use Rattle.type_safety.specs.Fitting.{Tables, FrameFits, YoungestFits}
use Rattle.type_safety.specs.Parts.{StandsAt}
use Rattle.type_safety.specs.Safety.{IsSet}
use Rattle.type_safety.proofs.fitting.SetBodies.{IsBodyOf, body_of}
use Rattle.type_safety.proofs.fitting.Values.{AreOfSet, frame_above}

module _ (world : World) (tables : Tables) (set : IsSet world tables) (objects : List Object) (are : AreOfSet world objects) where
  -- a frame that fits what is sent to a pc fits the types there
  pub arrives : (frame : Frame) (to : ℕ) (body : Body) → IsBodyOf world tables frame.method body → body_among world.bodies frame.method ≡ Some body → (lower : VFrame)
      → IsKnownFrame world.files lower → IsMet world.files (tables frame.method) (record { to = to; frame = lower }) → FrameFits world objects body frame lower
      → YoungestFits world tables objects (at_pc frame to frame.operands)
  arrives frame to body is found lower known met fits =
      let above = frame_above world set.closed objects are body frame met.upper lower (is.right.known to met.upper met.has) known met.above fits in
      record { body = body; found = found; types = met.upper; known = met.has; has = record { locals = above.locals; operands = above.operands } }

  pub leaves : (frame next : Frame) (body : Body) (instruction : Op) (types after : VFrame) → StandsAt world tables frame body instruction types after → next.method ≡ frame.method
      → FrameFits world objects body next after → (to : ℕ) → Contains (successors body.ops frame.pc) to → YoungestFits world tables objects (at_pc next to next.operands)
  leaves frame next body instruction types after stands same fits to among =
      let is = body_of world tables set frame.method body stands.found in
      let holds = is.right.rules frame.pc instruction types stands.at stands.known in
      let Met : Sent → Type 0 = λ sent. IsStart body.ops sent.to → IsMet world.files (tables frame.method) sent in
      let MetAt : ℕ → Type 0 = λ at. Met (record { to = at; frame = holds.after }) in
      let sent = sent_successors body Met frame.pc types holds.after holds.met in
      let arrived = All-contains MetAt (successors body.ops frame.pc) to (All-from_recursion MetAt (successors body.ops frame.pc) sent) among in
      let met = arrived ((is.facts.leads frame.pc instruction stands.at).starts to among) in
      let known = after-is-known world.files set.closed body is.facts.of_set frame.pc instruction types after stands.at stands.of_set stands.rule in
      let reached : holds.after ≡ after = same_Some holds.after after (sym holds.rule ∙ stands.rule) in
      arrives next to body (subst (λ m. IsBodyOf world tables m body) (sym same) is) (subst (λ m. body_among world.bodies m ≡ Some body) (sym same) stands.found) after known
      (subst (λ m. IsMet world.files (tables m) (record { to = to; frame = after })) (sym same) (subst (λ f. IsMet world.files (tables frame.method) (record { to = to; frame = f })) reached met)) fits
