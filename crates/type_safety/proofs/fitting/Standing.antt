-- The youngest frame of a state that fits stands at an instruction, whose rule holds.
use Rattle.std.proofs.Common.{◌≡◌, List, [], ◌∷◌, Some, sym, subst, ◌∙◌}
use Rattle.type_rounds.proofs.tables.Starts.{start_has_op}
use Rattle.typed_machine.specs.TypedState.{Frame, Object, State}
use Rattle.typed_machine.specs.TypedWorld.{World, body_among}
use Rattle.type_safety.specs.Fitting.{Tables, YoungestFits, OthersWait, FramesFit, StateFits}
use Rattle.type_safety.specs.Parts.{Stands, FittingStands}
use Rattle.type_safety.specs.Safety.{IsSet}
use Rattle.type_safety.proofs.fitting.SetBodies.{body_of}

-- the frames of a state that fits
pub frames_fit : (world : World) (tables : Tables) (state : State) (frame : Frame) (others : List Frame) → state.frames ≡ frame ∷ others → StateFits world tables state
    → FramesFit world tables state.objects (frame ∷ others)
frames_fit world tables state frame others is fits = subst (FramesFit world tables state.objects) is fits.frames

youngest_stands : (world : World) (tables : Tables) → IsSet world tables → (state : State) (frame : Frame) → YoungestFits world tables state.objects frame → Stands world tables state frame
youngest_stands world tables set state frame young =
    let is = body_of world tables set frame.method young.body young.found in
    let there = start_has_op young.body.ops frame.pc (is.right.only frame.pc young.types young.known).0 in
    let holds = is.right.rules frame.pc there.0 young.types there.1 young.known in
    record {
      body = young.body;
      instruction = there.0;
      types = young.types;
      after = holds.after;
      is = record { found = young.found; at = there.1; known = young.known; of_set = is.right.known frame.pc young.types young.known; rule = holds.rule };
      has = young.has;
    }

pub fitting_stands : FittingStands
fitting_stands world tables set state frame others is fits = youngest_stands world tables set state frame (frames_fit world tables state frame others is fits).0

-- ---- frames that wait

-- frames wait for one of the same method as before
pub wait_for : (world : World) (tables : Tables) (objects : List Object) (frame next : Frame) → next.method ≡ frame.method → (others : List Frame) → OthersWait world tables objects frame others → OthersWait world tables objects next others
wait_for world tables objects frame next same [] wait = same ∙ wait
wait_for world tables objects frame next same (other ∷ others) wait =
    let waits = wait.0 in (
      record {
        body = waits.body;
        found = waits.found;
        instruction = waits.instruction;
        used = waits.used;
        at = waits.at;
        calls = waits.calls;
        types = waits.types;
        known = waits.known;
        change = waits.change;
        rule = waits.rule;
        has = waits.has;
        callee = waits.callee;
        callee_found = subst (λ m. body_among world.bodies m ≡ Some waits.callee) (sym same) waits.callee_found;
        result = waits.result;
      },
      wait.1,
    )
