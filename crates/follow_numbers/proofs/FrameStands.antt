-- In states that match, the youngest frame stands at an instruction of its body.
use Rattle.std.proofs.Common.{◌≡◌, List, [], ◌∷◌, refl, ap, ◌∙◌}
use Rattle.std.proofs.lemmas.List.Elements.{All-from_recursion, All-contains}
use Rattle.body_form.specs.declared.body.Body.{Body}
use Rattle.body_form.specs.declared.op.Op.{Op}
use Rattle.jvm_model.specs.TypesRight.{IsRight}
use Rattle.mote_model.specs.State.{Frame as SplitFrame}
use Rattle.mote_model.specs.SplitState as split
use Rattle.type_rounds.proofs.tables.Starts.{start_has_op}
use Rattle.typed_machine.specs.TypedState.{Frame, State}
use Rattle.type_safety.specs.Fitting.{FramesFit}
use Rattle.match_states.specs.Followed.{StatesMatch}
use Rattle.match_states.specs.MatchedFrames.{FramesMatch}
use Rattle.match_states.specs.Setting.{Setting, IsCompiled, table_for}
use Rattle.match_code.proofs.MatchedCode.{found_body}
use Rattle.follow_numbers.specs.WideCode.{StandsAt}

module _ (setting : Setting) (compiled : IsCompiled setting) (state : State) (other : split.State) (match : StatesMatch setting state other) where
  stands_in : (frames : List Frame) (others : List SplitFrame) → state.frames ≡ frames → other.frames ≡ others → FramesFit setting.world setting.tables state.objects frames → FramesMatch setting frames others
      → (instruction : Op) × StandsAt setting state other instruction
  stands_in [] others is split_is fits frames = absurd fits
  stands_in (frame ∷ rest) [] is split_is fits frames = absurd frames
  stands_in (frame ∷ rest) (held ∷ others) is split_is fits frames =
      let youngest = frames.0 in
      let found = found_body setting.world.bodies frame.method youngest.body youngest.found in
      let young = fits.0 in
      let known : table_for setting youngest.body frame.pc ≡ _ = ap (λ id. setting.tables id frame.pc) found.method ∙ young.known in
      let Right : Body → Type 0 = λ b. IsRight setting.world.files b (table_for setting b) in
      let right = All-contains Right setting.world.bodies youngest.body (All-from_recursion Right setting.world.bodies compiled.typed.types) found.of_set in
      let there = start_has_op youngest.body.ops frame.pc (right.only frame.pc young.types known).0 in (
        there.0,
        record {
          match = match;
          frame = frame;
          frames = rest;
          split = held;
          others = others;
          frames_are = is;
          others_are = split_is;
          youngest = youngest;
          waiting = frames.1;
          at = there.1;
        },
      )

  pub youngest_stands_at : (instruction : Op) × StandsAt setting state other instruction
  youngest_stands_at = stands_in state.frames other.frames refl refl match.fits.frames match.frames
