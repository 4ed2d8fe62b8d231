-- Runs of a set on the typed machine.
use Rattle.std.specs.Prelude.{ℕ, List, [], ◌∷◌, Option, Some, None, option_map}
use Rattle.std.specs.List.{find}
use Rattle.dialogue.specs.Answers.{Answers}
use Rattle.class_pool.specs.declared.types.MemberId.{MemberId}
use Rattle.class_file.specs.declared.record.ClassFile.{ClassFile}
use Rattle.body_form.specs.declared.body.Body.{Body}
use Rattle.jvm_model.specs.InitialStatics.{initial_statics}
use Rattle.jvm_model.specs.State.{Value}
use Rattle.account.specs.Account.{Event, Bounds, Standing, Ends, Settled, Lost}
use Rattle.account.specs.Run.{begins, EndsSo}
use Rattle.typed_machine.specs.TypedCalls.{frame_for}
use Rattle.typed_machine.specs.TypedMoves.{Ending}
use Rattle.typed_machine.specs.TypedState.{Fields, State, is_member}
use Rattle.typed_machine.specs.TypedView.{machine}
use Rattle.typed_machine.specs.TypedWorld.{World, body_among}

-- what static fields hold before main starts
abbrev pub statics_of : List ClassFile → Fields
statics_of files member = option_map (λ (field : MemberId × Value). field.1) (find (λ (field : MemberId × Value). is_member member field.0) (initial_statics files))

-- main's frame without arguments, no objects, all of the answers
abbrev pub start_state : World → Body → Answers → State
start_state world main answers =
    record { frames = frame_for world.main main [] ∷ []; objects = []; statics = statics_of world.files; answers = answers }

abbrev pub start_main : World → Bounds → Answers → Option Body → Settled State Ending
start_main world bounds answers None = Lost
start_main world bounds answers (Some main) = begins bounds (world.frame_cells world.main) 0 (start_state world main answers)

-- where a run begins: main's frame is tested first, with no cell in use
abbrev pub start_of : World → Bounds → Answers → Settled State Ending
start_of world bounds answers = start_main world bounds answers (body_among world.bodies world.main)

-- the run of a set within bounds, whose gets are answered so, ends so
abbrev pub Runs : World → Bounds → Answers → List Event → Standing State → Ends Ending → Type 0
Runs world bounds answers events last how = EndsSo (machine world) bounds (start_of world bounds answers) events last how
