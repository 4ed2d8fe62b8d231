-- Where runs of typed code start.
use Rattle.std.specs.Prelude.{◌≡◌, ℕ, false, List, [], Some, None}
use Rattle.dialogue.specs.Answers.{Answers}
use Rattle.body_form.specs.declared.body.Body.{Body}
use Rattle.jvm_model.specs.Entry.{entry_of}
use Rattle.typed_machine.specs.TypedRun.{start_state}
use Rattle.typed_machine.specs.TypedWorld.{World, body_among}
use Rattle.type_safety.specs.Fitting.{Tables, StateFits}
use Rattle.type_safety.specs.Safety.{IsTyped}

-- main has a body, takes nothing and gives nothing, and the state in which it starts fits its types
pub record HasStart (world : World) (tables : Tables) : Type 0 where
  pub main : Body
  pub found : body_among world.bodies world.main ≡ Some main
  pub static : main.instance ≡ false
  pub params : main.params ≡ []
  pub result : main.result ≡ None
  pub fits : (answers : Answers) → StateFits world tables (start_state world main answers)

-- a set whose phases up to that of types have no refusal, with its entry as main, has such a start
abbrev pub StartsFit : Type 0
StartsFit = (files : List (List ℕ)) (world : World) (tables : Tables) → IsTyped files world tables → entry_of world.files ≡ Some world.main → HasStart world tables
