-- Typed code is never stuck: from a state that fits there is a move, and the next state fits.
use Rattle.std.specs.Prelude.{◌≡◌, ℕ, List, Some, None}
use Rattle.std.specs.List.{AllByRecursion}
use Rattle.account.specs.Account.{Event, Need, Does, Stops, Stuck}
use Rattle.class_pool.specs.declared.types.MemberId.{MemberId}
use Rattle.class_tree.specs.Tree.{Gathers}
use Rattle.body_form.specs.declared.body.Body.{Body}
use Rattle.jvm_model.specs.Bodies.{AreBodies}
use Rattle.jvm_model.specs.ClosedSet.{records_of}
use Rattle.jvm_model.specs.Linking.{Linking}
use Rattle.jvm_model.specs.Phases.{MethodCode}
use Rattle.jvm_model.specs.TypesRight.{IsRight}
use Rattle.typed_machine.specs.TypedMoves.{TypedMove}
use Rattle.typed_machine.specs.TypedState.{State}
use Rattle.typed_machine.specs.TypedStep.{move}
use Rattle.typed_machine.specs.TypedWorld.{World}
use Rattle.type_safety.specs.Facts.{SetFacts}
use Rattle.type_safety.specs.Fitting.{Tables, StateFits}

-- ---- the law

-- the method of a body
abbrev pub method_of : Body → MemberId
method_of body = record { class = body.class; member = body.method }

-- a right table of types for each body
abbrev pub AreTyped : World → Tables → Type 0
AreTyped world tables = AllByRecursion (λ body. IsRight world.files body (tables (method_of body))) world.bodies

-- A set whose phases up to that of types have no refusal, with its bodies and a right table of types for each.
pub record IsTyped (files : List (List ℕ)) (world : World) (tables : Tables) : Type 0 where
  pub records : records_of files ≡ Some world.files
  pub codes : MethodCode files None
  pub closed : Gathers world.files None
  pub linked : Linking world.files None
  pub bodies : AreBodies world.files world.bodies
  pub types : AreTyped world tables

-- a move of typed code: it is not stuck, and a state to which it goes on fits
abbrev pub MoveFits : World → Tables → TypedMove → Type 0
MoveFits world tables (Does need events next) = StateFits world tables next
MoveFits world tables (Stops need events ending) = Unit {0}
MoveFits world tables Stuck = ⊥

-- moves go on from a state to a later one, or to itself by none
pub data GoesOnTo (world : World) : State → State → Type 0 where
  Here : {state : State} → GoesOnTo world state state
  Next : {state later : State} (need : Need) (events : List Event) (next : State) → move world state ≡ Does need events next → GoesOnTo world next later → GoesOnTo world state later

-- a state that fits, whose move does
pub record IsSafe (world : World) (tables : Tables) (state : State) : Type 0 where
  pub fits : StateFits world tables state
  pub moves : MoveFits world tables (move world state)

-- In a set whose phases up to that of types have no refusal, moves from a state that fits lead only to states that fit,
-- and from none of them is the machine stuck.
abbrev pub TypedCodeIsSafe : Type 0
TypedCodeIsSafe = (files : List (List ℕ)) (world : World) (tables : Tables) → IsTyped files world tables → (first : State) → StateFits world tables first → (later : State) → GoesOnTo world first later → IsSafe world tables later

-- ---- its parts: a set gives facts, and facts keep states safe

-- a closed set of which the facts hold, with a right table of types for each body
pub record IsSet (world : World) (tables : Tables) : Type 0 where
  pub closed : Gathers world.files None
  pub facts : SetFacts world
  pub types : AreTyped world tables

-- from a state that fits there is a move, and the next state fits
abbrev pub FactsKeepSafe : Type 0
FactsKeepSafe = (world : World) (tables : Tables) → IsSet world tables → (state : State) → StateFits world tables state → MoveFits world tables (move world state)

-- the phases of a set give what typed code stands on
abbrev pub PhasesGiveFacts : Type 0
PhasesGiveFacts = (files : List (List ℕ)) (world : World) (tables : Tables) → IsTyped files world tables → SetFacts world
