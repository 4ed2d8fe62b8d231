-- An instruction in a state that fits: it goes on, jumps or throws, with the operands that its rule takes.
use Rattle.std.proofs.Common.{◌≡◌, ℕ, Bool, true, List, [], ◌∷◌, ◌++◌, Some, refl, subst}
use Rattle.std.specs.List.{Contains}
use Rattle.body_form.specs.declared.body.Body.{Body}
use Rattle.body_form.specs.declared.op.Op.{Op}
use Rattle.body_form.specs.declared.types.VFrame.{VFrame}
use Rattle.body_form.specs.declared.types.VType.{VType}
use Rattle.body_form.specs.Flow.{targets}
use Rattle.body_form.specs.Flow as flow
use Rattle.jvm_model.specs.Bodies.{AreEach}
use Rattle.jvm_model.specs.State.{Value}
use Rattle.jvm_model.specs.TypesRules.{Change, changed, plain}
use Rattle.typed_machine.specs.TypedMoves.{goes_on, jumps, branches, throws, no_need}
use Rattle.typed_machine.specs.TypedState.{Frame, State}
use Rattle.typed_machine.specs.TypedWorld.{World, pc_after}
use Rattle.type_safety.specs.Fitting.{Tables, ValueFits, LocalFits, FrameFits, StateFits}
use Rattle.type_safety.specs.Parts.{StandsAt}
use Rattle.type_safety.specs.Safety.{IsSet, MoveFits}
use Rattle.type_safety.proofs.fitting.MachineThrows.{IsThrowable}
use Rattle.type_safety.proofs.moves.Moving.{IsLeft, FitsAfter, next_fits, jump_fits, branch_fits}
use Rattle.type_safety.proofs.fitting.Operands.{Passes, IsPlain, plain_by, pushed}
use Rattle.type_safety.proofs.fitting.SetBodies.{IsChange, change_by}
use Rattle.type_safety.proofs.fitting.Standing.{frames_fit}
use Rattle.type_safety.proofs.fitting.Throwing.{throws_fit}

-- an instruction in the youngest frame of a state that fits
pub record IsAt (world : World) (tables : Tables) (state : State) (frame : Frame) (others : List Frame) (body : Body) (instruction : Op) (types after : VFrame) : Type 0 where
  pub set : IsSet world tables
  pub is : state.frames ≡ frame ∷ others
  pub fits : StateFits world tables state
  pub stands : StandsAt world tables frame body instruction types after
  pub has : FrameFits world state.objects body frame types

module _ {world : World} {tables : Tables} {state : State} {frame : Frame} {others : List Frame} {body : Body} {instruction : Op} {types after : VFrame}
    (at : IsAt world tables state frame others body instruction types after) where
  abbrev pub AreFit : List Value → List VType → Type 0
  AreFit values stack = AreEach (ValueFits world state.objects body) values stack

  abbrev pub AreLeft : Frame → List Value → Type 0
  AreLeft moved operands = FitsAfter world state.objects body frame after moved operands

  abbrev pub IsPassed : Value → (VType → Bool) → Type 0
  IsPassed value test = Passes world state.objects body value test

  pub change_at : IsChange world.files body frame.pc instruction types after
  change_at = change_by world.files body frame.pc instruction types after at.stands.rule

  left : IsLeft world tables state frame others
  left = record { objects = at.fits.objects; statics = at.fits.statics; wait = (frames_fit world tables state frame others at.is at.fits).1 }

  -- ---- ways on

  pub goes : flow.goes_on instruction ≡ true → (moved : Frame) (operands : List Value) → AreLeft moved operands
      → MoveFits world tables (goes_on state moved others (pc_after body.ops frame.pc) operands)
  goes is moved operands fit = next_fits world tables at.set frame body instruction types after at.stands state others left is no_need [] moved operands fit

  pub jump : (target : ℕ) → Contains (targets instruction) target → (operands : List Value) → AreLeft frame operands → MoveFits world tables (jumps state frame others target operands)
  jump target among operands fit = jump_fits world tables at.set frame body instruction types after at.stands state others left target among frame operands fit

  pub branch : flow.goes_on instruction ≡ true → (taken : Bool) (target : ℕ) → Contains (targets instruction) target → (operands : List Value) → AreLeft frame operands
      → MoveFits world tables (branches taken state frame others target (pc_after body.ops frame.pc) operands)
  branch is taken target among operands fit = branch_fits world tables at.set frame body instruction types after at.stands state others left is taken target among frame operands fit

  pub machine_throws : (class : ℕ) → IsThrowable world class → MoveFits world tables (throws world state (frame ∷ others) class)
  machine_throws class thrown =
      subst (λ frames. MoveFits world tables (throws world state frames class)) at.is (throws_fit world tables at.set state at.fits class thrown.concrete thrown.throwable)

  -- ---- operands that plain rules take

  abbrev Plain : List (VType → Bool) → List VType → Type 0
  Plain tests pushes = IsPlain world state.objects body frame types after at.has at.stands.of_set.stack tests pushes

  -- what is left where values are pushed
  abbrev pub Pushes : List VType → List Value → Type 0
  Pushes pushes rest = (values : List Value) → AreFit values pushes → AreLeft frame (values ++ rest)

  plain_at : (tests : List (VType → Bool)) (pushes : List VType) (change : Change) → plain types tests pushes ≡ Some change → changed change types ≡ after → Plain tests pushes
  plain_at tests pushes change is reached = plain_by world state.objects body frame types after at.has at.stands.of_set.stack tests pushes change is reached

  none_case : (values rest operands : List Value) → values ++ rest ≡ operands → AreEach IsPassed values [] → rest ≡ operands
  none_case [] rest operands is each = is
  none_case (x ∷ values) rest operands is each = absurd each

  one_case : (test : VType → Bool) (P : List Value → Type 0) (values rest : List Value) → AreEach IsPassed values (test ∷ []) → ((x : Value) → IsPassed x test → P (x ∷ rest)) → P (values ++ rest)
  one_case test P [] rest each go = absurd each
  one_case test P (x ∷ []) rest each go = go x each.0
  one_case test P (x ∷ y ∷ values) rest each go = absurd each.1

  two_case : (first second : VType → Bool) (P : List Value → Type 0) (values rest : List Value) → AreEach IsPassed values (first ∷ second ∷ [])
      → ((x y : Value) → IsPassed x first → IsPassed y second → P (x ∷ y ∷ rest)) → P (values ++ rest)
  two_case first second P [] rest each go = absurd each
  two_case first second P (x ∷ []) rest each go = absurd each.1
  two_case first second P (x ∷ y ∷ []) rest each go = go x y each.0 each.1.0
  two_case first second P (x ∷ y ∷ z ∷ values) rest each go = absurd each.1.1

  -- none is taken
  pub takes_none : (pushes : List VType) (change : Change) → plain types [] pushes ≡ Some change → changed change types ≡ after → (moved : Frame) → moved.method ≡ frame.method
      → AreEach (LocalFits world state.objects body) moved.locals types.locals → (values : List Value) → AreFit values pushes → AreLeft moved (values ++ frame.operands)
  takes_none pushes change is reached moved method locals values fits =
      let p = plain_at [] pushes change is reached in
      let same : p.taken.rest ≡ frame.operands = none_case p.taken.values p.taken.rest frame.operands p.taken.is p.taken.each in
      subst (λ rest. AreLeft moved (values ++ rest)) same (pushed world state.objects body frame types after at.has at.stands.of_set.stack [] pushes p moved method locals values fits)

  -- what holds of a value that passes a test, and others, holds of the operands of a rule that takes one
  pub takes_one : (test : VType → Bool) (pushes : List VType) (change : Change) → plain types (test ∷ []) pushes ≡ Some change → changed change types ≡ after → (P : List Value → Type 0)
      → ((x : Value) (rest : List Value) → IsPassed x test → Pushes pushes rest → P (x ∷ rest)) → P frame.operands
  takes_one test pushes change is reached P go =
      let p = plain_at (test ∷ []) pushes change is reached in
      let rest = p.taken.rest in
      let push : Pushes pushes rest =
      λ values fits. pushed world state.objects body frame types after at.has at.stands.of_set.stack (test ∷ []) pushes p frame refl at.has.locals values fits in
      subst P p.taken.is (one_case test P p.taken.values rest p.taken.each (λ x passes. go x rest passes push))

  pub takes_two : (first second : VType → Bool) (pushes : List VType) (change : Change) → plain types (first ∷ second ∷ []) pushes ≡ Some change → changed change types ≡ after → (P : List Value → Type 0)
      → ((x y : Value) (rest : List Value) → IsPassed x first → IsPassed y second → Pushes pushes rest → P (x ∷ y ∷ rest)) → P frame.operands
  takes_two first second pushes change is reached P go =
      let p = plain_at (first ∷ second ∷ []) pushes change is reached in
      let rest = p.taken.rest in
      let push : Pushes pushes rest =
      λ values fits. pushed world state.objects body frame types after at.has at.stands.of_set.stack (first ∷ second ∷ []) pushes p frame refl at.has.locals values fits in
      subst P p.taken.is (two_case first second P p.taken.values rest p.taken.each (λ x y one two. go x y rest one two push))
