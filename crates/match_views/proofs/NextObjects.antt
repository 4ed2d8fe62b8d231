-- Objects that match when some are read, placed or changed, and states with them.
use Rattle.std.proofs.Common.{◌≡◌, ℕ, zero, suc, List, [], ◌∷◌, ◌++◌, Some, refl, subst}
use Rattle.std.specs.Prelude.{slice_get, slice_set}
use Rattle.std.proofs.lemmas.Option.{same_Some}
use Rattle.jvm_model.specs.Bodies.{AreEach}
use Rattle.mote_model.specs.State.{Object as SplitObject}
use Rattle.mote_model.specs.SplitState as split
use Rattle.typed_machine.specs.TypedState.{Object, State, with_objects, with_object}
use Rattle.type_safety.specs.Fitting.{StateFits}
use Rattle.match_states.specs.Setting.{Setting}
use Rattle.match_states.specs.MatchedObjects.{ObjectMatches, ObjectsMatch}
use Rattle.match_states.specs.Followed.{StatesMatch}

-- ---- lists whose items match

module _ {X Y : Type 0} (R : X → Y → Type 0) where
  pub each_joined : (xs : List X) (ys : List Y) (us : List X) (vs : List Y) → AreEach R xs ys → AreEach R us vs → AreEach R (xs ++ us) (ys ++ vs)
  each_joined [] [] us vs first second = second
  each_joined [] (y ∷ ys) us vs first second = absurd first
  each_joined (x ∷ xs) [] us vs first second = absurd first
  each_joined (x ∷ xs) (y ∷ ys) us vs first second = (first.0, each_joined xs ys us vs first.1 second)

  pub each_changed : (xs : List X) (ys : List Y) → AreEach R xs ys → (i : ℕ) (x : X) (y : Y) → R x y → AreEach R (slice_set xs i x) (slice_set ys i y)
  each_changed [] [] each i x y here = tt
  each_changed [] (b ∷ ys) each i x y here = absurd each
  each_changed (a ∷ xs) [] each i x y here = absurd each
  each_changed (a ∷ xs) (b ∷ ys) each zero x y here = (here, each.1)
  each_changed (a ∷ xs) (b ∷ ys) each (suc i) x y here = (each.0, each_changed xs ys each.1 i x y here)

  -- where one list has an item, the other one has an item that matches it
  pub each_there : (xs : List X) (ys : List Y) → AreEach R xs ys → (i : ℕ) (x : X) → slice_get xs i ≡ Some x → (y : Y) × (slice_get ys i ≡ Some y) × R x y
  each_there [] [] each i x there = absurd cc
  each_there [] (b ∷ ys) each i x there = absurd each
  each_there (a ∷ xs) [] each i x there = absurd each
  each_there (a ∷ xs) (b ∷ ys) each zero x there = (b, refl, subst (λ item. R item b) (same_Some a x there) each.0)
  each_there (a ∷ xs) (b ∷ ys) each (suc i) x there = each_there xs ys each.1 i x there

-- ---- objects

module _ (setting : Setting) where
  -- an object of a name has one of the same name that matches it
  pub object_there : (objects : List Object) (others : List SplitObject) → ObjectsMatch setting objects others → (name : ℕ) (object : Object) → slice_get objects name ≡ Some object
      → (other : SplitObject) × (slice_get others name ≡ Some other) × ObjectMatches setting object other
  object_there objects others match name object there = each_there (ObjectMatches setting) objects others match name object there

  -- ---- states

  -- objects more of each that match, with frames that match
  pub states_with_objects : (state : State) (other : split.State) (objects : List Object) (others : List SplitObject) → StatesMatch setting state other → ObjectsMatch setting objects others
      → StateFits setting.world setting.tables (with_objects state objects) → StatesMatch setting (with_objects state objects) (split.with_objects other others)
  states_with_objects state other objects others match placed fits =
      record { fits = fits; frames = match.frames; objects = each_joined (ObjectMatches setting) state.objects other.objects objects others match.objects placed; statics = match.statics; answers = match.answers }

  -- another object of a name of each that match
  pub states_with_object : (state : State) (other : split.State) (name : ℕ) (object : Object) (held : SplitObject) → StatesMatch setting state other → ObjectMatches setting object held
      → StateFits setting.world setting.tables (with_object state name object) → StatesMatch setting (with_object state name object) (split.with_object other name held)
  states_with_object state other name object held match matched fits =
      record { fits = fits; frames = match.frames; objects = each_changed (ObjectMatches setting) state.objects other.objects match.objects name object held matched; statics = match.statics; answers = match.answers }
