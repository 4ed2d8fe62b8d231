-- Statics, fields and objects of the typed machine: what goes on lowers the rank.
use Rattle.std.proofs.Common.{ℕ, List, [], ◌∷◌, length, Option, Some, None, refl}
use Rattle.account.specs.Account.{Stuck}
use Rattle.class_pool.specs.declared.types.TypeBase.{TypeBase}
use Rattle.class_pool.specs.declared.types.TypeBase.TheVariants as base
use Rattle.class_pool.specs.declared.types.TypeRef.{TypeRef}
use Rattle.body_form.specs.declared.op.FieldUse.{FieldUse}
use Rattle.jvm_model.specs.State.{Value, Whole, Null, Name}
use Rattle.typed_machine.specs.TypedCalls.{kept_as}
use Rattle.typed_machine.specs.TypedMoves.{TypedMove, place_need, goes_on, caught, throws, class_cast_exception}
use Rattle.typed_machine.specs.TypedState.{Object, Instance, Elements, Frame, State, with_objects, with_object, with_static, with_field}
use Rattle.typed_machine.specs.TypedStep.{read_static, write_static, read_of, read_field, write_to, write_field, make, throw_class, throw, is_of_type, cast, one_where, test}
use Rattle.typed_machine.specs.TypedWorld.{World, new_object, object_cells}
use Rattle.run_measures.proofs.Lowering.{Lowers, stuck, either, mapped_or}
use Rattle.run_measures.proofs.TypedRank.{rank_of, IsAhead}
use Rattle.run_measures.proofs.TypedForms.{rank_in, searched, thrown, of_object, goes, on}

module _ {world : World} {frame : Frame} {next : Option ℕ} (ahead : IsAhead world frame next) (others : List Frame) (state : State) where
  abbrev Lower : TypedMove → Type 0
  Lower move = Lowers (rank_in world) (rank_of world (frame ∷ others)) move

  -- ---- statics and fields

  pub read_static_lowers : (found : Option Value) → Lower (read_static state frame others next found)
  read_static_lowers None = stuck
  read_static_lowers (Some value) = on ahead others state frame (value ∷ frame.operands) refl

  pub write_static_lowers : (used : FieldUse) (operands : List Value) → Lower (write_static state frame others next used operands)
  write_static_lowers used [] = stuck
  write_static_lowers used (value ∷ operands) =
      mapped_or (state.statics used.field) (λ (old : Value). goes_on (with_static state used.field (kept_as used.kind value)) frame others next operands) Stuck
      (λ old. on ahead others (with_static state used.field (kept_as used.kind value)) frame operands refl) stuck

  pub read_of_lowers : (used : FieldUse) (operands : List Value) (object : Object) → Lower (read_of state frame others next used operands object)
  read_of_lowers used operands (Instance class fields) =
      mapped_or (fields used.field) (λ value. goes_on state frame others next (value ∷ operands)) Stuck (λ value. on ahead others state frame (value ∷ operands) refl) stuck
  read_of_lowers used operands (Elements array elements) = stuck

  pub read_field_lowers : (used : FieldUse) (operands : List Value) → Lower (read_field world state frame others next used operands)
  read_field_lowers used [] = stuck
  read_field_lowers used (reference ∷ operands) =
      of_object world state (frame ∷ others) reference (λ name object. read_of state frame others next used operands object) (λ name object. read_of_lowers used operands object)

  pub write_to_lowers : (used : FieldUse) (value : Value) (operands : List Value) (name : ℕ) (object : Object) → Lower (write_to state frame others next used value operands name object)
  write_to_lowers used value operands name (Instance class fields) =
      let written = with_object state name (Instance class (with_field fields used.field (kept_as used.kind value))) in
      mapped_or (fields used.field) (λ (old : Value). goes_on written frame others next operands) Stuck (λ old. on ahead others written frame operands refl) stuck
  write_to_lowers used value operands name (Elements array elements) = stuck

  pub write_field_lowers : (used : FieldUse) (operands : List Value) → Lower (write_field world state frame others next used operands)
  write_field_lowers used (value ∷ reference ∷ operands) =
      of_object world state (frame ∷ others) reference (λ name object. write_to state frame others next used value operands name object) (λ name object. write_to_lowers used value operands name object)
  write_field_lowers used operands = stuck

  -- ---- objects

  pub make_lowers : (of : TypeBase) → Lower (make world state frame others next of)
  make_lowers (base.Class class) =
      goes ahead others (place_need (object_cells world.files class)) [] (with_objects state (new_object world.files class ∷ [])) frame (Name (length state.objects) ∷ frame.operands) refl
  make_lowers of = stuck

  pub throw_class_lowers : (name : ℕ) (object : Object) → Lower (throw_class world state (frame ∷ others) name object)
  throw_class_lowers name (Instance class fields) = searched None state class (caught world class name (frame ∷ others))
  throw_class_lowers name (Elements array elements) = stuck

  pub throw_lowers : (operands : List Value) → Lower (throw world state frame others operands)
  throw_lowers [] = stuck
  throw_lowers (reference ∷ operands) = of_object world state (frame ∷ others) reference (λ name object. throw_class world state (frame ∷ others) name object) throw_class_lowers

  pub cast_lowers : (type : TypeRef) (operands : List Value) → Lower (cast world state frame others next type operands)
  cast_lowers type [] = stuck
  cast_lowers type (Whole number ∷ operands) = stuck
  cast_lowers type (Null ∷ operands) = on ahead others state frame (Null ∷ operands) refl
  cast_lowers type (Name name ∷ operands) =
      either (is_of_type world state type (Name name)) (goes_on state frame others next (Name name ∷ operands)) (throws world state (frame ∷ others) class_cast_exception)
      (on ahead others state frame (Name name ∷ operands) refl) (thrown world state (frame ∷ others) class_cast_exception)

  pub test_lowers : (type : TypeRef) (operands : List Value) → Lower (test world state frame others next type operands)
  test_lowers type [] = stuck
  test_lowers type (Whole number ∷ operands) = stuck
  test_lowers type (Null ∷ operands) = on ahead others state frame (one_where (is_of_type world state type Null) ∷ operands) refl
  test_lowers type (Name name ∷ operands) = on ahead others state frame (one_where (is_of_type world state type (Name name)) ∷ operands) refl
