-- athrow: what is thrown is an object of a class below Throwable, or null.
use Rattle.std.proofs.Common.{◌≡◌, ℕ, zero, suc, ◌≤◌, true, false, inl, inr, List, [], ◌∷◌, Some, sym, subst, ◌∙◌, arith}
use Rattle.std.specs.Option.{option_map_or}
use Rattle.account.specs.Account.{Stuck}
use Rattle.class_pool.specs.declared.types.TypeRef.{TypeRef}
use Rattle.class_pool.specs.declared.types.TypeBase.{TypeBase}
use Rattle.class_pool.specs.declared.types.TypeBase.TheVariants.{Class}
use Rattle.class_tree.specs.Fits.{fits_ref}
use Rattle.class_tree.specs.MergeLaws.{IsKnown}
use Rattle.class_tree.specs.Subtypes.{IsType}
use Rattle.class_tree.proofs.merging.RefParts.{fits_at_class}
use Rattle.body_form.specs.declared.body.Body.{Body}
use Rattle.body_form.specs.declared.op.Op.TheVariants as op
use Rattle.body_form.specs.declared.types.VFrame.{VFrame}
use Rattle.body_form.specs.declared.types.VType.{VType}
use Rattle.body_form.specs.declared.types.VType.TheVariants as known
use Rattle.jvm_model.specs.State.{Value, Null}
use Rattle.jvm_model.specs.TypesRules.{fits_class}
use Rattle.typed_machine.specs.TypedMoves.{throws_object, object_at, with_object_of}
use Rattle.typed_machine.specs.TypedState.{Object, Instance, Elements, Frame, State}
use Rattle.typed_machine.specs.TypedStep as step
use Rattle.typed_machine.specs.TypedWorld.{World, type_of}
use Rattle.type_safety.specs.Fitting.{Tables, NamesObject, ValueFits, ObjectFits}
use Rattle.type_safety.specs.Safety.{MoveFits}
use Rattle.type_safety.proofs.fitting.FitsOver.{refs_over}
use Rattle.type_safety.proofs.moves.Going.{IsAt, change_at, machine_throws, takes_one}
use Rattle.type_safety.proofs.moves.Lemmas.{MoveLemma}
use Rattle.type_safety.proofs.fitting.MachineThrows.{null_thrown}
use Rattle.type_safety.proofs.fitting.Throwing.{object_throws_fit}
use Rattle.type_safety.proofs.fitting.Values.{all_at, are_of_set}

module _ (world : World) (tables : Tables) (state : State) (frame : Frame) (others : List Frame) (body : Body) (types after : VFrame)
    (at : IsAt world tables state frame others body op.Throw types after) where
  no_array : (dims : ℕ) (of : TypeBase) → 1 ≤ dims → fits_ref world.files dims of 0 (Class 1) ≡ true → ⊥
  no_array zero of some e = absurd (omega (arith, some))
  no_array (suc dims) of some e = let f : false ≡ true = sym (fits_at_class world.files (suc dims) of 1) ∙ e in cc

  throws_at : (name : ℕ) (object : Object) → object_at state name ≡ Some object → ObjectFits world state.objects object
      → fits_ref world.files (type_of object).dims (type_of object).base 0 (Class 1) ≡ true → MoveFits world tables (step.throw_class world state (frame ∷ others) name object)
  throws_at name (Instance class fields) there fit throwable =
      subst (λ frames. MoveFits world tables (throws_object world state frames class name)) at.is
      (object_throws_fit world tables at.set state at.fits class name fields there throwable)
  throws_at name (Elements array elements) there fit throwable = absurd (no_array array.dims array.base fit.1 throwable)

  reference_throws : (type : TypeRef) → IsType world.files type → fits_ref world.files type.dims type.base 0 (Class 1) ≡ true → (value : Value)
      → NamesObject state.objects value (λ object. fits_ref world.files (type_of object).dims (type_of object).base type.dims type.base ≡ true)
      → MoveFits world tables (with_object_of world state (frame ∷ others) value (λ name object. step.throw_class world state (frame ∷ others) name object))
  reference_throws type inside throwable value named =
      let object = named.object in
      let fit = all_at (ObjectFits world state.objects) state.objects at.fits.objects named.name object named.there in
      let of_set = are_of_set world state.objects at.fits.objects named.name object named.there in
      let up = refs_over world.files at.set.closed (type_of object).dims (type_of object).base type.dims type.base 0 (Class 1) of_set inside named.has throwable in
      subst (λ v. MoveFits world tables (with_object_of world state (frame ∷ others) v (λ name object. step.throw_class world state (frame ∷ others) name object))) (sym named.is)
      (subst (λ found. MoveFits world tables (option_map_or (λ object. step.throw_class world state (frame ∷ others) named.name object) found Stuck)) (sym named.there)
      (throws_at named.name object named.there fit up))

  null_throws : (value : Value) → value ≡ Null
      → MoveFits world tables (with_object_of world state (frame ∷ others) value (λ name object. step.throw_class world state (frame ∷ others) name object))
  null_throws value is =
      subst (λ v. MoveFits world tables (with_object_of world state (frame ∷ others) v (λ name object. step.throw_class world state (frame ∷ others) name object))) (sym is)
      (machine_throws at 5 (null_thrown world at.set.closed))

  value_throws : (value : Value) (type : VType) → IsKnown world.files type → fits_class world.files 1 type ≡ true → ValueFits world state.objects body value type
      → MoveFits world tables (with_object_of world state (frame ∷ others) value (λ name object. step.throw_class world state (frame ∷ others) name object))
  value_throws value known.Null inside passes fits = null_throws value fits
  value_throws value (known.Ref type) inside passes (inl null) = null_throws value null
  value_throws value (known.Ref type) inside passes (inr named) = reference_throws type inside passes value named
  value_throws value type inside passes fits = cc

pub throw_moves : MoveLemma op.Throw
throw_moves parts world tables set state frame others is fits body types after stands has =
    let at : IsAt world tables state frame others body op.Throw types after = record { set = set; is = is; fits = fits; stands = stands; has = has } in
    let by = change_at at in
    takes_one at (fits_class world.files 1) [] by.change by.is by.reached (λ operands. MoveFits world tables (step.throw world state frame others operands))
    (λ x rest passes push. value_throws world tables state frame others body types after at x passes.type passes.known passes.passes passes.fits)
