-- Each array among the types that the instructions of a body declare has a dimension, since they are read of descriptors.
use Rattle.std.proofs.Common.{◌≡◌, inl, inr, ℕ, false, Some, sym, subst}
use Rattle.std.specs.List.{AllByRecursion, Contains}
use Rattle.std.proofs.lemmas.Option.{none-some, same_Some}
use Rattle.library.specs.declared.natives.Native.{Native}
use Rattle.library.specs.declared.natives.Native.TheVariants as native
use Rattle.class_pool.specs.declared.descriptor.Kind.TheVariants as kind
use Rattle.class_pool.specs.Descriptors.{HasDims}
use Rattle.body_form.specs.declared.body.Body.{Body}
use Rattle.body_form.specs.declared.op.FieldUse.{FieldUse}
use Rattle.body_form.specs.declared.op.MethodUse.{MethodUse}
use Rattle.body_form.specs.declared.op.Op.{Op}
use Rattle.body_form.specs.declared.op.Op.TheVariants as op
use Rattle.jvm_model.specs.Bodies.{AreBodies}
use Rattle.jvm_model.specs.TypesRules.{op_at}
use Rattle.type_safety.proofs.fitting.NewObject.{IsOfNames}
use Rattle.type_safety.specs.Facts.{BodyFacts, IsStaticField, Named, Runs, params_of, result_of}
use Rattle.match_states.specs.Setting.{IsCompiled, Setting}
use Rattle.match_code.proofs.MatchedCode.{found_body}
use Rattle.follow_calls.proofs.DeclaredParameters.{bodies_declared}
use Rattle.follow_calls.proofs.DeclaredStatics.{static_named}
use Rattle.set_runs.proofs.DeclaredResults.{results_declared}
use Rattle.image_rules.specs.Parts.{HaveDims, ResultHasDims}

-- ---- natives

native_params : (found : Native) → AllByRecursion HasDims (params_of found)
native_params native.Construct = tt
native_params native.Write = (tt, tt)
native_params native.Read = tt
native_params native.Print = (tt, tt)

native_result : (found : Native) → ResultHasDims (result_of found)
native_result native.Construct k is = absurd (none-some k is)
native_result native.Write k is = absurd (none-some k is)
native_result native.Read k is = subst HasDims (same_Some kind.Int k is) tt
native_result native.Print k is = absurd (none-some k is)

module _ (setting : Setting) (compiled : IsCompiled setting) (bodies : AreBodies setting.world.files setting.world.bodies) where
  static_dims : (used : FieldUse) → IsStaticField setting.world used → HasDims used.kind
  static_dims used named =
      let of = subst (IsOfNames setting.world.files) named.kind (static_named setting.world.files compiled.typed.closed used.field named.field named.is) in
      of.dims

  called_dims : (used : MethodUse) → Runs setting.world used.method used false → AllByRecursion HasDims used.descriptor.params × ResultHasDims used.descriptor.result
  called_dims used (inl run) =
      (subst (AllByRecursion HasDims) (sym run.params) (native_params run.found), subst ResultHasDims (sym run.result) (native_result run.found))
  called_dims used (inr run) =
      let among = (found_body setting.world.bodies used.method run.body run.found).of_set in
      (subst (AllByRecursion HasDims) run.params (bodies_declared setting bodies run.body among), subst ResultHasDims run.result (results_declared setting.world.files setting.world.bodies bodies run.body among))

  module _ (body : Body) (among : Contains setting.world.bodies body) where
    of_named : (instruction : Op) → Named setting.world body.class instruction → HaveDims body.result instruction
    of_named (op.Return of) named = results_declared setting.world.files setting.world.bodies bodies body among
    of_named (op.GetStatic used) named = static_dims used named
    of_named (op.PutStatic used) named = static_dims used named
    of_named (op.CallStatic used) named = called_dims used named
    of_named instruction named = tt

    pub dims_declared : BodyFacts setting.world body → (pc : ℕ) (instruction : Op) → op_at body.ops pc ≡ Some instruction → HaveDims body.result instruction
    dims_declared facts pc instruction at = of_named instruction (facts.named pc instruction at)
