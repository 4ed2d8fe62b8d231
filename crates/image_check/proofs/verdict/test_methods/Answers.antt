use Rattle.std.proofs.Common.{rules, ◌≡◌, ◌≢◌, ℕ, subst, ◌∙◌, inl, inr, arith}
use Rattle.image_form.specs.declared.record.Image.{Image}
use Rattle.image_form.specs.declared.record.Method.{Method}
use Rattle.image_check.specs.declared.refusal.CheckCause.{CheckCause}
use Rattle.image_check.specs.declared.refusal.CheckCause.TheVariants.{Memory, Unbuilt}
use Rattle.image_check.specs.Checked.{IsBuiltMethod}
use Rattle.image_check.specs.Refused.{FailsIn}
use Rattle.image_check.proofs.Methods.{all_read, is_method, method_is, one_more}
use Rattle.image_check.proofs.verdict.test_methods.Goals as goal

-- a cause at which a rule fails is not want of memory
no_memory : (image : Image) (method : Method) (cause : CheckCause) (pc : ℕ) → FailsIn image method cause pc → cause ≢ Memory
no_memory image method cause pc fails = λ is. subst (λ (c : CheckCause). FailsIn image method c pc) is fails

not_memory : (cause : CheckCause) → cause ≡ Unbuilt → cause ≢ Memory
not_memory cause is = search rules

pub returns-in-Err-clause-refused : goal.returns-in-Err-clause-refused
returns-in-Err-clause-refused c =
    let image = c.args.image.now in
    let method = c.method-item.result in
    let fault = c.in-Err.fault in
    let here = is_method image c.as_slice-method-items.result.now c.as_slice-method-items.ensures c.loop-index.index method c.loop-index-test.true c.method-item.is in
    elim (c.in-Err.ensures.refused image) [
      | inl fails ↦ elim fails [
        | inl memory ↦ inl (c.refusal_of.ensures.cause ∙ memory)
        | inr rule ↦
            let place = c.refusal_of.ensures.place (no_memory image method fault.cause fault.pc rule) in
            inr (inl (record { form = c.requires.form; method = method; is_method = rw place.0 (search (rules, here)); own = rw place.0 (search rules); fails = rw (c.refusal_of.ensures.cause, place.1) rule }))
      ]
      | inr unbuilt ↦
          let place = c.refusal_of.ensures.place (not_memory fault.cause unbuilt.0) in
          inr (inr (record { form = c.requires.form; checked = c.requires.checked; method = method; is_method = rw place.0 (search (rules, here)); own = rw place.0 (search rules); cause = c.refusal_of.ensures.cause ∙ unbuilt.0; unbuilt = rw place.1 unbuilt.1 }))
    ]

pub test_built-requires : goal.test_built-requires
test_built-requires c =
    let fits = (method_is c.args.image.now c.as_slice-method-items.result.now c.as_slice-method-items.ensures c.loop-index.index c.method-item.result c.loop-index-test.true c.method-item.is c.requires.image).code_fits in
    omega (arith, fits)

pub loop-index-preserved : goal.loop-index-preserved
loop-index-preserved c =
    one_more c.args.image.now c.as_slice-method-items.result.now c.as_slice-method-items.ensures c.loop-index.index c.method-item.result c.loop-index-test.true c.method-item.is IsBuiltMethod c.loop-index.invariant c.in_default.ensures.built

pub returns-clause-built : goal.returns-clause-built
returns-clause-built c = all_read c.args.image.now c.as_slice-method-items.result.now c.as_slice-method-items.ensures c.loop-index.index c.loop-index-test.false IsBuiltMethod c.loop-index.invariant
