use Rattle.std.proofs.Common.{rules, ◌≡◌, ◌≢◌, ◌≤◌, ℕ, inl, inr, length, subst, ◌∙◌, arith}
use Rattle.image_form.specs.declared.record.Image.{Image}
use Rattle.image_form.specs.declared.record.Method.{Method}
use Rattle.image_check.specs.declared.refusal.CheckCause.{CheckCause}
use Rattle.image_check.specs.declared.refusal.CheckCause.TheVariants.{Memory}
use Rattle.image_check.specs.Checked.{IsCheckedMethod}
use Rattle.image_check.specs.Refused.{FailsIn}
use Rattle.image_check.proofs.Methods.{all_read, is_method, method_is, one_more}
use Rattle.image_check.proofs.verdict.check_methods.Goals as goal

pub check_method-requires-clause-some : goal.check_method-requires-clause-some
check_method-requires-clause-some c =
    (method_is c.args.image.now c.as_slice-method-items.result.now c.as_slice-method-items.ensures c.loop-index.index c.method-item.result c.loop-index-test.true c.method-item.is c.requires.image).code_some

pub check_method-requires-clause-small : goal.check_method-requires-clause-small
check_method-requires-clause-small c =
    let fits = (method_is c.args.image.now c.as_slice-method-items.result.now c.as_slice-method-items.ensures c.loop-index.index c.method-item.result c.loop-index-test.true c.method-item.is c.requires.image).code_fits in
    omega (arith, fits)

-- a cause at which a rule fails is not want of memory
no_memory : (image : Image) (method : Method) (cause : CheckCause) (pc : ℕ) → FailsIn image method cause pc → cause ≢ Memory
no_memory image method cause pc fails = λ is. subst (λ (c : CheckCause). FailsIn image method c pc) is fails

pub returns-in-Err-check_method-clause-refused : goal.returns-in-Err-check_method-clause-refused
returns-in-Err-check_method-clause-refused c =
    let image = c.args.image.now in
    let method = c.method-item.result in
    let fault = c.in-Err-check_method.fault in
    elim c.in-Err-check_method.ensures.refused [
      | inl memory ↦ inl (c.refusal_of-in-Err-check_method.ensures.cause ∙ memory)
      | inr rule ↦
          let place = c.refusal_of-in-Err-check_method.ensures.place (no_memory image method fault.cause fault.pc rule) in
          let here = is_method image c.as_slice-method-items.result.now c.as_slice-method-items.ensures c.loop-index.index method c.loop-index-test.true c.method-item.is in
          inr (record { form = c.requires.form; method = method; is_method = rw place.0 (search (rules, here)); own = rw place.0 (search rules); fails = rw (c.refusal_of-in-Err-check_method.ensures.cause, place.1) rule })
    ]

pub loop-index-preserved : goal.loop-index-preserved
loop-index-preserved c =
    one_more c.args.image.now c.as_slice-method-items.result.now c.as_slice-method-items.ensures c.loop-index.index c.method-item.result c.loop-index-test.true c.method-item.is (IsCheckedMethod c.args.image.now) c.loop-index.invariant c.in_default.ensures.checked

pub returns-clause-checked : goal.returns-clause-checked
returns-clause-checked c = all_read c.args.image.now c.as_slice-method-items.result.now c.as_slice-method-items.ensures c.loop-index.index c.loop-index-test.false (IsCheckedMethod c.args.image.now) c.loop-index.invariant
