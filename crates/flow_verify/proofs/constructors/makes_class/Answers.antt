-- The instruction at a pc is the one at its position.
use Rattle.std.proofs.Common.{sym, ap, refl, ◌∙◌, ℕ, Some}
use Rattle.body_form.specs.declared.op.Op.{Op}
use Rattle.jvm_model.specs.TypesRules.{makes_class}
use Rattle.flow_verify.proofs.families.Placed.{op_found, op_none}
use Rattle.flow_verify.proofs.constructors.makes_class.Goals as goal

pub returns-in-Some : goal.returns-in-Some
returns-in-Some c =
    let k = c.in-Some in
    let found = op_found c.args.body.now.ops c.as_slice.result.now c.as_slice.ensures.rise c.as_slice.ensures.all k.position c.args.pc k.ensures.found.0 k.ensures.found.1 c.index-as_slice-position.result c.index-as_slice-position.is in
    c.is_new_of.ensures ∙ ap (λ (x : ℕ × Op). makes_class c.args.class (Some x.1)) (sym c.index-as_slice-position.is) ∙ ap (makes_class c.args.class) (sym found)

pub returns-in-None : goal.returns-in-None
returns-in-None c = ap (makes_class c.args.class) (sym (op_none c.args.body.now.ops c.args.pc (c.in-None.ensures.none refl)))
