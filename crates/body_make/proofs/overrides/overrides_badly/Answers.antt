use Rattle.std.proofs.Common.{◌≡◌, false, Some, sym, ◌∙◌}
use Rattle.class_tree.specs.Members.{in_file}
use Rattle.class_tree.specs.Overriding.{overridden}
use Rattle.jvm_model.specs.Overrides.{is_special_name}
use Rattle.body_make.proofs.Overridden.{overridden_class, overrides_so}
use Rattle.body_make.proofs.overrides.overrides_badly.Goals as goal

pub is_bad_override-requires-clause-upper : goal.is_bad_override-requires-clause-upper
is_bad_override-requires-clause-upper c = overridden_class c.args.set.now c.text_at-name.result.now c.text_at.result.now c.args.class c.in-Some.upper c.in-Some.ensures

pub returns-in-Some : goal.returns-in-Some
returns-in-Some c =
    let method = in_file c.args.pool.now c.args.method.now in
    let plain : is_special_name method.name ≡ false = cc in
    let is : overridden c.args.set.now method.name method.descriptor c.args.class ≡ Some c.in-Some.upper = cc in
    c.is_bad_override.ensures ∙ sym (overrides_so c.args.set.now c.args.class c.args.member method c.in-Some.upper plain is)
