-- The set is closed, and the body is one of its bodies.
use Rattle.std.proofs.Common.{◌≡◌, ◌<◌, List, None, Some, true, ltb, is_some, length, get_or, slice_get, refl, sym, ap, subst, ◌∙◌, arith}
use Rattle.std.proofs.lemmas.Bool.Decides.{nat_tests}
use Rattle.std.proofs.lemmas.Option.{slice_get_read}
use Rattle.class_file.specs.declared.record.ClassFile.{ClassFile}
use Rattle.class_tree.specs.Tree.{Gathers}
use Rattle.jvm_model.specs.Bodies.{AreBodies}
use Rattle.jvm_model.specs.TypesNames.{IsOfSet}
use Rattle.flow_verify.proofs.families.Taking.{all_at}
use Rattle.class_calls.proofs.OfSets.{all_of_set, if_some}
use Rattle.class_calls.proofs.types.types_of.Goals as goal

pub verify-requires-clause-closed : goal.verify-requires-clause-closed
verify-requires-clause-closed c = subst (λ (files : List ClassFile). Gathers files None) (sym c.in-Ok.ensures.gathered) c.in-Ok.ensures.passed

pub verify-requires-clause-names : goal.verify-requires-clause-names
verify-requires-clause-names c =
    let files = c.in-Ok.set in
    let bodies = c.deref.result.now in
    let i = c.args.position in
    let body = c.in-Some.body.now in
    let looked = c.get.ensures.lookup in
    let there : true ≡ ltb i (length bodies) = ap is_some (sym c.in-Some.is) ∙ looked.0 in
    let within : i < length bodies = grind (arith, nat_tests, there) in
    let is = if_some (λ b. b.now ≡ get_or bodies i b.now) c.get.result c.in-Some.body c.in-Some.is looked.1 in
    let found : slice_get bodies i ≡ Some body = slice_get_read bodies (length bodies) i body refl within is in
    all_at (IsOfSet files) bodies i body (all_of_set files bodies (subst (AreBodies files) (sym c.deref.ensures.value) c.in-Ok-bodies.ensures.bodies)) found
