use Rattle.std.proofs.Common.{◌≡◌, ◌++◌, List, flat_map, get_or, map, Option, None, sym, ap, subst, ◌∙◌}
use Rattle.std.specs.List.{AllByRecursion}
use Rattle.std.proofs.lemmas.List.{get_or_default, take_all}
use Rattle.image_form.specs.declared.record.Method.{Method}
use Rattle.jvm_model.specs.declared.refusal.Refusal.{Refusal}
use Rattle.jvm_model.specs.ImageEmission.{method_of}
use Rattle.jvm_model.specs.NumberedIds.{numbers_of}
use Rattle.type_rounds.proofs.tables.Lists.{all_filter}
use Rattle.set_image.specs.Linked.{Typed, source_by}
use Rattle.set_image.specs.LinkRefusals.{length_refusal}
use Rattle.infuse_sets.specs.declared.laid.LaidBody.{LaidBody}
use Rattle.infuse_sets.specs.LaidBodies.{IsFitLaid, is_laid_in, laid_as}
use Rattle.infuse_sets.proofs.GrownLists.{all_more, joined_more}
use Rattle.infuse_sets.proofs.NumberedBodies.{HoldsIn}
use Rattle.infuse_sets.proofs.OrderedMethods.{all_methods, laid_by_class, laid_class, methods_in, none_refused}
use Rattle.infuse_sets.proofs.code.methods_in_order.Goals as goal

pub of_class-requires : goal.of_class-requires
of_class-requires c = laid_by_class c.args.set.now c.args.laid.now c.requires.closed c.requires.bodies

pub add_methods-requires-clause-fit : goal.add_methods-requires-clause-fit
add_methods-requires-clause-fit c =
    let class = get_or c.as_slice-classes.result.now c.loop-class.class-index 0 in
    subst (AllByRecursion IsFitLaid) (sym c.of_class.ensures) (all_filter IsFitLaid (is_laid_in class) c.args.laid.now c.requires.fit)

pub loop-class-preserved : goal.loop-class-preserved
loop-class-preserved c =
    let numbering = numbers_of c.args.ids.now in
    let method : Typed → Method = λ typed. method_of (source_by numbering typed) in
    let Passes : LaidBody → Type 0 = λ one. length_refusal numbering (laid_as one) ≡ None in
    let laid = c.args.laid.now in
    let classes = c.as_slice-classes.result.now in
    let i = c.loop-class.class-index in
    let class = get_or classes i 0 in
    let methods = c.loop-class.methods.items in
    let is : class ≡ get_or classes i class = get_or_default classes i 0 class c.loop-class-test.true in (
      joined_more classes i class c.loop-class-test.true is (methods_in method laid) methods c.add_methods.new.methods.items c.loop-class.invariant.0
          (c.in-Ok-add_methods.ensures.added ∙ ap (λ (list : List LaidBody). methods ++ map (λ one. method (laid_as one)) list) c.of_class.ensures),
      all_more classes i class c.loop-class-test.true is (HoldsIn laid_class Passes laid) c.loop-class.invariant.1
          (subst (AllByRecursion Passes) c.of_class.ensures c.in-Ok-add_methods.ensures.passed),
    )

pub returns-clause-methods : goal.returns-clause-methods
returns-clause-methods c =
    let method : Typed → Method = λ typed. method_of (source_by (numbers_of c.args.ids.now) typed) in
    let laid = c.args.laid.now in
    let whole = take_all c.loop-class.class-index c.as_slice-classes.result.now c.loop-class-test.false ∙ c.as_slice-classes.ensures.keys ∙ c.in-Ok.ensures.order in
    c.loop-class.invariant.0 ∙ ap (flat_map (methods_in method laid)) whole ∙ all_methods method laid c.args.set.now

pub returns-clause-passed : goal.returns-clause-passed
returns-clause-passed c =
    let refusal : Typed → Option Refusal = length_refusal (numbers_of c.args.ids.now) in
    let laid = c.args.laid.now in
    let whole = take_all c.loop-class.class-index c.as_slice-classes.result.now c.loop-class-test.false ∙ c.as_slice-classes.ensures.keys ∙ c.in-Ok.ensures.order in
    none_refused c.args.set.now laid c.requires.closed c.requires.bodies refusal
    (subst (AllByRecursion (HoldsIn laid_class (λ one. refusal (laid_as one) ≡ None) laid)) whole c.loop-class.invariant.1)
