-- Each length is an int.
use Rattle.std.proofs.Common.{◌≡◌, Bool, List, ◌∷◌, [], replicate, ap, ◌∙◌}
use Rattle.body_form.specs.declared.types.VType.{VType}
use Rattle.body_form.specs.declared.types.VType.TheVariants as known
use Rattle.jvm_model.specs.TypesFrames.{is_int}
use Rattle.jvm_model.specs.TypesRules.{plain}
use Rattle.type_table.specs.Frames.{frame_of}
use Rattle.flow_verify.specs.declared.need.Need.TheVariants as need
use Rattle.flow_verify.specs.Needs.{tests_of}
use Rattle.flow_verify.proofs.families.Taking.{ints}
use Rattle.flow_verify.proofs.arrays.multi_array.Goals as goal

pub returns-clause-change : goal.returns-clause-change
returns-clause-change c =
    let files = c.args.set.now in
    let needs : c.deref.result.now ≡ replicate c.args.dims need.Int =
    c.deref.ensures.value ∙ c.in_ok-needs.ensures.items_if_clones_equal (λ y same. same) ∙ ap (λ n. replicate n need.Int) c.from.ensures in
    let tests : tests_of files c.deref.result.now ≡ replicate c.args.dims is_int = ap (tests_of files) needs ∙ ints files c.args.dims in
    c.plain.ensures.change ∙ ap (λ (l : List (VType → Bool)). plain (frame_of c.args.store.now c.args.frame) l (known.Ref c.args.array ∷ [])) tests
