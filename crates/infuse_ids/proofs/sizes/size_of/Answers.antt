use Rattle.std.proofs.Common.{◌≡◌, ℕ, map, take, ap, ◌∙◌}
use Rattle.std.specs.List.{fold}
use Rattle.std.proofs.lemmas.Result.{IfOk-weaker}
use Rattle.jvm_model.specs.declared.numbers.Layout.{Layout}
use Rattle.jvm_model.specs.ImageNumbering.{layout_of}
use Rattle.infuse_ids.specs.declared.sizes.Sizes.{Sizes}
use Rattle.infuse_ids.specs.Sizes.{with_member, sized}
use Rattle.infuse_ids.proofs.ObjectSizes.{with_file, without_file}
use Rattle.infuse_ids.proofs.sizes.size_of.Goals as goal

pub returns-in-Some-clause-size : goal.returns-in-Some-clause-size
returns-in-Some-clause-size c =
    let files = c.args.set.now in
    let file = c.in-Some.file.now in
    let start = sized c.in-Ok.above in
    IfOk-weaker c.with_fields.result (λ (size : Sizes). sized size ≡ fold (with_member file.pool) start c.as_slice.result.now)
    (λ (size : Sizes). (many : ℕ) → map sized c.args.sizes.now ≡ map (layout_of files) (take many c.args.order.now.keys) → sized size ≡ layout_of files c.args.class)
    (λ size e many are.
    e ∙ ap (fold (with_member file.pool) start) c.as_slice.ensures
    ∙ ap (λ (counts : Layout). fold (with_member file.pool) counts file.fields) (c.in-Ok.ensures.size many are)
    ∙ with_file files c.requires c.args.class file c.in-Some.ensures)
    c.with_fields.ensures.with

pub returns-in-None-clause-size : goal.returns-in-None-clause-size
returns-in-None-clause-size c many are =
    c.in-Ok.ensures.size many are ∙ without_file c.args.set.now c.requires c.args.class c.in-None.ensures
