use Rattle.std.proofs.lemmas.Result.{IfErr-weaker, IfOk-weaker}
use Rattle.set_image.specs.LinkRefusals.{IsLinkedImage, IsLinkRefusal}
use Rattle.set_verdict.specs.Verdict.{IsImageOf}
use Rattle.infuse_link.specs.Infused.{RefusedOrMemory}
use Rattle.infuse_link.specs.Stages.{linked_of}
use Rattle.infuse_link.proofs.LinkedSets.{are_of, of_files}
use Rattle.infuse_link.proofs.Verdicts.{set_infused, set_refused}
use Rattle.infuse_link.proofs.linking.infuse_typed.Goals as goal

pub image_of-requires : goal.image_of-requires
image_of-requires g c =
    let set = c.args.set.now in
    let bodies = c.args.bodies.now in
    let typed = c.args.typed.now in
    let laws = c.bodies_keep_limits.ensures in (
      are_of g.files set bodies typed c.requires.0 c.requires.1.1.0 c.requires.1.1.1 laws.rise laws.rows laws.counts laws.parameters c.sets_compile.ensures,
      c.requires.1.1.0,
    )

pub returns-clause-found : goal.returns-clause-found
returns-clause-found g c =
    let set = c.args.set.now in
    let bodies = c.args.bodies.now in
    let typed = c.args.typed.now in
    let of = of_files g.files set bodies typed c.requires.0 c.requires.1.1.0 c.requires.1.1.1 in
    IfOk-weaker c.image_of.result (IsLinkedImage (linked_of set typed)) (IsImageOf g.files)
    (set_infused g.files set bodies c.requires.0 c.requires.1.0 (linked_of set typed) of) c.image_of.ensures.image

pub returns-clause-refused : goal.returns-clause-refused
returns-clause-refused g c =
    let set = c.args.set.now in
    let bodies = c.args.bodies.now in
    let typed = c.args.typed.now in
    let of = of_files g.files set bodies typed c.requires.0 c.requires.1.1.0 c.requires.1.1.1 in
    IfErr-weaker c.image_of.result (IsLinkRefusal (linked_of set typed)) (RefusedOrMemory g.files)
    (set_refused g.files set bodies c.requires.0 c.requires.1.0 (linked_of set typed) of) c.image_of.ensures.refused
