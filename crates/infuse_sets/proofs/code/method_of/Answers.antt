use Rattle.std.proofs.Common.{◌≤◌, inr, length, rules, Some, sym, ap, subst, ◌∙◌}
use Rattle.jvm_model.specs.declared.plan.Plan.{Plan}
use Rattle.jvm_model.specs.ImageEmission.{Source, code_of, method_of, source_of}
use Rattle.jvm_model.specs.ImageNumbering.{ids_of}
use Rattle.jvm_model.specs.NumberedIds.{numbers_of}
use Rattle.infuse_emit.specs.Parts.{IsTooLong}
use Rattle.infuse_sets.specs.LaidBodies.{laid_as}
use Rattle.infuse_sets.proofs.BodyRefusals.{long, short}
use Rattle.infuse_sets.proofs.code.method_of.Goals as goal

pub returns-in-Ok-clause-method : goal.returns-in-Ok-clause-method
returns-in-Ok-clause-method c =
    let typed = laid_as c.args.laid.now in
    let by : Plan → Source = λ plan. source_of typed.body typed.table plan (ids_of (numbers_of c.args.ids.now)) in
    c.in-Ok.ensures.method ∙ ap (λ plan. method_of (by plan)) c.requires.fit.laid_is

pub returns-in-Ok-clause-passed : goal.returns-in-Ok-clause-passed
returns-in-Ok-clause-passed c =
    let typed = laid_as c.args.laid.now in
    let by : Plan → Source = λ plan. source_of typed.body typed.table plan (ids_of (numbers_of c.args.ids.now)) in
    short (numbers_of c.args.ids.now) typed (subst (λ plan. length (code_of (by plan)) ≤ 65535) c.requires.fit.laid_is c.in-Ok.ensures.fits)

pub returns-in-Err-CodeTooLong-clause-refused : goal.returns-in-Err-CodeTooLong-clause-refused
returns-in-Err-CodeTooLong-clause-refused c =
    let typed = laid_as c.args.laid.now in
    let by : Plan → Source = λ plan. source_of typed.body typed.table plan (ids_of (numbers_of c.args.ids.now)) in
    let told = c.in-Err-CodeTooLong in
    let why = subst (IsTooLong (by c.args.laid.now.plan)) told.field-0-is told.ensures.refused in
    let fits : told.length ≤ 4294967295 = search rules in
    inr (long (numbers_of c.args.ids.now) typed told.length (why.1 ∙ ap (λ plan. length (code_of (by plan))) c.requires.fit.laid_is) why.2 fits
    ∙ ap (λ refusal. Some refusal) (sym c.refusal_of_body.ensures))
