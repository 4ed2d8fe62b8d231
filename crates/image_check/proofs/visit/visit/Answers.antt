use Rattle.std.proofs.Common.{◌≡◌, ◌∙◌, ◌≤◌, ◌+◌, ap, subst, inl, inr, length, arith, sym}
use Rattle.image_instr.specs.declared.signature.Effect.{Effect}
use Rattle.image_instr.specs.Effect.{effect_of}
use Rattle.image_check.specs.Visits.{HasOperands, ReturnsResult, FitsBody, suffix, moved_by}
use Rattle.image_check.specs.Table.{as_depth}
use Rattle.image_check.proofs.Passing.{no}
use Rattle.image_check.proofs.visit.visit.Goals as goal

pub returns-then-not-has_operands-clause-refused : goal.returns-then-not-has_operands-clause-refused
returns-then-not-has_operands-clause-refused c =
    let d = as_depth c.args.d in
    let moved : c.effect-moved.result ≡ moved_by c.args.image.now c.args.insn = c.effect-moved.ensures ∙ ap (effect_of c.args.insn) c.called_by.ensures in
    let has = HasOperands c.effect-moved.result d in
    let lacks = no c.has_operands.result has (¬ has) c.if-not-has_operands.true c.has_operands.ensures in
    record { d = d; sent = c.requires.sent; insn = c.args.insn; size = c.args.size; found = c.requires.found; fails = inl (subst (λ (e : Effect). ¬ HasOperands e d) moved lacks) }

pub returns-then-not-returns_result-clause-refused : goal.returns-then-not-returns_result-clause-refused
returns-then-not-returns_result-clause-refused c =
    let returns = ReturnsResult c.args.method.now c.args.insn in
    let other = no c.returns_result.result returns (¬ returns) c.if-not-returns_result.true c.returns_result.ensures in
    record { d = as_depth c.args.d; sent = c.requires.sent; insn = c.args.insn; size = c.args.size; found = c.requires.found; fails = inr (inl other) }

pub returns-then-not-fits_body-clause-refused : goal.returns-then-not-fits_body-clause-refused
returns-then-not-fits_body-clause-refused c =
    let fits = FitsBody c.args.method.now (as_depth c.args.d) in
    let exceeds = no c.fits_body.result fits (¬ fits) c.if-not-fits_body.true c.fits_body.ensures in
    record { d = as_depth c.args.d; sent = c.requires.sent; insn = c.args.insn; size = c.args.size; found = c.requires.found; fails = inl exceeds }

pub returns-in_default-clause-refused : goal.returns-in_default-clause-refused
returns-in_default-clause-refused c =
    let d = as_depth c.args.d in
    let moved : c.effect-moved.result ≡ moved_by c.args.image.now c.args.insn = c.effect-moved.ensures ∙ ap (effect_of c.args.insn) c.called_by.ensures in
    let exceeds = subst (λ (e : Effect). ¬ FitsBody c.args.method.now (suffix e d)) moved c.in_default.ensures in
    record { d = d; sent = c.requires.sent; insn = c.args.insn; size = c.args.size; found = c.requires.found; fails = inr exceeds }

pub returns-then-len-from-clause-refused : goal.returns-then-len-from-clause-refused
returns-then-len-from-clause-refused c =
    let past : length c.args.method.now.code ≤ c.args.pc + c.args.size = omega (arith, c.if-len-from.true, c.len.ensures, c.from.ensures) in
    record { d = as_depth c.args.d; sent = c.requires.sent; insn = c.args.insn; size = c.args.size; found = c.requires.found; fails = (sym c.goes_on.ensures ∙ c.if-goes_on.true, past) }
