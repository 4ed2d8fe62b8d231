use Rattle.std.proofs.Common.{◌≡◌, ◌<◌, length, sym, ◌∙◌, arith}
use Rattle.class_pool.proofs.constant_pool.Texts.{step, stuck, empty_text}
use Rattle.class_pool.proofs.utf8.is_modified_utf8.Goals as goal

pub loop-rest-smaller : goal.loop-rest-smaller
loop-rest-smaller c = (step c.loop-rest.rest.now c.in-Some.after.now (sym c.in-Some.ensures)).1

pub loop-rest-preserved : goal.loop-rest-preserved
loop-rest-preserved c = sym (step c.loop-rest.rest.now c.in-Some.after.now (sym c.in-Some.ensures)).0 ∙ c.loop-rest.invariant

pub returns-in-None : goal.returns-in-None
returns-in-None c =
    let some : 0 < length c.loop-rest.rest.now = grind arith in
    sym (stuck c.loop-rest.rest.now (sym c.in-None.ensures) some) ∙ c.loop-rest.invariant

pub returns : goal.returns
returns c =
    let none : length c.loop-rest.rest.now ≡ 0 = grind arith in
    sym (empty_text c.loop-rest.rest.now none) ∙ c.loop-rest.invariant
