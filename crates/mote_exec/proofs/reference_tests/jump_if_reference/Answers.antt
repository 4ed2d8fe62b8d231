use Rattle.std.proofs.Common.{◌≡◌, true, false, refl, sym, subst, ◌∙◌}
use Rattle.image_instr.specs.declared.insn.MInsn.TheVariants as insns
use Rattle.image_instr.specs.Effect.{tested_refs}
use Rattle.mote_model.specs.Turns.{TakesTick}
use Rattle.mote_exec.specs.Steps.{IsTaken, is_tick}
use Rattle.mote_exec.proofs.Jumping.{is_spent, jumps_with}
use Rattle.mote_exec.proofs.ReferenceTesting.{enough, goes_by}
use Rattle.mote_exec.proofs.TakenReferences.{falls_refs, left_kept, left_stack, refs_there, without_refs}
use Rattle.mote_exec.proofs.reference_tests.jump_if_reference.Goals as goal

pub is_met-requires-clause-there : goal.is_met-requires-clause-there
is_met-requires-clause-there g c =
    let memory = c.args.mote.now in
    let test = c.args.test in
    refs_there g.shown memory memory (insns.RJ test c.args.target) c.args.next c.requires (tested_refs test) (enough g.shown memory memory test c.args.target c.args.next c.requires)

pub fall_refs-requires-clause-there : goal.fall_refs-requires-clause-there
fall_refs-requires-clause-there g c =
    let memory = c.args.mote.now in
    let test = c.args.test in
    rw c.tested_count-count.ensures
    (refs_there g.shown memory memory (insns.RJ test c.args.target) c.args.next c.requires (tested_refs test) (enough g.shown memory memory test c.args.target c.args.next c.requires))

pub returns-then-not-is_met : goal.returns-then-not-is_met
returns-then-not-is_met g c =
    let memory = c.args.mote.now in
    let test = c.args.test in
    let target = c.args.target in
    let new = c.fall_refs.new.mote in
    rw c.fall_refs.ensures.on
    (falls_refs g.shown memory new (insns.RJ test target) c.args.next c.requires c.tested_count-count.result (tested_refs test) c.tested_count-count.ensures
    (enough g.shown memory new test target c.args.next c.requires) c.fall_refs.ensures.stepped
    (goes_by g.shown memory new test target c.args.next c.requires false (sym c.if-not-is_met.true ∙ c.is_met.ensures)) c.args.left.now)

pub returns-then-not-take_tick : goal.returns-then-not-take_tick
returns-then-not-take_tick g c =
    let memory = c.args.mote.now in
    let test = c.args.test in
    let target = c.args.target in
    let frame = c.requires.ready.next.frame in
    let spent = subst (IsTaken c.pc_at.result target c.args.left.now c.take_tick.new.left) c.if-not-take_tick.true c.take_tick.ensures in
    is_spent g.shown memory memory (insns.RJ test target) c.args.next c.requires (without_refs (tested_refs test) frame) target c.args.left.now c.take_tick.new.left refl refl
    (subst (λ pc. is_tick pc target ≡ true) c.pc_at.ensures spent.0) spent.1 spent.2
    (goes_by g.shown memory memory test target c.args.next c.requires true (sym c.if-not-is_met.false ∙ c.is_met.ensures))

pub returns : goal.returns
returns g c =
    let memory = c.args.mote.now in
    let test = c.args.test in
    let target = c.args.target in
    let count = tested_refs test in
    let insn = insns.RJ test target in
    let frame = c.requires.ready.next.frame in
    let new = c.fall_refs-2.new.mote in
    let tick = subst (IsTaken c.pc_at.result target c.args.left.now c.take_tick.new.left) c.if-not-take_tick.false c.take_tick.ensures in
    rw c.fall_refs-2.ensures.on
    (jumps_with g.shown memory new insn c.args.next c.requires (without_refs count frame) target c.args.left.now c.take_tick.new.left refl refl
    (left_kept g.shown memory new insn c.args.next c.requires count)
    (left_stack g.shown memory new insn c.args.next c.requires c.tested_count-count.result count target c.tested_count-count.ensures (enough g.shown memory new test target c.args.next c.requires) c.fall_refs-2.ensures.stepped)
    (subst (λ pc. TakesTick (is_tick pc target) c.args.left.now c.take_tick.new.left) c.pc_at.ensures tick)
    (goes_by g.shown memory new test target c.args.next c.requires true (sym c.if-not-is_met.false ∙ c.is_met.ensures)))
