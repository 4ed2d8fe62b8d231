use Rattle.std.proofs.Common.{◌≡◌, ◌<◌, ◌≤◌, ◌++◌, ◌∷◌, [], length, arith, ℕ, List}
use Rattle.std.proofs.lemmas.Bool.Decides.{nat_tests}
use Rattle.class_code.specs.Code.{Insns, insns_of}
use Rattle.class_code.specs.declared.insn.Insn.{Insn}
use Rattle.class_code.proofs.Shorter.{insn_at-shorter}
use Rattle.class_code.proofs.Decoding.{goes_on, refused, is_done}
use Rattle.class_code.proofs.code_list.insns.Goals as goal

pub overflow_sub-pc : goal.overflow_sub-pc
overflow_sub-pc c =
    let less : length c.in-Ok.suffix.now < length c.loop-rest.rest.now = insn_at-shorter c.loop-rest.pc c.loop-rest.rest.now c.in-Ok.insn c.in-Ok.suffix.now c.in-Ok.ensures in
    omega arith

pub loop-rest-smaller : goal.loop-rest-smaller
loop-rest-smaller c = insn_at-shorter c.loop-rest.pc c.loop-rest.rest.now c.in-Ok.insn c.in-Ok.suffix.now c.in-Ok.ensures

pub loop-rest-preserved : goal.loop-rest-preserved
loop-rest-preserved c =
    let less : length c.in-Ok.suffix.now < length c.loop-rest.rest.now = insn_at-shorter c.loop-rest.pc c.loop-rest.rest.now c.in-Ok.insn c.in-Ok.suffix.now c.in-Ok.ensures in
    let items : c.push.new.self.items ≡ c.loop-rest.insns.items ++ (c.loop-rest.pc, c.in-Ok.insn) ∷ [] = c.in_ok-push-in-Ok.ensures.items in
    record {
      destination = omega (arith, c.loop-rest.invariant.destination);
      told = rw items (goes_on c.loop-rest.insns.items c.loop-rest.pc c.loop-rest.rest.now c.in-Ok.insn c.in-Ok.suffix.now (insns_of 0 c.args.code.now) (omega arith) c.in-Ok.ensures c.loop-rest.invariant.told);
    }

pub returns-in-Err : goal.returns-in-Err
returns-in-Err c =
    let there : 0 < length c.loop-rest.rest.now = grind (arith, nat_tests, c.is_empty.ensures, c.loop-rest-test.true) in
    rw c.at_pc.ensures (refused {X = Insn × List ℕ} {Y = Insns} (λ x. x) (λ x. x) c.loop-rest.insns.items c.loop-rest.pc c.loop-rest.rest.now c.in-Err.fault (insns_of 0 c.args.code.now) there c.in-Err.ensures c.loop-rest.invariant.told)

pub returns : goal.returns
returns c =
    let none : length c.loop-rest.rest.now ≤ 0 = grind (arith, nat_tests, c.is_empty.ensures, c.loop-rest-test.false) in
    is_done c.loop-rest.insns.items c.loop-rest.pc c.loop-rest.rest.now (insns_of 0 c.args.code.now) none c.loop-rest.invariant.told
