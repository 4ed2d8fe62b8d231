use Rattle.std.proofs.Common.{◌≡◌, ◌-◌, inl, inr, ℕ, [], length, arith}
use Rattle.class_code.specs.Flow.{code_ways}
use Rattle.class_code.specs.declared.insn.Insn.{Insn}
use Rattle.jvm_model.specs.Linking.{NamesOf}
use Rattle.jvm_model.specs.Bodies.{IsFamily}
use Rattle.body_make.specs.Refusals.{refusal_of}
use Rattle.body_make.proofs.Adding.{completes_more, completes_end}
use Rattle.jvm_model.proofs.phases.Scans.{decides_more, decides_here}
use Rattle.body_make.proofs.Placed.{flag_at, flags_length, named_none, named_some, family_of}
use Rattle.body_make.proofs.code.ops_of.Goals as goal

pub index-requires : goal.index-requires
index-requires c =
    let same : length c.in_ok-flags.flags.items ≡ length c.args.insns.now = flags_length c.args.handlers.now c.args.insns.now c.in_ok-flags.flags.items c.in_ok-flags.ensures in
    omega (arith, c.loop-index-test.true, same, c.in_ok-flags.flags.ok.0)

pub returns-in-Err-clause-refused : goal.returns-in-Err-clause-refused
returns-in-Err-clause-refused c =
    let i = c.loop-index.index in
    let insns = c.args.insns.now in
    let x = c.index-insns-index.result in
    let file = c.args.file.now in
    let ways = code_ways c.args.handlers.now insns in
    let tells = flag_at c.args.handlers.now insns c.in_ok-flags.flags.items i x c.index.result.now c.in_ok-flags.ensures c.loop-index-test.true c.index-insns-index.is c.index.ensures in
    elim c.in-Err.ensures.refused [
      | inl memory ↦ inl memory
      | inr has ↦
          inr (decides_here (λ (index : ℕ) (y : ℕ × Insn). NamesOf c.args.set.now (c.args.class - 32) file c.args.member ways y) insns i x (refusal_of c.in-Err.why) c.loop-index-test.true c.index-insns-index.is
          (named_some c.args.set.now c.args.class file c.args.member ways x c.index.result.now tells (refusal_of c.in-Err.why) c.requires.own has.0 has.1) c.loop-index.invariant.decides)
    ]

pub loop-index-preserved : goal.loop-index-preserved
loop-index-preserved c =
    let i = c.loop-index.index in
    let insns = c.args.insns.now in
    let x = c.index-insns-index.result in
    let file = c.args.file.now in
    let ways = code_ways c.args.handlers.now insns in
    let tells = flag_at c.args.handlers.now insns c.in_ok-flags.flags.items i x c.index.result.now c.in_ok-flags.ensures c.loop-index-test.true c.index-insns-index.is c.index.ensures in
    record {
      decides = decides_more (λ (index : ℕ) (y : ℕ × Insn). NamesOf c.args.set.now (c.args.class - 32) file c.args.member ways y) insns i x c.loop-index-test.true c.index-insns-index.is
          (named_none c.args.set.now c.args.class file c.args.member ways x c.index.result.now tells c.in-Ok.op c.requires.own c.in-Ok.ensures.op) c.loop-index.invariant.decides;
      completes = completes_more (IsFamily c.args.set.now c.args.class file.pool ways) insns i x (x.0, c.in-Ok.op) [] c.loop-index.ops.items c.push.new.self.items c.loop-index-test.true c.index-insns-index.is c.in-Ok-push.ensures.items
          (family_of c.args.set.now c.args.class file c.args.member ways x c.index.result.now tells c.in-Ok.op c.in-Ok.ensures.op) c.loop-index.invariant.completes;
    }

pub returns-clause-families : goal.returns-clause-families
returns-clause-families c =
    completes_end (IsFamily c.args.set.now c.args.class c.args.file.now.pool (code_ways c.args.handlers.now c.args.insns.now)) c.args.insns.now c.loop-index.index c.loop-index.ops.items c.loop-index-test.false c.loop-index.invariant.completes
