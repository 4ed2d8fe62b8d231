use Rattle.std.proofs.Common.{◌-◌, inl, inr}
use Rattle.class_code.specs.Flow.{code_ways}
use Rattle.body_make.specs.Refusals.{refusal_of}
use Rattle.body_make.proofs.CodeNamed.{code_none, code_first, code_second}
use Rattle.jvm_model.proofs.bodies.FamiliesRise.{families_rise}
use Rattle.body_make.proofs.method.insns_body.Goals as goal

pub returns-in-Err-clause-refused : goal.returns-in-Err-clause-refused
returns-in-Err-clause-refused c =
    elim c.in-Err.ensures.refused [
      | inl memory ↦ inl memory
      | inr has ↦ inr (code_first c.args.set.now (c.args.class - 32) c.args.file.now c.args.member c.args.code.now c.args.insns.now c.as_slice-handlers.result.now (refusal_of c.in-Err.why) c.as_slice-handlers.ensures has)
    ]

pub returns-in-Err-guards_of-clause-refused : goal.returns-in-Err-guards_of-clause-refused
returns-in-Err-guards_of-clause-refused c =
    elim c.in-Err-guards_of.ensures.refused [
      | inl memory ↦ inl memory
      | inr has ↦
          inr (code_second c.args.set.now (c.args.class - 32) c.args.file.now c.args.member c.args.code.now c.args.insns.now c.as_slice-handlers.result.now (refusal_of c.in-Err-guards_of.why) c.as_slice-handlers.ensures
          c.in-Ok.ensures.passed has)
    ]

pub from_vec-requires : goal.from_vec-requires
from_vec-requires c =
    families_rise c.args.set.now c.args.class c.args.file.now.pool (code_ways c.as_slice-handlers.result.now c.args.insns.now) 0 c.args.insns.now c.in-Ok.ops.items c.requires.rise c.in-Ok.ensures.families

pub returns-clause-names : goal.returns-clause-names
returns-clause-names c =
    code_none c.args.set.now (c.args.class - 32) c.args.file.now c.args.member c.args.code.now c.args.insns.now c.as_slice-handlers.result.now c.as_slice-handlers.ensures c.in-Ok.ensures.passed c.in-Ok-guards_of.ensures.passed
