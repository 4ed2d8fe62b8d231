use Rattle.std.proofs.Common.{◌-◌}
use Rattle.jvm_model.specs.Linking.{MethodNames}
use Rattle.jvm_model.proofs.phases.Scans.{decides_more}
use Rattle.body_make.proofs.ClassBodies.{methods_more, methods_end}
use Rattle.body_make.proofs.set_bodies.add_methods.Goals as goal

pub loop-member-preserved : goal.loop-member-preserved
loop-member-preserved c =
    let i = c.loop-member.member in
    let m = c.index-methods-member.result in
    record {
      decides = decides_more (MethodNames c.args.set.now (c.args.class - 32) c.args.file.now) c.args.methods.now i m c.loop-member-test.true c.index-methods-member.is c.in-Ok.ensures.names c.loop-member.invariant.decides;
      completes = methods_more c.args.set.now c.args.class c.args.file.now c.args.methods.now i m c.args.bodies.now.items c.loop-member.bodies.items c.add_method.new.bodies.items c.loop-member-test.true c.index-methods-member.is c.in-Ok.ensures.added
          c.loop-member.invariant.completes;
    }

pub returns-clause-added : goal.returns-clause-added
returns-clause-added c = methods_end c.args.set.now c.args.class c.args.file.now c.args.methods.now c.loop-member.member c.args.bodies.now.items c.loop-member.bodies.items c.loop-member-test.false c.loop-member.invariant.completes
