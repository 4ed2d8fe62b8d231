use Rattle.std.proofs.Common.{◌≡◌, ◌<◌, inl, inr, length, slice_get, Some, None, subst, arith}
use Rattle.jvm_model.specs.Linking.{ClassLinks}
use Rattle.body_make.specs.Refusals.{refusal_of}
use Rattle.jvm_model.proofs.phases.Scans.{decides_more, decides_here}
use Rattle.body_make.proofs.ClassBodies.{own_position, item_at, classes_more, classes_end}
use Rattle.body_make.proofs.set_bodies.linked_bodies.Goals as goal

pub returns-in-Err-clause-refused : goal.returns-in-Err-clause-refused
returns-in-Err-clause-refused c =
    let files = c.args.set.now in
    let i = c.loop-position.position in
    let file = c.file.result.now in
    let lt : i < length files = omega (arith, c.loop-position-test.true, c.file_count-position-end.ensures.count) in
    let is = item_at files i file (subst (λ n. slice_get files n ≡ Some file) (own_position i) c.file.ensures.file) in
    elim c.in-Err.ensures.refused [
      | inl memory ↦ inl memory
      | inr has ↦ inr (decides_here (ClassLinks files) files i file (refusal_of c.in-Err.why) lt is (subst (λ n. ClassLinks files n file (Some (refusal_of c.in-Err.why))) (own_position i) has) c.loop-position.invariant.decides)
    ]

pub loop-position-preserved : goal.loop-position-preserved
loop-position-preserved c =
    let files = c.args.set.now in
    let i = c.loop-position.position in
    let file = c.file.result.now in
    let lt : i < length files = omega (arith, c.loop-position-test.true, c.file_count-position-end.ensures.count) in
    let is = item_at files i file (subst (λ n. slice_get files n ≡ Some file) (own_position i) c.file.ensures.file) in
    record {
      decides = decides_more (ClassLinks files) files i file lt is (subst (λ n. ClassLinks files n file None) (own_position i) c.in-Ok.ensures.linked) c.loop-position.invariant.decides;
      completes = classes_more files i file c.loop-position.bodies.items c.add_class.new.bodies.items lt is c.in-Ok.ensures.added c.loop-position.invariant.completes;
    }

pub returns-clause-bodies : goal.returns-clause-bodies
returns-clause-bodies c = classes_end c.args.set.now c.loop-position.position c.loop-position.bodies.items (omega (arith, c.loop-position-test.false, c.file_count-position-end.ensures.count)) c.loop-position.invariant.completes
