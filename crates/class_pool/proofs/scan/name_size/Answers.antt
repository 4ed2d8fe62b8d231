use Rattle.std.proofs.Common.{◌∙◌, sym, ap, true, cond, Some, None, Bool, arith}
use Rattle.class_pool.specs.DescriptorReading.{name_size}
use Rattle.class_pool.proofs.descriptors.Scans.{name_stops, name_none, name_on, name_end}
use Rattle.class_pool.proofs.scan.name_size.Goals as goal

pub returns-then-begins-clause-value : goal.returns-then-begins-clause-value
returns-then-begins-clause-value c =
    let text = c.args.text.now in
    let stops = name_stops c.loop-byte.begins text c.loop-byte.size c.loop-byte.byte-index (name_size true text) c.loop-byte-test.true c.if-byte-eq59.true c.loop-byte.invariant.so_far in
    sym (stops ∙ ap (λ (b : Bool). cond b None (Some c.loop-byte.size)) c.if-begins.true)

pub returns-else-begins-clause-value : goal.returns-else-begins-clause-value
returns-else-begins-clause-value c =
    let text = c.args.text.now in
    let stops = name_stops c.loop-byte.begins text c.loop-byte.size c.loop-byte.byte-index (name_size true text) c.loop-byte-test.true c.if-byte-eq59.true c.loop-byte.invariant.so_far in
    sym (stops ∙ ap (λ (b : Bool). cond b None (Some c.loop-byte.size)) c.if-begins.false)

pub returns-in_err-begins-clause-value : goal.returns-in_err-begins-clause-value
returns-in_err-begins-clause-value c =
    let text = c.args.text.now in
    let none = name_none c.loop-byte.begins text c.loop-byte.size c.loop-byte.byte-index (name_size true text) c.loop-byte-test.true c.if-byte-eq59.false (sym c.in_err-begins.ensures) c.loop-byte.invariant.so_far in
    c.from_residual.ensures ∙ sym none

pub loop-byte-preserved : goal.loop-byte-preserved
loop-byte-preserved c = record {
  size_is = omega (arith, c.loop-byte.invariant.size_is);
  so_far = name_on c.loop-byte.begins c.in_ok-begins.begins c.args.text.now c.loop-byte.size c.loop-byte.byte-index (name_size true c.args.text.now) c.loop-byte-test.true c.if-byte-eq59.false (sym c.in_ok-begins.ensures) c.loop-byte.invariant.so_far;
}

pub returns-clause-value : goal.returns-clause-value
returns-clause-value c = sym (name_end c.loop-byte.begins c.args.text.now c.loop-byte.size c.loop-byte.byte-index (name_size true c.args.text.now) c.loop-byte-test.false c.loop-byte.invariant.so_far)
