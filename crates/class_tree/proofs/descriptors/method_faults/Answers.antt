use Rattle.std.proofs.Common.{◌+◌, [], ◌∷◌, length, ap, ◌∙◌, arith, List, Option}
use Rattle.std.proofs.lemmas.List.{length-append}
use Rattle.class_tree.specs.declared.descriptors.Fault.{Fault}
use Rattle.class_tree.specs.Descriptors.{fault_at, method_text_fault, method_fault}
use Rattle.class_tree.proofs.tables.Faults.{fault_more, fault_all}
use Rattle.class_tree.proofs.descriptors.method_faults.Goals as goal

pub loop-index-preserved : goal.loop-index-preserved
loop-index-preserved c =
    let faults = c.loop-index.faults.items in
    let fault = c.in_ok-fault.fault in
    let items = c.in_ok-push.ensures.items in
    record {
      many = ap length items ∙ length-append faults (fault ∷ []) ∙ ap (λ n. n + 1) c.loop-index.invariant.many;
      done = λ i lt. ap (λ (l : List (Option Fault)). fault_at l i) items
          ∙ fault_more (method_fault c.args.names.now c.args.pool.now) faults fault c.loop-index.index c.loop-index.invariant.many c.loop-index.invariant.done c.in_ok-fault.ensures.found i lt;
    }

pub returns-clause-found : goal.returns-clause-found
returns-clause-found c =
    fault_all (method_text_fault c.args.names.now) c.args.pool.now c.loop-index.faults.items c.loop-index.index c.loop-index.invariant.many
    (omega (arith, c.loop-index-test.false, c.count-index-end.ensures)) c.loop-index.invariant.done
