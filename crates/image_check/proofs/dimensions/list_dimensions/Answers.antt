use Rattle.std.proofs.Common.{◌≡◌, ◌+◌, [], ◌∷◌, ◌++◌, length, slice_get, Some, refl, sym, ap, subst, ◌∙◌, arith, rules}
use Rattle.std.proofs.lemmas.List.{length-append}
use Rattle.std.proofs.lemmas.Option.{slice_get_read}
use Rattle.image_check.specs.Dimensions.{dimensions_after}
use Rattle.image_check.proofs.ArrayTables.{DecidesTo, decides_empty, decides_more, decides_all, first_named_before}
use Rattle.image_check.proofs.dimensions.list_dimensions.Goals as goal

pub loop-entry-preserved : goal.loop-entry-preserved
loop-entry-preserved c =
    let types = c.args.types.now in
    let table = c.loop-entry.table.items in
    let index = c.loop-entry.entry-index in
    let entry = c.entry-item.result in
    let is : slice_get types index ≡ Some entry = slice_get_read types (length types) index entry refl c.loop-entry-test.true c.entry-item.is in
    let same : c.as_slice.result.now ≡ table = search rules in
    let items = c.in_ok-push.ensures.items ∙ ap (λ d. table ++ d ∷ []) (c.dimensions_after-dimensions.ensures ∙ ap (λ xs. dimensions_after xs entry) same) in
    record {
      many = ap length items ∙ length-append table (dimensions_after table entry ∷ []) ∙ ap (λ n. n + 1) c.loop-entry.invariant.many;
      done = subst (λ xs. DecidesTo types xs (32 + (index + 1))) (sym items) (decides_more types table index entry c.loop-entry.invariant.many is (first_named_before types c.requires index entry is) c.loop-entry.invariant.done);
    }

pub loop-entry-init : goal.loop-entry-init
loop-entry-init c = record { many = search rules; done = search (rules, decides_empty) }

pub returns-clause-items : goal.returns-clause-items
returns-clause-items c =
    decides_all c.args.types.now c.loop-entry.table.items c.loop-entry.entry-index (omega (arith, c.loop-entry-test.false)) c.loop-entry.invariant.many c.loop-entry.invariant.done
