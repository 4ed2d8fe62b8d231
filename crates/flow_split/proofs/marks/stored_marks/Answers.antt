-- At first none is marked.
use Rattle.std.proofs.Common.{◌≡◌, ℕ, List, map, false, subst}
use Rattle.std.specs.List.{list_any}
use Rattle.body_form.specs.declared.op.Op.{Op}
use Rattle.jvm_model.specs.WidthsSlots.{is_store, locals_of}
use Rattle.flow_split.proofs.Marking.{none_marked}
use Rattle.flow_split.proofs.marks.stored_marks.Goals as goal

pub returns : goal.returns
returns c =
    let count = c.args.body.now.max_locals in
    subst (λ (ops : List (ℕ × Op)). c.mark_stores.new.marks.items ≡ map (λ local. list_any (is_store c.args.kind local) ops) (locals_of c.args.body.now)) c.as_slice.ensures.all
    (c.mark_stores.ensures count (λ k. false) (none_marked count c.from.result _ (c.in_ok-marks.ensures.items_if_clones_equal (λ y same. same)) c.from.ensures))
