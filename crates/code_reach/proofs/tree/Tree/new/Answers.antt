use Rattle.std.proofs.Common.{◌≡◌, ◌+◌, ◌*◌, List, [], length, get_or, take, replicate, sym, ap, ◌∙◌, subst}
use Rattle.std.proofs.lemmas.List.{length-replicate, take_all, with_items_is}
use Rattle.code_reach.specs.declared.row.Row.{Row}
use Rattle.code_reach.specs.Visits.{IsMarked, pcs_of, index_of}
use Rattle.code_reach.specs.Tree.{Nodes, IsPut, HoldsRows}
use Rattle.code_reach.proofs.Rows.{holds_first, holds_more, holds_known}
use Rattle.code_reach.proofs.tree.Tree.new.Goals as goal

-- what stands for a row past the end
abbrev no_row : Row
no_row = record { start = 0; end = 0; target = 0 }

pub loop-row-init : goal.loop-row-init
loop-row-init g c =
    let leaves = c.leaf_count-leaves.result in
    let bare : c.in_ok-nodes.nodes.items ≡ replicate (2 * leaves) [] = c.in_ok-nodes.ensures in
    record {
      size = ap length bare ∙ length-replicate (2 * leaves) [];
      holds = λ height power. subst (λ (nodes : Nodes). HoldsRows (pcs_of c.args.code.now) [] leaves height nodes (λ index. ⊥)) (sym bare) (holds_first (pcs_of c.args.code.now) c.args.rows.now leaves height (2 * leaves) (λ index. ⊥));
    }

pub loop-row-preserved : goal.loop-row-preserved
loop-row-preserved g c =
    let leaves = c.leaf_count-leaves.result in
    let rows = c.args.rows.now in
    let k = c.loop-row.row-index in
    let pcs = pcs_of c.args.code.now in
    let before = c.loop-row.nodes.items in
    let after = c.put.new.nodes in
    let kept : length after ≡ length before = c.put.auto.nodes ∙ ap length c.deref_mut.ensures.value in
    let same = with_items_is c.loop-row.nodes after (kept ∙ sym c.loop-row.nodes.ok.0) in
    let row = get_or rows k no_row in
    record {
      size = ap length same ∙ kept ∙ c.loop-row.invariant.size;
      holds = λ height power. subst (λ (nodes : Nodes). HoldsRows pcs (take (k + 1) rows) leaves height nodes (λ index. ⊥)) (sym same)
          (holds_more pcs rows k no_row leaves height before after (λ index. ⊥) c.loop-row-test.true power (c.leaf_count-leaves.ensures.enough k no_row c.loop-row-test.true) (subst (λ (nodes : Nodes). IsPut (leaves + row.start) (leaves + row.end) (index_of pcs row.target) nodes after) c.deref_mut.ensures.value
          (subst (λ n. IsPut (leaves + row.start) (leaves + row.end) n c.deref_mut.result.now after) c.index_of-index.ensures c.in_ok-put.ensures)) (c.loop-row.invariant.holds height power));
    }

pub returns : goal.returns
returns g c = λ visits.
    let power = c.leaf_count-leaves.ensures.power in
    let rows = c.args.rows.now in
    let all = take_all c.loop-row.row-index rows c.loop-row-test.false in
    record {
      height = power.0;
      leaves = power.1;
      size = c.loop-row.invariant.size;
      holds = holds_known (pcs_of c.args.code.now) rows c.leaf_count-leaves.result power.0 c.loop-row.nodes.items (λ index. ⊥) (IsMarked visits) (λ i none. absurd none)
          (subst (λ (list : List Row). HoldsRows (pcs_of c.args.code.now) list c.leaf_count-leaves.result power.0 c.loop-row.nodes.items (λ index. ⊥)) all (c.loop-row.invariant.holds power.0 power.1));
    }
