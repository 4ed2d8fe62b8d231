use Rattle.std.proofs.Common.{◌≡◌, ℕ, suc, ◌+◌, ◌^◌, ◌<◌, ◌≤◌, length, sym, ap, ◌∙◌, subst}
use Rattle.std.proofs.lemmas.List.{with_items_is}
use Rattle.code_reach.specs.Visits.{IsMarked, Reaches}
use Rattle.code_reach.specs.Tree.{Nodes, HoldsRows, Waits, IsTaken}
use Rattle.code_reach.proofs.Members.{then_ok, both_ok}
use Rattle.code_reach.proofs.Rows.{taken_holds, taken_reaches, past_leaves}
use Rattle.code_reach.proofs.tree.Tree.enter.Goals as goal

pub returns-then-pc-self : goal.returns-then-pc-self
returns-then-pc-self c =
    let tree = c.args.self.now in
    let s = c.args.visits.now in
    let t = c.take_above.new.visits in
    let before = tree.nodes.items in
    let after = c.take_above.new.nodes in
    let given : c.deref_mut.result.now ≡ before = c.deref_mut.ensures.value in
    let kept : length after ≡ length before = c.take_above.auto.nodes ∙ ap length given in
    let same = with_items_is tree.nodes after (kept ∙ sym tree.nodes.ok.0) in
    then_ok c.take_above.result
    (λ both. λ pcs rows is.
    let taken = subst (λ (nodes : Nodes). IsTaken nodes after s t) given both.1 in
    let reaches = subst (λ (nodes : Nodes). ((level : ℕ) → 2 ^ level ≤ tree.leaves + c.args.pc → tree.leaves + c.args.pc < 2 ^ suc level → Reaches (Waits (suc level) nodes (tree.leaves + c.args.pc)) s t)) given both.0 in (
      taken_reaches pcs rows tree.leaves is.height is.leaves before s is.holds c.args.pc t c.if-pc-self.true reaches,
      record {
        height = is.height;
        leaves = is.leaves;
        size = ap length same ∙ kept ∙ is.size;
        holds = subst (λ (nodes : Nodes). HoldsRows pcs rows tree.leaves is.height nodes (IsMarked t)) (sym same) (taken_holds pcs rows tree.leaves is.height is.leaves before s is.holds after t taken);
      },
    ))
    (both_ok ((level : ℕ) → 2 ^ level ≤ tree.leaves + c.args.pc → tree.leaves + c.args.pc < 2 ^ suc level → Reaches (Waits (suc level) c.deref_mut.result.now (tree.leaves + c.args.pc)) s t) (IsTaken c.deref_mut.result.now after s t) c.take_above.result c.take_above.ensures.reaches c.take_above.ensures.taken)

pub returns : goal.returns
returns c = λ pcs rows is. (past_leaves pcs rows c.args.self.now.leaves is.height is.leaves c.args.self.now.nodes.items c.args.visits.now is.holds c.args.pc c.if-pc-self.false, is)
