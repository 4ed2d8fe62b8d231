use Rattle.std.proofs.Common.{◌≡◌, ℕ, map, cond, sym, ap, ◌∙◌, arith}
use Rattle.class_tree.specs.Closure.{at}
use Rattle.class_tree.proofs.tables.Counting.{counted_none, counted_more}
use Rattle.class_tree.proofs.rank.rank_of.Goals as goal
use Rattle.class_tree.proofs.rank.rank_of.Goals.{then-leads, else-leads}

pub loop-to-init : goal.loop-to-init
loop-to-init c = record { count = sym (counted_none (at (map (λ v. v.items) c.args.above.now) c.args.class)); bound = omega arith }

pub loop-to-preserved : goal.loop-to-preserved
loop-to-preserved c =
    let test = at (map (λ v. v.items) c.args.above.now) c.args.class in
    let more = counted_more test c.loop-to.to in
    elim c.if-leads.branch [
      | then-leads w ↦
          let e : ◌≡◌ {A = ℕ} (cond (test c.loop-to.to) 1 0) 1 = ap (λ b. cond b 1 0) (sym c.leads.ensures ∙ w.if-leads.true) in
          record { count = omega (arith, more, e, w.rank-is, c.loop-to.invariant.count); bound = omega (arith, w.rank-is, c.loop-to.invariant.bound) }
      | else-leads w ↦
          let e : ◌≡◌ {A = ℕ} (cond (test c.loop-to.to) 1 0) 0 = ap (λ b. cond b 1 0) (sym c.leads.ensures ∙ w.if-leads.false) in
          record { count = omega (arith, more, e, w.rank-is, c.loop-to.invariant.count); bound = omega (arith, w.rank-is, c.loop-to.invariant.bound) }
    ]
