use Rattle.std.proofs.Common.{ℕ, ◌+◌, ◌∷◌, [], ◌<◌, ◌≡◌, List, length, subst, sym, ap, ◌∙◌}
use Rattle.std.proofs.lemmas.List.{length-append}
use Rattle.class_tree.specs.DirectSupers.{above_by}
use Rattle.class_tree.specs.Ways.{seen_after, way_at}
use Rattle.class_tree.proofs.tables.Seen.{ways_more}
use Rattle.class_tree.proofs.route.above_ways.Goals as goal

pub loop-class-preserved : goal.loop-class-preserved
loop-class-preserved c =
    let ways = c.loop-class.ways.items in
    let way = c.in_ok-way.way in
    let above : ℕ → List ℕ = λ class. seen_after [] (above_by c.args.route c.args.names.now c.args.files.now class) in
    let P : List (List ℕ) → Type 0 = λ l. (class : ℕ) → class < c.loop-class.class + 1 → way_at l class ≡ above class in
    record {
      many = ap length c.in_ok-push.ensures.items ∙ length-append ways (way ∷ []) ∙ ap (λ n. n + 1) c.loop-class.invariant.many;
      each = subst P (sym c.in_ok-push.ensures.items) (ways_more above ways way c.loop-class.class c.loop-class.invariant.many c.loop-class.invariant.each c.in_ok-way.ensures);
    }
