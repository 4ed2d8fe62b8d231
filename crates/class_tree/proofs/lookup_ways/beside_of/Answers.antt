use Rattle.std.proofs.Common.{◌≡◌, ℕ, ◌+◌, ◌<◌, [], ◌∷◌, List, Option, length, sym, ap, subst, ◌∙◌, arith}
use Rattle.std.proofs.lemmas.List.{length-append}
use Rattle.class_pool.specs.declared.types.MemberId.{MemberId}
use Rattle.class_tree.specs.declared.route.Route.TheVariants.{Superinterfaces}
use Rattle.class_tree.specs.DirectSupers.{above_by}
use Rattle.class_tree.specs.Upwards.{first_answer}
use Rattle.class_tree.specs.Ways.{way_at, answer_of, IsWayOver}
use Rattle.class_tree.proofs.tables.Seen.{kept_more}
use Rattle.class_tree.proofs.lookups.RouteWays.{beside}
use Rattle.class_tree.proofs.lookup_ways.beside_of.Goals as goal

pub loop-class-preserved : goal.loop-class-preserved
loop-class-preserved c =
    let lists = c.loop-class.lists.items in
    let list = c.in_ok-list.list in
    let n = c.loop-class.class in
    let ways = c.args.ways.now in
    let above = c.in_ok-above.above.items in
    let P : ℕ → List ℕ → Type 0 = λ class way. (answer : ℕ → Option MemberId) → first_answer answer way ≡ first_answer (answer_of ways answer) (above_by Superinterfaces c.args.names.now c.args.files.now class) in
    let Q : List (List ℕ) → Type 0 = λ l. (class : ℕ) → class < n + 1 → P class (way_at l class) in
    let R : List ℕ → Type 0 = λ l. IsWayOver ways [] l list in
    record {
      many = ap length c.in_ok-push.ensures.items ∙ length-append lists (list ∷ []) ∙ ap (λ m. m + 1) c.loop-class.invariant.many;
      each = subst Q (sym c.in_ok-push.ensures.items)
          (kept_more P lists list n c.loop-class.invariant.many c.loop-class.invariant.each
          (beside c.args.names.now c.args.files.now ways above n list (c.in_ok-above.ensures.each n (omega (arith, c.loop-class-test.true, c.from.ensures, c.count.ensures))) (subst R (c.way_at.ensures ∙ ap (λ (l : List (List ℕ)). way_at l n) c.as_slice.ensures.value) c.in_ok-list.ensures)));
    }
