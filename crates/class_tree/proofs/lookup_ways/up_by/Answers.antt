use Rattle.std.proofs.Common.{ℕ, List, length, sym, subst}
use Rattle.class_tree.specs.Ways.{FallAlong, AreWaysUp}
use Rattle.class_tree.proofs.lookups.RouteWays.{route_falls, route_ways}
use Rattle.class_tree.proofs.lookup_ways.up_by.Goals as goal

pub ways_of-requires : goal.ways_of-requires
ways_of-requires c =
    let P : ℕ → Type 0 = λ n. FallAlong c.in_ok-above.above.items c.args.ranks.now n in
    let Q : List (List ℕ) → Type 0 = λ l. FallAlong l c.args.ranks.now (length c.args.own.now) in
    subst Q (sym c.as_slice.ensures.value) (subst P (sym c.requires.own)
    (route_falls c.args.names.now c.args.files.now c.args.route c.in_ok-above.above.items c.in_ok-above.ensures.many c.in_ok-above.ensures.each c.args.ranks.now c.requires.many c.requires.ranks))

pub returns : goal.returns
returns c =
    let P : ℕ → Type 0 = λ n. AreWaysUp c.args.own.now c.in_ok-above.above.items n c.in_ok-ways.ways.items in
    let Q : List (List ℕ) → Type 0 = λ l. AreWaysUp c.args.own.now l (length c.args.own.now) c.in_ok-ways.ways.items in
    route_ways c.args.names.now c.args.files.now c.args.route c.in_ok-above.above.items c.in_ok-above.ensures.many c.in_ok-above.ensures.each c.args.own.now c.in_ok-ways.ways.items
    (subst P c.requires.own (subst Q c.as_slice.ensures.value c.in_ok-ways.ensures))
