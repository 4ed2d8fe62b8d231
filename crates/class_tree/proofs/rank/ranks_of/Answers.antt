use Rattle.std.proofs.Common.{ℕ, ◌+◌, ◌<◌, length, map, sym, subst, ◌∙◌, get_or, ◌≡◌, arith}
use Rattle.class_tree.specs.Ranks.{rank_in}
use Rattle.class_tree.proofs.ancestors.Acyclic.{ranks_by_table, ranks_listed}
use Rattle.class_tree.proofs.rank.ranks_of.Goals as goal

pub returns-clause-ranks : goal.returns-clause-ranks
returns-clause-ranks c =
    let names = c.args.names.now in
    let files = c.args.files.now in
    let rows = map (λ v. v.items) c.args.above.now in
    let same = sym c.requires.same in
    let list = c.in_ok-ranks.ranks.items in
    let P : ℕ → Type 0 = λ n. (class : ℕ) → class < n → get_or list class 0 ≡ rank_in rows n class in
    let count : c.from.result + c.count.result ≡ 32 + length names = omega (arith, c.from.ensures, c.count.ensures) in
    ranks_listed names files c.requires.no_circles same (rank_in rows (32 + length names)) list (c.in_ok-ranks.ensures.many ∙ count) (subst P count c.in_ok-ranks.ensures.each)
    (ranks_by_table names files c.requires.no_circles same rows c.requires.closure)
