use Rattle.std.proofs.Common.{◌≡◌, ℕ, ◌+◌, ◌<◌, List, Bool, Vec, Global, length, sym, ◌∙◌, subst}
use Rattle.std.proofs.lemmas.List.{length-map}
use Rattle.class_tree.specs.Set.{is_directly_below}
use Rattle.class_tree.specs.Closure.{AreOver, IsClosure, IsSquare}
use Rattle.class_tree.proofs.tables.Rows.{lists}
use Rattle.class_tree.proofs.tables.Within.{stays_below}
use Rattle.class_tree.proofs.above.above_of.Goals as goal

-- how many rows there are
counted : (rows : List (Vec Bool Global)) (count : ℕ) → IsSquare count (lists rows) → length rows ≡ count
counted rows count square = sym (length-map rows (λ (v : Vec Bool Global). v.items)) ∙ square.many

pub close-requires : goal.close-requires
close-requires c =
    let rows = c.in_ok-rows.rows.items in
    let P : ℕ → Type 0 = λ n. IsSquare n (lists rows) in
    subst P (sym (counted rows (32 + length c.args.names.now) c.in_ok-rows.ensures.square)) c.in_ok-rows.ensures.square

pub returns : goal.returns
returns c =
    let edge = is_directly_below c.args.names.now c.args.files.now in
    let count = 32 + length c.args.names.now in
    let rows = c.in_ok-rows.rows.items in
    let e = counted rows count c.in_ok-rows.ensures.square in
    let P : ℕ → Type 0 = λ n. IsClosure edge n (lists c.close.new.rows.items) in
    let Q : ℕ → Type 0 = λ n. AreOver edge n 0 (lists rows) in
    subst P e (c.in_ok-close.ensures edge
    (λ from to leads. subst (λ n. to < n) (sym e) (stays_below c.args.names.now c.args.files.now from to leads))
    (subst Q (sym e) c.in_ok-rows.ensures))
