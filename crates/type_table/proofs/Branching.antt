-- Steps down a tree of locals, and trees over others.
use Rattle.std.proofs.Common.{◌≡◌, ℕ, zero, suc, ◌-◌, ◌^◌, ◌<◌, Bool, ◌||◌, List, [], ◌∷◌, ◌++◌, length, slice_get, Some, sym, ap, subst, ◌∙◌, arith, length-append, pow-suc}
use Rattle.std.specs.List.{list_any}
use Rattle.std.proofs.lemmas.Option.{slice_get_within, same_Some}
use Rattle.body_form.specs.declared.types.VType.{VType}
use Rattle.type_table.specs.declared.store.Branch.{Branch}
use Rattle.type_table.specs.declared.trees.Trees.{Trees}
use Rattle.type_table.specs.Frames.{IsMarked, is_unconstructed, locals_of, HasLocals}
use Rattle.type_table.specs.Trees.{tree_of, HasTree, TreesGrow, IsBranch, IsTree}
use Rattle.type_table.proofs.Growing.{begins_itself, begins_along, locals_leaf, locals_fork, locals_stay}
use Rattle.type_table.proofs.Lists.{get_push}
use Rattle.type_table.proofs.Lacking.{left_false, right_false, both_false}

-- ---- reading

pub leaf_within : (leaves : List VType) (branches : List Branch) (depth root : ℕ) → depth ≡ 0 → HasLocals leaves branches depth root → root < length leaves
unfolding HasLocals
leaf_within leaves branches zero root none has = slice_get_within leaves root has.0 has.1
leaf_within leaves branches (suc depth) root none has = absurd (omega arith)

pub is_leaf : (leaves : List VType) (branches : List Branch) (depth root : ℕ) (value : VType) → depth ≡ 0 → slice_get leaves root ≡ Some value
    → locals_of leaves branches depth root ≡ value ∷ []
is_leaf leaves branches depth root value none is = ap (λ n. locals_of leaves branches n root) none ∙ locals_leaf leaves branches root value is

pub branch_within : (leaves : List VType) (branches : List Branch) (depth root : ℕ) → 0 < depth → HasLocals leaves branches depth root → root < length branches
unfolding HasLocals
branch_within leaves branches zero root some has = absurd (omega arith)
branch_within leaves branches (suc depth) root some has = slice_get_within branches root has.0 has.1

-- what a branch at the root of a tree says
record Forks (leaves : List VType) (branches : List Branch) (depth low root : ℕ) (branch : Branch) : Type 0 where
  pub left : HasLocals leaves branches low branch.left
  pub right : HasLocals leaves branches low branch.right
  pub locals : locals_of leaves branches depth root ≡ locals_of leaves branches low branch.left ++ locals_of leaves branches low branch.right
  pub marked : IsMarked branch.unconstructed (locals_of leaves branches depth root)

forks : (leaves : List VType) (branches : List Branch) (low root : ℕ) (branch : Branch) → HasLocals leaves branches (suc low) root → slice_get branches root ≡ Some branch
    → Forks leaves branches (suc low) low root branch
unfolding HasLocals
forks leaves branches low root branch has is =
    let same : has.0 ≡ branch = same_Some has.0 branch (sym has.1 ∙ is) in
    let locals = locals_fork leaves branches low root branch is in
    record {
      left = subst (λ (b : Branch). HasLocals leaves branches low b.left) same has.3;
      right = subst (λ (b : Branch). HasLocals leaves branches low b.right) same has.4;
      locals = locals;
      marked = λ clear.
          ap (list_any is_unconstructed) locals
          ∙ subst (λ (b : Branch). IsMarked b.unconstructed (locals_of leaves branches low b.left ++ locals_of leaves branches low b.right)) same has.2 clear;
    }

pub is_branch : (trees : Trees) (depth root : ℕ) (branch : Branch) → 0 < depth → HasTree trees depth root → slice_get trees.branches.items root ≡ Some branch
    → IsBranch trees depth root branch
is_branch trees depth root branch deep has is =
    let high : depth ≡ suc (depth - 1) = omega arith in
    let parts = subst (λ n. Forks trees.leaves.items trees.branches.items n (depth - 1) root branch) (sym high)
    (forks trees.leaves.items trees.branches.items (depth - 1) root branch (subst (λ n. HasTree trees n root) high has) is)
    in
    record { deep = deep; left = parts.left; right = parts.right; locals = parts.locals; marked = parts.marked }

-- as many locals as the depth says
pub length_locals : (leaves : List VType) (branches : List Branch) (depth root : ℕ) → HasLocals leaves branches depth root → length (locals_of leaves branches depth root) ≡ 2 ^ depth
unfolding HasLocals
length_locals leaves branches zero root has = ap length (locals_leaf leaves branches root has.0 has.1)
length_locals leaves branches (suc depth) root has =
    let branch = has.0 in
    let left = length_locals leaves branches depth branch.left has.3 in
    let right = length_locals leaves branches depth branch.right has.4 in
    ap length (locals_fork leaves branches depth root branch has.1)
    ∙ length-append (locals_of leaves branches depth branch.left) (locals_of leaves branches depth branch.right)
    ∙ omega (arith, left, right, pow-suc 2 depth)

-- ---- growth

pub trees_itself : (trees : Trees) → TreesGrow trees trees
trees_itself trees = record { leaves = begins_itself trees.leaves.items; branches = begins_itself trees.branches.items }

pub trees_along : (first second third : Trees) → TreesGrow first second → TreesGrow second third → TreesGrow first third
trees_along first second third a b = record {
  leaves = begins_along first.leaves.items second.leaves.items third.leaves.items a.leaves b.leaves;
  branches = begins_along first.branches.items second.branches.items third.branches.items a.branches b.branches;
}

pub tree_stays : (old new : Trees) (depth root : ℕ) → TreesGrow old new → HasTree old depth root → IsTree new depth root (tree_of old depth root)
tree_stays old new depth root grow has =
    let stays = locals_stay old.leaves.items new.leaves.items old.branches.items new.branches.items depth root grow.leaves grow.branches has in
    record { has = stays.has; is = stays.same }

-- ---- making

pub is_new_leaf : (old new : Trees) (root : ℕ) (value : VType) → new.leaves.items ≡ old.leaves.items ++ value ∷ [] → root ≡ length old.leaves.items
    → IsTree new 0 root (value ∷ [])
unfolding HasLocals
is_new_leaf old new root value items at =
    let is : slice_get new.leaves.items root ≡ Some value =
    ap (λ (list : List VType). slice_get list root) items ∙ ap (slice_get (old.leaves.items ++ value ∷ [])) at ∙ get_push old.leaves.items value
    in
    record { has = (value, is); is = locals_leaf new.leaves.items new.branches.items root value is }

new_fork : (old new : Trees) (depth root : ℕ) (branch : Branch) → TreesGrow old new → new.branches.items ≡ old.branches.items ++ branch ∷ []
    → root ≡ length old.branches.items → HasTree old depth branch.left → HasTree old depth branch.right
    → IsMarked branch.unconstructed (tree_of old depth branch.left ++ tree_of old depth branch.right)
    → IsTree new (suc depth) root (tree_of old depth branch.left ++ tree_of old depth branch.right)
unfolding HasLocals
new_fork old new depth root branch grow items at left right marked =
    let is : slice_get new.branches.items root ≡ Some branch =
    ap (λ (list : List Branch). slice_get list root) items ∙ ap (slice_get (old.branches.items ++ branch ∷ [])) at ∙ get_push old.branches.items branch
    in
    let first = tree_stays old new depth branch.left grow left in
    let second = tree_stays old new depth branch.right grow right in
    let same : tree_of new depth branch.left ++ tree_of new depth branch.right ≡ tree_of old depth branch.left ++ tree_of old depth branch.right =
    ap (λ (list : List VType). list ++ tree_of new depth branch.right) first.is ∙ ap (λ (list : List VType). tree_of old depth branch.left ++ list) second.is
    in
    record {
      has = (branch, is, subst (λ (list : List VType). IsMarked branch.unconstructed list) (sym same) marked, first.has, second.has);
      is = locals_fork new.leaves.items new.branches.items depth root branch is ∙ same;
    }

marked_both : (a b : Bool) (xs ys : List VType) → IsMarked a xs → IsMarked b ys → IsMarked (a || b) (xs ++ ys)
marked_both a b [] ys first second clear = second (right_false a b clear)
marked_both a b (x ∷ xs) ys first second clear =
    let both = first (left_false a b clear) in
    both_false (is_unconstructed x) (list_any is_unconstructed (xs ++ ys)) (left_false (is_unconstructed x) (list_any is_unconstructed xs) both)
    (marked_both a b xs ys (λ _. right_false (is_unconstructed x) (list_any is_unconstructed xs) both) second clear)

pub is_new_fork : (old new : Trees) (depth left right root : ℕ) (a b : Bool) → 0 < depth → TreesGrow old new
    → new.branches.items ≡ old.branches.items ++ record { left = left; right = right; unconstructed = a || b } ∷ []
    → root ≡ length old.branches.items → HasTree old (depth - 1) left → HasTree old (depth - 1) right
    → IsMarked a (tree_of old (depth - 1) left) → IsMarked b (tree_of old (depth - 1) right)
    → IsTree new depth root (tree_of old (depth - 1) left ++ tree_of old (depth - 1) right)
is_new_fork old new depth left right root a b deep grow items at has_left has_right marked_left marked_right =
    let high : suc (depth - 1) ≡ depth = omega arith in
    subst (λ n. IsTree new n root (tree_of old (depth - 1) left ++ tree_of old (depth - 1) right)) high
    (new_fork old new (depth - 1) root (record { left = left; right = right; unconstructed = a || b }) grow items at has_left has_right
    (marked_both a b (tree_of old (depth - 1) left) (tree_of old (depth - 1) right) marked_left marked_right))

pub branch_stays : (old new : Trees) (depth root : ℕ) (branch : Branch) → TreesGrow old new → HasTree old depth root → IsBranch old depth root branch
    → IsBranch new depth root branch
branch_stays old new depth root branch grow has is =
    let whole = tree_stays old new depth root grow has in
    let left = tree_stays old new (depth - 1) branch.left grow is.left in
    let right = tree_stays old new (depth - 1) branch.right grow is.right in
    record {
      deep = is.deep;
      left = left.has;
      right = right.has;
      locals =
          whole.is ∙ is.locals
          ∙ sym (ap (λ (list : List VType). list ++ tree_of new (depth - 1) branch.right) left.is ∙ ap (λ (list : List VType). tree_of old (depth - 1) branch.left ++ list) right.is);
      marked = λ clear. ap (list_any is_unconstructed) whole.is ∙ is.marked clear;
    }

-- two halves that were made one after the other
pub halves_are : (first second : Trees) (depth left right : ℕ) (xs ys : List VType) → TreesGrow first second → IsTree first depth left xs → IsTree second depth right ys
    → tree_of second depth left ++ tree_of second depth right ≡ xs ++ ys
halves_are first second depth left right xs ys grow is_left is_right =
    let stays = tree_stays first second depth left grow is_left.has in
    ap (λ (list : List VType). list ++ tree_of second depth right) (stays.is ∙ is_left.is) ∙ ap (λ (list : List VType). xs ++ list) is_right.is

-- the left half of a tree is as long as the depth of the half says
pub length_tree : (trees : Trees) (depth root : ℕ) → HasTree trees depth root → length (tree_of trees depth root) ≡ 2 ^ depth
length_tree trees depth root has = length_locals trees.leaves.items trees.branches.items depth root has
