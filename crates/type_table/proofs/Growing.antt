-- Entries that are added leave what is there as it was: chains, trees and frames.
use Rattle.std.proofs.Common.{◌≡◌, ℕ, zero, suc, Bool, List, [], ◌∷◌, ◌++◌, take, Option, Some, None, slice_get, refl, sym, ap, subst, ◌∙◌}
use Rattle.std.specs.Option.{option_map_or, option_to_list}
use Rattle.std.proofs.lemmas.List.{append_assoc, append-nil}
use Rattle.body_form.specs.declared.types.VType.{VType}
use Rattle.body_form.specs.declared.types.VFrame.{VFrame}
use Rattle.type_table.specs.declared.store.Branch.{Branch}
use Rattle.type_table.specs.declared.store.Cell.{Cell}
use Rattle.type_table.specs.declared.store.FrameId.{FrameId}
use Rattle.type_table.specs.Frames.{Stored, IsMarked, operands_of, HasOperands, locals_of, HasLocals, frame_of, IsFrame, Begins, Grows}
use Rattle.type_table.specs.Changes.{IsFound}

-- ---- lists

pub begins_itself : {X : Type 0} (xs : List X) → Begins xs xs
begins_itself xs = ([], sym (append-nil xs))

pub begins_along : {X : Type 0} (xs ys zs : List X) → Begins xs ys → Begins ys zs → Begins xs zs
begins_along xs ys zs first second =
    (first.0 ++ second.0, second.1 ∙ ap (λ list. list ++ second.0) first.1 ∙ append_assoc xs first.0 second.0)

pub get_begins : {X : Type 0} (old more : List X) (i : ℕ) (x : X) → slice_get old i ≡ Some x → slice_get (old ++ more) i ≡ Some x
get_begins [] more i x is = let none : None ≡ Some x = is in absurd (cc)
get_begins (y ∷ ys) more zero x is = is
get_begins (y ∷ ys) more (suc i) x is = get_begins ys more i x is

marked_same : (mark : Bool) (xs ys : List VType) → xs ≡ ys → IsMarked mark xs → IsMarked mark ys
marked_same mark xs ys same marked = subst (λ (list : List VType). IsMarked mark list) same marked

-- ---- operands

pub operands_cons : (cells : List Cell) (height top : ℕ) (cell : Cell) → slice_get cells top ≡ Some cell
    → operands_of cells (suc height) top ≡ cell.value ∷ operands_of cells height cell.below
unfolding operands_of
operands_cons cells height top cell is = ap (λ (o : Option Cell). option_map_or (λ (c : Cell). c.value ∷ operands_of cells height c.below) o []) is

pub record OperandsStay (old new : List Cell) (height top : ℕ) : Type 0 where
  pub has : HasOperands new height top
  pub same : operands_of new height top ≡ operands_of old height top

more_operands : (old more : List Cell) (height top : ℕ) → HasOperands old height top → OperandsStay old (old ++ more) height top
unfolding HasOperands operands_of
more_operands old more zero top has = record { has = tt; same = refl }
more_operands old more (suc height) top has =
    let cell = has.0 in
    let is = get_begins old more top cell has.1 in
    let below = more_operands old more height cell.below has.3 in
    let same = ap (λ (list : List VType). cell.value ∷ list) below.same in
    record {
      has = (cell, is, marked_same cell.unconstructed (cell.value ∷ operands_of old height cell.below) (cell.value ∷ operands_of (old ++ more) height cell.below) (sym same) has.2, below.has);
      same = operands_cons (old ++ more) height top cell is ∙ same ∙ sym (operands_cons old height top cell has.1);
    }

pub operands_stay : (old new : List Cell) (height top : ℕ) → Begins old new → HasOperands old height top → OperandsStay old new height top
operands_stay old new height top begins has =
    subst (λ (list : List Cell). OperandsStay old list height top) (sym begins.1) (more_operands old begins.0 height top has)

-- ---- locals

pub locals_leaf : (leaves : List VType) (branches : List Branch) (root : ℕ) (value : VType) → slice_get leaves root ≡ Some value
    → locals_of leaves branches zero root ≡ value ∷ []
unfolding locals_of
locals_leaf leaves branches root value is = ap (λ (o : Option VType). option_to_list o) is

pub locals_fork : (leaves : List VType) (branches : List Branch) (depth root : ℕ) (branch : Branch) → slice_get branches root ≡ Some branch
    → locals_of leaves branches (suc depth) root ≡ locals_of leaves branches depth branch.left ++ locals_of leaves branches depth branch.right
unfolding locals_of
locals_fork leaves branches depth root branch is =
    ap (λ (o : Option Branch). option_map_or (λ (b : Branch). locals_of leaves branches depth b.left ++ locals_of leaves branches depth b.right) o []) is

pub record LocalsStay (leaves new_leaves : List VType) (branches new_branches : List Branch) (depth root : ℕ) : Type 0 where
  pub has : HasLocals new_leaves new_branches depth root
  pub same : locals_of new_leaves new_branches depth root ≡ locals_of leaves branches depth root

more_locals : (leaves more_leaves : List VType) (branches more_branches : List Branch) (depth root : ℕ) → HasLocals leaves branches depth root
    → LocalsStay leaves (leaves ++ more_leaves) branches (branches ++ more_branches) depth root
unfolding HasLocals
more_locals leaves more_leaves branches more_branches zero root has =
    let is = get_begins leaves more_leaves root has.0 has.1 in
    record {
      has = (has.0, is);
      same = locals_leaf (leaves ++ more_leaves) (branches ++ more_branches) root has.0 is ∙ sym (locals_leaf leaves branches root has.0 has.1);
    }
more_locals leaves more_leaves branches more_branches (suc depth) root has =
    let branch = has.0 in
    let is = get_begins branches more_branches root branch has.1 in
    let left = more_locals leaves more_leaves branches more_branches depth branch.left has.3 in
    let right = more_locals leaves more_leaves branches more_branches depth branch.right has.4 in
    let locals : ℕ → List VType = locals_of leaves branches depth in
    let more : ℕ → List VType = locals_of (leaves ++ more_leaves) (branches ++ more_branches) depth in
    let same : more branch.left ++ more branch.right ≡ locals branch.left ++ locals branch.right =
    ap (λ (list : List VType). list ++ more branch.right) left.same ∙ ap (λ (list : List VType). locals branch.left ++ list) right.same
    in
    record {
      has = (branch, is, marked_same branch.unconstructed (locals branch.left ++ locals branch.right) (more branch.left ++ more branch.right) (sym same) has.2, left.has, right.has);
      same = locals_fork (leaves ++ more_leaves) (branches ++ more_branches) depth root branch is ∙ same ∙ sym (locals_fork leaves branches depth root branch has.1);
    }

pub locals_stay : (leaves new_leaves : List VType) (branches new_branches : List Branch) (depth root : ℕ) → Begins leaves new_leaves → Begins branches new_branches
    → HasLocals leaves branches depth root → LocalsStay leaves new_leaves branches new_branches depth root
locals_stay leaves new_leaves branches new_branches depth root first second has =
    subst (λ (list : List VType). LocalsStay leaves list branches new_branches depth root) (sym first.1)
    (subst (λ (list : List Branch). LocalsStay leaves (leaves ++ first.0) branches list depth root) (sym second.1) (more_locals leaves first.0 branches second.0 depth root has))

-- ---- frames

pub grows_itself : (stored : Stored) → Grows stored stored
grows_itself stored = record {
  cells = begins_itself stored.cells;
  leaves = begins_itself stored.leaves;
  branches = begins_itself stored.branches;
  depth = refl;
  locals = refl;
}

pub grows_along : (first second third : Stored) → Grows first second → Grows second third → Grows first third
grows_along first second third a b = record {
  cells = begins_along first.cells second.cells third.cells a.cells b.cells;
  leaves = begins_along first.leaves second.leaves third.leaves a.leaves b.leaves;
  branches = begins_along first.branches second.branches third.branches a.branches b.branches;
  depth = b.depth ∙ a.depth;
  locals = b.locals ∙ a.locals;
}

pub frame_stays : (old new : Stored) (id : FrameId) → Grows old new → IsFrame old id → IsFound new id (frame_of old id)
frame_stays old new id grows frame =
    let operands = operands_stay old.cells new.cells id.height id.operands grows.cells frame.operands in
    let locals = locals_stay old.leaves new.leaves old.branches new.branches old.depth id.locals grows.leaves grows.branches frame.locals in
    let depth = grows.depth in
    let same : take new.locals (locals_of new.leaves new.branches new.depth id.locals) ≡ take old.locals (locals_of old.leaves old.branches old.depth id.locals) =
    ap (λ n. take n (locals_of new.leaves new.branches new.depth id.locals)) grows.locals
    ∙ ap (λ d. take old.locals (locals_of new.leaves new.branches d id.locals)) depth
    ∙ ap (λ (list : List VType). take old.locals list) locals.same
    in
    record {
      there = record { operands = operands.has; locals = subst (λ d. HasLocals new.leaves new.branches d id.locals) (sym depth) locals.has };
      is =
          ap (λ (list : List VType). let f : VFrame = record { locals = list; stack = operands_of new.cells id.height id.operands; pending = id.pending } in f) same
          ∙ ap (λ (list : List VType). let f : VFrame = record { locals = take old.locals (locals_of old.leaves old.branches old.depth id.locals); stack = list; pending = id.pending } in f) operands.same;
    }
