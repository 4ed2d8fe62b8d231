-- Steps along a chain of cells.
use Rattle.std.proofs.Common.{◌≡◌, ℕ, zero, suc, ◌+◌, ◌<◌, min, Bool, true, false, ◌||◌, not, List, [], ◌∷◌, ◌++◌, length, slice_get, Some, None, take, drop, refl, sym, ap, subst, ◌∙◌, arith, add-one}
use Rattle.std.specs.List.{list_any}
use Rattle.std.proofs.lemmas.Option.{slice_get_within, same_Some, slice_get_past}
use Rattle.body_form.specs.declared.types.VType.{VType}
use Rattle.jvm_model.specs.TypesRules.{is_same_object}
use Rattle.type_table.specs.declared.store.Cell.{Cell}
use Rattle.type_table.specs.declared.operands.Chain.{Chain}
use Rattle.type_table.specs.Frames.{IsMarked, is_unconstructed, operands_of, HasOperands}
use Rattle.type_table.specs.Chains.{chain_of, HasChain, IsTop, IsChain}
use Rattle.type_table.proofs.Growing.{operands_cons, operands_stay}
use Rattle.type_table.proofs.Lists.{get_push, get_drop, one_more}
use Rattle.type_table.proofs.Lacking.{left_false, right_false, both_false, all_constructed_lack, not_true}

-- the top cell is there
pub top_within : (cells : List Cell) (height top : ℕ) → 0 < height → HasOperands cells height top → top < length cells
unfolding HasOperands
top_within cells zero top some has = absurd (omega arith)
top_within cells (suc height) top some has = slice_get_within cells top has.0 has.1

top_parts : (cells : List Cell) (height top : ℕ) (cell : Cell) → HasOperands cells (suc height) top → slice_get cells top ≡ Some cell
    → IsTop cells (record { height = suc height; top = top }) cell (record { height = height; top = cell.below })
unfolding HasOperands
top_parts cells height top cell has is =
    let same : has.0 ≡ cell = same_Some has.0 cell (sym has.1 ∙ is) in
    let operands = operands_cons cells height top cell is in
    record {
      has = subst (λ (c : Cell). HasOperands cells height c.below) same has.3;
      height = sym (add-one height);
      operands = operands;
      marked = λ clear.
          ap (list_any is_unconstructed) operands ∙ subst (λ (c : Cell). IsMarked c.unconstructed (c.value ∷ operands_of cells height c.below)) same has.2 clear;
    }

-- what is read at the top of a chain, and the chain below it
pub is_top : (cells : List Cell) (height top below : ℕ) (cell : Cell) → height ≡ suc below → HasOperands cells height top → slice_get cells top ≡ Some cell
    → IsTop cells (record { height = height; top = top }) cell (record { height = below; top = cell.below })
is_top cells height top below cell high has is =
    subst (λ n. IsTop cells (record { height = n; top = top }) cell (record { height = below; top = cell.below })) (sym high)
    (top_parts cells below top cell (subst (λ n. HasOperands cells n top) high has) is)

-- as many operands as the chain is high
pub length_operands : (cells : List Cell) (height top : ℕ) → HasOperands cells height top → length (operands_of cells height top) ≡ height
unfolding HasOperands operands_of
length_operands cells zero top has = refl
length_operands cells (suc height) top has = ap length (operands_cons cells height top has.0 has.1) ∙ ap suc (length_operands cells height has.0.below has.3)

pub no_operands : (cells : List Cell) (height top : ℕ) → height ≡ 0 → operands_of cells height top ≡ []
unfolding operands_of
no_operands cells height top none = ap (λ n. operands_of cells n top) none

-- ---- a walk downwards

-- so many operands were passed
pub record IsWalked (cells : List Cell) (chain : Chain) (count : ℕ) (rest : Chain) : Type 0 where
  pub has : HasChain cells rest
  pub operands : chain_of cells rest ≡ drop count (chain_of cells chain)
  pub height : rest.height + count ≡ chain.height

pub walk_on : (cells : List Cell) (chain : Chain) (count : ℕ) (rest below : Chain) (cell : Cell) → IsWalked cells chain count rest → IsTop cells rest cell below
    → IsWalked cells chain (count + 1) below
walk_on cells chain count rest below cell walked top =
    record {
      has = top.has;
      operands = sym (ap (λ n. drop n (chain_of cells chain)) (add-one count) ∙ (one_more (chain_of cells chain) (chain_of cells below) cell.value count (sym walked.operands ∙ top.operands)).rest);
      height = omega (arith, walked.height, top.height);
    }

pub taken_on : (cells : List Cell) (chain : Chain) (count : ℕ) (rest below : Chain) (cell : Cell) → IsWalked cells chain count rest → IsTop cells rest cell below
    → take (count + 1) (chain_of cells chain) ≡ take count (chain_of cells chain) ++ cell.value ∷ []
taken_on cells chain count rest below cell walked top =
    ap (λ n. take n (chain_of cells chain)) (add-one count) ∙ (one_more (chain_of cells chain) (chain_of cells below) cell.value count (sym walked.operands ∙ top.operands)).taken

-- ---- a push

pushed_cell : (old new : List Cell) (height top : ℕ) (cell : Cell) → new ≡ old ++ cell ∷ [] → HasOperands old height cell.below → top ≡ length old
    → IsMarked cell.unconstructed (cell.value ∷ operands_of old height cell.below)
    → IsChain new (record { height = suc height; top = top }) (cell.value ∷ operands_of old height cell.below)
unfolding HasOperands
pushed_cell old new height top cell items has at marked =
    let stays = operands_stay old new height cell.below (cell ∷ [], items) has in
    let is : slice_get new top ≡ Some cell = ap (λ (list : List Cell). slice_get list top) items ∙ ap (slice_get (old ++ cell ∷ [])) at ∙ get_push old cell in
    let same = ap (λ (list : List VType). cell.value ∷ list) stays.same in
    record {
      has = (cell, is, subst (λ (list : List VType). IsMarked cell.unconstructed list) (sym same) marked, stays.has);
      is = operands_cons new height top cell is ∙ same;
    }

pub is_pushed : (old new : List Cell) (chain : Chain) (height top : ℕ) (value : VType) (here mark : Bool) → HasChain old chain
    → new ≡ old ++ record { value = value; below = chain.top; unconstructed = here || mark } ∷ [] → height ≡ chain.height + 1 → top ≡ length old
    → here ≡ is_unconstructed value → IsMarked mark (chain_of old chain) → IsChain new (record { height = height; top = top }) (value ∷ chain_of old chain)
is_pushed old new chain height top value here mark has items high at marked_here marked =
    subst (λ n. IsChain new (record { height = n; top = top }) (value ∷ chain_of old chain)) (sym (high ∙ add-one chain.height))
    (pushed_cell old new chain.height top (record { value = value; below = chain.top; unconstructed = here || mark }) items has at
    (λ clear. both_false (is_unconstructed value) (list_any is_unconstructed (chain_of old chain)) (sym marked_here ∙ left_false here mark clear) (marked (right_false here mark clear))))

-- ---- reading

-- an operand below the top one
pub operand_found : (cells : List Cell) (chain rest below : Chain) (cell : Cell) (position count : ℕ) → IsChain cells rest (drop count (chain_of cells chain)) → rest.height + count ≡ chain.height
    → count ≡ min position chain.height → IsTop cells rest cell below → Some cell.value ≡ slice_get (chain_of cells chain) position
operand_found cells chain rest below cell position count is height least top =
    let same : position ≡ count = omega (arith, top.height) in
    sym (ap (slice_get (chain_of cells chain)) same ∙ get_drop (chain_of cells chain) count ∙ ap (λ (list : List VType). slice_get list 0) (sym is.is ∙ top.operands))

pub operand_lacks : (cells : List Cell) (chain rest : Chain) (position count : ℕ) → HasChain cells chain → rest.height + count ≡ chain.height → count ≡ min position chain.height → rest.height ≡ 0
    → None ≡ slice_get (chain_of cells chain) position
operand_lacks cells chain rest position count has height least none =
    sym (slice_get_past (chain_of cells chain) position (omega (arith, length_operands cells chain.height chain.top has)))

-- ---- objects

pub marked_lacks : (cells : List Cell) (chain below : Chain) (cell : Cell) (object : VType) → IsTop cells chain cell below → not cell.unconstructed ≡ true
    → list_any (is_same_object object) (chain_of cells chain) ≡ false
marked_lacks cells chain below cell object top clear = all_constructed_lack object (chain_of cells chain) (top.marked (not_true cell.unconstructed clear))

-- the object is not the top one
pub lacks_below : (cells : List Cell) (chain below : Chain) (cell : Cell) (object : VType) → IsTop cells chain cell below → is_same_object object cell.value ≡ false
    → list_any (is_same_object object) (chain_of cells chain) ≡ list_any (is_same_object object) (chain_of cells below)
lacks_below cells chain below cell object top other =
    ap (list_any (is_same_object object)) top.operands ∙ ap (λ b. b || list_any (is_same_object object) (chain_of cells below)) other
