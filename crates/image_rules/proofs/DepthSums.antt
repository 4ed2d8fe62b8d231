-- Machine instructions one after another that find their operands, from one depth to another.
use Rattle.std.proofs.Common.{◌≡◌, ℕ, ◌+◌, List, [], ◌∷◌, ◌++◌, refl, sym, ap, ap₂, subst, ◌∙◌, arith}
use Rattle.std.proofs.lemmas.List.Sums.{sum_by-cons, sum_by-append}
use Rattle.image_instr.specs.declared.signature.Effect.{Effect}
use Rattle.image_instr.specs.declared.insn.Kind.{Kind}
use Rattle.image_instr.specs.declared.insn.MInsn.{MInsn}
use Rattle.image_instr.specs.declared.insn.SwitchRow.{SwitchRow}
use Rattle.image_instr.specs.Effect.{moves, refs_of, cells_of}
use Rattle.image_form.specs.declared.record.Image.{Image}
use Rattle.image_form.specs.declared.record.Method.{Method}
use Rattle.image_check.specs.Visits.{Depth, depth, suffix, moved_by, HasOperands, ReturnsResult}
use Rattle.body_form.specs.declared.types.VType.{VType}
use Rattle.jvm_model.specs.ImageExpansion.{Emitted, alone, refs_in, cells_in}
use Rattle.image_rules.specs.Depths.{GoWell, MoveRight, depth_behind, depth_of, wide}

-- ---- sums

pub refs_cons : (shape : Kind) (shapes : List Kind) → refs_in (shape ∷ shapes) ≡ refs_of shape + refs_in shapes
refs_cons shape shapes = sum_by-cons refs_of shape shapes

pub cells_cons : (shape : Kind) (shapes : List Kind) → cells_in (shape ∷ shapes) ≡ cells_of shape + cells_in shapes
cells_cons shape shapes = sum_by-cons cells_of shape shapes

pub depth_append : (first second : List Kind) → depth_of (first ++ second) ≡ depth (refs_in first + refs_in second) (cells_in first + cells_in second)
depth_append first second = ap₂ depth (sum_by-append refs_of first second) (sum_by-append cells_of first second)

pub depth_cons : (shape : Kind) (shapes : List Kind) → depth_of (shape ∷ shapes) ≡ depth (refs_of shape + refs_in shapes) (cells_of shape + cells_in shapes)
depth_cons shape shapes = ap₂ depth (refs_cons shape shapes) (cells_cons shape shapes)

-- ---- from one depth to another

module _ (image : Image) (method : Method) where
  -- each has its operands, and the depth behind them is this one
  pub record Goes (from : Depth) (emitted : List Emitted) (to : Depth) : Type 0 where
    pub well : GoWell image method from emitted
    pub behind : depth_behind image from emitted ≡ to

  -- over the shapes of types
  pub moves_right : (before after : List VType) (emitted : List Emitted) → Goes (depth_of (wide before)) emitted (depth_of (wide after)) → MoveRight image method before emitted after
  moves_right before after emitted goes = record { well = goes.well; behind = goes.behind }

  -- none of them
  pub goes_none : (from : Depth) → Goes from [] from
  unfolding GoWell depth_behind
  goes_none from = record { well = tt; behind = refl }

  -- the first, and then the others
  pub goes_on_with : (from middle to : Depth) (first second : List Emitted) → Goes from first middle → Goes middle second to → Goes from (first ++ second) to
  unfolding GoWell depth_behind
  goes_on_with from middle to [] second one two = subst (λ (d : Depth). Goes d second to) (sym one.behind) two
  goes_on_with from middle to (emitted ∷ first) second one two =
      let well = one.well in
      let rest = goes_on_with (suffix (moved_by image emitted.0) from) middle to first second (record { well = well.2; behind = one.behind }) two in
      record { well = (well.0, well.1, rest.well); behind = rest.behind }

  -- a machine instruction by what it moves
  pub goes_over : (insn : MInsn) (rows : List SwitchRow) (ref_pop ref_push cell_pop cell_push refs cells : ℕ) → ReturnsResult method insn → moved_by image insn ≡ moves ref_pop ref_push cell_pop cell_push
      → Goes (depth (ref_pop + refs) (cell_pop + cells)) ((insn, rows) ∷ []) (depth (ref_push + refs) (cell_push + cells))
  unfolding GoWell depth_behind
  goes_over insn rows ref_pop ref_push cell_pop cell_push refs cells returns moved =
      let from = depth (ref_pop + refs) (cell_pop + cells) in
      let effect = moves ref_pop ref_push cell_pop cell_push in
      let has : HasOperands effect from = record { refs = omega arith; cells = omega arith } in
      let to : suffix effect from ≡ depth (ref_push + refs) (cell_push + cells) = ap₂ depth (omega arith) (omega arith) in
      record {
        well = (subst (λ (e : Effect). HasOperands e from) (sym moved) has, returns, tt);
        behind = ap (λ (e : Effect). suffix e from) moved ∙ to;
      }

  -- one that takes operands of these shapes off others, and pushes operands of those
  pub goes_by : (insn : MInsn) (rows : List SwitchRow) (popped pushed rest : List Kind) → ReturnsResult method insn
      → moved_by image insn ≡ moves (refs_in popped) (refs_in pushed) (cells_in popped) (cells_in pushed)
      → Goes (depth_of (popped ++ rest)) ((insn, rows) ∷ []) (depth_of (pushed ++ rest))
  goes_by insn rows popped pushed rest returns moved =
      subst (λ (d : Depth). Goes d ((insn, rows) ∷ []) (depth_of (pushed ++ rest))) (sym (depth_append popped rest))
      (subst (λ (d : Depth). Goes (depth (refs_in popped + refs_in rest) (cells_in popped + cells_in rest)) ((insn, rows) ∷ []) d) (sym (depth_append pushed rest))
      (goes_over insn rows (refs_in popped) (refs_in pushed) (cells_in popped) (cells_in pushed) (refs_in rest) (cells_in rest) returns moved))

  -- the same of one that pushes alone, or takes alone
  pub goes_push : (insn : MInsn) (shape : Kind) (rest : List Kind) → ReturnsResult method insn → moved_by image insn ≡ moves 0 (refs_of shape) 0 (cells_of shape)
      → Goes (depth_of rest) (alone insn) (depth_of (shape ∷ rest))
  goes_push insn shape rest returns moved = goes_by insn [] [] (shape ∷ []) rest returns (moved ∙ ap₂ (λ refs cells. moves 0 refs 0 cells) (omega arith) (omega arith))

  pub goes_pop : (insn : MInsn) (shape : Kind) (rest : List Kind) → ReturnsResult method insn → moved_by image insn ≡ moves (refs_of shape) 0 (cells_of shape) 0
      → Goes (depth_of (shape ∷ rest)) (alone insn) (depth_of rest)
  goes_pop insn shape rest returns moved = goes_by insn [] (shape ∷ []) [] rest returns (moved ∙ ap₂ (λ refs cells. moves refs 0 cells 0) (omega arith) (omega arith))
