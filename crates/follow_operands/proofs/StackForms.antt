-- The split machine follows the typed one where operands are removed, copied or exchanged.
use Rattle.std.proofs.Common.{◌≡◌, ℕ, ◌+◌, Bool, true, false, List, [], ◌∷◌, ◌++◌, map, length, Option, Some, None, refl, sym, ap, ap₂, subst, ◌∙◌}
use Rattle.account.specs.Account.{Stuck}
use Rattle.image_instr.specs.declared.insn.MInsn.TheVariants as insns
use Rattle.image_instr.specs.Insn.{insn_bytes}
use Rattle.insn_form.specs.declared.StackForm.{StackForm}
use Rattle.insn_form.specs.declared.StackForm.TheVariants as form
use Rattle.body_form.specs.declared.op.Op.TheVariants as op
use Rattle.jvm_model.specs.ImageExpansion.{alone_where, refs_in, cells_in, remove, copy, exchange, restack}
use Rattle.jvm_model.specs.Operands.{restacked}
use Rattle.jvm_model.specs.State.{Value, Whole}
use Rattle.mote_model.specs.State.{Reference, Half, Frame as SplitFrame}
use Rattle.mote_model.specs.SplitMoves as split_moves
use Rattle.mote_model.specs.SplitMoves.{with_refs, with_cells, using, dupx, swapped, without}
use Rattle.mote_model.specs.SplitState as split
use Rattle.typed_machine.specs.TypedMoves.{goes_on}
use Rattle.typed_machine.specs.TypedState.{State}
use Rattle.typed_machine.specs.TypedStep as step
use Rattle.typed_machine.specs.TypedStep.{move}
use Rattle.typed_machine.specs.TypedWorld.{pc_after}
use Rattle.type_safety.specs.Safety.{MoveFits}
use Rattle.match_states.specs.Setting.{Setting}
use Rattle.match_code.specs.Standing.{emitted_at}
use Rattle.follow_numbers.specs.WideCode.{refs_of_value, cells_of_value, value_refs, value_cells, IsWideCode, StandsAt}
use Rattle.follow_numbers.proofs.NextStates.{body_at, typed_move, is_unstuck, refs_at, cells_at}
use Rattle.follow_numbers.proofs.NextMoves.{AreMatched}
use Rattle.follow_operands.specs.WideShapes.{kind_of_value}
use Rattle.follow_operands.proofs.ValueShapes.{refs-append, cells-append, refs_counted, cells_counted, shapes_here}
use Rattle.follow_operands.proofs.OperandMoves.{copied, exchanged, removed, are_some, none_left}
use Rattle.follow_operands.proofs.Halves.{halves_follow}

-- what a form does to operands, and what it is expanded to by their shapes
data Restacks (how : StackForm) (before : List Value) : Type 0 where
  Removes : (top below : List Value) → before ≡ top ++ below → restacked how before ≡ Some below
      → restack how (map kind_of_value before) ≡ remove (map kind_of_value top) → Restacks how before
  Copies : (top passed below : List Value) → before ≡ top ++ (passed ++ below) → restacked how before ≡ Some (top ++ (passed ++ (top ++ below)))
      → restack how (map kind_of_value before) ≡ copy (map kind_of_value top) (map kind_of_value passed) → Restacks how before
  Exchanges : (a b : Value) (below : List Value) → before ≡ a ∷ b ∷ below → restacked how before ≡ Some (b ∷ a ∷ below)
      → restack how (map kind_of_value before) ≡ exchange (kind_of_value a) (kind_of_value b) → Restacks how before
  Lacks : restacked how before ≡ None → Restacks how before

restacks : (how : StackForm) (before : List Value) → Restacks how before
restacks form.Pop (a ∷ below) = Removes (a ∷ []) below refl refl refl
restacks form.Pop2 (a ∷ b ∷ below) = Removes (a ∷ b ∷ []) below refl refl refl
restacks form.Dup (a ∷ below) = Copies (a ∷ []) [] below refl refl refl
restacks form.DupX1 (a ∷ b ∷ below) = Copies (a ∷ []) (b ∷ []) below refl refl refl
restacks form.DupX2 (a ∷ b ∷ c ∷ below) = Copies (a ∷ []) (b ∷ c ∷ []) below refl refl refl
restacks form.Dup2 (a ∷ b ∷ below) = Copies (a ∷ b ∷ []) [] below refl refl refl
restacks form.Dup2X1 (a ∷ b ∷ c ∷ below) = Copies (a ∷ b ∷ []) (c ∷ []) below refl refl refl
restacks form.Dup2X2 (a ∷ b ∷ c ∷ d ∷ below) = Copies (a ∷ b ∷ []) (c ∷ d ∷ []) below refl refl refl
restacks form.Swap (a ∷ b ∷ below) = Exchanges a b below refl refl refl
restacks how before = Lacks refl

-- how two operands are exchanged in both halves, whose values are these
record Swaps (a b : Value) : Type 0 where
  pub some_refs : Bool
  pub some_cells : Bool
  pub emitted : exchange (kind_of_value a) (kind_of_value b) ≡ alone_where some_refs insns.RSwap ++ alone_where some_cells (insns.Swap 2 2)
  pub refs : some_refs ≡ true → (below : List Reference) → swapped 1 1 (refs_of_value a ++ (refs_of_value b ++ below)) ≡ Some (refs_of_value b ++ (refs_of_value a ++ below))
  pub cells : some_cells ≡ true → (below : List ℕ) → swapped 2 2 (cells_of_value a ++ (cells_of_value b ++ below)) ≡ Some (cells_of_value b ++ (cells_of_value a ++ below))
  pub same_refs : some_refs ≡ false → (below : List Reference) → refs_of_value a ++ (refs_of_value b ++ below) ≡ refs_of_value b ++ (refs_of_value a ++ below)
  pub same_cells : some_cells ≡ false → (below : List ℕ) → cells_of_value a ++ (cells_of_value b ++ below) ≡ cells_of_value b ++ (cells_of_value a ++ below)

swaps : (a b : Value) → Swaps a b
swaps (Whole x) (Whole y) =
    record {
      some_refs = false;
      some_cells = true;
      emitted = refl;
      refs = λ e below. absurd cc;
      cells = λ e below. exchanged (cells_of_value (Whole x)) (cells_of_value (Whole y)) below;
      same_refs = λ e below. refl;
      same_cells = λ e below. absurd cc;
    }
swaps (Whole x) b =
    record {
      some_refs = false;
      some_cells = false;
      emitted = refl;
      refs = λ e below. absurd cc;
      cells = λ e below. absurd cc;
      same_refs = λ e below. refl;
      same_cells = λ e below. refl;
    }
swaps a (Whole y) =
    record {
      some_refs = false;
      some_cells = false;
      emitted = refl;
      refs = λ e below. absurd cc;
      cells = λ e below. absurd cc;
      same_refs = λ e below. refl;
      same_cells = λ e below. refl;
    }
swaps a b =
    record {
      some_refs = true;
      some_cells = false;
      emitted = refl;
      refs = λ e below. exchanged (refs_of_value a) (refs_of_value b) below;
      cells = λ e below. absurd cc;
      same_refs = λ e below. absurd cc;
      same_cells = λ e below. refl;
    }

module _ {setting : Setting} {state : State} {other : split.State} (code : IsWideCode setting) (how : StackForm) (here : StandsAt setting state other (op.Stack how)) where
  emitted_here : emitted_at setting (body_at here) here.frame.pc (op.Stack how) ≡ restack how (map kind_of_value here.frame.operands)
  emitted_here = ap (restack how) (shapes_here code here)

  typed_here : (values : List Value) → restacked how here.frame.operands ≡ Some values → move setting.world state ≡ goes_on state here.frame here.frames (pc_after (body_at here).ops here.frame.pc) values
  typed_here values is = typed_move here ∙ ap (step.restack state here.frame here.frames (pc_after (body_at here).ops here.frame.pc)) is

  module _ (values : List Value) where
    -- by what the references become, and the cells
    refs_to : (moved : Option (List Reference)) → moved ≡ Some (value_refs values) → (at : ℕ)
        → using moved (λ operands. split_moves.goes_on other (with_refs here.split operands) here.others at) ≡ split_moves.goes_on other (with_refs here.split (value_refs values)) here.others at
    refs_to moved is at = ap (λ found. using found (λ operands. split_moves.goes_on other (with_refs here.split operands) here.others at)) is

    cells_to : (does : List ℕ → Option (List ℕ)) → does here.split.cells.operands ≡ Some (value_cells values) → (frame : SplitFrame) → frame.cells ≡ here.split.cells → (at : ℕ)
        → using (does frame.cells.operands) (λ operands. split_moves.goes_on other (with_cells frame operands) here.others at) ≡ split_moves.goes_on other (with_cells frame (value_cells values)) here.others at
    cells_to does is frame same at =
        ap (λ found. using found (λ operands. split_moves.goes_on other (with_cells frame operands) here.others at)) (ap (λ (cells : Half ℕ). does cells.operands) same ∙ is)

  removes_follow : (top below : List Value) → here.frame.operands ≡ top ++ below → restacked how here.frame.operands ≡ Some below
      → restack how (map kind_of_value here.frame.operands) ≡ remove (map kind_of_value top) → AreMatched setting state other
  removes_follow top below are typed emitted =
      let refs = refs_in (map kind_of_value top) in
      let cells = cells_in (map kind_of_value top) in
      let all_refs = ap value_refs are ∙ refs-append top below in
      let all_cells = ap value_cells are ∙ cells-append top below in
      halves_follow code here below (typed_here below typed) (insns.RPop refs) (insns.Pop cells) (are_some refs) (are_some cells)
      (record {
        refs =
            λ some. refs_to below (without refs here.split.refs.operands)
            (ap₂ (λ (n : ℕ) (l : List Reference). without n l) (refs_counted top) (refs_at here code ∙ all_refs) ∙ removed (value_refs top) (value_refs below));
        cells =
            λ some frame same.
            record {
              keeps = record { method = refl; refs = refl };
              moves =
                  cells_to below (without cells)
                  (ap₂ (λ (n : ℕ) (l : List ℕ). without n l) (cells_counted top) (cells_at here code ∙ all_cells) ∙ removed (value_cells top) (value_cells below)) frame same
                  (frame.pc + length (insn_bytes (insns.Pop cells) []));
            };
        same_refs = λ none. all_refs ∙ ap (λ (l : List Reference). l ++ value_refs below) (none_left (value_refs top) refs (refs_counted top) none);
        same_cells = λ none. all_cells ∙ ap (λ (l : List ℕ). l ++ value_cells below) (none_left (value_cells top) cells (cells_counted top) none);
      })
      (emitted_here ∙ emitted)

  copies_follow : (top passed below : List Value) → here.frame.operands ≡ top ++ (passed ++ below) → restacked how here.frame.operands ≡ Some (top ++ (passed ++ (top ++ below)))
      → restack how (map kind_of_value here.frame.operands) ≡ copy (map kind_of_value top) (map kind_of_value passed) → AreMatched setting state other
  copies_follow top passed below are typed emitted =
      let values = top ++ (passed ++ (top ++ below)) in
      let refs = refs_in (map kind_of_value top) in
      let cells = cells_in (map kind_of_value top) in
      let refs_passed = refs_in (map kind_of_value passed) in
      let cells_passed = cells_in (map kind_of_value passed) in
      let all_refs : value_refs here.frame.operands ≡ value_refs top ++ (value_refs passed ++ value_refs below) =
      ap value_refs are ∙ refs-append top (passed ++ below) ∙ ap (λ (l : List Reference). value_refs top ++ l) (refs-append passed below) in
      let all_cells : value_cells here.frame.operands ≡ value_cells top ++ (value_cells passed ++ value_cells below) =
      ap value_cells are ∙ cells-append top (passed ++ below) ∙ ap (λ (l : List ℕ). value_cells top ++ l) (cells-append passed below) in
      let new_refs : value_refs values ≡ value_refs top ++ (value_refs passed ++ (value_refs top ++ value_refs below)) =
      refs-append top (passed ++ (top ++ below))
      ∙ ap (λ (l : List Reference). value_refs top ++ l) (refs-append passed (top ++ below))
      ∙ ap (λ (l : List Reference). value_refs top ++ (value_refs passed ++ l)) (refs-append top below) in
      let new_cells : value_cells values ≡ value_cells top ++ (value_cells passed ++ (value_cells top ++ value_cells below)) =
      cells-append top (passed ++ (top ++ below))
      ∙ ap (λ (l : List ℕ). value_cells top ++ l) (cells-append passed (top ++ below))
      ∙ ap (λ (l : List ℕ). value_cells top ++ (value_cells passed ++ l)) (cells-append top below) in
      halves_follow code here values (typed_here values typed) (insns.RDupX refs refs_passed) (insns.DupX cells cells_passed) (are_some refs) (are_some cells)
      (record {
        refs =
            λ some. refs_to values (dupx refs refs_passed here.split.refs.operands)
            (ap (λ (m : ℕ). dupx m refs_passed here.split.refs.operands) (refs_counted top)
            ∙ ap₂ (λ (n : ℕ) (l : List Reference). dupx (length (value_refs top)) n l) (refs_counted passed) (refs_at here code ∙ all_refs)
            ∙ copied (value_refs top) (value_refs passed) (value_refs below)
            ∙ ap (λ (l : List Reference). Some l) (sym new_refs));
        cells =
            λ some frame same.
            record {
              keeps = record { method = refl; refs = refl };
              moves =
                  cells_to values (dupx cells cells_passed)
                  (ap (λ (m : ℕ). dupx m cells_passed here.split.cells.operands) (cells_counted top)
                  ∙ ap₂ (λ (n : ℕ) (l : List ℕ). dupx (length (value_cells top)) n l) (cells_counted passed) (cells_at here code ∙ all_cells)
                  ∙ copied (value_cells top) (value_cells passed) (value_cells below)
                  ∙ ap (λ (l : List ℕ). Some l) (sym new_cells)) frame same
                  (frame.pc + length (insn_bytes (insns.DupX cells cells_passed) []));
            };
        same_refs =
            λ none. let left = none_left (value_refs top) refs (refs_counted top) none in
            all_refs ∙ ap (λ (l : List Reference). l ++ (value_refs passed ++ value_refs below)) left
            ∙ sym (new_refs ∙ ap (λ (l : List Reference). l ++ (value_refs passed ++ (l ++ value_refs below))) left);
        same_cells =
            λ none. let left = none_left (value_cells top) cells (cells_counted top) none in
            all_cells ∙ ap (λ (l : List ℕ). l ++ (value_cells passed ++ value_cells below)) left
            ∙ sym (new_cells ∙ ap (λ (l : List ℕ). l ++ (value_cells passed ++ (l ++ value_cells below))) left);
      })
      (emitted_here ∙ emitted)

  exchanges_follow : (a b : Value) (below : List Value) → here.frame.operands ≡ a ∷ b ∷ below → restacked how here.frame.operands ≡ Some (b ∷ a ∷ below)
      → restack how (map kind_of_value here.frame.operands) ≡ exchange (kind_of_value a) (kind_of_value b) → AreMatched setting state other
  exchanges_follow a b below are typed emitted =
      let values = b ∷ a ∷ below in
      let swap = swaps a b in
      halves_follow code here values (typed_here values typed) insns.RSwap (insns.Swap 2 2) swap.some_refs swap.some_cells
      (record {
        refs = λ some. refs_to values (swapped 1 1 here.split.refs.operands) (ap (λ (l : List Reference). swapped 1 1 l) (refs_at here code ∙ ap value_refs are) ∙ swap.refs some (value_refs below));
        cells =
            λ some frame same.
            record {
              keeps = record { method = refl; refs = refl };
              moves =
                  cells_to values (swapped 2 2) (ap (λ (l : List ℕ). swapped 2 2 l) (cells_at here code ∙ ap value_cells are) ∙ swap.cells some (value_cells below)) frame same
                  (frame.pc + length (insn_bytes (insns.Swap 2 2) []));
            };
        same_refs = λ none. ap value_refs are ∙ swap.same_refs none (value_refs below);
        same_cells = λ none. ap value_cells are ∙ swap.same_cells none (value_cells below);
      })
      (emitted_here ∙ emitted ∙ swap.emitted)

  restack_follows : Restacks how here.frame.operands → AreMatched setting state other
  restack_follows (Removes top below are typed emitted) = removes_follow top below are typed emitted
  restack_follows (Copies top passed below are typed emitted) = copies_follow top passed below are typed emitted
  restack_follows (Exchanges a b below are typed emitted) = exchanges_follow a b below are typed emitted
  restack_follows (Lacks none) =
      let stuck : move setting.world state ≡ Stuck = typed_move here ∙ ap (step.restack state here.frame here.frames (pc_after (body_at here).ops here.frame.pc)) none in
      absurd (subst (MoveFits setting.world setting.tables) stuck (is_unstuck here code))

  pub stack_follows : AreMatched setting state other
  stack_follows = restack_follows (restacks how here.frame.operands)
