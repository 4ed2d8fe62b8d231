-- The split machine follows the typed one where an amount is added to a local.
use Rattle.std.proofs.Common.{◌≡◌, inl, inr, ℕ, ℤ, ◌+◌, ◌<◌, FitsSigned, true, nat_eq, List, [], ◌∷◌, map, length, Option, Some, None, option_and_then, refl, sym, ap, ap₂, subst, ◌∙◌}
use Rattle.std.specs.Prelude.{◌+ℤ◌, slice_get}
use Rattle.std.specs.Int.{w32, int_wrap}
use Rattle.std.specs.Option.{option_map_or}
use Rattle.std.proofs.lemmas.Bool.{cases_Bool, eqb-true}
use Rattle.cell_num.specs.Cells.{low_cell, high_cell}
use Rattle.cell_num.proofs.CellLaws.{joined_cells-split}
use Rattle.image_instr.specs.declared.insn.MInsn.TheVariants as insns
use Rattle.image_instr.specs.declared.insn.Width.{Width}
use Rattle.image_instr.specs.declared.insn.Width.TheVariants as width
use Rattle.image_instr.specs.Insn.{insn_bytes}
use Rattle.insn_form.specs.declared.ValueKind.TheVariants as value_kind
use Rattle.body_form.specs.declared.op.Op.TheVariants as op
use Rattle.body_form.specs.declared.types.VType.{VType}
use Rattle.jvm_model.specs.ImageExpansion.{alone}
use Rattle.jvm_model.specs.State.{Value, Whole, Null, Name}
use Rattle.jvm_model.specs.TypesRules.{Change, has_kind}
use Rattle.jvm_model.specs.TypesRules as rules
use Rattle.jvm_model.specs.WidthsSlots.{reference_locals}
use Rattle.mote_model.specs.SplitMoves as split_moves
use Rattle.mote_model.specs.SplitMoves.{with_cell_locals, cells_of, number_of, with_cells_at, using}
use Rattle.mote_model.specs.SplitState as split
use Rattle.typed_machine.specs.TypedState.{State}
use Rattle.typed_machine.specs.TypedStep as step
use Rattle.typed_machine.specs.TypedStep.{local_at, move}
use Rattle.typed_machine.specs.TypedWorld.{pc_after}
use Rattle.match_states.specs.MatchedFrames.{reference_of, local_reference}
use Rattle.match_states.specs.Setting.{Setting}
use Rattle.match_code.specs.Standing.{emitted_at}
use Rattle.match_code.proofs.QuietRuns.{OverNone}
use Rattle.follow_numbers.specs.WideCode.{IsWideCode, StandsAt}
use Rattle.follow_numbers.proofs.NextStates.{body_at, found_at, typed_move, refs_at, cells_at}
use Rattle.follow_numbers.proofs.NextMoves.{AreMatched}
use Rattle.follow_operands.proofs.LocalRules.{whole_by, rule_here, low_local, holds, where_true, cannot_be_stuck}
use Rattle.follow_operands.proofs.MovedFrames.{frame_with, one_loud}
use Rattle.follow_operands.proofs.NumberLocals.{two_here, held_two, inside_here, cells_after, number_set}
use Rattle.follow_operands.proofs.SetFrames.{locals_set, reference_beside, reference_here}
use Rattle.follow_operands.proofs.WideLocals.{source_cell}
use Rattle.follow_operands.proofs.WrittenCells.{writes}

module _ {X Y : Type 0} (f g : X → Y) (same : (x : X) → f x ≡ g x) where
  map_same : (xs : List X) → map f xs ≡ map g xs
  map_same [] = refl
  map_same (x ∷ xs) = ap₂ (λ (y : Y) (l : List Y). y ∷ l) (same x) (map_same xs)

module _ {setting : Setting} {state : State} {other : split.State} (code : IsWideCode setting) (local : ℕ) (amount : ℤ) (here : StandsAt setting state other (op.Inc local amount)) where
  abbrev next : Option ℕ
  next = pc_after (body_at here).ops here.frame.pc

  module _ (number : ℤ) (at : local_at here.frame local ≡ Some (Whole number)) (typed : move setting.world state ≡ step.increment state here.frame here.frames next local amount (Some (Whole number))) where
    -- the type of the local is that of an int, so that its number has 32 bits
    int_kind : (found : Option VType) (type : VType) → found ≡ Some type → rules.increment (rule_here code here).types found ≡ Some (rule_here code here).change → has_kind value_kind.Int type ≡ true
    int_kind found type there rule =
        let is = sym (ap (rules.increment (rule_here code here).types) there) ∙ rule in
        (where_true (has_kind value_kind.Int type) _ (rule_here code here).change is).0

    number_fits : FitsSigned w32 number
    number_fits =
        let held = holds code here local (Whole number) at in
        let kind = int_kind (slice_get (rule_here code here).types.locals local) held.type held.there (rule_here code here).rule in
        let whole = whole_by setting.world state.objects (rule_here code here).of held.type kind (Whole number) held.fits in
        let same : whole.0 ≡ number = same_whole whole.0 whole.1 in
        subst (FitsSigned w32) same whole.2
      where
        same_whole : (found : ℤ) → Whole number ≡ Whole found → found ≡ number
        same_whole found is = cc

    abbrev sum : ℤ
    sum = int_wrap w32 (number +ℤ amount)

    abbrev set : List (Option Value)
    set = locals_set code here local (Whole sum)

    low : local < length here.frame.locals
    low = (holds code here local (Whole number) at).low

    -- a whole number stands in no slot, before and after
    same_references : (beside : ℕ) → local_reference here.frame beside ≡ local_reference (frame_with code here set) beside
    same_references beside =
        elim (cases_Bool (nat_eq beside local)) [
          | inl same ↦
              let is = eqb-true beside local same in
              ap (local_reference here.frame) is
              ∙ ap (λ found. option_map_or reference_of found None) at
              ∙ sym (ap (local_reference (frame_with code here set)) is ∙ reference_here code here local (Whole sum) low)
          | inr differs ↦ sym (reference_beside code here local (Whole sum) beside differs)
        ]

    adds : AreMatched setting state other
    adds =
        let body = body_at here in
        let held = here.youngest.locals.numbers local number at in
        let cell = held.cell in
        let written = cells_after code here local sum low cell held.has in
        let insn = insns.Inc width.Two cell amount in
        let after = here.split.pc + length (insn_bytes insn []) in
        let between = with_cell_locals here.split written in
        let last = split_moves.at_pc between after in
        let emitted : emitted_at setting body here.frame.pc (op.Inc local amount) ≡ alone insn =
        ap₂ (λ (w : Width) (cell : ℕ). alone (insns.Inc w cell amount)) (two_here code here local)
        (source_cell setting code.compiled body (found_at here).of_set local (low_local code here local low) cell held.has) in
        let adds_cells : List ℕ → Option (List ℕ) = λ cells. with_cells_at here.split.cells.locals cell (cells_of width.Two (int_wrap w32 (number_of cells +ℤ amount))) in
        let becomes = ap (option_and_then adds_cells) (held_two code here local number held)
        ∙ ap (λ (n : ℤ). with_cells_at here.split.cells.locals cell (cells_of width.Two (int_wrap w32 (n +ℤ amount)))) (joined_cells-split number number_fits)
        ∙ writes here.split.cells.locals cell (low_cell sum) (high_cell sum) (inside_here code here local low cell held.has) in
        one_loud code here set here.frame.operands typed [] insn [] [] emitted here.split between last (OverNone here.split) refl
        (ap (λ found. using found (λ locals. split_moves.goes_on other (with_cell_locals here.split locals) here.others after)) becomes) (OverNone last)
        (record {
          method = refl;
          locals =
              number_set code here local sum low cell held.has here.split.refs.locals
              (here.youngest.locals.refs_are ∙ map_same (local_reference here.frame) (local_reference (frame_with code here set)) same_references (reference_locals body));
          refs = refs_at here code;
          cells = cells_at here code;
        })

  inc_in : (found : Option Value) → local_at here.frame local ≡ found → move setting.world state ≡ step.increment state here.frame here.frames next local amount found → AreMatched setting state other
  inc_in None at typed = absurd (cannot_be_stuck code here typed)
  inc_in (Some Null) at typed = absurd (cannot_be_stuck code here typed)
  inc_in (Some (Name name)) at typed = absurd (cannot_be_stuck code here typed)
  inc_in (Some (Whole number)) at typed = adds number at typed

  pub inc_follows : AreMatched setting state other
  inc_follows = inc_in (local_at here.frame local) refl (typed_move here)
