-- Before a call the machine quietly cuts each argument for a parameter of a small type to its low cell.
use Rattle.std.proofs.Common.{◌≡◌, ℕ, ℤ, ◌+◌, Bool, true, false, ◌&&◌, nat_eq, List, [], ◌∷◌, ◌++◌, map, reverse, length, refl, sym, ap, subst, ◌∙◌, length-append}
use Rattle.std.specs.List.{AllByRecursion, flat_map}
use Rattle.std.proofs.lemmas.List.{append_assoc, length-reverse}
use Rattle.cell_num.specs.Cells.{low_cell, high_cell}
use Rattle.image_form.specs.declared.record.Image.{Image}
use Rattle.image_instr.specs.declared.insn.MInsn.TheVariants as insns
use Rattle.image_instr.specs.Insn.{insn_bytes}
use Rattle.class_pool.specs.declared.descriptor.Kind.{Kind}
use Rattle.jvm_model.specs.ImageExpansion.{Emitted, alone_where, cut_arguments, is_two}
use Rattle.jvm_model.specs.State.{Value, Whole, Null, Name}
use Rattle.jvm_model.specs.WidthsSlots.{passed_cells, is_small}
use Rattle.mote_model.specs.State.{Frame}
use Rattle.mote_model.specs.SplitMoves.{at_pc, with_cells}
use Rattle.mote_model.specs.SplitState.{State, with_frames}
use Rattle.match_code.proofs.QuietInsns.{drops}
use Rattle.match_code.proofs.QuietRuns.{GoesOverAll, OverNone, OverOne}
use Rattle.follow_numbers.specs.WideCode.{cells_of_value, value_cells}
use Rattle.follow_operands.specs.WideShapes.{kind_of_value}
use Rattle.follow_calls.proofs.ParameterKinds.{Argument, IsPassed, reference_kind, passed_of, passed_count, small_cells, large_cells}
use Rattle.follow_calls.proofs.PairedArguments.{kinds_of, values_of}

-- the cells of an argument that is passed, the high one on top
abbrev pub left_of : Argument → List ℕ
left_of argument = reverse (passed_of argument.0 argument.1)

abbrev pub left_cells : List Argument → List ℕ
left_cells arguments = flat_map left_of arguments

-- the operands that are handed on, the last argument on top, and those below
abbrev operands_with : List Argument → List Value → List Value
operands_with arguments rest = values_of arguments ++ rest

module _ (image : Image) (state : State) (others : List Frame) where
  -- where what cuts arguments leads, below others
  pub record Cuts (frame : Frame) (emitted : List Emitted) (cells : List ℕ) : Type 0 where
    pub last : Frame
    pub over : GoesOverAll image state others frame emitted last
    pub operands : last.cells.operands ≡ cells
    pub method : last.method ≡ frame.method
    pub refs : last.refs ≡ frame.refs
    pub locals : last.cells.locals ≡ frame.cells.locals

  -- an argument that stays as it is
  stays : (frame : Frame) (above : ℕ) (more : List Emitted) (cells : List ℕ) (cut : Bool) → cut ≡ false → Cuts frame more cells → Cuts frame (alone_where cut (insns.Drop above) ++ more) cells
  stays frame above more cells true is later = absurd cc
  stays frame above more cells false is later = later

  -- the high cell goes
  goes : (frame : Frame) (upper : List ℕ) (high : ℕ) (below : List ℕ) → frame.cells.operands ≡ upper ++ high ∷ below → (more : List Emitted) (cells : List ℕ)
      → Cuts (at_pc (with_cells frame (upper ++ below)) (frame.pc + length (insn_bytes (insns.Drop (length upper)) []))) more cells
      → (cut : Bool) → cut ≡ true → Cuts frame (alone_where cut (insns.Drop (length upper)) ++ more) cells
  goes frame upper high below has more cells later false is = absurd cc
  goes frame upper high below has more cells later true is =
      let cut = with_cells frame (upper ++ below) in
      record {
        last = later.last;
        over = OverOne frame cut later.last (insns.Drop (length upper)) [] more (drops image (with_frames state (frame ∷ others)) frame others upper high below has) later.over;
        operands = later.operands;
        method = later.method;
        refs = later.refs;
        locals = later.locals;
      }

  -- ---- one argument, and then the others

  abbrev CutsBelow : List ℕ → List Argument → List Value → Type 0
  CutsBelow upper arguments rest =
      (frame : Frame) → frame.cells.operands ≡ upper ++ value_cells (operands_with arguments rest)
      → Cuts frame (cut_arguments (length upper) (kinds_of arguments) (map kind_of_value (operands_with arguments rest))) (upper ++ (left_cells arguments ++ value_cells rest))

  module _ (arguments : List Argument) (rest : List Value) (upper : List ℕ) (k : Kind) (value : Value) (later : CutsBelow (upper ++ left_of (k, value)) arguments rest) (count : length (left_of (k, value)) ≡ passed_cells k) where
    abbrev more : List Emitted
    more = cut_arguments (length upper + passed_cells k) (kinds_of arguments) (map kind_of_value (operands_with arguments rest))

    -- those of the others are cut with more cells above them
    after_one : (frame : Frame) → frame.cells.operands ≡ upper ++ (left_of (k, value) ++ value_cells (operands_with arguments rest))
        → Cuts frame more (upper ++ (left_cells ((k, value) ∷ arguments) ++ value_cells rest))
    after_one frame has =
        let above : length (upper ++ left_of (k, value)) ≡ length upper + passed_cells k = length-append upper (left_of (k, value)) ∙ ap (λ (n : ℕ). length upper + n) count in
        let joined = append_assoc upper (left_of (k, value)) (value_cells (operands_with arguments rest)) in
        let cells : (upper ++ left_of (k, value)) ++ (left_cells arguments ++ value_cells rest) ≡ upper ++ (left_cells ((k, value) ∷ arguments) ++ value_cells rest) =
        append_assoc upper (left_of (k, value)) (left_cells arguments ++ value_cells rest)
        ∙ ap (λ (l : List ℕ). upper ++ l) (sym (append_assoc (left_of (k, value)) (left_cells arguments) (value_cells rest))) in
        subst (λ (n : ℕ). Cuts frame (cut_arguments n (kinds_of arguments) (map kind_of_value (operands_with arguments rest))) (upper ++ (left_cells ((k, value) ∷ arguments) ++ value_cells rest))) above
        (subst (λ (l : List ℕ). Cuts frame (cut_arguments (length (upper ++ left_of (k, value))) (kinds_of arguments) (map kind_of_value (operands_with arguments rest))) l) cells (later frame (has ∙ sym joined)))

    -- it has what is passed of it
    pub one_stays : (is_small k && is_two (kind_of_value value)) ≡ false → left_of (k, value) ≡ cells_of_value value → CutsBelow upper ((k, value) ∷ arguments) rest
    unfolding cut_arguments
    one_stays cut same frame has =
        stays frame (length upper) more (upper ++ (left_cells ((k, value) ∷ arguments) ++ value_cells rest)) (is_small k && is_two (kind_of_value value)) cut
        (after_one frame (has ∙ ap (λ (l : List ℕ). upper ++ (l ++ value_cells (operands_with arguments rest))) (sym same)))

  -- a whole number for a small type
  one_goes : (arguments : List Argument) (rest : List Value) (upper : List ℕ) (k : Kind) (number : ℤ) (later : CutsBelow (upper ++ left_of (k, Whole number)) arguments rest)
      (count : length (left_of (k, Whole number)) ≡ passed_cells k) → is_small k ≡ true → CutsBelow upper ((k, Whole number) ∷ arguments) rest
  unfolding cut_arguments
  one_goes arguments rest upper k number later count small frame has =
      let below = low_cell number ∷ value_cells (operands_with arguments rest) in
      let cut = at_pc (with_cells frame (upper ++ below)) (frame.pc + length (insn_bytes (insns.Drop (length upper)) [])) in
      let left : low_cell number ∷ [] ≡ left_of (k, Whole number) = ap reverse (sym (small_cells k number small)) in
      let came = after_one arguments rest upper k (Whole number) later count cut (ap (λ (l : List ℕ). upper ++ (l ++ value_cells (operands_with arguments rest))) left) in
      goes frame upper (high_cell number) below has (more arguments rest upper k (Whole number) later count) (upper ++ (left_cells ((k, Whole number) ∷ arguments) ++ value_cells rest))
      came (is_small k && true) (ap (λ (b : Bool). b && true) small)

  by_size : (arguments : List Argument) (rest : List Value) (upper : List ℕ) (k : Kind) (number : ℤ) → CutsBelow (upper ++ left_of (k, Whole number)) arguments rest
      → length (left_of (k, Whole number)) ≡ passed_cells k → (small : Bool) → is_small k ≡ small → CutsBelow upper ((k, Whole number) ∷ arguments) rest
  by_size arguments rest upper k number later count true is = one_goes arguments rest upper k number later count is
  by_size arguments rest upper k number later count false is =
      one_stays arguments rest upper k (Whole number) later count (ap (λ (b : Bool). b && true) is) (ap reverse (large_cells k number is))

  -- ---- all of them

  left_count : (argument : Argument) → IsPassed argument → length (left_of argument) ≡ passed_cells argument.0
  left_count argument passes = length-reverse (passed_of argument.0 argument.1) ∙ passed_count argument passes

  not_small : (k : Kind) (two : Bool) → passed_cells k ≡ 0 → (is_small k && two) ≡ false
  not_small k two is = ap (λ (n : ℕ). nat_eq n 1 && two) is

  pub cuts : (arguments : List Argument) (rest : List Value) → AllByRecursion IsPassed arguments → (upper : List ℕ) → CutsBelow upper arguments rest
  unfolding cut_arguments
  cuts [] rest all upper frame has = record { last = frame; over = OverNone frame; operands = has; method = refl; refs = refl; locals = refl }
  cuts ((k, Whole number) ∷ arguments) rest all upper frame has =
      by_size arguments rest upper k number (cuts arguments rest all.1 (upper ++ left_of (k, Whole number))) (left_count (k, Whole number) all.0) (is_small k) refl frame has
  cuts ((k, Null) ∷ arguments) rest all upper frame has =
      one_stays arguments rest upper k Null (cuts arguments rest all.1 (upper ++ [])) (left_count (k, Null) all.0) (not_small k false (reference_kind k all.0).cells) refl frame has
  cuts ((k, Name name) ∷ arguments) rest all upper frame has =
      one_stays arguments rest upper k (Name name) (cuts arguments rest all.1 (upper ++ [])) (left_count (k, Name name) all.0) (not_small k false (reference_kind k all.0).cells) refl frame has
