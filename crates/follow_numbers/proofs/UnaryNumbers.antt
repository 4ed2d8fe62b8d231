-- The split machine follows the typed one where one whole number becomes another one.
use Rattle.std.proofs.Common.{◌≡◌, ℕ, ℤ, ◌+◌, ◌%◌, FitsSigned, List, [], ◌∷◌, ◌++◌, reverse, Option, refl, sym, ap, subst, ◌∙◌, append-nil, arith}
use Rattle.std.specs.Prelude.{pos, neg_ℤ}
use Rattle.std.specs.Int.{w8, w16, w32, int_wrap, cast_signed, cast_unsigned}
use Rattle.std.proofs.lemmas.Int.{ints, SFits-int_wrap}
use Rattle.account.specs.Account.{no_need}
use Rattle.cell_num.specs.declared.conversions.Conv.{Conv}
use Rattle.cell_num.specs.declared.conversions.Conv.TheVariants as conv
use Rattle.cell_num.specs.Cells.{low_cell, high_cell, sign_extended}
use Rattle.cell_num.specs.Conversions.{converted}
use Rattle.cell_num.proofs.CellLaws.{sign_extended-low_cell, low_cell-sign_extended, low_cell-below}
use Rattle.cell_num.proofs.Wrapping.{wrap_byte, wrap_short}
use Rattle.image_instr.specs.declared.insn.MInsn.TheVariants as insns
use Rattle.image_instr.specs.declared.insn.Kind.{Kind}
use Rattle.image_instr.specs.declared.insn.Kind.TheVariants as kind
use Rattle.image_instr.specs.declared.insn.Width.{Width}
use Rattle.image_instr.specs.declared.insn.Width.TheVariants as width
use Rattle.body_form.specs.declared.op.Op.TheVariants as op
use Rattle.body_form.specs.declared.op.UnaryOp.{UnaryOp}
use Rattle.body_form.specs.declared.op.UnaryOp.TheVariants as unary
use Rattle.jvm_model.specs.ImageExpansion.{alone, conversion, top_of, Emitted}
use Rattle.jvm_model.specs.WidthsShapes.{shapes_at}
use Rattle.jvm_model.specs.WidthsShapes.{pc_after as split_after}
use Rattle.image_form.specs.declared.record.Image.{Image}
use Rattle.mote_model.specs.SplitStep as split_step
use Rattle.account.specs.RunLaws.{Quietly}
use Rattle.std.specs.Option.{option_map_or}
use Rattle.jvm_model.specs.State.{Whole}
use Rattle.mote_model.specs.State.{Frame as SplitFrame}
use Rattle.mote_model.specs.SplitMoves as split_moves
use Rattle.mote_model.specs.SplitMoves.{with_cells, push_number, take_number}
use Rattle.mote_model.specs.SplitState as split
use Rattle.typed_machine.specs.TypedMoves.{goes_on}
use Rattle.typed_machine.specs.TypedState.{Frame, State}
use Rattle.typed_machine.specs.TypedStep.{convert}
use Rattle.typed_machine.specs.TypedWorld.{pc_after}
use Rattle.type_safety.specs.Safety.{MoveFits}
use Rattle.match_states.specs.Setting.{Setting, table_for, widths_for}
use Rattle.match_code.specs.Standing.{emitted_at, StandsBetween}
use Rattle.match_code.proofs.CodeLayout.{same_after}
use Rattle.match_code.proofs.QuietInsns.{pops, extends_by_sign, extends_by_zero, cuts_to_byte}
use Rattle.match_code.proofs.QuietRuns.{GoesOverAll, OverNone, OverOne, between_past, goes_behind, youngest_between}
use Rattle.follow_numbers.specs.WideCode.{value_cells, IsWideCode, StandsAt}
use Rattle.follow_numbers.proofs.NextStates.{operands_at, body_at, found_at, typed_move, is_unstuck, goes_quietly, split_is, next_shapes}
use Rattle.follow_numbers.proofs.NextMoves.{AreMatched, next_there, next_offset, both_go_on}
use Rattle.follow_numbers.proofs.TakenNumbers.{AsksOne, take_int, one_number, refs_of, cells_of, ints_of, top_is_two}

-- the low cell by its sign is the short, and cut to a byte it is the byte
short_by_cell : (number : ℤ) → FitsSigned w32 number → sign_extended (low_cell number) ≡ converted conv.Short number
short_by_cell number fits = sym (wrap_short number fits)

from_short : (number : ℤ) → FitsSigned w16 number → FitsSigned w32 number
from_short number fits = omega (arith, ints, fits)

low_bits : (a b : ℕ) → a % 65536 ≡ b % 65536 → a % 256 ≡ b % 256
low_bits a b same = omega (arith, same)

byte_by_cell : (number : ℤ) → FitsSigned w32 number → sign_extended (low_cell (converted conv.Byte (sign_extended (low_cell number)))) ≡ converted conv.Byte number
byte_by_cell number fits =
    let short = sign_extended (low_cell number) in
    let byte = int_wrap w8 short in
    let in_byte : FitsSigned w8 byte = SFits-int_wrap w8 short in
    let in_short : FitsSigned w16 byte = omega (arith, ints, in_byte) in
    let short_fits : FitsSigned w32 short =
    subst (FitsSigned w32) (sym (short_by_cell number fits)) (from_short (int_wrap w16 number) (SFits-int_wrap w16 number)) in
    let bits : cast_unsigned w32 short % 256 ≡ cast_unsigned w32 number % 256 = low_bits (cast_unsigned w32 short) (cast_unsigned w32 number) (low_cell-sign_extended (low_cell number) (low_cell-below number)) in
    sign_extended-low_cell byte in_short ∙ wrap_byte short short_fits ∙ ap (cast_signed w8) bits ∙ sym (wrap_byte number fits)

-- what a conversion is in wide bodies
abbrev wide_conversion : Conv → List Emitted
wide_conversion c = conversion c kind.Two kind.Two

module _ (image : Image) (other : split.State) (frame : SplitFrame) (others : List SplitFrame) (number : ℤ) (fits : FitsSigned w32 number) (cells : List ℕ) (has : frame.cells.operands ≡ high_cell number ∷ low_cell number ∷ cells) where
  -- where the machine instructions of a conversion lead
  record Converts (c : Conv) : Type 0 where
    pub last : SplitFrame
    pub over : GoesOverAll image other others frame (wide_conversion c) last
    pub operands : last.cells.operands ≡ high_cell (converted c number) ∷ low_cell (converted c number) ∷ cells
    pub method : last.method ≡ frame.method
    pub refs : last.refs ≡ frame.refs
    pub locals : last.cells.locals ≡ frame.cells.locals

  abbrev low : SplitFrame
  low = split_moves.at_pc (with_cells frame (low_cell number ∷ cells)) (frame.pc + 2)

  -- the high cell goes
  without_high : (more : List Emitted) (last : SplitFrame) → GoesOverAll image other others low more last → GoesOverAll image other others frame ((insns.Pop 1, []) ∷ more) last
  without_high more last later =
      OverOne frame (with_cells frame (low_cell number ∷ cells)) last (insns.Pop 1) [] more (pops image (split.with_frames other (frame ∷ others)) frame others (high_cell number) (low_cell number ∷ cells) has) later

  converts : (c : Conv) → Converts c
  converts conv.Byte =
      let from = low in
      let cell = low_cell (converted conv.Byte (sign_extended (low_cell number))) in
      let cut = split_moves.at_pc (with_cells from (cell ∷ cells)) (from.pc + 1) in
      let wide = with_cells cut (reverse (split_moves.cells_of width.Two (sign_extended cell)) ++ cells) in
      let last = split_moves.at_pc wide (cut.pc + 1) in
      record {
        last = last;
        over =
            without_high (alone insns.Sb ++ alone insns.Sx) last
            (OverOne from (with_cells from (cell ∷ cells)) last insns.Sb [] (alone insns.Sx) (cuts_to_byte image (split.with_frames other (from ∷ others)) from others (low_cell number) cells refl)
            (OverOne cut wide last insns.Sx [] [] (extends_by_sign image (split.with_frames other (cut ∷ others)) cut others cell cells refl) (OverNone last)));
        operands = ap (λ (n : ℤ). high_cell n ∷ low_cell n ∷ cells) (byte_by_cell number fits);
        method = refl;
        refs = refl;
        locals = refl;
      }
  converts conv.Short =
      let from = low in
      let wide = with_cells from (reverse (split_moves.cells_of width.Two (sign_extended (low_cell number))) ++ cells) in
      let last = split_moves.at_pc wide (from.pc + 1) in
      record {
        last = last;
        over =
            without_high (alone insns.Sx) last
            (OverOne from wide last insns.Sx [] [] (extends_by_sign image (split.with_frames other (from ∷ others)) from others (low_cell number) cells refl) (OverNone last));
        operands = ap (λ (n : ℤ). high_cell n ∷ low_cell n ∷ cells) (short_by_cell number fits);
        method = refl;
        refs = refl;
        locals = refl;
      }
  converts conv.Char =
      let from = low in
      let wide = with_cells from (reverse (split_moves.cells_of width.Two (pos (low_cell number))) ++ cells) in
      let last = split_moves.at_pc wide (from.pc + 1) in
      record {
        last = last;
        over =
            without_high (alone insns.Zx) last
            (OverOne from wide last insns.Zx [] [] (extends_by_zero image (split.with_frames other (from ∷ others)) from others (low_cell number) cells refl) (OverNone last));
        operands = refl;
        method = refl;
        refs = refl;
        locals = refl;
      }

asks_one : (state : State) (operation : UnaryOp) (frame : Frame) (frames : List Frame) (next : Option ℕ) → AsksOne (convert state frame frames next operation)
asks_one state operation frame frames next = record { empty = refl; null = λ below. refl; name = λ name below. refl }

module _ {setting : Setting} {state : State} {other : split.State} (code : IsWideCode setting) where
  pub neg_follows : StandsAt setting state other (op.Unary unary.Neg) → AreMatched setting state other
  neg_follows here =
      let does = convert state here.frame here.frames (pc_after (body_at here).ops here.frame.pc) unary.Neg in
      let one = one_number code here does (asks_one state unary.Neg here.frame here.frames (pc_after (body_at here).ops here.frame.pc)) here.frame.operands (typed_move here) in
      let operands = Whole one.number ∷ one.below in
      let ints = ints_of code here operands one.are in
      let result = int_wrap w32 (neg_ℤ one.number) in
      let rest = with_cells here.split (value_cells one.below) in
      let emitted = ap (λ (w : Width). alone (insns.Neg w)) (top_is_two code here one.number one.below one.are) in
      let after = next_offset code here (insns.Neg width.Two) [] emitted in
      both_go_on code here (insns.Neg width.Two) [] emitted (Whole result ∷ one.below) (push_number width.Two result rest)
      (record { method = refl; ref_locals = refl; cell_locals = refl; refs = refs_of code here operands one.are; cells = refl })
      (typed_move here ∙ ap does one.are)
      (take_int here.split one.number (value_cells one.below) ints.0 (cells_of code here operands one.are)
      (λ number below. split_moves.goes_on other (push_number width.Two (int_wrap w32 (neg_ℤ number)) below) here.others after))

  pub convert_follows : (c : Conv) → StandsAt setting state other (op.Unary (unary.Convert c)) → AreMatched setting state other
  convert_follows c here =
      let body = body_at here in
      let instruction = op.Unary (unary.Convert c) in
      let pc = here.frame.pc in
      let shapes = shapes_at (widths_for setting body) (table_for setting body) in
      let does = convert state here.frame here.frames (pc_after body.ops pc) (unary.Convert c) in
      let one = one_number code here does (asks_one state (unary.Convert c) here.frame here.frames (pc_after body.ops pc)) here.frame.operands (typed_move here) in
      let operands = Whole one.number ∷ one.below in
      let values = Whole (converted c one.number) ∷ one.below in
      let ints = ints_of code here operands one.are in
      let typed = typed_move here ∙ ap does one.are in
      let next = next_there code here (pc_after body.ops pc) values (subst (MoveFits setting.world setting.tables) typed (is_unstuck here code)) in
      let goes = typed ∙ ap (λ to. goes_on state here.frame here.frames to values) next.1 in
      let split_next = sym (same_after body.ops pc) ∙ next.1 in
      let wide : emitted_at setting body pc instruction ≡ wide_conversion c =
      ap (λ (before : Kind). conversion c before (top_of (option_map_or shapes (split_after body.ops pc) []))) ((operands_at here code).top one.number one.below one.are)
      ∙ ap (λ (to : Option ℕ). conversion c kind.Two (top_of (option_map_or shapes to []))) split_next
      ∙ ap (conversion c kind.Two) ((next_shapes here code no_need next.0 values goes).top (converted c one.number) one.below refl) in
      let came_to = converts setting.image other here.split here.others one.number ints.0 (value_cells one.below) (cells_of code here operands one.are) c in
      let stands : StandsBetween setting body here.split pc instruction [] (wide_conversion c ++ []) =
      subst (λ (l : List Emitted). StandsBetween setting body here.split pc instruction [] l) (wide ∙ sym (append-nil (wide_conversion c))) (youngest_between setting here.frame here.split here.youngest instruction here.at) in
      let came = goes_behind setting body pc instruction code.compiled (code.insns body (found_at here).of_set) other here.others here.split came_to.last [] (wide_conversion c) [] stands came_to.over in
      goes_quietly here code next.0 values came_to.last goes
      (record {
        method = came_to.method;
        ref_locals = ap (λ refs. refs.locals) came_to.refs;
        cell_locals = came_to.locals;
        refs = ap (λ refs. refs.operands) came_to.refs ∙ refs_of code here operands one.are;
        cells = came_to.operands;
      })
      (between_past setting body pc instruction code.compiled came_to.last (wide_conversion c) came.stands next.0 split_next)
      (subst (λ from. Quietly (split_step.machine setting.image) from (split.with_frames other (came_to.last ∷ here.others))) (split_is here) came.quiet)

  pub unary_follows : (operation : UnaryOp) → StandsAt setting state other (op.Unary operation) → AreMatched setting state other
  unary_follows unary.Neg here = neg_follows here
  unary_follows (unary.Convert c) here = convert_follows c here
