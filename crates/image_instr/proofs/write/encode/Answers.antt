use Rattle.std.proofs.Common.{Result, Ok, Err, All}
use Rattle.std.specs.Prelude.{OnOk}
use Rattle.std.proofs.lemmas.List.Elements.{recursion_from_All}
use Rattle.image_instr.specs.Insn.{HasRowRanges}
use Rattle.image_instr.proofs.write.encode.Goals as goal

then_ok : {A E : Type 0} {P Q : Type 0} (r : Result A E) → (P → Q) → OnOk r P → OnOk r Q
then_ok (Ok x) f h = f h
then_ok (Err e) f h = tt

pub returns-clause-is_insn : goal.returns-clause-is_insn
returns-clause-is_insn c =
    then_ok c.append.result
    (λ (all : All HasRowRanges c.args.rows.now). record {
      ranges = c.append.ensures.ranges;
      limits = c.requires.limits;
      rows_of = c.requires.rows_of;
      row_ranges = recursion_from_All HasRowRanges c.args.rows.now all;
    }) c.append.ensures.row_ranges
