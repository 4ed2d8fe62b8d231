use Rattle.std.proofs.Common.{◌-◌, length, get_or, refl, ap, ◌∙◌, arith}
use Rattle.std.proofs.lemmas.Option.{slice_get_read}
use Rattle.class_tree.proofs.tables.Tables.{file_below}
use Rattle.class_tree.proofs.above.row_of.Goals as goal

pub returns-in_ok-row-2 : goal.returns-in_ok-row-2
returns-in_ok-row-2 c =
    record {
      long = c.in_ok-row-2.ensures.long;
      says = λ to lt. c.in_ok-row-2.ensures.says to
          ∙ file_below c.args.names.now c.args.files.now c.args.class c.index-files-class.result to (omega (arith, c.if-class-from.false, c.from.ensures))
          (slice_get_read c.args.files.now (length c.args.files.now) (c.args.class - 32) c.index-files-class.result refl (omega (arith, c.requires.class, c.if-class-from.false, c.from.ensures))
          (c.index-files-class.is ∙ ap (λ n. get_or c.args.files.now (c.args.class - n) c.index-files-class.result) c.from-else-class-from.ensures));
    }
