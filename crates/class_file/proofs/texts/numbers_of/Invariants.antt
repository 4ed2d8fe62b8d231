use Rattle.class_file.specs.Texts.{number_in}
use Rattle.class_file.proofs.text_table.SameTexts.{AreNumberedTo}
use Rattle.class_file.proofs.texts.numbers_of.Given as goal

-- the texts before the index are numbered
abbrev pub invariant-loop-index : goal.invariant-loop-index
invariant-loop-index l = AreNumberedTo l.pool (number_in l.numbers) l.index
