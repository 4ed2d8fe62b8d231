use Rattle.std.proofs.lemmas.Slice.Eq.{slice_eq-Decides}
use Rattle.class_make.proofs.Pairs.{row_same}
use Rattle.class_make.proofs.same.are_same_rows.Goals as goal

pub returns : goal.returns
returns c = slice_eq-Decides row_same _ _ _ c.eq.ensures
