use Rattle.run_measures.proofs.SplitMeasure.{split_is_measured}
use Rattle.run_measures.proofs.TypedMeasure.{typed_is_measured}
use Rattle.run_measures.proofs.runs_are_measured.Goals as goal

pub returns-clause-split : goal.returns-clause-split
returns-clause-split c = split_is_measured

pub returns-clause-typed : goal.returns-clause-typed
returns-clause-typed c = typed_is_measured
