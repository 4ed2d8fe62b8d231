use Rattle.class_tree.proofs.merging.MergeLaws.{supers, common, commutes, associates, stays, merge_fits, interfaces, below}
use Rattle.class_tree.proofs.merges.merges_are_joins.Goals as goal

pub returns-clause-supers : goal.returns-clause-supers
returns-clause-supers c = supers

pub returns-clause-common : goal.returns-clause-common
returns-clause-common c = common

pub returns-clause-commutes : goal.returns-clause-commutes
returns-clause-commutes c = commutes

pub returns-clause-associates : goal.returns-clause-associates
returns-clause-associates c = associates

pub returns-clause-stays : goal.returns-clause-stays
returns-clause-stays c = stays

pub returns-clause-fits : goal.returns-clause-fits
returns-clause-fits c = merge_fits

pub returns-clause-interfaces : goal.returns-clause-interfaces
returns-clause-interfaces c = interfaces

pub returns-clause-below : goal.returns-clause-below
returns-clause-below c = below
