-- The first type loses a dimension at each call.
use Rattle.flow_kinds.proofs.merging.+merge_refs.Given as goal

abbrev pub decreases-merge_refs : goal.decreases-merge_refs
decreases-merge_refs l = l.a.dims
