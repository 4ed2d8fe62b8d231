-- The first type loses a dimension at each call.
use Rattle.flow_kinds.proofs.fit.+fits_ref.Given as goal

abbrev pub decreases-fits_ref : goal.decreases-fits_ref
decreases-fits_ref l = l.a.dims
