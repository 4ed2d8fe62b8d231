-- The chain gives the rows of the two lists side by side.
use Rattle.std.proofs.Common.{rules, tests}
use Rattle.std.proofs.lemmas.Iterator.{YieldsList-from_slice, YieldsList-from_zip, items_from_collect}
use Rattle.std.proofs.lemmas.Iterator.Consumers.{YieldsList-from_filter_map}
use Rattle.flow_verify.specs.KnownRows.{row_of}
use Rattle.flow_verify.proofs.rows.rows_of.Goals as goal

pub returns : goal.returns
returns c =
    items_from_collect _ c.collect.ensures.ran
    (YieldsList-from_filter_map _ row_of (YieldsList-from_zip (YieldsList-from_slice c.args.instructions.now cc) (YieldsList-from_slice c.args.known.now cc)) c.filter_map.ensures.closure (λ x r q k. search (rules, tests)))
