use Rattle.body_limits.proofs.KeptCounts.{counts_are_kept, parameters_are_few}
use Rattle.body_limits.proofs.KeptRows.{pcs_rise, rows_are_kept}
use Rattle.body_limits.proofs.ranges.Bodies.{numbers_are_in_range}
use Rattle.body_limits.proofs.bodies_keep_limits.Goals as goal

pub returns-clause-rise : goal.returns-clause-rise
returns-clause-rise c = pcs_rise c.typed_code_is_safe.ensures.facts

pub returns-clause-rows : goal.returns-clause-rows
returns-clause-rows c = rows_are_kept c.typed_code_is_safe.ensures.facts

pub returns-clause-counts : goal.returns-clause-counts
returns-clause-counts c = counts_are_kept c.typed_code_is_safe.ensures.facts

pub returns-clause-parameters : goal.returns-clause-parameters
returns-clause-parameters c = parameters_are_few

pub returns-clause-ranges : goal.returns-clause-ranges
returns-clause-ranges c = numbers_are_in_range c.typed_code_is_safe.ensures.facts
