use Rattle.type_order.proofs.Rules.{rules-are-monotone, entered-is-above, start-is-proper, after-is-proper, entered-is-proper, after-is-known}
use Rattle.type_order.proofs.laws.rules_are_monotone.Goals as goal

pub returns-clause-monotone : goal.returns-clause-monotone
returns-clause-monotone c = rules-are-monotone

pub returns-clause-entered : goal.returns-clause-entered
returns-clause-entered c = entered-is-above

pub returns-clause-start : goal.returns-clause-start
returns-clause-start c = start-is-proper

pub returns-clause-after : goal.returns-clause-after
returns-clause-after c = after-is-proper

pub returns-clause-handlers : goal.returns-clause-handlers
returns-clause-handlers c = entered-is-proper

pub returns-clause-known : goal.returns-clause-known
returns-clause-known c = after-is-known
