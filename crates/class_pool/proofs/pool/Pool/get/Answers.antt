use Rattle.std.proofs.Common.{rules, subst}
use Rattle.class_pool.specs.Pool.{AreSpaced}
use Rattle.class_pool.proofs.constant_pool.Spacing.{none_tells}
use Rattle.class_pool.proofs.pool.Pool.get.Goals as goal

pub returns-clause-entry : goal.returns-clause-entry
returns-clause-entry c = search rules

pub returns-clause-none : goal.returns-clause-none
returns-clause-none c =
    none_tells c.args.self.now c.args.index c.entry_in.result (subst AreSpaced c.self.view_is c.self.invariant.spaced) (returns-clause-entry c)
