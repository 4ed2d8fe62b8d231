use Rattle.std.proofs.Common.{rules, ◌∙◌, sym, subst}
use Rattle.indexmap.specs.IndexMap.{keys}
use Rattle.class_pool.specs.Pool.{AreSpaced}
use Rattle.class_make.proofs.Numbered.{spaced_all}
use Rattle.class_make.proofs.constants.Constants.into_slots.Goals as goal

pub returns-clause-slots : goal.returns-clause-slots
returns-clause-slots c = search rules

pub returns-clause-spaced : goal.returns-clause-spaced
returns-clause-spaced c = subst AreSpaced (c.self.view_is ∙ sym (returns-clause-slots c)) (spaced_all (keys c.self.inside.indexes))
