use Rattle.std.proofs.Common.{ap, ◌∙◌}
use Rattle.class_pool.specs.Pool.{Slots}
use Rattle.class_make.specs.Entries.{index_of}
use Rattle.class_make.proofs.Numbered.{found}
use Rattle.class_make.proofs.constants.Constants.index_of.Goals as goal

pub returns-clause-index : goal.returns-clause-index
returns-clause-index c =
    c.copied.ensures ∙ c.get.ensures.value ∙ found c.self.inside.indexes.entries c.args.constant.now c.self.invariant.numbered
    ∙ ap (λ (p : Slots). index_of p c.args.constant.now) c.self.view_is
