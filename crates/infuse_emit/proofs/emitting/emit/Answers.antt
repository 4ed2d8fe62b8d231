use Rattle.std.proofs.Common.{ℕ, List, sym, subst, ◌∙◌}
use Rattle.code_reach.specs.Reached.{RisesFrom}
use Rattle.infuse_emit.proofs.RowHeights.{heights_rise}
use Rattle.infuse_emit.proofs.emitting.emit.Goals as goal

pub local_widths-requires-clause-rise : goal.local_widths-requires-clause-rise
local_widths-requires-clause-rise c = subst (λ (list : List (ℕ × ℕ)). RisesFrom 0 list) (sym (c.deref.ensures.value ∙ c.in_ok-heights.ensures)) (heights_rise 0 c.args.types.now c.requires.rise)
