-- There is no row at the index.
use Rattle.std.proofs.Common.{ℕ, false, nat_eq, Option, sym, ap, ◌∙◌}
use Rattle.std.specs.Option.{option_map_or}
use Rattle.flow_split.proofs.RowsByPc.{row_at}
use Rattle.flow_split.proofs.rows.has_row.Goals as goal

pub returns-in-None : goal.returns-in-None
returns-in-None c =
    row_at c.args.types.now c.requires.rise c.args.index c.args.pc c.requires.index false (ap (λ (o : Option ℕ). option_map_or (λ at. nat_eq at c.args.pc) o false) (sym c.in-None.is ∙ c.pc_at.ensures))
