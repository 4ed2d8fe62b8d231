use Rattle.std.proofs.Common.{◌≡◌, ℕ, get_or, drop}
use Rattle.std.specs.List.{list_any}
use Rattle.image_instr.specs.declared.insn.Width.TheVariants as width
use Rattle.jvm_model.specs.WidthsShapes.{stores_one}
use Rattle.type_table.specs.Types.{Rows, table_of}
use Rattle.infuse_emit.specs.Parts.{one_where, heights_in}
use Rattle.infuse_emit.proofs.widths.note_stores.Given as goal

abbrev pub invariant-loop-x : goal.invariant-loop-x
invariant-loop-x l = (rows : Rows) → l.heights ≡ heights_in rows → (local : ℕ) →
    one_where (list_any (stores_one l.narrow (table_of rows) local) (drop l.x-index l.ops)) (get_or l.widths.items local width.Two) ≡ one_where (list_any (stores_one l.narrow (table_of rows) local) l.ops) (get_or l.fn.widths.items local width.Two)
