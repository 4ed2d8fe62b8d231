use Rattle.std.proofs.Common.{◌≡◌, ℕ, get_or, drop}
use Rattle.std.specs.List.{list_any}
use Rattle.image_instr.specs.declared.insn.Width.TheVariants as width
use Rattle.jvm_model.specs.WidthsShapes.{is_local_entry}
use Rattle.infuse_emit.specs.Parts.{one_where}
use Rattle.infuse_emit.proofs.widths.note_entries.Given as goal

abbrev pub invariant-loop-entry : goal.invariant-loop-entry
invariant-loop-entry l = (local : ℕ) → one_where (list_any (is_local_entry local) (drop l.entry-index l.narrow)) (get_or l.widths.items local width.Two) ≡ one_where (list_any (is_local_entry local) l.narrow) (get_or l.fn.widths.items local width.Two)
