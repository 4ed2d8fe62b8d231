-- What is expanded of a part is the expansion of the whole.
use Rattle.std.proofs.Common.{◌≡◌, List, Option, sym, ap, ◌∙◌}
use Rattle.class_pool.specs.declared.descriptor.Kind.{Kind as DeclaredKind}
use Rattle.image_instr.specs.declared.insn.MInsn.{MInsn}
use Rattle.image_instr.specs.declared.insn.SwitchRow.{SwitchRow}
use Rattle.body_form.specs.declared.op.Op.{Op}
use Rattle.jvm_model.specs.ImageExpansion.{expanded}
use Rattle.expansion.specs.declared.around.Around.{Around}
use Rattle.expansion.specs.declared.around.Numbers.{Numbers}
use Rattle.expansion.specs.Expanding.{expansion_of}
use Rattle.expansion.specs.Seen.{IsAround, AreNumbers, rows_at, with_rows}
use Rattle.expansion.proofs.Alike.{alike}
use Rattle.expansion.proofs.Rows.{rows_told}
use Rattle.infuse_emit.specs.Instruction.{Seen}

pub told : (seen : Seen) (numbers : Numbers) (around : Around) (returned : Option DeclaredKind) (instruction : Op) (rows : List SwitchRow) (found : List MInsn) → AreNumbers seen.locals seen.ids seen.offset numbers instruction → IsAround seen.point around instruction → rows ≡ rows_at seen.offset instruction → found ≡ expansion_of around numbers returned instruction → with_rows rows found ≡ expanded seen.locals seen.ids seen.offset returned seen.point instruction
told seen numbers around returned instruction rows found named looked_at moved e =
    let whole = expanded seen.locals seen.ids seen.offset returned seen.point instruction in
    ap (λ (list : List SwitchRow). with_rows list found) moved
    ∙ (ap (λ (list : List MInsn). with_rows (rows_at seen.offset instruction) list) (e ∙ sym (alike seen.locals seen.ids seen.offset numbers seen.point around returned instruction named looked_at))
    ∙ sym (rows_told seen.locals seen.ids seen.offset seen.point returned instruction))
