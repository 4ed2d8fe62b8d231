-- The width is that of the local that the instruction names.
use Rattle.std.proofs.Common.{◌≡◌, sym, subst, ◌∙◌}
use Rattle.std.specs.Prelude.{IfSome}
use Rattle.image_instr.specs.declared.insn.Width.{Width}
use Rattle.flow_split.specs.Around.{local_named}
use Rattle.flow_split.proofs.Naming.{width_named, width_unnamed}
use Rattle.flow_split.proofs.named.named_width.Goals as goal

pub returns-in-Some : goal.returns-in-Some
returns-in-Some c = λ of count all low.
    let named = local_named c.args.op.now in
    subst (λ (w : Width). IfSome named (λ other. of other ≡ w)) (sym c.width_at.ensures)
    (width_named named c.in-Some.local count of c.args.widths.now (sym c.local_named.ensures ∙ c.in-Some.is) all low)

pub returns-in-None : goal.returns-in-None
returns-in-None c = λ of count all low. width_unnamed (local_named c.args.op.now) of _ (sym c.local_named.ensures ∙ c.in-None.is)
