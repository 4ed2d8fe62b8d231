use Rattle.std.proofs.Common.{◌≡◌, List, ◌++◌, sym, ap, ◌∙◌, subst}
use Rattle.std.specs.Prelude.{OnOk}
use Rattle.std.specs.List.{AllByRecursion}
use Rattle.jvm_model.specs.ImageExpansion.{Emitted, bytes_of}
use Rattle.expansion.specs.Expanding.{expansion_of}
use Rattle.expansion.specs.Seen.{Keeps}
use Rattle.expansion.proofs.Limits.{limits_kept}
use Rattle.infuse_emit.proofs.Emitted.{told}
use Rattle.infuse_emit.proofs.instruction.emit_instruction.Goals as goal

pub write_insns-requires : goal.write_insns-requires
write_insns-requires g c =
    let found : c.deref.result.now ≡ expansion_of c.args.around.now c.args.numbers c.args.returned.now c.args.op.now = c.deref.ensures.value ∙ (c.in_ok-expand.ensures ∙ ap (λ list. list ++ expansion_of c.args.around.now c.args.numbers c.args.returned.now c.args.op.now) c.new-insns.ensures.items) in
    let whole = told g.seen c.args.numbers c.args.around.now c.args.returned.now c.args.op.now c.args.rows.now c.deref.result.now c.requires.1.1.0 c.requires.1.1.1.0 c.requires.1.1.1.1 found in
    subst (λ (list : List Emitted). AllByRecursion Keeps list) (sym whole) (limits_kept g.seen.locals g.seen.ids g.seen.offset g.seen.point c.args.returned.now c.args.op.now c.requires.1.0)

pub returns : goal.returns
returns g c =
    let found : c.deref.result.now ≡ expansion_of c.args.around.now c.args.numbers c.args.returned.now c.args.op.now = c.deref.ensures.value ∙ (c.in_ok-expand.ensures ∙ ap (λ list. list ++ expansion_of c.args.around.now c.args.numbers c.args.returned.now c.args.op.now) c.new-insns.ensures.items) in
    let whole = told g.seen c.args.numbers c.args.around.now c.args.returned.now c.args.op.now c.args.rows.now c.deref.result.now c.requires.1.1.0 c.requires.1.1.1.0 c.requires.1.1.1.1 found in
    subst (λ (list : List Emitted). OnOk c.write_insns.result (c.write_insns.new.out.items ≡ c.args.out.now.items ++ bytes_of list)) whole c.write_insns.ensures
