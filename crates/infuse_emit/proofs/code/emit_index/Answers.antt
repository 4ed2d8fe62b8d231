use Rattle.std.proofs.Common.{◌≡◌, ℕ, ◌++◌, refl, sym, subst}
use Rattle.std.specs.Prelude.{OnOk}
use Rattle.std.proofs.lemmas.List.Elements.{All-from_recursion}
use Rattle.body_form.specs.declared.op.Op.{Op}
use Rattle.body_form.specs.declared.op.Op.TheVariants as op
use Rattle.jvm_model.specs.ImageEmission.{bytes_at}
use Rattle.expansion.specs.Expanding.{KeepsCounts}
use Rattle.expansion.specs.Seen.{KeepsRows}
use Rattle.infuse_emit.specs.Offsets.{offset_in}
use Rattle.infuse_emit.specs.Parts.{source_in}
use Rattle.infuse_emit.proofs.NextPcs.{read_at, next_told}
use Rattle.infuse_emit.proofs.code.emit_index.Goals as goal

pub emit_at-requires : goal.emit_at-requires
emit_at-requires c =
    let source = source_in c.args.parts.now in
    let ops = source.body.ops in
    let keeps : (ℕ × Op) → Type 0 = λ x. KeepsCounts x.1 × KeepsRows x.1 in
    let x = c.index-ops-index.result in
    let is = read_at ops c.as_slice-ops.result.now c.as_slice-ops.ensures.all c.args.index c.requires.within x c.index-ops-index.is in
    let next = next_told ops c.as_slice-ops.result.now c.as_slice-ops.ensures.all c.args.index c.requires.within x c.index-ops-index.is c.as_slice-ops.ensures.rise c.next_pc-next.result c.next_pc-next.ensures in
    (refl, (c.requires.parts, (c.requires.fits, (subst keeps (sym (is x)) (All-from_recursion keeps ops c.requires.keep c.args.index x c.requires.within), next))))

pub returns : goal.returns
returns c =
    let source = source_in c.args.parts.now in
    let ops = source.body.ops in
    let x = c.index-ops-index.result in
    let is = read_at ops c.as_slice-ops.result.now c.as_slice-ops.ensures.all c.args.index c.requires.within x c.index-ops-index.is (0, op.Nop) in
    subst (λ (y : ℕ × Op). OnOk c.emit_at.result (c.emit_at.new.out.items ≡ c.args.out.now.items ++ bytes_at source (offset_in ops c.args.offsets.now) y)) is c.emit_at.ensures
