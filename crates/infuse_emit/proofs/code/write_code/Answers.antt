use Rattle.std.proofs.Common.{ℕ, List, ◌≡◌, ◌++◌, ap, ◌∙◌, subst}
use Rattle.std.specs.Prelude.{OnOk}
use Rattle.std.specs.List.{flat_map}
use Rattle.jvm_model.specs.ImageEmission.{Source, bytes_at, fill_bytes, offset_of, code_of}
use Rattle.infuse_emit.specs.Offsets.{offset_in}
use Rattle.infuse_emit.specs.Parts.{source_in}
use Rattle.infuse_emit.proofs.code.write_code.Goals as goal

-- the bytes hang on no more than what each offset is
same_bytes : (source : Source) (offset : ℕ → ℕ) → ((pc : ℕ) → offset pc ≡ offset_of source pc) → fill_bytes source ++ flat_map (bytes_at source offset) source.body.ops ≡ code_of source
same_bytes source offset same = λ i. fill_bytes source ++ flat_map (bytes_at source (λ pc. same pc i)) source.body.ops

pub returns : goal.returns
returns c =
    let source = source_in c.args.parts.now in
    let ops = source.body.ops in
    let begun = ap (λ (list : List ℕ). list ++ flat_map (bytes_at source (offset_in ops c.args.offsets.now)) ops) c.requires.begun in
    subst (λ (list : List ℕ). OnOk c.write_all.result (c.write_all.new.out.items ≡ list)) (begun ∙ same_bytes source (offset_in ops c.args.offsets.now) c.requires.told) c.write_all.ensures
