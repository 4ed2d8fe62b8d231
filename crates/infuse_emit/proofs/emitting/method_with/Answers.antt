use Rattle.std.proofs.Common.{◌≡◌, ℕ, List, ap, ◌∙◌}
use Rattle.image_form.specs.declared.record.HandlerEntry.{HandlerEntry}
use Rattle.image_form.specs.declared.record.Method.{Method}
use Rattle.image_instr.specs.declared.signature.Sig.{Sig}
use Rattle.jvm_model.specs.ImageEmission.{Source, code_of, handlers_of, method_of}
use Rattle.jvm_model.specs.WidthsFrame.{signature_for}
use Rattle.infuse_emit.specs.Parts.{source_in}
use Rattle.infuse_emit.proofs.emitting.method_with.Goals as goal

-- a method of these parts
method_by : Source → Sig → List ℕ → List HandlerEntry → Method
method_by source sig code handlers =
    record { sig = sig; ref_locals = source.plan.ref_locals; cell_locals = source.plan.cell_locals; body = source.plan.body; code = code; handlers = handlers }

same_parts : (source : Source) (sig : Sig) (code : List ℕ) (handlers : List HandlerEntry) → sig ≡ signature_for source.body.instance source.body.params source.body.result → code ≡ code_of source → handlers ≡ handlers_of source
    → method_by source sig code handlers ≡ method_of source
unfolding method_by
same_parts source sig code handlers first second third =
    ap (λ s. method_by source s code handlers) first
    ∙ ap (λ l. method_by source (signature_for source.body.instance source.body.params source.body.result) l handlers) second
    ∙ ap (method_by source (signature_for source.body.instance source.body.params source.body.result) (code_of source)) third

pub returns : goal.returns
unfolding method_by
returns c = same_parts (source_in c.args.parts.now) c.signature_of.result c.from_vec.result c.from_vec-2.result c.signature_of.ensures (c.from_vec.ensures ∙ c.requires.code) (c.from_vec-2.ensures ∙ c.requires.handlers)
