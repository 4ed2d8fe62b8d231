-- The arguments are cut, and the call follows.
use Rattle.std.proofs.Common.{◌++◌, max, reverse, [], List, sym, ap, ◌∙◌}
use Rattle.std.specs.Option.{option_map_or}
use Rattle.std.proofs.lemmas.Option.{IfSome_then}
use Rattle.class_pool.specs.declared.descriptor.Kind.{Kind}
use Rattle.jvm_model.specs.ImageExpansion.{alone, cut_arguments, read_as}
use Rattle.jvm_model.specs.WidthsFrame.{signature_used}
use Rattle.flow_split.specs.declared.peaks.Peak.{Peak}
use Rattle.flow_split.specs.Peaks.{most_emitted}
use Rattle.flow_split.proofs.Moving.{enough_for, operands_from}
use Rattle.flow_split.proofs.calls.most_of_call.Goals as goal

pub returns-in-Some : goal.returns-in-Some
returns-in-Some c = IfSome_then c.most_cells.result c.most_cells.ensures (λ most is insn effect.
    let used = c.args.used.now in
    let sig = signature_used c.args.instance used in
    let start : Peak = record { height = c.args.height; most = c.args.height } in
    let tail = alone insn ++ option_map_or (λ (r : Kind). read_as r c.args.after) used.descriptor.result [] in
    let whole = λ (params : List Kind). cut_arguments 0 (reverse params) c.args.before.now ++ tail in
    is ∙ ap (max c.in-Some.peak.most) (sym (enough_for sig c.in-Some.peak.height tail c.called.result (c.called.ensures insn effect)))
    ∙ c.in-Some.ensures sig tail
    ∙ ap (λ (params : List Kind). most_emitted sig start (whole params)) c.as_slice.ensures
    ∙ operands_from sig c.args.height (whole used.descriptor.params))
