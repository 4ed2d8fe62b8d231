-- What is cut is one move, and what is not cut none.
use Rattle.std.proofs.Common.{◌≡◌, ◌+◌, ◌++◌, ◌&&◌, [], true, sym, ap, ◌∙◌, zero-add}
use Rattle.std.proofs.lemmas.Option.{IfSome_then}
use Rattle.image_instr.specs.declared.insn.MInsn.TheVariants as insns
use Rattle.jvm_model.specs.ImageExpansion.{alone_where, is_two}
use Rattle.jvm_model.specs.WidthsSlots.{is_small}
use Rattle.flow_split.specs.declared.moves.Move.{Move}
use Rattle.flow_split.specs.declared.peaks.Peak.{Peak}
use Rattle.flow_split.specs.Peaks.{most_emitted, moved}
use Rattle.flow_split.proofs.PeakSteps.{step_emitted}
use Rattle.flow_split.proofs.calls.cut_one.Goals as goal

pub returns-then-is_two : goal.returns-then-is_two
returns-then-is_two c = IfSome_then c.moved.result c.moved.ensures (λ after is sig rest.
    let peak = c.args.peak in
    let above = c.args.above in
    let small = is_small c.args.kind.now in
    let two = is_two c.args.shape in
    let both : true ≡ (small && two) = c.if-is_two.ensures ∙ ap (λ b. b && two) c.if-is_small.ensures in
    ap (λ (p : Peak). most_emitted sig p rest) is
    ∙ ap (λ n. let made : Move = record { pops = n; pushes = above } in most_emitted sig (moved peak made) rest) (sym (zero-add (above + 1)))
    ∙ ap (λ n. let made : Move = record { pops = 0 + (above + 1); pushes = n } in most_emitted sig (moved peak made) rest) (sym (zero-add above))
    ∙ step_emitted sig peak (insns.Drop above, []) rest
    ∙ ap (λ b. most_emitted sig peak (alone_where b (insns.Drop above) ++ rest)) both)
