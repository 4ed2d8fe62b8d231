-- Each turn cuts one more argument.
use Rattle.std.proofs.Common.{◌≡◌, ◌+◌, ◌<◌, ◌++◌, ◌∷◌, ◌&&◌, List, drop, reverse, length, get_or, sym, ap, ◌∙◌, arith}
use Rattle.std.proofs.lemmas.List.{length-reverse, drop_more, get_or-reverse, append_assoc}
use Rattle.class_pool.specs.declared.descriptor.Kind.{Kind}
use Rattle.image_instr.specs.declared.insn.Kind.TheVariants as shape_kind
use Rattle.image_instr.specs.declared.insn.MInsn.TheVariants as insns
use Rattle.jvm_model.specs.WidthsSlots.{passed_cells, is_small}
use Rattle.jvm_model.specs.ImageExpansion.{Emitted, cut_arguments, alone_where, is_two}
use Rattle.flow_split.specs.Peaks.{most_emitted}
use Rattle.flow_split.proofs.PeakSteps.{cut_past, cut_more}
use Rattle.flow_split.proofs.calls.cut.Goals as goal

pub loop-position-preserved : goal.loop-position-preserved
loop-position-preserved c =
    let kinds = c.args.kinds.now in
    let shapes = c.args.shapes.now in
    let i = c.loop-position.position in
    let above = c.loop-position.above in
    let k = c.index-kinds-kinds.result in
    let long = length-reverse kinds in
    let within : i < length kinds = omega (arith, c.loop-position-test.true, c.min-position-end.ensures) in
    let shown : i < length shapes = omega (arith, c.loop-position-test.true, c.min-position-end.ensures) in
    let first : drop i (reverse kinds) ≡ k ∷ drop (i + 1) (reverse kinds) =
    drop_more (reverse kinds) i k (omega (arith, long, within)) ∙ ap (λ (x : Kind). x ∷ drop (i + 1) (reverse kinds)) (get_or-reverse kinds i k within ∙ sym c.index-kinds-kinds.is)
    in
    let second = drop_more shapes i shape_kind.Ref shown in
    record {
      small = omega (arith, c.loop-position.invariant.small, c.passed_cells-above.ensures.small);
      same = λ sig rest.
          let others = cut_arguments (above + passed_cells k) (drop (i + 1) (reverse kinds)) (drop (i + 1) shapes) in
          let now = alone_where (is_small k && is_two (get_or shapes i shape_kind.Ref)) (insns.Drop above) in
          ap (λ n. most_emitted sig c.in-Some.after (cut_arguments (above + n) (drop (i + 1) (reverse kinds)) (drop (i + 1) shapes) ++ rest)) c.passed_cells-above.ensures.is
          ∙ c.in-Some.ensures sig (others ++ rest)
          ∙ ap (most_emitted sig c.loop-position.after) (sym (append_assoc now others rest))
          ∙ ap (λ (list : List Emitted). most_emitted sig c.loop-position.after (list ++ rest)) (sym (cut_more above (drop i (reverse kinds)) (drop (i + 1) (reverse kinds)) (drop i shapes) (drop (i + 1) shapes) k (get_or shapes i shape_kind.Ref) first second))
          ∙ c.loop-position.invariant.same sig rest;
    }

pub returns : goal.returns
returns c = λ sig rest.
    let none = cut_past c.loop-position.above (reverse c.args.kinds.now) c.args.shapes.now c.loop-position.position (omega (arith, c.loop-position-test.false, c.min-position-end.ensures, length-reverse c.args.kinds.now)) in
    ap (λ (list : List Emitted). most_emitted sig c.loop-position.after (list ++ rest)) (sym none) ∙ c.loop-position.invariant.same sig rest
