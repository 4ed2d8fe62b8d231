-- The arguments are popped, and the result is pushed as its kind asks for.
use Rattle.std.proofs.Common.{◌≡◌, ℕ, ◌+◌, ◌++◌, cond, not, List, [], ◌∷◌, map, filter, length, Option, sym, ap, ◌∙◌, arith}
use Rattle.std.specs.List.{sum_by}
use Rattle.std.specs.Option.{option_map_or}
use Rattle.class_pool.specs.declared.descriptor.Kind.{Kind}
use Rattle.image_instr.specs.declared.insn.Kind.{Kind as Shape}
use Rattle.image_instr.specs.Effect.{called, effect_of, refs_of, cells_of}
use Rattle.jvm_model.specs.Initialisers.{is_reference_kind}
use Rattle.jvm_model.specs.ImageExpansion.{alone, kind_in, read_as}
use Rattle.jvm_model.specs.WidthsSlots.{passed_cells}
use Rattle.jvm_model.specs.WidthsFrame.{signature_for, popped, pushed}
use Rattle.flow_split.specs.declared.moves.Move.{Move}
use Rattle.flow_split.specs.Moves.{move_of, moving, is_still}
use Rattle.flow_split.proofs.PeakSteps.{called_pops, called_pushes}
use Rattle.flow_split.proofs.calls.called.Goals as goal

three : (a b c : ℕ) → a + (b + c) ≡ a + b + c
three a b c = omega arith

pub returns-in-Some : goal.returns-in-Some
returns-in-Some c = λ insn effect.
    let used = c.args.used.now in
    let instance = c.args.instance in
    let params = used.descriptor.params in
    let k = c.in-Some.kind in
    let refs = cond instance 1 0 + length (filter is_reference_kind params) in
    let cells = sum_by passed_cells params in
    let sig = signature_for instance params used.descriptor.result in
    let pops : c.object_cells.result + c.all_argument_cells.result ≡ popped (effect_of insn sig) =
    ap (λ n. n + c.all_argument_cells.result) c.object_cells.ensures
    ∙ ap (λ n. cond instance 1 0 + n) (c.all_argument_cells.ensures.is ∙ ap (λ (list : List Kind). length (filter is_reference_kind list) + sum_by passed_cells list) c.as_slice.ensures)
    ∙ three (cond instance 1 0) (length (filter is_reference_kind params)) cells
    ∙ sym (called_pops refs cells (kind_in k))
    ∙ ap (λ (o : Option Kind). popped (called (signature_for instance params o))) (sym c.in-Some.is)
    ∙ sym (ap popped effect)
    in
    let pushes : c.shape_cells-pushes.result ≡ pushed (effect_of insn sig) =
    c.shape_cells-pushes.ensures ∙ ap (λ (shape : Shape). refs_of shape + cells_of shape) c.kind_in.ensures
    ∙ sym (called_pushes refs cells (kind_in k))
    ∙ ap (λ (o : Option Kind). pushed (called (signature_for instance params o))) (sym c.in-Some.is)
    ∙ sym (ap pushed effect)
    in
    let first : Move = move_of sig (insn, []) in
    ap (λ n. let made : Move = record { pops = n; pushes = c.shape_cells-pushes.result } in moving (made ∷ c.read_as.result ∷ [])) pops
    ∙ ap (λ n. let made : Move = record { pops = popped (effect_of insn sig); pushes = n } in moving (made ∷ c.read_as.result ∷ [])) pushes
    ∙ ap (λ (list : List Move). cond (not (is_still first)) (first ∷ list) list) (c.read_as.ensures sig)
    ∙ ap (λ (o : Option Kind). moving (map (move_of sig) (alone insn ++ option_map_or (λ (r : Kind). read_as r c.args.after) o []))) (sym c.in-Some.is)
