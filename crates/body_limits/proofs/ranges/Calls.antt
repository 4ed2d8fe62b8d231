-- The numbers of a call are of their types: so many cells as its arguments have are not many.
use Rattle.std.proofs.Common.{ℕ, ◌+◌, ◌*◌, ◌^◌, ◌<◌, ◌≤◌, ◌&&◌, true, false, if◌then◌else◌, List, [], ◌∷◌, ◌++◌, length, reverse, Option, Some, None, arith}
use Rattle.std.specs.Option.{option_map_or}
use Rattle.std.proofs.lemmas.List.{length-reverse}
use Rattle.class_pool.specs.declared.descriptor.Kind.{Kind as DeclaredKind}
use Rattle.class_pool.specs.declared.descriptor.Kind.TheVariants as declared
use Rattle.image_instr.specs.declared.insn.Kind.{Kind}
use Rattle.image_instr.specs.declared.insn.MInsn.{MInsn}
use Rattle.image_instr.specs.declared.insn.MInsn.TheVariants as insns
use Rattle.image_instr.specs.Insn.{HasRanges}
use Rattle.body_form.specs.declared.op.MethodUse.{MethodUse}
use Rattle.jvm_model.specs.WidthsShapes.{Point}
use Rattle.jvm_model.specs.WidthsSlots.{passed_cells, is_small}
use Rattle.jvm_model.specs.ImageExpansion.{Ids, alone, alone_where, is_two, top_of, read_as, cut_arguments, call, call_itself}
use Rattle.type_safety.proofs.facts.FewCounts.{HasFewArguments}
use Rattle.body_limits.proofs.ranges.Plain.{InRange, both, where_emitted, read_in}

pub passed_few : (k : DeclaredKind) → passed_cells k ≤ 2
passed_few declared.Int = omega arith
passed_few declared.Byte = omega arith
passed_few declared.Char = omega arith
passed_few declared.Short = omega arith
passed_few declared.Boolean = omega arith
passed_few declared.Double = omega arith
passed_few declared.Float = omega arith
passed_few declared.Long = omega arith
passed_few (declared.Class name) = omega arith
passed_few (declared.Array dims of) = omega arith

arguments_in : (above : ℕ) (kinds : List DeclaredKind) (shapes : List Kind) → above + 2 * length kinds < 2 ^ 16 → InRange (cut_arguments above kinds shapes)
unfolding cut_arguments
arguments_in above [] [] low = tt
arguments_in above [] (shape ∷ shapes) low = tt
arguments_in above (k ∷ kinds) [] low = tt
arguments_in above (k ∷ kinds) (shape ∷ shapes) low =
    both (alone_where (is_small k && is_two shape) (insns.Drop above)) (cut_arguments (above + passed_cells k) kinds shapes)
    (where_emitted (is_small k && is_two shape) (insns.Drop above) (omega (arith, low)))
    (arguments_in (above + passed_cells k) kinds shapes (omega (arith, low, passed_few k)))

result_in : (result : Option DeclaredKind) (shape : Kind) → InRange (option_map_or (λ (k : DeclaredKind). read_as k shape) result [])
result_in None shape = tt
result_in (Some k) shape = read_in k shape

pub call_in : (used : MethodUse) (point : Point) (insn : MInsn) → HasFewArguments used → HasRanges insn → InRange (call used point insn)
call_in used point insn few range =
    let result = option_map_or (λ (k : DeclaredKind). read_as k (top_of point.after)) used.descriptor.result [] in
    both (cut_arguments 0 (reverse used.descriptor.params) point.before) (alone insn ++ result)
    (arguments_in 0 (reverse used.descriptor.params) point.before (omega (arith, few, length-reverse used.descriptor.params)))
    ((range, tt), result_in used.descriptor.result (top_of point.after))

-- of a private method or by its selector
pub itself_in : (ids : Ids) (used : MethodUse) (insn : MInsn) → ids.method used.method < 2 ^ 16 → HasRanges insn → HasRanges (call_itself ids used insn)
itself_in ids used insn method range = elim used.private as (λ private. HasRanges (if private then insns.CallX (ids.method used.method) else insn)) [ true ↦ method | false ↦ range ]
