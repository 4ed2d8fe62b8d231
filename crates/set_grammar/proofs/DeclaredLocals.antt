-- The arguments of a body with right types are among the locals that it declares.
use Rattle.std.proofs.Common.{◌≡◌, ◌+◌, ◌-◌, ◌≤◌, Bool, true, false, ◌&&◌, not, nat_le, if◌then◌else◌, List, [], ◌∷◌, ◌++◌, map, length, replicate, Option, Some, None, refl, arith, length-append}
use Rattle.std.proofs.lemmas.Bool.{and_parts, leb-true}
use Rattle.std.proofs.lemmas.List.{length-map}
use Rattle.std.proofs.lemmas.List.Elements.{length_all_zip}
use Rattle.class_file.specs.declared.record.ClassFile.{ClassFile}
use Rattle.class_tree.specs.Subtypes.{class_type}
use Rattle.body_form.specs.declared.body.Body.{Body}
use Rattle.body_form.specs.declared.types.VFrame.{VFrame}
use Rattle.body_form.specs.declared.types.VType.TheVariants as known
use Rattle.body_form.specs.Flow.{IsStart}
use Rattle.jvm_model.specs.TypesFrames.{arguments_of, is_constructor, may_be_local, parameter_of, receiver_of, start_frame}
use Rattle.jvm_model.specs.TypesRight.{IsRight, Table}
use Rattle.jvm_model.specs.WidthsSlots.{first_parameter}
use Rattle.type_order.proofs.merges.Frames.{above_parts}
use Rattle.type_order.proofs.merges.ListMerges.{IsOver}
use Rattle.type_rounds.proofs.tables.Starts.{start_has_op}
use Rattle.type_safety.proofs.fitting.SetLists.{none_some}

-- the first test of a rule holds
rule_tests : (within last : Bool) (found : Option VFrame) (after : VFrame) → (if within && not last then found else None) ≡ Some after → within ≡ true
rule_tests true last found after is = refl
rule_tests false last found after is = none_some after is

receiver_count : (files : List ClassFile) (body : Body) → length (receiver_of files body) ≡ first_parameter body
receiver_count files body = by body.instance
  where
    by : (instance : Bool) → length (if instance then (if is_constructor files body then known.This else known.Ref (class_type body.class)) ∷ [] else []) ≡ (if instance then 1 else 0)
    by true = refl
    by false = refl

pub arguments_within : (files : List ClassFile) (body : Body) (table : Table) → IsRight files body table → IsStart body.ops 0 → first_parameter body + length body.params ≤ body.max_locals
arguments_within files body table right first =
    let met = right.start first in
    let instruction = start_has_op body.ops 0 first in
    let upper = met.upper in
    let rule = (right.rules 0 instruction.0 upper instruction.1 met.has).rule in
    let arguments = arguments_of files body in
    let unset = replicate (body.max_locals - length arguments) known.Top in
    let above = above_parts files upper (start_frame files body) met.above in
    let same = length_all_zip (IsOver files may_be_local) upper.locals (arguments ++ unset) above.locals in
    let tested = rule_tests _ _ _ _ rule in
    let within = leb-true (length upper.locals) body.max_locals (and_parts (nat_le (length upper.stack) body.max_stack) (nat_le (length upper.locals) body.max_locals) tested).1 in
    let parameters = map (parameter_of files) body.params in
    omega (arith, same, within, length-append arguments unset, length-append (receiver_of files body) parameters, receiver_count files body, length-map body.params (parameter_of files))
