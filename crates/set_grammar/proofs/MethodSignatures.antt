-- The signature of a body with few parameters is of the grammar.
use Rattle.std.proofs.Common.{◌*◌, ◌≤◌, Bool, true, false, cond, List, [], ◌∷◌, filter, length, Option, Some, None, arith}
use Rattle.std.specs.List.{sum_by}
use Rattle.std.proofs.lemmas.List.Sums.{sum_by-cons}
use Rattle.class_pool.specs.declared.descriptor.Kind.{Kind}
use Rattle.image_instr.specs.declared.insn.Kind.{Kind as SplitKind}
use Rattle.image_instr.specs.declared.insn.Kind.TheVariants as split_kind
use Rattle.image_form.specs.Grammar.{IsSignature}
use Rattle.body_form.specs.declared.body.Body.{Body}
use Rattle.jvm_model.specs.Initialisers.{is_reference_kind}
use Rattle.jvm_model.specs.ImageExpansion.{kind_in}
use Rattle.jvm_model.specs.WidthsFrame.{code_of_kind, result_code, signature_for}
use Rattle.jvm_model.specs.WidthsSlots.{passed_cells}
use Rattle.body_limits.proofs.ranges.Calls.{passed_few}
use Rattle.body_limits.specs.Limits.{HasFewParameters}

pub fewer_pass : {X : Type 0} (test : X → Bool) (items : List X) → length (filter test items) ≤ length items
fewer_pass test [] = omega arith
fewer_pass test (x ∷ items) = by (test x) (fewer_pass test items)
  where
    by : (passes : Bool) → length (filter test items) ≤ length items → length (cond passes (x ∷ filter test items) (filter test items)) ≤ length (x ∷ items)
    by true few = omega (arith, few)
    by false few = omega (arith, few)

pub all_few : (kinds : List Kind) → sum_by passed_cells kinds ≤ 2 * length kinds
all_few [] = omega arith
all_few (k ∷ kinds) = omega (arith, passed_few k, all_few kinds, sum_by-cons passed_cells k kinds)

code_few : (k : SplitKind) → code_of_kind k ≤ 3
code_few split_kind.Ref = omega arith
code_few split_kind.One = omega arith
code_few split_kind.Two = omega arith

pub result_few : (result : Option Kind) → result_code result ≤ 3
result_few None = omega arith
result_few (Some k) = code_few (kind_in k)

pub is_signature : (body : Body) → HasFewParameters body → IsSignature (signature_for body.instance body.params body.result)
is_signature body few =
    record {
      refs_fit = omega (arith, few, fewer_pass is_reference_kind body.params);
      cells_fit = omega (arith, few, all_few body.params);
      result_is = result_few body.result;
    }
