-- Each instruction's rule leads from types of the set to types of the set, and holds in each frame below one in which
-- it holds.
use Rattle.std.proofs.Common.{◌≡◌, ℕ, Bool, true, false, ◌&&◌, List, [], ◌∷◌, ◌++◌, map, replicate, Option, Some, None, option_and_then, bytes_eq, if◌then◌else◌, subst}
use Rattle.std.specs.List.{AllByRecursion}
use Rattle.std.proofs.lemmas.Option.{same_Some}
use Rattle.class_pool.specs.declared.descriptor.Kind.{Kind}
use Rattle.class_file.specs.declared.record.ClassFile.{ClassFile}
use Rattle.insn_form.specs.declared.ElementKind.TheVariants as element
use Rattle.insn_form.specs.declared.RefCond.{RefCond}
use Rattle.insn_form.specs.declared.RefCond.TheVariants as ref_cond
use Rattle.insn_form.specs.declared.ValueKind.{ValueKind}
use Rattle.body_form.specs.declared.body.Body.{Body}
use Rattle.body_form.specs.declared.op.MethodUse.{MethodUse}
use Rattle.body_form.specs.declared.op.Op.{Op}
use Rattle.body_form.specs.declared.op.Op.TheVariants as op
use Rattle.body_form.specs.declared.types.VFrame.{VFrame}
use Rattle.body_form.specs.declared.types.VType.{VType}
use Rattle.class_tree.specs.Set.{IsClass}
use Rattle.class_tree.specs.Tree.{Gathers}
use Rattle.jvm_model.specs.Instructions.{throwable}
use Rattle.jvm_model.specs.MethodUses.{constructor_name}
use Rattle.jvm_model.specs.TypesFrames.{is_int, fits_kind}
use Rattle.jvm_model.specs.TypesNames.{NamesKnown, IsOfSet}
use Rattle.jvm_model.specs.TypesRules.{Change, plain, has_kind, fits_class, is_constructed, is_array, is_array_of, is_elements_value, is_written, constant_of, compared, returned, return_of, field_value, result_of, argument_tests, call, construct, call_special, change_of}
use Rattle.type_order.proofs.families.Tests.{IsDownward, int_downward, constructed_downward, kind_downward, both_downward, class_downward, fits_kind_downward, arguments_downward, array_downward, array_of_downward, value_downward, all_ints, tests_append, tests_reverse}
use Rattle.type_order.proofs.families.Values.{AreFresh, int_fresh, ref_fresh, constant_fresh, field_fresh, result_fresh}
use Rattle.type_order.proofs.families.Moves.{IsRule, tested_rule, plain_rule, rule_of, rule_unless_pending, load_rule, increment_rule, store_rule}
use Rattle.type_order.proofs.families.Restacks.{restack_rule}
use Rattle.type_order.proofs.families.Arrays.{reference_load_rule}
use Rattle.type_order.proofs.families.Objects.{written_passes, construct_rule, make_rule}

module _ (files : List ClassFile) (gathers : Gathers files None) where
  -- ---- plain rules

  abbrev fixed : (tests : List (VType → Bool)) (pushes : List VType) → AllByRecursion (IsDownward files) tests → AreFresh files pushes → IsRule files (λ frame. plain frame tests pushes)
  fixed = plain_rule files gathers

  compared_downward : (cond : RefCond) → AllByRecursion (IsDownward files) (compared cond)
  compared_downward ref_cond.Eq = (constructed_downward files, (constructed_downward files, tt))
  compared_downward ref_cond.Ne = (constructed_downward files, (constructed_downward files, tt))
  compared_downward ref_cond.Null = (constructed_downward files, tt)
  compared_downward ref_cond.NonNull = (constructed_downward files, tt)

  -- where what is pushed is known
  pushing : (tests : List (VType → Bool)) (found : Option (List VType)) → AllByRecursion (IsDownward files) tests → ((pushes : List VType) → found ≡ Some pushes → AreFresh files pushes)
      → IsRule files (λ frame. option_and_then (λ pushes. plain frame tests pushes) found)
  pushing tests found downward fresh = rule_of files (λ pushes frame. plain frame tests pushes) found (λ pushes is. fixed tests pushes downward (fresh pushes is))

  -- ---- returns

  returned_downward : (result : Option Kind) (kind : Option ValueKind) (tests : List (VType → Bool)) → returned files result kind ≡ Some tests → AllByRecursion (IsDownward files) tests
  returned_downward None None tests e = subst (AllByRecursion (IsDownward files)) (same_Some [] tests e) tt
  returned_downward (Some result) (Some kind) tests e =
      let test : VType → Bool = λ type. has_kind kind type && fits_kind files result type in
      subst (AllByRecursion (IsDownward files)) (same_Some (test ∷ []) tests e)
      (both_downward files (has_kind kind) (fits_kind files result) (kind_downward files kind) (fits_kind_downward files gathers result), tt)
  returned_downward result kind tests e = cc

  return_rule : (body : Body) (kind : Option ValueKind) → IsRule files (return_of files body kind)
  return_rule body kind =
      rule_unless_pending files (λ frame. option_and_then (λ tests. plain frame tests []) (returned files body.result kind))
      (rule_of files (λ tests frame. plain frame tests []) (returned files body.result kind) (λ tests is. fixed tests [] (returned_downward body.result kind tests is) tt))

  -- ---- calls

  call_rule : (used : MethodUse) (receiver : List (VType → Bool)) → AllByRecursion (IsDownward files) receiver → IsRule files (λ frame. call files frame used receiver)
  call_rule used receiver downward =
      let params = used.descriptor.params in
      let arguments = tests_reverse files (map (fits_kind files) params) (arguments_downward files gathers params) in
      pushing (argument_tests files used ++ receiver) (result_of files used.descriptor.result) (tests_append files (argument_tests files used) receiver arguments downward)
      (result_fresh files used.descriptor.result)

  chosen : (b : Bool) (first second : VFrame → Option Change) → IsRule files first → IsRule files second → IsRule files (λ frame. if b then first frame else second frame)
  chosen true first second one two = one
  chosen false first second one two = two

  special_rule : (body : Body) (used : MethodUse) → IsClass files body.class → IsClass files used.class → IsRule files (λ frame. call_special files body frame used)
  special_rule body used own named =
      let receiver : VType → Bool = λ type. fits_class files used.class type && fits_class files body.class type in
      chosen (bytes_eq used.name constructor_name) (λ frame. construct files body frame used) (λ frame. call files frame used (receiver ∷ []))
      (construct_rule files gathers body used own named)
      (call_rule used (receiver ∷ []) (both_downward files (fits_class files used.class) (fits_class files body.class) (class_downward files gathers used.class) (class_downward files gathers body.class), tt))

  -- ---- each instruction

  pub rule_is : (body : Body) → IsOfSet files body → (pc : ℕ) (instruction : Op) → NamesKnown files instruction → IsRule files (change_of files body pc instruction)
  rule_is body is pc op.Nop names = fixed [] [] tt tt
  rule_is body is pc (op.Const constant) names = fixed [] (constant_of constant ∷ []) tt (constant_fresh files constant, tt)
  rule_is body is pc (op.Load kind local) names = load_rule files kind local
  rule_is body is pc (op.Store kind local) names = store_rule files kind local
  rule_is body is pc (op.Inc local amount) names = increment_rule files local
  rule_is body is pc (op.Stack form) names = restack_rule files form
  rule_is body is pc (op.Bin operation) names = fixed _ _ (int_downward files, (int_downward files, tt)) (int_fresh files, tt)
  rule_is body is pc (op.Unary operation) names = fixed _ _ (int_downward files, tt) (int_fresh files, tt)
  rule_is body is pc (op.If cond target) names = fixed (is_int ∷ []) [] (int_downward files, tt) tt
  rule_is body is pc (op.IfCmp cond target) names = fixed (is_int ∷ is_int ∷ []) [] (int_downward files, (int_downward files, tt)) tt
  rule_is body is pc (op.IfRef cond target) names = fixed (compared cond) [] (compared_downward cond) tt
  rule_is body is pc (op.Goto target) names = fixed [] [] tt tt
  rule_is body is pc (op.Switch form default rows) names = fixed (is_int ∷ []) [] (int_downward files, tt) tt
  rule_is body is pc (op.Return kind) names = return_rule body kind
  rule_is body is pc (op.GetStatic used) names = pushing [] (field_value files used) tt (field_fresh files used)
  rule_is body is pc (op.PutStatic used) names = fixed (fits_kind files used.kind ∷ []) [] (fits_kind_downward files gathers used.kind, tt) tt
  rule_is body is pc (op.GetField used) names = pushing (fits_class files used.class ∷ []) (field_value files used) (class_downward files gathers used.class, tt) (field_fresh files used)
  rule_is body is pc (op.PutField used) names =
      tested_rule files gathers (λ frame. fits_kind files used.kind ∷ is_written files body frame used ∷ []) []
      (λ upper lower pairs. (λ u l pair. fits_kind_downward files gathers used.kind u l pair.ordered, (written_passes files gathers body used upper lower, tt))) tt
  rule_is body is pc (op.CallVirtual used) names = call_rule used (fits_class files used.class ∷ []) (class_downward files gathers used.class, tt)
  rule_is body is pc (op.CallSpecial used) names = special_rule body used is.class names
  rule_is body is pc (op.CallStatic used) names = call_rule used [] tt
  rule_is body is pc (op.CallInterface used) names = call_rule used (is_constructed ∷ []) (constructed_downward files, tt)
  rule_is body is pc (op.New type) names = make_rule files gathers pc
  rule_is body is pc (op.NewArray type) names = fixed (is_int ∷ []) _ (int_downward files, tt) (ref_fresh files type names, tt)
  rule_is body is pc op.ArrayLength names = fixed (is_array ∷ []) _ (array_downward files, tt) (int_fresh files, tt)
  rule_is body is pc (op.ArrayLoad element.Ref) names = reference_load_rule files
  rule_is body is pc (op.ArrayLoad kind) names = fixed (is_int ∷ is_array_of kind ∷ []) _ (int_downward files, (array_of_downward files kind, tt)) (int_fresh files, tt)
  rule_is body is pc (op.ArrayStore kind) names =
      fixed (is_elements_value kind ∷ is_int ∷ is_array_of kind ∷ []) [] (value_downward files kind, (int_downward files, (array_of_downward files kind, tt))) tt
  rule_is body is pc op.Throw names = fixed (fits_class files throwable ∷ []) [] (class_downward files gathers throwable, tt) tt
  rule_is body is pc (op.CheckCast type) names = fixed (is_constructed ∷ []) _ (constructed_downward files, tt) (ref_fresh files type names, tt)
  rule_is body is pc (op.InstanceOf type) names = fixed (is_constructed ∷ []) _ (constructed_downward files, tt) (int_fresh files, tt)
  rule_is body is pc (op.MultiArray array dims) names = fixed (replicate dims is_int) _ (all_ints files dims) (ref_fresh files array names, tt)
