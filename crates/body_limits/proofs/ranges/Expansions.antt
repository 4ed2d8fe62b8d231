-- The numbers of the machine instructions of each family are of their types.
use Rattle.std.proofs.Common.{ℕ, ◌^◌, ◌<◌, true, get_or, Option, arith}
use Rattle.class_pool.specs.declared.descriptor.Kind.{Kind as DeclaredKind}
use Rattle.class_pool.specs.declared.types.TypeBase.TheVariants as base
use Rattle.image_instr.specs.declared.insn.MInsn.TheVariants as insns
use Rattle.body_form.specs.declared.op.Op.{Op}
use Rattle.body_form.specs.declared.op.Op.TheVariants as op
use Rattle.body_form.specs.declared.types.VType.TheVariants as known
use Rattle.jvm_model.specs.WidthsShapes.{Point}
use Rattle.jvm_model.specs.ImageExpansion.{Locals, Ids, alone, top_of, second_of, width_of, kind_in, element_of, cut_to_one, write_as, is_boolean_array, is_small_element, call_itself, expanded}
use Rattle.typed_machine.specs.TypedWorld.{World}
use Rattle.type_safety.specs.Facts.{Named}
use Rattle.type_safety.proofs.facts.FewCounts.{HasFewCounts}
use Rattle.body_limits.proofs.ranges.Plain.{InRange, both, extend_in, read_in, cut_in, write_in, restack_in, unary_in, element_in, return_in}
use Rattle.body_limits.proofs.ranges.Constants.{constant_in}
use Rattle.body_limits.proofs.ranges.Switches.{switch_in}
use Rattle.body_limits.proofs.ranges.Calls.{call_in, itself_in}
use Rattle.body_limits.proofs.ranges.PlanLocals.{LocalsFit, load_in, store_in}
use Rattle.body_limits.proofs.ranges.ImageIds.{IdsFit}

module _ (world : World) (own : ℕ) (locals : Locals) (ids : Ids) (offset : ℕ → ℕ) (result : Option DeclaredKind) (point : Point) (slots : LocalsFit locals) (numbers : IdsFit ids) (fits : (pc : ℕ) → offset pc < 2 ^ 16) where
  pub expansion_in : (instruction : Op) → Named world own instruction → HasFewCounts instruction → InRange (expanded locals ids offset result point instruction)
  expansion_in op.Nop named few = tt
  expansion_in (op.Const value) named few = ((constant_in value (top_of point.after) named, tt), tt)
  expansion_in (op.Load k local) named few = ((load_in locals slots k local, tt), tt)
  expansion_in (op.Store k local) named few = store_in locals slots k local
  expansion_in (op.Inc local amount) named few = (((slots.cell local, named), tt), tt)
  expansion_in (op.Stack form) named few = restack_in form point.before
  expansion_in (op.Bin operation) named few = ((tt, tt), tt)
  expansion_in (op.Unary operation) named few = unary_in operation (top_of point.before) (top_of point.after)
  expansion_in (op.If condition target) named few = ((fits target, tt), tt)
  expansion_in (op.IfCmp condition target) named few = ((fits target, tt), tt)
  expansion_in (op.IfRef condition target) named few = ((fits target, tt), tt)
  expansion_in (op.Goto target) named few = ((fits target, tt), tt)
  expansion_in (op.Switch form default rows) named few = (switch_in offset fits form (width_of (top_of point.before)) default rows named few, tt)
  expansion_in (op.Return k) named few = return_in result (top_of point.before) k
  expansion_in (op.GetStatic used) named few = ((numbers.static used.field, tt), read_in used.kind (top_of point.after))
  expansion_in (op.PutStatic used) named few =
      both (write_as used.kind (top_of point.before)) (alone (insns.PutS (kind_in used.kind) (ids.static used.field))) (write_in used.kind (top_of point.before)) ((numbers.static used.field, tt), tt)
  expansion_in (op.GetField used) named few = ((numbers.field used.field, tt), read_in used.kind (top_of point.after))
  expansion_in (op.PutField used) named few =
      both (write_as used.kind (top_of point.before)) (alone (insns.PutF (kind_in used.kind) (ids.field used.field))) (write_in used.kind (top_of point.before)) ((numbers.field used.field, tt), tt)
  expansion_in (op.CallVirtual used) named few =
      let by_selector = insns.CallV (ids.selector used) in
      call_in used point (call_itself ids used by_selector) few (itself_in ids used by_selector (numbers.method used.method) (numbers.selector used))
  expansion_in (op.CallSpecial used) named few = call_in used point (insns.CallX (ids.method used.method)) few (numbers.method used.method)
  expansion_in (op.CallStatic used) named few = call_in used point (insns.CallS (ids.method used.method)) few (numbers.method used.method)
  expansion_in (op.CallInterface used) named few =
      let by_selector = insns.CallI (ids.selector used) (ids.type (record { dims = 0; base = base.Class used.class })) in
      call_in used point (call_itself ids used by_selector) few (itself_in ids used by_selector (numbers.method used.method) (numbers.selector used, numbers.type (record { dims = 0; base = base.Class used.class })))
  expansion_in (op.New type) named few = ((numbers.type type, tt), tt)
  expansion_in (op.NewArray type) named few = ((numbers.type type, tt), tt)
  expansion_in op.ArrayLength named few = ((tt, tt), extend_in true (top_of point.after))
  expansion_in (op.ArrayLoad k) named few = ((tt, tt), element_in k (is_boolean_array (get_or point.types 1 known.Top)) (top_of point.after))
  expansion_in (op.ArrayStore k) named few =
      both (cut_to_one (is_small_element k) (top_of point.before)) (alone (insns.AStore (element_of k) (width_of (second_of point.before)))) (cut_in (is_small_element k) (top_of point.before)) ((tt, tt), tt)
  expansion_in op.Throw named few = ((tt, tt), tt)
  expansion_in (op.CheckCast type) named few = ((numbers.type type, tt), tt)
  expansion_in (op.InstanceOf type) named few = ((numbers.type type, tt), extend_in true (top_of point.after))
  expansion_in (op.MultiArray array dims) named few = (((numbers.type array, omega (arith, few)), tt), tt)
