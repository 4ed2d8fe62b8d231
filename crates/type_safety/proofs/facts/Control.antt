-- Where control goes in a body there are instructions.
use Rattle.std.proofs.Common.{◌≡◌, ℕ, ◌<◌, Bool, true, false, nat_eq, List, [], ◌∷◌, length, map, Option, Some, Result, Ok, refl, sym, ap, subst, ◌∙◌, arith, eqb-true}
use Rattle.std.specs.Prelude.{if◌then◌else◌}
use Rattle.std.specs.List.{AllByRecursion, Contains}
use Rattle.class_pool.specs.Pool.{Slots, integer_at}
use Rattle.class_file.specs.declared.record.ClassFile.{ClassFile}
use Rattle.class_file.specs.declared.record.CodeAttr.{CodeAttr}
use Rattle.class_file.specs.declared.record.HandlerRow.{HandlerRow}
use Rattle.class_code.specs.declared.insn.Insn.{Insn}
use Rattle.class_code.specs.declared.insn.Insn.TheVariants as insns
use Rattle.class_code.specs.Code.{Insns, CodeIs, IsCode, HandlerFits, targets as insn_targets, IsStart as StartsInsn}
use Rattle.code_reach.specs.Reached.{Way, Ways}
use Rattle.class_code.specs.Flow.{insn_way}
use Rattle.body_form.specs.Reach.{way_of}
use Rattle.body_form.specs.declared.body.Body.{Body}
use Rattle.body_form.specs.declared.body.Guard.{Guard}
use Rattle.body_form.specs.declared.op.Op.{Op}
use Rattle.body_form.specs.declared.op.Op.TheVariants as op
use Rattle.body_form.specs.declared.op.Literal.TheVariants as literal
use Rattle.body_form.specs.declared.op.UnaryOp.TheVariants as unary
use Rattle.body_form.specs.Flow.{Ops, IsStart, goes_on, targets, leads_to, successors}
use Rattle.jvm_model.specs.declared.refusal.Cause.{Cause}
use Rattle.jvm_model.specs.declared.refusal.Cause.TheVariants.{WrongKind}
use Rattle.jvm_model.specs.Resolution.{type_with, type_used}
use Rattle.jvm_model.specs.FieldUses.{field_used}
use Rattle.jvm_model.specs.MethodUses.{virtual_call, static_call, interface_call, special_call}
use Rattle.jvm_model.specs.Instructions.{may_be_made, may_be_element, has_counted, any_type, element_of, read_of, write_of, op_of}
use Rattle.class_tree.specs.Subtypes.{array_of}
use Rattle.jvm_model.specs.Bodies.{AreEach, IsFamily, IsResolved, IsNop, IsGuard}
use Rattle.jvm_model.specs.TypesRules.{op_at, is_last}
use Rattle.jvm_model.proofs.bodies.BodyNames.{then_ok}
use Rattle.std.specs.Option.{ok_or}
use Rattle.typed_machine.specs.TypedWorld.{pc_after}
use Rattle.type_safety.specs.Facts.{Leads}
use Rattle.type_safety.proofs.fitting.SetLists.{none_some, same_some, all_contained, in_head, in_tail, contains_all}

-- ---- a family leads where its instruction leads

abbrev ok_of : Op → Result Op Cause
ok_of found = Ok found

pub same_op : (made found : Op) → ok_of made ≡ ok_of found → made ≡ found
same_op made found e = cc

pub op_way : (files : List ClassFile) (from : ℕ) (pool : Slots) (insn : Insn) (found : Op) → op_of files from pool insn ≡ Ok found → way_of found ≡ insn_way insn
op_way files from pool insns.Nop found e = sym (ap way_of (same_op (op.Nop) found e))
op_way files from pool insns.Null found e = sym (ap way_of (same_op (op.Const literal.Null) found e))
op_way files from pool (insns.Push number) found e = sym (ap way_of (same_op (op.Const (literal.Int number)) found e))
op_way files from pool (insns.Load kind local) found e = sym (ap way_of (same_op (op.Load kind local) found e))
op_way files from pool (insns.Store kind local) found e = sym (ap way_of (same_op (op.Store kind local) found e))
op_way files from pool (insns.Inc local amount) found e = sym (ap way_of (same_op (op.Inc local amount) found e))
op_way files from pool (insns.Stack form) found e = sym (ap way_of (same_op (op.Stack form) found e))
op_way files from pool (insns.Bin operation) found e = sym (ap way_of (same_op (op.Bin operation) found e))
op_way files from pool insns.Neg found e = sym (ap way_of (same_op (op.Unary unary.Neg) found e))
op_way files from pool (insns.Convert conv) found e = sym (ap way_of (same_op (op.Unary (unary.Convert conv)) found e))
op_way files from pool (insns.If cond target) found e = sym (ap way_of (same_op (op.If cond target) found e))
op_way files from pool (insns.IfCmp cond target) found e = sym (ap way_of (same_op (op.IfCmp cond target) found e))
op_way files from pool (insns.IfRef cond target) found e = sym (ap way_of (same_op (op.IfRef cond target) found e))
op_way files from pool (insns.Goto target) found e = sym (ap way_of (same_op (op.Goto target) found e))
op_way files from pool (insns.Switch form default rows) found e = sym (ap way_of (same_op (op.Switch form default rows) found e))
op_way files from pool (insns.Return kind) found e = sym (ap way_of (same_op (op.Return kind) found e))
op_way files from pool insns.ArrayLength found e = sym (ap way_of (same_op (op.ArrayLength) found e))
op_way files from pool (insns.ArrayLoad kind) found e = sym (ap way_of (same_op (op.ArrayLoad kind) found e))
op_way files from pool (insns.ArrayStore kind) found e = sym (ap way_of (same_op (op.ArrayStore kind) found e))
op_way files from pool insns.Throw found e = sym (ap way_of (same_op (op.Throw) found e))
op_way files from pool (insns.NewArray kind) found e = sym (ap way_of (same_op (op.NewArray (type_with 1 (element_of kind))) found e))
op_way files from pool (insns.Ldc index) found e = let made = then_ok (λ number. Ok (op.Const (literal.Int number))) (ok_or (integer_at pool index) WrongKind) found e in sym (ap way_of (same_op (op.Const (literal.Int made.0)) found made.2))
op_way files from pool (insns.GetStatic index) found e = let made = then_ok (λ used. Ok (op.GetStatic used)) (field_used files from pool (read_of true) index) found e in sym (ap way_of (same_op (op.GetStatic made.0) found made.2))
op_way files from pool (insns.PutStatic index) found e = let made = then_ok (λ used. Ok (op.PutStatic used)) (field_used files from pool (write_of true) index) found e in sym (ap way_of (same_op (op.PutStatic made.0) found made.2))
op_way files from pool (insns.GetField index) found e = let made = then_ok (λ used. Ok (op.GetField used)) (field_used files from pool (read_of false) index) found e in sym (ap way_of (same_op (op.GetField made.0) found made.2))
op_way files from pool (insns.PutField index) found e = let made = then_ok (λ used. Ok (op.PutField used)) (field_used files from pool (write_of false) index) found e in sym (ap way_of (same_op (op.PutField made.0) found made.2))
op_way files from pool (insns.CallVirtual index) found e = let made = then_ok (λ used. Ok (op.CallVirtual used)) (virtual_call files from pool index) found e in sym (ap way_of (same_op (op.CallVirtual made.0) found made.2))
op_way files from pool (insns.CallSpecial index) found e = let made = then_ok (λ used. Ok (op.CallSpecial used)) (special_call files from pool index) found e in sym (ap way_of (same_op (op.CallSpecial made.0) found made.2))
op_way files from pool (insns.CallStatic index) found e = let made = then_ok (λ used. Ok (op.CallStatic used)) (static_call files from pool index) found e in sym (ap way_of (same_op (op.CallStatic made.0) found made.2))
op_way files from pool (insns.CallInterface index count) found e = let made = then_ok (λ used. Ok (op.CallInterface used)) (interface_call files from pool count index) found e in sym (ap way_of (same_op (op.CallInterface made.0) found made.2))
op_way files from pool (insns.New index) found e = let made = then_ok (λ type. Ok (op.New type)) (type_used files from pool (may_be_made files) index) found e in sym (ap way_of (same_op (op.New made.0) found made.2))
op_way files from pool (insns.NewRefArray index) found e = let made = then_ok (λ type. Ok (op.NewArray (array_of type))) (type_used files from pool may_be_element index) found e in sym (ap way_of (same_op (op.NewArray (array_of made.0)) found made.2))
op_way files from pool (insns.CheckCast index) found e = let made = then_ok (λ type. Ok (op.CheckCast type)) (type_used files from pool any_type index) found e in sym (ap way_of (same_op (op.CheckCast made.0) found made.2))
op_way files from pool (insns.InstanceOf index) found e = let made = then_ok (λ type. Ok (op.InstanceOf type)) (type_used files from pool any_type index) found e in sym (ap way_of (same_op (op.InstanceOf made.0) found made.2))
op_way files from pool (insns.MultiArray index dims) found e = let made = then_ok (λ type. Ok (op.MultiArray type dims)) (type_used files from pool (has_counted dims) index) found e in sym (ap way_of (same_op (op.MultiArray made.0 dims) found made.2))

op_targets : (files : List ClassFile) (from : ℕ) (pool : Slots) (insn : Insn) (found : Op) → op_of files from pool insn ≡ Ok found → targets found ≡ insn_targets insn
op_targets files from pool insn found e = ap (λ (w : Way). w.targets) (op_way files from pool insn found e)

-- ---- after an instruction

leads_start : (P : ℕ → Type 0) (o : Op) (suffix : Ops) → AllByRecursion P (targets o) → AllByRecursion P (map (λ x. x.0) suffix) → AllByRecursion P (leads_to o suffix)
leads_start P o [] named after = named
leads_start P o (next ∷ suffix) named after = by_test (goes_on o)
  where
    by_test : (b : Bool) → AllByRecursion P (if b then next.0 ∷ targets o else targets o)
    by_test true = (after.0, named)
    by_test false = named

-- where an instruction leads is among the pcs of the instructions and their targets
successors_start : (P : ℕ → Type 0) (ops : Ops) (at : ℕ) → AllByRecursion (λ x. AllByRecursion P (targets x.1)) ops → AllByRecursion P (map (λ x. x.0) ops) → AllByRecursion P (successors ops at)
successors_start P [] at named pcs = tt
successors_start P ((pc, o) ∷ suffix) at named pcs = by_test (nat_eq pc at) (successors_start P suffix at named.1 pcs.1)
  where
    by_test : (b : Bool) → AllByRecursion P (successors suffix at) → AllByRecursion P (if b then leads_to o suffix else successors suffix at)
    by_test true rest = leads_start P o suffix named.0 pcs.1
    by_test false rest = rest

abbrev NextAt : Option ℕ → List ℕ → Type 0
NextAt after leads = (to : ℕ) × (after ≡ Some to) × Contains leads to

goes_next : (o : Op) (next : ℕ × Op) (suffix : Ops) → goes_on o ≡ true → Contains (leads_to o (next ∷ suffix)) next.0
goes_next o next suffix e = subst (λ b. Contains (if b then next.0 ∷ targets o else targets o) next.0) (sym e) (in_head next.0 (targets o))

next_at : (ops : Ops) (pc : ℕ) (instruction : Op) → op_at ops pc ≡ Some instruction → goes_on instruction ≡ true → is_last ops pc ≡ false → NextAt (pc_after ops pc) (successors ops pc)
unfolding op_at is_last pc_after
next_at [] pc instruction at goes last = none_some instruction at
next_at ((here, o) ∷ []) pc instruction at goes last = absurd (let bad : true ≡ false = last in cc)
next_at ((here, o) ∷ next ∷ ops) pc instruction at goes last = by_test (nat_eq here pc) at last (next_at (next ∷ ops) pc instruction)
  where
    by_test : (b : Bool) → (if b then Some o else op_at (next ∷ ops) pc) ≡ Some instruction → (if b then false else is_last (next ∷ ops) pc) ≡ false
        → (op_at (next ∷ ops) pc ≡ Some instruction → goes_on instruction ≡ true → is_last (next ∷ ops) pc ≡ false → NextAt (pc_after (next ∷ ops) pc) (successors (next ∷ ops) pc))
        → NextAt (if b then Some next.0 else pc_after (next ∷ ops) pc) (if b then leads_to o (next ∷ ops) else successors (next ∷ ops) pc)
    by_test true is more rest = (next.0, refl, goes_next o next ops (ap goes_on (same_some o instruction is) ∙ goes))
    by_test false is more rest = rest is goes more

-- the instruction at a pc is among the instructions
pub op_there : (ops : Ops) (pc : ℕ) (instruction : Op) → op_at ops pc ≡ Some instruction → Contains ops (pc, instruction)
unfolding op_at
op_there [] pc instruction at = none_some instruction at
op_there ((here, o) ∷ ops) pc instruction at = by_test (nat_eq here pc) refl at (op_there ops pc instruction)
  where
    by_test : (b : Bool) → nat_eq here pc ≡ b → (if b then Some o else op_at ops pc) ≡ Some instruction → (op_at ops pc ≡ Some instruction → Contains ops (pc, instruction)) → Contains ((here, o) ∷ ops) (pc, instruction)
    by_test true same is rest =
        let pcs : here ≡ pc = eqb-true here pc same in
        let os : o ≡ instruction = same_some o instruction is in
        subst (λ (n : ℕ). Contains ((here, o) ∷ ops) (n, instruction)) pcs (subst (λ (i : Op). Contains ((here, o) ∷ ops) (here, i)) os (in_head (here, o) ops))
    by_test false other is rest = in_tail (here, o) (pc, instruction) ops (rest is)

-- ---- the instructions of a body

module _ (files : List ClassFile) (class : ℕ) (pool : Slots) (ways : Ways) where
  same_pcs : (list : Insns) (ops : Ops) → AreEach (IsFamily files class pool ways) list ops → map (λ x. x.0) list ≡ map (λ y. y.0) ops
  same_pcs [] [] each = refl
  same_pcs [] (y ∷ ops) each = absurd each
  same_pcs (x ∷ list) [] each = absurd each
  same_pcs (x ∷ list) (y ∷ ops) each = ap (λ n. n ∷ map (λ z. z.0) list) (sym (at each.0)) ∙ ap (λ (l : List ℕ). y.0 ∷ l) (same_pcs list ops each.1)
    where
      at : IsFamily files class pool ways x y → y.0 ≡ x.0
      at (IsResolved is _ _) = is
      at (IsNop is _ _) = is

  named_starts : (P : ℕ → Type 0) (list : Insns) (ops : Ops) → AreEach (IsFamily files class pool ways) list ops → AllByRecursion (λ x. AllByRecursion P (insn_targets x.1)) list → AllByRecursion (λ y. AllByRecursion P (targets y.1)) ops
  named_starts P [] [] each all = tt
  named_starts P [] (y ∷ ops) each all = absurd each
  named_starts P (x ∷ list) [] each all = absurd each
  named_starts P (x ∷ list) (y ∷ ops) each all = (one each.0, named_starts P list ops each.1 all.1)
    where
      one : IsFamily files class pool ways x y → AllByRecursion P (targets y.1)
      one (IsResolved _ _ is) = subst (AllByRecursion P) (sym (op_targets files class pool x.1 y.1 is)) all.0
      one (IsNop _ _ is) = subst (λ (o : Op). AllByRecursion P (targets o)) (sym is) tt

  handlers_start : (P : ℕ → Type 0) (insns : Insns) (size : ℕ) (rows : List HandlerRow) (guards : List Guard) → ((pc : ℕ) → StartsInsn insns pc → P pc)
      → AreEach (IsGuard files class pool) rows guards → AllByRecursion (HandlerFits insns size) rows → AllByRecursion (λ guard. P guard.target) guards
  handlers_start P insns size [] [] starts each all = tt
  handlers_start P insns size [] (g ∷ guards) starts each all = absurd each
  handlers_start P insns size (row ∷ rows) [] starts each all = absurd each
  handlers_start P insns size (row ∷ rows) (g ∷ guards) starts each all = (subst P (sym each.0.target) (starts row.target all.0.handler), handlers_start P insns size rows guards starts each.1 all.1)

-- ---- a body of code

first_start : (code : List ℕ) (list : Insns) → 0 < length code → CodeIs code list → StartsInsn list 0
first_start code [] some (end, stand) = absurd (let none : 0 ≡ length code = ap (λ (l : List ℕ). length l) stand.1 in omega (arith, some, none))
first_start code ((at, insn) ∷ list) some (end, stand) = subst (λ (n : ℕ). Contains (map (λ x. x.0) ((at, insn) ∷ list)) n) stand.0 (in_head at (map (λ x. x.0) list))

pub record GoesWithin (body : Body) : Type 0 where
  pub first : IsStart body.ops 0
  pub leads : (pc : ℕ) (instruction : Op) → op_at body.ops pc ≡ Some instruction → Leads body pc instruction
  pub handlers : (guard : Guard) → Contains body.handlers guard → IsStart body.ops guard.target

pub goes_within : (files : List ClassFile) (class : ℕ) (pool : Slots) (ways : Ways) (code : CodeAttr) (list : Insns) (body : Body) → 0 < length code.code → IsCode code.code list → AllByRecursion (HandlerFits list (length code.code)) code.handlers
    → AreEach (IsFamily files class pool ways) list body.ops → AreEach (IsGuard files class pool) code.handlers body.handlers → GoesWithin body
goes_within files class pool ways code list body some is rows ops guards =
    let pcs = same_pcs files class pool ways list body.ops ops in
    let starts : (pc : ℕ) → StartsInsn list pc → IsStart body.ops pc = λ pc start. subst (λ (l : List ℕ). Contains l pc) pcs start in
    let jumps : AllByRecursion (λ x. AllByRecursion (IsStart body.ops) (insn_targets x.1)) list = subst (λ (l : List ℕ). AllByRecursion (λ x. AllByRecursion (Contains l) (insn_targets x.1)) list) pcs is.jumps in
    let named = named_starts files class pool ways (IsStart body.ops) list body.ops ops jumps in
    record {
      first = starts 0 (first_start code.code list some is.stand);
      leads = λ pc instruction at. record {
        starts = λ to h. all_contained (IsStart body.ops) (successors body.ops pc) (successors_start (IsStart body.ops) body.ops pc named (contains_all (map (λ x. x.0) body.ops))) to h;
        next = λ goes last. next_at body.ops pc instruction at goes last;
      };
      handlers = λ guard h. all_contained (λ (g : Guard). IsStart body.ops g.target) body.handlers (handlers_start files class pool ways (IsStart body.ops) list (length code.code) code.handlers body.handlers starts guards rows) guard h;
    }
