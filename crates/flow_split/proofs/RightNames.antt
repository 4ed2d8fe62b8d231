-- The rules of instructions ask for the locals that they name.
use Rattle.std.proofs.Common.{◌≡◌, ℕ, zero, suc, ◌<◌, ◌≤◌, Bool, true, false, cond, ◌&&◌, not, nat_eq, nat_lt, nat_le, List, [], ◌∷◌, length, Option, Some, None, refl, ap, ◌∙◌, arith}
use Rattle.std.specs.Prelude.{slice_get, IfSome, option_and_then}
use Rattle.std.specs.List.{AllByRecursion}
use Rattle.std.proofs.lemmas.Bool.Decides.{nat_tests}
use Rattle.class_file.specs.declared.record.ClassFile.{ClassFile}
use Rattle.insn_form.specs.declared.ValueKind.{ValueKind}
use Rattle.code_reach.specs.Reached.{RisesFrom}
use Rattle.body_form.specs.declared.body.Body.{Body}
use Rattle.body_form.specs.declared.op.Op.{Op}
use Rattle.body_form.specs.declared.op.Op.TheVariants as op
use Rattle.body_form.specs.declared.types.VFrame.{VFrame}
use Rattle.body_form.specs.declared.types.VType.{VType}
use Rattle.body_form.specs.Flow.{Ops, goes_on}
use Rattle.jvm_model.specs.TypesRight.{Table, IsRight}
use Rattle.jvm_model.specs.TypesRules.{Change, op_at, load, store, increment, has_kind, change_of, frame_after, is_within, is_last, where_within, changed}
use Rattle.type_table.specs.Types.{Rows, table_of}
use Rattle.flow_split.proofs.Deciding.{both_true}
use Rattle.flow_split.specs.Around.{local_named}
use Rattle.flow_split.specs.Splits.{AreNamed}

-- ---- the instruction at a pc

later_at : (x : ℕ × Op) (low : ℕ) (all some : Ops) → RisesFrom low some → x.0 < low → AllByRecursion (λ (y : ℕ × Op). op_at all y.0 ≡ Some y.1) some → AllByRecursion (λ (y : ℕ × Op). op_at (x ∷ all) y.0 ≡ Some y.1) some
unfolding op_at
later_at x low all [] rise lt at = tt
later_at x low all (y ∷ some) rise lt at =
    let least = rise.0 in
    let other : nat_eq x.0 y.0 ≡ false = grind (arith, nat_tests, lt, least) in
    (ap (λ b. cond b (Some x.1) (op_at all y.0)) other ∙ at.0, later_at x (suc y.0) all some rise.1 (omega (arith, lt, least)) at.1)

each_at : (low : ℕ) (ops : Ops) → RisesFrom low ops → AllByRecursion (λ (y : ℕ × Op). op_at ops y.0 ≡ Some y.1) ops
unfolding op_at
each_at low [] rise = tt
each_at low (x ∷ ops) rise =
    let here : nat_eq x.0 x.0 ≡ true = grind (arith, nat_tests) in
    (ap (λ b. cond b (Some x.1) (op_at ops x.0)) here, later_at x (suc x.0) ops ops rise.1 (omega arith) (each_at (suc x.0) ops rise.1))

-- ---- what a rule asks

there : {X : Type 0} (list : List X) (index : ℕ) (x : X) → slice_get list index ≡ Some x → index < length list
there [] index x is = absurd (grind (arith, is))
there (y ∷ list) zero x is = omega arith
there (y ∷ list) (suc index) x is = omega (arith, there list index x is)

loaded : (frame : VFrame) (kind : ValueKind) (found : Option VType) (change : Change) → load frame kind found ≡ Some change → (type : VType) × (found ≡ Some type)
loaded frame kind None change is = absurd (grind (arith, is))
loaded frame kind (Some type) change is = (type, refl)

counted : (frame : VFrame) (found : Option VType) (change : Change) → increment frame found ≡ Some change → (type : VType) × (found ≡ Some type)
counted frame None change is = absurd (grind (arith, is))
counted frame (Some type) change is = (type, refl)

when_some : {X : Type 0} (b : Bool) (o : Option X) (x : X) → cond b o None ≡ Some x → (b ≡ true) × (o ≡ Some x)
when_some true o x is = (refl, is)
when_some false o x is = absurd (grind (arith, is))

stored : (frame : VFrame) (kind : ValueKind) (local : ℕ) (stack : List VType) (change : Change) → store frame kind local stack ≡ Some change → local < length frame.locals
stored frame kind local [] change is = absurd (grind (arith, is))
stored frame kind local (type ∷ stack) change is =
    let both = both_true (has_kind kind type) (nat_lt local (length frame.locals)) (when_some (has_kind kind type && nat_lt local (length frame.locals)) _ change is).0 in
    let less = both.1 in
    grind (arith, nat_tests, less)

named_by : (files : List ClassFile) (body : Body) (pc : ℕ) (instruction : Op) (frame : VFrame) (change : Change) → change_of files body pc instruction frame ≡ Some change → IfSome (local_named instruction) (λ local. local < length frame.locals)
named_by files body pc (op.Load kind local) frame change is = let found = loaded frame kind (slice_get frame.locals local) change is in there frame.locals local found.0 found.1
named_by files body pc (op.Store kind local) frame change is = stored frame kind local frame.stack change is
named_by files body pc (op.Inc local amount) frame change is = let found = counted frame (slice_get frame.locals local) change is in there frame.locals local found.0 found.1
named_by files body pc op.Nop frame change is = tt
named_by files body pc (op.Const value) frame change is = tt
named_by files body pc (op.Stack f) frame change is = tt
named_by files body pc (op.Bin o) frame change is = tt
named_by files body pc (op.Unary o) frame change is = tt
named_by files body pc (op.If c target) frame change is = tt
named_by files body pc (op.IfCmp c target) frame change is = tt
named_by files body pc (op.IfRef c target) frame change is = tt
named_by files body pc (op.Goto target) frame change is = tt
named_by files body pc (op.Switch f default targets) frame change is = tt
named_by files body pc (op.Return k) frame change is = tt
named_by files body pc (op.GetStatic used) frame change is = tt
named_by files body pc (op.PutStatic used) frame change is = tt
named_by files body pc (op.GetField used) frame change is = tt
named_by files body pc (op.PutField used) frame change is = tt
named_by files body pc (op.CallVirtual used) frame change is = tt
named_by files body pc (op.CallSpecial used) frame change is = tt
named_by files body pc (op.CallStatic used) frame change is = tt
named_by files body pc (op.CallInterface used) frame change is = tt
named_by files body pc (op.New type) frame change is = tt
named_by files body pc (op.NewArray type) frame change is = tt
named_by files body pc op.ArrayLength frame change is = tt
named_by files body pc (op.ArrayLoad k) frame change is = tt
named_by files body pc (op.ArrayStore k) frame change is = tt
named_by files body pc op.Throw frame change is = tt
named_by files body pc (op.CheckCast type) frame change is = tt
named_by files body pc (op.InstanceOf type) frame change is = tt
named_by files body pc (op.MultiArray array dims) frame change is = tt

changes : {X Y : Type 0} (f : X → Option Y) (o : Option X) (y : Y) → option_and_then f o ≡ Some y → (x : X) × (o ≡ Some x)
changes f None y is = absurd (grind (arith, is))
changes f (Some x) y is = (x, refl)

fewer : (named : Option ℕ) (low high : ℕ) → low ≤ high → IfSome named (λ local. local < low) → IfSome named (λ local. local < high)
fewer None low high le less = tt
fewer (Some local) low high le less = omega (arith, le, less)

named_at_rule : (files : List ClassFile) (body : Body) (pc : ℕ) (instruction : Op) (frame after : VFrame) → frame_after files body pc instruction frame ≡ Some after → IfSome (local_named instruction) (λ local. local < body.max_locals)
named_at_rule files body pc instruction frame after rule =
    let first = when_some (is_within body frame && not (goes_on instruction && is_last body.ops pc)) (option_and_then (λ (change : Change). where_within body (changed change frame)) (change_of files body pc instruction frame)) after rule in
    let change = changes (λ (change : Change). where_within body (changed change frame)) (change_of files body pc instruction frame) after first.1 in
    let within = both_true (is_within body frame) (not (goes_on instruction && is_last body.ops pc)) first.0 in
    let few = both_true (nat_le (length frame.stack) body.max_stack) (nat_le (length frame.locals) body.max_locals) within.0 in
    let le = few.1 in
    fewer (local_named instruction) (length frame.locals) body.max_locals (grind (arith, nat_tests, le)) (named_by files body pc instruction frame change.0 change.1)

-- ---- tables

named_where : (files : List ClassFile) (body : Body) (table : Table) → IsRight files body table → (x : ℕ × Op) → op_at body.ops x.0 ≡ Some x.1 → (found : Option VFrame) → table x.0 ≡ found
    → IfSome found (λ frame. IfSome (local_named x.1) (λ local. local < body.max_locals))
named_where files body table right x at None is = tt
named_where files body table right x at (Some frame) is =
    let holds = right.rules x.0 x.1 frame at is in
    named_at_rule files body x.0 x.1 frame holds.after holds.rule

all_named : (files : List ClassFile) (body : Body) (table : Table) → IsRight files body table → (some : Ops) → AllByRecursion (λ (x : ℕ × Op). op_at body.ops x.0 ≡ Some x.1) some
    → AllByRecursion (λ (x : ℕ × Op). IfSome (table x.0) (λ frame. IfSome (local_named x.1) (λ local. local < body.max_locals))) some
all_named files body table right [] at = tt
all_named files body table right (x ∷ some) at = (named_where files body table right x at.0 (table x.0) refl, all_named files body table right some at.1)

pub right_names : (files : List ClassFile) (body : Body) (rows : Rows) → RisesFrom 0 body.ops → IsRight files body (table_of rows) → AreNamed body rows
right_names files body rows rise right = all_named files body (table_of rows) right body.ops (each_at 0 body.ops rise)
