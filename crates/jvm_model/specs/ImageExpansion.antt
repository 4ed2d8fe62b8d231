-- The expansion of each family of instructions to machine instructions. References and whole numbers stand apart, and a
-- whole number has one cell or two.
use Rattle.std.specs.Prelude.{ℕ, ℤ, pos, negsuc, ◌+◌, Bool, true, false, ◌&&◌, nat_eq, if◌then◌else◌, List, [], ◌∷◌, ◌++◌, length, map, take, drop, reverse, get_or, Option, Some, None, unwrap_or}
use Rattle.std.specs.Int.Signed.{le_z}
use Rattle.std.specs.Option.{option_map_or}
use Rattle.std.specs.List.{flat_map, sum_by}
use Rattle.cell_num.specs.declared.arithmetic.BinOp.{BinOp}
use Rattle.cell_num.specs.declared.arithmetic.BinOp.TheVariants as bin
use Rattle.cell_num.specs.declared.conditions.Cond.{Cond}
use Rattle.cell_num.specs.declared.conditions.Cond.TheVariants as cond
use Rattle.cell_num.specs.declared.conversions.Conv.{Conv}
use Rattle.cell_num.specs.declared.conversions.Conv.TheVariants as conv
use Rattle.cell_num.specs.Cells.{sign_extended, low_cell}
use Rattle.class_pool.specs.declared.descriptor.Kind.{Kind as DeclaredKind}
use Rattle.class_pool.specs.declared.descriptor.Kind.TheVariants as declared
use Rattle.class_pool.specs.declared.types.MemberId.{MemberId}
use Rattle.class_pool.specs.declared.types.TypeBase.{TypeBase}
use Rattle.class_pool.specs.declared.types.TypeBase.TheVariants as base
use Rattle.class_pool.specs.declared.types.TypeRef.{TypeRef}
use Rattle.insn_form.specs.declared.ElementKind.{ElementKind}
use Rattle.insn_form.specs.declared.ElementKind.TheVariants as element_kind
use Rattle.insn_form.specs.declared.RefCond.{RefCond}
use Rattle.insn_form.specs.declared.RefCond.TheVariants as ref_cond
use Rattle.insn_form.specs.declared.StackForm.{StackForm}
use Rattle.insn_form.specs.declared.StackForm.TheVariants as form
use Rattle.insn_form.specs.declared.SwitchForm.{SwitchForm}
use Rattle.insn_form.specs.declared.SwitchForm.TheVariants as switch
use Rattle.insn_form.specs.declared.SwitchRow.{SwitchRow}
use Rattle.insn_form.specs.declared.ValueKind.{ValueKind}
use Rattle.insn_form.specs.declared.ValueKind.TheVariants as value_kind
use Rattle.image_instr.specs.declared.insn.SwitchRow as image_row
use Rattle.image_instr.specs.declared.insn.Condition.{Condition}
use Rattle.image_instr.specs.declared.insn.Condition.TheVariants as condition
use Rattle.image_instr.specs.declared.insn.Element.{Element}
use Rattle.image_instr.specs.declared.insn.Element.TheVariants as element
use Rattle.image_instr.specs.declared.insn.Kind.{Kind}
use Rattle.image_instr.specs.declared.insn.Kind.TheVariants as kind
use Rattle.image_instr.specs.declared.insn.MInsn.{MInsn}
use Rattle.image_instr.specs.declared.insn.MInsn.TheVariants as insns
use Rattle.image_instr.specs.declared.insn.Operation.{Operation}
use Rattle.image_instr.specs.declared.insn.Operation.TheVariants as operation
use Rattle.image_instr.specs.declared.insn.RefTest.{RefTest}
use Rattle.image_instr.specs.declared.insn.RefTest.TheVariants as ref_test
use Rattle.image_instr.specs.declared.insn.Width.{Width}
use Rattle.image_instr.specs.declared.insn.Width.TheVariants as width
use Rattle.image_instr.specs.Effect.{refs_of, cells_of}
use Rattle.image_instr.specs.Insn.{insn_bytes}
use Rattle.body_form.specs.declared.op.FieldUse.{FieldUse}
use Rattle.body_form.specs.declared.op.Literal.{Literal}
use Rattle.body_form.specs.declared.op.Literal.TheVariants as literal
use Rattle.body_form.specs.declared.op.MethodUse.{MethodUse}
use Rattle.body_form.specs.declared.op.Op.{Op}
use Rattle.body_form.specs.declared.op.Op.TheVariants as op
use Rattle.body_form.specs.declared.op.UnaryOp.{UnaryOp}
use Rattle.body_form.specs.declared.op.UnaryOp.TheVariants as unary
use Rattle.body_form.specs.declared.types.VType.{VType}
use Rattle.body_form.specs.declared.types.VType.TheVariants as known
use Rattle.jvm_model.specs.WidthsShapes.{Point, kind_of_width}
use Rattle.jvm_model.specs.WidthsSlots.{passed_cells, is_small}

-- a machine instruction with its rows
abbrev pub Emitted : Type 0
Emitted = MInsn × List image_row.SwitchRow

-- one instruction without rows
abbrev pub alone : MInsn → List Emitted
alone insn = (insn, []) ∷ []

abbrev pub alone_where : Bool → MInsn → List Emitted
alone_where is insn = if is then alone insn else []

-- ---- what an expansion asks for

-- of a local: its slot among the references, its first cell, and its width
pub record Locals : Type 0 where
  pub slot : ℕ → Option ℕ
  pub cell : ℕ → ℕ
  pub width : ℕ → Width

-- the numbers of what instructions name: the place of a static and of a field, the id of a type and of a method, and the
-- number of the selector of a call
pub record Ids : Type 0 where
  pub static : MemberId → ℕ
  pub field : MemberId → ℕ
  pub type : TypeRef → ℕ
  pub method : MemberId → ℕ
  pub selector : MethodUse → ℕ

-- ---- shapes

-- the shape of the top, and of the operand below it
abbrev pub top_of : List Kind → Kind
top_of shapes = get_or shapes 0 kind.Ref

abbrev pub second_of : List Kind → Kind
second_of shapes = get_or shapes 1 kind.Ref

abbrev pub is_two : Kind → Bool
is_two kind.Two = true
is_two shape = false

abbrev pub is_one : Kind → Bool
is_one kind.One = true
is_one shape = false

-- the width of a whole number
abbrev pub width_of : Kind → Width
width_of kind.One = width.One
width_of shape = width.Two

abbrev pub refs_in : List Kind → ℕ
refs_in shapes = sum_by refs_of shapes

abbrev pub cells_in : List Kind → ℕ
cells_in shapes = sum_by cells_of shapes

-- what a declared type is kept in: an int in two cells, a small type in one
abbrev pub kind_in : DeclaredKind → Kind
kind_in declared.Int = kind.Two
kind_in k = if is_small k then kind.One else kind.Ref

-- ---- the parts of instructions

abbrev pub operation_of : BinOp → Operation
operation_of bin.Add = operation.Add
operation_of bin.Sub = operation.Sub
operation_of bin.Mul = operation.Mul
operation_of bin.Div = operation.Div
operation_of bin.Rem = operation.Rem
operation_of bin.Shl = operation.Shl
operation_of bin.Shr = operation.Shr
operation_of bin.Ushr = operation.Ushr
operation_of bin.And = operation.And
operation_of bin.Or = operation.Or
operation_of bin.Xor = operation.Xor

abbrev pub condition_of : Cond → Condition
condition_of cond.Eq = condition.Eq
condition_of cond.Ne = condition.Ne
condition_of cond.Lt = condition.Lt
condition_of cond.Ge = condition.Ge
condition_of cond.Gt = condition.Gt
condition_of cond.Le = condition.Le

abbrev pub test_of : RefCond → RefTest
test_of ref_cond.Eq = ref_test.Equal
test_of ref_cond.Ne = ref_test.NotEqual
test_of ref_cond.Null = ref_test.Null
test_of ref_cond.NonNull = ref_test.NonNull

abbrev pub element_of : ElementKind → Element
element_of element_kind.Int = element.Int
element_of element_kind.Ref = element.Ref
element_of element_kind.Byte = element.Byte
element_of element_kind.Char = element.Half
element_of element_kind.Short = element.Half

abbrev pub is_between : ℤ → ℤ → ℤ → Bool
is_between low high number = le_z low number && le_z number high

-- the shortest instruction that pushes the number in two cells
abbrev pub wide_constant : ℤ → MInsn
wide_constant number =
    if is_between (negsuc 127) (pos 127) number then insns.Small2 number
    else (if is_between (negsuc 32767) (pos 32767) number then insns.Mid2 number
    else insns.Const2 number)

-- the shortest instruction that pushes the number in one cell, which is what the cell is by sign
abbrev pub narrow_constant : ℤ → MInsn
narrow_constant number = if is_between (negsuc 127) (pos 127) number then insns.Small1 number else insns.Const1 number

abbrev pub int_constant : ℤ → Kind → MInsn
int_constant number shape = if is_one shape then narrow_constant (sign_extended (low_cell number)) else wide_constant number

-- ---- values of one cell and of two

-- one cell was pushed; where two stand for the value, it is extended by zero or by sign
abbrev pub extend : Bool → Kind → List Emitted
extend unsigned shape = alone_where (is_two shape) (if unsigned then insns.Zx else insns.Sx)

-- what is pushed of a declared type, as the shape asks for: one cell of a small type may be extended, and two of an int
-- may be cut
abbrev pub read_as : DeclaredKind → Kind → List Emitted
read_as declared.Int shape = alone_where (is_one shape) (insns.Pop 1)
read_as declared.Char shape = extend true shape
read_as declared.Boolean shape = extend true shape
read_as declared.Byte shape = extend false shape
read_as declared.Short shape = extend false shape
read_as k shape = []

-- two cells are cut to the low one where a small type is asked for
abbrev pub cut_to_one : Bool → Kind → List Emitted
cut_to_one small shape = alone_where (small && is_two shape) (insns.Pop 1)

-- what a byte and a boolean keep of a cell
abbrev pub narrow_cell : DeclaredKind → List Emitted
narrow_cell declared.Byte = alone insns.Sb
narrow_cell declared.Boolean = alone insns.Bit
narrow_cell k = []

-- what is written as a declared type keeps it
abbrev pub write_as : DeclaredKind → Kind → List Emitted
write_as k shape = cut_to_one (is_small k) shape ++ narrow_cell k

-- ---- stack instructions

abbrev pub some_refs : ℕ → (ℕ → MInsn) → List Emitted
some_refs count insn = alone_where (if nat_eq count 0 then false else true) (insn count)

-- operands are removed
abbrev pub remove : List Kind → List Emitted
remove shapes = some_refs (refs_in shapes) (λ count. insns.RPop count) ++ some_refs (cells_in shapes) (λ count. insns.Pop count)

-- those at the top are copied below the others
abbrev pub copy : List Kind → List Kind → List Emitted
copy top below = some_refs (refs_in top) (λ count. insns.RDupX count (refs_in below)) ++ some_refs (cells_in top) (λ count. insns.DupX count (cells_in below))

abbrev pub exchange : Kind → Kind → List Emitted
exchange kind.Ref kind.Ref = alone insns.RSwap
exchange kind.Ref below = []
exchange top kind.Ref = []
exchange top below = alone (insns.Swap (cells_of top) (cells_of below))

abbrev pub restack : StackForm → List Kind → List Emitted
restack form.Pop shapes = remove (take 1 shapes)
restack form.Pop2 shapes = remove (take 2 shapes)
restack form.Dup shapes = copy (take 1 shapes) []
restack form.DupX1 shapes = copy (take 1 shapes) (take 1 (drop 1 shapes))
restack form.DupX2 shapes = copy (take 1 shapes) (take 2 (drop 1 shapes))
restack form.Dup2 shapes = copy (take 2 shapes) []
restack form.Dup2X1 shapes = copy (take 2 shapes) (take 1 (drop 2 shapes))
restack form.Dup2X2 shapes = copy (take 2 shapes) (take 2 (drop 2 shapes))
restack form.Swap shapes = exchange (top_of shapes) (second_of shapes)

-- ---- numbers, jumps

-- the operand's low cell is read as a byte, a short or a char
abbrev pub conversion : Conv → Kind → Kind → List Emitted
conversion conv.Byte before after = cut_to_one true before ++ (alone insns.Sb ++ extend false after)
conversion conv.Short before after = cut_to_one true before ++ extend false after
conversion conv.Char before after = cut_to_one true before ++ extend true after

abbrev pub unary_of : UnaryOp → Kind → Kind → List Emitted
unary_of unary.Neg before after = alone (insns.Neg (width_of before))
unary_of (unary.Convert c) before after = conversion c before after

-- a row whose target is the offset of its pc
abbrev pub moved_row : (ℕ → ℕ) → SwitchRow → image_row.SwitchRow
moved_row offset row = record { key = row.key; target = offset row.target }

-- the key of the first row
abbrev pub low_key : List SwitchRow → ℤ
low_key [] = pos 0
low_key (row ∷ rows) = row.key

abbrev pub switch_insn : SwitchForm → Width → ℕ → List SwitchRow → MInsn
switch_insn switch.Lookup w default rows = insns.Switch w default (length rows)
switch_insn switch.Table w default rows = insns.Table w default (low_key rows) (length rows)

-- ---- calls

-- From the last argument to the first, the high cell goes of each that has two cells and a parameter of a small type;
-- so many cells of later arguments stand above it.
unfoldable pub cut_arguments : ℕ → List DeclaredKind → List Kind → List Emitted
cut_arguments above (k ∷ kinds) (shape ∷ shapes) =
    alone_where (is_small k && is_two shape) (insns.Drop above) ++ cut_arguments (above + passed_cells k) kinds shapes
cut_arguments above kinds shapes = []

-- the arguments are cut, the call follows, and its result is read as it is kept
abbrev pub call : MethodUse → Point → MInsn → List Emitted
call used point insn =
    cut_arguments 0 (reverse used.descriptor.params) point.before
    ++ (alone insn ++ option_map_or (λ result. read_as result (top_of point.after)) used.descriptor.result [])

-- a private method is called itself, another one by its selector
abbrev pub call_itself : Ids → MethodUse → MInsn → MInsn
call_itself ids used by_selector = if used.private then insns.CallX (ids.method used.method) else by_selector

-- ---- arrays

-- the array operand below the index is one of booleans
abbrev pub is_boolean_base : TypeBase → Bool
is_boolean_base base.Boolean = true
is_boolean_base of = false

abbrev pub is_boolean_array : VType → Bool
is_boolean_array (known.Ref type) = is_boolean_base type.base
is_boolean_array type = false

-- an element that was pushed, as its shape asks for
abbrev pub read_element : ElementKind → Bool → Kind → List Emitted
read_element element_kind.Int boolean shape = alone_where (is_one shape) (insns.Pop 1)
read_element element_kind.Ref boolean shape = []
read_element element_kind.Byte boolean shape = extend boolean shape
read_element element_kind.Char boolean shape = extend true shape
read_element element_kind.Short boolean shape = extend false shape

abbrev pub is_small_element : ElementKind → Bool
is_small_element element_kind.Int = false
is_small_element element_kind.Ref = false
is_small_element k = true

-- ---- the expansion

abbrev pub load : Locals → ValueKind → ℕ → MInsn
load locals value_kind.Ref local = insns.Load kind.Ref (unwrap_or (locals.slot local) 0)
load locals value_kind.Int local = insns.Load (kind_of_width (locals.width local)) (locals.cell local)

-- a whole number that takes the place of a reference clears its slot
abbrev pub store : Locals → ValueKind → ℕ → List Emitted
store locals value_kind.Ref local = alone (insns.Store kind.Ref (unwrap_or (locals.slot local) 0))
store locals value_kind.Int local =
    alone (insns.Store (kind_of_width (locals.width local)) (locals.cell local))
    ++ option_map_or (λ slot. alone (insns.RClear slot)) (locals.slot local) []

abbrev pub constant : Literal → Kind → MInsn
constant literal.Null shape = insns.Null
constant (literal.Int number) shape = int_constant number shape

-- a value is returned as the method's result keeps it
abbrev pub return_of : Option DeclaredKind → Kind → Option ValueKind → List Emitted
return_of result shape None = alone (insns.Ret None)
return_of result shape (Some value_kind.Ref) = alone (insns.Ret (Some kind.Ref))
return_of result shape (Some value_kind.Int) = option_map_or (λ k. write_as k shape ++ alone (insns.Ret (Some (kind_in k)))) result []

-- the machine instructions of an instruction in a method with this result; `offset` is that of a pc
abbrev pub expanded : Locals → Ids → (ℕ → ℕ) → Option DeclaredKind → Point → Op → List Emitted
expanded locals ids offset result point op.Nop = []
expanded locals ids offset result point (op.Const value) = alone (constant value (top_of point.after))
expanded locals ids offset result point (op.Load k local) = alone (load locals k local)
expanded locals ids offset result point (op.Store k local) = store locals k local
expanded locals ids offset result point (op.Inc local amount) = alone (insns.Inc (locals.width local) (locals.cell local) amount)
expanded locals ids offset result point (op.Stack f) = restack f point.before
expanded locals ids offset result point (op.Bin o) = alone (insns.Bin (width_of (top_of point.before)) (operation_of o))
expanded locals ids offset result point (op.Unary o) = unary_of o (top_of point.before) (top_of point.after)
expanded locals ids offset result point (op.If c target) = alone (insns.Jz (width_of (top_of point.before)) (condition_of c) (offset target))
expanded locals ids offset result point (op.IfCmp c target) = alone (insns.JCmp (width_of (top_of point.before)) (condition_of c) (offset target))
expanded locals ids offset result point (op.IfRef c target) = alone (insns.RJ (test_of c) (offset target))
expanded locals ids offset result point (op.Goto target) = alone (insns.Goto (offset target))
expanded locals ids offset result point (op.Switch f default rows) = (switch_insn f (width_of (top_of point.before)) (offset default) rows, map (moved_row offset) rows) ∷ []
expanded locals ids offset result point (op.Return k) = return_of result (top_of point.before) k
expanded locals ids offset result point (op.GetStatic used) = alone (insns.GetS (kind_in used.kind) (ids.static used.field)) ++ read_as used.kind (top_of point.after)
expanded locals ids offset result point (op.PutStatic used) = write_as used.kind (top_of point.before) ++ alone (insns.PutS (kind_in used.kind) (ids.static used.field))
expanded locals ids offset result point (op.GetField used) = alone (insns.GetF (kind_in used.kind) (ids.field used.field)) ++ read_as used.kind (top_of point.after)
expanded locals ids offset result point (op.PutField used) = write_as used.kind (top_of point.before) ++ alone (insns.PutF (kind_in used.kind) (ids.field used.field))
expanded locals ids offset result point (op.CallVirtual used) = call used point (call_itself ids used (insns.CallV (ids.selector used)))
expanded locals ids offset result point (op.CallSpecial used) = call used point (insns.CallX (ids.method used.method))
expanded locals ids offset result point (op.CallStatic used) = call used point (insns.CallS (ids.method used.method))
expanded locals ids offset result point (op.CallInterface used) = call used point (call_itself ids used (insns.CallI (ids.selector used) (ids.type (record { dims = 0; base = base.Class used.class }))))
expanded locals ids offset result point (op.New type) = alone (insns.New (ids.type type))
expanded locals ids offset result point (op.NewArray type) = alone (insns.NewArr (width_of (top_of point.before)) (ids.type type))
expanded locals ids offset result point op.ArrayLength = alone insns.ALen ++ extend true (top_of point.after)
expanded locals ids offset result point (op.ArrayLoad k) =
    alone (insns.ALoad (element_of k) (width_of (top_of point.before))) ++ read_element k (is_boolean_array (get_or point.types 1 known.Top)) (top_of point.after)
expanded locals ids offset result point (op.ArrayStore k) = cut_to_one (is_small_element k) (top_of point.before) ++ alone (insns.AStore (element_of k) (width_of (second_of point.before)))
expanded locals ids offset result point op.Throw = alone insns.Throw
expanded locals ids offset result point (op.CheckCast type) = alone (insns.Cast (ids.type type))
expanded locals ids offset result point (op.InstanceOf type) = alone (insns.Inst (ids.type type)) ++ extend true (top_of point.after)
expanded locals ids offset result point (op.MultiArray array dims) = alone (insns.Multi (ids.type array) dims)

abbrev pub emitted_bytes : Emitted → List ℕ
emitted_bytes emitted = insn_bytes emitted.0 emitted.1

abbrev pub bytes_of : List Emitted → List ℕ
bytes_of emitted = flat_map emitted_bytes emitted
