-- How many references and cells an instruction pops and pushes. A number of two cells counts as two.
use Rattle.std.specs.Prelude.{ℕ, ◌+◌, ◌*◌, ◌==◌, if◌then◌else◌, Option, Some, None}
use Rattle.image_instr.specs.declared.signature.Sig.{Sig}
use Rattle.image_instr.specs.declared.signature.Effect.{Effect}
use Rattle.image_instr.specs.declared.insn.Kind.{Kind}
use Rattle.image_instr.specs.declared.insn.Kind.TheVariants as kind
use Rattle.image_instr.specs.declared.insn.Width.{Width}
use Rattle.image_instr.specs.declared.insn.Width.TheVariants as width
use Rattle.image_instr.specs.declared.insn.RefTest.{RefTest}
use Rattle.image_instr.specs.declared.insn.RefTest.TheVariants as test
use Rattle.image_instr.specs.declared.insn.Element.{Element}
use Rattle.image_instr.specs.declared.insn.Element.TheVariants as element
use Rattle.image_instr.specs.declared.insn.MInsn.{MInsn}
use Rattle.image_instr.specs.declared.insn.MInsn.TheVariants.{Const1, Const2, Small1, Small2, Mid2, Null, Load, Store, RClear, Inc, RDupX, DupX, RPop, Pop, RSwap, Swap, Drop, Bin, Neg, Sx, Zx, Sb, Bit, Jz, JCmp, RJ, Goto, Switch, Table, Ret, GetS, PutS, GetF, PutF, NewArr, Multi, ALen, ALoad, AStore, New, Cast, Inst, Throw, CallS, CallX, CallV, CallI}

-- references popped and pushed, cells popped and pushed
abbrev pub moves : ℕ → ℕ → ℕ → ℕ → Effect
moves ref_pop ref_push cell_pop cell_push = record { ref_pop = ref_pop; ref_push = ref_push; cell_pop = cell_pop; cell_push = cell_push }

-- what a value of a kind takes
abbrev pub refs_of : Kind → ℕ
refs_of kind.Ref = 1
refs_of kind.One = 0
refs_of kind.Two = 0

abbrev pub cells_of : Kind → ℕ
cells_of kind.Ref = 0
cells_of kind.One = 1
cells_of kind.Two = 2

abbrev pub cells_in : Width → ℕ
cells_in width.One = 1
cells_in width.Two = 2

-- a value is pushed in place of so many references
abbrev pub loaded : ℕ → Kind → Effect
loaded refs kind = moves refs (refs_of kind) 0 (cells_of kind)

-- a value is popped, and so many references below it
abbrev pub stored : ℕ → Kind → Effect
stored refs kind = moves (refs + refs_of kind) 0 (cells_of kind) 0

abbrev pub tested_refs : RefTest → ℕ
tested_refs test.Equal = 2
tested_refs test.NotEqual = 2
tested_refs test.Null = 1
tested_refs test.NonNull = 1

-- what an element takes on the operands: bytes and halves take one cell
abbrev pub element_refs : Element → ℕ
element_refs element.Ref = 1
element_refs element.Byte = 0
element_refs element.Half = 0
element_refs element.Int = 0

abbrev pub element_cells : Element → ℕ
element_cells element.Ref = 0
element_cells element.Byte = 1
element_cells element.Half = 1
element_cells element.Int = 2

abbrev pub returned : Option Kind → Effect
returned None = moves 0 0 0 0
returned (Some kind) = stored 0 kind

-- the arguments of a signature are popped, and its result is pushed: 0 none, 1 a reference, 2 one cell, 3 two
abbrev pub called : Sig → Effect
called sig =
    if sig.result == 1 then moves sig.refs 1 sig.cells 0
    else (if sig.result == 2 then moves sig.refs 0 sig.cells 1
    else (if sig.result == 3 then moves sig.refs 0 sig.cells 2
    else moves sig.refs 0 sig.cells 0))

-- the signature is that of what a call calls, and counts for calls alone
abbrev pub effect_of : MInsn → Sig → Effect
effect_of (Const1 value) sig = moves 0 0 0 1
effect_of (Const2 value) sig = moves 0 0 0 2
effect_of (Small1 value) sig = moves 0 0 0 1
effect_of (Small2 value) sig = moves 0 0 0 2
effect_of (Mid2 value) sig = moves 0 0 0 2
effect_of Null sig = moves 0 1 0 0
effect_of (Load kind local) sig = loaded 0 kind
effect_of (Store kind local) sig = stored 0 kind
effect_of (RClear local) sig = moves 0 0 0 0
effect_of (Inc width local amount) sig = moves 0 0 0 0
effect_of (RDupX m n) sig = moves (m + n) (m + n + m) 0 0
effect_of (DupX m n) sig = moves 0 0 (m + n) (m + n + m)
effect_of (RPop count) sig = moves count 0 0 0
effect_of (Pop count) sig = moves 0 0 count 0
effect_of RSwap sig = moves 2 2 0 0
effect_of (Swap m n) sig = moves 0 0 (m + n) (m + n)
effect_of (Drop above) sig = moves 0 0 (above + 1) above
effect_of (Bin width operation) sig = moves 0 0 (2 * cells_in width) (cells_in width)
effect_of (Neg width) sig = moves 0 0 (cells_in width) (cells_in width)
effect_of Sx sig = moves 0 0 1 2
effect_of Zx sig = moves 0 0 1 2
effect_of Sb sig = moves 0 0 1 1
effect_of Bit sig = moves 0 0 1 1
effect_of (Jz width condition target) sig = moves 0 0 (cells_in width) 0
effect_of (JCmp width condition target) sig = moves 0 0 (2 * cells_in width) 0
effect_of (RJ test target) sig = moves (tested_refs test) 0 0 0
effect_of (Goto target) sig = moves 0 0 0 0
effect_of (Switch width default count) sig = moves 0 0 (cells_in width) 0
effect_of (Table width default low count) sig = moves 0 0 (cells_in width) 0
effect_of (Ret result) sig = returned result
effect_of (GetS kind place) sig = loaded 0 kind
effect_of (PutS kind place) sig = stored 0 kind
effect_of (GetF kind place) sig = loaded 1 kind
effect_of (PutF kind place) sig = stored 1 kind
effect_of (NewArr width id) sig = moves 0 1 (cells_in width) 0
effect_of (Multi id dims) sig = moves 0 1 (2 * dims) 0
effect_of ALen sig = moves 1 0 0 1
effect_of (ALoad element width) sig = moves 1 (element_refs element) (cells_in width) (element_cells element)
effect_of (AStore element width) sig = moves (1 + element_refs element) 0 (cells_in width + element_cells element) 0
effect_of (New id) sig = moves 0 1 0 0
effect_of (Cast id) sig = moves 1 1 0 0
effect_of (Inst id) sig = moves 1 0 0 1
effect_of Throw sig = moves 1 0 0 0
effect_of (CallS method) sig = called sig
effect_of (CallX method) sig = called sig
effect_of (CallV selector) sig = called sig
effect_of (CallI selector id) sig = called sig
