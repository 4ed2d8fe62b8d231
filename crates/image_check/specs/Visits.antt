-- The depths of both halves of the operands: which depths reach an offset from the code's start, and the
-- rule that an instruction keeps at a depth.
use Rattle.std.specs.Prelude.{◌≡◌, ℕ, ◌+◌, ◌-◌, ◌<◌, ◌≤◌, Bool, true, false, if◌then◌else◌, List, [], ◌∷◌, ◌++◌, length, drop, Option, Some, None, IsTrue}
use Rattle.std.specs.List.{AllByRecursion}
use Rattle.image_instr.specs.declared.signature.Effect.{Effect}
use Rattle.image_instr.specs.declared.insn.Kind.{Kind}
use Rattle.image_instr.specs.declared.insn.Kind.TheVariants as kind
use Rattle.image_instr.specs.declared.insn.MInsn.{MInsn}
use Rattle.image_instr.specs.declared.insn.MInsn.TheVariants.{Goto, Switch, Table, Ret, Throw}
use Rattle.image_instr.specs.Effect.{effect_of}
use Rattle.image_instr.specs.Reading.{insn_at, rows_at}
use Rattle.image_form.specs.declared.record.Image.{Image}
use Rattle.image_form.specs.declared.record.Method.{Method}
use Rattle.image_check.specs.Code.{targets}
use Rattle.image_check.specs.Ids.{called_by}

-- how many references and how many cells are on the operands
pub record Depth : Type 0 where
  pub refs : ℕ
  pub cells : ℕ

abbrev pub depth : ℕ → ℕ → Depth
depth refs cells = record { refs = refs; cells = cells }

-- no operands
abbrev pub empty : Depth
empty = depth 0 0

-- what an instruction moves
abbrev pub moved_by : Image → MInsn → Effect
moved_by image insn = effect_of insn (called_by image insn)

-- the depth after an instruction
abbrev pub suffix : Effect → Depth → Depth
suffix effect d = depth (d.refs - effect.ref_pop + effect.ref_push) (d.cells - effect.cell_pop + effect.cell_push)

-- the operands that an instruction takes are there
pub record HasOperands (effect : Effect) (d : Depth) : Type 0 where
  pub refs : effect.ref_pop ≤ d.refs
  pub cells : effect.cell_pop ≤ d.cells

-- locals and operands fit the body of the frame
abbrev pub FitsBody : Method → Depth → Type 0
FitsBody method d = (method.ref_locals + method.cell_locals) + (d.refs + d.cells) ≤ method.body

-- the code of a result: 0 none, 1 a reference, 2 one cell, 3 two cells
abbrev pub result_code : Option Kind → ℕ
result_code None = 0
result_code (Some kind.Ref) = 1
result_code (Some kind.One) = 2
result_code (Some kind.Two) = 3

-- a return gives the method's result
abbrev pub ReturnsResult : Method → MInsn → Type 0
ReturnsResult method (Ret result) = result_code result ≡ method.sig.result
ReturnsResult method _ = Unit {0}

-- the instruction goes on after itself
abbrev pub goes_on : MInsn → Bool
goes_on (Goto target) = false
goes_on (Switch width default count) = false
goes_on (Table width default low count) = false
goes_on (Ret result) = false
goes_on Throw = false
goes_on _ = true

-- the offsets to which an instruction of this size at an offset leads
abbrev pub successors : List ℕ → ℕ → MInsn → ℕ → List ℕ
successors code pc insn size = (if goes_on insn then (pc + size) ∷ [] else []) ++ targets insn (rows_at insn (drop pc code))

-- Sets of offsets with depths, as tests of an offset, references and cells. Such a set is closed where
-- each instruction that has its operands sends the depth after it to each of its successors.
abbrev pub IsClosed : Image → List ℕ → (ℕ → ℕ → ℕ → Bool) → Type 0
IsClosed image code holds =
    (pc refs cells : ℕ) (insn : MInsn) (size : ℕ) → holds pc refs cells ≡ true → insn_at (drop pc code) ≡ Some (insn, size)
    → HasOperands (moved_by image insn) (depth refs cells)
    → AllByRecursion (λ to. holds to (suffix (moved_by image insn) (depth refs cells)).refs (suffix (moved_by image insn) (depth refs cells)).cells ≡ true) (successors code pc insn size)

-- the depth reaches the offset: it is in each closed set that has offset 0 without operands
abbrev pub IsSent : Image → List ℕ → ℕ → Depth → Type 0
IsSent image code pc d = (holds : ℕ → ℕ → ℕ → Bool) → holds 0 0 0 ≡ true → IsClosed image code holds → holds pc d.refs d.cells ≡ true

-- the rule of the instruction at an offset that a depth reaches: its operands are there, a return gives
-- the method's result, locals and operands fit the body before and after it, and control does not pass
-- the code's end
pub record IsRight (image : Image) (method : Method) (pc : ℕ) (d : Depth) : Type 0 where
  pub insn : MInsn
  pub size : ℕ
  pub found : insn_at (drop pc method.code) ≡ Some (insn, size)
  pub operands : HasOperands (moved_by image insn) d
  pub result : ReturnsResult method insn
  pub fits : FitsBody method d
  pub fits_after : FitsBody method (suffix (moved_by image insn) d)
  pub inside : IsTrue (goes_on insn) → pc + size < length method.code
