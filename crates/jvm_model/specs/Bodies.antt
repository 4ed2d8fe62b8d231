-- The bodies of a set: the instructions of each method as families, with what they name resolved.
use Rattle.std.specs.Prelude.{◌≡◌, ℕ, suc, not, if◌then◌else◌, List, [], ◌∷◌, ◌++◌, Option, Some, None, option_map, option_and_then, Ok}
use Rattle.std.specs.Option.{option_to_list}
use Rattle.library.specs.Classes.{first_own}
use Rattle.class_pool.specs.declared.descriptor.Descriptor.{Descriptor}
use Rattle.class_pool.specs.Pool.{Slots, utf8_at}
use Rattle.class_pool.specs.DescriptorReading.{method_of}
use Rattle.class_file.specs.Rules.{is_static}
use Rattle.class_file.specs.declared.record.ClassFile.{ClassFile}
use Rattle.class_file.specs.declared.record.CodeAttr.{CodeAttr}
use Rattle.class_file.specs.declared.record.HandlerRow.{HandlerRow}
use Rattle.class_file.specs.declared.record.Member.{Member}
use Rattle.class_code.specs.declared.insn.Insn.{Insn}
use Rattle.class_code.specs.Code.{Insns, decoded}
use Rattle.body_form.specs.declared.body.Body.{Body}
use Rattle.body_form.specs.declared.body.Guard.{Guard}
use Rattle.body_form.specs.declared.op.Op.{Op}
use Rattle.body_form.specs.declared.op.Op.TheVariants as op
use Rattle.jvm_model.specs.CodeInsns.{insns_in}
use Rattle.code_reach.specs.Reached.{Ways, IsReached}
use Rattle.class_code.specs.Flow.{code_ways}
use Rattle.jvm_model.specs.Instructions.{op_of, caught_by}
use Rattle.jvm_model.specs.Linking.{is_initialiser}

-- the items of two lists are so, one by one
abbrev pub AreEach : {X Y : Type 0} → (X → Y → Type 0) → List X → List Y → Type 0
AreEach Is [] [] = Unit {0}
AreEach Is [] (y ∷ ys) = ⊥
AreEach Is (x ∷ xs) [] = ⊥
AreEach Is (x ∷ xs) (y ∷ ys) = Is x y × AreEach Is xs ys

-- the family of an instruction at its pc: what it is resolved to, or nop where it is not reached
pub data IsFamily (files : List ClassFile) (class : ℕ) (pool : Slots) (ways : Ways) (x : ℕ × Insn) (y : ℕ × Op) : Type 0 where
  IsResolved : y.0 ≡ x.0 → IsReached ways x.0 → op_of files class pool x.1 ≡ Ok y.1 → IsFamily files class pool ways x y
  IsNop : y.0 ≡ x.0 → (IsReached ways x.0 → ⊥) → y.1 ≡ op.Nop → IsFamily files class pool ways x y

-- a row of an exception table, with the class that it catches resolved
pub record IsGuard (files : List ClassFile) (class : ℕ) (pool : Slots) (row : HandlerRow) (guard : Guard) : Type 0 where
  pub start : guard.start ≡ row.start
  pub end : guard.end ≡ row.end
  pub target : guard.target ≡ row.target
  pub catches : caught_by files class pool row.catch_type ≡ Ok guard.class

-- ---- the methods that have bodies

-- a method with its code and instructions, where it stands
pub record Coded : Type 0 where
  pub class : ℕ
  pub file : ClassFile
  pub position : ℕ
  pub method : Member
  pub code : CodeAttr
  pub insns : Insns

-- a method that has code and is no initialiser, as such
abbrev pub coded_of : ℕ → ClassFile → ℕ → Member → Option Coded
coded_of class file position m =
    if is_initialiser file.pool m then None
    else option_and_then (λ code. option_map (λ insns. record { class = class; file = file; position = position; method = m; code = code; insns = insns }) (insns_in (decoded code.code))) m.code

-- those among the methods of a class, which count from this position
unfoldable pub coded_from : ℕ → ClassFile → ℕ → List Member → List Coded
coded_from class file position [] = []
coded_from class file position (m ∷ methods) = option_to_list (coded_of class file position m) ++ coded_from class file (suc position) methods

-- those of classes, which count from this number
unfoldable pub coded_in : ℕ → List ClassFile → List Coded
coded_in class [] = []
coded_in class (file ∷ files) = coded_from class file 0 file.methods ++ coded_in (suc class) files

-- those of a set, in the order of its files and of their methods
abbrev pub coded_methods : List ClassFile → List Coded
coded_methods files = coded_in first_own files

-- ---- their bodies

-- the type of a method by its descriptor
abbrev pub HasType : Slots → Member → Descriptor → Type 0
HasType pool m type = option_and_then method_of (utf8_at pool m.descriptor) ≡ Some type

-- the body of a method
pub record IsBody (files : List ClassFile) (coded : Coded) (body : Body) : Type 0 where
  pub type : HasType coded.file.pool coded.method (record { params = body.params; result = body.result })
  pub class : body.class ≡ coded.class
  pub method : body.method ≡ coded.position
  pub instance : body.instance ≡ not (is_static coded.method.flags)
  pub max_stack : body.max_stack ≡ coded.code.max_stack
  pub max_locals : body.max_locals ≡ coded.code.max_locals
  pub ops : AreEach (IsFamily files coded.class coded.file.pool (code_ways coded.code.handlers coded.insns)) coded.insns body.ops
  pub handlers : AreEach (IsGuard files coded.class coded.file.pool) coded.code.handlers body.handlers

-- the bodies of a set
abbrev pub AreBodies : List ClassFile → List Body → Type 0
AreBodies files bodies = AreEach (IsBody files) (coded_methods files) bodies
