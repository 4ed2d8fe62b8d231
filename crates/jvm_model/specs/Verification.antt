-- The phase of types: the body of each method has a right table of types, or the first that has none is refused.
use Rattle.std.specs.Prelude.{◌≡◌, ℕ, ◌-◌, List, Option, Some, None}
use Rattle.library.specs.Classes.{first_own}
use Rattle.class_file.specs.declared.record.ClassFile.{ClassFile}
use Rattle.class_tree.specs.Tree.{Gathers}
use Rattle.body_form.specs.declared.body.Body.{Body}
use Rattle.jvm_model.specs.declared.refusal.Cause.TheVariants as cause
use Rattle.jvm_model.specs.declared.refusal.Refusal.{Refusal}
use Rattle.jvm_model.specs.Phases.{refusal_of_insn}
use Rattle.jvm_model.specs.FirstOf.{FirstOf, IfThere}
use Rattle.jvm_model.specs.ClosedSet.{records_of}
use Rattle.jvm_model.specs.Bodies.{Coded, IsBody, coded_methods}
use Rattle.jvm_model.specs.TypesRight.{Table, IsRight}
use Rattle.jvm_model.specs.TypesRounds.{IsFailing}

-- a method of a file is refused at a pc
abbrev pub unverified_at : ℕ → ℕ → ℕ → Refusal
unverified_at class method pc = refusal_of_insn cause.Unverified (class - first_own) method pc 0

-- a body has a right table, or is refused at its failing pc
abbrev pub BodyTypes : List ClassFile → Body → Option Refusal → Type 0
BodyTypes files body None = (table : Table) × IsRight files body table
BodyTypes files body (Some why) = (pc : ℕ) × IsFailing files body pc × (why ≡ unverified_at body.class body.method pc)

-- a method by its body; one that has none, since its instructions do not resolve, is refused by an earlier phase
pub data MethodTypes (files : List ClassFile) (coded : Coded) (found : Option Refusal) : Type 0 where
  HasBody : (body : Body) → IsBody files coded body → BodyTypes files body found → MethodTypes files coded found
  HasNone : ((body : Body) → IsBody files coded body → ⊥) → found ≡ None → MethodTypes files coded found

-- the first method of a closed set that is refused so; classes that are no closed set are refused by an earlier phase
pub data Typing (files : List ClassFile) (found : Option Refusal) : Type 0 where
  IsClosed : Gathers files None → FirstOf (λ position. MethodTypes files) 0 (coded_methods files) found → Typing files found
  IsOpen : (Gathers files None → ⊥) → found ≡ None → Typing files found

-- the phase over the files; a set with a file that is not read, which an earlier phase refuses, has no refusal here
abbrev pub Verification : List (List ℕ) → Option Refusal → Type 0
Verification files found = IfThere Typing (records_of files) found
