-- What the verification of a body answers.
use Rattle.std.specs.Prelude.{◌≡◌, ℕ, List, map}
use Rattle.std.specs.List.{AllByRecursion, Contains}
use Rattle.class_file.specs.declared.record.ClassFile.{ClassFile}
use Rattle.code_reach.specs.Reached.{RisesFrom}
use Rattle.body_form.specs.declared.body.Body.{Body}
use Rattle.body_form.specs.Flow.{IsStart}
use Rattle.body_form.specs.Reach.{IsReached}
use Rattle.jvm_model.specs.TypesRight.{Table, IsRight}
use Rattle.jvm_model.specs.TypesRounds.{IsFailing}
use Rattle.type_table.specs.Types.{Rows}
use Rattle.flow_verify.specs.declared.verifying.VerifyRefusal.{VerifyRefusal}
use Rattle.flow_verify.specs.declared.verifying.VerifyRefusal.TheVariants.{Unverified, Memory}

-- ---- types

-- there is a row for each instruction that is reached, and for no other, in order of pc
pub record AreReached (body : Body) (rows : Rows) : Type 0 where
  pub rise : RisesFrom 0 rows
  pub only : AllByRecursion (λ row. IsStart body.ops row.0 × IsReached body row.0) rows
  pub all : (pc : ℕ) → IsStart body.ops pc → IsReached body pc → Contains (map (λ row. row.0) rows) pc

-- ---- refusals

-- the body fails at this pc, or there was no memory
abbrev pub IsUnverified : List ClassFile → Body → VerifyRefusal → Type 0
IsUnverified files body (Unverified method pc) = (method ≡ body.method) × IsFailing files body pc
IsUnverified files body Memory = Unit {0}

-- no table is right, or there was no memory
abbrev pub HasNoTypes : List ClassFile → Body → VerifyRefusal → Type 0
HasNoTypes files body (Unverified method pc) = (table : Table) → IsRight files body table → ⊥
HasNoTypes files body Memory = Unit {0}
