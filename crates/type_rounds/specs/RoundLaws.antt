-- What rounds find: where none fails they come to the least right table, and where one fails there is no right table.
use Rattle.std.specs.Prelude.{◌≡◌, ◌⊎◌, ℕ, suc, ◌≤◌, List, None, option_and_then}
use Rattle.class_file.specs.declared.record.ClassFile.{ClassFile}
use Rattle.class_tree.specs.Tree.{Gathers}
use Rattle.body_form.specs.declared.body.Body.{Body}
use Rattle.body_form.specs.Flow.{IsStart}
use Rattle.jvm_model.specs.TypesNames.{IsOfSet}
use Rattle.jvm_model.specs.TypesRules.{op_at}
use Rattle.jvm_model.specs.TypesRight.{Table, IsRight, IsLeast}
use Rattle.jvm_model.specs.TypesRounds.{table_before, FailsAt, IsFailing}

-- the table at the instructions of a body alone
abbrev pub at_instructions : Body → Table → Table
at_instructions body table pc = option_and_then (λ _. table pc) (op_at body.ops pc)

-- no round up to this one fails, and this one changes nothing that is known before an instruction
pub record IsQuiet (files : List ClassFile) (body : Body) (round : ℕ) : Type 0 where
  pub passes : (other : ℕ) → other ≤ round → (pc : ℕ) → FailsAt files body (table_before files body other) pc → ⊥
  pub same : (pc : ℕ) → IsStart body.ops pc → table_before files body (suc round) pc ≡ table_before files body round pc

-- a quiet round has the least right table
abbrev pub QuietIsLeast : Type 0
QuietIsLeast = (files : List ClassFile) → Gathers files None → (body : Body) → IsOfSet files body → (round : ℕ) → IsQuiet files body round
    → IsLeast files body (at_instructions body (table_before files body round))

-- where a round fails there is no right table
abbrev pub FailingHasNoRight : Type 0
FailingHasNoRight = (files : List ClassFile) → Gathers files None → (body : Body) → IsOfSet files body → (pc : ℕ) → IsFailing files body pc
    → (table : Table) → IsRight files body table → ⊥

-- a round fails, or one is quiet
abbrev pub RoundsEnd : Type 0
RoundsEnd = (files : List ClassFile) → Gathers files None → (body : Body) → IsOfSet files body
    → ((pc : ℕ) × IsFailing files body pc) ⊎ ((round : ℕ) × IsQuiet files body round)

-- there is one failing pc, and one least table
abbrev pub OneFailing : Type 0
OneFailing = (files : List ClassFile) (body : Body) (first second : ℕ) → IsFailing files body first → IsFailing files body second → first ≡ second

abbrev pub OneLeast : Type 0
OneLeast = (files : List ClassFile) → Gathers files None → (body : Body) (first second : Table) → IsLeast files body first → IsLeast files body second → (pc : ℕ) → first pc ≡ second pc
