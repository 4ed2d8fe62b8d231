-- What a verification answers: the types of a quiet round, or the failing pc.
use Rattle.std.proofs.Common.{◌≡◌, ℕ, suc, ◌≤◌, inl, inr, List, [], ◌∷◌, map, Some, None, nat_eq, sym, subst, ◌∙◌, arith}
use Rattle.std.specs.List.{AllByRecursion, Contains}
use Rattle.std.proofs.lemmas.Bool.{cases_Bool, eqb-true}
use Rattle.std.proofs.lemmas.Bool.Decides.{nat_tests}
use Rattle.std.proofs.lemmas.Option.{none-some}
use Rattle.class_file.specs.declared.record.ClassFile.{ClassFile}
use Rattle.class_tree.specs.Tree.{Gathers}
use Rattle.code_reach.specs.Reached.{RisesFrom}
use Rattle.body_form.specs.declared.body.Body.{Body}
use Rattle.body_form.specs.declared.types.VFrame.{VFrame}
use Rattle.body_form.specs.Flow.{IsStart}
use Rattle.body_form.specs.Reach.{IsReached}
use Rattle.jvm_model.specs.TypesNames.{IsOfSet}
use Rattle.jvm_model.specs.TypesRight.{Table, IsRight, IsLeast}
use Rattle.jvm_model.specs.TypesRounds.{table_before, IsFailing}
use Rattle.type_rounds.specs.RoundLaws.{at_instructions, IsQuiet, QuietIsLeast}
use Rattle.type_rounds.proofs.tables.Lists.{all_map}
use Rattle.type_rounds.proofs.tables.Starts.{same_pc}
use Rattle.type_table.specs.Types.{Rows, table_of}
use Rattle.flow_verify.specs.declared.frames.Frames.{Frames}
use Rattle.flow_verify.specs.declared.rounds.Outcome.{Outcome}
use Rattle.flow_verify.specs.declared.rounds.Outcome.TheVariants.{Quiet, Failing}
use Rattle.flow_verify.specs.KnownRows.{known_rows}
use Rattle.flow_verify.specs.Outcomes.{AreOf, IsOutcome}
use Rattle.flow_verify.specs.Verified.{AreReached}
use Rattle.flow_verify.proofs.waves.RowTables.{table_none, table_here, table_later, rows_table}

-- ---- the table

same_least : (files : List ClassFile) (body : Body) (table other : Table) → ((pc : ℕ) → table pc ≡ other pc) → IsLeast files body other → IsLeast files body table
same_least files body table other same least = let equal : other ≡ table = λ i pc. sym (same pc) i in subst (IsLeast files body) equal least

pub types_are_least : QuietIsLeast → (files : List ClassFile) → Gathers files None → (body : Body) → IsOfSet files body → (round : ℕ) → IsQuiet files body round
    → (frames : Frames) → AreOf body (table_before files body round) frames → IsLeast files body (table_of (known_rows body.ops frames.store frames.known.items))
types_are_least law files gathers body of_set round quiet frames are =
    same_least files body (table_of (known_rows body.ops frames.store frames.known.items)) (at_instructions body (table_before files body round))
    (rows_table 0 (table_before files body round) body.ops frames.store frames.known.items of_set.rise are.count are.same)
    (law files gathers body of_set round quiet)

-- ---- the rows

-- each row is in the table of rows in order
row_in : (low : ℕ) (rows : Rows) → RisesFrom low rows → AllByRecursion (λ row. (table_of rows row.0 ≡ Some row.1) × (low ≤ row.0)) rows
row_in low [] rise = tt
row_in low (row ∷ rows) rise =
    let here : table_of (row ∷ rows) row.0 ≡ Some row.1 = table_here row.0 row.0 row.1 rows (same_pc row.0) in
    let later : (other : ℕ × VFrame) → (table_of rows other.0 ≡ Some other.1) × (suc row.0 ≤ other.0) → (table_of (row ∷ rows) other.0 ≡ Some other.1) × (low ≤ other.0) =
    λ other is. (table_later row.0 other.0 row.1 rows (grind (arith, nat_tests, is.1)) ∙ is.0, omega (arith, rise.0, is.1))
    in (
      (here, rise.0),
      all_map (λ (other : ℕ × VFrame). (table_of rows other.0 ≡ Some other.1) × (suc row.0 ≤ other.0)) (λ other. (table_of (row ∷ rows) other.0 ≡ Some other.1) × (low ≤ other.0)) later rows (row_in (suc row.0) rows rise.1),
    )

-- where the table has a frame, there is a row
row_of_pc : (rows : Rows) (pc : ℕ) (frame : VFrame) → table_of rows pc ≡ Some frame → Contains (map (λ row. row.0) rows) pc
row_of_pc [] pc frame e = absurd (none-some frame (sym (table_none pc) ∙ e))
row_of_pc (row ∷ rows) pc frame e =
    elim (cases_Bool (nat_eq row.0 pc)) [
      | inl same ↦ (0, omega arith, eqb-true row.0 pc same)
      | inr other ↦ let there = row_of_pc rows pc frame (sym (table_later row.0 pc row.1 rows other) ∙ e) in let within = there.1 in (suc there.0, omega (arith, within), there.2)
    ]

pub reached_rows : (files : List ClassFile) (body : Body) (rows : Rows) → RisesFrom 0 rows → IsRight files body (table_of rows) → AreReached body rows
reached_rows files body rows rise right =
    record {
      rise = rise;
      only =
          all_map (λ (row : ℕ × VFrame). (table_of rows row.0 ≡ Some row.1) × (0 ≤ row.0)) (λ row. IsStart body.ops row.0 × IsReached body row.0) (λ row is. right.only row.0 row.1 is.0) rows
          (row_in 0 rows rise);
      all = λ pc start reached. let there = right.reached pc start reached in row_of_pc rows pc there.0 there.1;
    }

-- ---- outcomes

pub quiet_outcome : (files : List ClassFile) (body : Body) (outcome : Outcome) (frames : Frames) → outcome ≡ Quiet frames → IsOutcome files body outcome → IsOutcome files body (Quiet frames)
quiet_outcome files body outcome frames same is = subst (IsOutcome files body) same is

pub failing_outcome : (files : List ClassFile) (body : Body) (outcome : Outcome) (pc : ℕ) → outcome ≡ Failing pc → IsOutcome files body outcome → IsFailing files body pc
failing_outcome files body outcome pc same is = subst (IsOutcome files body) same is
