-- Rounds end: one fails, or one changes nothing, since what is known weighs less after each round that does not.
use Rattle.std.proofs.Common.{◌≡◌, ℕ, suc, ◌<◌, ◌⊎◌, inl, inr, List, Some, None, subst, ◌∙◌, arith}
use Rattle.std.specs.List.{AllByRecursion}
use Rattle.std.proofs.lemmas.Bool.{cases_lt}
use Rattle.class_file.specs.declared.record.ClassFile.{ClassFile}
use Rattle.class_tree.specs.Tree.{Gathers}
use Rattle.body_form.specs.declared.op.Op.{Op}
use Rattle.body_form.specs.declared.body.Body.{Body}
use Rattle.jvm_model.specs.TypesNames.{IsOfSet}
use Rattle.jvm_model.specs.TypesRules.{op_at}
use Rattle.jvm_model.specs.TypesRight.{Table}
use Rattle.jvm_model.specs.TypesRounds.{table_before, FailsAt, IsFailing}
use Rattle.type_rounds.specs.RoundLaws.{IsQuiet, RoundsEnd}
use Rattle.type_rounds.proofs.tables.Ordered.{IsOrdered}
use Rattle.type_rounds.proofs.tables.Lists.{all_map}
use Rattle.type_rounds.proofs.tables.Starts.{start_has_op, op_is_start, each_is_at, holds_at}
use Rattle.type_rounds.proofs.tables.ProperTables.{before_next, proper_before}
use Rattle.type_rounds.proofs.tables.QuietTables.{grows}
use Rattle.type_rounds.proofs.tables.FailingRounds.{lowest_or_none}
use Rattle.type_rounds.proofs.ranks.Weights.{Weight, IsLess, falls_or_same, ends}
use Rattle.type_rounds.proofs.ranks.ClassRanks.{TypesMerge}
use Rattle.type_rounds.proofs.ranks.FrameWeights.{table_weight, IsEntryAbove, table_lighter}

module _ (laws : IsOrdered) (merges : TypesMerge) (files : List ClassFile) (gathers : Gathers files None) (body : Body) (of_set : IsOfSet files body) where
  abbrev before : ℕ → Table
  before round = table_before files body round

  abbrev Passed : ℕ → Type 0
  Passed round = (pc : ℕ) → FailsAt files body (before round) pc → ⊥

  -- no round before this one fails
  abbrev AllPassed : ℕ → Type 0
  AllPassed round = (other : ℕ) → other < round → Passed other

  abbrev Answer : Type 0
  Answer = ((pc : ℕ) × IsFailing files body pc) ⊎ ((round : ℕ) × IsQuiet files body round)

  abbrev weight : ℕ → Weight
  weight round = table_weight files (before round) body.ops

  passed_too : (round : ℕ) → AllPassed round → Passed round → AllPassed (suc round)
  passed_too round all here other lt =
      elim (cases_lt other round) [
        | inl below ↦ all other below
        | inr le ↦ let same : round ≡ other = omega (arith, lt, le) in subst Passed same here
      ]

  -- the entries after a round are above those before it
  entry_above : (round : ℕ) → Passed round → (x : ℕ × Op) → op_at body.ops x.0 ≡ Some x.1 → IsEntryAbove files (before (suc round) x.0) (before round x.0)
  entry_above round passed x op =
      let proper = proper_before laws files gathers body of_set in
      record {
        new_known = λ frame e. (proper (suc round) x.0 frame e).known;
        old_known = λ frame e. (proper round x.0 frame e).known;
        above = λ frame e.
            let (upper, has, above) = grows laws files gathers body of_set (before round) (proper round) passed x.0 frame (op_is_start body.ops x.0 x.1 op) e in
            (upper, before_next files body round x.0 ∙ has, above);
      }

  quiet_from : (round : ℕ) → AllPassed round → Passed round → AllByRecursion (λ x. before (suc round) x.0 ≡ before round x.0) body.ops → IsQuiet files body round
  quiet_from round all passed same =
      record {
        passes = λ other le pc fails. passed_too round all passed other (omega (arith, le)) pc fails;
        same = λ pc start.
            let (instruction, op) = start_has_op body.ops pc start in
            holds_at (λ (x : ℕ × Op). before (suc round) x.0 ≡ before round x.0) body.ops same pc instruction op;
      }

  -- a round that does not fail is quiet, or lowers the weight
  passing : (round : ℕ) → AllPassed round → Passed round → Answer ⊎ (AllPassed (suc round) × IsLess (weight (suc round)) (weight round))
  passing round all passed =
      elim (falls_or_same (weight (suc round)) (weight round) (AllByRecursion (λ x. before (suc round) x.0 ≡ before round x.0) body.ops)
      (table_lighter merges files gathers (before (suc round)) (before round) body.ops
      (all_map (λ x. op_at body.ops x.0 ≡ Some x.1) (λ x. IsEntryAbove files (before (suc round) x.0) (before round x.0)) (entry_above round passed) body.ops (each_is_at body.ops of_set.rise)))) [
        | inl same ↦ inl (inr (round, quiet_from round all passed same))
        | inr less ↦ inr (passed_too round all passed, less)
      ]

  step : (round : ℕ) → AllPassed round → Answer ⊎ (AllPassed (suc round) × IsLess (weight (suc round)) (weight round))
  step round all =
      elim (lowest_or_none files body (before round)) [
        | inl found ↦ inl (inl (found.0, record { round = round; earlier = all; fails = found.1.is; lowest = found.1.others }))
        | inr none ↦ passing round all none
      ]

  answer : Answer
  answer = ends weight AllPassed Answer step 0 (λ other lt. absurd (omega (arith, lt)))

pub rounds_end : IsOrdered → TypesMerge → RoundsEnd
rounds_end laws merges files gathers body of_set = answer laws merges files gathers body of_set
