-- The rounds of the code are those of the definition: what is known before each is the table before it, and they fail
-- at the same pcs.
use Rattle.std.proofs.Common.{◌≡◌, ℕ, suc, ◌<◌, ◌≤◌, ◌⊎◌, inl, inr, List, [], length, get_or, Option, Some, None, refl, sym, ap, subst, ◌∙◌, arith}
use Rattle.std.specs.List.{AllByRecursion, Contains}
use Rattle.std.proofs.lemmas.Bool.{cases_lt}
use Rattle.std.proofs.lemmas.Option.{none-some, IfSome_then}
use Rattle.class_file.specs.declared.record.ClassFile.{ClassFile}
use Rattle.class_tree.specs.Tree.{Gathers}
use Rattle.body_form.specs.declared.op.Op.{Op}
use Rattle.body_form.specs.declared.body.Body.{Body}
use Rattle.body_form.specs.declared.types.VFrame.{VFrame}
use Rattle.body_form.specs.Flow.{IsStart, pc_at}
use Rattle.jvm_model.specs.TypesNames.{IsOfSet}
use Rattle.jvm_model.specs.TypesRules.{op_at, frame_after}
use Rattle.jvm_model.specs.TypesRight.{Table, Sent, sent_from, IsMet, HoldsAt}
use Rattle.jvm_model.specs.TypesRounds.{arrival_of, arrive_at, sent_by_each, arrival, frame_in, next_table, table_before, FailsAt, IsRuled, IsMerged, IsFailing}
use Rattle.type_rounds.specs.RoundLaws.{IsQuiet}
use Rattle.type_rounds.proofs.Rounds.{ordered}
use Rattle.type_rounds.proofs.tables.Lists.{all_map}
use Rattle.type_rounds.proofs.tables.Starts.{start_has_op, op_is_start}
use Rattle.type_rounds.proofs.tables.ProperTables.{before_first, before_next, IsProperTable, all_proper, proper_before}
use Rattle.type_rounds.proofs.tables.QuietTables.{IsTaken, taken, rule_of}
use Rattle.flow_verify.specs.declared.frames.Frames.{Frames}
use Rattle.flow_verify.specs.KnownFrames.{frame_at, AreKept}
use Rattle.flow_verify.specs.Lowest.{IsLowest}
use Rattle.flow_verify.specs.Waves.{sent_in, arrival_at}
use Rattle.flow_verify.specs.Outcomes.{WaveFails, IsFirst, IsRound, AreOf}
use Rattle.flow_verify.proofs.waves.Positions.{within_at, at_position, pc_of_position, op_of_position, position_of_op}
use Rattle.flow_verify.proofs.waves.Joins.{IsCovered, same_arrival}
use Rattle.flow_verify.proofs.waves.SentWaves.{AreSame, IsSettled, wave_part, all_covered}

-- ---- before a round

-- what is known is the table, no round before fails, and each instruction outside the wave is settled
pub record IsBefore (files : List ClassFile) (body : Body) (round : ℕ) (frames : Frames) (wave : List ℕ) : Type 0 where
  pub kept : AreKept files (length body.ops) round frames.store frames.known.items
  pub same : AreSame body frames.store frames.known.items (table_before files body round)
  pub passed : (other : ℕ) → other < round → (pc : ℕ) → FailsAt files body (table_before files body other) pc → ⊥
  pub within : AllByRecursion (λ position. position < length body.ops) wave
  pub settled : (position : ℕ) → position < length body.ops → Contains wave position ⊎ IsSettled files body (table_before files body round) position

pub before_all : (files : List ClassFile) (body : Body) (frames : Frames) (wave : List ℕ) → IsFirst files body frames wave → IsBefore files body 0 frames wave
before_all files body frames wave first =
    let table = table_before files body 0 in
    let same : AreSame body frames.store frames.known.items table = λ position within. first.same position within ∙ sym (before_first files body (pc_at body.ops position)) in
    record {
      kept = first.kept;
      same = same;
      passed = λ other lt. absurd (omega (arith, lt));
      within = first.within;
      settled = λ position within.
          elim (first.all position within) [
            | inl there ↦ inl there
            | inr none ↦ inr (λ instruction frame op has. absurd (none-some frame (sym none ∙ same position within ∙ has)))
          ];
    }

frame_in_of : (o : Option VFrame) → frame_in (arrival_of o) ≡ o
frame_in_of None = refl
frame_in_of (Some frame) = refl

module _ (files : List ClassFile) (gathers : Gathers files None) (body : Body) (of_set : IsOfSet files body) (round : ℕ) (frames after : Frames) (wave next : List ℕ) (failing : Option ℕ) (before : IsBefore files body round frames wave) (is : IsRound files body round frames after wave next failing) where
  abbrev table : Table
  table = table_before files body round

  proper : IsProperTable ordered files gathers body of_set table
  proper = proper_before ordered files gathers body of_set round

  abbrev wave_sent : List Sent
  wave_sent = sent_in files body frames.store frames.known.items wave

  -- ---- positions

  start_at : (position : ℕ) → position < length body.ops → IsStart body.ops (pc_at body.ops position)
  start_at position within =
      let (instruction, here) = at_position body.ops position within in
      op_is_start body.ops (pc_at body.ops position) instruction (op_of_position body.ops of_set.rise position (pc_at body.ops position, instruction) here)

  -- the position of a pc
  abbrev Placed : ℕ → Type 0
  Placed pc = (position : ℕ) × (position < length body.ops) × (pc_at body.ops position ≡ pc)

  placed_op : (pc : ℕ) (instruction : Op) → op_at body.ops pc ≡ Some instruction → Placed pc
  placed_op pc instruction op =
      let (position, here) = position_of_op body.ops pc instruction op in
      (position, within_at body.ops position (pc, instruction) here, pc_of_position body.ops position (pc, instruction) here)

  placed_start : (pc : ℕ) → IsStart body.ops pc → Placed pc
  placed_start pc start = let (instruction, op) = start_has_op body.ops pc start in placed_op pc instruction op

  -- ---- what arrives

  covered_at : (pc : ℕ) → IsStart body.ops pc → (sent : Sent) → (IsStart body.ops sent.to → Contains wave_sent sent ⊎ IsMet files table sent) → sent.to ≡ pc → IsCovered files gathers (table pc) wave_sent sent
  covered_at pc start sent covered same =
      elim (covered (subst (IsStart body.ops) (sym same) start)) [
        | inl there ↦ inl there
        | inr met ↦ inr (met.upper, ap table (sym same) ∙ met.has, met.above)
      ]

  arrival_is : (position : ℕ) → position < length body.ops → arrival files body table (pc_at body.ops position) ≡ arrival_at files body.ops frames.store frames.known.items wave_sent position
  arrival_is position within =
      let pc = pc_at body.ops position in
      let all = sent_by_each files body table body.ops in
      let covered =
      all_map (λ sent. IsStart body.ops sent.to → Contains wave_sent sent ⊎ IsMet files table sent) (λ sent. sent.to ≡ pc → IsCovered files gathers (table pc) wave_sent sent)
      (covered_at pc (start_at position within)) all (all_covered files body frames.store frames.known.items of_set.rise table before.same wave before.settled)
      in
      same_arrival files gathers pc (table pc) (proper pc) all wave_sent (wave_part files body frames.store frames.known.items of_set.rise table before.same wave before.within)
      (all_proper ordered files gathers body of_set table proper) covered
      ∙ ap (λ (o : Option VFrame). arrive_at files pc (arrival_of o) wave_sent) (sym (before.same position within))

  -- ---- failing pcs

  unruled : (pc : ℕ) (instruction : Op) (frame : VFrame) → op_at body.ops pc ≡ Some instruction → table pc ≡ Some frame → frame_after files body pc instruction frame ≡ None → WaveFails files body frames wave pc
  unruled pc instruction frame op has fails =
      let (position, here) = position_of_op body.ops pc instruction op in
      let within = within_at body.ops position (pc, instruction) here in
      let at : pc_at body.ops position ≡ pc = pc_of_position body.ops position (pc, instruction) here in
      elim (before.settled position within) [
        | inl waits ↦ inl (position, waits, record { instruction = instruction; frame = frame; here = here; has = before.same position within ∙ ap table at ∙ has; fails = fails })
        | inr settled ↦
            let holds : HoldsAt files body table (pc_at body.ops position) instruction frame =
            settled instruction frame (ap (op_at body.ops) at ∙ op) (ap table at ∙ has)
            in
            absurd (none-some holds.after (sym fails ∙ ap (λ p. frame_after files body p instruction frame) (sym at) ∙ holds.rule))
      ]

  fails_to : (pc : ℕ) → FailsAt files body table pc → WaveFails files body frames wave pc
  fails_to pc (IsRuled instruction frame op has fails) = unruled pc instruction frame op has fails
  fails_to pc (IsMerged start clash) =
      let (position, within, at) = placed_start pc start in
      inr (position, within, at, sym (arrival_is position within) ∙ ap (arrival files body table) at ∙ clash)

  fails_from : (pc : ℕ) → WaveFails files body frames wave pc → FailsAt files body table pc
  fails_from pc (inl (position, waits, un)) =
      let within = within_at body.ops position (pc, un.instruction) un.here in
      let at : pc_at body.ops position ≡ pc = pc_of_position body.ops position (pc, un.instruction) un.here in
      IsRuled un.instruction un.frame (op_of_position body.ops of_set.rise position (pc, un.instruction) un.here) (ap table (sym at) ∙ sym (before.same position within) ∙ un.has) un.fails
  fails_from pc (inr (position, within, at, clash)) =
      IsMerged (subst (IsStart body.ops) at (start_at position within)) (ap (arrival files body table) (sym at) ∙ arrival_is position within ∙ clash)

  pub failing_is : (pc : ℕ) → failing ≡ Some pc → IsFailing files body pc
  failing_is pc e =
      let low : IsLowest (WaveFails files body frames wave) (Some pc) = subst (IsLowest (WaveFails files body frames wave)) e is.fails in
      record { round = round; earlier = before.passed; fails = fails_from pc low.0; lowest = λ at less fails. low.1 at less (fails_to at fails) }

  -- ---- a round that does not fail

  module _ (none : failing ≡ None) where
    passes : (pc : ℕ) → FailsAt files body table pc → ⊥
    passes pc fails =
        let free : IsLowest (WaveFails files body frames wave) None = subst (IsLowest (WaveFails files body frames wave)) none is.fails in
        free pc (fails_to pc fails)

    all_passed : (other : ℕ) → other ≤ round → (pc : ℕ) → FailsAt files body (table_before files body other) pc → ⊥
    all_passed other le =
        elim (cases_lt other round) [
          | inl less ↦ before.passed other less
          | inr ge ↦ let here : round ≡ other = omega (arith, le, ge) in subst (λ r. (pc : ℕ) → FailsAt files body (table_before files body r) pc → ⊥) here passes
        ]

    next_same : AreSame body after.store after.known.items (table_before files body (suc round))
    next_same position within =
        let pc = pc_at body.ops position in
        sym (frame_in_of (frame_at after.store after.known.items position))
        ∙ ap frame_in (sym (is.merged none position within))
        ∙ ap frame_in (sym (arrival_is position within))
        ∙ sym (before_next files body round pc)

    stays : (position : ℕ) → position < length body.ops → frame_at after.store after.known.items position ≡ frame_at frames.store frames.known.items position
        → table_before files body (suc round) (pc_at body.ops position) ≡ table (pc_at body.ops position)
    stays position within same = sym (next_same position within) ∙ same ∙ before.same position within

    settled_then : (position : ℕ) → position < length body.ops → frame_at after.store after.known.items position ≡ frame_at frames.store frames.known.items position
        → IsSettled files body (table_before files body (suc round)) position
    settled_then position within same instruction frame op has =
        let pc = pc_at body.ops position in
        let had : table pc ≡ Some frame = sym (stays position within same) ∙ has in
        let (then, rule) = rule_of ordered files gathers body of_set table passes pc instruction frame op had in
        record {
          after = then;
          rule = rule;
          met =
              all_map (IsTaken ordered files gathers body of_set (next_table files body table)) (λ sent. IsStart body.ops sent.to → IsMet files (table_before files body (suc round)) sent)
              (λ sent there start. let (upper, over, above) = there start in record { upper = upper; has = before_next files body round sent.to ∙ over; above = above }) (sent_from body pc frame then)
              (taken ordered files gathers body of_set table proper passes pc instruction frame then op had rule);
        }

    pub before_then : IsBefore files body (suc round) after next
    before_then =
        record {
          kept = is.kept;
          same = next_same;
          passed = λ other less. all_passed other (omega (arith, less));
          within = is.within;
          settled = λ position within.
              elim (is.changed position within) [
                | inl there ↦ inl there
                | inr same ↦ inr (settled_then position within same)
              ];
        }

    -- ---- a round that changes nothing

    module _ (quiet : next ≡ []) where
      unchanged : (position : ℕ) → position < length body.ops → frame_at after.store after.known.items position ≡ frame_at frames.store frames.known.items position
      unchanged position within =
          elim (is.changed position within) [
            | inl there ↦ let no : Contains [] position = subst (λ (list : List ℕ). Contains list position) quiet there in let less = no.1 in absurd (omega (arith, less))
            | inr same ↦ same
          ]

      pub quiet_round : IsQuiet files body round
      quiet_round =
          record {
            passes = λ other le. all_passed other le;
            same = λ pc start.
                let (position, within, at) = placed_start pc start in
                subst (λ p. table_before files body (suc round) p ≡ table p) at (stays position within (unchanged position within));
          }

      pub quiet_frames : AreOf body table after
      quiet_frames =
          record {
            count = (is.kept).count;
            there = λ position. IfSome_then (get_or after.known.items position None) ((is.kept).sound position) (λ known entry. entry.there);
            same = λ position within. unchanged position within ∙ before.same position within;
          }
