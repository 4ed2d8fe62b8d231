-- A table that a round leaves as it is, and at which none fails, is right.
use Rattle.std.proofs.Common.{◌≡◌, ℕ, zero, suc, ◌≤◌, Bool, true, List, [], ◌∷◌, filter, Option, Some, None, is_some, option_and_then, refl, sym, ap, subst, ◌∙◌, arith}
use Rattle.std.specs.Option.{option_map_or}
use Rattle.std.specs.List.{AllByRecursion}
use Rattle.std.proofs.lemmas.Option.{none-some, same_Some}
use Rattle.class_file.specs.declared.record.ClassFile.{ClassFile}
use Rattle.class_tree.specs.Tree.{Gathers}
use Rattle.body_form.specs.declared.op.Op.{Op}
use Rattle.body_form.specs.declared.body.Body.{Body}
use Rattle.body_form.specs.declared.body.Guard.{Guard}
use Rattle.body_form.specs.declared.types.VFrame.{VFrame}
use Rattle.body_form.specs.Flow.{IsStart, covers, successors}
use Rattle.body_form.specs.Reach.{handler_targets, IsClosed}
use Rattle.jvm_model.specs.TypesFrames.{start_frame, IsAbove}
use Rattle.jvm_model.specs.TypesNames.{IsOfSet}
use Rattle.jvm_model.specs.TypesRules.{op_at, frame_after}
use Rattle.jvm_model.specs.TypesRight.{Table, Sent, sent_from, IsMet, HoldsAt, IsRight, IsLeast}
use Rattle.jvm_model.specs.TypesRounds.{Arrival, Nothing, Clash, Merged, arrival_of, sent_by_each, arrival, frame_in, next_table, table_before, FailsAt, IsRuled, IsMerged}
use Rattle.type_order.specs.OrderLaws.{IsProper}
use Rattle.type_rounds.specs.RoundLaws.{at_instructions, IsQuiet}
use Rattle.type_rounds.proofs.tables.Ordered.{IsOrdered}
use Rattle.type_rounds.proofs.tables.Lists.{all_map, all_append, all_given}
use Rattle.type_rounds.proofs.tables.Starts.{start_has_op, op_is_start, holds_at}
use Rattle.type_rounds.proofs.tables.Arrivals.{IsBelow, first_below, each_below}
use Rattle.type_rounds.proofs.tables.SentFrames.{AtHandler, sent_successors, sent_handlers, SendsAll, each_sends}
use Rattle.type_rounds.proofs.tables.ProperTables.{before_first, before_next, IsProperTable, all_proper, known_arrives, proper_before, reached_before}
use Rattle.type_rounds.proofs.tables.BelowRight.{under_before}

module _ (laws : IsOrdered) (files : List ClassFile) (gathers : Gathers files None) (body : Body) (of_set : IsOfSet files body) where
  abbrev pub Passes : Table → Type 0
  Passes table = (pc : ℕ) → FailsAt files body table pc → ⊥

  -- a table has a frame above this one
  abbrev pub HasAbove : Table → ℕ → VFrame → Type 0
  HasAbove table pc frame = (upper : VFrame) × (table pc ≡ Some upper) × IsAbove files upper frame

  -- ---- one round

  upper_with : (table : Table) → Passes table → (pc : ℕ) (frame : VFrame) → IsStart body.ops pc → (a : Arrival) → arrival files body table pc ≡ a → IsBelow laws files gathers frame a
      → (upper : VFrame) × (frame_in a ≡ Some upper) × IsAbove files upper frame
  upper_with table passes pc frame start Nothing e below = absurd below
  upper_with table passes pc frame start Clash e below = absurd (passes pc (IsMerged start e))
  upper_with table passes pc frame start (Merged upper) e below = (upper, refl, below)

  next_above : (table : Table) → Passes table → (pc : ℕ) (frame : VFrame) → IsStart body.ops pc → IsBelow laws files gathers frame (arrival files body table pc) → HasAbove (next_table files body table) pc frame
  next_above table passes pc frame start below = upper_with table passes pc frame start (arrival files body table pc) refl below

  below_with : (o : Option VFrame) (frame : VFrame) → o ≡ Some frame → IsProper files frame → IsBelow laws files gathers frame (arrival_of o)
  below_with None frame e proper = absurd (none-some frame e)
  below_with (Some other) frame e proper = subst (λ (f : VFrame). IsAbove files f frame) (sym (same_Some other frame e)) (laws.itself files gathers frame proper)

  -- a frame that the table has is below that of the next one
  pub grows : (table : Table) → IsProperTable laws files gathers body of_set table → Passes table → (pc : ℕ) (frame : VFrame) → IsStart body.ops pc → table pc ≡ Some frame
      → HasAbove (next_table files body table) pc frame
  grows table proper passes pc frame start e =
      next_above table passes pc frame start
      (first_below laws files gathers frame pc (arrival_of (table pc)) (sent_by_each files body table body.ops) (proper pc frame e).known
      (known_arrives laws files gathers body of_set table proper pc) (all_proper laws files gathers body of_set table proper) (below_with (table pc) frame e (proper pc frame e)))

  -- each frame that is sent to an instruction is below that of the next table
  abbrev pub IsTaken : Table → Sent → Type 0
  IsTaken table sent = IsStart body.ops sent.to → HasAbove table sent.to sent.frame

  diagonal : (below : ℕ → VFrame → Type 0) (arriving : List Sent) → ((pc : ℕ) → AllByRecursion (λ sent. sent.to ≡ pc → below pc sent.frame) arriving) → AllByRecursion (λ sent. below sent.to sent.frame) arriving
  diagonal below [] h = tt
  diagonal below (sent ∷ rest) h = ((h sent.to).0 refl, diagonal below rest (λ pc. (h pc).1))

  all_taken : (table : Table) → IsProperTable laws files gathers body of_set table → Passes table → AllByRecursion (IsTaken (next_table files body table)) (sent_by_each files body table body.ops)
  all_taken table proper passes =
      let arriving = sent_by_each files body table body.ops in
      all_map (λ sent. IsBelow laws files gathers sent.frame (arrival files body table sent.to)) (IsTaken (next_table files body table))
      (λ sent below start. next_above table passes sent.to sent.frame start below) arriving
      (diagonal (λ pc frame. IsBelow laws files gathers frame (arrival files body table pc)) arriving
      (λ pc. each_below laws files gathers pc (arrival_of (table pc)) arriving (known_arrives laws files gathers body of_set table proper pc) (all_proper laws files gathers body of_set table proper)))

  pub taken : (table : Table) → IsProperTable laws files gathers body of_set table → Passes table → (pc : ℕ) (instruction : Op) (frame after : VFrame) → op_at body.ops pc ≡ Some instruction
      → table pc ≡ Some frame → frame_after files body pc instruction frame ≡ Some after → AllByRecursion (IsTaken (next_table files body table)) (sent_from body pc frame after)
  taken table proper passes pc instruction frame after op before rule =
      holds_at (SendsAll files body table (IsTaken (next_table files body table))) body.ops
      (each_sends files body table (IsTaken (next_table files body table)) body.ops (all_taken table proper passes)) pc instruction op frame after before rule

  -- the rule of an instruction holds in its frame
  ruled_with : (table : Table) → Passes table → (pc : ℕ) (instruction : Op) (frame : VFrame) → op_at body.ops pc ≡ Some instruction → table pc ≡ Some frame
      → (o : Option VFrame) → frame_after files body pc instruction frame ≡ o → (after : VFrame) × (o ≡ Some after)
  ruled_with table passes pc instruction frame op before None fails = absurd (passes pc (IsRuled instruction frame op before fails))
  ruled_with table passes pc instruction frame op before (Some after) rule = (after, refl)

  pub rule_of : (table : Table) → Passes table → (pc : ℕ) (instruction : Op) (frame : VFrame) → op_at body.ops pc ≡ Some instruction → table pc ≡ Some frame
      → (after : VFrame) × (frame_after files body pc instruction frame ≡ Some after)
  rule_of table passes pc instruction frame op before = ruled_with table passes pc instruction frame op before (frame_after files body pc instruction frame) refl

  -- ---- a quiet round

  module _ (round : ℕ) (quiet : IsQuiet files body round) where
    abbrev table : Table
    table = table_before files body round

    proper : IsProperTable laws files gathers body of_set table
    proper = proper_before laws files gathers body of_set round

    passes : Passes table
    passes pc fails = quiet.passes round (omega arith) pc fails

    -- the start frame is below that of pc 0 in each table so far
    start_below : IsStart body.ops 0 → (other : ℕ) → other ≤ round → HasAbove (table_before files body other) 0 (start_frame files body)
    start_below start zero le =
        let first : IsProper files (start_frame files body) = laws.start files gathers body of_set in
        (start_frame files body, before_first files body 0, laws.itself files gathers (start_frame files body) first)
    start_below start (suc other) le =
        let first : IsProper files (start_frame files body) = laws.start files gathers body of_set in
        let (upper, has, above) = start_below start other (omega (arith, le)) in
        let proper_other = proper_before laws files gathers body of_set other in
        let (next, there, over) = grows (table_before files body other) proper_other (λ pc fails. quiet.passes other (omega (arith, le)) pc fails) 0 upper start has in
        let is : table_before files body (suc other) 0 ≡ Some next = before_next files body other 0 ∙ there in
        (next, is, laws.goes_on files gathers next upper (start_frame files body) (proper_before laws files gathers body of_set (suc other) 0 next is).known (proper_other 0 upper has).known first.known over above)

    -- ---- at the instructions alone

    at_start : (pc : ℕ) (instruction : Op) → op_at body.ops pc ≡ Some instruction → at_instructions body table pc ≡ table pc
    at_start pc instruction op = ap (option_and_then (λ (i : Op). table pc)) op

    both_with : (o : Option Op) (frame : Option VFrame) (found : VFrame) → option_and_then (λ (i : Op). frame) o ≡ Some found → (instruction : Op) × (o ≡ Some instruction) × (frame ≡ Some found)
    both_with None frame found e = absurd (none-some found e)
    both_with (Some instruction) frame found e = (instruction, refl, e)

    both : (pc : ℕ) (frame : VFrame) → at_instructions body table pc ≡ Some frame → (instruction : Op) × (op_at body.ops pc ≡ Some instruction) × (table pc ≡ Some frame)
    both pc frame e = both_with (op_at body.ops pc) (table pc) frame e

    met_here : (pc : ℕ) (frame : VFrame) → IsStart body.ops pc → HasAbove table pc frame → IsMet files (at_instructions body table) (record { to = pc; frame = frame })
    met_here pc frame start (upper, has, above) =
        let (instruction, op) = start_has_op body.ops pc start in
        record { upper = upper; has = at_start pc instruction op ∙ has; above = above }

    -- what is sent is met by the same table
    same_next : (pc : ℕ) → IsStart body.ops pc → next_table files body table pc ≡ table pc
    same_next pc start = sym (before_next files body round pc) ∙ quiet.same pc start

    taken_here : (pc : ℕ) (instruction : Op) (frame after : VFrame) → op_at body.ops pc ≡ Some instruction → table pc ≡ Some frame → frame_after files body pc instruction frame ≡ Some after
        → AllByRecursion (IsTaken table) (sent_from body pc frame after)
    taken_here pc instruction frame after op before rule =
        all_map (IsTaken (next_table files body table)) (IsTaken table)
        (λ sent h start. let (upper, has, above) = h start in (upper, sym (same_next sent.to start) ∙ has, above)) (sent_from body pc frame after)
        (taken table proper passes pc instruction frame after op before rule)

    -- ---- each reached instruction has a frame

    has_frame : ℕ → Bool
    has_frame pc = option_map_or (λ (instruction : Op). is_some (table pc)) (op_at body.ops pc) true

    has_with : (o : Option Op) (frame : Option VFrame) → ((instruction : Op) → o ≡ Some instruction → (found : VFrame) × (frame ≡ Some found)) → option_map_or (λ (instruction : Op). is_some frame) o true ≡ true
    has_with None frame h = refl
    has_with (Some instruction) frame h = let (found, is) = h instruction refl in ap is_some is

    found_with : (o : Option Op) (frame : Option VFrame) (instruction : Op) → o ≡ Some instruction → option_map_or (λ (instruction : Op). is_some frame) o true ≡ true → (found : VFrame) × (frame ≡ Some found)
    found_with None frame instruction e h = absurd (none-some instruction e)
    found_with (Some other) None instruction e h = cc
    found_with (Some other) (Some found) instruction e h = (found, refl)

    has_from : (pc : ℕ) (frame : VFrame) → (IsStart body.ops pc → HasAbove table pc frame) → has_frame pc ≡ true
    unfolding has_frame
    has_from pc frame h =
        has_with (op_at body.ops pc) (table pc) (λ instruction op. let (upper, has, above) = h (op_is_start body.ops pc instruction op) in (upper, has))

    found_frame : (pc : ℕ) (instruction : Op) → op_at body.ops pc ≡ Some instruction → has_frame pc ≡ true → (found : VFrame) × (table pc ≡ Some found)
    unfolding has_frame
    found_frame pc instruction op h = found_with (op_at body.ops pc) (table pc) instruction op h

    closed : IsClosed has_frame body
    closed pc start h =
        let (instruction, op) = start_has_op body.ops pc start in
        let (frame, before) = found_frame pc instruction op h in
        let (after, rule) = rule_of table passes pc instruction frame op before in
        let all = taken_here pc instruction frame after op before rule in
        all_append (λ to. has_frame to ≡ true) (successors body.ops pc) (handler_targets body.handlers pc)
        (all_map (λ to. IsTaken table (record { to = to; frame = after })) (λ to. has_frame to ≡ true) (λ to there. has_from to after there) (successors body.ops pc)
        (sent_successors body (IsTaken table) pc frame after all))
        (all_given (λ to. has_frame to ≡ true) (λ (guard : Guard). guard.target) (filter (covers pc) body.handlers)
        (all_map (AtHandler (IsTaken table) frame after) (λ guard. has_frame guard.target ≡ true) (λ guard there. has_from guard.target _ there.0) (filter (covers pc) body.handlers)
        (sent_handlers body (IsTaken table) pc frame after all)))

    first_has : has_frame 0 ≡ true
    first_has = has_from 0 (start_frame files body) (λ start. start_below start round (omega arith))

    -- ---- the table is right

    rules_hold : (pc : ℕ) (instruction : Op) (frame : VFrame) → op_at body.ops pc ≡ Some instruction → at_instructions body table pc ≡ Some frame → HoldsAt files body (at_instructions body table) pc instruction frame
    rules_hold pc instruction frame op e =
        let before : table pc ≡ Some frame = sym (at_start pc instruction op) ∙ e in
        let (after, rule) = rule_of table passes pc instruction frame op before in
        record {
          after = after;
          rule = rule;
          met =
              all_map (IsTaken table) (λ sent. IsStart body.ops sent.to → IsMet files (at_instructions body table) sent) (λ sent there start. met_here sent.to sent.frame start (there start))
              (sent_from body pc frame after) (taken_here pc instruction frame after op before rule);
        }

    pub right : IsRight files body (at_instructions body table)
    right =
        record {
          known = λ pc frame e. let (instruction, op, before) = both pc frame e in (proper pc frame before).known;
          only = λ pc frame e.
              let (instruction, op, before) = both pc frame e in
              (op_is_start body.ops pc instruction op, reached_before files body of_set round pc frame before);
          reached = λ pc start reached.
              let (instruction, op) = start_has_op body.ops pc start in
              let (frame, before) = found_frame pc instruction op (reached has_frame first_has closed) in
              (frame, at_start pc instruction op ∙ before);
          start = λ start. met_here 0 (start_frame files body) start (start_below start round (omega arith));
          rules = rules_hold;
        }

    pub least : IsLeast files body (at_instructions body table)
    least =
        record {
          right = right;
          least = λ other is pc frame upper e there.
              let (instruction, op, before) = both pc frame e in
              let (found, has, above) = (under_before laws files gathers body of_set other is round pc frame before).1 (op_is_start body.ops pc instruction op) in
              subst (λ (f : VFrame). IsAbove files f frame) (same_Some found upper (sym has ∙ there)) above;
        }
