-- What rounds know is below each right table, so that no round fails where there is one.
use Rattle.std.proofs.Common.{◌≡◌, ℕ, inl, List, filter, Option, Some, None, IfSome, unwrap_or, sym, subst, ◌∙◌, arith}
use Rattle.std.specs.List.{AllByRecursion, Contains}
use Rattle.std.proofs.lemmas.Option.{none-some, same_Some}
use Rattle.class_file.specs.declared.record.ClassFile.{ClassFile}
use Rattle.class_tree.specs.Set.{IsClass}
use Rattle.class_tree.specs.Tree.{Gathers}
use Rattle.body_form.specs.declared.op.Op.{Op}
use Rattle.body_form.specs.declared.body.Body.{Body}
use Rattle.body_form.specs.declared.body.Guard.{Guard}
use Rattle.body_form.specs.declared.types.VFrame.{VFrame}
use Rattle.body_form.specs.Flow.{IsStart, covers, successors}
use Rattle.jvm_model.specs.Instructions.{throwable}
use Rattle.jvm_model.specs.TypesFrames.{merge_frames, start_frame, IsAbove, IsKnownFrame}
use Rattle.jvm_model.specs.TypesNames.{IsOfSet}
use Rattle.jvm_model.specs.TypesRules.{op_at, frame_after}
use Rattle.jvm_model.specs.TypesRight.{Table, Sent, entered, sent_from, IsMet, HoldsAt, IsRight}
use Rattle.jvm_model.specs.TypesRounds.{arrival_of, or_clash, sent_by_each, arrival, next_table, table_before, FailsAt, IsRuled, IsMerged}
use Rattle.type_order.specs.OrderLaws.{IsProper}
use Rattle.type_rounds.proofs.tables.Ordered.{IsOrdered}
use Rattle.type_rounds.proofs.tables.Lists.{all_map, all_both, all_elements, all_filter}
use Rattle.type_rounds.proofs.tables.Starts.{op_is_start, each_is_at}
use Rattle.type_rounds.proofs.tables.Arrivals.{Holds, holds, frame_holds}
use Rattle.type_rounds.proofs.tables.SentFrames.{AtHandler, all_sent, sent_successors, sent_handlers, SendsAll, all_sent_by_each}
use Rattle.type_rounds.proofs.tables.ProperTables.{each_before, table_holds, all_proper, arrives_proper}

-- ---- handlers are entered with types of the set

caught : (files : List ClassFile) (class : Option ℕ) → IfSome class (IsClass files) → IsClass files (unwrap_or class throwable)
caught files None is = inl (omega arith)
caught files (Some class) is = is

pub entered_known : (files : List ClassFile) (guard : Guard) (frame : VFrame) → IfSome guard.class (IsClass files) → IsKnownFrame files frame → IsKnownFrame files (entered guard frame)
entered_known files guard frame class known = record { locals = known.locals; stack = ((caught files guard.class class, tt), tt) }

module _ (laws : IsOrdered) (files : List ClassFile) (gathers : Gathers files None) (body : Body) (of_set : IsOfSet files body) (right : Table) (is : IsRight files body right) where
  -- the right table has a frame above this one
  abbrev pub Under : ℕ → VFrame → Type 0
  Under pc frame = (upper : VFrame) × (right pc ≡ Some upper) × IsAbove files upper frame

  abbrev pub ProperUnder : ℕ → VFrame → Type 0
  ProperUnder pc frame = IsProper files frame × (IsStart body.ops pc → Under pc frame)

  abbrev EachUnder : Table → Type 0
  EachUnder table = (pc : ℕ) (frame : VFrame) → table pc ≡ Some frame → ProperUnder pc frame

  -- ---- what is sent

  abbrev Meets : Sent → Type 0
  Meets sent = IsStart body.ops sent.to → IsMet files right sent

  abbrev SentUnder : Sent → Type 0
  SentUnder sent = IsStart body.ops sent.to → Under sent.to sent.frame

  lowered : (to : ℕ) (upper lower : VFrame) → IsKnownFrame files upper → IsKnownFrame files lower → IsAbove files upper lower → Meets (record { to = to; frame = upper }) → SentUnder (record { to = to; frame = lower })
  lowered to upper lower known_upper known_lower above meets start =
      let met = meets start in
      (met.upper, met.has, laws.goes_on files gathers met.upper upper lower (is.known to met.upper met.has) known_upper known_lower met.above above)

  guards_known : (pc : ℕ) → AllByRecursion (λ guard. IfSome guard.class (IsClass files)) (filter (covers pc) body.handlers)
  guards_known pc = all_filter (λ (guard : Guard). IfSome guard.class (IsClass files)) (covers pc) body.handlers of_set.handlers

  guards_there : (pc : ℕ) → AllByRecursion (Contains body.handlers) (filter (covers pc) body.handlers)
  guards_there pc = all_filter (Contains body.handlers) (covers pc) body.handlers (all_elements (Contains body.handlers) body.handlers (λ guard there. there))

  -- a row of the exception table, with what it is known of it
  abbrev IsGuard : Guard → Type 0
  IsGuard guard = IfSome guard.class (IsClass files) × Contains body.handlers guard

  guards : (pc : ℕ) → AllByRecursion IsGuard (filter (covers pc) body.handlers)
  guards pc = all_both (λ (guard : Guard). IfSome guard.class (IsClass files)) (Contains body.handlers) IsGuard (λ guard first second. (first, second)) (filter (covers pc) body.handlers) (guards_known pc) (guards_there pc)

  lowered_entry : (guard : Guard) (upper lower : VFrame) → IsGuard guard → IsKnownFrame files upper → IsProper files lower → IsAbove files upper lower
      → Meets (record { to = guard.target; frame = entered guard upper }) → SentUnder (record { to = guard.target; frame = entered guard lower })
  lowered_entry guard upper lower it known proper above meets =
      lowered guard.target (entered guard upper) (entered guard lower) (entered_known files guard upper it.0 known) (entered_known files guard lower it.0 proper.known)
      (laws.entered_above files gathers body of_set guard upper lower it.1 known proper above) meets

  sent_under : (pc : ℕ) (upper upper_after lower lower_after : VFrame) → IsKnownFrame files upper → IsKnownFrame files upper_after → IsProper files lower → IsProper files lower_after
      → IsAbove files upper lower → IsAbove files upper_after lower_after → AllByRecursion Meets (sent_from body pc upper upper_after) → AllByRecursion SentUnder (sent_from body pc lower lower_after)
  sent_under pc upper upper_after lower lower_after known known_after proper proper_after above above_after met =
      all_sent body SentUnder pc lower lower_after
      (all_map (λ to. Meets (record { to = to; frame = upper_after })) (λ to. SentUnder (record { to = to; frame = lower_after }))
      (λ to meets. lowered to upper_after lower_after known_after proper_after.known above_after meets) (successors body.ops pc)
      (sent_successors body Meets pc upper upper_after met))
      (all_both IsGuard (AtHandler Meets upper upper_after) (AtHandler SentUnder lower lower_after)
      (λ guard it meets. (lowered_entry guard upper lower it known proper above meets.0, lowered_entry guard upper_after lower_after it known_after proper_after above_after meets.1))
      (filter (covers pc) body.handlers) (guards pc) (sent_handlers body Meets pc upper upper_after met))

  -- ---- rules

  -- the rule holds in a frame below that of the right table, and what it sends is below
  rule_under : (pc : ℕ) (instruction : Op) (frame : VFrame) → op_at body.ops pc ≡ Some instruction → ProperUnder pc frame
      → (after : VFrame) × (frame_after files body pc instruction frame ≡ Some after) × AllByRecursion SentUnder (sent_from body pc frame after)
  rule_under pc instruction frame op under =
      let (upper, has, above) = under.1 (op_is_start body.ops pc instruction op) in
      let known : IsKnownFrame files upper = is.known pc upper has in
      let there : HoldsAt files body right pc instruction upper = is.rules pc instruction upper op has in
      let (after, rule, above_after) = laws.monotone files gathers body of_set pc instruction upper frame there.after op known under.0 above there.rule in
      let proper_after : IsProper files after = laws.after files gathers body of_set pc instruction frame after op under.0 rule in
      let known_after : IsKnownFrame files there.after = laws.after_known files gathers body of_set pc instruction upper there.after op known there.rule in
      (after, rule, sent_under pc upper there.after frame after known known_after under.0 proper_after above above_after there.met)

  sends_under : (table : Table) → EachUnder table → (x : ℕ × Op) → op_at body.ops x.0 ≡ Some x.1 → SendsAll files body table SentUnder x
  sends_under table under x op frame after before rule =
      let (other, other_rule, sent) = rule_under x.0 x.1 frame op (under x.0 frame before) in
      subst (λ f. AllByRecursion SentUnder (sent_from body x.0 frame f)) (same_Some other after (sym other_rule ∙ rule)) sent

  all_under : (table : Table) → EachUnder table → AllByRecursion SentUnder (sent_by_each files body table body.ops)
  all_under table under =
      all_sent_by_each files body table SentUnder body.ops
      (all_map (λ x. op_at body.ops x.0 ≡ Some x.1) (SendsAll files body table SentUnder) (sends_under table under) body.ops (each_is_at body.ops of_set.rise))

  -- ---- what arrives

  same_upper : (pc : ℕ) (f g : VFrame) → ProperUnder pc f → IsStart body.ops pc → (upper other : VFrame) → right pc ≡ Some upper → right pc ≡ Some other → IsAbove files other g → IsAbove files upper g
  same_upper pc f g first start upper other has there above = subst (λ (u : VFrame). IsAbove files u g) (same_Some other upper (sym there ∙ has)) above

  joins_under : (pc : ℕ) → IsStart body.ops pc → (f g : VFrame) → ProperUnder pc f → ProperUnder pc g → Holds ⊥ (ProperUnder pc) (or_clash (merge_frames files f g))
  joins_under pc start f g first second =
      let (upper, has, above) = first.1 start in
      let (other, there, also) = second.1 start in
      let known : IsKnownFrame files upper = is.known pc upper has in
      let (merged, e, below) = laws.least files gathers f g upper (first.0).known (second.0).known known above (same_upper pc f g first start upper other has there also) in
      subst (λ o. Holds ⊥ (ProperUnder pc) (or_clash o)) (sym e) (laws.merged files gathers f g merged first.0 second.0 e, λ here. (upper, has, below))

  all_at : (pc : ℕ) (table : Table) → EachUnder table → AllByRecursion (λ sent. sent.to ≡ pc → ProperUnder pc sent.frame) (sent_by_each files body table body.ops)
  all_at pc table under =
      let arriving = sent_by_each files body table body.ops in
      all_both (λ sent. IsProper files sent.frame) SentUnder (λ sent. sent.to ≡ pc → ProperUnder pc sent.frame)
      (λ sent proper there same. (proper, λ start. subst (λ p. Under p sent.frame) same (there (subst (IsStart body.ops) (sym same) start)))) arriving
      (all_proper laws files gathers body of_set table (λ at frame e. (under at frame e).0)) (all_under table under)

  arrives_under : (table : Table) → EachUnder table → (pc : ℕ) → IsStart body.ops pc → Holds ⊥ (ProperUnder pc) (arrival files body table pc)
  arrives_under table under pc start =
      holds files ⊥ (ProperUnder pc) (joins_under pc start) pc (arrival_of (table pc)) (sent_by_each files body table body.ops)
      (table_holds ⊥ (ProperUnder pc) (table pc) (under pc)) (all_at pc table under)

  -- ---- rounds

  next_under : (table : Table) → EachUnder table → EachUnder (next_table files body table)
  next_under table under pc frame e = (
    frame_holds (Unit {0}) (IsProper files) (arrival files body table pc) frame (arrives_proper laws files gathers body of_set table (λ at other is. (under at other is).0) pc) e,
    λ start. (frame_holds ⊥ (ProperUnder pc) (arrival files body table pc) frame (arrives_under table under pc start) e).1 start,
  )

  start_under : ProperUnder 0 (start_frame files body)
  start_under = (laws.start files gathers body of_set, λ start. let met = is.start start in (met.upper, met.has, met.above))

  pub under_before : (round : ℕ) → EachUnder (table_before files body round)
  under_before round pc frame e = each_before files body ProperUnder start_under next_under round pc frame e

  pub never_fails : (round pc : ℕ) → FailsAt files body (table_before files body round) pc → ⊥
  never_fails round pc (IsRuled instruction frame op before fails) =
      let (after, rule, sent) = rule_under pc instruction frame op (under_before round pc frame before) in
      none-some after (sym fails ∙ rule)
  never_fails round pc (IsMerged start clash) = subst (Holds ⊥ (ProperUnder pc)) clash (arrives_under (table_before files body round) (under_before round) pc start)
