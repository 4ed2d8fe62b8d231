-- The tables of rounds: each frame is proper, and stands at a pc that is reached.
use Rattle.std.proofs.Common.{◌≡◌, ℕ, zero, suc, Bool, true, false, List, [], ◌∷◌, ◌++◌, filter, Option, Some, None, nat_eq, if◌then◌else◌, refl, sym, subst, ◌∙◌}
use Rattle.std.specs.List.{AllByRecursion}
use Rattle.std.proofs.lemmas.Bool.{eqb-true}
use Rattle.std.proofs.lemmas.Option.{none-some, same_Some}
use Rattle.class_file.specs.declared.record.ClassFile.{ClassFile}
use Rattle.class_tree.specs.Tree.{Gathers}
use Rattle.body_form.specs.declared.op.Op.{Op}
use Rattle.body_form.specs.declared.body.Body.{Body}
use Rattle.body_form.specs.declared.body.Guard.{Guard}
use Rattle.body_form.specs.declared.types.VFrame.{VFrame}
use Rattle.body_form.specs.Flow.{IsStart, covers, successors}
use Rattle.body_form.specs.Reach.{handler_targets, IsClosed, IsReached}
use Rattle.jvm_model.specs.TypesFrames.{merge_frames, start_frame}
use Rattle.jvm_model.specs.TypesNames.{IsOfSet}
use Rattle.jvm_model.specs.TypesRules.{op_at}
use Rattle.jvm_model.specs.TypesRight.{Table, Sent}
use Rattle.jvm_model.specs.TypesRounds.{arrival_of, or_clash, sent_by_each, arrival, first_table, next_table, table_before}
use Rattle.type_order.specs.OrderLaws.{IsProper}
use Rattle.type_rounds.proofs.tables.Ordered.{IsOrdered}
use Rattle.type_rounds.proofs.tables.Lists.{all_map, all_each, all_elements, all_prefix, all_suffix, all_filter, all_from}
use Rattle.type_rounds.proofs.tables.Starts.{op_is_start, each_is_at}
use Rattle.type_rounds.proofs.tables.Arrivals.{Holds, holds, frame_holds, ProperArrival, proper_merge}
use Rattle.type_rounds.proofs.tables.SentFrames.{AtHandler, all_sent, SendsAll, all_sent_by_each}

-- ---- rounds step by step

module _ (files : List ClassFile) (body : Body) where
  pub before_first : (pc : ℕ) → table_before files body 0 pc ≡ first_table files body pc
  unfolding table_before
  before_first pc = refl

  pub before_next : (round pc : ℕ) → table_before files body (suc round) pc ≡ next_table files body (table_before files body round) pc
  unfolding table_before
  before_next round pc = refl

  first_with : (P : ℕ → VFrame → Type 0) (pc : ℕ) (frame : VFrame) (b : Bool) → (b ≡ true → P pc (start_frame files body)) → (if b then Some (start_frame files body) else None) ≡ Some frame → P pc frame
  first_with P pc frame true h e = subst (P pc) (same_Some (start_frame files body) frame e) (h refl)
  first_with P pc frame false h e = absurd (none-some frame e)

  -- what holds of the start frame at 0, and goes on in each round, holds of each frame
  pub each_before : (P : ℕ → VFrame → Type 0) → P 0 (start_frame files body)
      → ((table : Table) → ((pc : ℕ) (frame : VFrame) → table pc ≡ Some frame → P pc frame) → (pc : ℕ) (frame : VFrame) → next_table files body table pc ≡ Some frame → P pc frame)
      → (round pc : ℕ) (frame : VFrame) → table_before files body round pc ≡ Some frame → P pc frame
  each_before P first next zero pc frame e =
      first_with P pc frame (nat_eq pc 0) (λ same. subst (λ p. P p (start_frame files body)) (sym (eqb-true pc 0 same)) first) (sym (before_first pc) ∙ e)
  each_before P first next (suc round) pc frame e =
      next (table_before files body round) (each_before P first next round) pc frame (sym (before_next round pc) ∙ e)

-- what a table has arrives at each pc
pub table_holds : (clash : Type 0) (P : VFrame → Type 0) (o : Option VFrame) → ((frame : VFrame) → o ≡ Some frame → P frame) → Holds clash P (arrival_of o)
table_holds clash P None h = tt
table_holds clash P (Some frame) h = h frame refl

-- ---- proper frames

module _ (laws : IsOrdered) (files : List ClassFile) (gathers : Gathers files None) (body : Body) (of_set : IsOfSet files body) where
  abbrev pub IsProperTable : Table → Type 0
  IsProperTable table = (pc : ℕ) (frame : VFrame) → table pc ≡ Some frame → IsProper files frame

  abbrev pub proper_sent : Sent → Type 0
  proper_sent sent = IsProper files sent.frame

  pub sends_proper : (table : Table) → IsProperTable table → (x : ℕ × Op) → op_at body.ops x.0 ≡ Some x.1 → SendsAll files body table proper_sent x
  sends_proper table proper x is frame after before rule =
      let first : IsProper files frame = proper x.0 frame before in
      let second : IsProper files after = laws.after files gathers body of_set x.0 x.1 frame after is first rule in
      all_sent body proper_sent x.0 frame after
      (all_each (λ to. IsProper files after) (λ to. second) (successors body.ops x.0))
      (all_filter (AtHandler proper_sent frame after) (covers x.0) body.handlers
      (all_elements (AtHandler proper_sent frame after) body.handlers
      (λ guard there. (laws.entered files gathers body of_set guard frame there first, laws.entered files gathers body of_set guard after there second))))

  pub all_proper : (table : Table) → IsProperTable table → AllByRecursion (λ sent. IsProper files sent.frame) (sent_by_each files body table body.ops)
  all_proper table proper =
      all_sent_by_each files body table proper_sent body.ops
      (all_map (λ x. op_at body.ops x.0 ≡ Some x.1) (SendsAll files body table proper_sent) (sends_proper table proper) body.ops (each_is_at body.ops of_set.rise))

  pub known_arrives : (table : Table) → IsProperTable table → (pc : ℕ) → ProperArrival laws files gathers (arrival_of (table pc))
  known_arrives table proper pc = table_holds (Unit {0}) (IsProper files) (table pc) (proper pc)

  pub arrives_proper : (table : Table) → IsProperTable table → (pc : ℕ) → ProperArrival laws files gathers (arrival files body table pc)
  arrives_proper table proper pc =
      holds files (Unit {0}) (IsProper files) (proper_merge laws files gathers) pc (arrival_of (table pc)) (sent_by_each files body table body.ops)
      (known_arrives table proper pc)
      (all_map proper_sent (λ sent. sent.to ≡ pc → IsProper files sent.frame) (λ sent is _. is) (sent_by_each files body table body.ops) (all_proper table proper))

  pub proper_before : (round : ℕ) → IsProperTable (table_before files body round)
  proper_before round pc frame e =
      each_before files body (λ at other. IsProper files other) (laws.start files gathers body of_set)
      (λ table proper at other is. frame_holds (Unit {0}) (IsProper files) (arrival files body table at) other (arrives_proper table proper at) is)
      round pc frame e

-- ---- reached pcs

module _ (files : List ClassFile) (body : Body) (of_set : IsOfSet files body) where
  abbrev IsReachedTable : Table → Type 0
  IsReachedTable table = (pc : ℕ) (frame : VFrame) → table pc ≡ Some frame → IsReached body pc

  abbrev reached_sent : Sent → Type 0
  reached_sent sent = IsReached body sent.to

  -- what each closed set has is reached
  all_reached : (pcs : List ℕ) → ((test : ℕ → Bool) → test 0 ≡ true → IsClosed test body → AllByRecursion (λ to. test to ≡ true) pcs) → AllByRecursion (IsReached body) pcs
  all_reached [] h = tt
  all_reached (pc ∷ pcs) h = ((λ test first closed. (h test first closed).0), all_reached pcs (λ test first closed. (h test first closed).1))

  sends_reached : (table : Table) → IsReachedTable table → (x : ℕ × Op) → op_at body.ops x.0 ≡ Some x.1 → SendsAll files body table reached_sent x
  sends_reached table reached x is frame after before rule =
      let start : IsStart body.ops x.0 = op_is_start body.ops x.0 x.1 is in
      let here : IsReached body x.0 = reached x.0 frame before in
      let next = successors body.ops x.0 in
      let all : AllByRecursion (IsReached body) (next ++ handler_targets body.handlers x.0) =
      all_reached (next ++ handler_targets body.handlers x.0) (λ test first closed. closed x.0 start (here test first closed)) in
      all_sent body reached_sent x.0 frame after (all_prefix (IsReached body) next (handler_targets body.handlers x.0) all)
      (all_map (λ guard. IsReached body guard.target) (AtHandler reached_sent frame after) (λ guard there. (there, there)) (filter (covers x.0) body.handlers)
      (all_from (IsReached body) (λ (guard : Guard). guard.target) (filter (covers x.0) body.handlers) (all_suffix (IsReached body) next (handler_targets body.handlers x.0) all)))

  all_sent_reached : (table : Table) → IsReachedTable table → AllByRecursion reached_sent (sent_by_each files body table body.ops)
  all_sent_reached table reached =
      all_sent_by_each files body table reached_sent body.ops
      (all_map (λ x. op_at body.ops x.0 ≡ Some x.1) (SendsAll files body table reached_sent) (sends_reached table reached) body.ops (each_is_at body.ops of_set.rise))

  reached_merge : (pc : ℕ) (o : Option VFrame) → IsReached body pc → Holds (Unit {0}) (λ frame. IsReached body pc) (or_clash o)
  reached_merge pc None h = tt
  reached_merge pc (Some frame) h = h

  arrives_reached : (table : Table) → IsReachedTable table → (pc : ℕ) → Holds (Unit {0}) (λ frame. IsReached body pc) (arrival files body table pc)
  arrives_reached table reached pc =
      holds files (Unit {0}) (λ frame. IsReached body pc) (λ f g first second. reached_merge pc (merge_frames files f g) first) pc (arrival_of (table pc))
      (sent_by_each files body table body.ops)
      (table_holds (Unit {0}) (λ frame. IsReached body pc) (table pc) (reached pc))
      (all_map reached_sent (λ sent. sent.to ≡ pc → IsReached body pc) (λ sent is same. subst (IsReached body) same is) (sent_by_each files body table body.ops) (all_sent_reached table reached))

  pub reached_before : (round pc : ℕ) (frame : VFrame) → table_before files body round pc ≡ Some frame → IsReached body pc
  reached_before round pc frame e =
      each_before files body (λ at other. IsReached body at) (λ test first closed. first)
      (λ table reached at other is. frame_holds (Unit {0}) (λ (f : VFrame). IsReached body at) (arrival files body table at) other (arrives_reached table reached at) is)
      round pc frame e
