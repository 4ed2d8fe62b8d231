-- What arrives is the least frame above those that arrive, where there is one above them; so it is the same for all
-- that is sent and for a part, where each frame that is left out is below one that is known.
use Rattle.std.proofs.Common.{◌≡◌, ℕ, false, ◌⊎◌, inl, inr, List, [], ◌∷◌, Option, Some, None, nat_eq, refl, sym, ap, subst, ◌∙◌}
use Rattle.std.specs.List.{AllByRecursion, Contains}
use Rattle.std.proofs.lemmas.Bool.{cases_Bool, eqb-true, eqb-false}
use Rattle.std.proofs.lemmas.List.Elements.{All-contains, All-from_recursion}
use Rattle.std.proofs.lemmas.Option.{none-some, same_Some}
use Rattle.class_file.specs.declared.record.ClassFile.{ClassFile}
use Rattle.class_tree.specs.Tree.{Gathers}
use Rattle.body_form.specs.declared.types.VFrame.{VFrame}
use Rattle.jvm_model.specs.TypesFrames.{merge_frames, IsAbove, IsKnownFrame}
use Rattle.jvm_model.specs.TypesRight.{Sent}
use Rattle.jvm_model.specs.TypesRounds.{Arrival, Nothing, Clash, Merged, arrival_of, or_clash, arrives, arrive_at}
use Rattle.type_order.specs.OrderLaws.{IsProper}
use Rattle.type_rounds.proofs.Rounds.{ordered}
use Rattle.type_rounds.proofs.tables.Lists.{all_map, all_both}
use Rattle.type_rounds.proofs.tables.Arrivals.{arrive_none, arrive_here, arrive_elsewhere}

module _ (files : List ClassFile) (gathers : Gathers files None) where
  -- ---- joins

  -- nothing arrives, or no frame has P, or what arrives is the least frame that has P
  abbrev pub IsJoin : (VFrame → Type 0) → Type 0 → Arrival → Type 0
  IsJoin P empty Nothing = empty
  IsJoin P empty Clash = (upper : VFrame) → IsKnownFrame files upper → P upper → ⊥
  IsJoin P empty (Merged frame) = IsProper files frame × P frame × ((upper : VFrame) → IsKnownFrame files upper → P upper → IsAbove files upper frame) × (empty → ⊥)

  -- a frame above one that has P has it too
  abbrev Rises : (VFrame → Type 0) → Type 0
  Rises P = (lower upper : VFrame) → IsKnownFrame files lower → IsKnownFrame files upper → IsAbove files upper lower → P lower → P upper

  abbrev Free : (VFrame → Type 0) → Type 0 → Type 0
  Free P empty = empty → (frame : VFrame) → P frame

  module _ (P : VFrame → Type 0) (empty : Type 0) where
    same_join : (Q : VFrame → Type 0) (none : Type 0) → ((u : VFrame) → IsKnownFrame files u → P u → Q u) → ((u : VFrame) → IsKnownFrame files u → Q u → P u) → (empty → none) → (none → empty)
        → (a : Arrival) → IsJoin P empty a → IsJoin Q none a
    same_join Q none to from there back Nothing join = there join
    same_join Q none to from there back Clash join = λ upper known q. join upper known (from upper known q)
    same_join Q none to from there back (Merged frame) join = (join.0, to frame (join.0).known join.1, (λ upper known q. join.2 upper known (from upper known q)), λ is. join.3 (back is))

    -- ---- one frame more

    abbrev And : VFrame → VFrame → Type 0
    And frame upper = P upper × IsAbove files upper frame

    merged_more : Rises P → (other frame : VFrame) → IsProper files frame → IsJoin P empty (Merged other) → (o : Option VFrame) → merge_frames files other frame ≡ o
        → IsJoin (And frame) ⊥ (or_clash o)
    merged_more rises other frame proper join None e = λ upper known both.
        let (h, there, above) = ordered.least files gathers other frame upper (join.0).known proper.known known (join.2 upper known both.0) both.1 in
        none-some h (sym e ∙ there)
    merged_more rises other frame proper join (Some merged) e =
        let up = ordered.above files gathers other frame merged (join.0).known proper.known e in (
          ordered.merged files gathers other frame merged join.0 proper e,
          (rises other merged (join.0).known up.2 up.0 join.1, up.1),
          (λ upper known both.
              let (h, there, above) = ordered.least files gathers other frame upper (join.0).known proper.known known (join.2 upper known both.0) both.1 in
              subst (λ (f : VFrame). IsAbove files upper f) (same_Some h merged (sym there ∙ e)) above),
          λ no. no,
        )

    join_more : Rises P → Free P empty → (a : Arrival) (frame : VFrame) → IsProper files frame → IsJoin P empty a → IsJoin (And frame) ⊥ (arrives files a frame)
    join_more rises free Nothing frame proper join = (proper, (free join frame, ordered.itself files gathers frame proper), (λ upper known both. both.1), λ no. no)
    join_more rises free Clash frame proper join = λ upper known both. join upper known both.0
    join_more rises free (Merged other) frame proper join = merged_more rises other frame proper join (merge_frames files other frame) refl

    rises_more : Rises P → (frame : VFrame) → IsProper files frame → Rises (And frame)
    rises_more rises frame proper lower upper first second above both =
        (rises lower upper first second above both.0, ordered.goes_on files gathers upper lower frame second first proper.known above both.1)

    -- ---- one join

    lowest_frame : VFrame
    lowest_frame = record { locals = []; stack = []; pending = false }

    lowest_known : IsKnownFrame files lowest_frame
    unfolding lowest_frame
    lowest_known = record { locals = tt; stack = tt }

    one_join : Free P empty → (a b : Arrival) → IsJoin P empty a → IsJoin P empty b → a ≡ b
    one_join free Nothing Nothing first second = refl
    one_join free Nothing Clash first second = absurd (second lowest_frame lowest_known (free first lowest_frame))
    one_join free Nothing (Merged g) first second = absurd (second.3 first)
    one_join free Clash Nothing first second = absurd (first lowest_frame lowest_known (free second lowest_frame))
    one_join free Clash Clash first second = refl
    one_join free Clash (Merged g) first second = absurd (first g (second.0).known second.1)
    one_join free (Merged f) Nothing first second = absurd (first.3 second)
    one_join free (Merged f) Clash first second = absurd (second f (first.0).known first.1)
    one_join free (Merged f) (Merged g) first second =
        ap Merged (ordered.one_way files gathers f g (first.0).known (second.0).known (second.2 f (first.0).known first.1) (first.2 g (second.0).known second.1))

  -- ---- all that are sent

  abbrev AboveAt : ℕ → VFrame → Sent → Type 0
  AboveAt pc upper sent = sent.to ≡ pc → IsAbove files upper sent.frame

  abbrev Elsewhere : ℕ → Sent → Type 0
  Elsewhere pc sent = sent.to ≡ pc → ⊥

  abbrev AllProper : List Sent → Type 0
  AllProper sent = AllByRecursion (λ x. IsProper files x.frame) sent

  joins : (pc : ℕ) (P : VFrame → Type 0) (empty : Type 0) → Rises P → Free P empty → (a : Arrival) → IsJoin P empty a → (arriving : List Sent) → AllProper arriving
      → IsJoin (λ upper. P upper × AllByRecursion (AboveAt pc upper) arriving) (empty × AllByRecursion (Elsewhere pc) arriving) (arrive_at files pc a arriving)
  joins pc P empty rises free a join [] proper =
      let none : Type 0 = empty × AllByRecursion (Elsewhere pc) [] in
      let all : VFrame → Type 0 = λ upper. P upper × AllByRecursion (AboveAt pc upper) [] in
      subst (IsJoin all none) (sym (arrive_none files pc a)) (same_join P empty all none (λ u known p. (p, tt)) (λ u known q. q.0) (λ e. (e, tt)) (λ e. e.0) a join)
  joins pc P empty rises free a join (sent ∷ rest) proper =
      let none : Type 0 = empty × AllByRecursion (Elsewhere pc) (sent ∷ rest) in
      let all : VFrame → Type 0 = λ upper. P upper × AllByRecursion (AboveAt pc upper) (sent ∷ rest) in
      elim (cases_Bool (nat_eq sent.to pc)) [
        | inl same ↦
            let here : sent.to ≡ pc = eqb-true sent.to pc same in
            let next = arrives files a sent.frame in
            let more = joins pc (And P empty sent.frame) ⊥ (rises_more P empty rises sent.frame proper.0) (λ no. absurd no) next (join_more P empty rises free a sent.frame proper.0 join) rest proper.1 in
            subst (IsJoin all none) (sym (arrive_here files pc a sent rest same))
            (same_join (λ upper. And P empty sent.frame upper × AllByRecursion (AboveAt pc upper) rest) (⊥ × AllByRecursion (Elsewhere pc) rest) all none
            (λ u known both. (both.0.0, ((λ is. both.0.1), both.1))) (λ u known both. ((both.0, both.1.0 here), both.1.1)) (λ no. absurd no.0) (λ is. absurd (is.1.0 here))
            (arrive_at files pc next rest) more)
        | inr other ↦
            let away : sent.to ≡ pc → ⊥ = eqb-false sent.to pc other in
            let more = joins pc P empty rises free a join rest proper.1 in
            subst (IsJoin all none) (sym (arrive_elsewhere files pc a sent rest other))
            (same_join (λ upper. P upper × AllByRecursion (AboveAt pc upper) rest) (empty × AllByRecursion (Elsewhere pc) rest) all none
            (λ u known both. (both.0, ((λ is. absurd (away is)), both.1))) (λ u known both. (both.0, both.1.1)) (λ is. (is.0, (away, is.1))) (λ is. (is.0, is.1.1))
            (arrive_at files pc a rest) more)
      ]

  -- ---- from what is known

  abbrev AboveKnown : Option VFrame → VFrame → Type 0
  AboveKnown None upper = Unit {0}
  AboveKnown (Some frame) upper = IsAbove files upper frame

  abbrev NoneKnown : Option VFrame → Type 0
  NoneKnown None = Unit {0}
  NoneKnown (Some frame) = ⊥

  abbrev ProperKnown : Option VFrame → Type 0
  ProperKnown known = (frame : VFrame) → known ≡ Some frame → IsProper files frame

  known_join : (known : Option VFrame) → ProperKnown known → IsJoin (AboveKnown known) (NoneKnown known) (arrival_of known)
  known_join None proper = tt
  known_join (Some frame) proper = let is = proper frame refl in (is, ordered.itself files gathers frame is, (λ upper known above. above), λ no. no)

  known_rises : (known : Option VFrame) → ProperKnown known → Rises (AboveKnown known)
  known_rises None proper lower upper first second above low = tt
  known_rises (Some frame) proper lower upper first second above low = ordered.goes_on files gathers upper lower frame second first (proper frame refl).known above low

  known_free : (known : Option VFrame) → Free (AboveKnown known) (NoneKnown known)
  known_free None is frame = tt
  known_free (Some other) is frame = absurd is

  -- a frame that is sent is in a list, or is below what is known
  abbrev pub IsCovered : Option VFrame → List Sent → Sent → Type 0
  IsCovered known part sent = Contains part sent ⊎ ((upper : VFrame) × (known ≡ Some upper) × IsAbove files upper sent.frame)

  abbrev Sub : List Sent → List Sent → Type 1
  Sub all part = (Q : Sent → Type 0) → AllByRecursion Q all → AllByRecursion Q part

  module _ (pc : ℕ) (known : Option VFrame) (proper : ProperKnown known) (all part : List Sent) where
    in_part : (Q : Sent → Type 0) (sent : Sent) → AllByRecursion Q part → Contains part sent → Q sent
    in_part Q sent is there = All-contains Q part sent (All-from_recursion Q part is) there

    above_known : (upper f : VFrame) → known ≡ Some f → AboveKnown known upper → IsAbove files upper f
    above_known upper f is above = let P : Option VFrame → Type 0 = λ o. AboveKnown o upper in subst P is above

    covered_above : (upper : VFrame) → IsKnownFrame files upper → AboveKnown known upper → AllByRecursion (AboveAt pc upper) part → (sent : Sent) → IsProper files sent.frame
        → (sent.to ≡ pc → IsCovered known part sent) → AboveAt pc upper sent
    covered_above upper is above over sent fine covered = λ here.
        elim (covered here) [
          | inl there ↦ in_part (AboveAt pc upper) sent over there here
          | inr (f, has, below) ↦ ordered.goes_on files gathers upper f sent.frame is (proper f has).known fine.known (above_known upper f has above) below
        ]

    some_known : (f : VFrame) → known ≡ Some f → NoneKnown known → ⊥
    some_known f has none = subst NoneKnown has none

    covered_elsewhere : NoneKnown known → AllByRecursion (Elsewhere pc) part → (sent : Sent) → (sent.to ≡ pc → IsCovered known part sent) → Elsewhere pc sent
    covered_elsewhere none away sent covered = λ here.
        elim (covered here) [
          | inl there ↦ in_part (Elsewhere pc) sent away there here
          | inr (f, has, below) ↦ some_known f has none
        ]

    -- what arrives is the same for all and for the part
    pub same_arrival : Sub all part → AllProper all → AllByRecursion (λ sent. sent.to ≡ pc → IsCovered known part sent) all
        → arrive_at files pc (arrival_of known) all ≡ arrive_at files pc (arrival_of known) part
    same_arrival sub fine covered =
        let P = AboveKnown known in
        let E = NoneKnown known in
        let whole : VFrame → Type 0 = λ upper. P upper × AllByRecursion (AboveAt pc upper) all in
        let parts : VFrame → Type 0 = λ upper. P upper × AllByRecursion (AboveAt pc upper) part in
        let none : Type 0 = E × AllByRecursion (Elsewhere pc) all in
        let none_part : Type 0 = E × AllByRecursion (Elsewhere pc) part in
        let first : IsJoin whole none (arrive_at files pc (arrival_of known) all) = joins pc P E (known_rises known proper) (known_free known) (arrival_of known) (known_join known proper) all fine in
        let second : IsJoin parts none_part (arrive_at files pc (arrival_of known) part) =
        joins pc P E (known_rises known proper) (known_free known) (arrival_of known) (known_join known proper) part (sub (λ x. IsProper files x.frame) fine)
        in
        let to : (u : VFrame) → IsKnownFrame files u → parts u → whole u = λ u is both. (
          both.0,
          all_both (λ (x : Sent). IsProper files x.frame) (λ x. x.to ≡ pc → IsCovered known part x) (AboveAt pc u) (λ x good cover. covered_above u is both.0 both.1 x good cover) all fine covered,
        )
        in
        let from : (u : VFrame) → IsKnownFrame files u → whole u → parts u = λ u is both. (both.0, sub (AboveAt pc u) both.1) in
        let there : none_part → none = λ both. (both.0, all_map (λ x. x.to ≡ pc → IsCovered known part x) (Elsewhere pc) (λ x cover. covered_elsewhere both.0 both.1 x cover) all covered) in
        let back : none → none_part = λ both. (both.0, sub (Elsewhere pc) both.1) in
        one_join whole none (λ is frame. (known_free known is.0 frame, all_map (Elsewhere pc) (AboveAt pc frame) (λ x away here. absurd (away here)) all is.1))
        (arrive_at files pc (arrival_of known) all) (arrive_at files pc (arrival_of known) part) first
        (same_join parts none_part whole none to from there back (arrive_at files pc (arrival_of known) part) second)
