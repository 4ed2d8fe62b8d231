-- What is kept while depths are followed.
use Rattle.std.proofs.Common.{◌≡◌, ℕ, ◌<◌, ◌≤◌, List, [], ◌∷◌, ◌++◌, length, drop, get_or, set, replicate, Option, Some, None, refl, sym, subst, ◌∙◌, arith, inl, inr, ◌⊎◌}
use Rattle.std.specs.List.{Contains, AllByRecursion}
use Rattle.std.proofs.lemmas.Bool.{cases_lt}
use Rattle.std.proofs.lemmas.List.{length-set, length-replicate, get_or-replicate, get_or_past}
use Rattle.std.proofs.lemmas.List.Elements.{Contains-append_cases, Contains-push_cases, Contains-append_right, Contains-append_left}
use Rattle.std.proofs.lemmas.Option.{none-some, some_pair_parts}
use Rattle.image_instr.specs.declared.insn.MInsn.{MInsn}
use Rattle.image_instr.specs.Reading.{insn_at}
use Rattle.image_form.specs.declared.record.Image.{Image}
use Rattle.image_form.specs.declared.record.Method.{Method}
use Rattle.image_check.specs.declared.depth.Depth.{Depth as Stored}
use Rattle.image_check.specs.Visits.{Depth, empty, IsSent, IsRight, moved_by, suffix, successors}
use Rattle.image_check.specs.Table.{Table, Has, stored}
use Rattle.image_check.specs.Flow.{JumpsWell, StartsAt, IsVisited, IsDone, IsFlow, IsSpreadAll}
use Rattle.image_check.proofs.Depths.{one_depth_at}
use Rattle.image_check.proofs.Reaching.{is_one, sent_on, starts_on}
use Rattle.image_check.proofs.Spreading.{new-has, new-only}

pub more-all : {X : Type 0} (P Q : X → Type 0) → ((x : X) → P x → Q x) → (xs : List X) → AllByRecursion P xs → AllByRecursion Q xs
more-all P Q h [] all = tt
more-all P Q h (x ∷ xs) all = (h x all.0, more-all P Q h xs all.1)

-- ---- a visit

module _ (image : Image) (method : Method) (table : Table) (work : List ℕ) (pc : ℕ) (flow : IsFlow image method table (pc ∷ work)) (d : Depth) (has : Has table pc d)
    (insn : MInsn) (size : ℕ) (found : insn_at (drop pc method.code) ≡ Some (insn, size)) (after : Depth) (visited : IsVisited image method pc d insn size after) where
  abbrev next : Depth
  next = suffix (moved_by image insn) d

  right : IsRight image method pc d
  right = record { insn = insn; size = size; found = found; operands = visited.operands; result = visited.result; fits = visited.fits; fits_after = visited.fits_after; inside = visited.inside }

  module _ (later : Table) (pending : List ℕ) (all : IsSpreadAll (successors method.code pc insn size) after table work later pending) where
    visit-done : IsDone image method later pc d
    visit-done = record {
      right = right;
      sends = λ insn' size' found'.
          let parts = some_pair_parts insn insn' size size' (sym found ∙ found') in
          let sent = subst (λ (e : Depth). AllByRecursion (λ to. Has later to e) (successors method.code pc insn size)) visited.after_is all.each in
          subst (λ (i : MInsn). AllByRecursion (λ to. Has later to (suffix (moved_by image i) d)) (successors method.code pc i size')) parts.0
          (subst (λ n. AllByRecursion (λ to. Has later to next) (successors method.code pc insn n)) parts.1 sent);
    }

    still-done : (at : ℕ) (e : Depth) → IsDone image method table at e → IsDone image method later at e
    still-done at e done = record {
      right = done.right;
      sends = λ i n f. more-all (λ to. Has table to (suffix (moved_by image i) e)) (λ to. Has later to (suffix (moved_by image i) e)) (λ to. all.spread.keeps to (suffix (moved_by image i) e)) (successors method.code at i n) (done.sends i n f);
    }

    new-sent : (at : ℕ) (e : Depth) → Contains (successors method.code pc insn size) at → e ≡ after → IsSent image method.code at e
    new-sent at e place same =
        let one : next ≡ e = sym (same ∙ visited.after_is) in
        subst (IsSent image method.code at) one (sent_on image method.code pc d insn size at (flow.sent pc d has) found visited.operands place)

    old-done : (at : ℕ) (e : Depth) → Has table at e → Contains (pc ∷ work) at ⊎ IsDone image method table at e → Contains pending at ⊎ IsDone image method later at e
    old-done at e there (inr done) = inr (still-done at e done)
    old-done at e there (inl wait) =
        elim (Contains-append_cases (pc ∷ []) work at wait) [
          | inl here ↦
              let same = is_one pc at here in
              let one : d ≡ e = one_depth_at table pc d e has (subst (λ i. Has table i e) (sym same) there) in
              inr (subst (λ i. IsDone image method later i e) same (subst (IsDone image method later pc) one visit-done))
          | inr wait ↦ inl (all.spread.pending at wait)
        ]

    pub visit-flow : JumpsWell method.code → IsFlow image method later pending
    visit-flow well = record {
      size = all.spread.size ∙ flow.size;
      first = all.spread.keeps 0 empty flow.first;
      sent = λ at e there. elim (all.spread.only at e there) [ inl old ↦ flow.sent at e old | inr new ↦ new-sent at e new.0 new.2 ];
      starts = λ at e there. elim (all.spread.only at e there) [
        | inl old ↦ flow.starts at e old
        | inr new ↦ starts_on method.code pc insn size at well (flow.starts pc d has) found visited.inside new.0
      ];
      done = λ at e there. elim (all.spread.only at e there) [ inl old ↦ old-done at e old (flow.done at e old) | inr new ↦ inl new.1 ];
      reached = λ at wait. elim (all.spread.entered at wait) [
        | inl old ↦ let there = flow.reached at (Contains-append_right (pc ∷ []) work at old) in (there.0, all.spread.keeps at there.0 there.1)
        | inr new ↦ (after, new)
      ];
    }

-- ---- the work list

-- what is popped is at the end of the work list
pub popped-flow : (image : Image) (method : Method) (table : Table) (all work : List ℕ) (pc : ℕ) → all ≡ work ++ pc ∷ [] → IsFlow image method table all → IsFlow image method table (pc ∷ work)
popped-flow image method table all work pc e flow =
    let prefix : (at : ℕ) → Contains all at → Contains (pc ∷ work) at = λ at has. elim (Contains-push_cases work pc at (subst (λ (l : List ℕ). Contains l at) e has)) [
      | inl old ↦ Contains-append_right (pc ∷ []) work at old
      | inr same ↦ subst (Contains (pc ∷ work)) same (0, omega arith, refl)
    ] in
    let back : (at : ℕ) → Contains (pc ∷ work) at → Contains all at = λ at has. subst (λ (l : List ℕ). Contains l at) (sym e) (elim (Contains-append_cases (pc ∷ []) work at has) [
      | inl here ↦ Contains-append_right work (pc ∷ []) at here
      | inr old ↦ Contains-append_left work (pc ∷ []) at old
    ]) in
    record {
      size = flow.size;
      first = flow.first;
      sent = flow.sent;
      starts = flow.starts;
      done = λ at d has. elim (flow.done at d has) [ inl wait ↦ inl (prefix at wait) | inr done ↦ inr done ];
      reached = λ at wait. flow.reached at (back at wait);
    }

-- ---- the beginning

abbrev unreached : Option Stored
unreached = None

none_there : (n pc : ℕ) → get_or (replicate n unreached) pc None ≡ None
none_there n pc = elim (cases_lt pc n) [
  | inl lt ↦ get_or-replicate n pc None None lt
  | inr le ↦ get_or_past (replicate n None) pc None (omega (arith, length-replicate n unreached))
]

pub first-flow : (image : Image) (method : Method) → JumpsWell method.code → StartsAt method.code 0 → 1 ≤ length method.code → IsFlow image method (set (replicate (length method.code) None) 0 (Some (stored empty))) (0 ∷ [])
first-flow image method well start some =
    let n = length method.code in
    let table : Table = replicate n None in
    let within : 0 < length table = omega (arith, length-replicate n unreached) in
    let only : (pc : ℕ) (e : Depth) → Has (set table 0 (Some (stored empty))) pc e → (pc ≡ 0) × (e ≡ empty) = λ pc e has. elim (new-only table [] 0 empty within (none_there n 0) pc e has) [
      | inl old ↦ absurd (none-some (stored e) (sym (none_there n pc) ∙ old))
      | inr new ↦ new
    ] in
    record {
      size = length-set table 0 (Some (stored empty)) ∙ length-replicate n None;
      first = new-has table [] 0 empty within (none_there n 0);
      sent = λ pc e has. let same = only pc e has in subst (λ i. IsSent image method.code i e) (sym same.0) (subst (IsSent image method.code 0) (sym same.1) (λ holds first closed. first));
      starts = λ pc e has. subst (StartsAt method.code) (sym (only pc e has).0) start;
      done = λ pc e has. inl (subst (Contains (0 ∷ [])) (sym (only pc e has).0) (0, omega arith, refl));
      reached = λ pc wait. (empty, subst (λ i. Has (set table 0 (Some (stored empty))) i empty) (is_one 0 pc wait) (new-has table [] 0 empty within (none_there n 0)));
    }
