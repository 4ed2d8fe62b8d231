-- What is reached by the ways of a body's instructions is what is reached by its successors and handlers.
use Rattle.std.proofs.Common.{◌≡◌, ℕ, zero, suc, ◌<◌, ◌↔◌, Bool, true, false, List, [], ◌∷◌, ◌++◌, length, map, get_or, drop, if◌then◌else◌, cond, Result, Ok, Err, IfOk, Vec, Global, refl, sym, ap, subst, ◌∙◌, arith}
use Rattle.std.specs.List.{AllByRecursion}
use Rattle.std.proofs.lemmas.List.{get_or_default, length-map}
use Rattle.code_reach.specs.Reached as reach
use Rattle.code_reach.specs.Reached.{Way, Ways, RisesFrom, AreFlags, code_ways, handlers_at}
use Rattle.code_reach.specs.declared.row.Row.{Row}
use Rattle.body_form.specs.declared.op.Op.{Op}
use Rattle.body_form.specs.declared.body.Guard.{Guard}
use Rattle.body_form.specs.declared.body.Body.{Body}
use Rattle.body_form.specs.Flow.{Ops, pc_at, goes_on, targets, covers, leads_to, lead_from, successors}
use Rattle.body_form.specs.Reach.{handler_targets, IsClosed, IsReached, TellReached, way_of, row_of, ways_of}
use Rattle.body_form.proofs.Starts.{start_found, successors_at}

-- ---- one way

kept : (b : Bool) (guard : Guard) (rows : List Row) (guards : List Guard) → map (λ row. row.target) rows ≡ map (λ g. g.target) guards
    → map (λ row. row.target) (cond b (row_of guard ∷ rows) rows) ≡ map (λ g. g.target) (cond b (guard ∷ guards) guards)
kept true guard rows guards same = ap (λ (l : List ℕ). guard.target ∷ l) same
kept false guard rows guards same = same

handlers_same : (guards : List Guard) (at : ℕ) → handlers_at (map row_of guards) at ≡ handler_targets guards at
handlers_same [] at = refl
handlers_same (guard ∷ guards) at = kept (covers at guard) guard _ _ (handlers_same guards at)

with_next : (b : Bool) (next : ℕ) (named handlers others : List ℕ) → handlers ≡ others
    → (if b then next ∷ (named ++ handlers) else named ++ handlers) ≡ (if b then next ∷ named else named) ++ others
with_next true next named handlers others same = ap (λ (l : List ℕ). next ∷ (named ++ l)) same
with_next false next named handlers others same = ap (λ (l : List ℕ). named ++ l) same

abbrev Lead : (ℕ → Bool) → List ℕ → Type 0
Lead holds pcs = AllByRecursion (λ to. holds to ≡ true) pcs

module _ (guards : List Guard) where
  abbrev ways : Ops → Ways
  ways ops = code_ways way_of (map row_of guards) ops

  abbrev way : ℕ → Op → Way
  way pc op = record { goes_on = goes_on op; targets = targets op ++ handlers_at (map row_of guards) pc }

  leads_same : (pc : ℕ) (op : Op) (suffix : Ops) → reach.successors (way pc op) (ways suffix) ≡ leads_to op suffix ++ handler_targets guards pc
  leads_same pc op [] = ap (λ (l : List ℕ). targets op ++ l) (handlers_same guards pc)
  leads_same pc op (next ∷ suffix) = with_next (goes_on op) next.0 (targets op) _ _ (handlers_same guards pc)

  -- ---- closed sets

  module _ (holds : ℕ → Bool) where
    -- the set is closed at each position
    abbrev ClosedAt : Ops → Type 0
    ClosedAt ops = (i : ℕ) → i < length ops → holds (pc_at ops i) ≡ true → Lead holds (lead_from (drop i ops) ++ handler_targets guards (pc_at ops i))

    by_positions : (ops : Ops) → reach.IsClosed holds (ways ops) → ClosedAt ops
    by_positions [] closed i within h = absurd (omega (arith, within))
    by_positions ((pc, op) ∷ ops) closed zero within h = subst (Lead holds) (leads_same pc op ops) (closed.0 h)
    by_positions ((pc, op) ∷ ops) closed (suc i) within h = by_positions ops closed.1 i (omega (arith, within)) h

    by_ways : (ops : Ops) → ClosedAt ops → reach.IsClosed holds (ways ops)
    by_ways [] closed = tt
    by_ways ((pc, op) ∷ ops) closed =
        ((λ h. subst (Lead holds) (sym (leads_same pc op ops)) (closed 0 (omega arith) h)), by_ways ops (λ i within h. closed (suc i) (omega (arith, within)) h))

-- ---- a body

module _ (body : Body) (rise : RisesFrom 0 body.ops) where
  abbrev pcs : List ℕ
  pcs = map (λ (x : ℕ × Op). x.0) body.ops

  closed_ways : (holds : ℕ → Bool) → IsClosed holds body → reach.IsClosed holds (ways_of body)
  closed_ways holds closed = by_ways body.handlers holds body.ops (λ i within h.
      subst (λ (l : List ℕ). Lead holds (l ++ handler_targets body.handlers (pc_at body.ops i))) (sym (successors_at 0 body.ops rise i within))
      (closed (pc_at body.ops i) (start_found body.ops i (pc_at body.ops i) within refl) h))

  closed_body : (holds : ℕ → Bool) → reach.IsClosed holds (ways_of body) → IsClosed holds body
  closed_body holds closed at (k, inside, is) h =
      let within : k < length body.ops = subst (λ n. k < n) (length-map body.ops (λ (x : ℕ × Op). x.0)) inside in
      let same : pc_at body.ops k ≡ at = get_or_default pcs k 0 at inside ∙ is in
      let there = by_positions body.handlers holds body.ops closed k within (ap holds same ∙ h) in
      subst (λ (pc : ℕ). Lead holds (successors body.ops pc ++ handler_targets body.handlers pc)) same
      (subst (λ (l : List ℕ). Lead holds (l ++ handler_targets body.handlers (pc_at body.ops k))) (successors_at 0 body.ops rise k within) there)

  reached_body : (pc : ℕ) → reach.IsReached (ways_of body) pc → IsReached body pc
  reached_body pc reached holds first closed = reached holds first (closed_ways holds closed)

  reached_ways : (pc : ℕ) → IsReached body pc → reach.IsReached (ways_of body) pc
  reached_ways pc reached holds first closed = reached holds first (closed_body holds closed)

  -- ---- flags

  count : (ops : Ops) (flags : List Bool) → AreFlags (ways_of body) (ways body.handlers ops) flags → length flags ≡ length ops
  count [] [] h = refl
  count [] (flag ∷ flags) h = absurd h
  count (x ∷ ops) [] h = absurd h
  count (x ∷ ops) (flag ∷ flags) h = ap suc (count ops flags h.1)

  says : (ops : Ops) (flags : List Bool) → AreFlags (ways_of body) (ways body.handlers ops) flags → (i : ℕ) → i < length ops
      → (get_or flags i false ≡ true) ↔ reach.IsReached (ways_of body) (pc_at ops i)
  says [] flags h i within = absurd (omega (arith, within))
  says (x ∷ ops) [] h i within = absurd h
  says (x ∷ ops) (flag ∷ flags) h zero within = h.0
  says (x ∷ ops) (flag ∷ flags) h (suc i) within = says ops flags h.1 i (omega (arith, within))

  pub tells : (flags : List Bool) → reach.TellReached (ways_of body) flags → TellReached body flags
  tells flags h =
      record {
        count = count body.ops flags h;
        says = λ i within.
            let each = says body.ops flags h i within in
            (λ flag. reached_body _ (each.0 flag), λ reached. each.1 (reached_ways _ reached));
      }

  tells_each : {E : Type 0} (r : Result (Vec Bool Global) E) → IfOk r (λ v. reach.TellReached (ways_of body) v.items) → IfOk r (λ v. TellReached body v.items)
  tells_each (Ok v) h = tells v.items h
  tells_each (Err e) h = tt

  pub tells_all : {E : Type 0} (ops : Ops) (rows : List Row) (r : Result (Vec Bool Global) E) → ops ≡ body.ops → rows ≡ map row_of body.handlers
      → IfOk r (λ v. reach.TellReached (code_ways way_of rows ops) v.items) → IfOk r (λ v. TellReached body v.items)
  tells_all ops rows r same_ops same_rows h =
      let P : Ops → Type 0 = λ o. IfOk r (λ v. reach.TellReached (code_ways way_of rows o) v.items) in
      let Q : List Row → Type 0 = λ l. IfOk r (λ v. reach.TellReached (code_ways way_of l body.ops) v.items) in
      tells_each r (subst Q same_rows (subst P same_ops h))
