-- What is reached of the instructions of a method is reached in its body.
use Rattle.std.proofs.Common.{◌≡◌, ◌⊎◌, inl, inr, ℕ, zero, suc, ◌<◌, Bool, true, false, ◌&&◌, List, [], ◌∷◌, ◌++◌, length, map, get_or, refl, sym, ap, subst, ◌∙◌, arith}
use Rattle.std.specs.Prelude.{if◌then◌else◌}
use Rattle.std.specs.List.{AllByRecursion}
use Rattle.std.proofs.lemmas.Bool.{and_parts}
use Rattle.std.proofs.lemmas.List.{get_or_default, length-map}
use Rattle.class_pool.specs.Pool.{Slots}
use Rattle.class_file.specs.declared.record.ClassFile.{ClassFile}
use Rattle.class_file.specs.declared.record.HandlerRow.{HandlerRow}
use Rattle.class_code.specs.Code.{Insns}
use Rattle.class_code.specs.Flow.{insn_way, row_of as row_of_handler, code_ways as insn_ways}
use Rattle.code_reach.specs.declared.row.Row.{Row}
use Rattle.code_reach.specs.Reached as reach
use Rattle.code_reach.specs.Reached.{Way, Ways, successors, IsClosed, AreFlags, code_ways, handlers_at, RisesFrom}
use Rattle.body_form.specs.declared.body.Body.{Body}
use Rattle.body_form.specs.declared.body.Guard.{Guard}
use Rattle.body_form.specs.declared.op.Op.{Op}
use Rattle.body_form.specs.Flow.{Ops, IsStart, pc_at}
use Rattle.body_form.specs.Reach.{IsReached, way_of, row_of, ways_of}
use Rattle.body_form.proofs.Reaching.{tells}
use Rattle.jvm_model.specs.Bodies.{AreEach, IsFamily, IsResolved, IsNop, IsGuard}
use Rattle.jvm_model.proofs.phases.Decisions.{Decided}
use Rattle.jvm_model.proofs.bodies.ReachedSets.{decide_reached}
use Rattle.type_safety.proofs.fitting.SetLists.{all_contained, all_from}
use Rattle.type_safety.proofs.facts.Control.{op_way}

-- ---- ways of which those that are reached are the same

says : {P : Type 0} → Decided P → Bool
says (inl p) = true
says (inr not) = false

says_so : {P : Type 0} (d : Decided P) → says d ≡ true → P
unfolding says
says_so (inl p) e = p
says_so (inr not) e = absurd (let bad : false ≡ true = e in cc)

so_says : {P : Type 0} (d : Decided P) → P → says d ≡ true
unfolding says
so_says (inl p) h = refl
so_says (inr not) h = absurd (not h)

joined : (a b : ℕ → Bool) (pcs : List ℕ) → AllByRecursion (λ to. a to ≡ true) pcs → AllByRecursion (λ to. b to ≡ true) pcs → AllByRecursion (λ to. (a to && b to) ≡ true) pcs
joined a b [] p q = tt
joined a b (to ∷ pcs) p q = (ap (λ c. c && b to) p.0 ∙ q.0, joined a b pcs p.1 q.1)

module _ (all : Ways) where
  -- one way is at the pc of another, and the same where that is reached
  abbrev pub IsSame : ℕ × Way → ℕ × Way → Type 0
  IsSame x y = (y.0 ≡ x.0) × ((y.1 ≡ x.1) ⊎ (reach.IsReached all x.0 → ⊥))

  told : ℕ → Bool
  told pc = says (decide_reached all pc)

  told_is : (pc : ℕ) → told pc ≡ true → reach.IsReached all pc
  unfolding told
  told_is pc e = says_so (decide_reached all pc) e

  is_told : (pc : ℕ) → reach.IsReached all pc → told pc ≡ true
  unfolding told
  is_told pc h = so_says (decide_reached all pc) h

  same_leads : (way : Way) (ws vs : Ways) → AreEach IsSame ws vs → successors way vs ≡ successors way ws
  same_leads way [] [] each = refl
  same_leads way [] (y ∷ vs) each = absurd each
  same_leads way (x ∷ ws) [] each = absurd each
  same_leads way (x ∷ ws) (y ∷ vs) each = ap (λ (n : ℕ). if way.goes_on then n ∷ way.targets else way.targets) each.0.0

  closed_both : (holds : ℕ → Bool) (ws vs : Ways) → AreEach IsSame ws vs → ((test : ℕ → Bool) → IsClosed test all → IsClosed test ws) → IsClosed holds vs → IsClosed (λ pc. holds pc && told pc) ws
  closed_both holds [] [] each closes closed = tt
  closed_both holds [] (y ∷ vs) each closes closed = absurd each
  closed_both holds (x ∷ ws) [] each closes closed = absurd each
  closed_both holds ((pc, way) ∷ ws) ((at, other) ∷ vs) each closes closed = (
    (λ e.
        let both = and_parts (holds pc) (told pc) e in
        let reached = told_is pc both.1 in
        elim (each.0.1) [
          | inl same ↦
              let leads : successors other vs ≡ successors way ws = ap (λ (w : Way). successors w vs) same ∙ same_leads way ws vs each.1 in
              let held : AllByRecursion (λ to. holds to ≡ true) (successors way ws) = subst (λ (l : List ℕ). AllByRecursion (λ to. holds to ≡ true) l) leads (closed.0 (ap holds each.0.0 ∙ both.0)) in
              let reaches : AllByRecursion (λ to. told to ≡ true) (successors way ws) =
              all_from (λ to. told to ≡ true) (successors way ws) (λ to there. is_told to (λ test start whole.
              all_contained (λ n. test n ≡ true) (successors way ws) ((closes test whole).0 (reached test start whole)) to there)) in
              joined holds told (successors way ws) held reaches
          | inr never ↦ absurd (never reached)
        ]),
    closed_both holds ws vs each.1 (λ test whole. (closes test whole).1) closed.1,
  )

  reached_same : (others : Ways) → AreEach IsSame all others → (pc : ℕ) → reach.IsReached all pc → reach.IsReached others pc
  reached_same others each pc reached holds start closed =
      let here : told 0 ≡ true = is_told 0 (λ test first whole. first) in
      let both : (holds pc && told pc) ≡ true = reached (λ n. holds n && told n) (ap (λ b. b && told 0) start ∙ here) (closed_both holds all others each (λ test whole. whole) closed) in
      (and_parts (holds pc) (told pc) both).0

-- ---- the ways of a body

module _ (files : List ClassFile) (class : ℕ) (pool : Slots) where
  same_row : (row : HandlerRow) (guard : Guard) → IsGuard files class pool row guard → row_of guard ≡ row_of_handler row
  same_row row guard is =
      ap (λ (n : ℕ). record { start = n; end = guard.end; target = guard.target }) is.start
      ∙ ap (λ (n : ℕ). record { start = row.start; end = n; target = guard.target }) is.end
      ∙ ap (λ (n : ℕ). record { start = row.start; end = row.end; target = n }) is.target

  same_rows : (rows : List HandlerRow) (guards : List Guard) → AreEach (IsGuard files class pool) rows guards → map row_of guards ≡ map row_of_handler rows
  same_rows [] [] each = refl
  same_rows [] (g ∷ guards) each = absurd each
  same_rows (row ∷ rows) [] each = absurd each
  same_rows (row ∷ rows) (g ∷ guards) each = ap (λ (r : Row). r ∷ map row_of guards) (same_row row g each.0) ∙ ap (λ (l : List Row). row_of_handler row ∷ l) (same_rows rows guards each.1)

  with_rows : List Row → ℕ → Way → Way
  with_rows rows pc way = record { goes_on = way.goes_on; targets = way.targets ++ handlers_at rows pc }

  same_ways : (all : Ways) (rows : List Row) (insns : Insns) (ops : Ops) → AreEach (IsFamily files class pool all) insns ops → AreEach (IsSame all) (code_ways insn_way rows insns) (code_ways way_of rows ops)
  unfolding with_rows
  same_ways all rows [] [] each = tt
  same_ways all rows [] (y ∷ ops) each = absurd each
  same_ways all rows (x ∷ insns) [] each = absurd each
  same_ways all rows (x ∷ insns) (y ∷ ops) each = (one each.0, same_ways all rows insns ops each.1)
    where
      one : IsFamily files class pool all x y → (y.0 ≡ x.0) × ((with_rows rows y.0 (way_of y.1) ≡ with_rows rows x.0 (insn_way x.1)) ⊎ (reach.IsReached all x.0 → ⊥))
      one (IsResolved at reached is) = (at, inl (ap (λ (n : ℕ). with_rows rows n (way_of y.1)) at ∙ ap (with_rows rows x.0) (op_way files class pool x.1 y.1 is)))
      one (IsNop at unreached is) = (at, inr unreached)

-- ---- flags of what is reached

flags_of : (all ways : Ways) → (flags : List Bool) × AreFlags all ways flags
flags_of all [] = ([], tt)
flags_of all (x ∷ ways) =
    let rest = flags_of all ways in
    (says (decide_reached all x.0) ∷ rest.0, ((says_so (decide_reached all x.0), so_says (decide_reached all x.0)), rest.1))

flag_true : (all ways : Ways) (flags : List Bool) → AreFlags all ways flags → (i : ℕ) (d : ℕ) → i < length ways → reach.IsReached all (get_or (map (λ x. x.0) ways) i d) → get_or flags i false ≡ true
flag_true all [] flags are i d lt reached = absurd (omega (arith, lt))
flag_true all (x ∷ ways) [] are i d lt reached = absurd are
flag_true all (x ∷ ways) (flag ∷ flags) are zero d lt reached = are.0.1 reached
flag_true all (x ∷ ways) (flag ∷ flags) are (suc i) d lt reached = flag_true all ways flags are.1 i d (omega (arith, lt)) reached

pcs_of_ways : (rows : List Row) (ops : Ops) → map (λ x. x.0) (code_ways way_of rows ops) ≡ map (λ (x : ℕ × Op). x.0) ops
pcs_of_ways rows [] = refl
pcs_of_ways rows (x ∷ ops) = ap (λ (l : List ℕ). x.0 ∷ l) (pcs_of_ways rows ops)

-- what is reached by the ways of a body is reached in it
ways_reach : (body : Body) → RisesFrom 0 body.ops → (pc : ℕ) → IsStart body.ops pc → reach.IsReached (ways_of body) pc → IsReached body pc
ways_reach body rise pc (k, inside, is) reached =
    let flags = flags_of (ways_of body) (ways_of body) in
    let tell = tells body rise flags.0 flags.1 in
    let within : k < length body.ops = subst (λ n. k < n) (length-map body.ops (λ (x : ℕ × Op). x.0)) inside in
    let pcs = pcs_of_ways (map row_of body.handlers) body.ops in
    let many : k < length (ways_of body) = subst (λ n. k < n) (length-map (ways_of body) (λ (x : ℕ × Way). x.0)) (subst (λ (l : List ℕ). k < length l) (sym pcs) inside) in
    let here : get_or (map (λ (x : ℕ × Way). x.0) (ways_of body)) k 0 ≡ pc = ap (λ (l : List ℕ). get_or l k 0) pcs ∙ get_or_default (map (λ (x : ℕ × Op). x.0) body.ops) k 0 pc inside ∙ is in
    let flag = flag_true (ways_of body) (ways_of body) flags.0 flags.1 k 0 many (subst (reach.IsReached (ways_of body)) (sym here) reached) in
    let at : pc_at body.ops k ≡ pc = get_or_default (map (λ (x : ℕ × Op). x.0) body.ops) k 0 pc inside ∙ is in
    subst (IsReached body) at ((tell.says k within).0 flag)

pub body_reached : (files : List ClassFile) (class : ℕ) (pool : Slots) (rows : List HandlerRow) (insns : Insns) (body : Body) → RisesFrom 0 body.ops → AreEach (IsFamily files class pool (insn_ways rows insns)) insns body.ops → AreEach (IsGuard files class pool) rows body.handlers
    → (pc : ℕ) → IsStart body.ops pc → reach.IsReached (insn_ways rows insns) pc → IsReached body pc
body_reached files class pool rows insns body rise ops guards pc start reached =
    let same = same_rows files class pool rows body.handlers guards in
    let on : reach.IsReached (code_ways way_of (map row_of_handler rows) body.ops) pc =
    reached_same (insn_ways rows insns) (code_ways way_of (map row_of_handler rows) body.ops) (same_ways files class pool (insn_ways rows insns) (map row_of_handler rows) insns body.ops ops) pc reached in
    ways_reach body rise pc start (subst (λ (r : List Row). reach.IsReached (code_ways way_of r body.ops) pc) (sym same) on)
