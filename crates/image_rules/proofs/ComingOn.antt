-- From each pc whose types are known control comes to a machine instruction: an instruction that has none goes on to the
-- next one, which stands at the same offset and whose types are known too.
use Rattle.std.proofs.Common.{◌≡◌, inl, inr, ℕ, suc, ◌<◌, ◌≤◌, Bool, true, false, ◌&&◌, nat_eq, if◌then◌else◌, List, [], ◌∷◌, Some, refl, sym, subst, ◌∙◌, arith, eqb-true}
use Rattle.std.specs.List.{Contains}
use Rattle.std.proofs.lemmas.Bool.{cases_Bool, false≢true}
use Rattle.std.proofs.lemmas.Bool.Decides.{nat_tests}
use Rattle.code_reach.specs.Reached.{RisesFrom}
use Rattle.body_form.specs.declared.body.Body.{Body}
use Rattle.body_form.specs.declared.op.Op.{Op}
use Rattle.body_form.specs.Flow as flow
use Rattle.body_form.specs.Flow.{IsStart, Ops, leads_to, successors}
use Rattle.jvm_model.specs.ImageEmission.{offset_of}
use Rattle.jvm_model.specs.ImageExpansion.{Emitted}
use Rattle.jvm_model.specs.TypesRight.{IsMet, Sent}
use Rattle.jvm_model.specs.TypesRules.{is_last, op_at}
use Rattle.match_states.specs.Setting.{Setting, source_for, table_for}
use Rattle.match_code.specs.Standing.{emitted_at}
use Rattle.match_code.proofs.CodeLayout.{offset_stays, op_from, same_after}
use Rattle.run_measures.proofs.TypedRank.{after_later}
use Rattle.type_rounds.proofs.tables.SentFrames.{sent_successors}
use Rattle.type_rounds.proofs.tables.Starts.{op_here, op_later, op_none, start_has_op}
use Rattle.type_safety.proofs.fitting.SetBodies.{change_by}
use Rattle.type_safety.proofs.fitting.SetLists.{all_contained, in_tail, none_some, same_some}
use Rattle.typed_machine.specs.TypedWorld.{pc_after}
use Rattle.image_rules.specs.Depths.{LeadAs}
use Rattle.image_rules.specs.Parts.{ComesTo, ExpansionsLeadAs, IsKept, IsKnownAt, IsOfAccepted, KnownComeOn}

-- ---- targets are successors

with_next : (goes : Bool) (next to : ℕ) (tos : List ℕ) → Contains tos to → Contains (if goes then next ∷ tos else tos) to
with_next true next to tos among = in_tail next to tos among
with_next false next to tos among = among

target_among : (instruction : Op) (to : ℕ) → Contains (flow.targets instruction) to → (rest : Ops) → Contains (leads_to instruction rest) to
target_among instruction to among [] = among
target_among instruction to among (next ∷ rest) = with_next (flow.goes_on instruction) next.0 to (flow.targets instruction) among

target_follows : (ops : Ops) (pc : ℕ) (instruction : Op) → op_at ops pc ≡ Some instruction → (to : ℕ) → Contains (flow.targets instruction) to → Contains (successors ops pc) to
target_follows [] pc instruction at to among = none_some instruction (sym (op_none pc) ∙ at)
target_follows ((here, first) ∷ ops) pc instruction at to among =
    elim (cases_Bool (nat_eq here pc)) [
      | inl same ↦
          let is : first ≡ instruction = same_some first instruction (sym (op_here here pc first ops same) ∙ at) in
          subst (λ b. Contains (if b then leads_to first ops else successors ops pc) to) (sym same)
          (subst (λ (o : Op). Contains (leads_to o ops) to) (sym is) (target_among instruction to among ops))
      | inr other ↦
          let rest = target_follows ops pc instruction (sym (op_later here pc first ops other) ∙ at) to among in
          subst (λ b. Contains (if b then leads_to first ops else successors ops pc) to) (sym other) rest
    ]

-- ---- going on

-- what goes on is not the last
last_or_on : (on last : Bool) → (on && last) ≡ false → on ≡ true → last ≡ false
last_or_on true last none is = none
last_or_on false last none is = absurd (false≢true is)

-- where there is no machine instruction, the instruction goes on
none_goes_on : (offset : ℕ → ℕ) (instruction : Op) → LeadAs offset instruction [] → flow.goes_on instruction ≡ true
unfolding LeadAs
none_goes_on offset instruction leads = leads.0

differs : (low pc : ℕ) → suc low ≤ pc → nat_eq low pc ≡ false
differs low pc le = grind (arith, nat_tests)

module _ (setting : Setting) (body : Body) (of : IsOfAccepted setting body) where
  -- ---- where a known instruction leads

  -- the types are known there
  pub leads_known : (pc : ℕ) → IsKnownAt setting body pc → (next : ℕ) → Contains (successors body.ops pc) next → IsKnownAt setting body next
  leads_known pc is next among =
      let world = setting.world in
      let table = table_for setting body in
      let facts = of.facts in
      let right = of.right in
      let holds = right.rules pc is.instruction is.frame is.at is.types in
      let Met : Sent → Type 0 = λ sent. IsStart body.ops sent.to → IsMet world.files table sent in
      let MetAt : ℕ → Type 0 = λ n. Met (record { to = n; frame = holds.after }) in
      let sent = sent_successors body Met pc is.frame holds.after holds.met in
      let start = (facts.leads pc is.instruction is.at).starts next among in
      let met = all_contained MetAt (successors body.ops pc) sent next among start in
      let there = start_has_op body.ops next start in
      record { instruction = there.0; at = there.1; frame = met.upper; types = met.has }

  -- and at a target
  pub target_known : (pc : ℕ) (is : IsKnownAt setting body pc) (to : ℕ) → Contains (flow.targets is.instruction) to → IsKnownAt setting body to
  target_known pc is to among = leads_known pc is to (target_follows body.ops pc is.instruction is.at to among)

  -- one that goes on leads to the next
  pub goes_next : (pc : ℕ) (is : IsKnownAt setting body pc) → flow.goes_on is.instruction ≡ true → (next : ℕ) × (pc_after body.ops pc ≡ Some next) × IsKnownAt setting body next
  goes_next pc is on =
      let world = setting.world in
      let facts = of.facts in
      let right = of.right in
      let holds = right.rules pc is.instruction is.frame is.at is.types in
      let change = change_by world.files body pc is.instruction is.frame holds.after holds.rule in
      let next = (facts.leads pc is.instruction is.at).next on (last_or_on (flow.goes_on is.instruction) (is_last body.ops pc) change.ends on) in
      (next.0, next.1, leads_known pc is next.0 next.2)

  -- pcs rise
  pub rises : RisesFrom 0 body.ops
  rises = let facts = of.facts in let of_set = facts.of_set in of_set.rise

  -- ---- coming on

  module _ (lead : ExpansionsLeadAs) (Holds : ℕ → Type 0) (kept : IsKept setting body Holds) where
    -- from the next one on
    abbrev Later : ℕ → Type 0
    Later pc = (next : ℕ) → pc < next → IsKnownAt setting body next → Holds next → ComesTo setting body Holds next

    by_emitted : (pc : ℕ) (is : IsKnownAt setting body pc) → Holds pc → Later pc
        → (emitted : List Emitted) → emitted_at setting body pc is.instruction ≡ emitted → ComesTo setting body Holds pc
    by_emitted pc is holds later (first ∷ rest) e = record { to = pc; is = is; emitted = first; rest = rest; here = e; offset = refl; holds = holds }
    by_emitted pc is holds later [] e =
        let source = source_for setting body in
        let leads = subst (LeadAs (offset_of source) is.instruction) e (lead setting body of pc is.instruction is.at) in
        let next = goes_next pc is (none_goes_on (offset_of source) is.instruction leads) in
        let to = later next.0 (after_later 0 body.ops rises pc next.0 next.1) next.2 (kept pc next.0 is e next.1 next.2 holds) in
        record {
          to = to.to;
          is = to.is;
          emitted = to.emitted;
          rest = to.rest;
          here = to.here;
          offset = to.offset ∙ offset_stays source rises pc is.instruction is.at e next.0 (sym (same_after body.ops pc) ∙ next.1);
          holds = to.holds;
        }

    come_from : (low : ℕ) (ops : Ops) → RisesFrom low ops → ((pc : ℕ) → low ≤ pc → op_at body.ops pc ≡ op_at ops pc) → (pc : ℕ) → low ≤ pc
        → IsKnownAt setting body pc → Holds pc → ComesTo setting body Holds pc
    come_from low [] rise same pc from is holds = none_some is.instruction (sym (op_none pc) ∙ sym (same pc from) ∙ is.at)
    come_from low ((here, first) ∷ ops) rise same pc from is holds =
        let on : (n : ℕ) → suc here ≤ n → op_at body.ops n ≡ op_at ops n =
        λ n above. same n (omega (arith, above, rise.0)) ∙ op_later here n first ops (differs here n above)
        in
        elim (cases_Bool (nat_eq here pc)) [
          | inl at ↦
              let it : here ≡ pc = eqb-true here pc at in
              let later : Later pc = λ next above known held. come_from (suc here) ops rise.1 on next (omega (arith, it, above)) known held in
              by_emitted pc is holds later (emitted_at setting body pc is.instruction) refl
          | inr other ↦
              let above = op_from (suc here) ops rise.1 pc is.instruction (sym (op_later here pc first ops other) ∙ sym (same pc from) ∙ is.at) in
              come_from (suc here) ops rise.1 on pc above is holds
        ]

pub come_on : ExpansionsLeadAs → KnownComeOn
come_on lead setting body of Holds kept pc is holds =
    come_from setting body of lead Holds kept 0 body.ops (rises setting body of) (λ n from. refl) pc (omega arith) is holds
