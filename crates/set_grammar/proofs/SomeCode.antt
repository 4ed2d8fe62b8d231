-- The code of a body is not empty: control begins at its first instruction and goes on from each to the next one until one
-- that does not go on, and each of these has a machine instruction.
use Rattle.std.proofs.Common.{◌≡◌, ℕ, suc, ◌+◌, ◌≤◌, Bool, true, false, ◌&&◌, inl, inr, nat_eq, if◌then◌else◌, List, [], ◌∷◌, length, Some, refl, sym, ap, subst, ◌∙◌, arith, length-append, eqb-true}
use Rattle.std.specs.List.{AllByRecursion, Contains, flat_map}
use Rattle.std.proofs.lemmas.Bool.{cases_Bool, false≢true, ne_eqb}
use Rattle.std.proofs.lemmas.List.Concat.{flat_map-cons}
use Rattle.body_form.specs.declared.op.Op.{Op}
use Rattle.body_form.specs.declared.types.VFrame.{VFrame}
use Rattle.body_form.specs.Flow.{IsStart, Ops, goes_on, successors}
use Rattle.code_reach.specs.Reached.{RisesFrom}
use Rattle.jvm_model.specs.ImageEmission.{Source, code_of, fill_bytes}
use Rattle.jvm_model.specs.TypesRight.{IsMet, IsRight, Sent}
use Rattle.jvm_model.specs.TypesRules.{is_last, op_at}
use Rattle.match_code.proofs.CodeLayout.{op_from}
use Rattle.type_rounds.proofs.tables.SentFrames.{sent_successors}
use Rattle.type_rounds.proofs.tables.Starts.{each_is_at, op_later, same_pc, start_has_op}
use Rattle.typed_machine.specs.TypedWorld.{World, pc_after}
use Rattle.type_safety.specs.Facts.{BodyFacts}
use Rattle.type_safety.proofs.fitting.SetBodies.{IsChange, change_by}
use Rattle.type_safety.proofs.fitting.SetLists.{all_contained, none_some, same_some}
use Rattle.set_grammar.proofs.EndingInsns.{bytes_for, some_at}

-- what goes on is not the last
last_or_on : (on last : Bool) → (on && last) ≡ false → on ≡ true → last ≡ false
last_or_on true last none is = none
last_or_on false last none is = absurd (false≢true is)

module _ (world : World) (source : Source) (facts : BodyFacts world source.body) (right : IsRight world.files source.body source.table) where
  abbrev ops : Ops
  ops = source.body.ops

  abbrev IsAt : ℕ × Op → Type 0
  IsAt x = op_at ops x.0 ≡ Some x.1

  abbrev code_for : Ops → List ℕ
  code_for some = flat_map (bytes_for world source) some

  -- what is known where an instruction leads
  arrives : (pc : ℕ) (instruction : Op) (frame : VFrame) → op_at ops pc ≡ Some instruction → source.table pc ≡ Some frame → (next : ℕ) → Contains (successors ops pc) next → (known : VFrame) × (source.table next ≡ Some known)
  arrives pc instruction frame at is next among =
      let holds = right.rules pc instruction frame at is in
      let Met : Sent → Type 0 = λ sent. IsStart ops sent.to → IsMet world.files source.table sent in
      let MetAt : ℕ → Type 0 = λ n. Met (record { to = n; frame = holds.after }) in
      let sent = sent_successors source.body Met pc frame holds.after holds.met in
      let met = all_contained MetAt (successors ops pc) sent next among ((facts.leads pc instruction at).starts next among) in
      (met.upper, met.has)

  -- the first instruction has its bytes before those of the rest
  code_length : (x : ℕ × Op) (rest : Ops) → length (code_for (x ∷ rest)) ≡ length (bytes_for world source x) + length (code_for rest)
  code_length x rest =
      ap (λ (bytes : List ℕ). length bytes) (flat_map-cons (bytes_for world source) x rest) ∙ length-append (bytes_for world source x) (code_for rest)

  -- the rule of a known instruction holds
  changes_at : (x : ℕ × Op) (frame : VFrame) → IsAt x → source.table x.0 ≡ Some frame → (after : VFrame) × IsChange world.files source.body x.0 x.1 frame after
  changes_at x frame at is =
      let holds = right.rules x.0 x.1 frame at is in
      (holds.after, change_by world.files source.body x.0 x.1 frame holds.after holds.rule)

  -- the instructions from a known one on, which is followed by those that follow it in the body
  some_from : (x : ℕ × Op) (rest : Ops) → RisesFrom x.0 (x ∷ rest) → AllByRecursion IsAt (x ∷ rest) → ((pc : ℕ) → x.0 ≤ pc → pc_after ops pc ≡ pc_after (x ∷ rest) pc)
      → (frame : VFrame) → source.table x.0 ≡ Some frame → 1 ≤ length (code_for (x ∷ rest))
  unfolding pc_after
  some_from x [] rise at same frame is =
      let changes = (changes_at x frame at.0 is).1 in
      elim (cases_Bool (goes_on x.1)) [
        | inl on ↦
            let next = (facts.leads x.0 x.1 at.0).next on (last_or_on (goes_on x.1) (is_last ops x.0) changes.ends on) in
            none_some next.0 (sym (same x.0 (omega arith)) ∙ next.1)
        | inr ends ↦ let some = some_at world source x.0 x.1 frame changes.change changes.is ends in omega (arith, some, code_length x [])
      ]
  some_from x (y ∷ rest) rise at same frame is =
      let changes = (changes_at x frame at.0 is).1 in
      elim (cases_Bool (goes_on x.1)) [
        | inl on ↦
            let next = (facts.leads x.0 x.1 at.0).next on (last_or_on (goes_on x.1) (is_last ops x.0) changes.ends on) in
            let here : pc_after (x ∷ y ∷ rest) x.0 ≡ Some y.0 = ap (λ b. if b then Some y.0 else pc_after (y ∷ rest) x.0) (same_pc x.0) in
            let to_next : next.0 ≡ y.0 = same_some next.0 y.0 (sym next.1 ∙ same x.0 (omega arith) ∙ here) in
            let known = arrives x.0 x.1 frame at.0 is y.0 (subst (Contains (successors ops x.0)) to_next next.2) in
            let follows : (pc : ℕ) → y.0 ≤ pc → pc_after ops pc ≡ pc_after (y ∷ rest) pc =
            λ pc from. same pc (omega (arith, from, rise.1.0)) ∙ ap (λ b. if b then Some y.0 else pc_after (y ∷ rest) pc) (ne_eqb x.0 pc (λ e. omega (arith, e, from, rise.1.0)))
            in
            let some = some_from y rest (omega arith, rise.1.1) at.1 follows known.0 known.1 in
            omega (arith, some, code_length x (y ∷ rest))
        | inr ends ↦ let some = some_at world source x.0 x.1 frame changes.change changes.is ends in omega (arith, some, code_length x (y ∷ rest))
      ]

  -- the first instruction stands at pc 0
  first_at_zero : (x : ℕ × Op) (rest : Ops) → RisesFrom 0 (x ∷ rest) → IsStart (x ∷ rest) 0 → x.0 ≡ 0
  first_at_zero x rest rise first =
      elim (cases_Bool (nat_eq x.0 0)) [
        | inl here ↦ eqb-true x.0 0 here
        | inr later ↦
            let found = start_has_op (x ∷ rest) 0 first in
            let above = op_from (suc x.0) rest rise.1 0 found.0 (sym (op_later x.0 0 x.1 rest later) ∙ found.1) in
            absurd (omega (arith, above))
      ]

  -- all of them
  some_ops : (all : Ops) → ops ≡ all → IsStart all 0 → RisesFrom 0 all → AllByRecursion IsAt all → 1 ≤ length (code_for all)
  some_ops [] is (k, within, found) rise at = absurd (omega (arith, within))
  some_ops (x ∷ rest) is first rise at =
      let met = right.start facts.first in
      let zero = first_at_zero x rest rise first in
      some_from x rest (omega arith, rise.1) at (λ pc from. ap (λ (all : Ops). pc_after all pc) is) met.upper (ap source.table zero ∙ met.has)

  pub some_code : 1 ≤ length (code_of source)
  some_code =
      let rise = facts.of_set.rise in
      let some = some_ops ops refl facts.first rise (each_is_at ops rise) in
      omega (arith, some, length-append (fill_bytes source) (code_for ops))
