-- Whether a round fails is decided: at a pc by its rule and by what arrives there, and then from pc to pc.
use Rattle.std.proofs.Common.{◌≡◌, ℕ, zero, suc, ◌+◌, ◌<◌, ◌⊎◌, inl, inr, List, [], ◌∷◌, Option, Some, None, refl, sym, subst, ◌∙◌, arith}
use Rattle.std.specs.List.{AllByRecursion}
use Rattle.std.proofs.lemmas.Bool.{cases_lt}
use Rattle.std.proofs.lemmas.Option.{none-some, same_Some}
use Rattle.class_file.specs.declared.record.ClassFile.{ClassFile}
use Rattle.body_form.specs.declared.op.Op.{Op}
use Rattle.body_form.specs.declared.body.Body.{Body}
use Rattle.body_form.specs.declared.types.VFrame.{VFrame}
use Rattle.body_form.specs.Flow.{Ops, IsStart}
use Rattle.jvm_model.specs.TypesRules.{op_at, frame_after}
use Rattle.jvm_model.specs.TypesRight.{Table}
use Rattle.jvm_model.specs.TypesRounds.{Arrival, Nothing, Clash, Merged, arrival, FailsAt, IsRuled, IsMerged}
use Rattle.type_rounds.proofs.tables.Lists.{all_map}
use Rattle.type_rounds.proofs.tables.Starts.{start_has_op, op_is_start, holds_at}

-- ---- one pc

module _ (files : List ClassFile) (body : Body) (table : Table) (pc : ℕ) where
  abbrev Fails : Type 0
  Fails = FailsAt files body table pc

  -- the rule of the instruction does not fail
  abbrev Ruled : Type 0
  Ruled = (instruction : Op) (frame : VFrame) → op_at body.ops pc ≡ Some instruction → table pc ≡ Some frame → frame_after files body pc instruction frame ≡ None → ⊥

  after_rule : (instruction : Op) (frame : VFrame) → op_at body.ops pc ≡ Some instruction → table pc ≡ Some frame → (o : Option VFrame) → frame_after files body pc instruction frame ≡ o → Fails ⊎ Ruled
  after_rule instruction frame op before None rule = inl (IsRuled instruction frame op before rule)
  after_rule instruction frame op before (Some after) rule =
      inr (λ other found other_op other_before fails.
      let same : other ≡ instruction = same_Some other instruction (sym other_op ∙ op) in
      let same_frame : found ≡ frame = same_Some found frame (sym other_before ∙ before) in
      let none : frame_after files body pc instruction frame ≡ None = subst (λ f. frame_after files body pc instruction f ≡ None) same_frame (subst (λ i. frame_after files body pc i found ≡ None) same fails) in
      none-some after (sym none ∙ rule))

  with_frame : (instruction : Op) → op_at body.ops pc ≡ Some instruction → (o : Option VFrame) → table pc ≡ o → Fails ⊎ Ruled
  with_frame instruction op None before = inr (λ other frame other_op other_before fails. none-some frame (sym before ∙ other_before))
  with_frame instruction op (Some frame) before = after_rule instruction frame op before (frame_after files body pc instruction frame) refl

  with_arrival : IsStart body.ops pc → Ruled → (a : Arrival) → arrival files body table pc ≡ a → Fails ⊎ (Fails → ⊥)
  with_arrival start ruled Clash e = inl (IsMerged start e)
  with_arrival start ruled Nothing e = inr (not_failing ruled (λ clash. let f : Clash ≡ Nothing = sym clash ∙ e in cc))
    where
      not_failing : Ruled → (arrival files body table pc ≡ Clash → ⊥) → Fails → ⊥
      not_failing holds merges (IsRuled instruction frame op before rule) = holds instruction frame op before rule
      not_failing holds merges (IsMerged at clash) = merges clash
  with_arrival start ruled (Merged frame) e = inr (not_failing ruled (λ clash. let f : Clash ≡ Merged frame = sym clash ∙ e in cc))
    where
      not_failing : Ruled → (arrival files body table pc ≡ Clash → ⊥) → Fails → ⊥
      not_failing holds merges (IsRuled instruction frame op before rule) = holds instruction frame op before rule
      not_failing holds merges (IsMerged at clash) = merges clash

  fails_at_op : Fails → (instruction : Op) × (op_at body.ops pc ≡ Some instruction)
  fails_at_op (IsRuled instruction frame op before rule) = (instruction, op)
  fails_at_op (IsMerged start clash) = start_has_op body.ops pc start

  with_op : (o : Option Op) → op_at body.ops pc ≡ o → Fails ⊎ (Fails → ⊥)
  with_op None e = inr (λ fails. let (instruction, op) = fails_at_op fails in none-some instruction (sym e ∙ op))
  with_op (Some instruction) e =
      elim (with_frame instruction e (table pc) refl) [
        | inl fails ↦ inl fails
        | inr ruled ↦ with_arrival (op_is_start body.ops pc instruction e) ruled (arrival files body table pc) refl
      ]

  pub fails_or_not : Fails ⊎ (Fails → ⊥)
  fails_or_not = with_op (op_at body.ops pc) refl

-- ---- the lowest pc

-- a number above each pc
bound : Ops → ℕ
bound [] = 0
bound (x ∷ ops) = suc (x.0 + bound ops)

all_below : (ops : Ops) → AllByRecursion (λ x. x.0 < bound ops) ops
unfolding bound
all_below [] = tt
all_below (x ∷ ops) = (omega arith, all_map (λ (y : ℕ × Op). y.0 < bound ops) (λ y. y.0 < suc (x.0 + bound ops)) (λ y less. omega (arith, less)) ops (all_below ops))

-- the lowest number that has P
pub record IsLowest (P : ℕ → Type 0) (lowest : ℕ) : Type 0 where
  pub is : P lowest
  pub others : (other : ℕ) → other < lowest → P other → ⊥

lowest_below : (P : ℕ → Type 0) → ((n : ℕ) → P n ⊎ (P n → ⊥)) → (n : ℕ) → ((lowest : ℕ) × IsLowest P lowest) ⊎ ((other : ℕ) → other < n → P other → ⊥)
lowest_below P decided zero = inr (λ other lt is. omega (arith, lt))
lowest_below P decided (suc n) =
    elim (lowest_below P decided n) [
      | inl found ↦ inl found
      | inr none ↦
          elim (decided n) [
            | inl is ↦ inl (n, record { is = is; others = none })
            | inr not ↦
                inr (λ other lt is.
                elim (cases_lt other n) [
                  | inl below ↦ none other below is
                  | inr le ↦ let same : other ≡ n = omega (arith, lt, le) in not (subst P same is)
                ])
          ]
    ]

-- a round fails at a lowest pc, or at none
pub lowest_or_none : (files : List ClassFile) (body : Body) (table : Table) → ((pc : ℕ) × IsLowest (FailsAt files body table) pc) ⊎ ((pc : ℕ) → FailsAt files body table pc → ⊥)
lowest_or_none files body table =
    elim (lowest_below (FailsAt files body table) (fails_or_not files body table) (bound body.ops)) [
      | inl found ↦ inl found
      | inr none ↦
          inr (λ pc fails.
          let (instruction, op) = fails_at_op files body table pc fails in
          none pc (holds_at (λ (x : ℕ × Op). x.0 < bound body.ops) body.ops (all_below body.ops) pc instruction op) fails)
    ]
