-- The pc of the next instruction is that at the next index.
use Rattle.std.proofs.Common.{◌≡◌, ℕ, zero, suc, ◌+◌, ◌<◌, true, false, nat_eq, cond, List, [], ◌∷◌, length, get_or, slice_get, Option, Some, None, option_map, refl, sym, ap, ◌∙◌, add-one, arith}
use Rattle.std.proofs.lemmas.Bool.Decides.{nat_tests}
use Rattle.code_reach.specs.Reached.{RisesFrom}
use Rattle.body_form.specs.declared.op.Op.{Op}
use Rattle.body_form.specs.Flow.{Ops}
use Rattle.jvm_model.specs.WidthsShapes.{pc_after}
use Rattle.infuse_emit.proofs.OffsetLists.{not_below}

last : (x : ℕ × Op) (at : ℕ) → pc_after (x ∷ []) at ≡ None
unfolding pc_after
last x at = refl

here : (x y : ℕ × Op) (ops : Ops) → pc_after (x ∷ y ∷ ops) x.0 ≡ Some y.0
unfolding pc_after
here x y ops =
    let same : nat_eq x.0 x.0 ≡ true = grind (arith, nat_tests) in
    ap (λ b. cond b (Some y.0) (pc_after (y ∷ ops) x.0)) same

later : (x y : ℕ × Op) (ops : Ops) (at : ℕ) → x.0 < at → pc_after (x ∷ y ∷ ops) at ≡ pc_after (y ∷ ops) at
unfolding pc_after
later x y ops at less =
    let other : nat_eq x.0 at ≡ false = grind (arith, nat_tests) in
    ap (λ b. cond b (Some y.0) (pc_after (y ∷ ops) at)) other

next_after : (low : ℕ) (ops : Ops) → RisesFrom low ops → (i : ℕ) (d : ℕ × Op) → i < length ops → pc_after ops (let x = get_or ops i d in x.0) ≡ option_map (λ (x : ℕ × Op). x.0) (slice_get ops (suc i))
next_after low [] rise i d lt = absurd (omega (arith, lt))
next_after low (x ∷ []) rise zero d lt = last x x.0
next_after low (x ∷ []) rise (suc i) d lt = absurd (omega (arith, lt))
next_after low (x ∷ y ∷ ops) rise zero d lt = here x y ops
next_after low (x ∷ y ∷ ops) rise (suc i) d lt =
    let above = not_below (suc x.0) (y ∷ ops) rise.1 i d (omega (arith, lt)) in
    later x y ops (let z = get_or (y ∷ ops) i d in z.0) (omega (arith, above)) ∙ next_after (suc x.0) (y ∷ ops) rise.1 i d (omega (arith, lt))

next_is : (ops : Ops) → RisesFrom 0 ops → (i : ℕ) (d : ℕ × Op) → i < length ops → pc_after ops (let x = get_or ops i d in x.0) ≡ option_map (λ (x : ℕ × Op). x.0) (slice_get ops (i + 1))
next_is ops rise i d lt = next_after 0 ops rise i d lt ∙ sym (ap (λ n. option_map (λ (x : ℕ × Op). x.0) (slice_get ops n)) (add-one i))

same_default : {X : Type 0} (items : List X) (i : ℕ) (d e : X) → i < length items → get_or items i d ≡ get_or items i e
same_default [] i d e lt = absurd (omega (arith, lt))
same_default (item ∷ items) zero d e lt = refl
same_default (item ∷ items) (suc i) d e lt = same_default items i d e (omega (arith, lt))

-- what was read at an index of the instructions
module _ (ops read : Ops) (same : read ≡ ops) (index : ℕ) (lt : index < length ops) (x : ℕ × Op) (is : x ≡ get_or read index x) where
  pub read_at : (d : ℕ × Op) → x ≡ get_or ops index d
  read_at d = is ∙ ap (λ (list : Ops). get_or list index x) same ∙ same_default ops index x d lt

  pub next_told : RisesFrom 0 ops → (next : Option ℕ) → next ≡ option_map (λ (y : ℕ × Op). y.0) (slice_get read (index + 1)) → next ≡ pc_after ops x.0
  next_told rise next e =
      e ∙ ap (λ (list : Ops). option_map (λ (y : ℕ × Op). y.0) (slice_get list (index + 1))) same
      ∙ sym (next_is ops rise index x lt)
      ∙ ap (λ (y : ℕ × Op). pc_after ops y.0) (sym (read_at x))
