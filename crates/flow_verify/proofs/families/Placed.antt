-- The instruction at a pc, by its position.
use Rattle.std.proofs.Common.{◌≡◌, ℕ, zero, suc, ◌+◌, ◌<◌, ◌≤◌, Bool, true, false, ◌&&◌, slice_get, [], ◌∷◌, length, map, get_or, if◌then◌else◌, Option, Some, None, nat_eq, refl, sym, ap, subst, ◌∙◌, arith}
use Rattle.std.proofs.lemmas.Bool.{eqb-true}
use Rattle.std.proofs.lemmas.Bool.Decides.{nat_tests, Decides-eqb}
use Rattle.std.specs.Option.{option_map_or}
use Rattle.std.proofs.Math.ListN.{get_or-map}
use Rattle.std.proofs.lemmas.List.{get_or_default, length-map}
use Rattle.std.proofs.lemmas.Option.{slice_get-get_or}
use Rattle.code_reach.specs.Reached.{RisesFrom}
use Rattle.body_form.specs.declared.op.Op.{Op}
use Rattle.body_form.specs.declared.body.Body.{Body}
use Rattle.body_form.specs.Flow.{Ops, IsStart, pc_at, goes_on}
use Rattle.jvm_model.specs.TypesRules.{is_last, op_at}
use Rattle.flow_verify.specs.Finding.{falls_off_at}

above : (low : ℕ) (ops : Ops) → RisesFrom low ops → (i : ℕ) → i < length ops → low ≤ pc_at ops i
above low [] rise i lt = absurd (omega arith)
above low ((pc, op) ∷ ops) rise zero lt = rise.0
above low ((pc, op) ∷ ops) rise (suc i) lt =
    let more : suc pc ≤ pc_at ops i = above (suc pc) ops rise.1 i (omega arith) in
    omega (arith, rise.0)

itself : (n : ℕ) → nat_eq n n ≡ true
itself n = (Decides-eqb n n).1 refl

differs : (m n : ℕ) → m < n → nat_eq m n ≡ false
differs m n less = grind (arith, nat_tests)

op_at_none : (pc : ℕ) → op_at [] pc ≡ None
unfolding op_at
op_at_none pc = refl

op_at_step : (at : ℕ) (first : Op) (ops : Ops) (pc : ℕ) → op_at ((at, first) ∷ ops) pc ≡ (if nat_eq at pc then Some first else op_at ops pc)
unfolding op_at
op_at_step at first ops pc = refl

pub op_at_position : (low : ℕ) (ops : Ops) → RisesFrom low ops → (i : ℕ) (d : ℕ × Op) → i < length ops → op_at ops (pc_at ops i) ≡ Some (get_or ops i d).1
unfolding op_at
op_at_position low [] rise i d lt = absurd (omega arith)
op_at_position low ((pc, op) ∷ ops) rise zero d lt = ap (λ b. if b then Some op else op_at ops pc) (itself pc)
op_at_position low ((pc, op) ∷ ops) rise (suc i) d lt =
    ap (λ b. if b then Some op else op_at ops (pc_at ops i)) (differs pc (pc_at ops i) (above (suc pc) ops rise.1 i (omega arith)))
    ∙ op_at_position (suc pc) ops rise.1 i d (omega arith)

-- the instruction at a position that the code reads
pub op_found : (ops slice : Ops) → RisesFrom 0 ops → slice ≡ ops → (i pc : ℕ) → i < length ops → pc_at ops i ≡ pc → (x : ℕ × Op) → x ≡ get_or slice i x → op_at ops pc ≡ Some x.1
op_found ops slice rise same i pc within is x here =
    ap (op_at ops) (sym is) ∙ op_at_position 0 ops rise i x within ∙ ap (λ (y : ℕ × Op). Some y.1) (sym (here ∙ ap (λ (l : Ops). get_or l i x) same))

further : (at : ℕ) (first : Op) (ops : Ops) (pc : ℕ) → IsStart ops pc → IsStart ((at, first) ∷ ops) pc
further at first ops pc (k, within, is) = (suc k, omega (arith, within), is)

started : (b : Bool) (at : ℕ) (first : Op) (ops : Ops) (pc : ℕ) → nat_eq at pc ≡ b → (op_at ops pc ≡ op_at ((at, first) ∷ ops) pc → IsStart ops pc) → IsStart ((at, first) ∷ ops) pc
started true at first ops pc here others = (0, omega arith, eqb-true at pc here)
started false at first ops pc other others = further at first ops pc (others (sym (op_at_step at first ops pc ∙ ap (λ b. if b then Some first else op_at ops pc) other)))

-- an instruction is where one is found
pub is_start : (ops : Ops) (pc : ℕ) (op : Op) → op_at ops pc ≡ Some op → IsStart ops pc
is_start [] pc op e = let f : None ≡ Some op = sym (op_at_none pc) ∙ e in cc
is_start ((at, first) ∷ ops) pc op e = started (nat_eq at pc) at first ops pc refl (λ same. is_start ops pc op (same ∙ e))

found_none : (ops : Ops) (pc : ℕ) → (IsStart ops pc → ⊥) → (o : Option Op) → op_at ops pc ≡ o → op_at ops pc ≡ None
found_none ops pc none None e = e
found_none ops pc none (Some op) e = absurd (none (is_start ops pc op e))

pub op_none : (ops : Ops) (pc : ℕ) → (IsStart ops pc → ⊥) → op_at ops pc ≡ None
op_none ops pc none = found_none ops pc none (op_at ops pc) refl

-- ---- the last instruction

last_one : (x : ℕ × Op) (at : ℕ) → is_last (x ∷ []) at ≡ true
unfolding is_last
last_one x at = refl

last_step : (pc : ℕ) (op : Op) (next : ℕ × Op) (ops : Ops) (at : ℕ) → is_last ((pc, op) ∷ next ∷ ops) at ≡ (if nat_eq pc at then false else is_last (next ∷ ops) at)
unfolding is_last
last_step pc op next ops at = refl

-- no instruction is after a position exactly where it is the last one
last_position : (low : ℕ) (ops : Ops) → RisesFrom low ops → (i : ℕ) → i < length ops → is_last ops (pc_at ops i) ≡ nat_eq (i + 1) (length ops)
last_position low [] rise i lt = absurd (omega arith)
last_position low (x ∷ []) rise i lt =
    let one : i + 1 ≡ 1 = omega arith in
    last_one x (pc_at (x ∷ []) i) ∙ ap (λ n. nat_eq n 1) (sym one)
last_position low ((pc, op) ∷ next ∷ ops) rise zero lt =
    let more : nat_eq (0 + 1) (length ((pc, op) ∷ next ∷ ops)) ≡ false = grind (arith, nat_tests) in
    last_step pc op next ops pc ∙ ap (λ b. if b then false else is_last (next ∷ ops) pc) (itself pc) ∙ sym more
last_position low ((pc, op) ∷ next ∷ ops) rise (suc i) lt =
    let at = pc_at (next ∷ ops) i in
    let more : nat_eq (suc i + 1) (length ((pc, op) ∷ next ∷ ops)) ≡ nat_eq (i + 1) (length (next ∷ ops)) = grind (arith, nat_tests) in
    last_step pc op next ops at ∙ ap (λ b. if b then false else is_last (next ∷ ops) at) (differs pc at (above (suc pc) (next ∷ ops) rise.1 i (omega arith)))
    ∙ last_position (suc pc) (next ∷ ops) rise.1 i (omega arith) ∙ sym more

-- the pc of the instruction at a position
pub pc_read : (ops : Ops) (i : ℕ) (d : ℕ × Op) → i < length ops → pc_at ops i ≡ (get_or ops i d).0
pc_read ops i d within =
    let pcs = map (λ (y : ℕ × Op). y.0) ops in
    let inside : i < length pcs = subst (λ n. i < n) (sym (length-map ops (λ (y : ℕ × Op). y.0))) within in
    get_or_default pcs i 0 d.0 inside ∙ get_or-map (λ (y : ℕ × Op). y.0) ops i d

-- the instruction that the code reads at a position
pub read_at : (ops slice : Ops) → slice ≡ ops → (i : ℕ) (d : ℕ × Op) → i < length ops → slice_get ops i ≡ Some (get_or slice i d)
read_at ops slice same i d within = slice_get-get_or ops i d within ∙ ap (λ (l : Ops). Some (get_or l i d)) (sym same)

pub falls_at : (body : Body) (slice : Ops) → RisesFrom 0 body.ops → slice ≡ body.ops → (i : ℕ) (d : ℕ × Op) → i < length body.ops
    → falls_off_at body i ≡ (goes_on (get_or slice i d).1 && nat_eq (i + 1) (length slice))
falls_at body slice rise same i d within =
    let x = get_or slice i d in
    let here = read_at body.ops slice same i d within in
    let pc : x.0 ≡ pc_at body.ops i = ap (λ (l : Ops). (get_or l i d).0) same ∙ sym (pc_read body.ops i d within) in
    ap (λ o. option_map_or (λ (y : ℕ × Op). goes_on y.1 && is_last body.ops y.0) o false) here
    ∙ ap (λ b. goes_on x.1 && b) (ap (is_last body.ops) pc ∙ last_position 0 body.ops rise i within ∙ ap (λ (l : Ops). nat_eq (i + 1) (length l)) (sym same))

pub read_is : (ops slice : Ops) → slice ≡ ops → (i : ℕ) (x : ℕ × Op) → i < length ops → x ≡ get_or slice i x → slice_get ops i ≡ Some x
read_is ops slice same i x within is = read_at ops slice same i x within ∙ ap (λ (y : ℕ × Op). Some y) (sym is)
