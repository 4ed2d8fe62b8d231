-- The rank of a state of the typed machine: the instructions behind the pcs of its frames. A frame that goes on or jumps
-- forward lowers it, and so does one that leaves.
use Rattle.std.proofs.Common.{◌≡◌, ℕ, suc, ◌<◌, ◌≤◌, Bool, true, false, cond, nat_eq, nat_le, List, [], ◌∷◌, Option, Some, if◌then◌else◌, refl, sym, ap, subst, arith}
use Rattle.std.specs.List.{sum_by}
use Rattle.std.specs.Option.{option_map_or}
use Rattle.std.proofs.lemmas.Bool.{eqb-true, leb-true, le-leb}
use Rattle.std.proofs.lemmas.List.Sums.{sum_by-cons}
use Rattle.std.proofs.lemmas.Option.{none-some, same_Some}
use Rattle.class_pool.specs.declared.types.MemberId.{MemberId}
use Rattle.code_reach.specs.Reached.{RisesFrom}
use Rattle.body_form.specs.declared.body.Body.{Body}
use Rattle.body_form.specs.declared.op.Op.{Op}
use Rattle.body_form.specs.Flow.{Ops}
use Rattle.jvm_model.specs.TypesRules.{op_at}
use Rattle.typed_machine.specs.TypedState.{Frame}
use Rattle.typed_machine.specs.TypedWorld.{World, body_among, pc_after}

-- ---- instructions from a pc on

abbrev one_from : ℕ → ℕ × Op → ℕ
one_from pc x = cond (nat_le pc x.0) 1 0

abbrev pub count_from : ℕ → Ops → ℕ
count_from pc ops = sum_by (one_from pc) ops

no_more_where : (first second : Bool) → (second ≡ true → first ≡ true) → cond second 1 0 ≤ cond first 1 0
no_more_where true true follows = omega arith
no_more_where true false follows = omega arith
no_more_where false true follows = let bad : false ≡ true = follows refl in absurd cc
no_more_where false false follows = omega arith

one_or_none : (pc next : ℕ) → pc ≤ next → (x : ℕ × Op) → one_from next x ≤ one_from pc x
one_or_none pc next le x = no_more_where (nat_le pc x.0) (nat_le next x.0) (λ is. le-leb pc x.0 (omega (arith, le, leb-true next x.0 is)))

pub no_more_from : (pc next : ℕ) → pc ≤ next → (ops : Ops) → count_from next ops ≤ count_from pc ops
no_more_from pc next le [] = omega arith
no_more_from pc next le (x ∷ ops) = omega (arith, sum_by-cons (one_from pc) x ops, sum_by-cons (one_from next) x ops, one_or_none pc next le x, no_more_from pc next le ops)

-- the instruction at the pc itself is not among those from a later one on
pub fewer_from : (pc next : ℕ) → pc < next → (ops : Ops) (instruction : Op) → op_at ops pc ≡ Some instruction → count_from next ops < count_from pc ops
unfolding op_at
fewer_from pc next lt [] instruction is = absurd (none-some instruction is)
fewer_from pc next lt ((at, op) ∷ ops) instruction is = by_place (fewer_from pc next lt ops instruction) (nat_eq at pc) refl is
  where
    here : at ≡ pc → count_from next ((at, op) ∷ ops) < count_from pc ((at, op) ∷ ops)
    here same =
        let one : one_from pc (at, op) ≡ 1 = ap (λ b. cond b 1 0) (le-leb pc at (omega (arith, same))) in
        let none : one_from next (at, op) ≤ 0 = no_more_where false (nat_le next at) (λ is. absurd (omega (arith, lt, same, leb-true next at is))) in
        omega (arith, one, none, sum_by-cons (one_from pc) (at, op) ops, sum_by-cons (one_from next) (at, op) ops, no_more_from pc next (omega (arith, lt)) ops)

    by_place : (op_at ops pc ≡ Some instruction → count_from next ops < count_from pc ops) → (first : Bool) → nat_eq at pc ≡ first → (if first then Some op else op_at ops pc) ≡ Some instruction
        → count_from next ((at, op) ∷ ops) < count_from pc ((at, op) ∷ ops)
    by_place rest true same is = here (eqb-true at pc same)
    by_place rest false same is =
        omega (arith, sum_by-cons (one_from pc) (at, op) ops, sum_by-cons (one_from next) (at, op) ops, one_or_none pc next (omega (arith, lt)) (at, op), rest is)

-- the pc after an instruction is later, where pcs rise
pub after_later : (low : ℕ) (ops : Ops) → RisesFrom low ops → (pc next : ℕ) → pc_after ops pc ≡ Some next → pc < next
unfolding pc_after
after_later low [] rise pc next is = absurd (none-some next is)
after_later low ((at, op) ∷ []) rise pc next is = absurd (none-some next is)
after_later low ((at, op) ∷ (to, there) ∷ ops) rise pc next is = by_place (after_later (suc at) ((to, there) ∷ ops) rise.1 pc next) (nat_eq at pc) refl is
  where
    by_place : (pc_after ((to, there) ∷ ops) pc ≡ Some next → pc < next) → (first : Bool) → nat_eq at pc ≡ first → (if first then Some to else pc_after ((to, there) ∷ ops) pc) ≡ Some next → pc < next
    by_place rest true same is = omega (arith, eqb-true at pc same, same_Some to next is, rise.1.0)
    by_place rest false same is = rest is

-- ---- frames

-- the instructions of a method
abbrev pub ops_in : World → MemberId → Ops
ops_in world method = option_map_or (λ (body : Body). body.ops) (body_among world.bodies method) []

-- a frame counts the instructions from its pc on, and itself
abbrev pub ops_behind : World → Frame → ℕ
ops_behind world frame = suc (count_from frame.pc (ops_in world frame.method))

abbrev pub rank_of : World → List Frame → ℕ
rank_of world frames = sum_by (ops_behind world) frames

-- an instruction is at the frame's pc, and the pc with which it goes on is behind it
pub record IsAhead (world : World) (frame : Frame) (next : Option ℕ) : Type 0 where
  pub instruction : Op
  pub at : op_at (ops_in world frame.method) frame.pc ≡ Some instruction
  pub later : (to : ℕ) → next ≡ Some to → frame.pc < to

-- the youngest frame at a later pc
pub later_lowers : (world : World) (frame first : Frame) (others : List Frame) (next : Option ℕ) → IsAhead world frame next → first.method ≡ frame.method → frame.pc < first.pc
    → rank_of world (first ∷ others) < rank_of world (frame ∷ others)
later_lowers world frame first others next ahead same later =
    let less : count_from first.pc (ops_in world first.method) < count_from frame.pc (ops_in world frame.method) =
    subst (λ method. count_from first.pc (ops_in world method) < count_from frame.pc (ops_in world frame.method)) (sym same)
    (fewer_from frame.pc first.pc later (ops_in world frame.method) ahead.instruction ahead.at) in
    omega (arith, less, sum_by-cons (ops_behind world) first others, sum_by-cons (ops_behind world) frame others)

-- the frame below, at a later pc
pub return_lowers : (world : World) (frame caller first : Frame) (others : List Frame) → first.method ≡ caller.method → caller.pc < first.pc → rank_of world (first ∷ others) < rank_of world (frame ∷ caller ∷ others)
return_lowers world frame caller first others same later =
    let below : count_from first.pc (ops_in world first.method) ≤ count_from caller.pc (ops_in world caller.method) =
    subst (λ method. count_from first.pc (ops_in world method) ≤ count_from caller.pc (ops_in world caller.method)) (sym same) (no_more_from caller.pc first.pc (omega (arith, later)) (ops_in world caller.method)) in
    omega (arith, below, sum_by-cons (ops_behind world) first others, sum_by-cons (ops_behind world) caller others, sum_by-cons (ops_behind world) frame (caller ∷ others))
