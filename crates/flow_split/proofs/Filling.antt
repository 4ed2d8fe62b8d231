-- How many operand cells there are where parameters are extended.
use Rattle.std.proofs.Common.{◌≡◌, ℕ, ◌+◌, ◌<◌, max, Bool, true, false, List, [], ◌∷◌, length, if◌then◌else◌, refl, ap, ◌∙◌, arith}
use Rattle.std.specs.List.{flat_map}
use Rattle.image_instr.specs.declared.insn.Kind.TheVariants as kind
use Rattle.image_instr.specs.declared.insn.MInsn.TheVariants as insns
use Rattle.image_form.specs.Library.{signature}
use Rattle.jvm_model.specs.declared.plan.Fill.{Fill}
use Rattle.jvm_model.specs.ImageExpansion.{Emitted}
use Rattle.jvm_model.specs.WidthsFrame.{most_operands, fill_insns}
use Rattle.body_form.specs.declared.body.Body.{Body}
use Rattle.jvm_model.specs.WidthsShapes.{Widths}
use Rattle.jvm_model.specs.WidthsSlots.{fill_of, fills_of, is_extended, locals_of}
use Rattle.flow_split.specs.declared.shares.Share.{Share}
use Rattle.flow_split.specs.Shares.{cell_share, cell_shares_of, extended_in}
use Rattle.std.proofs.lemmas.List.Sums.{sum_by-cons}
use Rattle.std.proofs.Common.{map, filter, cond, ◌*◌}

no_fills : (fills : List Fill) → length fills ≡ 0 → 0 ≡ most_operands (signature 0 0 0) 0 (flat_map fill_insns fills)
unfolding most_operands
no_fills [] none = refl
no_fills (fill ∷ fills) none = absurd (omega (arith, none))

-- one parameter is extended in two cells, which go
extended_by : (zero : Bool) (from to : ℕ) (rest : List Emitted)
    → most_operands (signature 0 0 0) 0 ((insns.Load kind.One from, []) ∷ (if zero then insns.Zx else insns.Sx, []) ∷ (insns.Store kind.Two to, []) ∷ rest) ≡ max 2 (most_operands (signature 0 0 0) 0 rest)
unfolding most_operands
extended_by true from to rest = omega arith
extended_by false from to rest = omega arith

at_most : (fills : List Fill) → max 2 (most_operands (signature 0 0 0) 0 (flat_map fill_insns fills)) ≡ 2
unfolding most_operands
at_most [] = refl
at_most (fill ∷ fills) = omega (arith, extended_by fill.zero fill.from fill.to (flat_map fill_insns fills), at_most fills)

some_fills : (fills : List Fill) → 0 < length fills → 2 ≡ most_operands (signature 0 0 0) 0 (flat_map fill_insns fills)
some_fills [] some = absurd (omega (arith, some))
some_fills (fill ∷ fills) some = omega (arith, extended_by fill.zero fill.from fill.to (flat_map fill_insns fills), at_most fills)

-- ---- by what locals take

one_filled : (extended : Bool) (make : ℕ → Fill) (local : ℕ) (others : List ℕ) → 2 * length (map make (cond extended (local ∷ others) others)) ≡ cond extended 2 0 + 2 * length (map make others)
one_filled true make local others = omega arith
one_filled false make local others = omega arith

filled_from : (body : Body) (widths : Widths) (locals : List ℕ)
    → extended_in (map (cell_share body widths) locals) ≡ 2 * length (map (fill_of body widths) (filter (is_extended body widths) locals))
filled_from body widths [] = refl
filled_from body widths (local ∷ locals) =
    let rest = filled_from body widths locals in
    let first = sum_by-cons (λ (share : Share). share.extended) (cell_share body widths local) (map (cell_share body widths) locals) in
    omega (arith, first, rest, one_filled (is_extended body widths local) (fill_of body widths) local (filter (is_extended body widths) locals))

-- parameters are extended where cells are taken for it
pub none_extended : (cells : List Share) (body : Body) (widths : Widths) → cells ≡ cell_shares_of body widths → extended_in cells ≡ 0 → 0 ≡ most_operands (signature 0 0 0) 0 (flat_map fill_insns (fills_of body widths))
none_extended cells body widths are none =
    let twice : extended_in cells ≡ 2 * length (fills_of body widths) = ap extended_in are ∙ filled_from body widths (locals_of body) in
    no_fills (fills_of body widths) (omega (arith, twice, none))

pub some_extended : (cells : List Share) (body : Body) (widths : Widths) → cells ≡ cell_shares_of body widths → 0 < extended_in cells → 2 ≡ most_operands (signature 0 0 0) 0 (flat_map fill_insns (fills_of body widths))
some_extended cells body widths are some =
    let twice : extended_in cells ≡ 2 * length (fills_of body widths) = ap extended_in are ∙ filled_from body widths (locals_of body) in
    some_fills (fills_of body widths) (omega (arith, twice, some))
