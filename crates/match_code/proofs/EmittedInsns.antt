-- The machine instructions of a body's code are such where their numbers are of their types, since they keep to their
-- limits.
use Rattle.std.proofs.Common.{◌≡◌, ℕ, true, false, if◌then◌else◌, List, [], ◌∷◌, ◌++◌, Some, refl, sym, subst}
use Rattle.std.specs.List.{AllByRecursion, Contains, flat_map}
use Rattle.std.proofs.lemmas.List.Concat.{flat_map-cons}
use Rattle.image_instr.specs.declared.insn.Kind.TheVariants as kind
use Rattle.image_instr.specs.declared.insn.MInsn.TheVariants as insns
use Rattle.body_form.specs.declared.body.Body.{Body}
use Rattle.body_form.specs.declared.op.Op.{Op}
use Rattle.jvm_model.specs.declared.plan.Fill.{Fill}
use Rattle.jvm_model.specs.ImageEmission.{locals_by, offset_of}
use Rattle.jvm_model.specs.ImageExpansion.{Emitted}
use Rattle.jvm_model.specs.TypesRules.{op_at}
use Rattle.jvm_model.specs.WidthsFrame.{fill_insns}
use Rattle.jvm_model.specs.WidthsShapes.{point_at}
use Rattle.expansion.specs.Seen.{Keeps}
use Rattle.expansion.proofs.Limits.{limits_kept}
use Rattle.match_states.specs.Setting.{Setting, IsCompiled, source_for}
use Rattle.match_code.specs.Standing.{emitted_at, fills_for, IsEmittedInsn, AreInsns, IsInRange, AreInRange}
use Rattle.match_code.proofs.SwitchRows.{rows_keep}

one_insn : (emitted : Emitted) → IsInRange emitted → Keeps emitted → IsEmittedInsn emitted
one_insn emitted range keeps = record { ranges = range.0; limits = keeps.0; rows_of = keeps.1; row_ranges = range.1 }

all_insns : (list : List Emitted) → AllByRecursion IsInRange list → AllByRecursion Keeps list → AllByRecursion IsEmittedInsn list
all_insns [] range keeps = tt
all_insns (emitted ∷ list) range keeps = (one_insn emitted range.0 keeps.0, all_insns list range.1 keeps.1)

-- ---- what extends parameters

joined : (first second : List Emitted) → AllByRecursion Keeps first → AllByRecursion Keeps second → AllByRecursion Keeps (first ++ second)
joined [] second one two = two
joined (emitted ∷ first) second one two = (one.0, joined first second one.1 two)

fill_keeps : (fill : Fill) → AllByRecursion Keeps (fill_insns fill)
fill_keeps fill =
    elim fill.zero as (λ zero. AllByRecursion Keeps ((insns.Load kind.One fill.from, []) ∷ (if zero then insns.Zx else insns.Sx, []) ∷ (insns.Store kind.Two fill.to, []) ∷ [])) [
      | true ↦ ((tt, refl), ((tt, refl), ((tt, refl), tt)))
      | false ↦ ((tt, refl), ((tt, refl), ((tt, refl), tt)))
    ]

fills_keep : (fills : List Fill) → AllByRecursion Keeps (flat_map fill_insns fills)
fills_keep [] = tt
fills_keep (fill ∷ fills) = subst (AllByRecursion Keeps) (sym (flat_map-cons fill_insns fill fills)) (joined (fill_insns fill) (flat_map fill_insns fills) (fill_keeps fill) (fills_keep fills))

-- ---- the code of a body

module _ (setting : Setting) (compiled : IsCompiled setting) (body : Body) (of_set : Contains setting.world.bodies body) where
  emitted_keep : (pc : ℕ) (instruction : Op) → op_at body.ops pc ≡ Some instruction → AllByRecursion Keeps (emitted_at setting body pc instruction)
  emitted_keep pc instruction at =
      let source = source_for setting body in
      limits_kept (locals_by source.plan source.widths) source.ids (offset_of source) (point_at source.body.ops source.widths source.table pc) source.body.result instruction
      (rows_keep setting.world body.class instruction ((compiled.typed.facts body of_set).named pc instruction at))

  pub insns_in_range : AreInRange setting body → AreInsns setting body
  insns_in_range range =
      record {
        expansions = λ pc instruction at. all_insns (emitted_at setting body pc instruction) (range.expansions pc instruction at) (emitted_keep pc instruction at);
        fills = all_insns (fills_for setting body) range.fills (fills_keep (source_for setting body).plan.fills);
      }
