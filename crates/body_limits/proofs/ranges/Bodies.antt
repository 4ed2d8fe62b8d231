-- The numbers of the machine instructions of a body are of their types where its image keeps to its limits.
use Rattle.std.proofs.Common.{◌≡◌, ℕ, ◌^◌, ◌<◌, ◌≤◌, Some, sym, subst, arith}
use Rattle.std.specs.List.{flat_map}
use Rattle.body_form.specs.declared.body.Body.{Body}
use Rattle.body_form.specs.declared.op.Op.{Op}
use Rattle.jvm_model.specs.declared.plan.Plan.{Plan}
use Rattle.jvm_model.specs.ImageEmission.{locals_by, offset_of}
use Rattle.jvm_model.specs.TypesRules.{op_at}
use Rattle.jvm_model.specs.WidthsFrame.{fill_insns}
use Rattle.jvm_model.specs.WidthsShapes.{widths_of, point_at}
use Rattle.expansion.proofs.SizesBelow.{offset_within}
use Rattle.type_safety.specs.Facts.{Named}
use Rattle.type_safety.specs.Safety.{PhasesGiveFacts}
use Rattle.type_safety.proofs.facts.FewCounts.{HasFewCounts}
use Rattle.type_safety.proofs.facts.PhaseFacts.{phases_keep_counts}
use Rattle.match_states.specs.Setting.{Setting, table_for, plan_for, source_for}
use Rattle.match_code.specs.Standing.{AreInRange}
use Rattle.body_limits.specs.Limits.{KeepsImageLimits, NumbersAreInRange}
use Rattle.body_limits.proofs.ranges.Plain.{InRange}
use Rattle.body_limits.proofs.ranges.PlanLocals.{LocalsFit, plan_fits, plan_fills}
use Rattle.body_limits.proofs.ranges.ImageIds.{IdsFit, ids_fit}
use Rattle.body_limits.proofs.ranges.Expansions.{expansion_in}

module _ (setting : Setting) (body : Body) (limits : KeepsImageLimits setting body) where
  abbrev laid : Plan → Type 0
  laid plan = LocalsFit (locals_by plan (source_for setting body).widths)

  frame : (plan_for setting body).body ≤ 32763
  frame = limits.frame

  locals_fit : LocalsFit (locals_by (plan_for setting body) (source_for setting body).widths)
  locals_fit =
      let narrow = (plan_for setting body).narrow in
      let table = table_for setting body in
      subst laid (sym limits.plan)
      (plan_fits body table narrow (widths_of narrow table body.ops) (subst (λ (plan : Plan). plan.body ≤ 32763) limits.plan limits.frame) (source_for setting body).widths)

  numbers_fit : IdsFit (source_for setting body).ids
  numbers_fit = ids_fit setting.numbering limits.types limits.methods limits.selectors limits.places

  offset_fits : (pc : ℕ) → offset_of (source_for setting body) pc < 2 ^ 16
  offset_fits pc =
      let within = offset_within (source_for setting body) pc in
      let code = limits.code in
      omega (arith, within, code)

  pub body_in_range : ((pc : ℕ) (instruction : Op) → op_at body.ops pc ≡ Some instruction → Named setting.world body.class instruction) → ((pc : ℕ) (instruction : Op) → op_at body.ops pc ≡ Some instruction → HasFewCounts instruction) → AreInRange setting body
  body_in_range named few =
      let source = source_for setting body in
      let narrow = (plan_for setting body).narrow in
      let table = table_for setting body in
      record {
        expansions = λ pc instruction at.
            expansion_in setting.world body.class (locals_by source.plan source.widths) source.ids (offset_of source) source.body.result (point_at source.body.ops source.widths source.table pc) locals_fit numbers_fit offset_fits
            instruction (named pc instruction at) (few pc instruction at);
        fills = subst (λ (plan : Plan). InRange (flat_map fill_insns plan.fills)) (sym limits.plan) (plan_fills body table narrow (widths_of narrow table body.ops) (subst (λ (plan : Plan). plan.body ≤ 32763) limits.plan limits.frame));
      }

pub numbers_are_in_range : PhasesGiveFacts → NumbersAreInRange
numbers_are_in_range facts files setting is body there limits =
    body_in_range setting body limits (facts files setting.world setting.tables is body there).named (phases_keep_counts files setting.world setting.tables is body there)
