-- What an instruction does whose types are known: its machine instructions move the operands as its rule says, and where it
-- leads the types are known, with as many references and cells.
use Rattle.std.proofs.Common.{◌≡◌, ℕ, Bool, true, false, ◌&&◌, if◌then◌else◌, nat_eq, List, [], ◌∷◌, Some, refl, sym, ap, subst, ◌∙◌}
use Rattle.std.specs.List.{AllByRecursion, Contains}
use Rattle.std.specs.Option.{option_map_or}
use Rattle.std.proofs.lemmas.Bool.{false≢true}
use Rattle.std.proofs.lemmas.Option.{none-some, same_Some}
use Rattle.body_form.specs.declared.body.Body.{Body}
use Rattle.body_form.specs.declared.op.Op.{Op}
use Rattle.body_form.specs.declared.types.VFrame.{VFrame}
use Rattle.body_form.specs.declared.types.VType.{VType}
use Rattle.body_form.specs.Flow.{IsStart, Ops, goes_on, leads_to, successors, targets}
use Rattle.jvm_model.specs.ImageEmission.{locals_by, method_of, offset_of}
use Rattle.jvm_model.specs.TypesFrames.{start_frame}
use Rattle.jvm_model.specs.TypesRight.{IsMet, Sent}
use Rattle.jvm_model.specs.TypesRules.{frame_after, is_last, op_at}
use Rattle.jvm_model.specs.WidthsShapes.{point_at, shapes_at}
use Rattle.typed_machine.specs.TypedWorld.{pc_after}
use Rattle.type_rounds.proofs.tables.SentFrames.{sent_successors}
use Rattle.type_rounds.proofs.tables.Starts.{holds_at, start_has_op}
use Rattle.type_safety.proofs.fitting.SetBodies.{change_by}
use Rattle.type_safety.proofs.fitting.SetLists.{all_contained}
use Rattle.match_states.specs.Setting.{Setting, source_for, table_for, widths_for}
use Rattle.match_code.specs.Standing.{emitted_at}
use Rattle.match_code.proofs.CodeLayout.{same_after}
use Rattle.follow_operands.proofs.WideLocals.{two_cells_wide}
use Rattle.set_image.specs.LinkRefusals.{is_built}
use Rattle.image_rules.specs.Depths.{MoveRight, wide}
use Rattle.image_rules.specs.Parts.{CallsAs, ExpansionsMoveRight, IsAround, IsKnownAt, IsOfAccepted}
use Rattle.image_rules.proofs.WideShapes.{above_shapes, shapes_known}

-- what an instruction calls has the signature that it names, in each body of an accepted set
abbrev pub ExpansionsCallAs : Type 0
ExpansionsCallAs =
    (setting : Setting) (body : Body) → IsOfAccepted setting body → (pc : ℕ) (instruction : Op) → op_at body.ops pc ≡ Some instruction
    → CallsAs setting.image (source_for setting body).ids instruction

-- ---- control

-- what holds where an instruction leads holds of its targets
leading_targets : (P : ℕ → Type 0) (instruction : Op) (rest : Ops) → AllByRecursion P (leads_to instruction rest) → AllByRecursion P (targets instruction)
leading_targets P instruction [] all = all
leading_targets P instruction (next ∷ rest) all = by (goes_on instruction) all
  where
    by : (on : Bool) → AllByRecursion P (if on then next.0 ∷ targets instruction else targets instruction) → AllByRecursion P (targets instruction)
    by true all = all.1
    by false all = all

pub all_targets : (P : ℕ → Type 0) (ops : Ops) (pc : ℕ) (instruction : Op) → op_at ops pc ≡ Some instruction → AllByRecursion P (successors ops pc)
    → AllByRecursion P (targets instruction)
unfolding op_at
all_targets P [] pc instruction at all = absurd (none-some instruction at)
all_targets P ((here, first) ∷ ops) pc instruction at all = by (nat_eq here pc) at all (all_targets P ops pc instruction)
  where
    by : (same : Bool) → (if same then Some first else op_at ops pc) ≡ Some instruction → AllByRecursion P (if same then leads_to first ops else successors ops pc)
        → (op_at ops pc ≡ Some instruction → AllByRecursion P (successors ops pc) → AllByRecursion P (targets instruction)) → AllByRecursion P (targets instruction)
    by true at all later = subst (λ (o : Op). AllByRecursion P (targets o)) (same_Some first instruction at) (leading_targets P first ops all)
    by false at all later = later at all

-- what goes on is not the last
last_or_on : (on last : Bool) → (on && last) ≡ false → on ≡ true → last ≡ false
last_or_on true last none is = none
last_or_on false last none is = absurd (false≢true is)

-- the types are known at a pc, with operands of the shapes of these
pub record IsKnownWith (setting : Setting) (body : Body) (types : List VType) (pc : ℕ) : Type 0 where
  pub is : IsKnownAt setting body pc
  pub shapes : wide is.frame.stack ≡ wide types

module _ (setting : Setting) (body : Body) (of : IsOfAccepted setting body) where
  known_with : (sent : Sent) → IsStart body.ops sent.to → IsMet setting.world.files (table_for setting body) sent → IsKnownWith setting body sent.frame.stack sent.to
  known_with sent start met =
      let there = start_has_op body.ops sent.to start in
      record { is = record { instruction = there.0; at = there.1; frame = met.upper; types = met.has }; shapes = above_shapes setting.world.files met.upper sent.frame met.above }

  -- a body starts with no operands
  pub known_first : IsKnownWith setting body [] 0
  known_first =
      let facts = of.facts in
      let right = of.right in
      known_with (record { to = 0; frame = start_frame setting.world.files body }) facts.first (right.start facts.first)

  pub is_built_at : (pc : ℕ) (instruction : Op) → op_at body.ops pc ≡ Some instruction → is_built instruction ≡ true
  is_built_at pc instruction at = holds_at (λ x. is_built x.1 ≡ true) body.ops of.built pc instruction at

  module _ (pc : ℕ) (is : IsKnownAt setting body pc) where
    -- the frame after the instruction, and where it leads
    pub record Steps : Type 0 where
      pub after : VFrame
      pub rule : frame_after setting.world.files body pc is.instruction is.frame ≡ Some after
      pub leads : (to : ℕ) → Contains (successors body.ops pc) to → IsKnownWith setting body after.stack to
      pub next : goes_on is.instruction ≡ true → (to : ℕ) × (pc_after body.ops pc ≡ Some to) × Contains (successors body.ops pc) to

    pub steps : Steps
    steps =
        let world = setting.world in
        let facts = of.facts in
        let right = of.right in
        let holds = right.rules pc is.instruction is.frame is.at is.types in
        let Met : Sent → Type 0 = λ sent. IsStart body.ops sent.to → IsMet world.files (table_for setting body) sent in
        let MetAt : ℕ → Type 0 = λ n. Met (record { to = n; frame = holds.after }) in
        let sent = sent_successors body Met pc is.frame holds.after holds.met in
        let there = facts.leads pc is.instruction is.at in
        let change = change_by world.files body pc is.instruction is.frame holds.after holds.rule in
        record {
          after = holds.after;
          rule = holds.rule;
          leads = λ to among.
              let start = there.starts to among in
              known_with (record { to = to; frame = holds.after }) start (all_contained MetAt (successors body.ops pc) sent to among start);
          next = λ on. there.next on (last_or_on (goes_on is.instruction) (is_last body.ops pc) change.ends on);
        }

    module _ (step : Steps) where
      -- the operands around the instruction
      around : IsAround is.instruction is.frame step.after (point_at body.ops (widths_for setting body) (table_for setting body) pc)
      around =
          let shapes = shapes_at (widths_for setting body) (table_for setting body) in
          record {
            before_is = shapes_known setting body of.wide pc is.frame is.types;
            after_is = λ on.
                let next = step.next on in
                let there = step.leads next.0 next.2 in
                ap (λ found. option_map_or shapes found []) (sym (same_after body.ops pc) ∙ next.1)
                ∙ shapes_known setting body of.wide next.0 there.is.frame there.is.types
                ∙ there.shapes;
          }

      -- its machine instructions have their operands, and lead to those after it
      pub moved_right : ExpansionsMoveRight → ExpansionsCallAs
          → MoveRight setting.image (method_of (source_for setting body)) is.frame.stack (emitted_at setting body pc is.instruction) step.after.stack
      moved_right moves calls =
          let source = source_for setting body in
          moves setting.world.files body pc is.instruction is.frame step.after (is_built_at pc is.instruction is.at) step.rule (of.dims pc is.instruction is.at)
          setting.image (method_of source) refl
          (locals_by source.plan source.widths) (two_cells_wide setting body of.wide)
          source.ids (calls setting body of pc is.instruction is.at)
          (offset_of source) (point_at body.ops (widths_for setting body) (table_for setting body) pc) around
