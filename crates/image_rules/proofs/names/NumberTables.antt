-- Where the types of a body say that a local is an int, the local is a parameter that is a whole number, or stored as one.
use Rattle.std.proofs.Common.{◌≡◌, ℕ, Bool, true, false, List, [], ◌∷◌, ◌++◌, map, get_or, slice_get, Option, Some, None, refl, sym, ap, subst, ◌∙◌}
use Rattle.std.specs.List.{AllByRecursion, Contains}
use Rattle.std.specs.Option.{option_map_or}
use Rattle.std.proofs.lemmas.Bool.{false≢true}
use Rattle.std.proofs.lemmas.List.{get_or_default}
use Rattle.std.proofs.lemmas.List.Elements.{recursion_from_All}
use Rattle.class_file.specs.declared.record.ClassFile.{ClassFile}
use Rattle.body_form.specs.declared.body.Body.{Body}
use Rattle.body_form.specs.declared.body.Guard.{Guard}
use Rattle.body_form.specs.declared.types.VFrame.{VFrame}
use Rattle.body_form.specs.declared.types.VType.{VType}
use Rattle.body_form.specs.Flow.{IsStart, successors}
use Rattle.body_form.specs.Reach.{IsClosed, handler_targets}
use Rattle.jvm_model.specs.TypesFrames.{is_int, may_be_local, may_be_operand, merge_lists, start_frame}
use Rattle.jvm_model.specs.TypesRight.{Table, Sent, IsMet}
use Rattle.type_rounds.proofs.tables.Starts.{start_has_op, holds_at}
use Rattle.set_image.specs.LinkRefusals.{is_built}
use Rattle.match_states.specs.Setting.{Setting, table_for}
use Rattle.follow_operands.proofs.SlottedTypes.{by_parts}
use Rattle.image_rules.specs.Parts.{IsOfAccepted}
use Rattle.image_rules.proofs.names.NumberTypes.{is_numbered, AreNumbers, are_numbers, are_tested, test_of, merged_from, start_numbers, after_numbers}

-- what holds of each that is contained holds of all
all_of : {X : Type 0} (P : X → Type 0) (xs : List X) → ((x : X) → Contains xs x → P x) → AllByRecursion P xs
all_of P xs each = recursion_from_All P xs (λ k d low. each (get_or xs k d) (k, low, get_or_default xs k (get_or xs k d) d low))

module _ (setting : Setting) (body : Body) (is : IsOfAccepted setting body) where
  abbrev files : List ClassFile
  files = setting.world.files

  abbrev table : Table
  table = table_for setting body

  knows : ℕ → Bool
  knows pc = option_map_or (λ (frame : VFrame). are_numbers body 0 frame.locals) (table pc) false

  abbrev Met : Sent → Type 0
  Met sent = IsStart body.ops sent.to → IsMet files table sent

  abbrev Known : ℕ → Type 0
  Known pc = knows pc ≡ true

  -- what is met by a frame whose locals are so is so itself
  met_known : (sent : Sent) → AreNumbers body sent.frame.locals → IsMet files table sent → Known sent.to
  unfolding knows AreNumbers
  met_known sent numbers met =
      let merged = by_parts body _ (merge_lists files may_be_local met.upper.locals sent.frame.locals) (merge_lists files may_be_operand met.upper.stack sent.frame.stack) met.upper met.above in
      ap (λ found. option_map_or (λ (frame : VFrame). are_numbers body 0 frame.locals) found false) met.has
      ∙ test_of body met.upper.locals (λ local type there int.
      let from = merged_from body files met.upper.locals sent.frame.locals met.upper.locals merged local type there int in
      numbers local from.type from.there from.int)

  to_all : (after : VFrame) → AreNumbers body after.locals → (pcs : List ℕ) → AllByRecursion (IsStart body.ops) pcs → (rest : List Sent) → AllByRecursion Met (map (λ to. record { to = to; frame = after }) pcs ++ rest) → AllByRecursion Known (pcs ++ [])
  to_all after numbers [] starts rest met = tt
  to_all after numbers (to ∷ pcs) starts rest met = (met_known (record { to = to; frame = after }) numbers (met.0 starts.0), to_all after numbers pcs starts.1 rest met.1)

  -- what is known at a pc is known where its instruction leads
  known_on : (pc : ℕ) → IsStart body.ops pc → (found : Option VFrame) → table pc ≡ found → option_map_or (λ (frame : VFrame). are_numbers body 0 frame.locals) found false ≡ true
      → AllByRecursion Known (successors body.ops pc ++ handler_targets body.handlers pc)
  known_on pc start None at known = absurd (false≢true known)
  known_on pc start (Some before) at known =
      let there = start_has_op body.ops pc start in
      let holds = is.right.rules pc there.0 before there.1 at in
      let built = holds_at (λ x. is_built x.1 ≡ true) body.ops is.built pc there.0 there.1 in
      let after = after_numbers body files pc there.0 before holds.after there.1 built (are_tested body before.locals known) holds.rule in
      let starts = all_of (IsStart body.ops) (successors body.ops pc) (is.facts.leads pc there.0 there.1).starts in
      subst (λ (guards : List Guard). AllByRecursion Known (successors body.ops pc ++ handler_targets guards pc)) (sym is.handlers) (to_all holds.after after (successors body.ops pc) starts _ holds.met)

  knows_closed : IsClosed knows body
  unfolding knows
  knows_closed pc start known = known_on pc start (table pc) refl known

  pub numbered_types : (pc : ℕ) (frame : VFrame) → table pc ≡ Some frame → (local : ℕ) (type : VType) → slice_get frame.locals local ≡ Some type → is_int type ≡ true → is_numbered body local ≡ true
  unfolding knows AreNumbers
  numbered_types pc frame at =
      let reached = (is.right.only pc frame at).1 knows (met_known (record { to = 0; frame = start_frame files body }) (start_numbers body files is.params) (is.right.start is.facts.first)) knows_closed in
      are_tested body frame.locals (sym (ap (λ found. option_map_or (λ (frame : VFrame). are_numbers body 0 frame.locals) found false) at) ∙ reached)
