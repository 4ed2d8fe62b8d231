-- Where a right table says that a local is a reference, the local has a slot.
use Rattle.std.proofs.Common.{◌≡◌, ℕ, Bool, true, false, cond, List, [], ◌∷◌, ◌++◌, map, filter, get_or, Option, Some, None, refl, sym, ap, ◌∙◌}
use Rattle.std.specs.Prelude.{slice_get}
use Rattle.std.specs.List.{AllByRecursion, Contains}
use Rattle.std.specs.Option.{option_map_or}
use Rattle.std.proofs.lemmas.List.{get_or_default}
use Rattle.std.proofs.lemmas.List.Elements.{All-from_recursion, All-contains, recursion_from_All}
use Rattle.body_form.specs.declared.body.Body.{Body}
use Rattle.body_form.specs.declared.body.Guard.{Guard}
use Rattle.body_form.specs.declared.types.VFrame.{VFrame}
use Rattle.body_form.specs.declared.types.VType.{VType}
use Rattle.body_form.specs.Flow.{IsStart, covers, successors}
use Rattle.body_form.specs.Reach.{IsClosed, handler_targets}
use Rattle.jvm_model.specs.TypesFrames.{may_be_local, may_be_operand, merge_lists, start_frame}
use Rattle.jvm_model.specs.TypesRight.{Table, Sent, IsMet, IsRight, entered, sent_to_handlers}
use Rattle.jvm_model.specs.TypesRules.{is_any_reference}
use Rattle.typed_machine.specs.TypedWorld.{World}
use Rattle.type_rounds.proofs.tables.Starts.{start_has_op}
use Rattle.type_safety.specs.Facts.{BodyFacts}
use Rattle.match_states.specs.Setting.{Setting, IsCompiled, table_for}
use Rattle.follow_operands.proofs.ReferenceSlots.{is_slotted}
use Rattle.follow_operands.proofs.SlottedTypes.{AreFine, are_fine, are_tested, test_of, merged_from, by_parts, start_fine, after_fine}

-- what holds of each that is contained holds of all
all_of : {X : Type 0} (P : X → Type 0) (xs : List X) → ((x : X) → Contains xs x → P x) → AllByRecursion P xs
all_of P xs each = recursion_from_All P xs (λ k d low. each (get_or xs k d) (k, low, get_or_default xs k (get_or xs k d) d low))

module _ (world : World) (body : Body) (table : Table) (facts : BodyFacts world body) (right : IsRight world.files body table) where
  knows : ℕ → Bool
  knows pc = option_map_or (λ (frame : VFrame). are_fine body 0 frame.locals) (table pc) false

  abbrev Met : Sent → Type 0
  Met sent = IsStart body.ops sent.to → IsMet world.files table sent

  abbrev Known : ℕ → Type 0
  Known pc = knows pc ≡ true

  -- what is met by a frame whose locals are so is so itself
  met_known : (sent : Sent) → AreFine body sent.frame.locals → IsMet world.files table sent → Known sent.to
  unfolding knows AreFine
  met_known sent fine met =
      let merged = by_parts body _ (merge_lists world.files may_be_local met.upper.locals sent.frame.locals) (merge_lists world.files may_be_operand met.upper.stack sent.frame.stack) met.upper met.above in
      ap (λ found. option_map_or (λ (frame : VFrame). are_fine body 0 frame.locals) found false) met.has
      ∙ test_of body met.upper.locals (λ local type there reference.
      let from = merged_from body world.files met.upper.locals sent.frame.locals met.upper.locals merged local type there reference in
      fine local from.type from.there from.reference)

  one_guard : (before after : VFrame) → AreFine body before.locals → (guard : Guard) (rest : List Guard) → IsStart body.ops guard.target
      → (AllByRecursion Met (sent_to_handlers before after rest) → AllByRecursion Known (map (λ (guard : Guard). guard.target) rest))
      → (here : Bool) → AllByRecursion Met (sent_to_handlers before after (cond here (guard ∷ rest) rest)) → AllByRecursion Known (map (λ (guard : Guard). guard.target) (cond here (guard ∷ rest) rest))
  unfolding sent_to_handlers
  one_guard before after fine guard rest start later true met = (met_known (record { to = guard.target; frame = entered guard before }) fine (met.0 start), later met.1.1)
  one_guard before after fine guard rest start later false met = later met

  to_handlers : (pc : ℕ) (before after : VFrame) → AreFine body before.locals → (guards : List Guard) → AllByRecursion (λ (guard : Guard). IsStart body.ops guard.target) guards
      → AllByRecursion Met (sent_to_handlers before after (filter (covers pc) guards)) → AllByRecursion Known (handler_targets guards pc)
  to_handlers pc before after fine [] starts met = tt
  to_handlers pc before after fine (guard ∷ guards) starts met =
      one_guard before after fine guard (filter (covers pc) guards) starts.0 (to_handlers pc before after fine guards starts.1) (covers pc guard) met

  to_all : (after : VFrame) → AreFine body after.locals → (pcs : List ℕ) → AllByRecursion (IsStart body.ops) pcs → (rest : List Sent) (others : List ℕ) → (AllByRecursion Met rest → AllByRecursion Known others)
      → AllByRecursion Met (map (λ to. record { to = to; frame = after }) pcs ++ rest) → AllByRecursion Known (pcs ++ others)
  to_all after fine [] starts rest others later met = later met
  to_all after fine (to ∷ pcs) starts rest others later met = (met_known (record { to = to; frame = after }) fine (met.0 starts.0), to_all after fine pcs starts.1 rest others later met.1)

  -- what is known at a pc is known where its instruction leads
  known_on : (pc : ℕ) → IsStart body.ops pc → (found : Option VFrame) → table pc ≡ found → option_map_or (λ (frame : VFrame). are_fine body 0 frame.locals) found false ≡ true
      → AllByRecursion Known (successors body.ops pc ++ handler_targets body.handlers pc)
  known_on pc start None at is = absurd cc
  known_on pc start (Some before) at is =
      let there = start_has_op body.ops pc start in
      let holds = right.rules pc there.0 before there.1 at in
      let fine = are_tested body before.locals is in
      let fine_after = after_fine body world.files pc there.0 before holds.after there.1 fine holds.rule in
      let starts = all_of (IsStart body.ops) (successors body.ops pc) (facts.leads pc there.0 there.1).starts in
      let handlers = all_of (λ (guard : Guard). IsStart body.ops guard.target) body.handlers facts.handlers in
      to_all holds.after fine_after (successors body.ops pc) starts (sent_to_handlers before holds.after (filter (covers pc) body.handlers)) (handler_targets body.handlers pc)
      (to_handlers pc before holds.after fine body.handlers handlers) holds.met

  knows_closed : IsClosed knows body
  unfolding knows
  knows_closed pc start is = known_on pc start (table pc) refl is

  -- a local that is known as a reference has a slot
  pub slotted_types : (pc : ℕ) (frame : VFrame) → table pc ≡ Some frame → (local : ℕ) (type : VType) → slice_get frame.locals local ≡ Some type → is_any_reference type ≡ true → is_slotted body local ≡ true
  unfolding knows AreFine
  slotted_types pc frame at =
      let reached = (right.only pc frame at).1 knows (met_known (record { to = 0; frame = start_frame world.files body }) (start_fine body world.files) (right.start facts.first)) knows_closed in
      are_tested body frame.locals (sym (ap (λ found. option_map_or (λ (frame : VFrame). are_fine body 0 frame.locals) found false) at) ∙ reached)

-- in the bodies of a compiled set
pub body_slotted : (setting : Setting) → IsCompiled setting → (body : Body) → Contains setting.world.bodies body → (pc : ℕ) (types : VFrame) → table_for setting body pc ≡ Some types
    → (local : ℕ) (type : VType) → slice_get types.locals local ≡ Some type → is_any_reference type ≡ true → is_slotted body local ≡ true
body_slotted setting compiled body among pc types at =
    let Right : Body → Type 0 = λ b. IsRight setting.world.files b (table_for setting b) in
    let right = All-contains Right setting.world.bodies body (All-from_recursion Right setting.world.bodies compiled.typed.types) among in
    slotted_types setting.world body (table_for setting body) (compiled.typed.facts body among) right pc types at
