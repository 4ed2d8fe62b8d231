-- The first row of a method's code that handles a throw is that of its body, where a frame stands in the code.
use Rattle.std.proofs.Common.{◌≡◌, ℕ, Bool, true, false, ◌&&◌, ◌||◌, nat_eq, nat_lt, nat_le, cond, List, [], ◌∷◌, map, filter, Option, Some, option_map, option_and_then, refl, sym, ap, ◌∙◌, arith}
use Rattle.std.specs.List.{AllByRecursion, find}
use Rattle.std.proofs.lemmas.Bool.Decides.{nat_tests}
use Rattle.image_form.specs.declared.record.HandlerEntry.{HandlerEntry}
use Rattle.image_form.specs.declared.record.Image.{Image}
use Rattle.image_form.specs.declared.record.Method.{Method}
use Rattle.image_instr.specs.declared.insn.MInsn.{MInsn}
use Rattle.image_instr.specs.declared.insn.SwitchRow.{SwitchRow}
use Rattle.image_instr.specs.Insn.{IsInsn}
use Rattle.body_form.specs.declared.body.Body.{Body}
use Rattle.body_form.specs.declared.body.Guard.{Guard}
use Rattle.body_form.specs.declared.op.Op.{Op}
use Rattle.body_form.specs.Flow.{covers}
use Rattle.jvm_model.specs.ImageEmission.{Source, offset_of, caught_id, handler_of, handlers_of}
use Rattle.mote_model.specs.SplitMoves as split
use Rattle.mote_model.specs.SplitMoves.{handles}
use Rattle.mote_model.specs.SplitState.{method_at}
use Rattle.mote_model.specs.SplitTypes.{is_below}
use Rattle.mote_model.specs.State.{Frame}
use Rattle.jvm_model.specs.ImageExpansion.{Emitted}
use Rattle.typed_machine.specs.TypedMoves as typed
use Rattle.typed_machine.specs.TypedWorld.{World, guards_at}
use Rattle.match_states.specs.Setting.{Setting, IsCompiled, source_for}
use Rattle.match_code.specs.Standing.{StandsInExpansion}
use Rattle.match_code.proofs.CodeMoves.{compiled_body}
use Rattle.match_code.proofs.CodeOrder.{same_covering}

-- the row covers an offset
abbrev covers_offset : ℕ → HandlerEntry → Bool
covers_offset offset handler = nat_le handler.start offset && nat_lt offset handler.end

-- what is of a type is of the class that the row catches
abbrev pub catches : Image → ℕ → ℕ → Bool
catches image type class = nat_eq class 65535 || is_below image type class

is_kept : HandlerEntry → Bool
is_kept handler = nat_lt handler.start handler.end

-- a row that covers something is kept
covering_kept : (offset : ℕ) (handler : HandlerEntry) → covers_offset offset handler ≡ true → is_kept handler ≡ true
unfolding is_kept
covering_kept offset handler e = grind (arith, nat_tests)

-- a row that does not cover the offset is not found
find_past : (image : Image) (type offset : ℕ) (handler : HandlerEntry) (rest : List HandlerEntry) → covers_offset offset handler ≡ false → (kept : Bool)
    → find (handles image type offset) (cond kept (handler ∷ rest) rest) ≡ find (handles image type offset) rest
find_past image type offset handler rest e false = refl
find_past image type offset handler rest e true = ap (λ (b : Bool). cond (b && catches image type handler.class) (Some handler) (find (handles image type offset) rest)) e

-- both machines say the same of what the row catches
abbrev pub CatchesAlike : Source → Image → ℕ → World → ℕ → Guard → Type 0
CatchesAlike source image type world class guard = catches image type (caught_id source guard) ≡ typed.handles world class guard

module _ (source : Source) (image : Image) (type : ℕ) (world : World) (class : ℕ) (pc offset : ℕ) where
  abbrev IsAlike : Guard → Type 0
  IsAlike guard = CatchesAlike source image type world class guard

  abbrev found_among : List Guard → Option HandlerEntry
  found_among guards = find (handles image type offset) (filter (λ handler. nat_lt handler.start handler.end) (map (handler_of source) guards))

  abbrev first_among : List Guard → Option HandlerEntry
  first_among guards = option_map (handler_of source) (typed.first_handler world class (filter (covers pc) guards))

  caught_first : (guard : Guard) (guards : List Guard) (catching : Bool) → found_among guards ≡ first_among guards
      → cond catching (Some (handler_of source guard)) (found_among guards) ≡ option_map (handler_of source) (cond catching (Some guard) (typed.first_handler world class (filter (covers pc) guards)))
  caught_first guard guards true same = refl
  caught_first guard guards false same = same

  first_here : (guard : Guard) (rest : List Guard) → typed.first_handler world class (guard ∷ rest) ≡ cond (typed.handles world class guard) (Some guard) (typed.first_handler world class rest)
  unfolding typed.first_handler
  first_here guard rest = refl

  one_row : (guard : Guard) (guards : List Guard) → (covering : Bool) → covers_offset offset (handler_of source guard) ≡ covering → covers pc guard ≡ covering → IsAlike guard → found_among guards ≡ first_among guards
      → found_among (guard ∷ guards) ≡ first_among (guard ∷ guards)
  unfolding is_kept
  one_row guard guards false there here alike same =
      find_past image type offset (handler_of source guard) (filter (λ handler. nat_lt handler.start handler.end) (map (handler_of source) guards)) there (nat_lt (offset_of source guard.start) (offset_of source guard.end))
      ∙ same
      ∙ sym (ap (λ (b : Bool). option_map (handler_of source) (typed.first_handler world class (cond b (guard ∷ filter (covers pc) guards) (filter (covers pc) guards)))) here)
  one_row guard guards true there here alike same =
      let rest = filter (λ handler. nat_lt handler.start handler.end) (map (handler_of source) guards) in
      ap (λ (b : Bool). find (handles image type offset) (cond b (handler_of source guard ∷ rest) rest)) (covering_kept offset (handler_of source guard) there)
      ∙ ap (λ (b : Bool). cond (b && catches image type (caught_id source guard)) (Some (handler_of source guard)) (found_among guards)) there
      ∙ ap (λ (b : Bool). cond b (Some (handler_of source guard)) (found_among guards)) alike
      ∙ caught_first guard guards (typed.handles world class guard) same
      ∙ sym (ap (option_map (handler_of source)) (first_here guard (filter (covers pc) guards)))
      ∙ sym (ap (λ (b : Bool). option_map (handler_of source) (typed.first_handler world class (cond b (guard ∷ filter (covers pc) guards) (filter (covers pc) guards)))) here)

  rows_alike : ((guard : Guard) → covers_offset offset (handler_of source guard) ≡ covers pc guard) → (guards : List Guard) → AllByRecursion IsAlike guards → found_among guards ≡ first_among guards
  unfolding typed.first_handler
  rows_alike covering [] alike = refl
  rows_alike covering (guard ∷ guards) alike =
      one_row guard guards (covers pc guard) (covering guard) refl alike.0 (rows_alike covering guards alike.1)

  -- the first row of the code that handles it is that of the body
  pub first_row : ((guard : Guard) → (nat_le (offset_of source guard.start) offset && nat_lt offset (offset_of source guard.end)) ≡ covers pc guard) → AllByRecursion IsAlike source.body.handlers
      → find (handles image type offset) (handlers_of source) ≡ option_map (handler_of source) (typed.first_handler world class (filter (covers pc) source.body.handlers))
  first_row covering alike = rows_alike covering source.body.handlers alike

-- the row of a frame's method that handles it, where the frame stands in an expansion
pub handler_here : (setting : Setting) (compiled : IsCompiled setting) (body : Body) (frame : Frame) (pc : ℕ) (instruction : Op) (first : List Emitted) (insn : MInsn) (rows : List SwitchRow) (rest : List Emitted)
    → StandsInExpansion setting body frame pc instruction first insn rows rest → IsInsn insn rows → (type class : ℕ) → AllByRecursion (CatchesAlike (source_for setting body) setting.image type setting.world class) body.handlers
    → split.handler_of setting.image type frame ≡ option_map (handler_of (source_for setting body)) (typed.first_handler setting.world class (guards_at body pc))
handler_here setting compiled body frame pc instruction first insn rows rest stands is type class alike =
    ap (option_and_then (λ (method : Method). find (split.handles setting.image type frame.pc) method.handlers)) (ap (method_at setting.image) stands.method ∙ (compiled_body setting compiled body stands.of_set).method)
    ∙ first_row (source_for setting body) setting.image type setting.world class pc frame.pc (same_covering setting compiled body frame pc instruction first insn rows rest stands is) alike
