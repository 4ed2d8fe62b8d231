-- What instructions send: each frame of an instruction whose rule holds, to its successors and its handlers.
use Rattle.std.proofs.Common.{◌≡◌, ℕ, List, [], ◌∷◌, map, filter, Option, Some, None, refl, subst}
use Rattle.std.specs.Option.{option_map_or}
use Rattle.std.specs.List.{AllByRecursion}
use Rattle.class_file.specs.declared.record.ClassFile.{ClassFile}
use Rattle.body_form.specs.declared.op.Op.{Op}
use Rattle.body_form.specs.declared.body.Body.{Body}
use Rattle.body_form.specs.declared.body.Guard.{Guard}
use Rattle.body_form.specs.declared.types.VFrame.{VFrame}
use Rattle.body_form.specs.Flow.{Ops, covers, successors}
use Rattle.jvm_model.specs.TypesRules.{frame_after}
use Rattle.jvm_model.specs.TypesRight.{Table, Sent, entered, sent_to_handlers, sent_from}
use Rattle.jvm_model.specs.TypesRounds.{sent_by, sent_by_each}
use Rattle.type_rounds.proofs.tables.Lists.{all_append, all_prefix, all_suffix, all_given, all_from}

-- ---- one instruction

-- a property of both frames that are sent to a handler
abbrev pub AtHandler : (Sent → Type 0) → VFrame → VFrame → Guard → Type 0
AtHandler Q before after guard =
    Q (record { to = guard.target; frame = entered guard before }) × Q (record { to = guard.target; frame = entered guard after })

module _ (Q : Sent → Type 0) (before after : VFrame) where
  to_handlers : (guards : List Guard) → AllByRecursion (AtHandler Q before after) guards → AllByRecursion Q (sent_to_handlers before after guards)
  unfolding sent_to_handlers
  to_handlers [] all = tt
  to_handlers (guard ∷ guards) all = (all.0.0, (all.0.1, to_handlers guards all.1))

  from_handlers : (guards : List Guard) → AllByRecursion Q (sent_to_handlers before after guards) → AllByRecursion (AtHandler Q before after) guards
  unfolding sent_to_handlers
  from_handlers [] all = tt
  from_handlers (guard ∷ guards) all = ((all.0, all.1.0), from_handlers guards all.1.1)

module _ (body : Body) (Q : Sent → Type 0) (pc : ℕ) (before after : VFrame) where
  abbrev sent_on : ℕ → Sent
  sent_on to = record { to = to; frame = after }

  pub all_sent : AllByRecursion (λ to. Q (record { to = to; frame = after })) (successors body.ops pc) → AllByRecursion (AtHandler Q before after) (filter (covers pc) body.handlers)
      → AllByRecursion Q (sent_from body pc before after)
  all_sent first second =
      all_append Q (map sent_on (successors body.ops pc)) (sent_to_handlers before after (filter (covers pc) body.handlers))
      (all_given Q sent_on (successors body.ops pc) first) (to_handlers Q before after (filter (covers pc) body.handlers) second)

  pub sent_successors : AllByRecursion Q (sent_from body pc before after) → AllByRecursion (λ to. Q (record { to = to; frame = after })) (successors body.ops pc)
  sent_successors all =
      all_from Q sent_on (successors body.ops pc) (all_prefix Q (map sent_on (successors body.ops pc)) (sent_to_handlers before after (filter (covers pc) body.handlers)) all)

  pub sent_handlers : AllByRecursion Q (sent_from body pc before after) → AllByRecursion (AtHandler Q before after) (filter (covers pc) body.handlers)
  sent_handlers all =
      from_handlers Q before after (filter (covers pc) body.handlers)
      (all_suffix Q (map sent_on (successors body.ops pc)) (sent_to_handlers before after (filter (covers pc) body.handlers)) all)

-- ---- all instructions

module _ (files : List ClassFile) (body : Body) (table : Table) (Q : Sent → Type 0) where
  -- all that an instruction sends, if it has a frame and its rule holds in it, has the property
  abbrev pub SendsAll : ℕ × Op → Type 0
  SendsAll x = (frame after : VFrame) → table x.0 ≡ Some frame → frame_after files body x.0 x.1 frame ≡ Some after → AllByRecursion Q (sent_from body x.0 frame after)

  after_with : (x : ℕ × Op) (frame : VFrame) (o : Option VFrame) → ((after : VFrame) → o ≡ Some after → AllByRecursion Q (sent_from body x.0 frame after))
      → AllByRecursion Q (option_map_or (sent_from body x.0 frame) o [])
  after_with x frame None h = tt
  after_with x frame (Some after) h = h after refl

  abbrev sent_with : ℕ × Op → Option VFrame → List Sent
  sent_with x o = option_map_or (λ frame. option_map_or (sent_from body x.0 frame) (frame_after files body x.0 x.1 frame) []) o []

  before_with : (x : ℕ × Op) (o : Option VFrame)
      → ((frame after : VFrame) → o ≡ Some frame → frame_after files body x.0 x.1 frame ≡ Some after → AllByRecursion Q (sent_from body x.0 frame after))
      → AllByRecursion Q (sent_with x o)
  before_with x None h = tt
  before_with x (Some frame) h = after_with x frame (frame_after files body x.0 x.1 frame) (λ after e. h frame after refl e)

  pub sent_one : (x : ℕ × Op) → SendsAll x → AllByRecursion Q (sent_by files body table x)
  sent_one x h = before_with x (table x.0) h

  one_sends : (x : ℕ × Op) → AllByRecursion Q (sent_by files body table x) → SendsAll x
  one_sends x all frame after before rule =
      subst (λ o. AllByRecursion Q (option_map_or (sent_from body x.0 frame) o [])) rule (subst (λ o. AllByRecursion Q (sent_with x o)) before all)

  pub all_sent_by_each : (ops : Ops) → AllByRecursion SendsAll ops → AllByRecursion Q (sent_by_each files body table ops)
  unfolding sent_by_each
  all_sent_by_each [] all = tt
  all_sent_by_each (x ∷ ops) all = all_append Q (sent_by files body table x) (sent_by_each files body table ops) (sent_one x all.0) (all_sent_by_each ops all.1)

  pub each_sends : (ops : Ops) → AllByRecursion Q (sent_by_each files body table ops) → AllByRecursion SendsAll ops
  unfolding sent_by_each
  each_sends [] all = tt
  each_sends (x ∷ ops) all = (
    one_sends x (all_prefix Q (sent_by files body table x) (sent_by_each files body table ops) all),
    each_sends ops (all_suffix Q (sent_by files body table x) (sent_by_each files body table ops) all),
  )
