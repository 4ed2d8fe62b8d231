-- What is sent to handlers, row by row.
use Rattle.std.proofs.Common.{◌≡◌, ℕ, ◌+◌, ◌<◌, true, false, List, [], ◌∷◌, ◌++◌, take, filter, length, get_or, cond, refl, ap, subst, ◌∙◌}
use Rattle.std.proofs.lemmas.List.Elements.{filter_more}
use Rattle.body_form.specs.declared.body.Guard.{Guard}
use Rattle.body_form.specs.declared.types.VFrame.{VFrame}
use Rattle.body_form.specs.Flow.{Ops, covers}
use Rattle.jvm_model.specs.TypesRight.{Sent, entered, sent_to_handlers}
use Rattle.type_table.specs.Frames.{Stored, Grows, IsFrame, frame_of}
use Rattle.type_table.specs.declared.store.FrameId.{FrameId}
use Rattle.type_table.proofs.Growing.{frame_stays}
use Rattle.flow_verify.specs.declared.frames.Arriving.{Arriving}
use Rattle.flow_verify.specs.Waves.{sent_with, Adds}
use Rattle.flow_verify.proofs.waves.Adding.{Sends, sends_more}

module _ (before after : VFrame) where
  handlers_append : (first second : List Guard) → sent_to_handlers before after (first ++ second) ≡ sent_to_handlers before after first ++ sent_to_handlers before after second
  unfolding sent_to_handlers
  handlers_append [] second = refl
  handlers_append (guard ∷ first) second =
      ap (λ (list : List Sent). sent_with (entered guard before) guard.target ∷ sent_with (entered guard after) guard.target ∷ list) (handlers_append first second)

  pub handlers_none : sent_to_handlers before after [] ≡ []
  unfolding sent_to_handlers
  handlers_none = refl

  pub handlers_one : (guard : Guard) → sent_to_handlers before after (guard ∷ []) ≡ sent_with (entered guard before) guard.target ∷ sent_with (entered guard after) guard.target ∷ []
  unfolding sent_to_handlers
  handlers_one guard = refl

  -- one row more
  pub handlers_more : (pc : ℕ) (guards : List Guard) (i : ℕ) (d : Guard) → i < length guards
      → sent_to_handlers before after (filter (covers pc) (take (i + 1) guards))
      ≡ sent_to_handlers before after (filter (covers pc) (take i guards)) ++ sent_to_handlers before after (filter (covers pc) (get_or guards i d ∷ []))
  handlers_more pc guards i d within =
      ap (sent_to_handlers before after) (filter_more (covers pc) guards i d within) ∙ handlers_append (filter (covers pc) (take i guards)) (filter (covers pc) (get_or guards i d ∷ []))

  -- a row that covers the pc, or does not
  pub handlers_covering : (pc : ℕ) (guard : Guard) → covers pc guard ≡ true
      → sent_to_handlers before after (filter (covers pc) (guard ∷ [])) ≡ sent_with (entered guard before) guard.target ∷ sent_with (entered guard after) guard.target ∷ []
  handlers_covering pc guard is = ap (λ b. sent_to_handlers before after (cond b (guard ∷ []) [])) is ∙ handlers_one guard

  pub handlers_beyond : (pc : ℕ) (guard : Guard) → covers pc guard ≡ false → sent_to_handlers before after (filter (covers pc) (guard ∷ [])) ≡ []
  handlers_beyond pc guard is = ap (λ b. sent_to_handlers before after (cond b (guard ∷ []) [])) is ∙ handlers_none

-- ---- both frames of one row

module _ (ops : Ops) (a b c : Stored) (before after : FrameId) (guard : Guard) (w x y : List Arriving) where
  pub enter_both : IsFrame a after → Grows a b → Adds ops b (sent_with (entered guard (frame_of a before)) guard.target ∷ []) w x
      → Grows b c → Adds ops c (sent_with (entered guard (frame_of b after)) guard.target ∷ []) x y
      → Sends ops a c (sent_with (entered guard (frame_of a before)) guard.target ∷ sent_with (entered guard (frame_of a after)) guard.target ∷ []) w y
  enter_both there grows one further two =
      let to : VFrame → Sent = λ f. sent_with (entered guard f) guard.target in
      let same : frame_of b after ≡ frame_of a after = (frame_stays a b after grows there).is in
      let first : Sends ops a b (to (frame_of a before) ∷ []) w x = record { grows = grows; adds = one } in
      let second : Sends ops b c (to (frame_of a after) ∷ []) x y = record { grows = further; adds = subst (λ (f : VFrame). Adds ops c (to f ∷ []) x y) same two } in
      sends_more ops a b c (to (frame_of a before) ∷ []) (to (frame_of a after) ∷ []) w x y first second
