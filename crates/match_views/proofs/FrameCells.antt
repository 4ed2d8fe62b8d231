-- Matching frames have as many cells.
use Rattle.std.proofs.Common.{◌≡◌, ℕ, true, nat_eq, List, [], ◌∷◌, Option, Some, if◌then◌else◌, inl, inr, sym, ap, subst, ◌∙◌}
use Rattle.std.specs.List.{AllByRecursion}
use Rattle.std.specs.Option.{option_map_or}
use Rattle.std.proofs.lemmas.Bool.{cases_Bool, eqb-true, and_parts}
use Rattle.std.proofs.lemmas.Option.{same_Some}
use Rattle.class_pool.specs.declared.types.MemberId.{MemberId}
use Rattle.image_form.specs.declared.record.Method.{Method}
use Rattle.body_form.specs.declared.body.Body.{Body}
use Rattle.mote_model.specs.State.{Frame as SplitFrame}
use Rattle.mote_model.specs.SplitState.{method_at, frame_cells, cells_of_frame}
use Rattle.typed_machine.specs.TypedState.{Frame}
use Rattle.typed_machine.specs.TypedWorld.{is_of, body_among}
use Rattle.type_safety.specs.Safety.{method_of}
use Rattle.match_states.specs.Setting.{Setting, id_for, IsCompiledBody, IsCompiled}
use Rattle.match_states.specs.MatchedFrames.{YoungestMatches, WaitingMatches, FramesMatch}
use Rattle.match_views.proofs.MatchedLists.{AreSame, each_so, all_so}

-- ---- the body of a method

same_method : (id : MemberId) (body : Body) → is_of id body ≡ true → method_of body ≡ id
same_method id body e =
    let is = and_parts (nat_eq id.class body.class) (nat_eq id.member body.method) e in
    let class : body.class ≡ id.class = sym (eqb-true id.class body.class is.0) in
    let member : body.method ≡ id.member = sym (eqb-true id.member body.method is.1) in
    ap (λ (c : ℕ). record { class = c; member = body.method }) class ∙ ap (λ (m : ℕ). record { class = id.class; member = m }) member

-- the body that is found has what all bodies have, and is that of the method
pub found_body : (Has : Body → Type 0) (bodies : List Body) → AllByRecursion Has bodies → (id : MemberId) (body : Body) → body_among bodies id ≡ Some body → Has body × (method_of body ≡ id)
unfolding body_among
found_body Has [] all id body e = absurd cc
found_body Has (first ∷ bodies) all id body e =
    elim (cases_Bool (is_of id first)) [
      | inl here ↦
          let same : first ≡ body = same_Some first body (sym (ap (λ b. if b then Some first else body_among bodies id) here) ∙ e) in
          (subst Has same all.0, subst (λ b. method_of b ≡ id) same (same_method id first here))
      | inr later ↦ found_body Has bodies all.1 id body (sym (ap (λ b. if b then Some first else body_among bodies id) later) ∙ e)
    ]

-- ---- frames

module _ (setting : Setting) (compiled : IsCompiled setting) where
  abbrev cells_of : Frame → ℕ
  cells_of frame = setting.world.frame_cells frame.method

  cells_by_body : (method : MemberId) (body : Body) (id : ℕ) → body_among setting.world.bodies method ≡ Some body → id ≡ id_for setting method
      → setting.world.frame_cells method ≡ option_map_or frame_cells (method_at setting.image id) 0
  cells_by_body method body id found is =
      let of = found_body (IsCompiledBody setting) setting.world.bodies compiled.bodies method body found in
      let numbered : id ≡ id_for setting (method_of body) = is ∙ ap (id_for setting) (sym of.1) in
      ap setting.world.frame_cells (sym of.1)
      ∙ of.0.cells
      ∙ ap (λ (found : Option Method). option_map_or frame_cells found 0) (sym of.0.method)
      ∙ ap (λ (number : ℕ). option_map_or frame_cells (method_at setting.image number) 0) (sym numbered)

  pub youngest_cells : (frame : Frame) (other : SplitFrame) → YoungestMatches setting frame other → cells_of frame ≡ cells_of_frame setting.image other
  youngest_cells frame other is = cells_by_body frame.method is.body other.method is.found is.method

  pub waiting_cells : (frame : Frame) (other : SplitFrame) → WaitingMatches setting frame other → cells_of frame ≡ cells_of_frame setting.image other
  waiting_cells frame other is = cells_by_body frame.method is.body other.method is.found is.method

  pub cells_of_frames : (frames : List Frame) (others : List SplitFrame) → FramesMatch setting frames others → AreSame cells_of (cells_of_frame setting.image) frames others
  cells_of_frames [] [] match = tt
  cells_of_frames [] (other ∷ others) match = absurd match
  cells_of_frames (frame ∷ frames) [] match = absurd match
  cells_of_frames (frame ∷ frames) (other ∷ others) match = (
    youngest_cells frame other match.0,
    each_so (λ frame. Unit {0}) (WaitingMatches setting) (λ frame other. cells_of frame ≡ cells_of_frame setting.image other) (λ frame other one is. waiting_cells frame other is) frames others
        (all_so (λ frame. Unit {0}) (λ frame. tt) frames) match.1,
  )
