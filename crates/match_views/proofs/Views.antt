-- The account sees the same of states that match.
use Rattle.std.proofs.Common.{◌≡◌, ℕ, List, [], ◌∷◌, ap, ◌∙◌}
use Rattle.std.specs.List.{sum_by}
use Rattle.account.specs.Account.{Collection}
use Rattle.account.specs.Reachable.{collection_of}
use Rattle.account.proofs.Reaching.{Agree, collection_of-agree}
use Rattle.body_form.specs.declared.body.Body.{Body}
use Rattle.mote_model.specs.SplitState as split
use Rattle.mote_model.specs.SplitState.{names_of, cells_of_frame}
use Rattle.typed_machine.specs.TypedState.{Object, Frame, State}
use Rattle.typed_machine.specs.TypedWorld.{World}
use Rattle.type_safety.specs.Fitting.{Tables, ObjectFits, FramesFit}
use Rattle.match_states.specs.Setting.{Setting, IsCompiled}
use Rattle.match_states.specs.MatchedObjects.{ObjectMatches}
use Rattle.match_states.specs.Followed.{StatesMatch}
use Rattle.typed_machine.specs.TypedView.{names_in, cells_of_object, roots_of, objects_of, view_of}
use Rattle.match_views.proofs.MatchedLists.{each_count, each_so, same_at, same_sum}
use Rattle.match_views.proofs.RootNames.{roots-same}
use Rattle.match_views.proofs.ObjectViews.{object_names, object_cells-same}
use Rattle.match_views.proofs.FrameCells.{cells_of_frames}

-- frames that fit have a body
a_body : (world : World) (tables : Tables) (objects : List Object) (frames : List Frame) → FramesFit world tables objects frames → Body
a_body world tables objects [] fits = absurd fits
a_body world tables objects (frame ∷ frames) fits = fits.0.body

module _ (setting : Setting) (state : State) (other : split.State) (match : StatesMatch setting state other) where
  -- there are as many objects, each with the same references and as many cells
  pub objects-agree : Agree (objects_of setting.world state) (split.objects_of other)
  objects-agree =
      let Fits : Object → Type 0 = ObjectFits setting.world state.objects in
      let body = a_body setting.world setting.tables state.objects state.frames match.fits.frames in
      let names =
      each_so Fits (ObjectMatches setting) (λ object split. names_in setting.world object ≡ names_of split.refs) (λ object split fits is. object_names setting object split is) state.objects other.objects match.fits.objects match.objects in
      let cells =
      each_so Fits (ObjectMatches setting) (λ object held. cells_of_object setting.world object ≡ split.object_cells held) (object_cells-same setting state.objects body) state.objects other.objects match.fits.objects match.objects in
      record {
        count = each_count (ObjectMatches setting) state.objects other.objects match.objects;
        refers_to = λ name low. same_at (names_in setting.world) (λ object. names_of object.refs) [] state.objects other.objects names name;
        cells = λ name low. same_at (cells_of_object setting.world) split.object_cells 0 state.objects other.objects cells name;
      }

  -- a collection would keep the same
  pub collections-same : collection_of (objects_of setting.world state) (roots_of setting.world state) ≡ collection_of (split.objects_of other) (split.roots_of other)
  collections-same = collection_of-agree (objects_of setting.world state) (split.objects_of other) (roots_of setting.world state) (split.roots_of other) objects-agree (roots-same setting state other match)

  pub views-same : IsCompiled setting → view_of setting.world state ≡ split.view_of setting.image other
  views-same compiled =
      ap (λ (kept : Collection). record { collection = kept; frames = sum_by (λ (frame : Frame). setting.world.frame_cells frame.method) state.frames }) collections-same
      ∙ ap (λ (cells : ℕ). record { collection = collection_of (split.objects_of other) (split.roots_of other); frames = cells })
      (same_sum (λ (frame : Frame). setting.world.frame_cells frame.method) (cells_of_frame setting.image) state.frames other.frames (cells_of_frames setting compiled state.frames other.frames match.frames))
