-- What an accepted set throws uncaught is of a class of the library, and its image names that class as the set does.
use Rattle.std.proofs.Common.{◌≡◌, ℕ, ◌<◌, zero, suc, Bool, true, false, if◌then◌else◌, nat_lt, nat_le, List, [], ◌∷◌, Option, Some, None, get_or, slice_get, refl, sym, ap, subst, ◌∙◌}
use Rattle.std.specs.Prelude.{◌-◌, unwrap_or}
use Rattle.std.specs.List.{Contains}
use Rattle.std.specs.Option.{option_map, option_map_or}
use Rattle.std.proofs.lemmas.Bool.{cond_both, lt-ltb}
use Rattle.library.specs.Classes.{first_own, class_names}
use Rattle.class_pool.specs.declared.types.TypeRef.{TypeRef}
use Rattle.class_file.specs.declared.record.ClassFile.{ClassFile}
use Rattle.class_tree.specs.Set.{own_name}
use Rattle.class_tree.specs.Set as set
use Rattle.class_tree.specs.Subtypes.{class_type}
use Rattle.image_form.specs.declared.record.Image.{Image}
use Rattle.image_form.specs.Library.{entry_name}
use Rattle.image_form.specs.Library as image_names
use Rattle.body_form.specs.declared.body.Body.{Body}
use Rattle.body_form.specs.declared.op.Op.{Op}
use Rattle.jvm_model.specs.ImageNumbering.{is_type, number_from, type_id}
use Rattle.jvm_model.specs.TypesRules.{op_at}
use Rattle.account.specs.Account.{Event, Need, Does, Stops, Stuck, Bounds, View, Standing, Ends, Ended, Spent, HeapWanted, StackWanted, Settled, Goes, Over, Lost, Placing, Places, Lacks, after_placing, frame_cells, has_room, is_within, placing, settled, standing_at, ticks_after}
use Rattle.account.specs.Run.{advance, after_events, run_from}
use Rattle.dialogue.specs.Answers.{Answers}
use Rattle.typed_machine.specs.TypedMoves.{Ending, TypedMove}
use Rattle.typed_machine.specs.TypedRun.{Runs, start_main, start_of}
use Rattle.typed_machine.specs.TypedState.{Frame, State}
use Rattle.typed_machine.specs.TypedStep.{move, move_among, move_in, move_of}
use Rattle.typed_machine.specs.TypedView.{machine}
use Rattle.typed_machine.specs.TypedWorld.{Placed, World, body_among, pc_after}
use Rattle.type_safety.proofs.facts.Control.{op_there}
use Rattle.type_safety.proofs.fitting.SetLists.{all_contained}
use Rattle.match_code.proofs.MatchedCode.{found_body}
use Rattle.set_image.specs.Linked.{Linked, bodies_of}
use Rattle.set_image.specs.LinkRefusals.{is_built, link_refusal}
use Rattle.set_compile.specs.Settings.{world_of}
use Rattle.set_runs.proofs.NoRefusals.{IsBuilt, is_unrefused}
use Rattle.set_outcome.proofs.ThrownClasses.{Known, KnownEnding, built_known}

-- ---- a move

module _ (world : World) (built : (body : Body) → Contains world.bodies body → IsBuilt body) where
  -- the instruction at a pc, where there is one
  op_known : (state : State) (frame : Frame) (others : List Frame) (body : Body) → IsBuilt body → (found : Option Op) → op_at body.ops frame.pc ≡ found
      → Known (option_map_or (λ (placed : Placed). move_of world state frame others body placed.next placed.op) (option_map (λ op. record { op = op; next = pc_after body.ops frame.pc }) found) Stuck)
  op_known state frame others body form None at = tt
  op_known state frame others body form (Some instruction) at =
      let is = all_contained (λ (x : ℕ × Op). is_built x.1 ≡ true) body.ops form.ops (frame.pc, instruction) (op_there body.ops frame.pc instruction at) in
      built_known world state frame others (pc_after body.ops frame.pc) body instruction is

  body_known : (state : State) (frame : Frame) (others : List Frame) (found : Option Body) → body_among world.bodies frame.method ≡ found
      → Known (move_in world state frame others found)
  body_known state frame others None is = tt
  body_known state frame others (Some body) is =
      let found = found_body world.bodies frame.method body is in
      op_known state frame others body (built body found.of_set) (op_at body.ops frame.pc) refl

  frames_known : (state : State) (frames : List Frame) → Known (move_among world state frames)
  frames_known state [] = tt
  frames_known state (frame ∷ others) = body_known state frame others (body_among world.bodies frame.method) refl

  move_known : (state : State) → Known (move world state)
  move_known state = frames_known state state.frames

  -- ---- a run

  abbrev KnownEnds : Ends Ending → Type 0
  KnownEnds (Ended ending) = KnownEnding ending
  KnownEnds Spent = Unit {0}
  KnownEnds (HeapWanted need live) = Unit {0}
  KnownEnds (StackWanted need used) = Unit {0}

  abbrev KnownSettled : Settled State Ending → Type 0
  KnownSettled (Goes events next) = Unit {0}
  KnownSettled (Over events last how) = KnownEnds how
  KnownSettled Lost = Unit {0}

  module _ (bounds : Bounds) where
    chosen_known : (has_ticks room : Bool) (met lacks_stack lacks_tick : Settled State Ending) → KnownSettled met → KnownSettled lacks_stack → KnownSettled lacks_tick
        → KnownSettled (if has_ticks then (if room then met else lacks_stack) else lacks_tick)
    chosen_known true true met lacks_stack lacks_tick known stack tick = known
    chosen_known true false met lacks_stack lacks_tick known stack tick = stack
    chosen_known false room met lacks_stack lacks_tick known stack tick = tick

    placed_known : (view : View) (from : Standing State) (need : Need) (effect : List Event → ℕ → ℕ → Settled State Ending)
        → ((events : List Event) (used ticks : ℕ) → KnownSettled (effect events used ticks)) → (placed : Placing) → KnownSettled (after_placing bounds view from need placed effect)
    placed_known view from need effect each (Lacks collection cells) = tt
    placed_known view from need effect each (Places events before after) =
        let ticks = ticks_after need.tick from.ticks in
        let here = standing_at from.state before from.ticks in
        chosen_known (nat_le ticks bounds.ticks) (has_room bounds view need.frame) (effect events after ticks) (Over events here (StackWanted (frame_cells need.frame) view.frames)) (Over events here Spent) (each events after ticks) tt tt

    settled_known : (view : View) (from : Standing State) (next : TypedMove) → Known next → KnownSettled (settled bounds view from next)
    settled_known view from (Does need events next) known = placed_known view from need _ (λ first used ticks. tt) (placing bounds view from.used need.placed)
    settled_known view from (Stops need events ending) known = placed_known view from need _ (λ first used ticks. known) (placing bounds view from.used need.placed)
    settled_known view from Stuck known = tt

    said_known : (said : List Event) (next : Settled State Ending) → KnownSettled next → KnownSettled (after_events said next)
    said_known said (Goes events next) known = tt
    said_known said (Over events last how) known = known
    said_known said Lost known = tt

    advanced_known : (from : Settled State Ending) → KnownSettled from → KnownSettled (advance (machine world) bounds from)
    advanced_known (Goes said from) known =
        let view = (machine world).view from.state in
        let state = from.state in
        said_known said (settled bounds view from (move world state)) (settled_known view from (move world state) (move_known state))
    advanced_known (Over said last how) known = known
    advanced_known Lost known = tt

    run_known : (start : Settled State Ending) → KnownSettled start → (moves : ℕ) → KnownSettled (run_from (machine world) bounds start moves)
    run_known start known zero = known
    run_known start known (suc moves) = advanced_known (run_from (machine world) bounds start moves) (run_known start known moves)

    start_known : (answers : Answers) (main : Option Body) → KnownSettled (start_main world bounds answers main)
    start_known answers None = tt
    start_known answers (Some main) = cond_both (is_within bounds.stack (world.frame_cells world.main)) _ _ KnownSettled (λ e. tt) (λ e. tt)

    ends_known : (answers : Answers) (events : List Event) (last : Standing State) (how : Ends Ending) → Runs world bounds answers events last how
        → KnownEnds how
    ends_known answers events last how runs =
        subst KnownSettled runs.over (run_known (start_of world bounds answers) (start_known answers (body_among world.bodies world.main)) runs.moves)

-- nothing is uncaught in a run of an accepted set but objects of the library
pub known_ends : (linked : Linked) → link_refusal linked ≡ None
    → (bounds : Bounds) (answers : Answers) (events : List Event) (last : Standing State) (ending : Ending)
    → Runs (world_of linked) bounds answers events last (Ended ending) → KnownEnding ending
known_ends linked none bounds answers events last ending runs =
    ends_known (world_of linked) (all_contained IsBuilt (bodies_of linked) (is_unrefused linked none).built) bounds answers events last (Ended ending) runs

-- ---- names

module _ (class : ℕ) (known : class < first_own) where
  is_library : nat_lt class first_own ≡ true
  is_library = lt-ltb class first_own known

  library_id_is : (types : List TypeRef) → type_id types (class_type class) ≡ class
  library_id_is types = ap (λ test. unwrap_or (if test then Some class else None) (number_from first_own (is_type (class_type class)) types)) is_library

  set_name : (files : List ClassFile) → set.name_of files class ≡ get_or class_names class []
  set_name files = ap (λ test. if test then get_or class_names class [] else option_map_or own_name (slice_get files (class - first_own)) []) is_library

  image_name : (image : Image) → image_names.name_of image class ≡ get_or class_names class []
  image_name image = ap (λ test. if test then get_or class_names class [] else entry_name (slice_get image.types (class - first_own))) is_library

  -- the image names the class as the set does
  pub same_name : (files : List ClassFile) (image : Image) (types : List TypeRef)
      → set.name_of files class ≡ image_names.name_of image (type_id types (class_type class))
  same_name files image types = set_name files ∙ sym (image_name image) ∙ ap (image_names.name_of image) (sym (library_id_is types))
