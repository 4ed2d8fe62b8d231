-- The forms of plain moves: which answers are still to come changes only what is still to come; a throw is all that ends a
-- run; and a move that goes on places nothing, keeps the objects, and leaves no more than one frame's code above the others.
use Rattle.std.proofs.Common.{◌≡◌, ℕ, ◌+◌, ◌^◌, ◌<◌, ◌≤◌, Bool, true, false, nat_le, nat_lt, if◌then◌else◌, List, [], ◌∷◌, length, drop, take, reverse, Option, Some, None, refl, sym, subst, arith}
use Rattle.std.specs.Option.{option_map_or}
use Rattle.std.proofs.lemmas.List.{length-drop}
use Rattle.std.proofs.lemmas.List.Sums.{sum_by-cons}
use Rattle.dialogue.specs.Answers.{Answers}
use Rattle.account.specs.Account.{Need, Does, Stops, Stuck, no_need, tick_need}
use Rattle.image_form.specs.declared.record.Image.{Image}
use Rattle.image_form.specs.declared.record.Method.{Method}
use Rattle.image_form.specs.Grammar.{IsMethod}
use Rattle.mote_model.specs.State.{Reference, Frame, Object}
use Rattle.mote_model.specs.SplitMoves.{Done, Uncaught, Misfit, SplitMove, at_pc, with_cells, with_refs, goes_on, jumps, branches, using, take_cells, take_ref, take_ref_from, after_search, throws}
use Rattle.mote_model.specs.SplitState.{State, with_frames, with_objects, object_cells, method_at}
use Rattle.mote_model.specs.SplitTypes.{new_object}
use Rattle.split_safety.specs.Safety.{IsSound}
use Rattle.split_safety.proofs.facts.Lists.{all_of_each}
use Rattle.split_safety.proofs.moves.Throwing.{own_method, none_catches}
use Rattle.run_measures.proofs.SplitRank.{code_behind, rank_of}
use Rattle.mote_call.specs.CallTurns.{with_answers}

-- ---- the code of a frame

module _ (image : Image) (sound : IsSound image) where
  code_short : (found : Option Method) → ((method : Method) → found ≡ Some method → length method.code < 2 ^ 16) → length (option_map_or (λ (method : Method). method.code) found []) < 2 ^ 16
  code_short None fits = omega arith
  code_short (Some method) fits = fits method refl

  all_short : (id : ℕ) → length (option_map_or (λ (method : Method). method.code) (method_at image id) []) < 2 ^ 16
  all_short id = code_short (method_at image id) (λ method is.
      let of_grammar : IsMethod image.types method = own_method (IsMethod image.types) image id method (all_of_each (IsMethod image.types) [] image.methods sound.image_is.methods_are) is in
      of_grammar.code_fits)

  -- a frame adds little to the rank of those below it
  pub one_more : (frame : Frame) (others : List Frame) → rank_of image (frame ∷ others) ≤ 65536 + rank_of image others
  one_more frame others =
      let code = option_map_or (λ (method : Method). method.code) (method_at image frame.method) [] in
      omega (arith, all_short frame.method, length-drop frame.pc code, sum_by-cons (code_behind image) frame others)

  pub no_less : (frame : Frame) (others : List Frame) → rank_of image others ≤ rank_of image (frame ∷ others)
  no_less frame others = omega (arith, sum_by-cons (code_behind image) frame others)

-- a move that goes on places nothing, keeps the objects, and comes to a rank that is not above the bound
abbrev pub IsModest : Image → List Object → ℕ → Need → State → Type 0
IsModest image objects bound need next = (need.placed ≡ None) × (next.objects ≡ objects) × (rank_of image next.frames ≤ bound)

-- what a move from a state says of the same move with other answers to come
abbrev pub Plain : Image → Answers → List Object → ℕ → SplitMove → SplitMove → Type 0
Plain image answers objects bound (Does need events next) other = (other ≡ Does need events (with_answers next answers)) × IsModest image objects bound need next
Plain image answers objects bound (Stops need events (Misfit class place)) other = ⊥
Plain image answers objects bound (Stops need events Done) other = other ≡ Stops need events Done
Plain image answers objects bound (Stops need events (Uncaught class)) other = other ≡ Stops need events (Uncaught class)
Plain image answers objects bound Stuck other = Unit {0}

module _ (image : Image) (sound : IsSound image) (state : State) (answers : Answers) (others : List Frame) where
  -- a move that is made of a state is plain
  abbrev pub IsPlain : (State → SplitMove) → Type 0
  IsPlain made = Plain image answers state.objects (65536 + rank_of image others) (made state) (made (with_answers state answers))

  abbrev Goes : State → (State → SplitMove) → Type 0
  Goes from made = Plain image answers state.objects (65536 + rank_of image others) (made from) (made (with_answers from answers))

  -- ---- going on

  pub does : (need : Need) (from : State) (moved : Frame) → need.placed ≡ None → from.objects ≡ state.objects → Goes from (λ s. Does need [] (with_frames s (moved ∷ others)))
  does need from moved none same = (refl, (none, same, one_more image sound moved others))

  pub on_from : (from : State) (moved : Frame) (next : ℕ) → from.objects ≡ state.objects → Goes from (λ s. goes_on s moved others next)
  on_from from moved next same = does no_need from (at_pc moved next) refl same

  pub on : (moved : Frame) (next : ℕ) → IsPlain (λ s. goes_on s moved others next)
  on moved next = on_from state moved next refl

  jump_places : (forward : Bool) → (if forward then no_need else tick_need).placed ≡ None
  jump_places true = refl
  jump_places false = refl

  pub jumped : (moved : Frame) (target : ℕ) → IsPlain (λ s. jumps s moved others target)
  jumped moved target = does (if nat_lt moved.pc target then no_need else tick_need) state (at_pc moved target) (jump_places (nat_lt moved.pc target)) refl

  -- ---- choices

  pub either : (test : Bool) (first second : State → SplitMove) → IsPlain first → IsPlain second → IsPlain (λ s. if test then first s else second s)
  either true first second p q = p
  either false first second p q = q

  pub branched : (taken : Bool) (moved : Frame) (target next : ℕ) → IsPlain (λ s. branches taken s moved others target next)
  branched taken moved target next = either taken (λ s. jumps s moved others target) (λ s. goes_on s moved others next) (jumped moved target) (on moved next)

  pub used : {X : Type 0} (found : Option X) (made : State → X → SplitMove) → ((x : X) → IsPlain (λ s. made s x)) → IsPlain (λ s. using found (made s))
  used None made each = tt
  used (Some x) made each = each x

  pub taken_cells : (count : ℕ) (from : Frame) (made : State → List ℕ → Frame → SplitMove)
      → IsPlain (λ s. made s (reverse (take count from.cells.operands)) (with_cells from (drop count from.cells.operands))) → IsPlain (λ s. take_cells count from (made s))
  taken_cells count from made is =
      either (nat_le count (length from.cells.operands)) (λ s. made s (reverse (take count from.cells.operands)) (with_cells from (drop count from.cells.operands))) (λ s. Stuck) is tt

  from_refs : (from : Frame) (operands : List Reference) (made : State → Reference → Frame → SplitMove) → ((reference : Reference) (rest : List Reference) → IsPlain (λ s. made s reference (with_refs from rest)))
      → IsPlain (λ s. take_ref_from from operands (made s))
  from_refs from [] made each = tt
  from_refs from (reference ∷ rest) made each = each reference rest

  pub taken_ref : (from : Frame) (made : State → Reference → Frame → SplitMove) → ((reference : Reference) (rest : List Reference) → IsPlain (λ s. made s reference (with_refs from rest)))
      → IsPlain (λ s. take_ref from (made s))
  taken_ref from made each = from_refs from from.refs.operands made each

  -- ---- throws, which nothing catches

  pub thrown : (frames : List Frame) (class : ℕ) → IsPlain (λ s. throws image s frames class)
  thrown frames class =
      let object = new_object image class in
      subst (λ found. IsPlain (λ s. after_search (Some (object_cells object)) (with_objects s (object ∷ [])) class found)) (sym (none_catches image sound class (length state.objects) frames)) refl
