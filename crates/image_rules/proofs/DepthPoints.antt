-- The points of a body: the offsets of its machine instructions, each with the depth there, where types are known, and of what
-- extends its parameters. Control goes from points to points.
use Rattle.std.proofs.Common.{◌≡◌, ◌⊎◌, inl, inr, ℕ, ◌+◌, ◌<◌, Bool, true, false, if◌then◌else◌, List, [], ◌∷◌, ◌++◌, map, length, drop, Some, refl, sym, ap, subst, ◌∙◌, arith}
use Rattle.std.specs.List.{AllByRecursion, Contains, flat_map}
use Rattle.std.proofs.lemmas.Bool.{cases_lt}
use Rattle.std.proofs.lemmas.List.Concat.{flat_map-cons}
use Rattle.std.proofs.lemmas.Option.{same_Some}
use Rattle.code_reach.specs.Reached.{RisesFrom}
use Rattle.image_instr.specs.declared.insn.Kind.TheVariants as kind
use Rattle.image_instr.specs.declared.insn.MInsn.TheVariants as insns
use Rattle.image_check.specs.Code.{targets}
use Rattle.image_check.specs.Visits.{Depth, empty}
use Rattle.body_form.specs.declared.body.Body.{Body}
use Rattle.body_form.specs.declared.op.Op.{Op}
use Rattle.body_form.specs.declared.types.VFrame.{VFrame}
use Rattle.body_form.specs.declared.types.VType.{VType}
use Rattle.body_form.specs.Flow as flow
use Rattle.body_form.specs.Flow.{successors}
use Rattle.jvm_model.specs.declared.plan.Fill.{Fill}
use Rattle.jvm_model.specs.ImageEmission.{code_of, offset_of}
use Rattle.jvm_model.specs.ImageExpansion.{Emitted, bytes_of}
use Rattle.jvm_model.specs.TypesRules.{op_at}
use Rattle.jvm_model.specs.WidthsFrame.{fill_insns}
use Rattle.typed_machine.specs.TypedWorld.{pc_after}
use Rattle.expansion.proofs.ExpansionSizes.{size_is}
use Rattle.type_rounds.proofs.tables.Lists.{all_elements, all_given}
use Rattle.match_states.specs.Setting.{Setting, source_for, table_for}
use Rattle.match_code.specs.Standing.{emitted_at, fills_for}
use Rattle.match_code.proofs.CodeLayout.{offset_above, offset_first, offset_keeps, offset_next, same_after}
use Rattle.match_code.proofs.CodeMoves.{body_rises, entry_plain}
use Rattle.match_code.proofs.CodePoints.{after_fill, after_point, code_at_fill, code_at_point, holds_here}
use Rattle.image_rules.specs.Depths.{LeadAs, depth_behind, depth_of, wide}
use Rattle.image_rules.specs.Parts.{ExpansionsLeadAs, ExpansionsMoveRight, IsKnownAt, IsOfAccepted, KnownComeOn}
use Rattle.image_rules.proofs.BetweenInsns.{leads_between, leads_last}
use Rattle.image_rules.proofs.DepthSpots.{IsSpot, one_at_spot, spot_below, spot_from}
use Rattle.image_rules.proofs.FittingDepths.{entry_behind, entry_well, entry_within, known_within, method, most}
use Rattle.image_rules.proofs.KnownSteps.{ExpansionsCallAs, Steps, all_targets, known_first, moved_right, steps}
use Rattle.image_rules.proofs.ReadSpots.{IsRead, IsRun, read_spot}

-- ---- points

-- a machine instruction of an instruction whose types are known
pub record IsKnownSpot (setting : Setting) (body : Body) (to : ℕ) (e : Depth) : Type 0 where
  pub pc : ℕ
  pub is : IsKnownAt setting body pc
  pub spot : IsSpot setting.image (offset_of (source_for setting body) pc) (depth_of (wide is.frame.stack)) (emitted_at setting body pc is.instruction) to e

-- such a one, or one that extends a parameter
abbrev pub IsPoint : Setting → Body → ℕ → Depth → Type 0
IsPoint setting body to e = IsSpot setting.image 0 empty (fills_for setting body) to e ⊎ IsKnownSpot setting body to e

-- ---- what extends parameters goes on and jumps nowhere

abbrev JumpsNowhere : Emitted → Type 0
JumpsNowhere emitted = targets emitted.0 emitted.1 ≡ []

fills_nowhere : (fills : List Fill) → AllByRecursion JumpsNowhere (flat_map fill_insns fills)
fills_nowhere [] = tt
fills_nowhere (fill ∷ fills) = subst (AllByRecursion JumpsNowhere) (sym (flat_map-cons fill_insns fill fills)) (by fill.zero (fills_nowhere fills))
  where
    by : (zero : Bool) → AllByRecursion JumpsNowhere (flat_map fill_insns fills)
        → AllByRecursion JumpsNowhere ((insns.Load kind.One fill.from, []) ∷ (if zero then insns.Zx else insns.Sx, []) ∷ (insns.Store kind.Two fill.to, []) ∷ flat_map fill_insns fills)
    by true rest = (refl, (refl, (refl, rest)))
    by false rest = (refl, (refl, (refl, rest)))

-- an instruction without machine instructions goes on
none_goes_on : (offset : ℕ → ℕ) (instruction : Op) → LeadAs offset instruction [] → flow.goes_on instruction ≡ true
unfolding LeadAs
none_goes_on offset instruction leads = leads.0

module _ (moves : ExpansionsMoveRight) (leads : ExpansionsLeadAs) (come : KnownComeOn) (calls : ExpansionsCallAs) (setting : Setting) (body : Body) (of : IsOfAccepted setting body) where
  abbrev offset : ℕ → ℕ
  offset = offset_of (source_for setting body)

  rises : RisesFrom 0 body.ops
  rises = body_rises setting of.compiled body of.of_set

  -- ---- coming to points

  -- the depth of the operands at a pc whose types are known
  abbrev HasDepth : Depth → ℕ → Type 0
  HasDepth d pc = (frame : VFrame) → table_for setting body pc ≡ Some frame → depth_of (wide frame.stack) ≡ d

  -- it stays where an instruction without machine instructions goes on
  kept : (d : Depth) (pc next : ℕ) (is : IsKnownAt setting body pc) → emitted_at setting body pc is.instruction ≡ [] → pc_after body.ops pc ≡ Some next
      → IsKnownAt setting body next → HasDepth d pc → HasDepth d next
  unfolding depth_behind
  kept d pc next is none after there held frame at =
      let step = steps setting body of pc is in
      let moved = moved_right setting body of pc is step moves calls in
      let behind = subst (λ (l : List Emitted). depth_behind setting.image (depth_of (wide is.frame.stack)) l ≡ depth_of (wide step.after.stack)) none moved.behind in
      let on = none_goes_on offset is.instruction (subst (LeadAs offset is.instruction) none (leads setting body of pc is.instruction is.at)) in
      let to = step.next on in
      let known = step.leads to.0 to.2 in
      let same : to.0 ≡ next = same_Some to.0 next (sym to.1 ∙ after) in
      let frames : frame ≡ known.is.frame = same_Some frame known.is.frame (sym at ∙ ap (table_for setting body) (sym same) ∙ known.is.types) in
      ap (λ (f : VFrame). depth_of (wide f.stack)) frames ∙ ap depth_of known.shapes ∙ sym behind ∙ held is.frame is.types

  -- from a pc whose types are known control comes to a point
  comes : (pc : ℕ) (is : IsKnownAt setting body pc) → IsKnownSpot setting body (offset pc) (depth_of (wide is.frame.stack))
  unfolding depth_behind
  comes pc is =
      let d = depth_of (wide is.frame.stack) in
      let to = come setting body of (HasDepth d) (kept d) pc is (λ frame at. ap (λ (f : VFrame). depth_of (wide f.stack)) (same_Some frame is.frame (sym at ∙ is.types))) in
      record {
        pc = to.to;
        is = to.is;
        spot = record { first = []; emitted = to.emitted; rest = to.rest; is = to.here; offset = omega (arith, to.offset); depth = sym (to.holds to.is.frame to.is.types) };
      }

  -- and with the depth of operands of the same shapes
  comes_with : (types : List VType) (pc : ℕ) (is : IsKnownAt setting body pc) → wide is.frame.stack ≡ wide types
      → IsPoint setting body (offset pc) (depth_of (wide types))
  comes_with types pc is shapes = inr (subst (IsKnownSpot setting body (offset pc)) (ap depth_of shapes) (comes pc is))

  -- the body's first instruction
  start_point : IsPoint setting body (offset 0) empty
  start_point = let known = known_first setting body of in comes_with [] 0 known.is known.shapes

  -- the beginning of the code
  pub first_point : IsPoint setting body 0 empty
  unfolding depth_behind
  first_point = by (fills_for setting body) refl
    where
      by : (list : List Emitted) → fills_for setting body ≡ list → IsPoint setting body 0 empty
      by [] none = subst (λ (n : ℕ). IsPoint setting body n empty) (entry_plain setting body none) start_point
      by (emitted ∷ rest) is = inl (record { first = []; emitted = emitted; rest = rest; is = is; offset = omega arith; depth = refl })

  -- ---- the machine instructions of a known instruction

  module _ (pc : ℕ) (is : IsKnownAt setting body pc) where
    abbrev list : List Emitted
    list = emitted_at setting body pc is.instruction

    abbrev before : Depth
    before = depth_of (wide is.frame.stack)

    -- where it leads
    step : Steps setting body of pc is
    step = steps setting body of pc is

    abbrev after : Depth
    after = depth_of (wide step.after.stack)

    -- at the offset of a pc there is a point with the depth after it
    abbrev Arrives : ℕ → Type 0
    Arrives to = IsPoint setting body (offset to) after

    arrives : (to : ℕ) → Contains (successors body.ops pc) to → Arrives to
    arrives to among = let known = step.leads to among in comes_with step.after.stack to known.is known.shapes

    lead_here : LeadAs offset is.instruction list
    lead_here = leads setting body of pc is.instruction is.at

    -- from each of them control goes to points
    known_run : IsRun setting.image (method setting body of) (most setting body of) (IsPoint setting body) (offset pc) before list
    known_run =
        let source = source_for setting body in
        let moved = moved_right setting body of pc is step moves calls in
        record {
          insns = of.insns.expansions pc is.instruction is.at;
          well = moved.well;
          within = known_within setting body of calls pc is moved.well;
          code = λ first emitted rest e. (
            after_point source rises pc is.instruction is.at first emitted.0 emitted.1 rest e,
            code_at_point source rises pc is.instruction is.at first emitted.0 emitted.1 rest e,
          );
          points = λ to e spot. inr (record { pc = pc; is = is; spot = spot });
          between = λ first emitted next rest e. leads_between offset is.instruction first emitted next rest (subst (LeadAs offset is.instruction) e lead_here);
          goes = λ first emitted e on.
              let last = leads_last offset is.instruction first emitted (subst (LeadAs offset is.instruction) e lead_here) in
              let next = step.next (sym last.0 ∙ on) in
              let behind : offset next.0 ≡ offset pc + length (bytes_of list) =
              omega (arith, offset_next source rises pc is.instruction is.at next.0 (sym (same_after body.ops pc) ∙ next.1), size_is source offset (pc, is.instruction))
              in
              let there = subst (λ (n : ℕ). IsPoint setting body n after) behind (arrives next.0 next.2) in
              subst (IsPoint setting body (offset pc + length (bytes_of list))) (sym moved.behind) there;
          jumps = λ first emitted e.
              let last = leads_last offset is.instruction first emitted (subst (LeadAs offset is.instruction) e lead_here) in
              let aims = flow.targets is.instruction in
              let AllAt : Depth → List ℕ → Type 0 = λ d tos. AllByRecursion (λ to. IsPoint setting body to d) tos in
              let each = all_targets Arrives body.ops pc is.instruction is.at (all_elements Arrives (successors body.ops pc) arrives) in
              let moved_each : AllAt after (map offset aims) = all_given (λ to. IsPoint setting body to after) offset aims each in
              subst (λ (d : Depth). AllAt d (targets emitted.0 emitted.1)) (sym moved.behind) (subst (AllAt after) (sym last.1) moved_each);
        }

  -- ---- what extends parameters

  nowhere : (first : List Emitted) (emitted : Emitted) (rest : List Emitted) → fills_for setting body ≡ first ++ emitted ∷ rest → JumpsNowhere emitted
  nowhere first emitted rest e = holds_here JumpsNowhere first emitted rest (subst (AllByRecursion JumpsNowhere) e (fills_nowhere (source_for setting body).plan.fills))

  -- and from each of these
  entry_run : IsRun setting.image (method setting body of) (most setting body of) (IsPoint setting body) 0 empty (fills_for setting body)
  entry_run =
      let source = source_for setting body in
      let fills = fills_for setting body in
      let behind = entry_behind setting body of in
      record {
        insns = of.insns.fills;
        well = entry_well setting body of;
        within = entry_within setting body of;
        code = λ first emitted rest e.
            let same : 0 + length (bytes_of first) ≡ length (bytes_of first) = omega arith in (
              after_fill source first emitted.0 emitted.1 rest e,
              ap (λ n. drop n (code_of source)) same ∙ code_at_fill source first emitted.0 emitted.1 rest e,
            );
        points = λ to e spot. inl spot;
        between = λ first emitted next rest e. nowhere first emitted (next ∷ rest) e;
        goes = λ first emitted e on.
            let same : offset 0 ≡ 0 + length (bytes_of fills) = omega (arith, offset_first source) in
            subst (IsPoint setting body (0 + length (bytes_of fills))) (sym behind) (subst (λ (n : ℕ). IsPoint setting body n empty) same start_point);
        jumps = λ first emitted e. subst (AllByRecursion (λ to. IsPoint setting body to (depth_behind setting.image empty fills))) (sym (nowhere first emitted [] e)) tt;
      }

  -- the instruction at each point
  pub read_point : (to : ℕ) (e : Depth) → IsPoint setting body to e
      → IsRead setting.image (method setting body of) (most setting body of) (IsPoint setting body) to e
  read_point to e (inl spot) =
      read_spot setting.image (method setting body of) (most setting body of) (IsPoint setting body) 0 empty (fills_for setting body)
      entry_run to e spot
  read_point to e (inr known) =
      read_spot setting.image (method setting body of) (most setting body of) (IsPoint setting body) (offset known.pc) (before known.pc known.is) (list known.pc known.is)
      (known_run known.pc known.is) to e known.spot

-- ---- one depth at an offset

module _ (setting : Setting) (body : Body) (of : IsOfAccepted setting body) where
  -- what extends parameters is before the other machine instructions
  entry_before : (to : ℕ) (e f : Depth) → IsSpot setting.image 0 empty (fills_for setting body) to e → IsKnownSpot setting body to f → e ≡ f
  entry_before to e f spot known =
      let source = source_for setting body in
      let list = emitted_at setting body known.pc known.is.instruction in
      let above = spot_from setting.image (offset_of source known.pc) (depth_of (wide known.is.frame.stack)) list to f known.spot in
      let below = spot_below setting.image 0 empty (fills_for setting body) of.insns.fills to e spot in
      absurd (omega (arith, below, above, offset_first source, offset_keeps source 0 known.pc (omega arith)))

  -- one of a lower pc is before one of a higher one
  known_before : (to : ℕ) (e f : Depth) (known : IsKnownSpot setting body to e) (other : IsKnownSpot setting body to f) → known.pc < other.pc → ⊥
  known_before to e f known other less =
      let source = source_for setting body in
      let pc = known.pc in
      let instruction = known.is.instruction in
      let list = emitted_at setting body pc instruction in
      let insns = of.insns.expansions pc instruction known.is.at in
      let below = spot_below setting.image (offset_of source pc) (depth_of (wide known.is.frame.stack)) list insns to e known.spot in
      let others = emitted_at setting body other.pc other.is.instruction in
      let above = spot_from setting.image (offset_of source other.pc) (depth_of (wide other.is.frame.stack)) others to f other.spot in
      let later = offset_above source (body_rises setting of.compiled body of.of_set) pc instruction known.is.at other.pc less in
      omega (arith, below, above, size_is source (offset_of source) (pc, instruction), later)

  -- those of one pc are of one instruction
  known_same : (to : ℕ) (e f : Depth) (known : IsKnownSpot setting body to e) (other : IsKnownSpot setting body to f) → known.pc ≡ other.pc → e ≡ f
  known_same to e f known other same =
      let source = source_for setting body in
      let pc = other.pc in
      let first = known.is in
      let second = other.is in
      let instruction : first.instruction ≡ second.instruction = same_Some first.instruction second.instruction (sym first.at ∙ ap (op_at body.ops) same ∙ second.at) in
      let frame : first.frame ≡ second.frame = same_Some first.frame second.frame (sym first.types ∙ ap (table_for setting body) same ∙ second.types) in
      let At : ℕ → Op → VFrame → Type 0 = λ n o types. IsSpot setting.image (offset_of source n) (depth_of (wide types.stack)) (emitted_at setting body n o) to e in
      let spot : At pc second.instruction second.frame =
      subst (At pc second.instruction) frame (subst (λ (o : Op). At pc o first.frame) instruction (subst (λ (n : ℕ). At n first.instruction first.frame) same known.spot))
      in
      one_at_spot setting.image (offset_of source pc) (depth_of (wide second.frame.stack)) (emitted_at setting body pc second.instruction)
      (of.insns.expansions pc second.instruction second.at) to e f spot other.spot

  -- points at one offset have one depth
  pub one_at : (to : ℕ) (e f : Depth) → IsPoint setting body to e → IsPoint setting body to f → e ≡ f
  one_at to e f (inl spot) (inl other) = one_at_spot setting.image 0 empty (fills_for setting body) of.insns.fills to e f spot other
  one_at to e f (inl spot) (inr known) = entry_before to e f spot known
  one_at to e f (inr known) (inl spot) = sym (entry_before to f e spot known)
  one_at to e f (inr known) (inr other) =
      elim (cases_lt known.pc other.pc) [
        | inl less ↦ absurd (known_before to e f known other less)
        | inr from ↦ elim (cases_lt other.pc known.pc) [
          | inl more ↦ absurd (known_before to f e other known more)
          | inr below ↦ known_same to e f known other (omega (arith, from, below))
        ]
      ]
