-- In each method of the image of an accepted set each offset is reached with one depth, at which its instruction keeps its rule.
use Rattle.std.proofs.Common.{◌≡◌, inl, inr, ℕ, zero, suc, ◌+◌, Bool, true, false, ◌||◌, if◌then◌else◌, List, [], ◌∷◌, drop, Option, Some, None, refl, sym, ap, subst, ◌∙◌, arith}
use Rattle.std.specs.List.{AllByRecursion, Contains, list_any}
use Rattle.std.specs.Option.{option_map_or}
use Rattle.std.proofs.lemmas.Bool.{false≢true, or_cases, or_left, or_right}
use Rattle.std.proofs.lemmas.Option.{some_pair_parts}
use Rattle.image_instr.specs.declared.insn.MInsn.{MInsn}
use Rattle.image_instr.specs.Reading.{rows_at}
use Rattle.image_check.specs.Code.{targets}
use Rattle.image_check.specs.Visits.{Depth, IsClosed, IsRight, IsSent, depth, empty, goes_on, moved_by, successors, suffix}
use Rattle.body_form.specs.declared.body.Body.{Body}
use Rattle.body_form.specs.declared.op.Op.{Op}
use Rattle.body_form.specs.declared.types.VFrame.{VFrame}
use Rattle.jvm_model.specs.ImageEmission.{code_of, method_of, offset_of}
use Rattle.jvm_model.specs.TypesRules.{op_at}
use Rattle.type_rounds.proofs.tables.Lists.{all_append, all_map}
use Rattle.type_rounds.proofs.tables.Starts.{each_is_at}
use Rattle.type_safety.proofs.facts.Control.{op_there}
use Rattle.match_states.specs.Setting.{Setting, source_for, table_for}
use Rattle.match_code.specs.Standing.{emitted_at, fills_for}
use Rattle.match_code.proofs.CodeMoves.{body_rises}
use Rattle.image_rules.specs.Depths.{depth_of, wide}
use Rattle.image_rules.specs.Parts.{BodiesAreAccepted, ExpansionsLeadAs, ExpansionsMoveRight, IsOfAccepted, KnownComeOn}
use Rattle.image_rules.specs.Rules.{DepthsAreRight, HasRightDepths}
use Rattle.image_rules.proofs.DepthPoints.{IsKnownSpot, IsPoint, first_point, one_at, read_point}
use Rattle.image_rules.proofs.DepthSpots.{has_spot, spot_found, spot_there}
use Rattle.image_rules.proofs.FittingDepths.{fits_body, method, most}
use Rattle.image_rules.proofs.ImageMethods.{of_each_method}
use Rattle.image_rules.proofs.KnownSteps.{ExpansionsCallAs}
use Rattle.image_rules.proofs.ReadSpots.{IsRead}

-- ---- tests of lists

any_of : {X : Type 0} (P : X → Type 0) (test : X → Bool) (xs : List X) → AllByRecursion P xs → list_any test xs ≡ true → (x : X) × P x × (test x ≡ true)
any_of P test [] all any = absurd (false≢true any)
any_of P test (x ∷ xs) all any =
    elim (or_cases (test x) (list_any test xs) any) [
      | inl here ↦ (x, all.0, here)
      | inr later ↦ any_of P test xs all.1 later
    ]

any_at : {X : Type 0} (test : X → Bool) (xs : List X) (x : X) → Contains xs x → test x ≡ true → list_any test xs ≡ true
any_at test [] x (k, within, is) passes = absurd (omega (arith, within))
any_at test (y ∷ xs) x (zero, within, is) passes = or_left (test y) (list_any test xs) (ap test is ∙ passes)
any_at test (y ∷ xs) x (suc k, within, is) passes = or_right (test y) (list_any test xs) (any_at test xs x (k, omega (arith, within), is) passes)

-- where an instruction may go on, it goes on to what holds
where_on : (P : ℕ → Type 0) (on : Bool) (to : ℕ) → (on ≡ true → P to) → AllByRecursion P (if on then to ∷ [] else [])
where_on P true to holds = (holds refl, tt)
where_on P false to holds = tt

module _ (setting : Setting) (body : Body) where
  abbrev offset : ℕ → ℕ
  offset = offset_of (source_for setting body)

  -- ---- the test of points

  -- one that extends a parameter
  abbrev at_entry : ℕ → ℕ → ℕ → Bool
  at_entry to refs cells = has_spot setting.image 0 empty (fills_for setting body) to refs cells

  -- one of an instruction whose types are known
  abbrev spot_in : ℕ → ℕ → ℕ → ℕ × Op → Option VFrame → Bool
  spot_in to refs cells x known = option_map_or (λ frame. has_spot setting.image (offset x.0) (depth_of (wide frame.stack)) (emitted_at setting body x.0 x.1) to refs cells) known false

  abbrev spot_of : ℕ → ℕ → ℕ → ℕ × Op → Bool
  spot_of to refs cells x = spot_in to refs cells x (table_for setting body x.0)

  -- either of them
  abbrev is_point : ℕ → ℕ → ℕ → Bool
  is_point to refs cells = at_entry to refs cells || list_any (spot_of to refs cells) body.ops

  module _ (of : IsOfAccepted setting body) where
    -- what passes the test is a point
    known_spot : (to refs cells : ℕ) (x : ℕ × Op) → op_at body.ops x.0 ≡ Some x.1 → (known : Option VFrame) → table_for setting body x.0 ≡ known
        → spot_in to refs cells x known ≡ true
        → IsKnownSpot setting body to (depth refs cells)
    known_spot to refs cells x at None is has = absurd (false≢true has)
    known_spot to refs cells x at (Some frame) is has =
        record {
          pc = x.0;
          is = record { instruction = x.1; at = at; frame = frame; types = is };
          spot = spot_found setting.image (offset x.0) (depth_of (wide frame.stack)) (emitted_at setting body x.0 x.1) to refs cells has;
        }

    point_found : (to refs cells : ℕ) → is_point to refs cells ≡ true → IsPoint setting body to (depth refs cells)
    point_found to refs cells has =
        elim (or_cases (at_entry to refs cells) (list_any (spot_of to refs cells) body.ops) has) [
          | inl entry ↦ inl (spot_found setting.image 0 empty (fills_for setting body) to refs cells entry)
          | inr later ↦
              let found = any_of (λ x. op_at body.ops x.0 ≡ Some x.1) (spot_of to refs cells) body.ops (each_is_at body.ops (body_rises setting of.compiled body of.of_set)) later in
              inr (known_spot to refs cells found.0 found.1 (table_for setting body found.0.0) refl found.2)
        ]

    -- a point passes the test
    point_there : (to : ℕ) (e : Depth) → IsPoint setting body to e → is_point to e.refs e.cells ≡ true
    point_there to e (inl spot) =
        or_left (at_entry to e.refs e.cells) (list_any (spot_of to e.refs e.cells) body.ops) (spot_there setting.image 0 empty (fills_for setting body) to e spot)
    point_there to e (inr known) =
        let x : ℕ × Op = (known.pc, known.is.instruction) in
        let frame = known.is.frame in
        or_right (at_entry to e.refs e.cells) (list_any (spot_of to e.refs e.cells) body.ops)
        (any_at (spot_of to e.refs e.cells) body.ops x (op_there body.ops known.pc known.is.instruction known.is.at)
        (ap (spot_in to e.refs e.cells x) known.is.types
        ∙ spot_there setting.image (offset known.pc) (depth_of (wide frame.stack)) (emitted_at setting body known.pc known.is.instruction) to e known.spot))

    module _ (moves : ExpansionsMoveRight) (leads : ExpansionsLeadAs) (come : KnownComeOn) (calls : ExpansionsCallAs) where
      abbrev Read : ℕ → Depth → Type 0
      Read to e = IsRead setting.image (method setting body of) (most setting body of) (IsPoint setting body) to e

      read : (to : ℕ) (e : Depth) → IsPoint setting body to e → Read to e
      read to e point = read_point moves leads come calls setting body of to e point

      -- ---- the points are closed

      abbrev code : List ℕ
      code = code_of (source_for setting body)

      abbrev Sends : Depth → MInsn → ℕ → Type 0
      Sends e insn to = is_point to (suffix (moved_by setting.image insn) e).refs (suffix (moved_by setting.image insn) e).cells ≡ true

      sends : (to : ℕ) (e : Depth) (found : Read to e) → AllByRecursion (Sends e found.insn) (successors code to found.insn found.size)
      sends to e found =
          let after = suffix (moved_by setting.image found.insn) e in
          let jumps = targets found.insn (rows_at found.insn (drop to code)) in
          all_append (Sends e found.insn) (if goes_on found.insn then (to + found.size) ∷ [] else []) jumps
          (where_on (Sends e found.insn) (goes_on found.insn) (to + found.size) (λ on. point_there (to + found.size) after (found.next on)))
          (all_map (λ n. IsPoint setting body n after) (Sends e found.insn) (λ n point. point_there n after point) jumps found.jumps)

      closed : IsClosed setting.image code is_point
      closed to refs cells insn size holds at operands =
          let e = depth refs cells in
          let found = read to e (point_found to refs cells holds) in
          let same = some_pair_parts insn found.insn size found.size (sym at ∙ found.found) in
          subst (λ (i : MInsn). AllByRecursion (Sends e i) (successors code to i size)) (sym same.0)
          (subst (λ (n : ℕ). AllByRecursion (Sends e found.insn) (successors code to found.insn n)) (sym same.1) (sends to e found))

      -- ---- what is reached

      reached : (to : ℕ) (e : Depth) → IsSent setting.image code to e → IsPoint setting body to e
      reached to e sent = point_found to e.refs e.cells (sent is_point (point_there 0 empty (first_point moves leads come calls setting body of)) closed)

      right_at : (to : ℕ) (e : Depth) → IsPoint setting body to e → IsRight setting.image (method setting body of) to e
      right_at to e point =
          let found = read to e point in
          let after = suffix (moved_by setting.image found.insn) e in
          record {
            insn = found.insn;
            size = found.size;
            found = found.found;
            operands = found.operands;
            result = found.result;
            fits = fits_body setting body of e found.fits;
            fits_after = fits_body setting body of after found.fits_after;
            inside = λ on. let next = read (to + found.size) after (found.next on) in next.inside;
          }

      right_depths : HasRightDepths setting.image (method_of (source_for setting body))
      right_depths =
          record {
            right = λ to e sent. right_at to e (reached to e sent);
            one_depth = λ to e f sent other. one_at setting body of to e f (reached to e sent) (reached to f other);
          }

pub depths_are_right : ExpansionsLeadAs → ExpansionsMoveRight → KnownComeOn → ExpansionsCallAs → BodiesAreAccepted → DepthsAreRight
depths_are_right leads moves come calls bodies = of_each_method bodies HasRightDepths (λ setting body of. right_depths setting body of moves leads come calls)
