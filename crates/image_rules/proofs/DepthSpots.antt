-- The offsets of machine instructions that follow one another, each with the depth before it, and the test of these.
use Rattle.std.proofs.Common.{◌≡◌, inl, inr, ℕ, ◌+◌, ◌≤◌, ◌<◌, Bool, true, false, ◌&&◌, ◌||◌, nat_eq, List, [], ◌∷◌, ◌++◌, length, refl, sym, ap, ap₂, subst, ◌∙◌, arith, eqb-true, eq-eqb, length-append}
use Rattle.std.specs.List.{AllByRecursion}
use Rattle.std.proofs.lemmas.Bool.{and_from, and_parts, false≢true, or_cases, or_left, or_right}
use Rattle.image_instr.specs.Insn.{insn_bytes}
use Rattle.image_form.specs.declared.record.Image.{Image}
use Rattle.image_check.specs.Visits.{Depth, depth, moved_by, suffix}
use Rattle.jvm_model.specs.ImageExpansion.{Emitted, bytes_of}
use Rattle.match_code.specs.Standing.{IsEmittedInsn}
use Rattle.match_code.proofs.CodeOrder.{some_bytes}
use Rattle.match_code.proofs.CodePoints.{bytes_joined, holds_here}
use Rattle.image_rules.specs.Depths.{depth_behind}
use Rattle.image_rules.proofs.BetweenInsns.{same_before, size_first}

-- the offset and the depth before one of these machine instructions, the first of which is at an offset with a depth
pub record IsSpot (image : Image) (at : ℕ) (d : Depth) (list : List Emitted) (to : ℕ) (e : Depth) : Type 0 where
  pub first : List Emitted
  pub emitted : Emitted
  pub rest : List Emitted
  pub is : list ≡ first ++ emitted ∷ rest
  pub offset : to ≡ at + length (bytes_of first)
  pub depth : e ≡ depth_behind image d first

-- ---- the test

abbrev is_at : ℕ → Depth → ℕ → ℕ → ℕ → Bool
is_at at d to refs cells = nat_eq at to && (nat_eq d.refs refs && nat_eq d.cells cells)

abbrev pub has_spot : Image → ℕ → Depth → List Emitted → ℕ → ℕ → ℕ → Bool
has_spot image at d [] to refs cells = false
has_spot image at d (emitted ∷ rest) to refs cells =
    is_at at d to refs cells || has_spot image (at + length (insn_bytes emitted.0 emitted.1)) (suffix (moved_by image emitted.0) d) rest to refs cells

pub spot_found : (image : Image) (at : ℕ) (d : Depth) (list : List Emitted) (to refs cells : ℕ) → has_spot image at d list to refs cells ≡ true
    → IsSpot image at d list to (depth refs cells)
unfolding depth_behind
spot_found image at d [] to refs cells has = absurd (false≢true has)
spot_found image at d (emitted ∷ rest) to refs cells has =
    let next = at + length (insn_bytes emitted.0 emitted.1) in
    let after = suffix (moved_by image emitted.0) d in
    elim (or_cases (is_at at d to refs cells) (has_spot image next after rest to refs cells) has) [
      | inl here ↦
          let parts = and_parts (nat_eq at to) (nat_eq d.refs refs && nat_eq d.cells cells) here in
          let counts = and_parts (nat_eq d.refs refs) (nat_eq d.cells cells) parts.1 in
          let same = eqb-true at to parts.0 in
          record {
            first = [];
            emitted = emitted;
            rest = rest;
            is = refl;
            offset = omega (arith, same);
            depth = ap₂ depth (sym (eqb-true d.refs refs counts.0)) (sym (eqb-true d.cells cells counts.1));
          }
      | inr later ↦
          let spot = spot_found image next after rest to refs cells later in
          record {
            first = emitted ∷ spot.first;
            emitted = spot.emitted;
            rest = spot.rest;
            is = ap (λ (l : List Emitted). emitted ∷ l) spot.is;
            offset = omega (arith, spot.offset, size_first emitted spot.first);
            depth = spot.depth;
          }
    ]

has_split : (image : Image) (at : ℕ) (d : Depth) (first : List Emitted) (emitted : Emitted) (rest : List Emitted) (to : ℕ) (e : Depth)
    → to ≡ at + length (bytes_of first) → e ≡ depth_behind image d first
    → has_spot image at d (first ++ emitted ∷ rest) to e.refs e.cells ≡ true
unfolding depth_behind
has_split image at d [] emitted rest to e offset same =
    or_left (is_at at d to e.refs e.cells) (has_spot image (at + length (insn_bytes emitted.0 emitted.1)) (suffix (moved_by image emitted.0) d) rest to e.refs e.cells)
    (and_from (nat_eq at to) (nat_eq d.refs e.refs && nat_eq d.cells e.cells) (eq-eqb at to (omega (arith, offset)))
    (and_from (nat_eq d.refs e.refs) (nat_eq d.cells e.cells)
    (eq-eqb d.refs e.refs (ap (λ (x : Depth). x.refs) (sym same))) (eq-eqb d.cells e.cells (ap (λ (x : Depth). x.cells) (sym same)))))
has_split image at d (other ∷ first) emitted rest to e offset same =
    let next = at + length (insn_bytes other.0 other.1) in
    or_right (is_at at d to e.refs e.cells) (has_spot image next (suffix (moved_by image other.0) d) (first ++ emitted ∷ rest) to e.refs e.cells)
    (has_split image next (suffix (moved_by image other.0) d) first emitted rest to e (omega (arith, offset, size_first other first)) same)

pub spot_there : (image : Image) (at : ℕ) (d : Depth) (list : List Emitted) (to : ℕ) (e : Depth) → IsSpot image at d list to e
    → has_spot image at d list to e.refs e.cells ≡ true
spot_there image at d list to e spot =
    subst (λ (l : List Emitted). has_spot image at d l to e.refs e.cells ≡ true) (sym spot.is) (has_split image at d spot.first spot.emitted spot.rest to e spot.offset spot.depth)

-- ---- one depth at an offset

pub one_at_spot : (image : Image) (at : ℕ) (d : Depth) (list : List Emitted) → AllByRecursion IsEmittedInsn list → (to : ℕ) (e f : Depth)
    → IsSpot image at d list to e → IsSpot image at d list to f → e ≡ f
one_at_spot image at d list all to e f spot other =
    let Insns : List Emitted → Type 0 = AllByRecursion IsEmittedInsn in
    let before =
    same_before spot.first spot.emitted spot.rest other.first other.emitted other.rest (sym spot.is ∙ other.is)
    (subst Insns spot.is all) (subst Insns other.is all) (omega (arith, spot.offset, other.offset))
    in
    spot.depth ∙ ap (depth_behind image d) before ∙ sym other.depth

-- it is within the bytes of the machine instructions
pub spot_from : (image : Image) (at : ℕ) (d : Depth) (list : List Emitted) (to : ℕ) (e : Depth) → IsSpot image at d list to e → at ≤ to
spot_from image at d list to e spot = omega (arith, spot.offset)

pub spot_below : (image : Image) (at : ℕ) (d : Depth) (list : List Emitted) → AllByRecursion IsEmittedInsn list → (to : ℕ) (e : Depth)
    → IsSpot image at d list to e → to < at + length (bytes_of list)
spot_below image at d list all to e spot =
    let emitted = spot.emitted in
    let is = holds_here IsEmittedInsn spot.first emitted spot.rest (subst (AllByRecursion IsEmittedInsn) spot.is all) in
    let bytes = ap (λ (l : List Emitted). length (bytes_of l)) spot.is ∙ ap (λ (l : List ℕ). length l) (bytes_joined spot.first (emitted ∷ spot.rest)) in
    omega (arith, spot.offset, bytes, length-append (bytes_of spot.first) (bytes_of (emitted ∷ spot.rest)), size_first emitted spot.rest, some_bytes emitted.0 emitted.1 is)
