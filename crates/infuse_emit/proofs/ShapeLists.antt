-- The shapes of the top operands of a stack.
use Rattle.std.proofs.Common.{◌≡◌, ℕ, zero, suc, ◌+◌, ◌-◌, ◌<◌, ◌≤◌, List, [], ◌∷◌, ◌++◌, length, take, drop, get_or, append_assoc, Some, None, refl, sym, ap, ◌∙◌, arith}
use Rattle.std.proofs.lemmas.List.{drop_more, drop_all, append-nil}
use Rattle.std.specs.Option.{option_map_or}
use Rattle.image_instr.specs.declared.insn.Kind.{Kind}
use Rattle.image_instr.specs.declared.insn.Width.{Width}
use Rattle.body_form.specs.declared.types.VType.{VType}
use Rattle.body_form.specs.declared.types.VFrame.{VFrame}
use Rattle.jvm_model.specs.WidthsShapes.{Widths, shape_of, shapes_of, shapes_at, types_at}
use Rattle.jvm_model.specs.TypesRight.{Table}
use Rattle.infuse_emit.specs.Shapes.{shapes_upon}

module _ (width : ℕ → Width) where
  upon_none : (below : ℕ) → shapes_upon width below [] ≡ []
  unfolding shapes_upon
  upon_none below = refl

  pub upon_more : (below : ℕ) (type : VType) (types : List VType) → shapes_upon width below (type ∷ types) ≡ shape_of (width (below + length types)) type ∷ shapes_upon width below types
  unfolding shapes_upon
  upon_more below type types = refl

  -- one more shape
  pub one_more : (below : ℕ) (operands : List VType) (i : ℕ) (d : VType) (shapes after : List Kind) (shape : Kind) → i < length operands → after ≡ shapes ++ shape ∷ []
      → shape ≡ shape_of (width (below + length (drop (i + 1) operands))) (get_or operands i d)
      → after ++ shapes_upon width below (drop (i + 1) operands) ≡ shapes ++ shapes_upon width below (drop i operands)
  one_more below operands i d shapes after shape lt pushed is =
      let rest = shapes_upon width below (drop (i + 1) operands) in
      ap (λ l. l ++ rest) pushed
      ∙ append_assoc shapes (shape ∷ []) rest
      ∙ ap (λ s. shapes ++ s ∷ rest) is
      ∙ sym (ap (λ l. shapes ++ l) (ap (shapes_upon width below) (drop_more operands i d lt) ∙ upon_more below (get_or operands i d) (drop (i + 1) operands)))

  pub no_more : (below : ℕ) (operands : List VType) (i : ℕ) (shapes : List Kind) → length operands ≤ i → shapes ≡ shapes ++ shapes_upon width below (drop i operands)
  no_more below operands i shapes le = sym (ap (λ l. shapes ++ l) (ap (shapes_upon width below) (drop_all i operands le) ∙ upon_none below) ∙ append-nil shapes)

  shapes_none : shapes_of width [] ≡ []
  unfolding shapes_of
  shapes_none = refl

  shapes_more : (type : VType) (types : List VType) → shapes_of width (type ∷ types) ≡ shape_of (width (length types)) type ∷ shapes_of width types
  unfolding shapes_of
  shapes_more type types = refl

  pub taken_less : (count : ℕ) (types : List VType) → length (take count types) ≤ length types
  taken_less zero types = omega arith
  taken_less (suc count) [] = omega arith
  taken_less (suc count) (type ∷ types) = omega (arith, taken_less count types)

  -- the shapes of the top operands are those of a stack
  pub top_shapes : (count : ℕ) (types : List VType) → take count (shapes_of width types) ≡ shapes_upon width (length types - length (take count types)) (take count types)
  top_shapes zero types = sym (upon_none (length types - 0))
  top_shapes (suc count) [] = ap (take (suc count)) shapes_none ∙ sym (upon_none 0)
  top_shapes (suc count) (type ∷ types) =
      let below = length types - length (take count types) in
      let whole : suc (length types) - suc (length (take count types)) ≡ below = omega arith in
      let same : length types ≡ below + length (take count types) = omega (arith, taken_less count types) in
      ap (take (suc count)) (shapes_more type types)
      ∙ ap (λ n. shape_of (width n) type ∷ take count (shapes_of width types)) same
      ∙ ap (λ l. shape_of (width (below + length (take count types))) type ∷ l) (top_shapes count types)
      ∙ sym (upon_more below type (take count types))
      ∙ ap (λ n. shapes_upon width n (type ∷ take count types)) (sym whole)

-- the shapes before an instruction are those of its operands
pub shapes_are : (widths : Widths) (table : Table) (pc : ℕ) → shapes_at widths table pc ≡ shapes_of (widths.operand pc) (types_at table pc)
shapes_are widths table pc =
    elim (table pc) as (λ found. option_map_or (λ (frame : VFrame). shapes_of (widths.operand pc) frame.stack) found [] ≡ shapes_of (widths.operand pc) (option_map_or (λ (frame : VFrame). frame.stack) found [])) [
      | None ↦ sym (shapes_none (widths.operand pc))
      | Some frame ↦ refl
    ]

-- the shapes of the top operands before an instruction
pub shapes_told : (widths : Widths) (table : Table) (pc count height : ℕ) (operands : List VType) → height ≡ length (types_at table pc) → operands ≡ take count (types_at table pc)
    → shapes_upon (widths.operand pc) (height - length operands) operands ≡ take count (shapes_at widths table pc)
shapes_told widths table pc count height operands high top =
    let types = types_at table pc in
    let width = widths.operand pc in
    ap (λ n. shapes_upon width (n - length operands) operands) high
    ∙ ap (λ list. shapes_upon width (length types - length list) list) top
    ∙ sym (ap (take count) (shapes_are widths table pc) ∙ top_shapes width count types)

pub within : (width : ℕ → Width) (types operands : List VType) (count height : ℕ) → height ≡ length types → operands ≡ take count types → length operands ≤ height
within width types operands count height high top = omega (arith, high, ap length top, taken_less width count types)
