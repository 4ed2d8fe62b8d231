-- The shapes of operands one by one.
use Rattle.std.proofs.Common.{◌≡◌, ℕ, zero, suc, ◌+◌, ◌-◌, ◌<◌, ◌≤◌, List, [], ◌∷◌, ◌++◌, length, take, get_or, refl, sym, ap, ◌∙◌, arith}
use Rattle.std.proofs.lemmas.List.{take_more}
use Rattle.image_instr.specs.declared.insn.Kind.TheVariants as kind
use Rattle.image_instr.specs.declared.insn.Width.{Width}
use Rattle.body_form.specs.declared.types.VType.{VType}
use Rattle.body_form.specs.declared.types.VType.TheVariants as known
use Rattle.jvm_model.specs.WidthsShapes.{shape_of, shapes_of}

module _ (width : ℕ → Width) where
  pub shapes_length : (types : List VType) → length (shapes_of width types) ≡ length types
  unfolding shapes_of
  shapes_length [] = refl
  shapes_length (type ∷ below) = ap suc (shapes_length below)

  shape_at : (types : List VType) (position : ℕ) → position < length types
      → get_or (shapes_of width types) position kind.Ref ≡ shape_of (width (length types - (position + 1))) (get_or types position known.Top)
  unfolding shapes_of
  shape_at [] position within = absurd (omega (arith, within))
  shape_at (type ∷ below) zero within = ap (λ n. shape_of (width n) type) (omega arith)
  shape_at (type ∷ below) (suc position) within = shape_at below position (omega (arith, within)) ∙ ap (λ n. shape_of (width n) (get_or below position known.Top)) (omega arith)

  got_first : (values rest : List VType) (position : ℕ) → position < length values → get_or (values ++ rest) position known.Top ≡ get_or values position known.Top
  got_first [] rest position within = absurd (omega (arith, within))
  got_first (value ∷ values) rest zero within = refl
  got_first (value ∷ values) rest (suc position) within = got_first values rest position (omega (arith, within))

  longer : (values rest : List VType) → length values ≤ length (values ++ rest)
  longer [] rest = omega arith
  longer (value ∷ values) rest = omega (arith, longer values rest)

  -- one more from the top
  pub shape_more : (values rest : List VType) (position height place : ℕ) → position < length values → length (values ++ rest) ≡ height → place ≡ height - (position + 1)
      → take position (shapes_of width (values ++ rest)) ++ shape_of (width place) (get_or values position known.Top) ∷ [] ≡ take (position + 1) (shapes_of width (values ++ rest))
  shape_more values rest position height place within high at =
      let all = values ++ rest in
      let inside : position < length all = omega (arith, within, longer values rest) in
      let one : shape_of (width place) (get_or values position known.Top) ≡ get_or (shapes_of width all) position kind.Ref =
      ap (λ n. shape_of (width n) (get_or values position known.Top)) (at ∙ ap (λ n. n - (position + 1)) (sym high)) ∙ ap (shape_of (width (length all - (position + 1)))) (sym (got_first values rest position within)) ∙ sym (shape_at all position inside)
      in
      ap (λ shape. take position (shapes_of width all) ++ shape ∷ []) one ∙ sym (take_more (shapes_of width all) position kind.Ref (omega (arith, inside, shapes_length all)))

  -- the top ones alone
  pub top_taken : (types : List VType) (count : ℕ) → take (length (take count types)) (shapes_of width types) ≡ take count (shapes_of width types)
  unfolding shapes_of
  top_taken [] zero = refl
  top_taken [] (suc count) = refl
  top_taken (type ∷ below) zero = refl
  top_taken (type ∷ below) (suc count) = ap (λ list. shape_of (width (length below)) type ∷ list) (top_taken below count)
