-- The width of the local that is named.
use Rattle.std.proofs.Common.{◌≡◌, ℕ, ◌<◌, List, map, get_or, Option, Some, None, sym, ap, ◌∙◌, arith}
use Rattle.std.specs.Prelude.{IfSome}
use Rattle.std.specs.List.{range_with_len}
use Rattle.std.proofs.lemmas.List.FromFn.{get_or-map-range_with_len}
use Rattle.std.proofs.lemmas.Option.{same_Some}
use Rattle.image_instr.specs.declared.insn.Width.{Width}
use Rattle.image_instr.specs.declared.insn.Width.TheVariants as width

pub width_named : (named : Option ℕ) (local count : ℕ) (of : ℕ → Width) (widths : List Width) → named ≡ Some local → widths ≡ map of (range_with_len 0 count)
    → IfSome named (λ other. other < count) → IfSome named (λ other. of other ≡ get_or widths local width.Two)
width_named None local count of widths is all low = tt
width_named (Some other) local count of widths is all low =
    let same : other ≡ local = same_Some other local is in
    sym (get_or-map-range_with_len of 0 count local other width.Two (omega (arith, same, low)) (omega (arith, same))) ∙ sym (ap (λ (list : List Width). get_or list local width.Two) all)

pub width_unnamed : (named : Option ℕ) (of : ℕ → Width) (wide : Width) → named ≡ None → IfSome named (λ other. of other ≡ wide)
width_unnamed None of wide is = tt
width_unnamed (Some other) of wide is = absurd (grind (arith, is))
