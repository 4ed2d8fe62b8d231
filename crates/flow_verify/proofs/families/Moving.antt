-- Operands that move, by their positions.
use Rattle.std.proofs.Common.{◌≡◌, ℕ, ◌+◌, ◌<◌, ◌≤◌, false, List, [], ◌∷◌, ◌++◌, length, take, get_or, if◌then◌else◌, Some, None, slice_get, sym, ap, ◌∙◌, arith}
use Rattle.std.specs.Prelude.{nat_le}
use Rattle.std.proofs.lemmas.Bool.{le-leb}
use Rattle.std.proofs.lemmas.Bool.Decides.{nat_tests}
use Rattle.std.proofs.lemmas.List.{take_more, map-append}
use Rattle.std.proofs.lemmas.Option.{get_or_from_slice_get, slice_get-get_or}
use Rattle.body_form.specs.declared.types.VFrame.{VFrame}
use Rattle.body_form.specs.declared.types.VType.{VType}
use Rattle.body_form.specs.declared.types.VType.TheVariants as known
use Rattle.jvm_model.specs.TypesRules.{moves}
use Rattle.flow_verify.specs.Moves.{picked, moves_at, AreTaken}
use Rattle.flow_verify.proofs.families.Taking.{all_at}

module _ (frame : VFrame) (pops : ℕ) (positions : List ℕ) where
  too_many : length frame.stack < pops → nat_le pops (length frame.stack) ≡ false
  too_many lt = grind (arith, nat_tests)

  pub not_moved : length frame.stack < pops → moves_at frame pops positions ≡ None
  not_moved lt = ap (λ b. if b then moves frame pops (picked frame.stack positions) else None) (too_many lt)

  pub moved : pops ≤ length frame.stack → moves_at frame pops positions ≡ moves frame pops (picked frame.stack positions)
  moved le = ap (λ b. if b then moves frame pops (picked frame.stack positions) else None) (le-leb pops (length frame.stack) le)

  -- the operand at one of the positions is there
  pub is_there : AreTaken pops positions → pops ≤ length frame.stack → (i : ℕ) → i < length positions → slice_get frame.stack (get_or positions i 0) ≡ None → ⊥
  is_there taken le i within none =
      let position = get_or positions i 0 in
      let below : position < pops = all_at (λ (p : ℕ). p < pops) positions i position taken (slice_get-get_or positions i 0 within) in
      let there = slice_get-get_or frame.stack position known.Top (omega (arith, below, le)) in
      let f : None ≡ Some (get_or frame.stack position known.Top) = sym none ∙ there in
      cc

pub picked_more : (stack : List VType) (positions : List ℕ) (i : ℕ) (type : VType) → i < length positions → slice_get stack (get_or positions i 0) ≡ Some type
    → picked stack (take (i + 1) positions) ≡ picked stack (take i positions) ++ type ∷ []
picked_more stack positions i type within there =
    ap (picked stack) (take_more positions i 0 within) ∙ map-append (λ position. get_or stack position known.Top) (take i positions) (get_or positions i 0 ∷ [])
    ∙ ap (λ v. picked stack (take i positions) ++ v ∷ []) (get_or_from_slice_get stack (get_or positions i 0) type known.Top there)
