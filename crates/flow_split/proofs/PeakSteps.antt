-- A run of moves goes on.
use Rattle.std.proofs.Common.{◌≡◌, ℕ, zero, suc, ◌+◌, ◌-◌, ◌≤◌, max, min, ◌&&◌, List, [], ◌∷◌, ◌++◌, length, drop, refl, ap, ◌∙◌, arith}
use Rattle.class_pool.specs.declared.descriptor.Kind.{Kind as DeclaredKind}
use Rattle.image_instr.specs.declared.insn.Kind.{Kind}
use Rattle.image_instr.specs.declared.insn.Kind.TheVariants as kind
use Rattle.image_instr.specs.declared.insn.MInsn.TheVariants as insns
use Rattle.image_instr.specs.Effect.{called, refs_of, cells_of}
use Rattle.image_form.specs.Library.{signature}
use Rattle.image_instr.specs.declared.signature.Sig.{Sig}
use Rattle.jvm_model.specs.ImageExpansion.{Emitted, cut_arguments, alone_where, is_two}
use Rattle.jvm_model.specs.WidthsFrame.{most_operands, popped, pushed, code_of_kind}
use Rattle.jvm_model.specs.WidthsSlots.{passed_cells, is_small}
use Rattle.flow_split.specs.declared.moves.Move.{Move}
use Rattle.flow_split.specs.declared.peaks.Peak.{Peak}
use Rattle.flow_split.specs.Moves.{move_of, most_moves}
use Rattle.flow_split.specs.Peaks.{most_after, most_emitted, moved}

max_three : (a b c : ℕ) → max (max a b) c ≡ max a (max b c)
max_three a b c = omega arith

pub step_after : (peak : Peak) (made : Move) (rest : List Move) → most_after (moved peak made) rest ≡ most_after peak (made ∷ rest)
unfolding most_moves
step_after peak made rest = max_three peak.most peak.height (most_moves ((peak.height - made.pops) + made.pushes) rest)

pub step_emitted : (sig : Sig) (peak : Peak) (one : Emitted) (rest : List Emitted) → most_emitted sig (moved peak (move_of sig one)) rest ≡ most_emitted sig peak (one ∷ rest)
unfolding most_operands
step_emitted sig peak one rest = let made = move_of sig one in max_three peak.most peak.height (most_operands sig ((peak.height - made.pops) + made.pushes) rest)

pub ends : (peak : Peak) → most_after peak [] ≡ max peak.most peak.height
unfolding most_moves
ends peak = refl

-- ---- arguments that are cut

drop_none : (i : ℕ) → ◌≡◌ {A = List Kind} (drop i []) []
drop_none zero = refl
drop_none (suc i) = refl

pub cut_more : (above : ℕ) (kinds more : List DeclaredKind) (shapes others : List Kind) (k : DeclaredKind) (shape : Kind) → kinds ≡ k ∷ more → shapes ≡ shape ∷ others
    → cut_arguments above kinds shapes ≡ alone_where (is_small k && is_two shape) (insns.Drop above) ++ cut_arguments (above + passed_cells k) more others
unfolding cut_arguments
cut_more above kinds more shapes others k shape first second =
    ap (λ (list : List DeclaredKind). cut_arguments above list shapes) first ∙ ap (λ (list : List Kind). cut_arguments above (k ∷ more) list) second

cut_no_shapes : (above : ℕ) (kinds : List DeclaredKind) → cut_arguments above kinds [] ≡ []
unfolding cut_arguments
cut_no_shapes above [] = refl
cut_no_shapes above (k ∷ kinds) = refl

-- nothing is cut where no argument or no operand is left
pub cut_past : (above : ℕ) (kinds : List DeclaredKind) (shapes : List Kind) (i : ℕ) → min (length kinds) (length shapes) ≤ i → cut_arguments above (drop i kinds) (drop i shapes) ≡ []
unfolding cut_arguments
cut_past above [] shapes zero within = refl
cut_past above [] shapes (suc i) within = refl
cut_past above (k ∷ kinds) [] i within = ap (cut_arguments above (drop i (k ∷ kinds))) (drop_none i) ∙ cut_no_shapes above (drop i (k ∷ kinds))
cut_past above (k ∷ kinds) (shape ∷ shapes) zero within = absurd (omega (arith, within))
cut_past above (k ∷ kinds) (shape ∷ shapes) (suc i) within = cut_past above kinds shapes i (omega (arith, within))

-- ---- the call itself

pub called_pops : (refs cells : ℕ) (shape : Kind) → popped (called (signature refs cells (code_of_kind shape))) ≡ refs + cells
called_pops refs cells kind.Ref = refl
called_pops refs cells kind.One = refl
called_pops refs cells kind.Two = refl

pub called_pushes : (refs cells : ℕ) (shape : Kind) → pushed (called (signature refs cells (code_of_kind shape))) ≡ refs_of shape + cells_of shape
called_pushes refs cells kind.Ref = refl
called_pushes refs cells kind.One = refl
called_pushes refs cells kind.Two = refl
