-- The arguments of a call, cut one after the other.
use Rattle.std.proofs.Common.{◌≡◌, ℕ, ◌+◌, ◌≤◌, ◌<◌, ◌-◌, Bool, ◌&&◌, List, [], ◌∷◌, ◌++◌, length, min, drop, get_or, reverse, refl, sym, ap, ◌∙◌, append_assoc, add-one, arith, inl, inr, ◌⊎◌}
use Rattle.std.proofs.Math.Seq.{drop-cons}
use Rattle.std.proofs.lemmas.List.{map-append, drop_all, length-reverse, get_or-reverse, append-nil}
use Rattle.std.proofs.lemmas.Bool.{cases_lt}
use Rattle.class_pool.specs.declared.descriptor.Kind.{Kind as DeclaredKind}
use Rattle.image_instr.specs.declared.insn.Kind.{Kind}
use Rattle.image_instr.specs.declared.insn.MInsn.{MInsn}
use Rattle.image_instr.specs.declared.insn.MInsn.TheVariants as insn
use Rattle.jvm_model.specs.WidthsSlots.{passed_cells, is_small}
use Rattle.jvm_model.specs.ImageExpansion.{Emitted, alone_where, is_two, cut_arguments}
use Rattle.expansion.specs.Expanding.{insns}

rest : {X : Type 0} (xs : List X) (at : ℕ) (x : X) → at < length xs → drop at xs ≡ get_or xs at x ∷ drop (at + 1) xs
rest xs at x lt = drop-cons xs at x lt ∙ ap (λ n. get_or xs at x ∷ drop n xs) (sym (add-one at))

joined : (out new : List MInsn) (first second : List Emitted) → new ≡ out ++ insns first → new ++ insns second ≡ out ++ insns (first ++ second)
joined out new first second e =
    ap (λ list. list ++ insns second) e ∙ (append_assoc out (insns first) (insns second) ∙ ap (λ list. out ++ list) (sym (map-append (λ (emitted : Emitted). emitted.0) first second)))

cut_next : (above : ℕ) (kind : DeclaredKind) (shape : Kind) (kinds : List DeclaredKind) (shapes : List Kind) → alone_where (is_small kind && is_two shape) (insn.Drop above) ++ cut_arguments (above + passed_cells kind) kinds shapes ≡ cut_arguments above (kind ∷ kinds) (shape ∷ shapes)
unfolding cut_arguments
cut_next above kind shape kinds shapes = refl

-- one argument more
pub cut_step : (out new : List MInsn) (params : List DeclaredKind) (shapes : List Kind) (at above passed : ℕ) (kind : DeclaredKind) (none : Kind) (wanted : Bool) → at < length params → at < length shapes → kind ≡ get_or params (length params - 1 - at) kind → wanted ≡ (is_small kind && is_two (get_or shapes at none)) → passed ≡ passed_cells kind → new ≡ out ++ insns (alone_where wanted (insn.Drop above)) → new ++ insns (cut_arguments (above + passed) (drop (at + 1) (reverse params)) (drop (at + 1) shapes)) ≡ out ++ insns (cut_arguments above (drop at (reverse params)) (drop at shapes))
cut_step out new params shapes at above passed kind none wanted in_params in_shapes kind_is wanted_is passed_is e =
    let later_kinds = drop (at + 1) (reverse params) in
    let later_shapes = drop (at + 1) shapes in
    let shape = get_or shapes at none in
    let in_reverse : at < length (reverse params) = omega (arith, in_params, length-reverse params) in
    let kinds_rest : drop at (reverse params) ≡ kind ∷ later_kinds =
    rest (reverse params) at kind in_reverse ∙ ap (λ k. k ∷ later_kinds) (get_or-reverse params at kind in_params ∙ sym kind_is) in
    let shapes_rest : drop at shapes ≡ shape ∷ later_shapes = rest shapes at none in_shapes in
    let cut : new ≡ out ++ insns (alone_where (is_small kind && is_two shape) (insn.Drop above)) = e ∙ ap (λ w. out ++ insns (alone_where w (insn.Drop above))) wanted_is in
    ap (λ n. new ++ insns (cut_arguments (above + n) later_kinds later_shapes)) passed_is
    ∙ (joined out new (alone_where (is_small kind && is_two shape) (insn.Drop above)) (cut_arguments (above + passed_cells kind) later_kinds later_shapes) cut
    ∙ ap (λ list. out ++ insns list) (cut_next above kind shape later_kinds later_shapes
    ∙ (ap (λ kinds. cut_arguments above kinds (shape ∷ later_shapes)) (sym kinds_rest) ∙ ap (λ list. cut_arguments above (drop at (reverse params)) list) (sym shapes_rest))))

pub no_kinds : (above : ℕ) (shapes : List Kind) → cut_arguments above [] shapes ≡ []
unfolding cut_arguments
no_kinds above [] = refl
no_kinds above (shape ∷ shapes) = refl

no_shapes : (above : ℕ) (kinds : List DeclaredKind) → cut_arguments above kinds [] ≡ []
unfolding cut_arguments
no_shapes above [] = refl
no_shapes above (kind ∷ kinds) = refl

past : (n m at : ℕ) → min n m ≤ at → (n ≤ at) ⊎ (m ≤ at)
past n m at le = elim (cases_lt at n) [ inl in_first ↦ inr (omega (arith, le, in_first)) | inr past_first ↦ inl past_first ]

-- no argument is left
pub cut_end : (out : List MInsn) (params : List DeclaredKind) (shapes : List Kind) (at above : ℕ) → min (length params) (length shapes) ≤ at → out ++ insns (cut_arguments above (drop at (reverse params)) (drop at shapes)) ≡ out
cut_end out params shapes at above le =
    elim (past (length params) (length shapes) at le) [
      | inl params_end ↦ ap (λ kinds. out ++ insns (cut_arguments above kinds (drop at shapes))) (drop_all at (reverse params) (omega (arith, params_end, length-reverse params))) ∙ (ap (λ list. out ++ insns list) (no_kinds above (drop at shapes)) ∙ append-nil out)
      | inr shapes_end ↦ ap (λ list. out ++ insns (cut_arguments above (drop at (reverse params)) list)) (drop_all at shapes shapes_end) ∙ (ap (λ list. out ++ insns list) (no_shapes above (drop at (reverse params))) ∙ append-nil out)
    ]
