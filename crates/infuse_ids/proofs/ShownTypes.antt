-- The arrays of a base, by their dimensions.
use Rattle.std.proofs.Common.{◌≡◌, ℕ, suc, ◌+◌, List, refl, sym, ap, ◌∙◌, add-one}
use Rattle.class_pool.specs.declared.types.TypeBase.{TypeBase}
use Rattle.class_pool.specs.declared.types.TypeRef.{TypeRef}
use Rattle.jvm_model.specs.ImageNumbering.{with_type, with_arrays}

pub no_arrays : (base : TypeBase) (types : List TypeRef) → types ≡ with_arrays base 0 types
unfolding with_arrays
no_arrays base types = refl

next_arrays : (base : TypeBase) (dims : ℕ) (types : List TypeRef) → with_type (with_arrays base dims types) (record { dims = suc dims; base = base }) ≡ with_arrays base (suc dims) types
unfolding with_arrays
next_arrays base dims types = refl

pub arrays_more : (base : TypeBase) (dims : ℕ) (types : List TypeRef) → with_type (with_arrays base dims types) (record { dims = dims + 1; base = base }) ≡ with_arrays base (dims + 1) types
arrays_more base dims types =
    ap (λ (n : ℕ). with_type (with_arrays base dims types) (record { dims = n; base = base })) (add-one dims)
    ∙ next_arrays base dims types ∙ ap (λ (n : ℕ). with_arrays base n types) (sym (add-one dims))
