-- The types of an image begin with the classes in their order, and arrays come behind them.
use Rattle.std.proofs.Common.{◌≡◌, ℕ, zero, suc, Bool, true, false, if◌then◌else◌, List, [], ◌∷◌, ◌++◌, map, Option, Some, None, refl, sym, ap, ◌∙◌, append-nil, append_assoc}
use Rattle.std.specs.List.{list_any, fold}
use Rattle.class_pool.specs.declared.types.TypeBase.{TypeBase}
use Rattle.class_pool.specs.declared.types.TypeRef.{TypeRef}
use Rattle.class_file.specs.declared.record.ClassFile.{ClassFile}
use Rattle.class_tree.specs.Subtypes.{class_type}
use Rattle.body_form.specs.declared.body.Body.{Body}
use Rattle.body_form.specs.declared.op.Op.{Op}
use Rattle.std.specs.Option.{option_map_or}
use Rattle.jvm_model.specs.ImageNumbering.{class_order, is_type, with_type, with_arrays, shown_by, with_shown, with_body, bodies_in_order, type_order}

-- types that begin with others
abbrev pub Begins : List TypeRef → List TypeRef → Type 0
Begins start types = (more : List TypeRef) × (types ≡ start ++ more)

itself : (types : List TypeRef) → Begins types types
itself types = ([], sym (append-nil types))

through : (first second third : List TypeRef) → Begins first second → Begins second third → Begins first third
through first second third one two = (one.0 ++ two.0, two.1 ∙ ap (λ (types : List TypeRef). types ++ two.0) one.1 ∙ append_assoc first one.0 two.0)

one_more : (types : List TypeRef) (type : TypeRef) (there : Bool) → Begins types (if there then types else types ++ type ∷ [])
one_more types type true = itself types
one_more types type false = (type ∷ [], refl)

arrays_more : (of : TypeBase) (dims : ℕ) (types : List TypeRef) → Begins types (with_arrays of dims types)
unfolding with_arrays
arrays_more of zero types = itself types
arrays_more of (suc dims) types =
    let array : TypeRef = record { dims = suc dims; base = of } in
    let inner = with_arrays of dims types in
    through types inner (with_type inner array) (arrays_more of dims types) (one_more inner array (list_any (is_type array) inner))

option_more : (types : List TypeRef) (shown : Option TypeRef) → Begins types (option_map_or (λ (type : TypeRef). with_arrays type.base type.dims types) shown types)
option_more types None = itself types
option_more types (Some type) = arrays_more type.base type.dims types

shown_more : (types : List TypeRef) (x : ℕ × Op) → Begins types (with_shown types x)
shown_more types x = option_more types (shown_by x.1)

fold_more : {X : Type 0} (step : List TypeRef → X → List TypeRef) → ((types : List TypeRef) (x : X) → Begins types (step types x)) → (types : List TypeRef) (xs : List X) → Begins types (fold step types xs)
fold_more step each types [] = itself types
fold_more step each types (x ∷ xs) = through types (step types x) (fold step (step types x) xs) (each types x) (fold_more step each (step types x) xs)

pub types_begin : (files : List ClassFile) (bodies : List Body) → Begins (map class_type (class_order files)) (type_order files bodies)
types_begin files bodies = fold_more with_body (λ types body. fold_more with_shown shown_more types body.ops) (map class_type (class_order files)) (bodies_in_order files bodies)
