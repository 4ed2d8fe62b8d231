-- No instruction of an accepted set shows an array type, so the types are the classes in their order.
use Rattle.std.proofs.Common.{◌≡◌, ℕ, Bool, true, false, if◌then◌else◌, List, [], ◌∷◌, filter, length, map, Option, Some, None, option_map, refl, sym, ap, ◌∙◌}
use Rattle.std.specs.Prelude.{nat_lt}
use Rattle.std.specs.List.{AllByRecursion, fold}
use Rattle.std.specs.Option.{option_map_or}
use Rattle.class_pool.specs.declared.types.TypeRef.{TypeRef}
use Rattle.class_tree.specs.Subtypes.{class_type}
use Rattle.body_form.specs.declared.body.Body.{Body}
use Rattle.body_form.specs.declared.op.Op.{Op}
use Rattle.body_form.specs.declared.op.Op.TheVariants as op
use Rattle.body_form.specs.Flow.{Ops}
use Rattle.jvm_model.specs.declared.refusal.Cause.TheVariants as cause
use Rattle.jvm_model.specs.ImageNumbering.{bodies_in_order, class_order, is_body_of, method_order, shown_by, with_arrays, with_body, with_shown}
use Rattle.type_rounds.proofs.tables.Lists.{all_filter, all_map}
use Rattle.type_safety.proofs.fitting.SetLists.{none_some}
use Rattle.set_compile.proofs.KeyedLists.{all_flat}
use Rattle.set_image.specs.Linked.{Linked, bodies_of, numbering_in}
use Rattle.set_image.specs.LinkRefusals.{first_outside, form_refusal, is_built, refusal_of_body}
use Rattle.set_image.proofs.NoRefusals.{HasNoRefusal}

-- ---- instructions

built_shows_none : (instruction : Op) → is_built instruction ≡ true → shown_by instruction ≡ None
built_shows_none (op.NewArray type) built = absurd (let bad : false ≡ true = built in cc)
built_shows_none (op.MultiArray array dims) built = absurd (let bad : false ≡ true = built in cc)
built_shows_none (op.CheckCast type) built = absurd (let bad : false ≡ true = built in cc)
built_shows_none (op.InstanceOf type) built = absurd (let bad : false ≡ true = built in cc)
built_shows_none instruction built = refl

abbrev ShowsNone : ℕ × Op → Type 0
ShowsNone x = shown_by x.1 ≡ None

all_built : (ops : Ops) → first_outside ops ≡ None → AllByRecursion ShowsNone ops
unfolding first_outside
all_built [] none = tt
all_built (x ∷ ops) none = by (is_built x.1) refl (all_built ops) none
  where
    by : (built : Bool) → is_built x.1 ≡ built → (first_outside ops ≡ None → AllByRecursion ShowsNone ops) → (if built then first_outside ops else Some x.0) ≡ None → AllByRecursion ShowsNone (x ∷ ops)
    by true is rest none = (built_shows_none x.1 is, rest none)
    by false is rest none = none_some x.0 (sym none)

none_outside : (body : Body) → form_refusal body ≡ None → first_outside body.ops ≡ None
none_outside body none = by (nat_lt 0 (length body.handlers)) (first_outside body.ops) none
  where
    by : (some : Bool) (outside : Option ℕ) → option_map (λ pc. refusal_of_body cause.Unbuilt body pc 0) (if some then Some 0 else outside) ≡ None → outside ≡ None
    by true outside none = none_some (refusal_of_body cause.Unbuilt body 0 0) (sym none)
    by false None none = refl
    by false (Some pc) none = none_some (refusal_of_body cause.Unbuilt body pc 0) (sym none)

-- ---- types

shown_same : (types : List TypeRef) (x : ℕ × Op) → ShowsNone x → with_shown types x ≡ types
shown_same types x none = ap (λ shown. option_map_or (λ (type : TypeRef). with_arrays type.base type.dims types) shown types) none

ops_same : (types : List TypeRef) (ops : Ops) → AllByRecursion ShowsNone ops → fold with_shown types ops ≡ types
ops_same types [] none = refl
ops_same types (x ∷ ops) none = ap (λ (now : List TypeRef). fold with_shown now ops) (shown_same types x none.0) ∙ ops_same types ops none.1

abbrev BodyShowsNone : Body → Type 0
BodyShowsNone body = AllByRecursion ShowsNone body.ops

bodies_same : (types : List TypeRef) (bodies : List Body) → AllByRecursion BodyShowsNone bodies → fold with_body types bodies ≡ types
bodies_same types [] none = refl
bodies_same types (body ∷ bodies) none = ap (λ (now : List TypeRef). fold with_body now bodies) (ops_same types body.ops none.0) ∙ bodies_same types bodies none.1

pub types_are_classes : (linked : Linked) → HasNoRefusal linked → (numbering_in linked).types ≡ map class_type (class_order linked.classes)
types_are_classes linked none =
    let bodies = bodies_of linked in
    let show = all_map (λ body. form_refusal body ≡ None) BodyShowsNone (λ body built. all_built body.ops (none_outside body built)) bodies none.forms in
    bodies_same (map class_type (class_order linked.classes)) (bodies_in_order linked.classes bodies)
    (all_flat BodyShowsNone (λ member. filter (is_body_of member) bodies) (λ member. all_filter BodyShowsNone (is_body_of member) bodies show) (method_order linked.classes))
