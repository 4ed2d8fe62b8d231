-- The cells of an array's elements: a reference has one, and a whole number those of its base, of bytes and booleans two a
-- cell.
use Rattle.std.proofs.Common.{◌≡◌, ℕ, ◌+◌, ◌*◌, ◌/◌, Bool, true, false, List, [], ◌∷◌, map, length, if◌then◌else◌, refl, ap, subst, ◌∙◌, arith}
use Rattle.std.specs.List.{AllByRecursion, flat_map}
use Rattle.std.proofs.lemmas.List.{length-append, length-map}
use Rattle.class_pool.specs.declared.types.TypeBase.{TypeBase}
use Rattle.class_pool.specs.declared.types.TypeBase.TheVariants as base
use Rattle.class_pool.specs.declared.types.TypeRef.{TypeRef}
use Rattle.class_tree.specs.Merge.{is_reference}
use Rattle.image_instr.specs.declared.insn.Kind.TheVariants as kind
use Rattle.body_form.specs.declared.body.Body.{Body}
use Rattle.body_form.specs.declared.types.VType.TheVariants as known
use Rattle.jvm_model.specs.State.{Value}
use Rattle.typed_machine.specs.TypedState.{Object}
use Rattle.typed_machine.specs.TypedWorld as typed
use Rattle.typed_machine.specs.TypedWorld.{World, primitive_cells}
use Rattle.type_safety.specs.Fitting.{IsWhole, ValueFits, TypeFits}
use Rattle.match_states.specs.MatchedFrames.{reference_of, cells_of_shape}
use Rattle.match_states.specs.MatchedObjects.{low_byte, packed, number_elements, element_references, element_cells}
use Rattle.match_views.proofs.ObjectFields.{all_mapped}

-- ---- whole numbers

packed_length : (bytes : List ℕ) → length (packed bytes) ≡ (length bytes + 1) / 2
unfolding packed
packed_length [] = refl
packed_length (byte ∷ []) = refl
packed_length (byte ∷ other ∷ bytes) = let rest = packed_length bytes in omega (arith, rest)

bytes_packed : (elements : List Value) → length (packed (map low_byte elements)) ≡ (length elements + 1) / 2
bytes_packed elements = packed_length (map low_byte elements) ∙ ap (λ count. (count + 1) / 2) (length-map elements low_byte)

one_cell : (value : Value) → IsWhole value → length (cells_of_shape kind.One value) ≡ 1
one_cell value whole = ap (λ v. length (cells_of_shape kind.One v)) whole.1

two_cells : (value : Value) → IsWhole value → length (cells_of_shape kind.Two value) ≡ 2
two_cells value whole = ap (λ v. length (cells_of_shape kind.Two v)) whole.1

of_one : (elements : List Value) → AllByRecursion IsWhole elements → length (flat_map (cells_of_shape kind.One) elements) ≡ length elements
of_one [] all = refl
of_one (value ∷ elements) all =
    let both = length-append (cells_of_shape kind.One value) (flat_map (cells_of_shape kind.One) elements) in
    let first = one_cell value all.0 in
    let rest = of_one elements all.1 in
    both ∙ omega (arith, first, rest)

of_two : (elements : List Value) → AllByRecursion IsWhole elements → length (flat_map (cells_of_shape kind.Two) elements) ≡ 2 * length elements
of_two [] all = refl
of_two (value ∷ elements) all =
    let both = length-append (cells_of_shape kind.Two value) (flat_map (cells_of_shape kind.Two) elements) in
    let first = two_cells value all.0 in
    let rest = of_two elements all.1 in
    both ∙ omega (arith, first, rest)

number_cells : (of : TypeBase) (elements : List Value) → AllByRecursion IsWhole elements → length (number_elements of elements) ≡ primitive_cells of (length elements)
number_cells base.Int elements all = of_two elements all
number_cells base.Byte elements all = bytes_packed elements
number_cells base.Boolean elements all = bytes_packed elements
number_cells base.Char elements all = of_one elements all
number_cells base.Short elements all = of_one elements all
number_cells (base.Class class) elements all = of_one elements all

-- ---- elements

cells_where : (of : TypeBase) (elements : List Value) (refers : Bool) → (refers ≡ false → AllByRecursion IsWhole elements)
    → length (if refers then map reference_of elements else []) + length (if refers then [] else number_elements of elements) ≡ (if refers then length elements else primitive_cells of (length elements))
cells_where of elements true whole = let all = length-map elements reference_of in omega (arith, all)
cells_where of elements false whole = let all = number_cells of elements (whole refl) in omega (arith, all)

-- the references and cells of elements, where those that are no references are whole numbers
pub array_parts : (component : TypeRef) (elements : List Value) → (is_reference component.dims component.base ≡ false → AllByRecursion IsWhole elements)
    → length (element_references component elements) + length (element_cells component elements) ≡ typed.element_cells component (length elements)
array_parts component elements whole = cells_where component.base elements (is_reference component.dims component.base) whole

-- elements that fit a type that is no reference are whole numbers
pub elements_whole : (world : World) (objects : List Object) (body : Body) (type : TypeRef) (elements : List Value) → AllByRecursion (TypeFits world objects type) elements
    → is_reference type.dims type.base ≡ false → AllByRecursion IsWhole elements
elements_whole world objects body type elements all plain =
    all_mapped (TypeFits world objects type) IsWhole (λ value fits. subst (λ of. ValueFits world objects body value of) (ap (λ is. if is then known.Ref type else known.Int) plain) (fits body)) elements all
