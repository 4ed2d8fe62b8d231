-- Classes, methods and bodies in the order of their ids.
use Rattle.std.specs.Prelude.{ℕ, Bool, nat_eq, List, [], map, filter}
use Rattle.std.specs.List.{fold, flat_map}
use Rattle.std.specs.List.Sorted.{IsNonDecreasingBy}
use Rattle.class_pool.specs.declared.types.MemberId.{MemberId}
use Rattle.class_pool.specs.declared.types.TypeRef.{TypeRef}
use Rattle.class_file.specs.declared.record.ClassFile.{ClassFile}
use Rattle.class_tree.specs.Members.{member_at, methods_of}
use Rattle.class_tree.specs.Subtypes.{class_type}
use Rattle.body_form.specs.declared.body.Body.{Body}
use Rattle.jvm_model.specs.declared.numbers.Selector.{Selector}
use Rattle.jvm_model.specs.ImageNumbering.{is_selected, with_type, with_body, with_selector}

-- ---- bodies by their classes

-- bodies stand in the order of their classes
abbrev pub AreByClass : List Body → Type 0
AreByClass bodies = IsNonDecreasingBy (λ (body : Body). body.class) bodies

abbrev pub is_of_class : ℕ → Body → Bool
is_of_class class body = nat_eq class body.class

-- the bodies of the methods of a class
abbrev pub bodies_of_class : List Body → ℕ → List Body
bodies_of_class bodies class = filter (is_of_class class) bodies

-- the method of a body
abbrev pub method_of_body : Body → MemberId
method_of_body body = member_at body.class body.method

-- ---- over classes in order

-- the methods that have bodies
abbrev pub methods_over : List ℕ → List Body → List MemberId
methods_over order bodies = flat_map (λ (class : ℕ). map method_of_body (bodies_of_class bodies class)) order

-- the types of the classes, each at first sight
abbrev pub class_types : List ℕ → List TypeRef
class_types order = fold with_type [] (map class_type order)

-- the types of the classes, and then those that their bodies show
abbrev pub types_over : List ℕ → List Body → List TypeRef
types_over order bodies = fold with_body (class_types order) (flat_map (bodies_of_class bodies) order)

-- the selectors of the classes, each at first sight
abbrev pub selectors_over : List ClassFile → List ℕ → List Selector
selectors_over files order = fold with_selector [] (filter is_selected (flat_map (methods_of files) order))
