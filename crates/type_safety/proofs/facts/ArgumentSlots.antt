-- A method that is read has few arguments (JVMS 4.3.3).
use Rattle.std.proofs.Common.{◌≡◌, ℕ, ◌+◌, ◌≤◌, Bool, true, false, ◌||◌, not, nat_le, List, [], ◌∷◌, length, refl, sym, subst, arith}
use Rattle.std.specs.Prelude.{if◌then◌else◌}
use Rattle.std.specs.List.{sum_by}
use Rattle.std.proofs.lemmas.Bool.{leb-true}
use Rattle.std.proofs.lemmas.List.Sums.{sum_by-cons}
use Rattle.class_pool.specs.declared.descriptor.Descriptor.{Descriptor}
use Rattle.class_pool.specs.declared.descriptor.Kind.{Kind}
use Rattle.class_pool.specs.declared.descriptor.Kind.TheVariants.{Byte, Char, Double, Float, Int, Long, Short, Boolean, Class, Array}
use Rattle.class_file.specs.Rules.{slots_of, argument_slots}

one_slot : (kind : Kind) → 1 ≤ slots_of kind
one_slot Byte = omega arith
one_slot Char = omega arith
one_slot Double = omega arith
one_slot Float = omega arith
one_slot Int = omega arith
one_slot Long = omega arith
one_slot Short = omega arith
one_slot Boolean = omega arith
one_slot (Class name) = omega arith
one_slot (Array dims of) = omega arith

each_slot : (params : List Kind) → length params ≤ sum_by slots_of params
each_slot [] = omega arith
each_slot (kind ∷ params) = omega (arith, sum_by-cons slots_of kind params, one_slot kind, each_slot params)

-- the object that a method is called on, where it has one, and its arguments
pub arguments_few : (static : Bool) (type : Descriptor) → nat_le (argument_slots static type) 255 ≡ true → (if static then 0 else 1) + length type.params ≤ 255
arguments_few static type e =
    let few : (if static then 0 else 1) + sum_by slots_of type.params ≤ 255 = leb-true (argument_slots static type) 255 e in
    omega (arith, few, each_slot type.params)

pub receiver_counted : (static instance : Bool) (count : ℕ) → instance ≡ not static → (if static then 0 else 1) + count ≤ 255 → (if instance then 1 else 0) + count ≤ 255
receiver_counted true instance count is few = subst (λ (b : Bool). (if b then 1 else 0) + count ≤ 255) (sym is) few
receiver_counted false instance count is few = subst (λ (b : Bool). (if b then 1 else 0) + count ≤ 255) (sym is) few

-- a method that is no initialiser is static by its flags alone
pub static_by_flags : (static initialiser : Bool) → initialiser ≡ false → (static || initialiser) ≡ static
static_by_flags true initialiser e = refl
static_by_flags false initialiser e = e
