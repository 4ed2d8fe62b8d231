-- Which method a name and a descriptor are of, from an interface on (JVMS 5.4.3.4).
use Rattle.std.specs.Prelude.{◌≡◌, ℕ, Bool, ◌&&◌, not, List, Option}
use Rattle.std.specs.Option.{option_or}
use Rattle.class_pool.specs.declared.types.MemberId.{MemberId}
use Rattle.class_file.specs.declared.record.ClassFile.{ClassFile}
use Rattle.class_file.specs.Rules.{is_public, is_static}
use Rattle.class_tree.specs.DirectSupers.{class_count, superinterfaces_of}
use Rattle.class_tree.specs.Members.{method_in, method_passing}
use Rattle.class_tree.specs.Upwards.{first_answer, first_upwards}

-- the number of java/lang/Object
abbrev pub object : ℕ
object = 0

-- flags of a public method that is no class method
abbrev pub is_public_instance : ℕ → Bool
is_public_instance flags = is_public flags && not (is_static flags)

-- the method of the interface itself, or else the public instance method of java/lang/Object
abbrev pub interface_method_in : List ClassFile → List ℕ → List ℕ → ℕ → Option MemberId
interface_method_in files name descriptor interface =
    option_or (method_in files name descriptor interface) (method_passing is_public_instance files name descriptor object)

-- that method, or else the first from the interface's direct superinterfaces in their order on, each by this
-- rule
abbrev pub find_interface_method : List ClassFile → List ℕ → List ℕ → ℕ → Option MemberId
find_interface_method files name descriptor interface =
    first_upwards (superinterfaces_of files) (interface_method_in files name descriptor) (class_count files) interface

-- the rule as an equation, which a lookup of these files keeps
abbrev pub KeepsInterfaceRule : List ClassFile → List ℕ → List ℕ → (ℕ → Option MemberId) → Type 0
KeepsInterfaceRule files name descriptor lookup = (interface : ℕ) →
    lookup interface ≡ option_or (interface_method_in files name descriptor interface) (first_answer lookup (superinterfaces_of files interface))
