-- Which method of a superclass a method overrides, and which methods may not stand above one another.
use Rattle.std.specs.Prelude.{ℕ, Bool, ◌&&◌, ◌||◌, not, List, Option, option_and_then}
use Rattle.class_pool.specs.declared.types.MemberId.{MemberId}
use Rattle.class_file.specs.declared.record.ClassFile.{ClassFile}
use Rattle.class_file.specs.Rules.{is_private, is_static, is_final}
use Rattle.class_tree.specs.DirectSupers.{superclass_of}
use Rattle.class_tree.specs.Members.{method_flags, method_passing}
use Rattle.class_tree.specs.MethodLookup.{first_in_superclasses}
use Rattle.class_tree.specs.Access.{is_package_private, is_same_package}

-- the method of the nearest superclass of a class that declares one of this name and this descriptor that is
-- not private
abbrev pub overridden : List ClassFile → List ℕ → List ℕ → ℕ → Option MemberId
overridden files name descriptor class =
    option_and_then (first_in_superclasses files (method_passing (λ flags. not (is_private flags)) files name descriptor)) (superclass_of files class)

-- one of the two methods is static, and the other is not
abbrev pub differs_in_static : ℕ → ℕ → Bool
differs_in_static lower upper = (is_static lower && not (is_static upper)) || (not (is_static lower) && is_static upper)

-- The lower method may not stand below the upper one: one of them alone is static, the upper one is final or
-- is package-private in another package, or the lower one is private and the upper one is not static.
abbrev pub is_bad_override : List ClassFile → MemberId → MemberId → Bool
is_bad_override files lower upper =
    let below = method_flags files lower in
    let over = method_flags files upper in
    differs_in_static below over || (is_final over || ((is_package_private over && not (is_same_package files lower.class upper.class)) || (is_private below && not (is_static over))))
