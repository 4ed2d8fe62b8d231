-- Which method a call runs, by the class of its receiver (JVMS 5.4.5, 5.4.6 and chapter 6).
use Rattle.std.specs.Prelude.{ℕ, Bool, ◌&&◌, not, List, Option}
use Rattle.class_pool.specs.declared.types.MemberId.{MemberId}
use Rattle.class_file.specs.declared.record.ClassFile.{ClassFile}
use Rattle.class_file.specs.Rules.{is_private, is_static}
use Rattle.class_tree.specs.Members.{method_passing}
use Rattle.class_tree.specs.MethodLookup.{first_in_superclasses}

-- flags of a method that is neither private nor static
abbrev pub is_selectable : ℕ → Bool
is_selectable flags = not (is_private flags) && not (is_static flags)

-- the first method of this name and this descriptor that is neither private nor static, from the class
-- upwards through its superclasses
abbrev pub select : List ClassFile → List ℕ → List ℕ → ℕ → Option MemberId
select files name descriptor class = first_in_superclasses files (method_passing is_selectable files name descriptor) class
