-- Which classes may stand directly above which.
use Rattle.std.specs.Prelude.{ℕ, Bool, true, ◌&&◌, ◌||◌, not, ◌==◌, if◌then◌else◌, List, Option, Some, None, is_none}
use Rattle.std.specs.List.{list_any}
use Rattle.class_file.specs.declared.record.ClassFile.{ClassFile}
use Rattle.class_file.specs.Rules.{is_interface, is_final}
use Rattle.class_tree.specs.declared.refusal.TreeRefusal.{TreeRefusal}
use Rattle.class_tree.specs.declared.refusal.TreeRefusal.TheVariants.{MissingClass, BadSuper}
use Rattle.class_tree.specs.Scan.{first_refusal}
use Rattle.class_tree.specs.Set.{named_among, flags_of}

-- the superclass or a superinterface is absent
abbrev pub lacks_super : List (List ℕ) → ClassFile → Bool
lacks_super names file =
    is_none (named_among names file file.super_class) || list_any (λ index. is_none (named_among names file index)) file.interfaces

-- the class may not be this one's superclass: it is an interface or final, or this one is an interface and it
-- is not java/lang/Object
abbrev pub is_bad_superclass : List ClassFile → ClassFile → Option ℕ → Bool
is_bad_superclass files file None = true
is_bad_superclass files file (Some upper) =
    is_interface (flags_of files upper) || (is_final (flags_of files upper) || (is_interface file.flags && not (upper == 0)))

-- the class may not be a superinterface: it is none
abbrev pub is_bad_interface : List ClassFile → Option ℕ → Bool
is_bad_interface files None = true
is_bad_interface files (Some upper) = not (is_interface (flags_of files upper))

abbrev pub has_bad_super : List (List ℕ) → List ClassFile → ClassFile → Bool
has_bad_super names files file =
    is_bad_superclass files file (named_among names file file.super_class) || list_any (λ index. is_bad_interface files (named_among names file index)) file.interfaces

-- what a file is refused for by what stands directly above its class
abbrev pub super_fault : List (List ℕ) → List ClassFile → ℕ → ClassFile → Option TreeRefusal
super_fault names files position file =
    if lacks_super names file then Some (MissingClass position 0 0) else (if has_bad_super names files file then Some (BadSuper position) else None)

-- what the first such file is refused for
abbrev pub supers_refusal : List (List ℕ) → List ClassFile → Option TreeRefusal
supers_refusal names files = first_refusal (super_fault names files) 0 files
