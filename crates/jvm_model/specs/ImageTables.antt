-- The tables of an image: its types, its selectors, and its methods, by their numbers.
use Rattle.std.specs.Prelude.{ℕ, zero, suc, ◌+◌, ◌-◌, Bool, true, false, nat_eq, nat_lt, if◌then◌else◌, List, [], ◌∷◌, ◌++◌, map, length, Option, Some, None, option_map, option_and_then, unwrap_or}
use Rattle.std.specs.Option.{option_map_or, option_to_list}
use Rattle.std.specs.List.{list_any, flat_map, filter_map, range_with_len}
use Rattle.library.specs.Classes.{first_own}
use Rattle.class_pool.specs.declared.types.MemberId.{MemberId}
use Rattle.class_pool.specs.declared.types.TypeBase.{TypeBase}
use Rattle.class_pool.specs.declared.types.TypeBase.TheVariants as base
use Rattle.class_pool.specs.declared.types.TypeRef.{TypeRef}
use Rattle.class_pool.specs.DescriptorReading.{method_of as method_type}
use Rattle.class_file.specs.Rules.{is_abstract, is_interface}
use Rattle.class_file.specs.declared.record.ClassFile.{ClassFile}
use Rattle.class_tree.specs.DirectSupers.{superclass_of, superinterfaces_of}
use Rattle.class_tree.specs.Selection.{select}
use Rattle.class_tree.specs.Set.{file_of, own_name}
use Rattle.class_tree.specs.Subtypes.{class_type}
use Rattle.image_instr.specs.declared.signature.Sig.{Sig}
use Rattle.image_form.specs.declared.record.ClassEntry.{ClassEntry}
use Rattle.image_form.specs.declared.record.DispatchRow.{DispatchRow}
use Rattle.image_form.specs.declared.record.Image.{Image}
use Rattle.image_form.specs.declared.record.Method.{Method}
use Rattle.image_form.specs.declared.record.TypeEntry.{TypeEntry}
use Rattle.image_form.specs.declared.record.TypeEntry.TheVariants as entry
use Rattle.jvm_model.specs.declared.numbers.Layout.{Layout}
use Rattle.jvm_model.specs.declared.numbers.Selector.{Selector}
use Rattle.jvm_model.specs.WidthsFrame.{signature_for}
use Rattle.jvm_model.specs.ImageNumbering.{Numbering, is_member, layout_of, method_id, type_id}

-- ---- classes

-- 1 for an interface, 2 for an abstract class; an interface is abstract too
abbrev pub entry_flags : ℕ → ℕ
entry_flags flags = (if is_interface flags then 1 else 0) + (if is_abstract flags then 2 else 0)

abbrev pub class_id : Numbering → ℕ → ℕ
class_id numbering class = type_id numbering.types (class_type class)

-- the row of a class for a selector by which it selects a method
abbrev pub row_for : List ClassFile → Numbering → ℕ → ℕ × Selector → Option DispatchRow
row_for files numbering class (number, selector) =
    option_map (λ member. record { selector = number; method = method_id numbering.methods member }) (select files selector.name selector.descriptor class)

-- items with their numbers, from one on
unfoldable pub numbered : {X : Type 0} → ℕ → List X → List (ℕ × X)
numbered number [] = []
numbered number (item ∷ items) = (number, item) ∷ numbered (suc number) items

-- the rows of a class that has objects, by rising selector
abbrev pub rows_of : List ClassFile → Numbering → ℕ → ℕ → List DispatchRow
rows_of files numbering class flags = if nat_eq (entry_flags flags) 0 then filter_map (row_for files numbering class) (numbered 0 numbering.selectors) else []

abbrev pub class_entry_of : List ClassFile → Numbering → ℕ → ClassFile → ClassEntry
class_entry_of files numbering class file =
    record {
      parent = option_map_or (class_id numbering) (superclass_of files class) 0;
      flags = entry_flags file.flags;
      refs = (layout_of files class).refs;
      nums = (layout_of files class).nums;
      interfaces = map (class_id numbering) (superinterfaces_of files class);
      rows = rows_of files numbering class file.flags;
      name = own_name file;
    }

-- ---- arrays

-- the kind of an array of whole numbers (JVMS table 6.5.newarray-A)
abbrev pub kind_number : TypeBase → ℕ
kind_number base.Boolean = 4
kind_number base.Char = 5
kind_number base.Byte = 8
kind_number base.Short = 9
kind_number of = 10

abbrev pub array_entry : Numbering → ℕ → TypeBase → TypeEntry
array_entry numbering dims (base.Class class) = entry.RefArray (type_id numbering.types (record { dims = dims - 1; base = base.Class class }))
array_entry numbering dims of = if nat_eq dims 1 then entry.NumArray (kind_number of) else entry.RefArray (type_id numbering.types (record { dims = dims - 1; base = of }))

abbrev pub own_entry : List ClassFile → Numbering → TypeBase → List TypeEntry
own_entry files numbering (base.Class class) = option_map_or (λ file. entry.Class (class_entry_of files numbering class file) ∷ []) (file_of files class) []
own_entry files numbering of = []

abbrev pub entry_of : List ClassFile → Numbering → TypeRef → List TypeEntry
entry_of files numbering type = if nat_eq type.dims 0 then own_entry files numbering type.base else array_entry numbering type.dims type.base ∷ []

-- ---- selectors

-- what a method of this descriptor takes and gives, called on an object
abbrev pub selector_signature : Selector → Sig
selector_signature selector = option_map_or (λ type. signature_for true type.params type.result) (method_type selector.descriptor) (record { refs = 1; cells = 0; result = 0 })

-- ---- the image

-- the image with these methods, which are in the order of their ids
abbrev pub image_with : List ClassFile → Numbering → List Method → Image
image_with files numbering methods =
    record {
      version = 1;
      types = flat_map (entry_of files numbering) numbering.types;
      selectors = map selector_signature numbering.selectors;
      methods = methods;
      static_refs = numbering.static_refs;
      static_cells = numbering.static_cells;
      main = numbering.main;
    }
