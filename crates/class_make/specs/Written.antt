-- How a record is laid out: without any attribute that is skipped, with the first texts "Code" and
-- "ConstantValue" of the pool as the names of the others.
use Rattle.std.specs.Prelude.{ℕ, Bool, true, ◌&&◌, nat_lt, List, [], ◌∷◌, ◌++◌, length, map, Option, Some, None, codes}
use Rattle.std.specs.List.{list_all}
use Rattle.class_pool.specs.declared.pool.Const.{Const}
use Rattle.class_pool.specs.declared.pool.Const.TheVariants.{Utf8}
use Rattle.class_pool.specs.Pool.{Slots}
use Rattle.class_file.specs.declared.record.ClassFile.{ClassFile}
use Rattle.class_file.specs.declared.record.Member.{Member}
use Rattle.class_file.specs.declared.record.CodeAttr.{CodeAttr}
use Rattle.class_file.specs.Layout.{MemberAttribute, Coded, Valued, MemberLayout, Layout}
use Rattle.class_make.specs.Entries.{text_index}

-- the ConstantValue attribute with the name at an index, where there is a value (JVMS 4.7.2)
abbrev pub value_attribute : ℕ → Option ℕ → List MemberAttribute
value_attribute name None = []
value_attribute name (Some value) = Valued name value ∷ []

-- the Code attribute with the name at an index, where there is code (JVMS 4.7.3)
abbrev pub code_attribute : ℕ → Option CodeAttr → List MemberAttribute
code_attribute name None = []
code_attribute name (Some code) = Coded name code [] ∷ []

-- a field or a method, with the names of its attributes at these indexes
abbrev pub member_layout : ℕ → ℕ → Member → MemberLayout
member_layout value_name code_name m =
    record {
      flags = m.flags;
      name = m.name;
      descriptor = m.descriptor;
      attributes = value_attribute value_name m.constant ++ code_attribute code_name m.code;
    }

-- the members of a class with this pool
abbrev pub member_layouts : Slots → List Member → List MemberLayout
member_layouts pool members = map (member_layout (text_index pool (codes "ConstantValue")) (text_index pool (codes "Code"))) members

-- a record, laid out without what is skipped
abbrev pub layout_of : ClassFile → Layout
layout_of file =
    record {
      minor = file.minor;
      major = file.major;
      pool = file.pool;
      flags = file.flags;
      this_class = file.this_class;
      super_class = file.super_class;
      interfaces = file.interfaces;
      fields = member_layouts file.pool file.fields;
      methods = member_layouts file.pool file.methods;
      attributes = [];
    }

-- ---- what fits

-- the text of an entry fits its length
abbrev pub fits_text : Const → Bool
fits_text (Utf8 text) = nat_lt (length text) 65536
fits_text _ = true

-- so does that of a place, and of each place of a pool
abbrev pub fits_slot : Option Const → Bool
fits_slot None = true
fits_slot (Some entry) = fits_text entry

abbrev pub fits_slots : Slots → Bool
fits_slots pool = list_all fits_slot pool

-- code has at most 65,535 bytes and as many handlers
abbrev pub fits_code : Option CodeAttr → Bool
fits_code None = true
fits_code (Some code) = nat_lt (length code.code) 65536 && nat_lt (length code.handlers) 65536

-- so has the code of each member, and the members fit their count
abbrev pub fits_codes : List Member → Bool
fits_codes members = list_all (λ (m : Member). fits_code m.code) members

abbrev pub fits_members : List Member → Bool
fits_members members = nat_lt (length members) 65536 && fits_codes members

-- the lengths and counts of a record fit their fields
abbrev pub fits : ClassFile → Bool
fits file = (fits_slots file.pool && nat_lt (length file.interfaces) 65536) && (fits_members file.fields && fits_members file.methods)
