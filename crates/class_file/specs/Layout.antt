-- How a class file is laid out (JVMS 4.1, 4.5 to 4.7): its numbers and lists in the order of the bytes.
-- A layout has one encoding. The attributes that are skipped stand in it, so a record alone has many.
use Rattle.std.specs.Prelude.{ℕ, List, [], ◌∷◌, ◌++◌, length, map, Option, Some, None}
use Rattle.std.specs.List.{flat_map}
use Rattle.byteorder.specs.Endian.{big_bytes}
use Rattle.class_file.specs.declared.record.ClassFile.{ClassFile}
use Rattle.class_file.specs.declared.record.Member.{Member}
use Rattle.class_file.specs.declared.record.CodeAttr.{CodeAttr}
use Rattle.class_file.specs.declared.record.HandlerRow.{HandlerRow}
use Rattle.class_file.specs.declared.head.Head.{Head}
use Rattle.class_pool.specs.Pool.{Slots, pool_bytes}

-- an attribute as such: the index of its name, and bytes
pub record Attribute : Type 0 where
  pub name : ℕ
  pub info : List ℕ

-- an attribute of a field or a method; `inner` are the attributes that stand inside Code
pub data MemberAttribute : Type 0 where
  Coded : (name : ℕ) (code : CodeAttr) (inner : List Attribute) → MemberAttribute
  Valued : (name value : ℕ) → MemberAttribute
  Skipped : (attribute : Attribute) → MemberAttribute

pub record MemberLayout : Type 0 where
  pub flags : ℕ
  pub name : ℕ
  pub descriptor : ℕ
  pub attributes : List MemberAttribute

pub record Layout : Type 0 where
  pub minor : ℕ
  pub major : ℕ
  pub pool : Slots
  pub flags : ℕ
  pub this_class : ℕ
  pub super_class : ℕ
  pub interfaces : List ℕ
  pub fields : List MemberLayout
  pub methods : List MemberLayout
  pub attributes : List Attribute

-- ---- the bytes

abbrev pub u2 : ℕ → List ℕ
u2 n = big_bytes 2 n

abbrev pub u4 : ℕ → List ℕ
u4 n = big_bytes 4 n

-- a count in two bytes, and the items
abbrev pub counted : {A : Type 0} → (A → List ℕ) → List A → List ℕ
counted item items = u2 (length items) ++ flat_map item items

abbrev pub attribute_bytes : Attribute → List ℕ
attribute_bytes a = u2 a.name ++ (u4 (length a.info) ++ a.info)

abbrev pub handler_bytes : HandlerRow → List ℕ
handler_bytes row = u2 row.start ++ (u2 row.end ++ (u2 row.target ++ u2 row.catch_type))

-- what a Code attribute holds (JVMS 4.7.3)
abbrev pub code_info : CodeAttr → List Attribute → List ℕ
code_info c inner =
    u2 c.max_stack ++ (u2 c.max_locals ++ (u4 (length c.code) ++ (c.code
    ++ (counted handler_bytes c.handlers ++ counted attribute_bytes inner))))

-- any attribute of a member, as such
abbrev pub plain : MemberAttribute → Attribute
plain (Coded name code inner) = record { name = name; info = code_info code inner }
plain (Valued name value) = record { name = name; info = u2 value }
plain (Skipped attribute) = attribute

abbrev pub member_bytes : MemberLayout → List ℕ
member_bytes m = u2 m.flags ++ (u2 m.name ++ (u2 m.descriptor ++ counted (λ a. attribute_bytes (plain a)) m.attributes))

-- ca fe ba be
abbrev pub magic : List ℕ
magic = 202 ∷ 254 ∷ 186 ∷ 190 ∷ []

abbrev pub encoding : Layout → List ℕ
encoding l =
    magic ++ (u2 l.minor ++ (u2 l.major ++ (pool_bytes l.pool
    ++ (u2 l.flags ++ (u2 l.this_class ++ (u2 l.super_class ++ (counted u2 l.interfaces
    ++ (counted member_bytes l.fields ++ (counted member_bytes l.methods ++ counted attribute_bytes l.attributes)))))))))

-- ---- the record

-- the Code attributes of a member, and the values of its ConstantValue attributes
abbrev pub codes_in : List MemberAttribute → List CodeAttr
codes_in [] = []
codes_in (Coded name code inner ∷ others) = code ∷ codes_in others
codes_in (Valued name value ∷ others) = codes_in others
codes_in (Skipped attribute ∷ others) = codes_in others

abbrev pub values_in : List MemberAttribute → List ℕ
values_in [] = []
values_in (Coded name code inner ∷ others) = values_in others
values_in (Valued name value ∷ others) = value ∷ values_in others
values_in (Skipped attribute ∷ others) = values_in others

-- the first, where there is one
abbrev pub first : {A : Type 0} → List A → Option A
first [] = None
first (item ∷ others) = Some item

abbrev pub head_of : MemberLayout → Head
head_of m = record { flags = m.flags; name = m.name; descriptor = m.descriptor }

abbrev pub member_of : MemberLayout → Member
member_of m = record { flags = m.flags; name = m.name; descriptor = m.descriptor; constant = first (values_in m.attributes); code = first (codes_in m.attributes) }

abbrev pub record_of : Layout → ClassFile
record_of l =
    record {
      minor = l.minor;
      major = l.major;
      pool = l.pool;
      flags = l.flags;
      this_class = l.this_class;
      super_class = l.super_class;
      interfaces = l.interfaces;
      fields = map member_of l.fields;
      methods = map member_of l.methods;
    }
