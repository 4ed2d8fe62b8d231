-- The class file relation (JVMS 4.1 to 4.8): the bytes are the encoding of a layout whose numbers fit
-- their fields and which keeps the rules, and the record is that of the layout.
use Rattle.std.specs.Prelude.{◌≡◌, ℕ, ◌^◌, ◌<◌, ◌≤◌, false, not, IsTrue, if◌then◌else◌, List, length, map, IsSome, IsSomeAnd, codes}
use Rattle.std.specs.List.{AllByRecursion, IsDistinct}
use Rattle.std.specs.Str.{bytes_eq}
use Rattle.class_pool.specs.declared.descriptor.Kind.{Kind}
use Rattle.class_pool.specs.declared.descriptor.Descriptor.{Descriptor}
use Rattle.class_pool.specs.Pool.{Slots, utf8_at, IsPool}
use Rattle.class_pool.specs.Descriptors.{IsFieldText, IsMethodText}
use Rattle.class_file.specs.declared.record.ClassFile.{ClassFile}
use Rattle.class_file.specs.declared.record.CodeAttr.{CodeAttr}
use Rattle.class_file.specs.declared.record.HandlerRow.{HandlerRow}
use Rattle.class_file.specs.Rules.{is_native, is_abstract, is_named, are_class_flags, names_class, has_one_access, fits_interface_field, fits_interface_method, fits_abstract, fits_special_name, fits_constructor, fits_initialiser, fits_slots, is_same_member, is_code_size, is_handler}
use Rattle.class_file.specs.Layout.{Attribute, MemberAttribute, Coded, Valued, Skipped, plain, MemberLayout, head_of, codes_in, values_in, Layout, encoding, record_of}

-- ---- the numbers fit their fields

abbrev pub FitsU2 : ℕ → Type 0
FitsU2 n = n < 2 ^ 16

pub record FitsAttribute (a : Attribute) : Type 0 where
  pub name : FitsU2 a.name
  pub info : length a.info < 2 ^ 32

pub record FitsHandler (row : HandlerRow) : Type 0 where
  pub start : FitsU2 row.start
  pub end : FitsU2 row.end
  pub target : FitsU2 row.target
  pub catch_type : FitsU2 row.catch_type

pub record FitsCode (c : CodeAttr) (inner : List Attribute) : Type 0 where
  pub max_stack : FitsU2 c.max_stack
  pub max_locals : FitsU2 c.max_locals
  pub code : length c.code < 2 ^ 32
  pub handlers : FitsU2 (length c.handlers)
  pub rows : AllByRecursion FitsHandler c.handlers
  pub inner_count : FitsU2 (length inner)
  pub inner_fit : AllByRecursion FitsAttribute inner

-- what a member's attribute holds
abbrev pub FitsInside : MemberAttribute → Type 0
FitsInside (Coded name code inner) = FitsCode code inner
FitsInside (Valued name value) = FitsU2 value
FitsInside (Skipped attribute) = Unit {0}

pub record FitsMemberAttribute (a : MemberAttribute) : Type 0 where
  pub attribute : FitsAttribute (plain a)
  pub inside : FitsInside a

pub record FitsMember (m : MemberLayout) : Type 0 where
  pub flags : FitsU2 m.flags
  pub name : FitsU2 m.name
  pub descriptor : FitsU2 m.descriptor
  pub count : FitsU2 (length m.attributes)
  pub attributes : AllByRecursion FitsMemberAttribute m.attributes

pub record FitsLayout (l : Layout) : Type 0 where
  pub minor : FitsU2 l.minor
  pub major : FitsU2 l.major
  pub flags : FitsU2 l.flags
  pub this_class : FitsU2 l.this_class
  pub super_class : FitsU2 l.super_class
  pub interface_count : FitsU2 (length l.interfaces)
  pub interfaces : AllByRecursion FitsU2 l.interfaces
  pub field_count : FitsU2 (length l.fields)
  pub fields : AllByRecursion FitsMember l.fields
  pub method_count : FitsU2 (length l.methods)
  pub methods : AllByRecursion FitsMember l.methods
  pub attribute_count : FitsU2 (length l.attributes)
  pub attributes : AllByRecursion FitsAttribute l.attributes

-- ---- the rules

-- an attribute of which only the name is asked
abbrev pub IsSkippable : Slots → Attribute → Type 0
IsSkippable pool a = IsSome (utf8_at pool a.name)

-- an attribute of another name than this one
abbrev pub HasOtherName : List ℕ → Slots → Attribute → Type 0
HasOtherName name pool a = IsSomeAnd (utf8_at pool a.name) (λ other. bytes_eq other name ≡ false)

-- the size of the code, the rows of the exception table, and the attributes inside (JVMS 4.7.3)
pub record IsRegularCode (pool : Slots) (c : CodeAttr) (inner : List Attribute) : Type 0 where
  pub size : IsTrue (is_code_size (length c.code))
  pub handlers : AllByRecursion (λ row. IsTrue (is_handler pool (length c.code) row)) c.handlers
  pub inner_names : AllByRecursion (IsSkippable pool) inner

-- of a field's attributes ConstantValue is read, and no other (JVMS 4.7.2)
abbrev pub IsFieldAttribute : Slots → MemberAttribute → Type 0
IsFieldAttribute pool (Coded name code inner) = ⊥
IsFieldAttribute pool (Valued name value) = IsTrue (is_named (codes "ConstantValue") (utf8_at pool name))
IsFieldAttribute pool (Skipped attribute) = HasOtherName (codes "ConstantValue") pool attribute

-- of a method's attributes Code is read, and no other (JVMS 4.7.3)
abbrev pub IsMethodAttribute : Slots → MemberAttribute → Type 0
IsMethodAttribute pool (Coded name code inner) = IsTrue (is_named (codes "Code") (utf8_at pool name)) × IsRegularCode pool code inner
IsMethodAttribute pool (Valued name value) = ⊥
IsMethodAttribute pool (Skipped attribute) = HasOtherName (codes "Code") pool attribute

-- a field of a class with these flags (JVMS 4.5)
pub record IsRegularField (class_flags : ℕ) (pool : Slots) (m : MemberLayout) : Type 0 where
  pub type : Kind
  pub name : IsSome (utf8_at pool m.name)
  pub descriptor : IsSomeAnd (utf8_at pool m.descriptor) (λ text. IsFieldText text type)
  pub access : IsTrue (has_one_access m.flags)
  pub of_interface : IsTrue (fits_interface_field class_flags m.flags)
  pub attributes : AllByRecursion (IsFieldAttribute pool) m.attributes
  pub one_value : length (values_in m.attributes) ≤ 1

-- a method of a class with these flags (JVMS 4.6)
pub record IsRegularMethod (class_flags : ℕ) (pool : Slots) (m : MemberLayout) : Type 0 where
  pub type : Descriptor
  pub name : IsSome (utf8_at pool m.name)
  pub descriptor : IsSomeAnd (utf8_at pool m.descriptor) (λ text. IsMethodText text type)
  pub access : IsTrue (has_one_access m.flags)
  pub of_interface : IsTrue (fits_interface_method class_flags pool (head_of m))
  pub not_native : IsTrue (not (is_native m.flags))
  pub abstract_flags : IsTrue (fits_abstract pool (head_of m))
  pub special_name : IsTrue (fits_special_name pool (head_of m))
  pub constructor : IsTrue (fits_constructor pool (head_of m) type)
  pub initialiser : IsTrue (fits_initialiser pool (head_of m))
  pub slots : IsTrue (fits_slots pool (head_of m) type)
  pub attributes : AllByRecursion (IsMethodAttribute pool) m.attributes
  pub one_code : length (codes_in m.attributes) ≡ (if is_abstract m.flags then 0 else 1)

pub record IsRegular (l : Layout) : Type 0 where
  pub first_version : 45 ≤ l.major
  pub last_version : l.major ≤ 52
  pub is_pool : IsPool l.pool
  pub class_flags : IsTrue (are_class_flags l.flags)
  pub this_class : IsTrue (names_class l.pool l.this_class)
  pub super_class : IsTrue (names_class l.pool l.super_class)
  pub interfaces : AllByRecursion (λ index. IsTrue (names_class l.pool index)) l.interfaces
  pub fields : AllByRecursion (IsRegularField l.flags l.pool) l.fields
  pub different_fields : IsDistinct (is_same_member l.pool) (map head_of l.fields)
  pub methods : AllByRecursion (IsRegularMethod l.flags l.pool) l.methods
  pub different_methods : IsDistinct (is_same_member l.pool) (map head_of l.methods)
  pub attributes : AllByRecursion (IsSkippable l.pool) l.attributes

-- ---- the relation

-- how many bytes a class file may have
abbrev pub largest : ℕ
largest = 1048576

-- the bytes are a class file laid out so, and this is its record
pub record IsLaidOut (bytes : List ℕ) (l : Layout) (file : ClassFile) : Type 0 where
  pub encoded : bytes ≡ encoding l
  pub size : length bytes ≤ largest
  pub fits : FitsLayout l
  pub regular : IsRegular l
  pub stands : file ≡ record_of l

-- the bytes are a class file with this record
abbrev pub IsClassFile : List ℕ → ClassFile → Type 0
IsClassFile bytes file = (l : Layout) × IsLaidOut bytes l file

-- some bytes are a class file with this record
abbrev pub IsRecord : ClassFile → Type 0
IsRecord file = (bytes : List ℕ) × IsClassFile bytes file
