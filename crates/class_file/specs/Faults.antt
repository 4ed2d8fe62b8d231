-- What each fault says of the bytes, in words of the format: what comes before it is good, and what is
-- there breaks a rule.
use Rattle.std.specs.Prelude.{◌≡◌, ◌⊎◌, ◌↔◌, ℕ, ◌<◌, ◌≤◌, IsTrue, List, [], ◌∷◌, ◌++◌, length, map, take, Some, IsSome}
use Rattle.std.specs.List.{flat_map, AllByRecursion, IsDistinct}
use Rattle.class_pool.specs.declared.descriptor.Kind.{Kind}
use Rattle.class_pool.specs.declared.descriptor.Descriptor.{Descriptor}
use Rattle.class_pool.specs.declared.refusal.PoolRefusal.TheVariants.{BadTag, BadIndex, BadUtf8}
use Rattle.class_pool.specs.Pool.{Slots, utf8_at, pool_bytes, IsPool}
use Rattle.class_pool.specs.PoolRefused.{IsRefused as IsPoolRefused}
use Rattle.class_pool.specs.Descriptors.{IsFieldText, IsMethodText}
use Rattle.class_file.specs.declared.record.ClassFile.{ClassFile}
use Rattle.class_file.specs.declared.class.ClassHead.{ClassHead}
use Rattle.class_file.specs.declared.refusal.ReadRefusal.{ReadRefusal}
use Rattle.class_file.specs.declared.refusal.ReadRefusal.TheVariants.{Truncated, BadPool, BadShape, BadDescriptor}
use Rattle.class_file.specs.Layout.{u2, counted, magic, Attribute, attribute_bytes, MemberLayout, member_bytes, head_of}
use Rattle.class_file.specs.Rules.{are_class_flags, names_class, is_same_member}
use Rattle.class_file.specs.Relation.{FitsU2, FitsAttribute, FitsMember, IsSkippable, IsRegularField, IsRegularMethod, largest, IsClassFile}
use Rattle.class_file.specs.Refused.{IsRefused}
use Rattle.class_file.specs.Prefixes.{IsFault}
pub use Rattle.byte_read.specs.Bytes.{AreBytes}

-- ---- a file that is cut off

-- the bytes begin as a class file does, and no prefix of them is one or has a fault
pub record IsUnfinished (bytes : List ℕ) : Type 0 where
  pub size : length bytes ≤ largest
  pub begins : take 4 bytes ≡ magic
  pub no_file : (prefix rest : List ℕ) (file : ClassFile) → bytes ≡ prefix ++ rest → IsClassFile prefix file → ⊥
  pub no_fault : (prefix rest : List ℕ) (why : ReadRefusal) → bytes ≡ prefix ++ rest → IsFault why → IsRefused prefix why → ⊥

-- bytes are truncated exactly where they are unfinished
abbrev pub TruncatedIsUnfinished : Type 0
TruncatedIsUnfinished = (bytes : List ℕ) → AreBytes bytes → IsRefused bytes Truncated ↔ IsUnfinished bytes

-- ---- the pool

-- the magic and a version that is read, and these bytes after them
pub record HasVersionThen (bytes rest : List ℕ) : Type 0 where
  pub minor : ℕ
  pub major : ℕ
  pub minor_fits : FitsU2 minor
  pub first_version : 45 ≤ major
  pub last_version : major ≤ 52
  pub encoded : bytes ≡ magic ++ (u2 minor ++ (u2 major ++ rest))

-- the first entry of the pool that is wrong is at this index: its tag is, or its text, or what it names
abbrev pub IsBadEntry : List ℕ → ℕ → Type 0
IsBadEntry bytes index = IsPoolRefused bytes (BadTag index) ⊎ (IsPoolRefused bytes (BadUtf8 index) ⊎ IsPoolRefused bytes (BadIndex index))

-- after a version that is read stands a pool whose first wrong entry is at this index
pub record HasBadEntry (bytes : List ℕ) (index : ℕ) : Type 0 where
  pub rest : List ℕ
  pub size : length bytes ≤ largest
  pub version : HasVersionThen bytes rest
  pub entry : IsBadEntry rest index

-- bytes are refused for an entry of the pool exactly where it is the first that is wrong
abbrev pub BadPoolIsBadEntry : Type 0
BadPoolIsBadEntry = (bytes : List ℕ) (index : ℕ) → AreBytes bytes → IsRefused bytes (BadPool index) ↔ HasBadEntry bytes index

-- ---- descriptors

-- flags, this class, its superclass and its interfaces, by the rules (JVMS 4.1)
pub record IsClassHead (pool : Slots) (head : ClassHead) : Type 0 where
  pub flags : FitsU2 head.flags
  pub flags_are : IsTrue (are_class_flags head.flags)
  pub this_class : FitsU2 head.this_class
  pub this_is : IsTrue (names_class pool head.this_class)
  pub super_class : FitsU2 head.super_class
  pub super_is : IsTrue (names_class pool head.super_class)
  pub interface_count : FitsU2 (length head.interfaces)
  pub interfaces : AllByRecursion FitsU2 head.interfaces
  pub interfaces_are : AllByRecursion (λ index. IsTrue (names_class pool index)) head.interfaces

-- its bytes
abbrev pub class_head_bytes : ClassHead → List ℕ
class_head_bytes head = u2 head.flags ++ (u2 head.this_class ++ (u2 head.super_class ++ counted u2 head.interfaces))

-- all that comes before the fields, by the rules, and these bytes after it
pub record HasClassThen (bytes : List ℕ) (pool : Slots) (head : ClassHead) (rest : List ℕ) : Type 0 where
  pub after_version : List ℕ
  pub version : HasVersionThen bytes after_version
  pub is_pool : IsPool pool
  pub is_head : IsClassHead pool head
  pub encoded : after_version ≡ pool_bytes pool ++ (class_head_bytes head ++ rest)

-- members that fit their fields, keep the rules, and have names and descriptors of their own
pub record AreMembers (pool : Slots) (Regular : MemberLayout → Type 0) (members : List MemberLayout) : Type 0 where
  pub fit : AllByRecursion FitsMember members
  pub regular : AllByRecursion Regular members
  pub different : IsDistinct (is_same_member pool) (map head_of members)

-- a count, fewer members than it, all of them good, and these bytes after them
pub record HasMembersThen (pool : Slots) (Regular : MemberLayout → Type 0) (bytes rest : List ℕ) : Type 0 where
  pub count : ℕ
  pub members : List MemberLayout
  pub count_fits : FitsU2 count
  pub fewer : length members < count
  pub encoded : bytes ≡ u2 count ++ (flat_map member_bytes members ++ rest)
  pub are_good : AreMembers pool Regular members

-- flags, the index of a name, and this index of this text
pub record BeginsMember (pool : Slots) (bytes : List ℕ) (index : ℕ) (text : List ℕ) : Type 0 where
  pub flags : ℕ
  pub name : ℕ
  pub more : List ℕ
  pub flags_fit : FitsU2 flags
  pub name_fits : FitsU2 name
  pub index_fits : FitsU2 index
  pub encoded : bytes ≡ u2 flags ++ (u2 name ++ (u2 index ++ more))
  pub name_is : IsSome (utf8_at pool name)
  pub text_is : utf8_at pool index ≡ Some text

-- after good fields begins one whose descriptor at this index is that of no type
pub record HasBadField (bytes : List ℕ) (index : ℕ) : Type 0 where
  pub pool : Slots
  pub head : ClassHead
  pub after_head : List ℕ
  pub rest : List ℕ
  pub text : List ℕ
  pub class : HasClassThen bytes pool head after_head
  pub fields : HasMembersThen pool (IsRegularField head.flags pool) after_head rest
  pub field : BeginsMember pool rest index text
  pub no_type : (type : Kind) → IsFieldText text type → ⊥

-- after all fields and good methods begins one whose descriptor at this index is none of a method
pub record HasBadMethod (bytes : List ℕ) (index : ℕ) : Type 0 where
  pub pool : Slots
  pub head : ClassHead
  pub fields : List MemberLayout
  pub after_fields : List ℕ
  pub rest : List ℕ
  pub text : List ℕ
  pub class : HasClassThen bytes pool head (counted member_bytes fields ++ after_fields)
  pub field_count : FitsU2 (length fields)
  pub are_fields : AreMembers pool (IsRegularField head.flags pool) fields
  pub methods : HasMembersThen pool (IsRegularMethod head.flags pool) after_fields rest
  pub method : BeginsMember pool rest index text
  pub no_descriptor : (type : Descriptor) → IsMethodText text type → ⊥

-- bytes are refused for a descriptor exactly where the first member that breaks a rule has it
abbrev pub BadDescriptorIsOfMember : Type 0
BadDescriptorIsOfMember =
    (bytes : List ℕ) (index : ℕ) → AreBytes bytes
    → IsRefused bytes (BadDescriptor index) ↔ ((length bytes ≤ largest) × (HasBadField bytes index ⊎ HasBadMethod bytes index))

-- ---- the shape

-- no such part begins with these bytes, whatever follows them
abbrev pub BeginsNone : {A : Type 0} → (A → List ℕ) → (A → Type 0) → List ℕ → Type 0
BeginsNone {A} bytes_of Good bytes = (part : A) (more suffix : List ℕ) → Good part → bytes ++ more ≡ bytes_of part ++ suffix → ⊥

-- after the pool begin no flags, names and interfaces of a class by the rules
pub record HasBadHead (bytes : List ℕ) : Type 0 where
  pub pool : Slots
  pub after_version : List ℕ
  pub rest : List ℕ
  pub version : HasVersionThen bytes after_version
  pub is_pool : IsPool pool
  pub encoded : after_version ≡ pool_bytes pool ++ rest
  pub none : BeginsNone class_head_bytes (IsClassHead pool) rest

-- after good fields begins none that is good with them
pub record HasNoField (bytes : List ℕ) : Type 0 where
  pub pool : Slots
  pub head : ClassHead
  pub after_head : List ℕ
  pub rest : List ℕ
  pub class : HasClassThen bytes pool head after_head
  pub fields : HasMembersThen pool (IsRegularField head.flags pool) after_head rest
  pub none : BeginsNone member_bytes (λ field. AreMembers pool (IsRegularField head.flags pool) (fields.members ++ field ∷ [])) rest

-- after all fields and good methods begins none that is good with them
pub record HasNoMethod (bytes : List ℕ) : Type 0 where
  pub pool : Slots
  pub head : ClassHead
  pub fields : List MemberLayout
  pub after_fields : List ℕ
  pub rest : List ℕ
  pub class : HasClassThen bytes pool head (counted member_bytes fields ++ after_fields)
  pub field_count : FitsU2 (length fields)
  pub are_fields : AreMembers pool (IsRegularField head.flags pool) fields
  pub methods : HasMembersThen pool (IsRegularMethod head.flags pool) after_fields rest
  pub none : BeginsNone member_bytes (λ method. AreMembers pool (IsRegularMethod head.flags pool) (methods.members ++ method ∷ [])) rest

-- attributes of which only the names are asked
pub record AreAttributes (pool : Slots) (attributes : List Attribute) : Type 0 where
  pub count : FitsU2 (length attributes)
  pub fit : AllByRecursion FitsAttribute attributes
  pub named : AllByRecursion (IsSkippable pool) attributes

-- after all fields and methods begin no attributes with names
pub record HasNoAttributes (bytes : List ℕ) : Type 0 where
  pub pool : Slots
  pub head : ClassHead
  pub fields : List MemberLayout
  pub methods : List MemberLayout
  pub rest : List ℕ
  pub class : HasClassThen bytes pool head (counted member_bytes fields ++ (counted member_bytes methods ++ rest))
  pub field_count : FitsU2 (length fields)
  pub are_fields : AreMembers pool (IsRegularField head.flags pool) fields
  pub method_count : FitsU2 (length methods)
  pub are_methods : AreMembers pool (IsRegularMethod head.flags pool) methods
  pub none : BeginsNone (counted attribute_bytes) (AreAttributes pool) rest

-- the first part that is not there by the rules is of one of these kinds
pub data IsMisshaped (bytes : List ℕ) : Type 0 where
  head : HasBadHead bytes → IsMisshaped bytes
  field : HasNoField bytes → IsMisshaped bytes
  method : HasNoMethod bytes → IsMisshaped bytes
  attributes : HasNoAttributes bytes → IsMisshaped bytes

-- bytes that are refused for their shape have such a part, after good ones
abbrev pub BadShapeIsOfPart : Type 0
BadShapeIsOfPart = (bytes : List ℕ) → AreBytes bytes → IsRefused bytes BadShape → IsMisshaped bytes
