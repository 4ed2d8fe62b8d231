-- An entry is a tag and the parts after it.
use Rattle.std.proofs.Common.{◌≡◌, ℕ, ℤ, ◌^◌, ◌<◌, eqb, List, [], ◌∷◌, ◌++◌, length, take, drop, Option, Some, None, Result, Ok, refl, ap, ◌∙◌, arith, rules, length-drop, inl, inr}
use Rattle.std.specs.Prelude.{FitsSigned, pos, negsuc}
use Rattle.std.specs.Int.{w32, cast_signed, cast_unsigned}
use Rattle.std.proofs.lemmas.Bool.{cases_Bool, eqb-true}
use Rattle.std.proofs.lemmas.Int.{of_z-to_z, to_z-of_z, ints}
use Rattle.std.proofs.lemmas.List.{take_all, take-append-drop}
use Rattle.byteorder.specs.Endian.{big_number}
use Rattle.byteorder.specs.Numbers.{big_number-reads_back, big_from-lt}
use Rattle.class_pool.specs.declared.pool.Const.{Const}
use Rattle.class_pool.specs.declared.pool.Const.TheVariants.{Utf8, Integer, Float, Long, Double, Class, String, Field, Method, InterfaceMethod, NameAndType, MethodHandle, MethodType, InvokeDynamic}
use Rattle.class_pool.specs.declared.tag.Tag.{Tag}
use Rattle.class_pool.specs.declared.tag.Tag.TheVariants.{Utf8 as TagUtf8, Integer as TagInteger, Float as TagFloat, Long as TagLong, Double as TagDouble, Class as TagClass, String as TagString, Fieldref, Methodref, InterfaceMethodref, NameAndType as TagNameAndType, MethodHandle as TagMethodHandle, MethodType as TagMethodType, InvokeDynamic as TagInvokeDynamic}
use Rattle.class_pool.specs.declared.refusal.PoolRefusal.{PoolRefusal}
use Rattle.class_pool.specs.Pool.{FitsEntry, entry_bytes, width}
use Rattle.class_pool.specs.PoolReading.{tag_byte, all_tags, tag_among, tag_of_byte, tag_width, parts_size, entry_of}
use Rattle.byte_read.proofs.Steps.{u2, u4, u8, IsBytes, IsBytes-drop, IsBytes-rest, back_2, back_4, back_8}
use Rattle.class_pool.proofs.constant_pool.Texts.{text_again}

abbrev pub tag_of : Const → Tag
tag_of (Utf8 text) = TagUtf8
tag_of (Integer value) = TagInteger
tag_of (Float bits) = TagFloat
tag_of (Long bits) = TagLong
tag_of (Double bits) = TagDouble
tag_of (Class name) = TagClass
tag_of (String text) = TagString
tag_of (Field class name_and_type) = Fieldref
tag_of (Method class name_and_type) = Methodref
tag_of (InterfaceMethod class name_and_type) = InterfaceMethodref
tag_of (NameAndType name descriptor) = TagNameAndType
tag_of (MethodHandle kind index) = TagMethodHandle
tag_of (MethodType descriptor) = TagMethodType
tag_of (InvokeDynamic bootstrap name_and_type) = TagInvokeDynamic

-- a text has its length before it
abbrev pub size_bytes : Const → List ℕ
size_bytes (Utf8 text) = u2 (length text)
size_bytes _ = []

abbrev pub parts_of : Const → List ℕ
parts_of (Utf8 text) = text
parts_of (Integer value) = u4 (cast_unsigned w32 value)
parts_of (Float bits) = u4 bits
parts_of (Long bits) = u8 bits
parts_of (Double bits) = u8 bits
parts_of (Class name) = u2 name
parts_of (String text) = u2 text
parts_of (Field class name_and_type) = u2 class ++ u2 name_and_type
parts_of (Method class name_and_type) = u2 class ++ u2 name_and_type
parts_of (InterfaceMethod class name_and_type) = u2 class ++ u2 name_and_type
parts_of (NameAndType name descriptor) = u2 name ++ u2 descriptor
parts_of (MethodHandle kind index) = kind ∷ u2 index
parts_of (MethodType descriptor) = u2 descriptor
parts_of (InvokeDynamic bootstrap name_and_type) = u2 bootstrap ++ u2 name_and_type

pub bytes_are : (entry : Const) → entry_bytes entry ≡ tag_byte (tag_of entry) ∷ (size_bytes entry ++ parts_of entry)
bytes_are (Utf8 text) = refl
bytes_are (Integer value) = refl
bytes_are (Float bits) = refl
bytes_are (Long bits) = refl
bytes_are (Double bits) = refl
bytes_are (Class name) = refl
bytes_are (String text) = refl
bytes_are (Field class name_and_type) = refl
bytes_are (Method class name_and_type) = refl
bytes_are (InterfaceMethod class name_and_type) = refl
bytes_are (NameAndType name descriptor) = refl
bytes_are (MethodHandle kind index) = refl
bytes_are (MethodType descriptor) = refl
bytes_are (InvokeDynamic bootstrap name_and_type) = refl

pub width_is : (entry : Const) → width entry ≡ tag_width (tag_of entry)
width_is (Utf8 text) = refl
width_is (Integer value) = refl
width_is (Float bits) = refl
width_is (Long bits) = refl
width_is (Double bits) = refl
width_is (Class name) = refl
width_is (String text) = refl
width_is (Field class name_and_type) = refl
width_is (Method class name_and_type) = refl
width_is (InterfaceMethod class name_and_type) = refl
width_is (NameAndType name descriptor) = refl
width_is (MethodHandle kind index) = refl
width_is (MethodType descriptor) = refl
width_is (InvokeDynamic bootstrap name_and_type) = refl

-- ---- tags and their bytes

pub tag_back : (tag : Tag) → tag_of_byte (tag_byte tag) ≡ Some tag
tag_back TagUtf8 = refl
tag_back TagInteger = refl
tag_back TagFloat = refl
tag_back TagLong = refl
tag_back TagDouble = refl
tag_back TagClass = refl
tag_back TagString = refl
tag_back Fieldref = refl
tag_back Methodref = refl
tag_back InterfaceMethodref = refl
tag_back TagNameAndType = refl
tag_back TagMethodHandle = refl
tag_back TagMethodType = refl
tag_back TagInvokeDynamic = refl

abbrev some_tag : Tag → Option Tag
some_tag tag = Some tag

pub same_tag : (s t : Tag) → some_tag s ≡ some_tag t → s ≡ t
same_tag s t e = cc

no_tag : (tag : Tag) → None ≡ some_tag tag → ⊥
no_tag tag e = cc

among_says : (tags : List Tag) (byte : ℕ) (tag : Tag) → tag_among tags byte ≡ Some tag → byte ≡ tag_byte tag
among_says [] byte tag e = absurd (no_tag tag e)
among_says (other ∷ tags) byte tag e =
    elim (cases_Bool (eqb byte (tag_byte other))) [
      | inl t ↦ eqb-true _ _ t ∙ ap tag_byte (same_tag other tag (rw t at e))
      | inr f ↦ among_says tags byte tag (rw f at e)
    ]

pub tag_says : (byte : ℕ) (tag : Tag) → tag_of_byte byte ≡ Some tag → byte ≡ tag_byte tag
tag_says byte tag e = among_says all_tags byte tag e

-- an entry of each tag
pub sample : (tag : Tag) → (entry : Const) × (tag_of entry ≡ tag)
sample TagUtf8 = (Utf8 [], refl)
sample TagInteger = (Integer (pos 0), refl)
sample TagFloat = (Float 0, refl)
sample TagLong = (Long 0, refl)
sample TagDouble = (Double 0, refl)
sample TagClass = (Class 0, refl)
sample TagString = (String 0, refl)
sample Fieldref = (Field 0 0, refl)
sample Methodref = (Method 0 0, refl)
sample InterfaceMethodref = (InterfaceMethod 0 0, refl)
sample TagNameAndType = (NameAndType 0 0, refl)
sample TagMethodHandle = (MethodHandle 0 0, refl)
sample TagMethodType = (MethodType 0, refl)
sample TagInvokeDynamic = (InvokeDynamic 0 0, refl)

-- ---- an entry is read again from its parts

one_number : (n : ℕ) → n < 2 ^ 16 → big_number 2 (u2 n) ≡ n
one_number n lt = big_number-reads_back 2 n [] lt

signed_fits : (n : ℕ) → n < 2 ^ 32 → FitsSigned w32 (cast_signed w32 n)
signed_fits n lt = search (rules, ints)

unsigned_fits : (z : ℤ) → FitsSigned w32 z → cast_unsigned w32 z < 2 ^ 32
unsigned_fits (pos n) fits = search (rules, ints)
unsigned_fits (negsuc n) fits = omega arith

integer_again : (value : ℤ) → FitsSigned w32 value → cast_signed w32 (big_number 4 (u4 (cast_unsigned w32 value))) ≡ value
integer_again value fits = ap (cast_signed w32) (big_number-reads_back 4 (cast_unsigned w32 value) [] (unsigned_fits value fits)) ∙ to_z-of_z w32 value fits

-- an entry of two numbers
pair_again : (make : ℕ → ℕ → Const) (m n : ℕ) → m < 2 ^ 16 → n < 2 ^ 16 → make (big_number 2 (u2 m ++ u2 n)) (big_number 2 (drop 2 (u2 m ++ u2 n))) ≡ make m n
pair_again make m n lt lt2 = rw (big_number-reads_back 2 m (u2 n) lt, one_number n lt2) refl

abbrev ok : Const → Result Const PoolRefusal
ok entry = Ok entry

pub entry_again : (index : ℕ) (entry : Const) → FitsEntry entry → entry_of index (tag_of entry) (parts_of entry) ≡ Ok entry
unfolding entry_of
entry_again index (Utf8 text) fits = rw (text_again text fits.1) refl
entry_again index (Integer value) fits = ap (λ (z : ℤ). ok (Integer z)) (integer_again value fits.0)
entry_again index (Float bits) fits = ap (λ (n : ℕ). ok (Float n)) (big_number-reads_back 4 bits [] fits.0)
entry_again index (Long bits) fits = ap (λ (n : ℕ). ok (Long n)) (big_number-reads_back 8 bits [] fits.0)
entry_again index (Double bits) fits = ap (λ (n : ℕ). ok (Double n)) (big_number-reads_back 8 bits [] fits.0)
entry_again index (Class name) fits = ap (λ (n : ℕ). ok (Class n)) (one_number name fits.0)
entry_again index (String text) fits = ap (λ (n : ℕ). ok (String n)) (one_number text fits.0)
entry_again index (Field class name_and_type) fits = ap ok (pair_again Field class name_and_type fits.0.0 fits.0.1)
entry_again index (Method class name_and_type) fits = ap ok (pair_again Method class name_and_type fits.0.0 fits.0.1)
entry_again index (InterfaceMethod class name_and_type) fits = ap ok (pair_again InterfaceMethod class name_and_type fits.0.0 fits.0.1)
entry_again index (NameAndType name descriptor) fits = ap ok (pair_again NameAndType name descriptor fits.0.0 fits.0.1)
entry_again index (MethodHandle kind handle) fits = ap (λ (n : ℕ). ok (MethodHandle kind n)) (one_number handle fits.0.1)
entry_again index (MethodType descriptor) fits = ap (λ (n : ℕ). ok (MethodType n)) (one_number descriptor fits.0)
entry_again index (InvokeDynamic bootstrap name_and_type) fits = ap ok (pair_again InvokeDynamic bootstrap name_and_type fits.0.0 fits.0.1)

-- ---- parts of the right size are those of an entry

abbrev pub IsFixed : Tag → Type 0
IsFixed TagUtf8 = ⊥
IsFixed _ = Unit {0}

pub record IsMade (index : ℕ) (tag : Tag) (parts : List ℕ) : Type 0 where
  pub entry : Const
  pub reads : entry_of index tag parts ≡ Ok entry
  pub tag_is : tag_of entry ≡ tag
  pub no_size : size_bytes entry ≡ []
  pub parts_are : parts_of entry ≡ parts
  pub fits : FitsEntry entry

-- numbers in parts of the right size
number_2 : (parts : List ℕ) → IsBytes parts → length parts ≡ 2 → u2 (big_number 2 parts) ≡ parts
number_2 parts fits len = back_2 parts (omega arith) fits ∙ take_all 2 parts (omega arith)

number_4 : (parts : List ℕ) → IsBytes parts → length parts ≡ 4 → u4 (big_number 4 parts) ≡ parts
number_4 parts fits len = back_4 parts (omega arith) fits ∙ take_all 4 parts (omega arith)

number_8 : (parts : List ℕ) → IsBytes parts → length parts ≡ 8 → u8 (big_number 8 parts) ≡ parts
number_8 parts fits len = back_8 parts (omega arith) fits ∙ take_all 8 parts (omega arith)

two_numbers : (parts : List ℕ) → IsBytes parts → length parts ≡ 4 → u2 (big_number 2 parts) ++ u2 (big_number 2 (drop 2 parts)) ≡ parts
two_numbers parts fits len =
    let second = number_2 (drop 2 parts) (IsBytes-drop 2 parts fits) (omega (arith, length-drop 2 parts)) in
    let first = back_2 parts (omega arith) fits in
    ap (λ (prefix : List ℕ). prefix ++ u2 (big_number 2 (drop 2 parts))) first ∙ ap (λ (rest : List ℕ). take 2 parts ++ rest) second ∙ take-append-drop 2 parts

number_fits : (parts : List ℕ) → IsBytes parts → big_number 2 parts < 2 ^ 16
number_fits parts fits = big_from-lt 0 2 parts fits

two_fit : (parts : List ℕ) → IsBytes parts → (big_number 2 parts < 2 ^ 16) × (big_number 2 (drop 2 parts) < 2 ^ 16)
two_fit parts fits = (number_fits parts fits, number_fits (drop 2 parts) (IsBytes-drop 2 parts fits))

integer_made : (index : ℕ) (parts : List ℕ) → IsBytes parts → length parts ≡ 4 → IsMade index TagInteger parts
unfolding entry_of
integer_made index parts fits len =
    let n = big_number 4 parts in
    let small : n < 2 ^ 32 = big_from-lt 0 4 parts fits in
    let bits : cast_unsigned w32 (cast_signed w32 n) ≡ n = of_z-to_z w32 n small in
    record { entry = Integer (cast_signed w32 n); reads = refl; tag_is = refl; no_size = refl; parts_are = ap u4 bits ∙ number_4 parts fits len; fits = (signed_fits n small, tt) }

handle_made : (index : ℕ) (parts : List ℕ) → IsBytes parts → length parts ≡ 3 → IsMade index TagMethodHandle parts
unfolding entry_of
handle_made index [] fits len = absurd (omega arith)
handle_made index (kind ∷ rest) fits len =
    let small = IsBytes-rest kind rest fits in
    record { entry = MethodHandle kind (big_number 2 rest); reads = refl; tag_is = refl; no_size = refl; parts_are = ap (λ (text : List ℕ). kind ∷ text) (number_2 rest small (omega arith)); fits = ((fits 0, number_fits rest small), tt) }

pub parts_made : (index : ℕ) (tag : Tag) (parts : List ℕ) → IsFixed tag → IsBytes parts → length parts ≡ parts_size tag → IsMade index tag parts
unfolding entry_of
parts_made index TagUtf8 parts fixed fits len = absurd fixed
parts_made index TagInteger parts fixed fits len = integer_made index parts fits len
parts_made index TagFloat parts fixed fits len = record { entry = Float (big_number 4 parts); reads = refl; tag_is = refl; no_size = refl; parts_are = number_4 parts fits len; fits = (big_from-lt 0 4 parts fits, tt) }
parts_made index TagLong parts fixed fits len = record { entry = Long (big_number 8 parts); reads = refl; tag_is = refl; no_size = refl; parts_are = number_8 parts fits len; fits = (big_from-lt 0 8 parts fits, tt) }
parts_made index TagDouble parts fixed fits len = record { entry = Double (big_number 8 parts); reads = refl; tag_is = refl; no_size = refl; parts_are = number_8 parts fits len; fits = (big_from-lt 0 8 parts fits, tt) }
parts_made index TagClass parts fixed fits len = record { entry = Class (big_number 2 parts); reads = refl; tag_is = refl; no_size = refl; parts_are = number_2 parts fits len; fits = (number_fits parts fits, tt) }
parts_made index TagString parts fixed fits len = record { entry = String (big_number 2 parts); reads = refl; tag_is = refl; no_size = refl; parts_are = number_2 parts fits len; fits = (number_fits parts fits, tt) }
parts_made index Fieldref parts fixed fits len = record { entry = Field (big_number 2 parts) (big_number 2 (drop 2 parts)); reads = refl; tag_is = refl; no_size = refl; parts_are = two_numbers parts fits len; fits = (two_fit parts fits, tt) }
parts_made index Methodref parts fixed fits len = record { entry = Method (big_number 2 parts) (big_number 2 (drop 2 parts)); reads = refl; tag_is = refl; no_size = refl; parts_are = two_numbers parts fits len; fits = (two_fit parts fits, tt) }
parts_made index InterfaceMethodref parts fixed fits len = record { entry = InterfaceMethod (big_number 2 parts) (big_number 2 (drop 2 parts)); reads = refl; tag_is = refl; no_size = refl; parts_are = two_numbers parts fits len; fits = (two_fit parts fits, tt) }
parts_made index TagNameAndType parts fixed fits len = record { entry = NameAndType (big_number 2 parts) (big_number 2 (drop 2 parts)); reads = refl; tag_is = refl; no_size = refl; parts_are = two_numbers parts fits len; fits = (two_fit parts fits, tt) }
parts_made index TagMethodHandle parts fixed fits len = handle_made index parts fits len
parts_made index TagMethodType parts fixed fits len = record { entry = MethodType (big_number 2 parts); reads = refl; tag_is = refl; no_size = refl; parts_are = number_2 parts fits len; fits = (number_fits parts fits, tt) }
parts_made index TagInvokeDynamic parts fixed fits len = record { entry = InvokeDynamic (big_number 2 parts) (big_number 2 (drop 2 parts)); reads = refl; tag_is = refl; no_size = refl; parts_are = two_numbers parts fits len; fits = (two_fit parts fits, tt) }
