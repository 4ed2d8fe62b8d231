-- Reading descriptors as a function on lists: a part is a value and the bytes after it, or None.
use Rattle.std.specs.Prelude.{◌≡◌, ℕ, zero, suc, ◌+◌, Bool, true, false, ◌==◌, nat_lt, if◌then◌else◌, List, [], ◌∷◌, length, take, drop, slice_index, Option, Some, None, option_map, Result, Ok, Err}
use Rattle.class_pool.specs.declared.descriptor.Base.{Base}
use Rattle.class_pool.specs.declared.descriptor.Base.TheVariants.{Byte as BaseByte, Char as BaseChar, Double as BaseDouble, Float as BaseFloat, Int as BaseInt, Long as BaseLong, Short as BaseShort, Boolean as BaseBoolean, Class as BaseClass}
use Rattle.class_pool.specs.declared.descriptor.Kind.{Kind}
use Rattle.class_pool.specs.declared.descriptor.Kind.TheVariants.{Byte, Char, Double, Float, Int, Long, Short, Boolean, Class, Array}
use Rattle.class_pool.specs.declared.descriptor.Descriptor.{Descriptor}
use Rattle.class_pool.specs.declared.descriptor.DescriptorRefusal.{DescriptorRefusal}
use Rattle.class_pool.specs.declared.descriptor.DescriptorRefusal.TheVariants.{BadDescriptor, Memory}
use Rattle.class_pool.specs.Descriptors.{is_part_byte, base_text}

infixl 10 ◌>>=◌
abbrev pub ◌>>=◌ : {A B : Type 0} → Option A → (A → Option B) → Option B
(Some x) >>= f = f x
None >>= f = None

-- what a function returned, seen by view, is what reading gives, unless memory ran out
abbrev pub Reads : {X Y : Type 0} → (X → Y) → Result X DescriptorRefusal → Option Y → Type 0
Reads view (Ok x) read = read ≡ Some (view x)
Reads view (Err BadDescriptor) read = read ≡ None
Reads view (Err Memory) read = Unit {0}

-- a function returned this value, or refused where there is none, unless memory ran out
abbrev pub Answers : {X : Type 0} → Result X DescriptorRefusal → Option X → Type 0
Answers result answer = Reads (λ x. x) result answer

-- what follows a value that is read
abbrev pub suffix_of : {X : Type 0} → Option (X × List ℕ) → Option (List ℕ)
suffix_of read = option_map (λ x. x.1) read

-- ---- class names

-- whether a part of a name begins after a byte, where the name goes on with it
abbrev pub after_byte : Bool → ℕ → Option Bool
after_byte begins byte = if byte == 47 then (if begins then None else Some true) else (if is_part_byte byte then Some false else None)

-- how many bytes of a name stand before its `;`
unfoldable pub name_size : Bool → List ℕ → Option ℕ
name_size begins [] = None
name_size begins (byte ∷ text) =
    if byte == 59 then (if begins then None else Some 0) else (after_byte begins byte >>= λ next. option_map suc (name_size next text))

-- a name, and what follows its `;`
abbrev pub split_name : List ℕ → ℕ → List ℕ × List ℕ
split_name text size = (take size text, drop (size + 1) text)

unfoldable pub class_at : List ℕ → Option (List ℕ × List ℕ)
class_at text = option_map (split_name text) (name_size true text)

-- ---- types

-- the types of one letter
abbrev pub plain_bases : List Base
plain_bases = BaseByte ∷ BaseChar ∷ BaseDouble ∷ BaseFloat ∷ BaseInt ∷ BaseLong ∷ BaseShort ∷ BaseBoolean ∷ []

-- the first of these types that a letter encodes
abbrev pub base_among : List Base → ℕ → Option Base
base_among [] letter = None
base_among (base ∷ bases) letter = if letter == slice_index (base_text base) 0 then Some base else base_among bases letter

-- the type of a letter
abbrev pub plain_base : ℕ → Option Base
plain_base letter = base_among plain_bases letter

unfoldable pub base_at : List ℕ → Option (Base × List ℕ)
base_at [] = None
base_at (letter ∷ text) =
    if letter == 76 then (class_at text >>= λ name. Some (BaseClass name.0, name.1)) else (plain_base letter >>= λ base. Some (base, text))

-- how many `[` are at the prefix
unfoldable pub brackets : List ℕ → ℕ
brackets [] = 0
brackets (letter ∷ text) = if letter == 91 then suc (brackets text) else 0

-- the type itself
abbrev pub plain_kind : Base → Kind
plain_kind BaseByte = Byte
plain_kind BaseChar = Char
plain_kind BaseDouble = Double
plain_kind BaseFloat = Float
plain_kind BaseInt = Int
plain_kind BaseLong = Long
plain_kind BaseShort = Short
plain_kind BaseBoolean = Boolean
plain_kind (BaseClass name) = Class name

-- the type with so many dimensions
abbrev pub kind_with : ℕ → Base → Kind
kind_with dims base = if dims == 0 then plain_kind base else Array dims base

unfoldable pub kind_at : List ℕ → Option (Kind × List ℕ)
kind_at text =
    if nat_lt 255 (brackets text) then None else (base_at (drop (brackets text) text) >>= λ base. Some (kind_with (brackets text) base.0, base.1))

-- the type that all of the text names
unfoldable pub field_of : List ℕ → Option Kind
field_of text = kind_at text >>= λ kind. if length kind.1 == 0 then Some kind.0 else None

-- ---- methods

-- what follows a `)`
abbrev pub after_close : List ℕ → Option (List ℕ)
after_close [] = None
after_close (letter ∷ text) = if letter == 41 then Some text else None

-- the parameters end here, or go on so
abbrev pub closed : Option (List ℕ) → Option (List Kind × List ℕ) → Option (List Kind × List ℕ)
closed (Some text) others = Some ([], text)
closed None others = others

-- fewer than so many parameters, and what follows their `)`
unfoldable pub params_at : ℕ → List ℕ → Option (List Kind × List ℕ)
params_at zero text = None
params_at (suc most) text =
    closed (after_close text) (kind_at text >>= λ kind. params_at most kind.1 >>= λ others. Some (kind.0 ∷ others.0, others.1))

-- the result that all of the text names
unfoldable pub result_of : List ℕ → Option (Option Kind)
result_of [] = None
result_of (letter ∷ text) = if letter == 86 then (if length text == 0 then Some None else None) else (field_of (letter ∷ text) >>= λ kind. Some (Some kind))

unfoldable pub method_of : List ℕ → Option Descriptor
method_of [] = None
method_of (letter ∷ text) =
    if letter == 40 then (params_at (length text) text >>= λ params. result_of params.1 >>= λ result. Some (record { params = params.0; result = result })) else None
