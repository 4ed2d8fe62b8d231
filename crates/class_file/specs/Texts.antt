-- What the texts of a pool are, index by index: which of them are the same, and what each is as a
-- descriptor. By that the members that were read are known again.
use Rattle.std.specs.Prelude.{◌≡◌, ℕ, min, Bool, false, List, Option, Some, None, is_some, option_map, option_and_then, unwrap_or, IsSome, sum_by, slice_get, Result, Ok, Err}
use Rattle.std.specs.Borrow.{Bor}
use Rattle.std.specs.BTreeMap.{BTreeMap, get_by}
use Rattle.std.specs.BTreeSet.{BTreeSet, contains}
use Rattle.std.specs.declared.cmp.Ordering.{Ordering}
use Rattle.std.specs.Ordering.{nat_cmp, ordering_then}
use Rattle.std.specs.Cmp.Lexicographic.{slice_cmp}
use Rattle.class_pool.specs.declared.descriptor.Descriptor.{Descriptor}
use Rattle.class_pool.specs.declared.descriptor.DescriptorRefusal.{DescriptorRefusal}
use Rattle.class_pool.specs.declared.descriptor.DescriptorRefusal.TheVariants.{BadDescriptor, Memory as OutOfMemory}
use Rattle.class_pool.specs.Pool.{Slots, utf8_at}
use Rattle.class_pool.specs.DescriptorReading.{field_of, method_of}
use Rattle.class_file.specs.declared.head.Head.{Head}
use Rattle.class_file.specs.declared.record.Member.{Member}
use Rattle.class_file.specs.declared.refusal.ReadRefusal.{ReadRefusal}
use Rattle.class_file.specs.declared.refusal.ReadRefusal.TheVariants.{Memory}
use Rattle.class_file.specs.declared.texts.MethodShape.{MethodShape}
use Rattle.class_file.specs.declared.texts.TextRow.{TextRow}
use Rattle.class_file.specs.Rules.{slots_of}
use Rattle.class_file.specs.ReadingMembers.{is_declared}

-- ---- what a table says

-- the argument places of a method, without `this`, up to 256, and whether there is a result
abbrev pub shape_of : Descriptor → MethodShape
shape_of type = record { slots = min 256 (sum_by slots_of type.params); has_result = is_some type.result }

-- what a row says, where there is one
abbrev pub same_in : Option TextRow → ℕ
same_in None = 0
same_in (Some row) = row.same

abbrev pub is_field_in : Option TextRow → Bool
is_field_in None = false
is_field_in (Some row) = row.is_field

abbrev pub shape_in : Option TextRow → Option MethodShape
shape_in None = None
shape_in (Some row) = row.method

-- the index that stands for the text at an index, whether the text is a field's descriptor, and what it
-- is as a method's
abbrev pub same_at : List TextRow → ℕ → ℕ
same_at rows index = same_in (slice_get rows index)

abbrev pub is_field_at : List TextRow → ℕ → Bool
is_field_at rows index = is_field_in (slice_get rows index)

abbrev pub shape_at : List TextRow → ℕ → Option MethodShape
shape_at rows index = shape_in (slice_get rows index)

-- ---- when it is right

-- at two indexes stands the same text exactly where the same index stands for both, and each descriptor
-- is told as what it is
pub record AreTexts (pool : Slots) (rows : List TextRow) : Type 0 where
  pub same_text : (index : ℕ) → utf8_at pool (same_at rows index) ≡ utf8_at pool index
  pub one_index : (first second : ℕ) → utf8_at pool first ≡ utf8_at pool second → same_at rows first ≡ same_at rows second
  pub fields : (index : ℕ) → is_field_at rows index ≡ is_some (option_and_then field_of (utf8_at pool index))
  pub methods : (index : ℕ) → shape_at rows index ≡ option_map shape_of (option_and_then method_of (utf8_at pool index))

-- ---- how it is made

-- the index that a map has for a text
abbrev pub number_in : BTreeMap (Bor (List ℕ)) ℕ → List ℕ → Option ℕ
number_in numbers text = get_by (λ key. slice_cmp nat_cmp text key.now) numbers

-- each text has an index of its own, where it stands
pub record AreNumbered (pool : Slots) (number : List ℕ → Option ℕ) : Type 0 where
  pub named : (text : List ℕ) (index : ℕ) → number text ≡ Some index → utf8_at pool index ≡ Some text
  pub all : (index : ℕ) (text : List ℕ) → utf8_at pool index ≡ Some text → IsSome (number text)

-- what is answered for a text that was not read: that it is no descriptor, unless memory ran out
abbrev pub unless_memory : {A : Type 0} → A → DescriptorRefusal → Result A ReadRefusal
unless_memory none BadDescriptor = Ok none
unless_memory none OutOfMemory = Err Memory

-- the row of a text, and of a place without one
abbrev pub text_row : (List ℕ → Option ℕ) → List ℕ → TextRow
text_row number text = record { same = unwrap_or (number text) 0; is_field = is_some (field_of text); method = option_map shape_of (method_of text) }

abbrev pub no_row : TextRow
no_row = record { same = 0; is_field = false; method = None }

abbrev pub row_of : (List ℕ → Option ℕ) → Option (List ℕ) → TextRow
row_of number None = no_row
row_of number (Some text) = text_row number text

-- the row of an index
abbrev pub row_at : Slots → (List ℕ → Option ℕ) → ℕ → TextRow
row_at pool number index = row_of number (utf8_at pool index)

-- ---- the members that were read

-- the indexes that stand for the name and the descriptor
abbrev pub signature_of : List TextRow → Head → ℕ × ℕ
signature_of rows head = (same_at rows head.name, same_at rows head.descriptor)

abbrev pub signature_cmp : ℕ × ℕ → ℕ × ℕ → Ordering
signature_cmp first second = ordering_then (nat_cmp first.0 second.0) (nat_cmp first.1 second.1)

abbrev pub is_seen : List TextRow → BTreeSet (ℕ × ℕ) → Head → Bool
is_seen rows seen head = contains signature_cmp seen (signature_of rows head)

-- a head of a name and a descriptor was seen exactly where one of the same stands among the earlier members
abbrev pub AreSeen : Slots → List TextRow → List Member → BTreeSet (ℕ × ℕ) → Type 0
AreSeen pool rows earlier seen =
    (head : Head) → IsSome (utf8_at pool head.name) → IsSome (utf8_at pool head.descriptor) → is_seen rows seen head ≡ is_declared pool earlier head
