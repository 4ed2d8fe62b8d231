-- How entries are added to a constant pool: an entry that is there already is shared, and another one
-- is put after all others.
use Rattle.std.specs.Prelude.{ℕ, suc, Bool, false, ◌&&◌, ◌==◌, if◌then◌else◌, List, [], ◌∷◌, ◌++◌, Option, Some, None, is_some, unwrap_or}
use Rattle.std.specs.Ordering.{int_eq}
use Rattle.std.specs.Str.{bytes_eq}
use Rattle.class_pool.specs.declared.pool.Const.{Const}
use Rattle.class_pool.specs.declared.pool.Const.TheVariants.{Utf8, Integer, Float, Long, Double, Class, String, Field, Method, InterfaceMethod, NameAndType, MethodHandle, MethodType, InvokeDynamic}
use Rattle.class_pool.specs.Pool.{Slots, is_wide}

-- two entries are the same
unfoldable pub is_same : Const → Const → Bool
is_same (Utf8 a) (Utf8 b) = bytes_eq a b
is_same (Integer a) (Integer b) = int_eq a b
is_same (Float a) (Float b) = a == b
is_same (Long a) (Long b) = a == b
is_same (Double a) (Double b) = a == b
is_same (Class a) (Class b) = a == b
is_same (String a) (String b) = a == b
is_same (Field a c) (Field b d) = a == b && c == d
is_same (Method a c) (Method b d) = a == b && c == d
is_same (InterfaceMethod a c) (InterfaceMethod b d) = a == b && c == d
is_same (NameAndType a c) (NameAndType b d) = a == b && c == d
is_same (MethodHandle a c) (MethodHandle b d) = a == b && c == d
is_same (MethodType a) (MethodType b) = a == b
is_same (InvokeDynamic a c) (InvokeDynamic b d) = a == b && c == d
is_same _ _ = false

-- the place has this entry
abbrev pub is_entry : Const → Option Const → Bool
is_entry entry None = false
is_entry entry (Some other) = is_same other entry

-- the index of the first place that has this entry, where the first of all has the index `first`
unfoldable pub index_from : ℕ → Slots → Const → Option ℕ
index_from first [] entry = None
index_from first (slot ∷ slots) entry = if is_entry entry slot then Some first else index_from (suc first) slots entry

-- the index of an entry, where the pool has it
abbrev pub index_of : Slots → Const → Option ℕ
index_of pool entry = index_from 1 pool entry

-- the same as a number, 0 where the pool lacks the entry
abbrev pub index_in : Slots → Const → ℕ
index_in pool entry = unwrap_or (index_of pool entry) 0

-- the places that an entry takes (JVMS 4.4.5)
abbrev pub slots_of : Const → Slots
slots_of entry = Some entry ∷ (if is_wide entry then None ∷ [] else [])

-- the pool with an entry
abbrev pub with_entry : Slots → Const → Slots
with_entry pool entry = if is_some (index_of pool entry) then pool else pool ++ slots_of entry

-- the pool with a text
abbrev pub with_text : Slots → List ℕ → Slots
with_text pool text = with_entry pool (Utf8 text)

-- the index of a text, and of the class of a name
abbrev pub text_index : Slots → List ℕ → ℕ
text_index pool text = index_in pool (Utf8 text)

abbrev pub class_index : Slots → List ℕ → ℕ
class_index pool name = index_in pool (Class (text_index pool name))

-- the pool with the class of a name: the name, and then the class
abbrev pub with_class : Slots → List ℕ → Slots
with_class pool name = let named = with_text pool name in with_entry named (Class (text_index named name))
