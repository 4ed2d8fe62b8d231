-- What an instruction names is there, and is of the kind that it needs: a local, a static, a method, a
-- selector, a type.
use Rattle.std.specs.Prelude.{ℕ, zero, suc, ◌+◌, ◌-◌, ◌<◌, ◌≤◌, Bool, true, false, ◌&&◌, nat_lt, ◌==◌, if◌then◌else◌, List, length, Option, Some, None, IsTrue, IsSome, IsSomeAnd, slice_get, unwrap_or}
use Rattle.image_instr.specs.declared.signature.Sig.{Sig}
use Rattle.image_instr.specs.declared.insn.Kind.{Kind}
use Rattle.image_instr.specs.declared.insn.Kind.TheVariants as kind
use Rattle.image_instr.specs.declared.insn.Width.{Width}
use Rattle.image_instr.specs.declared.insn.Width.TheVariants as width
use Rattle.image_instr.specs.declared.insn.MInsn.{MInsn}
use Rattle.image_instr.specs.declared.insn.MInsn.TheVariants.{Load, Store, RClear, Inc, GetS, PutS, NewArr, Multi, New, Cast, Inst, CallS, CallX, CallV, CallI}
use Rattle.image_form.specs.declared.record.Image.{Image}
use Rattle.image_form.specs.declared.record.Method.{Method}
use Rattle.image_form.specs.declared.record.TypeEntry.{TypeEntry}
use Rattle.image_form.specs.declared.record.TypeEntry.TheVariants.{Class, RefArray, NumArray}
use Rattle.library.specs.Classes.{first_own, is_library_class}
use Rattle.image_form.specs.Library.{names_type, names_interface, signature, signature_in}

-- ---- calls

-- the signature of what an instruction calls, which counts for calls alone
abbrev pub called_by : Image → MInsn → Sig
called_by image (CallS method) = unwrap_or (signature_in image.methods method) (signature 0 0 0)
called_by image (CallX method) = unwrap_or (signature_in image.methods method) (signature 0 0 0)
called_by image (CallV selector) = unwrap_or (slice_get image.selectors selector) (signature 0 0 0)
called_by image (CallI selector id) = unwrap_or (slice_get image.selectors selector) (signature 0 0 0)
called_by image _ = signature 0 0 0

-- a method is there that takes a reference, its receiver
abbrev pub TakesReceiver : Option Sig → Type 0
TakesReceiver called = IsSomeAnd called (λ sig. 1 ≤ sig.refs)

-- ---- locals and statics

-- a local of a kind; one of two cells has its second cell too
abbrev pub HasLocal : Method → Kind → ℕ → Type 0
HasLocal method kind.Ref local = local < method.ref_locals
HasLocal method kind.One local = local < method.cell_locals
HasLocal method kind.Two local = local + 1 < method.cell_locals

abbrev pub kind_of : Width → Kind
kind_of width.One = kind.One
kind_of width.Two = kind.Two

-- a static of a kind; one of two cells has its second cell too
abbrev pub HasStatic : Image → Kind → ℕ → Type 0
HasStatic image kind.Ref place = place < image.static_refs
HasStatic image kind.One place = place < length image.static_cells
HasStatic image kind.Two place = place + 1 < length image.static_cells

-- ---- types

-- the entry is a class of which there may be objects: neither an interface nor abstract
abbrev pub is_concrete_entry : Option TypeEntry → Bool
is_concrete_entry (Some (Class class)) = class.flags == 0
is_concrete_entry (Some (RefArray element)) = false
is_concrete_entry (Some (NumArray kind)) = false
is_concrete_entry None = false

-- the id names such a class; each class of the library is one
abbrev pub names_concrete : List TypeEntry → ℕ → Bool
names_concrete types id = if nat_lt id first_own then is_library_class id else is_concrete_entry (slice_get types (id - first_own))

abbrev pub is_array_entry : Option TypeEntry → Bool
is_array_entry (Some (Class class)) = false
is_array_entry (Some (RefArray element)) = true
is_array_entry (Some (NumArray kind)) = true
is_array_entry None = false

-- the id names an array type; the library has none
abbrev pub names_array : List TypeEntry → ℕ → Bool
names_array types id = if nat_lt id first_own then false else is_array_entry (slice_get types (id - first_own))

-- the type of the elements, where they are references, else 0
abbrev pub element_entry : Option TypeEntry → ℕ
element_entry (Some (Class class)) = 0
element_entry (Some (RefArray element)) = element
element_entry (Some (NumArray kind)) = 0
element_entry None = 0

abbrev pub element_of : List TypeEntry → ℕ → ℕ
element_of types id = if nat_lt id first_own then 0 else element_entry (slice_get types (id - first_own))

-- the id names an array type of at least so many dimensions
unfoldable pub has_dimensions : List TypeEntry → ℕ → ℕ → Bool
has_dimensions types zero id = true
has_dimensions types (suc dimensions) id = names_array types id && has_dimensions types dimensions (element_of types id)

-- ---- instructions

-- what the instruction names is there
abbrev pub HasIds : Image → Method → MInsn → Type 0
HasIds image method (Load kind local) = HasLocal method kind local
HasIds image method (Store kind local) = HasLocal method kind local
HasIds image method (RClear local) = HasLocal method kind.Ref local
HasIds image method (Inc width local amount) = HasLocal method (kind_of width) local
HasIds image method (GetS kind place) = HasStatic image kind place
HasIds image method (PutS kind place) = HasStatic image kind place
HasIds image method (NewArr width id) = IsTrue (names_array image.types id)
HasIds image method (Multi id dimensions) = (1 ≤ dimensions) × IsTrue (has_dimensions image.types dimensions id)
HasIds image method (New id) = IsTrue (names_concrete image.types id)
HasIds image method (Cast id) = IsTrue (names_type image.types id)
HasIds image method (Inst id) = IsTrue (names_type image.types id)
HasIds image method (CallS id) = IsSome (signature_in image.methods id)
HasIds image method (CallX id) = TakesReceiver (signature_in image.methods id)
HasIds image method (CallV selector) = selector < length image.selectors
HasIds image method (CallI selector id) = (selector < length image.selectors) × IsTrue (names_interface image.types id)
HasIds image method _ = Unit {0}
