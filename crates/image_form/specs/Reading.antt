-- Reading as a function on lists: a part is a value and the bytes after it, or a refusal. Each rule is
-- tested when the last byte of the numbers that it speaks of was read.
use Rattle.std.specs.Prelude.{ℕ, suc, ◌+◌, ◌-◌, Bool, true, false, ◌&&◌, ◌||◌, not, ◌==◌, nat_lt, nat_le, if◌then◌else◌, List, [], ◌∷◌, length, take, drop, slice_get, Option, Some, None, Result, Ok, Err}
use Rattle.std.specs.Str.{bytes_eq}
use Rattle.std.specs.List.{list_any, list_all}
use Rattle.library.specs.Classes.{first_own}
use Rattle.byte_read.specs.Reading.{◌>>=◌, u1_at as byte_at, number_at, slice_at as bytes_at, steps_at, one_more}
use Rattle.image_instr.specs.declared.signature.Sig.{Sig}
use Rattle.image_form.specs.declared.record.Image.{Image}
use Rattle.image_form.specs.declared.record.TypeEntry.{TypeEntry}
use Rattle.image_form.specs.declared.record.TypeEntry.TheVariants.{Class, RefArray, NumArray}
use Rattle.image_form.specs.declared.record.ClassEntry.{ClassEntry}
use Rattle.image_form.specs.declared.record.DispatchRow.{DispatchRow}
use Rattle.image_form.specs.declared.record.Method.{Method}
use Rattle.image_form.specs.declared.record.HandlerEntry.{HandlerEntry}
use Rattle.image_form.specs.declared.refusal.FormRefusal.{FormRefusal}
use Rattle.image_form.specs.declared.refusal.FormRefusal.TheVariants.{NotInfusion, FormVersion, Truncated, TrailingBytes, BadTable}
use Rattle.image_form.specs.Format.{magic}
use Rattle.image_form.specs.Library.{signature, names_type, names_class, names_parent, names_interface, refs_of, nums_of, signature_in}
use Rattle.image_form.specs.Grammar.{is_above, is_ref_array, is_num_array, is_kind, most_types, most_methods}

-- ---- bytes, numbers and lists

-- a number of one byte
abbrev pub u1_at : List ℕ → Result (ℕ × List ℕ) FormRefusal
u1_at bytes = byte_at Truncated bytes

-- a number of two bytes
abbrev pub u2_at : List ℕ → Result (ℕ × List ℕ) FormRefusal
u2_at bytes = number_at Truncated 2 bytes

-- so many bytes
abbrev pub slice_at : ℕ → List ℕ → Result (List ℕ × List ℕ) FormRefusal
slice_at size bytes = bytes_at Truncated size bytes

-- a part whose value meets a test; else it is refused so
abbrev pub tested : {A : Type 0} → (A → Bool) → FormRefusal → Result (A × List ℕ) FormRefusal → Result (A × List ℕ) FormRefusal
tested test why read = read >>= λ part. if test part.0 then Ok part else Err why

-- so many items after those that were read, each read in the light of those before it
abbrev pub items_at : {A : Type 0} → (List A → List ℕ → Result (A × List ℕ) FormRefusal) → ℕ → List A → List ℕ → Result (List A × List ℕ) FormRefusal
items_at item_at room before bytes = steps_at (one_more item_at) before room bytes

-- ---- the refusals of the tables

abbrev pub in_types : ℕ → FormRefusal
in_types index = BadTable 0 index

abbrev pub in_selectors : ℕ → FormRefusal
in_selectors index = BadTable 1 index

abbrev pub in_methods : ℕ → FormRefusal
in_methods index = BadTable 2 index

abbrev pub in_statics : FormRefusal
in_statics = BadTable 3 0

abbrev pub in_main : FormRefusal
in_main = BadTable 4 0

-- ---- types

-- a direct superinterface of the class after these types
unfoldable pub interface_at : List TypeEntry → List ℕ → List ℕ → Result (ℕ × List ℕ) FormRefusal
interface_at types before bytes = tested (names_interface types) (in_types (length types)) (u2_at bytes)

-- the direct superinterfaces
unfoldable pub interfaces_at : List TypeEntry → List ℕ → Result (List ℕ × List ℕ) FormRefusal
interfaces_at types bytes = do
  count ← u2_at bytes
  items_at (interface_at types) count.0 [] count.1

-- a row of the class at this index, after the rows before it
unfoldable pub row_at : ℕ → List DispatchRow → List ℕ → Result (DispatchRow × List ℕ) FormRefusal
row_at index before bytes = do
  selector ← tested (is_above (slice_get before (length before - 1))) (in_types index) (u2_at bytes)
  method ← u2_at selector.1
  Ok (record { selector = selector.0; method = method.0 }, method.1)

-- the rows of a class with these flags; an interface or an abstract class has none
unfoldable pub rows_at : ℕ → ℕ → List ℕ → Result (List DispatchRow × List ℕ) FormRefusal
rows_at index flags bytes = do
  count ← tested (λ count. flags == 0 || count == 0) (in_types index) (u2_at bytes)
  items_at (row_at index) count.0 [] count.1

-- the length of a name, and the name
unfoldable pub name_at : List ℕ → Result (List ℕ × List ℕ) FormRefusal
name_at bytes = do
  size ← u2_at bytes
  slice_at size.0 size.1

-- the reference fields, as many as the parent's at least
abbrev pub refs_at : List TypeEntry → ℕ → List ℕ → Result (ℕ × List ℕ) FormRefusal
refs_at types parent bytes = tested (nat_le (refs_of types parent)) (in_types (length types)) (u2_at bytes)

-- the other cells, as many as the parent's at least, where an object has its header and all of them
abbrev pub nums_at : List TypeEntry → ℕ → ℕ → List ℕ → Result (ℕ × List ℕ) FormRefusal
nums_at types parent refs bytes =
    tested (λ nums. nat_le (nums_of types parent) nums && nat_le (2 + (refs + nums)) 32767) (in_types (length types)) (u2_at bytes)

-- the class after these types
unfoldable pub class_at : List TypeEntry → List ℕ → Result (ClassEntry × List ℕ) FormRefusal
class_at types bytes = do
  parent ← tested (names_parent types) (in_types (length types)) (u2_at bytes)
  flags ← tested (λ flags. nat_le flags 3) (in_types (length types)) (u1_at parent.1)
  refs ← refs_at types parent.0 flags.1
  nums ← nums_at types parent.0 refs.0 refs.1
  interfaces ← interfaces_at types nums.1
  rows ← rows_at (length types) flags.0 interfaces.1
  name ← name_at rows.1
  Ok (record { parent = parent.0; flags = flags.0; refs = refs.0; nums = nums.0; interfaces = interfaces.0; rows = rows.0; name = name.0 }, name.1)

-- the element of an array after these types, none of which is this array
unfoldable pub element_at : List TypeEntry → List ℕ → Result (ℕ × List ℕ) FormRefusal
element_at types bytes =
    tested (λ element. names_type types element && not (list_any (is_ref_array element) types)) (in_types (length types)) (u2_at bytes)

-- the kind of an array of whole numbers after these types, none of which is this array
unfoldable pub kind_at : List TypeEntry → List ℕ → Result (ℕ × List ℕ) FormRefusal
kind_at types bytes =
    tested (λ kind. is_kind kind && not (list_any (is_num_array kind) types)) (in_types (length types)) (u1_at bytes)

-- the type with this tag after these types
unfoldable pub tagged_at : List TypeEntry → ℕ → List ℕ → Result (TypeEntry × List ℕ) FormRefusal
tagged_at types tag bytes =
    if tag == 0 then (class_at types bytes >>= λ class. Ok (Class class.0, class.1))
    else (if tag == 1 then (element_at types bytes >>= λ element. Ok (RefArray element.0, element.1))
    else (if tag == 2 then (kind_at types bytes >>= λ kind. Ok (NumArray kind.0, kind.1))
    else Err (in_types (length types))))

-- the type after these types
unfoldable pub type_at : List TypeEntry → List ℕ → Result (TypeEntry × List ℕ) FormRefusal
type_at types bytes = do
  tag ← u1_at bytes
  tagged_at types tag.0 tag.1

-- the types
unfoldable pub types_at : List ℕ → Result (List TypeEntry × List ℕ) FormRefusal
types_at bytes = do
  count ← tested (λ count. nat_le count most_types) (in_types 0) (u2_at bytes)
  items_at type_at count.0 [] count.1

-- ---- selectors

-- the cells and the result of a signature, which is refused so
unfoldable pub signature_at : ℕ → FormRefusal → List ℕ → Result (Sig × List ℕ) FormRefusal
signature_at refs why bytes = do
  cells ← u2_at bytes
  result ← tested (λ result. nat_le result 3) why (u1_at cells.1)
  Ok (signature refs cells.0 result.0, result.1)

-- the selector after these selectors, with a receiver
unfoldable pub selector_at : List Sig → List ℕ → Result (Sig × List ℕ) FormRefusal
selector_at before bytes = do
  refs ← tested (nat_le 1) (in_selectors (length before)) (u1_at bytes)
  signature_at refs.0 (in_selectors (length before)) refs.1

-- the selectors
unfoldable pub selectors_at : List ℕ → Result (List Sig × List ℕ) FormRefusal
selectors_at bytes = do
  count ← tested (λ count. nat_le count 16384) (in_selectors 0) (u2_at bytes)
  items_at selector_at count.0 [] count.1

-- ---- methods

-- a handler of the method at this index; 65,535 stands for any class
unfoldable pub handler_at : List TypeEntry → ℕ → List HandlerEntry → List ℕ → Result (HandlerEntry × List ℕ) FormRefusal
handler_at types index before bytes = do
  start ← u2_at bytes
  end ← u2_at start.1
  target ← u2_at end.1
  class ← tested (λ class. class == 65535 || names_class types class) (in_methods index) (u2_at target.1)
  Ok (record { start = start.0; end = end.0; target = target.0; class = class.0 }, class.1)

-- the handlers of the method at this index
unfoldable pub handlers_at : List TypeEntry → ℕ → List ℕ → Result (List HandlerEntry × List ℕ) FormRefusal
handlers_at types index bytes = do
  count ← u2_at bytes
  items_at (handler_at types index) count.0 [] count.1

-- the length of the code, which is not 0, and the code
unfoldable pub code_at : ℕ → List ℕ → Result (List ℕ × List ℕ) FormRefusal
code_at index bytes = do
  size ← tested (nat_le 1) (in_methods index) (u2_at bytes)
  slice_at size.0 size.1

-- the locals and the body of a frame, for arguments of this signature
unfoldable pub frame_at : ℕ → Sig → List ℕ → Result ((ℕ × ℕ × ℕ) × List ℕ) FormRefusal
frame_at index sig bytes = do
  ref_locals ← tested (nat_le sig.refs) (in_methods index) (u2_at bytes)
  cell_locals ← tested (nat_le sig.cells) (in_methods index) (u2_at ref_locals.1)
  body ← tested (λ body. nat_le (ref_locals.0 + cell_locals.0) body && nat_le body 32763) (in_methods index) (u2_at cell_locals.1)
  Ok ((ref_locals.0, cell_locals.0, body.0), body.1)

-- the method after these methods, over these types
unfoldable pub method_at : List TypeEntry → List Method → List ℕ → Result (Method × List ℕ) FormRefusal
method_at types before bytes = do
  refs ← u1_at bytes
  sig ← signature_at refs.0 (in_methods (length before)) refs.1
  frame ← frame_at (length before) sig.0 sig.1
  code ← code_at (length before) frame.1
  handlers ← handlers_at types (length before) code.1
  Ok (record { sig = sig.0; ref_locals = frame.0.0; cell_locals = frame.0.1; body = frame.0.2; code = code.0; handlers = handlers.0 }, handlers.1)

-- the methods
unfoldable pub methods_at : List TypeEntry → List ℕ → Result (List Method × List ℕ) FormRefusal
methods_at types bytes = do
  count ← tested (λ count. nat_le count most_methods) (in_methods 0) (u2_at bytes)
  items_at (method_at types) count.0 [] count.1

-- ---- statics and main

-- how many statics are references
unfoldable pub static_refs_at : List ℕ → Result (ℕ × List ℕ) FormRefusal
static_refs_at bytes = tested (λ count. nat_le count 16384) in_statics (u2_at bytes)

-- an initial cell
unfoldable pub cell_at : List ℕ → List ℕ → Result (ℕ × List ℕ) FormRefusal
cell_at before bytes = u2_at bytes

-- the initial cells
unfoldable pub static_cells_at : List ℕ → Result (List ℕ × List ℕ) FormRefusal
static_cells_at bytes = do
  count ← tested (λ count. nat_le count 16384) in_statics (u2_at bytes)
  items_at cell_at count.0 [] count.1

-- the method is there and has neither arguments nor a result
abbrev pub is_bare : Option Method → Bool
is_bare (Some method) = method.sig.refs == 0 && (method.sig.cells == 0 && method.sig.result == 0)
is_bare None = false

-- the id is that of a method that may be main
abbrev pub names_main : List Method → ℕ → Bool
names_main methods id = if nat_lt id first_own then false else is_bare (slice_get methods (id - first_own))

-- the id of main
unfoldable pub main_at : List Method → List ℕ → Result (ℕ × List ℕ) FormRefusal
main_at methods bytes = tested (names_main methods) in_main (u2_at bytes)

-- ---- the rows' signatures, which are tested after main

-- the two are there and are one signature
abbrev pub is_one_signature : Option Sig → Option Sig → Bool
is_one_signature (Some first) (Some second) = first.refs == second.refs && (first.cells == second.cells && first.result == second.result)
is_one_signature (Some first) None = false
is_one_signature None other = false

-- the row's selector and its method have one signature
abbrev pub is_matched : List Sig → List Method → DispatchRow → Bool
is_matched selectors methods row = is_one_signature (slice_get selectors row.selector) (signature_in methods row.method)

-- all rows of the entry are matched
abbrev pub is_entry_matched : List Sig → List Method → TypeEntry → Bool
is_entry_matched selectors methods (Class class) = list_all (is_matched selectors methods) class.rows
is_entry_matched selectors methods (RefArray element) = true
is_entry_matched selectors methods (NumArray kind) = true

-- the index, counted from this one on, of the first entry with a row that is not matched
unfoldable pub first_unmatched : List Sig → List Method → ℕ → List TypeEntry → Option ℕ
first_unmatched selectors methods index [] = None
first_unmatched selectors methods index (entry ∷ entries) =
    if is_entry_matched selectors methods entry then first_unmatched selectors methods (suc index) entries else Some index

-- ---- the whole

-- the parts after the version
unfoldable pub parts_at : List ℕ → Result (Image × List ℕ) FormRefusal
parts_at bytes = do
  types ← types_at bytes
  selectors ← selectors_at types.1
  methods ← methods_at types.0 selectors.1
  static_refs ← static_refs_at methods.1
  static_cells ← static_cells_at static_refs.1
  main ← main_at methods.0 static_cells.1
  Ok (record { version = 1; types = types.0; selectors = selectors.0; methods = methods.0; static_refs = static_refs.0; static_cells = static_cells.0; main = main.0 }, main.1)

-- an image and the bytes after it, where all rows are matched
abbrev pub matched : Option ℕ → Image × List ℕ → Result (Image × List ℕ) FormRefusal
matched None part = Ok part
matched (Some index) part = Err (in_types index)

-- the image with these bytes after the version, all of them
unfoldable pub whole_of : List ℕ → Result Image FormRefusal
whole_of bytes = do
  part ← parts_at bytes
  image ← matched (first_unmatched part.0.selectors part.0.methods 0 part.0.types) part
  if length image.1 == 0 then Ok image.0 else Err TrailingBytes

-- the version, which is 1
unfoldable pub version_at : List ℕ → Result (ℕ × List ℕ) FormRefusal
version_at bytes = do
  version ← u2_at bytes
  if version.0 == 1 then Ok version else Err (FormVersion version.0)

-- the image with these bytes after the first four
unfoldable pub versioned : List ℕ → Result Image FormRefusal
versioned bytes = do
  version ← u2_at bytes
  if version.0 == 1 then whole_of version.1 else Err (FormVersion version.0)

-- the magic and the version
unfoldable pub start_of : List ℕ → Result (ℕ × List ℕ) FormRefusal
start_of bytes = if bytes_eq (take 4 bytes) magic then version_at (drop 4 bytes) else Err NotInfusion

-- the image, or the first rule that the bytes fail
unfoldable pub image_of : List ℕ → Result Image FormRefusal
image_of bytes = if bytes_eq (take 4 bytes) magic then versioned (drop 4 bytes) else Err NotInfusion
