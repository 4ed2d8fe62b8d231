-- Reading fields and methods (JVMS 4.5 to 4.7). Each rule is tested where its last byte was read.
use Rattle.std.specs.Prelude.{ℕ, Bool, ◌&&◌, ◌||◌, not, ◌==◌, if◌then◌else◌, List, length, Option, Some, None, option_and_then, is_some, Result, Ok, Err, codes}
use Rattle.std.specs.List.{list_any}
use Rattle.byteorder.specs.Endian.{big_number}
use Rattle.class_pool.specs.declared.descriptor.Kind.{Kind}
use Rattle.class_pool.specs.declared.descriptor.Descriptor.{Descriptor}
use Rattle.class_pool.specs.Pool.{Slots, utf8_at, is_utf8_at}
use Rattle.class_pool.specs.DescriptorReading.{field_of, method_of}
use Rattle.class_file.specs.declared.head.Head.{Head}
use Rattle.class_file.specs.declared.record.CodeAttr.{CodeAttr}
use Rattle.class_file.specs.declared.record.HandlerRow.{HandlerRow}
use Rattle.class_file.specs.declared.record.Member.{Member}
use Rattle.class_file.specs.declared.refusal.ReadRefusal.{ReadRefusal}
use Rattle.class_file.specs.declared.refusal.ReadRefusal.TheVariants.{BadShape, BadDescriptor, Memory}
use Rattle.class_file.specs.Rules.{is_native, is_abstract, is_named, has_one_access, fits_interface_field, fits_interface_method, fits_abstract, fits_special_name, fits_constructor, fits_initialiser, fits_slots, is_same_member, is_code_size, is_handler}
use Rattle.byte_read.specs.Reading.{◌>>=◌}
use Rattle.class_file.specs.Reading.{u2_at, u4_at, slice_at, counted_at, list_at}

-- ---- attributes as such (JVMS 4.7)

-- the index of a text
unfoldable pub text_at : Slots → List ℕ → Result (ℕ × List ℕ) ReadRefusal
text_at pool bytes = do
  index ← u2_at bytes
  if is_utf8_at pool index.0 then Ok index else Err BadShape

-- a length in four bytes, and so many bytes
unfoldable pub info_at : List ℕ → Result (List ℕ × List ℕ) ReadRefusal
info_at bytes = do
  size ← u4_at bytes
  slice_at size.0 size.1

-- an attribute of which only the name is asked
unfoldable pub skip_at : Slots → List ℕ → Result (List ℕ) ReadRefusal
skip_at pool bytes = do
  name ← text_at pool bytes
  info ← info_at name.1
  Ok info.1

-- a count, and so many such attributes
abbrev pub skipped : Slots → Unit {0} → List ℕ → Result (Unit {0} × List ℕ) ReadRefusal
skipped pool before bytes = skip_at pool bytes >>= λ rest. Ok (tt, rest)

unfoldable pub skip_all_at : Slots → List ℕ → Result (List ℕ) ReadRefusal
skip_all_at pool bytes = counted_at (skipped pool) tt bytes >>= λ done. Ok done.1

-- ---- Code (JVMS 4.7.3)

unfoldable pub handler_at : Slots → ℕ → List ℕ → Result (HandlerRow × List ℕ) ReadRefusal
handler_at pool size bytes = do
  start ← u2_at bytes
  end ← u2_at start.1
  target ← u2_at end.1
  catch_type ← u2_at target.1
  let row : HandlerRow = record { start = start.0; end = end.0; target = target.0; catch_type = catch_type.0 } in
      if is_handler pool size row then Ok (row, catch_type.1) else Err BadShape

unfoldable pub handlers_at : Slots → ℕ → List ℕ → Result (List HandlerRow × List ℕ) ReadRefusal
handlers_at pool size bytes = list_at (λ earlier rest. handler_at pool size rest) bytes

-- a length in four bytes, and the code
unfoldable pub code_bytes_at : List ℕ → Result (List ℕ × List ℕ) ReadRefusal
code_bytes_at bytes = do
  size ← u4_at bytes
  if is_code_size size.0 then slice_at size.0 size.1 else Err BadShape

-- the parts of Code, which fill its bytes
unfoldable pub code_parts : Slots → List ℕ → Result CodeAttr ReadRefusal
code_parts pool bytes = do
  max_stack ← u2_at bytes
  max_locals ← u2_at max_stack.1
  code ← code_bytes_at max_locals.1
  handlers ← handlers_at pool (length code.0) code.1
  rest ← skip_all_at pool handlers.1
  if length rest == 0 then Ok (record { max_stack = max_stack.0; max_locals = max_locals.0; code = code.0; handlers = handlers.0 }) else Err BadShape

-- inside Code each fault is one of the shape; want of memory stays what it is
abbrev pub in_code : ReadRefusal → ReadRefusal
in_code Memory = Memory
in_code _ = BadShape

-- inside Code a part that is cut off is a fault of the shape
abbrev pub as_shape : {A : Type 0} → Result A ReadRefusal → Result A ReadRefusal
as_shape (Ok x) = Ok x
as_shape (Err why) = Err BadShape

-- what follows the name Code
unfoldable pub code_at : Slots → List ℕ → Result (CodeAttr × List ℕ) ReadRefusal
code_at pool bytes = do
  info ← info_at bytes
  code ← as_shape (code_parts pool info.0)
  Ok (code, info.1)

-- ---- attributes of members

-- what follows the name ConstantValue (JVMS 4.7.2)
unfoldable pub value_at : List ℕ → Result (ℕ × List ℕ) ReadRefusal
value_at bytes = do
  info ← info_at bytes
  if length info.0 == 2 then Ok (big_number 2 info.0, info.1) else Err BadShape

-- an attribute of a field, after others of which one may have been ConstantValue
unfoldable pub field_attribute_at : Slots → Option ℕ → List ℕ → Result (Option ℕ × List ℕ) ReadRefusal
field_attribute_at pool found bytes = do
  name ← text_at pool bytes
  if is_named (codes "ConstantValue") (utf8_at pool name.0)
      then (if is_some found then Err BadShape else (value_at name.1 >>= λ value. Ok (Some value.0, value.1)))
      else (info_at name.1 >>= λ info. Ok (found, info.1))

-- an attribute of a method, after others of which one may have been Code
unfoldable pub method_attribute_at : Slots → Bool → Option CodeAttr → List ℕ → Result (Option CodeAttr × List ℕ) ReadRefusal
method_attribute_at pool abstract found bytes = do
  name ← text_at pool bytes
  if is_named (codes "Code") (utf8_at pool name.0)
      then (if abstract || is_some found then Err BadShape else (code_at pool name.1 >>= λ code. Ok (Some code.0, code.1)))
      else (info_at name.1 >>= λ info. Ok (found, info.1))

unfoldable pub field_attributes_at : Slots → List ℕ → Result (Option ℕ × List ℕ) ReadRefusal
field_attributes_at pool bytes = counted_at (field_attribute_at pool) None bytes

-- Code is missing on no method but an abstract one
unfoldable pub method_attributes_at : Slots → Bool → List ℕ → Result (Option CodeAttr × List ℕ) ReadRefusal
method_attributes_at pool abstract bytes = do
  code ← counted_at (method_attribute_at pool abstract) None bytes
  if abstract || is_some code.0 then Ok code else Err BadShape

-- ---- fields and methods (JVMS 4.5, 4.6)

-- flags, name and descriptor
unfoldable pub head_at : Slots → List ℕ → Result (Head × List ℕ) ReadRefusal
head_at pool bytes = do
  flags ← u2_at bytes
  name ← text_at pool flags.1
  descriptor ← text_at pool name.1
  Ok (record { flags = flags.0; name = name.0; descriptor = descriptor.0 }, descriptor.1)

-- what the descriptor at an index says
abbrev pub described : {A : Type 0} → ℕ → Option A → Result A ReadRefusal
described index None = Err (BadDescriptor index)
described index (Some type) = Ok type

unfoldable pub field_type : Slots → ℕ → Result Kind ReadRefusal
field_type pool index = described index (option_and_then field_of (utf8_at pool index))

unfoldable pub method_type : Slots → ℕ → Result Descriptor ReadRefusal
method_type pool index = described index (option_and_then method_of (utf8_at pool index))

abbrev pub head_in : Member → Head
head_in m = record { flags = m.flags; name = m.name; descriptor = m.descriptor }

-- a member of the same name and descriptor stands among these
unfoldable pub is_declared : Slots → List Member → Head → Bool
is_declared pool earlier head = list_any (λ other. is_same_member pool (head_in other) head) earlier

-- the rules of a field's flags
abbrev pub is_field_head : ℕ → Head → Bool
is_field_head class_flags head = has_one_access head.flags && fits_interface_field class_flags head.flags

-- the rules of a method's flags, name and descriptor
abbrev pub is_method_head : ℕ → Slots → Head → Descriptor → Bool
is_method_head class_flags pool head type =
    (has_one_access head.flags && (fits_interface_method class_flags pool head && not (is_native head.flags)))
    && ((fits_abstract pool head && fits_special_name pool head)
    && (fits_constructor pool head type && (fits_initialiser pool head && fits_slots pool head type)))

-- flags, name and descriptor of a field, by the rules
unfoldable pub field_head_at : ℕ → Slots → List Member → List ℕ → Result (Head × List ℕ) ReadRefusal
field_head_at class_flags pool earlier bytes = do
  head ← head_at pool bytes
  type ← field_type pool head.0.descriptor
  if is_field_head class_flags head.0 && not (is_declared pool earlier head.0) then Ok head else Err BadShape

-- flags, name and descriptor of a method, by the rules
unfoldable pub method_head_at : ℕ → Slots → List Member → List ℕ → Result (Head × List ℕ) ReadRefusal
method_head_at class_flags pool earlier bytes = do
  head ← head_at pool bytes
  type ← method_type pool head.0.descriptor
  if is_method_head class_flags pool head.0 type && not (is_declared pool earlier head.0) then Ok head else Err BadShape

-- a field of a class with these flags, after these
unfoldable pub field_at : ℕ → Slots → List Member → List ℕ → Result (Member × List ℕ) ReadRefusal
field_at class_flags pool earlier bytes = do
  head ← field_head_at class_flags pool earlier bytes
  value ← field_attributes_at pool head.1
  Ok (record { flags = head.0.flags; name = head.0.name; descriptor = head.0.descriptor; constant = value.0; code = None }, value.1)

-- a method of a class with these flags, after these
unfoldable pub method_at : ℕ → Slots → List Member → List ℕ → Result (Member × List ℕ) ReadRefusal
method_at class_flags pool earlier bytes = do
  head ← method_head_at class_flags pool earlier bytes
  code ← method_attributes_at pool (is_abstract head.0.flags) head.1
  Ok (record { flags = head.0.flags; name = head.0.name; descriptor = head.0.descriptor; constant = None; code = code.0 }, code.1)

unfoldable pub fields_at : ℕ → Slots → List ℕ → Result (List Member × List ℕ) ReadRefusal
fields_at class_flags pool bytes = list_at (field_at class_flags pool) bytes

unfoldable pub methods_at : ℕ → Slots → List ℕ → Result (List Member × List ℕ) ReadRefusal
methods_at class_flags pool bytes = list_at (method_at class_flags pool) bytes
