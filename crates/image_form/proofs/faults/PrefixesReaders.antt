-- Each part of an infusion is read by the prefix: what is read, and a rule that fails, stand whatever
-- follows.
use Rattle.std.proofs.Common.{ℕ, ◌+◌, ◌-◌, ◌&&◌, ◌||◌, not, cond, leb, eqb, List, [], length, Option, Some, None, Err}
use Rattle.std.specs.Prelude.{slice_get}
use Rattle.std.specs.List.{list_any}
use Rattle.image_instr.specs.declared.signature.Sig.{Sig}
use Rattle.image_form.specs.declared.record.Image.{Image}
use Rattle.image_form.specs.declared.record.TypeEntry.{TypeEntry}
use Rattle.image_form.specs.declared.record.TypeEntry.TheVariants.{Class, RefArray, NumArray}
use Rattle.image_form.specs.declared.record.DispatchRow.{DispatchRow}
use Rattle.image_form.specs.declared.record.Method.{Method}
use Rattle.image_form.specs.declared.record.HandlerEntry.{HandlerEntry}
use Rattle.image_form.specs.declared.refusal.FormRefusal.{FormRefusal}
use Rattle.image_form.specs.declared.refusal.FormRefusal.TheVariants.{FormVersion, Truncated}
use Rattle.image_form.specs.Library.{signature, names_type, names_class, names_parent, names_interface, refs_of, nums_of}
use Rattle.image_form.specs.Grammar.{is_above, is_ref_array, is_num_array, is_kind, most_types, most_methods}
use Rattle.byte_read.specs.Reading.{◌>>=◌}
use Rattle.image_form.specs.Reading.{u2_at, tested, items_at, in_types, in_selectors, in_methods, in_statics, in_main, interface_at, interfaces_at, row_at, rows_at, name_at, refs_at, nums_at, class_at, element_at, kind_at, tagged_at, type_at, types_at, signature_at, selector_at, selectors_at, handler_at, handlers_at, code_at, frame_at, method_at, methods_at, static_refs_at, cell_at, static_cells_at, names_main, main_at, parts_at, matched}
use Rattle.byte_read.proofs.Steady.{IsSteady as IsSteadyWith, done, failing, either, first, last, tested as tested_steady, u1_steady, number_steady, slice_steady, steps_steady, one_more_steady}
use Rattle.image_form.proofs.format.Readers.{Reader}
use Rattle.image_form.proofs.format.ImageParts.{unmatched_in, match_rows}

-- ---- bytes, numbers and lists

abbrev pub IsSteady : {A : Type 0} → Reader A → Type 0
IsSteady read = IsSteadyWith Truncated read

items_steady : {A : Type 0} {item_at : List A → Reader A} → ((before : List A) → IsSteady (item_at before)) → (room : ℕ) (before : List A) → IsSteady (items_at item_at room before)
items_steady one room before = steps_steady (one_more_steady one) before room

-- so many items after their count
counted_steady : {A : Type 0} {count_at : Reader ℕ} {item_at : List A → Reader A} → IsSteady count_at → ((before : List A) → IsSteady (item_at before)) → IsSteady (λ bytes. count_at bytes >>= λ count. items_at item_at count.0 [] count.1)
counted_steady counts one = first counts (λ count. items_steady one count [])

-- a count of at most so many
pub most_steady : (most : ℕ) (why : FormRefusal) → IsSteady (λ bytes. tested (λ count. leb count most) why (u2_at bytes))
most_steady most why = tested_steady (number_steady 2) (λ count. leb count most) why

-- ---- types

interface_steady : (types : List TypeEntry) (before : List ℕ) → IsSteady (interface_at types before)
unfolding interface_at
interface_steady types before = tested_steady (number_steady 2) (names_interface types) (in_types (length types))

interfaces_steady : (types : List TypeEntry) → IsSteady (interfaces_at types)
unfolding interfaces_at
interfaces_steady types = counted_steady (number_steady 2) (interface_steady types)

row_steady : (index : ℕ) (before : List DispatchRow) → IsSteady (row_at index before)
unfolding row_at
row_steady index before =
    first (tested_steady (number_steady 2) (is_above (slice_get before (length before - 1))) (in_types index)) (λ selector. last (number_steady 2) (λ method. record { selector = selector; method = method }))

rows_steady : (index flags : ℕ) → IsSteady (rows_at index flags)
unfolding rows_at
rows_steady index flags = counted_steady (tested_steady (number_steady 2) (λ count. eqb flags 0 || eqb count 0) (in_types index)) (row_steady index)

name_steady : IsSteady name_at
unfolding name_at
name_steady = first (number_steady 2) slice_steady

refs_steady : (types : List TypeEntry) (parent : ℕ) → IsSteady (refs_at types parent)
refs_steady types parent = tested_steady (number_steady 2) (leb (refs_of types parent)) (in_types (length types))

nums_steady : (types : List TypeEntry) (parent refs : ℕ) → IsSteady (nums_at types parent refs)
nums_steady types parent refs =
    tested_steady (number_steady 2) (λ nums. leb (nums_of types parent) nums && leb (2 + (refs + nums)) 32767) (in_types (length types))

class_steady : (types : List TypeEntry) → IsSteady (class_at types)
unfolding class_at
class_steady types =
    first (tested_steady (number_steady 2) (names_parent types) (in_types (length types))) (λ parent.
    first (tested_steady u1_steady (λ flags. leb flags 3) (in_types (length types))) (λ flags.
    first (refs_steady types parent) (λ refs.
    first (nums_steady types parent refs) (λ nums.
    first (interfaces_steady types) (λ interfaces.
    first (rows_steady (length types) flags) (λ rows.
    last name_steady (λ name. record { parent = parent; flags = flags; refs = refs; nums = nums; interfaces = interfaces; rows = rows; name = name })))))))

element_steady : (types : List TypeEntry) → IsSteady (element_at types)
unfolding element_at
element_steady types = tested_steady (number_steady 2) (λ element. names_type types element && not (list_any (is_ref_array element) types)) (in_types (length types))

kind_steady : (types : List TypeEntry) → IsSteady (kind_at types)
unfolding kind_at
kind_steady types = tested_steady u1_steady (λ kind. is_kind kind && not (list_any (is_num_array kind) types)) (in_types (length types))

tagged_type_steady : (types : List TypeEntry) (tag : ℕ) → IsSteady (tagged_at types tag)
unfolding tagged_at
tagged_type_steady types tag =
    either (eqb tag 0) (last (class_steady types) (λ class. Class class))
    (either (eqb tag 1) (last (element_steady types) (λ element. RefArray element))
    (either (eqb tag 2) (last (kind_steady types) (λ kind. NumArray kind)) (failing (in_types (length types)))))

pub type_steady : (types : List TypeEntry) → IsSteady (type_at types)
unfolding type_at
type_steady types = first u1_steady (tagged_type_steady types)

types_steady : IsSteady types_at
unfolding types_at
types_steady = counted_steady (most_steady most_types (in_types 0)) type_steady

-- ---- selectors and methods

signature_steady : (refs : ℕ) (why : FormRefusal) → IsSteady (signature_at refs why)
unfolding signature_at
signature_steady refs why = first (number_steady 2) (λ cells. last (tested_steady u1_steady (λ result. leb result 3) why) (λ result. signature refs cells result))

pub selector_steady : (before : List Sig) → IsSteady (selector_at before)
unfolding selector_at
selector_steady before =
    first (tested_steady u1_steady (leb 1) (in_selectors (length before))) (λ refs. signature_steady refs (in_selectors (length before)))

selectors_steady : IsSteady selectors_at
unfolding selectors_at
selectors_steady = counted_steady (most_steady 16384 (in_selectors 0)) selector_steady

handler_steady : (types : List TypeEntry) (index : ℕ) (before : List HandlerEntry) → IsSteady (handler_at types index before)
unfolding handler_at
handler_steady types index before =
    first (number_steady 2) (λ start. first (number_steady 2) (λ end. first (number_steady 2) (λ target.
    last (tested_steady (number_steady 2) (λ class. eqb class 65535 || names_class types class) (in_methods index)) (λ class. record { start = start; end = end; target = target; class = class }))))

handlers_steady : (types : List TypeEntry) (index : ℕ) → IsSteady (handlers_at types index)
unfolding handlers_at
handlers_steady types index = counted_steady (number_steady 2) (handler_steady types index)

code_steady : (index : ℕ) → IsSteady (code_at index)
unfolding code_at
code_steady index = first (tested_steady (number_steady 2) (leb 1) (in_methods index)) slice_steady

frame_steady : (index : ℕ) (sig : Sig) → IsSteady (frame_at index sig)
unfolding frame_at
frame_steady index sig =
    first (tested_steady (number_steady 2) (leb sig.refs) (in_methods index)) (λ ref_locals.
    first (tested_steady (number_steady 2) (leb sig.cells) (in_methods index)) (λ cell_locals.
    last (tested_steady (number_steady 2) (λ body. leb (ref_locals + cell_locals) body && leb body 32763) (in_methods index)) (λ body. (ref_locals, cell_locals, body))))

pub method_steady : (types : List TypeEntry) (before : List Method) → IsSteady (method_at types before)
unfolding method_at
method_steady types before =
    first u1_steady (λ refs.
    first (signature_steady refs (in_methods (length before))) (λ sig.
    first (frame_steady (length before) sig) (λ frame.
    first (code_steady (length before)) (λ code.
    last (handlers_steady types (length before)) (λ handlers.
    record { sig = sig; ref_locals = frame.0; cell_locals = frame.1; body = frame.2; code = code; handlers = handlers })))))

methods_steady : (types : List TypeEntry) → IsSteady (methods_at types)
unfolding methods_at
methods_steady types = counted_steady (most_steady most_methods (in_methods 0)) (method_steady types)

-- ---- statics and main

pub static_refs_steady : IsSteady static_refs_at
unfolding static_refs_at
static_refs_steady = most_steady 16384 in_statics

cell_steady : (before : List ℕ) → IsSteady (cell_at before)
unfolding cell_at
cell_steady before = (number_steady 2)

static_cells_steady : IsSteady static_cells_at
unfolding static_cells_at
static_cells_steady = counted_steady (most_steady 16384 in_statics) cell_steady

pub main_steady : (methods : List Method) → IsSteady (main_at methods)
unfolding main_at
main_steady methods = tested_steady (number_steady 2) (names_main methods) in_main

-- ---- the whole

parts_steady : IsSteady parts_at
unfolding parts_at
parts_steady =
    first types_steady (λ types.
    first selectors_steady (λ selectors.
    first (methods_steady types) (λ methods.
    first static_refs_steady (λ static_refs.
    first static_cells_steady (λ static_cells.
    last (main_steady methods) (λ main.
    record { version = 1; types = types; selectors = selectors; methods = methods; static_refs = static_refs; static_cells = static_cells; main = main }))))))

matched_steady : (image : Image) (place : Option ℕ) → IsSteady (λ bytes. matched place (image, bytes))
matched_steady image None = done image
matched_steady image (Some index) = failing (in_types index)

-- what persists between the magic and the end
abbrev pub all_parts : Reader Image
all_parts bytes = u2_at bytes >>= λ version. cond (eqb version.0 1) (parts_at version.1 >>= match_rows) (Err (FormVersion version.0))

pub all_steady : IsSteady all_parts
all_steady = first (number_steady 2) (λ version. either (eqb version 1) (first parts_steady (λ image. matched_steady image (unmatched_in image))) (failing (FormVersion version)))
