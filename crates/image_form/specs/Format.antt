-- The bytes of an infusion of version 1: the parts of an image in the order of the file. Each list
-- follows its count.
use Rattle.std.specs.Prelude.{ℕ, List, [], ◌∷◌, ◌++◌, length}
use Rattle.std.specs.List.{flat_map}
use Rattle.image_instr.specs.Insn.{u2}
use Rattle.image_instr.specs.declared.signature.Sig.{Sig}
use Rattle.image_form.specs.declared.record.Image.{Image}
use Rattle.image_form.specs.declared.record.TypeEntry.{TypeEntry}
use Rattle.image_form.specs.declared.record.TypeEntry.TheVariants.{Class, RefArray, NumArray}
use Rattle.image_form.specs.declared.record.ClassEntry.{ClassEntry}
use Rattle.image_form.specs.declared.record.DispatchRow.{DispatchRow}
use Rattle.image_form.specs.declared.record.Method.{Method}
use Rattle.image_form.specs.declared.record.HandlerEntry.{HandlerEntry}

-- the first four bytes of an infusion
abbrev pub magic : List ℕ
magic = 0x44 ∷ 0x4a ∷ 0x49 ∷ 0x4e ∷ []

-- a count in two bytes, and the bytes of each item
abbrev pub counted : {A : Type 0} → (A → List ℕ) → List A → List ℕ
counted item_bytes items = u2 (length items) ++ flat_map item_bytes items

abbrev pub row_bytes : DispatchRow → List ℕ
row_bytes row = u2 row.selector ++ u2 row.method

abbrev pub class_bytes : ClassEntry → List ℕ
class_bytes class =
    u2 class.parent ++ (class.flags ∷ (u2 class.refs ++ (u2 class.nums ++ (counted u2 class.interfaces ++ (counted row_bytes class.rows ++ (u2 (length class.name) ++ class.name))))))

-- a type, after its tag
abbrev pub type_bytes : TypeEntry → List ℕ
type_bytes (Class class) = 0 ∷ class_bytes class
type_bytes (RefArray element) = 1 ∷ u2 element
type_bytes (NumArray kind) = 2 ∷ kind ∷ []

abbrev pub sig_bytes : Sig → List ℕ
sig_bytes sig = sig.refs ∷ (u2 sig.cells ++ sig.result ∷ [])

abbrev pub handler_bytes : HandlerEntry → List ℕ
handler_bytes handler = u2 handler.start ++ (u2 handler.end ++ (u2 handler.target ++ u2 handler.class))

abbrev pub method_bytes : Method → List ℕ
method_bytes method =
    sig_bytes method.sig ++ (u2 method.ref_locals ++ (u2 method.cell_locals ++ (u2 method.body ++ (u2 (length method.code) ++ (method.code ++ counted handler_bytes method.handlers)))))

-- the bytes of an image: header, types, selectors, methods, statics and main
abbrev pub encoding : Image → List ℕ
encoding image =
    magic ++ (u2 image.version ++ (counted type_bytes image.types ++ (counted sig_bytes image.selectors ++ (counted method_bytes image.methods ++ (u2 image.static_refs ++ (counted u2 image.static_cells ++ u2 image.main))))))
