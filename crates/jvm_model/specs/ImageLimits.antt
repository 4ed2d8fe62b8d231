-- The limits of what an image numbers, in the order in which they are tested.
use Rattle.std.specs.Prelude.{ℕ, ◌+◌, nat_lt, if◌then◌else◌, List, [], ◌∷◌, map, length, Option, Some, None}
use Rattle.std.specs.List.{range_with_len}
use Rattle.std.specs.Option.{option_or}
use Rattle.library.specs.Classes.{first_own}
use Rattle.class_file.specs.declared.record.ClassFile.{ClassFile}
use Rattle.jvm_model.specs.declared.numbers.Layout.{Layout}
use Rattle.jvm_model.specs.ImageNumbering.{Numbering, layout_of}

-- the count of one kind is above its limit
abbrev pub excess : ℕ → ℕ → ℕ → Option (ℕ × ℕ)
excess what count limit = if nat_lt limit count then Some (what, count) else None

-- the cells of an object: two of its header, its references and its other cells
abbrev pub object_cells : Layout → ℕ
object_cells layout = 2 + layout.refs + layout.nums

-- the first object of more than 32,767 cells
unfoldable pub first_large : List Layout → Option (ℕ × ℕ)
first_large [] = None
first_large (layout ∷ layouts) = option_or (excess 7 (object_cells layout) 32767) (first_large layouts)

-- the layouts of the classes in the order of the files
abbrev pub file_layouts : List ClassFile → List Layout
file_layouts files = map (layout_of files) (range_with_len first_own (length files))

-- The first count above its limit, with what is counted: 2 types and 4 methods, the library's 32 with them, 3 selectors,
-- 5 static references, 6 static cells, 7 cells of an object.
abbrev pub first_excess : List ClassFile → Numbering → Option (ℕ × ℕ)
first_excess files numbering =
    option_or (excess 2 (first_own + length numbering.types) 4096)
    (option_or (excess 3 (length numbering.selectors) 16384)
    (option_or (excess 4 (first_own + length numbering.methods) 16384)
    (option_or (excess 5 numbering.static_refs 16384)
    (option_or (excess 6 (length numbering.static_cells) 16384)
    (first_large (file_layouts files))))))
