-- How large objects are, and which counts are above their limits.
use Rattle.std.specs.Prelude.{◌≡◌, ◌⊎◌, ℕ, ◌+◌, if◌then◌else◌, List, filter, length, Option, Some, option_map}
use Rattle.std.specs.List.{flat_map}
use Rattle.std.specs.Option.{option_or}
use Rattle.class_pool.specs.Pool.{Slots}
use Rattle.class_file.specs.Rules.{is_static}
use Rattle.class_file.specs.declared.record.ClassFile.{ClassFile}
use Rattle.class_file.specs.declared.record.Member.{Member}
use Rattle.jvm_model.specs.declared.numbers.Layout.{Layout}
use Rattle.jvm_model.specs.ImageLimits.{excess, first_large, file_layouts}
use Rattle.jvm_model.specs.InitialStatics.{kind_of}
use Rattle.jvm_model.specs.ImageNumbering.{initial_cells, is_reference_field, is_number_field, static_fields}
use Rattle.body_form.specs.declared.body.Body.{Body}
use Rattle.infuse_ids.specs.Orders.{methods_over, selectors_over, types_over}
use Rattle.infuse_ids.specs.Places.{with_kind}
use Rattle.infuse_ids.specs.declared.refusal.IdsRefusal.{IdsRefusal}
use Rattle.infuse_ids.specs.declared.refusal.IdsRefusal.TheVariants.{TooMany, Memory}
use Rattle.infuse_ids.specs.declared.sizes.Sizes.{Sizes}

-- sizes before limits are tested, as a layout
abbrev pub sized : Sizes → Layout
sized sizes = record { refs = sizes.refs; nums = sizes.nums }

-- a field is counted, where it is one of objects
abbrev pub with_member : Slots → Layout → Member → Layout
with_member pool counts field = if is_static field.flags then counts else with_kind (kind_of pool field) counts

-- ---- refusals

-- the refusal of a count of one kind
abbrev pub refusal_of : ℕ × ℕ → IdsRefusal
refusal_of found = TooMany found.0 found.1

-- there was no memory, or the refusal is that of this count above its limit
abbrev pub RefusesFor : Option (ℕ × ℕ) → IdsRefusal → Type 0
RefusesFor found why = (why ≡ Memory) ⊎ (option_map refusal_of found ≡ Some why)

-- the static references, or the cells of the other statics, are too many
abbrev pub static_excess : List ClassFile → Option (ℕ × ℕ)
static_excess files =
    option_or (excess 5 (length (filter is_reference_field (static_fields files))) 16384)
    (excess 6 (length (flat_map (initial_cells files) (filter is_number_field (static_fields files)))) 16384)

-- those, or the cells of an object
abbrev pub field_excess : List ClassFile → Option (ℕ × ℕ)
field_excess files = option_or (static_excess files) (first_large (file_layouts files))

-- the types, the selectors or the methods are too many
abbrev pub list_excess : List ClassFile → List ℕ → List Body → Option (ℕ × ℕ)
list_excess files order bodies =
    option_or (excess 2 (32 + length (types_over order bodies)) 4096)
    (option_or (excess 3 (length (selectors_over files order)) 16384) (excess 4 (32 + length (methods_over order bodies)) 16384))
