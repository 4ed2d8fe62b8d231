-- In a body whose whole numbers have two cells each, the shapes of operands are those of their types, and where one frame is
-- above another, the operands of both have the same shapes.
use Rattle.std.proofs.Common.{◌≡◌, ℕ, true, List, [], ◌∷◌, Some, refl, ap, ap₂, ◌∙◌}
use Rattle.std.specs.Option.{option_map_or}
use Rattle.image_instr.specs.declared.insn.Kind.{Kind}
use Rattle.image_instr.specs.declared.insn.Width.{Width}
use Rattle.image_instr.specs.declared.insn.Width.TheVariants as width
use Rattle.class_file.specs.declared.record.ClassFile.{ClassFile}
use Rattle.class_tree.specs.Merge.{merge}
use Rattle.body_form.specs.declared.body.Body.{Body}
use Rattle.body_form.specs.declared.types.VFrame.{VFrame}
use Rattle.body_form.specs.declared.types.VType.{VType}
use Rattle.body_form.specs.declared.types.VType.TheVariants as known
use Rattle.jvm_model.specs.TypesFrames.{IsAbove, may_be_operand}
use Rattle.jvm_model.specs.WidthsShapes.{is_narrow, width_where, shape_of, shapes_of, shapes_at}
use Rattle.match_states.specs.Setting.{Setting, IsWide, table_for, widths_for}
use Rattle.type_order.proofs.merges.Frames.{above_parts}
use Rattle.type_order.proofs.merges.ListMerges.{AreOver}
use Rattle.image_rules.specs.Depths.{wide}

-- ---- shapes

two_cells : (of : ℕ → Width) → ((place : ℕ) → of place ≡ width.Two) → (types : List VType) → shapes_of of types ≡ wide types
unfolding shapes_of
two_cells of two [] = refl
two_cells of two (type ∷ types) = ap₂ (λ (w : Width) (shapes : List Kind). shape_of w type ∷ shapes) (two _) (two_cells of two types)

-- those before the instruction at a pc whose types are known
pub shapes_known : (setting : Setting) (body : Body) → IsWide setting body → (pc : ℕ) (frame : VFrame) → table_for setting body pc ≡ Some frame
    → shapes_at (widths_for setting body) (table_for setting body) pc ≡ wide frame.stack
shapes_known setting body two pc frame known =
    let operand = (widths_for setting body).operand pc in
    ap (λ found. option_map_or (λ (frame : VFrame). shapes_of operand frame.stack) found []) known
    ∙ two_cells operand (λ place. ap (λ narrow. width_where (is_narrow narrow pc true place)) two) frame.stack

-- ---- frames of which one is above another

one_above : (files : List ClassFile) (upper lower : VType) → merge files upper lower ≡ upper → may_be_operand upper ≡ true
    → shape_of width.Two upper ≡ shape_of width.Two lower
one_above files known.Top lower above may = cc
one_above files known.Int known.Int above may = refl
one_above files known.Int lower above may = cc
one_above files upper known.Int above may = cc
one_above files upper lower above may = refl

all_above : (files : List ClassFile) (uppers lowers : List VType) → AreOver files may_be_operand uppers lowers → wide uppers ≡ wide lowers
all_above files [] [] over = refl
all_above files [] (lower ∷ lowers) over = absurd over
all_above files (upper ∷ uppers) [] over = absurd over
all_above files (upper ∷ uppers) (lower ∷ lowers) over =
    ap₂ (λ (shape : Kind) (shapes : List Kind). shape ∷ shapes) (one_above files upper lower over.0.above over.0.allows) (all_above files uppers lowers over.1)

pub above_shapes : (files : List ClassFile) (upper lower : VFrame) → IsAbove files upper lower → wide upper.stack ≡ wide lower.stack
above_shapes files upper lower above = all_above files upper.stack lower.stack (above_parts files upper lower above).stack
