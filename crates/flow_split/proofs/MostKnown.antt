-- The greatest number at an instruction, by what is known around it.
use Rattle.std.proofs.Common.{◌≡◌, ℕ, zero, suc, ◌<◌, List, [], ◌∷◌, take, Option, Some, None, refl, sym, ap, subst, ◌∙◌, arith}
use Rattle.std.specs.Prelude.{slice_get, IfSome}
use Rattle.std.specs.Option.{option_map_or}
use Rattle.std.specs.List.{AllByRecursion}
use Rattle.std.proofs.lemmas.Option.{same_Some}
use Rattle.image_instr.specs.declared.insn.Kind.{Kind}
use Rattle.image_instr.specs.declared.insn.Width.{Width}
use Rattle.body_form.specs.declared.body.Body.{Body}
use Rattle.body_form.specs.declared.op.Op.{Op}
use Rattle.body_form.specs.declared.types.VFrame.{VFrame}
use Rattle.body_form.specs.Flow.{Ops}
use Rattle.jvm_model.specs.declared.entries.Entry.{Entry}
use Rattle.jvm_model.specs.TypesRight.{Table}
use Rattle.jvm_model.specs.WidthsShapes.{Point, local_width, widths_of, shapes_at, point_at, pc_after}
use Rattle.jvm_model.specs.WidthsFrame.{most_operands, call_signature, operand_cells, locals_in, no_ids, most_at}
use Rattle.jvm_model.specs.ImageExpansion.{Locals, Ids, expanded, top_of}
use Rattle.expansion.specs.Seen.{looked_at}
use Rattle.flow_split.specs.Around.{HasWidth, IsSeen, local_named}
use Rattle.flow_split.specs.Totals.{shapes_before}
use Rattle.flow_split.specs.Walks.{shapes_where}

take_twice : (count : ℕ) (shapes : List Kind) → take count (take count shapes) ≡ take count shapes
take_twice zero shapes = refl
take_twice (suc count) [] = refl
take_twice (suc count) (shape ∷ shapes) = ap (λ (list : List Kind). shape ∷ list) (take_twice count shapes)

-- the number that is found from what is seen is the one at the instruction
pub most_known : (body : Body) (narrow : List Entry) (table : Table) (pc : ℕ) (op : Op) (frame : VFrame) (height most : ℕ) (named : Width) (shapes : List Kind) (after : Kind)
    → table pc ≡ Some frame → height ≡ operand_cells (shapes_before narrow pc frame.stack) → HasWidth (local_width narrow table body.ops) op named
    → shapes ≡ take (looked_at op) (shapes_before narrow pc frame.stack) → after ≡ top_of (option_map_or (shapes_where narrow table) (pc_after body.ops pc) [])
    → ((locals : Locals) (ids : Ids) (offset : ℕ → ℕ) (point : Point) → IsSeen locals point op named shapes after → most ≡ most_operands (call_signature op) height (expanded locals ids offset body.result point op))
    → most ≡ most_at body (widths_of narrow table body.ops) table (pc, op)
most_known body narrow table pc op frame height most named shapes after known total width before next found =
    let widths = widths_of narrow table body.ops in
    let point = point_at body.ops widths table pc in
    let all : shapes_at widths table pc ≡ shapes_before narrow pc frame.stack = ap (λ (o : Option VFrame). option_map_or (λ (f : VFrame). shapes_before narrow pc f.stack) o []) known in
    let first : take (looked_at op) (shapes_at widths table pc) ≡ take (looked_at op) shapes =
    ap (take (looked_at op)) all ∙ sym (take_twice (looked_at op) (shapes_before narrow pc frame.stack)) ∙ ap (take (looked_at op)) (sym before)
    in
    let seen : IsSeen (locals_in body widths) point op named shapes after = record { width = width; around = record { before = first; after = sym next; boolean = λ e. refl } } in
    let cells : height ≡ operand_cells (shapes_at widths table pc) = total ∙ ap operand_cells (sym all) in
    let emitted = expanded (locals_in body widths) no_ids (λ (to : ℕ). 0) body.result point op in
    found (locals_in body widths) no_ids (λ (to : ℕ). 0) point seen
    ∙ ap (λ n. most_operands (call_signature op) n emitted) cells
    ∙ sym (ap (λ (o : Option VFrame). option_map_or (λ (f : VFrame). most_operands (call_signature op) (operand_cells (shapes_at widths table pc)) emitted) o 0) known)

pub most_unknown : (body : Body) (narrow : List Entry) (table : Table) (x : ℕ × Op) → table x.0 ≡ None → 0 ≡ most_at body (widths_of narrow table body.ops) table x
most_unknown body narrow table x none =
    let widths = widths_of narrow table body.ops in
    let emitted = expanded (locals_in body widths) no_ids (λ (to : ℕ). 0) body.result (point_at body.ops widths table x.0) x.1 in
    sym (ap (λ (o : Option VFrame). option_map_or (λ (f : VFrame). most_operands (call_signature x.1) (operand_cells (shapes_at widths table x.0)) emitted) o 0) none)

named_here : (table : Table) (count : ℕ) (x : ℕ × Op) (frame : VFrame) → IfSome (table x.0) (λ f. IfSome (local_named x.1) (λ local. local < count)) → table x.0 ≡ Some frame → IfSome (local_named x.1) (λ local. local < count)
named_here table count x frame named known = subst (λ (o : Option VFrame). IfSome o (λ f. IfSome (local_named x.1) (λ local. local < count))) known named

-- the instruction at a position names one of the locals
pub named_at : (table : Table) (count : ℕ) (ops : Ops) → AllByRecursion (λ (x : ℕ × Op). IfSome (table x.0) (λ frame. IfSome (local_named x.1) (λ local. local < count))) ops
    → (position : ℕ) (x : ℕ × Op) (frame : VFrame) → slice_get ops position ≡ Some x → table x.0 ≡ Some frame → IfSome (local_named x.1) (λ local. local < count)
named_at table count [] all position x frame is known = absurd (grind (arith, is))
named_at table count (first ∷ ops) all zero x frame is known =
    let same : first ≡ x = same_Some first x is in
    named_here table count x frame (subst (λ (y : ℕ × Op). IfSome (table y.0) (λ f. IfSome (local_named y.1) (λ local. local < count))) same all.0) known
named_at table count (first ∷ ops) all (suc position) x frame is known = named_at table count ops all.1 position x frame is known
