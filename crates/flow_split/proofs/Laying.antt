-- What is measured is what the frame takes.
use Rattle.std.proofs.Common.{◌≡◌, ℕ, ◌+◌, List, Option, ap, ◌∙◌}
use Rattle.body_form.specs.declared.body.Body.{Body}
use Rattle.jvm_model.specs.declared.entries.Entry.{Entry}
use Rattle.jvm_model.specs.declared.plan.Fill.{Fill}
use Rattle.jvm_model.specs.declared.plan.Plan.{Plan}
use Rattle.jvm_model.specs.TypesRight.{Table}
use Rattle.jvm_model.specs.WidthsShapes.{Widths}
use Rattle.jvm_model.specs.WidthsSlots.{slot_count, cell_count}
use Rattle.jvm_model.specs.WidthsFrame.{frame_cells}
use Rattle.flow_split.specs.declared.frame.Measured.{Measured}
use Rattle.flow_split.specs.Measures.{IsMeasured, cells_measured}
use Rattle.flow_split.specs.Shares.{total_in}
use Rattle.flow_split.proofs.SlotsPlaced.{slots_counted}
use Rattle.flow_split.proofs.CellsPlaced.{cells_counted}

abbrev plan : List Entry → List (Option ℕ) → List (Option ℕ) → List Fill → ℕ → ℕ → ℕ → Plan
plan narrow refs cells fills slots places all = record { narrow = narrow; refs = refs; cells = cells; fills = fills; ref_locals = slots; cell_locals = places; body = all }

pub measured_cells : (body : Body) (table : Table) (widths : Widths) (measured : Measured) → IsMeasured body table widths measured → cells_measured measured ≡ frame_cells body widths table
measured_cells body table widths measured is =
    let slots = ap total_in is.slots ∙ slots_counted body in
    let cells = ap total_in is.cells ∙ cells_counted body widths in
    ap (λ n. 4 + (n + (total_in measured.cells.items + measured.most))) slots
    ∙ ap (λ n. 4 + (slot_count body + (n + measured.most))) cells
    ∙ ap (λ n. 4 + (slot_count body + (cell_count body widths + n))) is.most

-- plans of the same parts
pub same_plan : {narrow narrow' : List Entry} {refs refs' cells cells' : List (Option ℕ)} {fills fills' : List Fill} {slots slots' places places' all all' : ℕ}
    → narrow ≡ narrow' → refs ≡ refs' → cells ≡ cells' → fills ≡ fills' → slots ≡ slots' → places ≡ places' → all ≡ all'
    → ◌≡◌ {A = Plan} (record { narrow = narrow; refs = refs; cells = cells; fills = fills; ref_locals = slots; cell_locals = places; body = all })
    (record { narrow = narrow'; refs = refs'; cells = cells'; fills = fills'; ref_locals = slots'; cell_locals = places'; body = all' })
same_plan {narrow} {narrow'} {refs} {refs'} {cells} {cells'} {fills} {fills'} {slots} {slots'} {places} {places'} {all} {all'} a b c d e f g =
    ap (λ (x : List Entry). plan x refs cells fills slots places all) a
    ∙ ap (λ (x : List (Option ℕ)). plan narrow' x cells fills slots places all) b
    ∙ ap (λ (x : List (Option ℕ)). plan narrow' refs' x fills slots places all) c
    ∙ ap (λ (x : List Fill). plan narrow' refs' cells' x slots places all) d
    ∙ ap (λ (x : ℕ). plan narrow' refs' cells' fills' x places all) e
    ∙ ap (λ (x : ℕ). plan narrow' refs' cells' fills' slots' x all) f
    ∙ ap (λ (x : ℕ). plan narrow' refs' cells' fills' slots' places' x) g
