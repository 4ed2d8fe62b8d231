-- The greatest number of operand cells of an instruction hangs on no ids, offsets or places of locals, and no depth between its
-- machine instructions has more.
use Rattle.std.proofs.Common.{◌≡◌, ℕ, ◌+◌, ◌-◌, ◌≤◌, true, max, List, [], ◌∷◌, ◌++◌, reverse, Option, Some, None, refl, sym, ap, subst, ◌∙◌, arith}
use Rattle.std.specs.List.{AllByRecursion}
use Rattle.std.specs.Option.{option_map_or}
use Rattle.std.proofs.lemmas.Bool.{false≢true}
use Rattle.class_pool.specs.declared.descriptor.Kind.{Kind as DeclaredKind}
use Rattle.insn_form.specs.declared.SwitchForm.TheVariants as switch
use Rattle.insn_form.specs.declared.ValueKind.TheVariants as value_kind
use Rattle.image_instr.specs.declared.insn.MInsn.TheVariants as insns
use Rattle.image_instr.specs.declared.insn.Width.{Width}
use Rattle.image_instr.specs.declared.signature.Effect.{Effect}
use Rattle.image_instr.specs.declared.signature.Sig.{Sig}
use Rattle.image_form.specs.declared.record.Image.{Image}
use Rattle.image_form.specs.declared.record.Method.{Method}
use Rattle.image_check.specs.Visits.{Depth, HasOperands, moved_by, suffix}
use Rattle.body_form.specs.declared.op.Op.{Op}
use Rattle.body_form.specs.declared.op.Op.TheVariants as op
use Rattle.jvm_model.specs.ImageExpansion.{Emitted, Ids, Locals, alone, cut_arguments, expanded, kind_in, read_as, top_of, write_as}
use Rattle.jvm_model.specs.WidthsFrame.{height_after, most_operands, popped, pushed}
use Rattle.jvm_model.specs.WidthsShapes.{Point, kind_of_width}
use Rattle.set_image.specs.LinkRefusals.{is_built}
use Rattle.image_rules.specs.Depths.{GoWell}
use Rattle.image_rules.proofs.CalledEffects.{MovesBy}

-- ---- expansions with other ids, offsets and places

-- behind the same machine instructions
same_behind : (sig : Sig) (first second third : List Emitted) → ((height : ℕ) → most_operands sig height second ≡ most_operands sig height third)
    → (height : ℕ) → most_operands sig height (first ++ second) ≡ most_operands sig height (first ++ third)
unfolding most_operands
same_behind sig [] second third same height = same height
same_behind sig (emitted ∷ first) second third same height = ap (max height) (same_behind sig first second third same (height_after sig height emitted))

-- the locals with these slots, cells and widths
abbrev placed : (ℕ → Option ℕ) → (ℕ → ℕ) → (ℕ → Width) → Locals
placed slot cell width = record { slot = slot; cell = cell; width = width }

-- a slot is cleared or none is
cleared_most : (sig : Sig) (height : ℕ) (slot : Option ℕ) → most_operands sig height (option_map_or (λ slot. alone (insns.RClear slot)) slot []) ≡ height
unfolding most_operands
cleared_most sig height None = refl
cleared_most sig height (Some slot) = omega arith

module _ (sig : Sig) (slot other_slot : ℕ → Option ℕ) (cell other_cell : ℕ → ℕ) (width : ℕ → Width) (ids other_ids : Ids) (offset other_offset : ℕ → ℕ)
    (result : Option DeclaredKind) (point : Point) where
  pub same_most : (height : ℕ) (instruction : Op) → is_built instruction ≡ true
      → most_operands sig height (expanded (placed slot cell width) ids offset result point instruction)
      ≡ most_operands sig height (expanded (placed other_slot other_cell width) other_ids other_offset result point instruction)
  unfolding most_operands
  same_most height op.Nop built = refl
  same_most height (op.Const value) built = refl
  same_most height (op.Load value_kind.Ref local) built = refl
  same_most height (op.Load value_kind.Int local) built = refl
  same_most height (op.Store value_kind.Ref local) built = refl
  same_most height (op.Store value_kind.Int local) built =
      let behind = height_after sig height (insns.Store (kind_of_width (width local)) (cell local), []) in
      ap (max height) (cleared_most sig behind (slot local) ∙ sym (cleared_most sig behind (other_slot local)))
  same_most height (op.Inc local amount) built = refl
  same_most height (op.Stack f) built = refl
  same_most height (op.Bin o) built = refl
  same_most height (op.Unary o) built = refl
  same_most height (op.If c target) built = refl
  same_most height (op.IfCmp c target) built = refl
  same_most height (op.IfRef c target) built = refl
  same_most height (op.Goto target) built = refl
  same_most height (op.Switch switch.Lookup default rows) built = refl
  same_most height (op.Switch switch.Table default rows) built = refl
  same_most height (op.Return k) built = refl
  same_most height (op.GetStatic used) built = refl
  same_most height (op.PutStatic used) built =
      let put : ℕ → List Emitted = λ place. alone (insns.PutS (kind_in used.kind) place) in
      same_behind sig (write_as used.kind (top_of point.before)) (put (ids.static used.field)) (put (other_ids.static used.field)) (λ h. refl) height
  same_most height (op.CallStatic used) built =
      let read = option_map_or (λ (k : DeclaredKind). read_as k (top_of point.after)) used.descriptor.result [] in
      let call : ℕ → List Emitted = λ id. alone (insns.CallS id) ++ read in
      same_behind sig (cut_arguments 0 (reverse used.descriptor.params) point.before) (call (ids.method used.method)) (call (other_ids.method used.method)) (λ h. refl) height
  same_most height instruction built = absurd (false≢true built)

-- ---- depths within a greatest number

-- references and cells together are no more than so many
abbrev pub Fits : ℕ → Depth → Type 0
Fits most d = d.refs + d.cells ≤ most

-- before, between and behind these machine instructions
abbrev pub StayWithin : ℕ → Image → Depth → List Emitted → Type 0
StayWithin most image d [] = Fits most d
StayWithin most image d (emitted ∷ rest) = Fits most d × StayWithin most image (suffix (moved_by image emitted.0) d) rest

-- the operands that are taken are there
one_height : (effect : Effect) (d : Depth) → HasOperands effect d
    → (suffix effect d).refs + (suffix effect d).cells ≡ ((d.refs + d.cells) - popped effect) + pushed effect
one_height effect d has = omega (arith, has.refs, has.cells)

pub within_most : (image : Image) (method : Method) (sig : Sig) (most : ℕ) (d : Depth) (list : List Emitted) → AllByRecursion (MovesBy image sig) list
    → GoWell image method d list
    → most_operands sig (d.refs + d.cells) list ≤ most → StayWithin most image d list
unfolding most_operands GoWell
within_most image method sig most d [] moves well low = low
within_most image method sig most d (emitted ∷ rest) moves well low =
    let effect = moved_by image emitted.0 in
    let same : (suffix effect d).refs + (suffix effect d).cells ≡ height_after sig (d.refs + d.cells) emitted =
    one_height effect d well.0 ∙ ap (λ (e : Effect). ((d.refs + d.cells) - popped e) + pushed e) moves.0
    in
    let later : most_operands sig (height_after sig (d.refs + d.cells) emitted) rest ≤ most = omega (arith, low) in (
      omega (arith, low),
      within_most image method sig most (suffix effect d) rest moves.1 well.2 (subst (λ (h : ℕ). most_operands sig h rest ≤ most) (sym same) later),
    )
