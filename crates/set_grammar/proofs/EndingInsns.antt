-- An instruction that does not go on has a machine instruction.
use Rattle.std.proofs.Common.{◌≡◌, ℕ, ◌≤◌, Bool, true, false, if◌then◌else◌, List, [], ◌∷◌, ◌++◌, map, length, Option, Some, None, option_and_then, refl, sym, ap, ◌∙◌, arith, length-append}
use Rattle.std.specs.Option.{option_map_or}
use Rattle.std.proofs.lemmas.Bool.{false≢true}
use Rattle.std.proofs.lemmas.List.Concat.{flat_map-append, flat_map-cons}
use Rattle.class_pool.specs.declared.descriptor.Kind.{Kind as DeclaredKind}
use Rattle.insn_form.specs.declared.SwitchForm.TheVariants as switch
use Rattle.insn_form.specs.declared.ValueKind.{ValueKind}
use Rattle.insn_form.specs.declared.ValueKind.TheVariants as value_kind
use Rattle.insn_form.specs.declared.SwitchForm.{SwitchForm}
use Rattle.insn_form.specs.declared.SwitchRow.{SwitchRow}
use Rattle.image_instr.specs.declared.insn.Kind.TheVariants as kind
use Rattle.image_instr.specs.declared.insn.Width.{Width}
use Rattle.image_instr.specs.declared.insn.MInsn.TheVariants as insns
use Rattle.body_form.specs.declared.op.Op.{Op}
use Rattle.body_form.specs.declared.op.Op.TheVariants as op
use Rattle.body_form.specs.declared.types.VFrame.{VFrame}
use Rattle.body_form.specs.Flow.{goes_on}
use Rattle.jvm_model.specs.ImageEmission.{Source, bytes_at, offset_of}
use Rattle.jvm_model.specs.ImageExpansion.{Emitted, alone, bytes_of, emitted_bytes, kind_in, low_key, moved_row, top_of, width_of, write_as}
use Rattle.jvm_model.specs.WidthsShapes.{shapes_at}
use Rattle.jvm_model.specs.TypesRules.{Change, change_of, plain, returned}
use Rattle.typed_machine.specs.TypedWorld.{World}
use Rattle.type_safety.proofs.fitting.SetLists.{none_some}

some_bytes : (emitted : Emitted) (rest : List Emitted) → 1 ≤ length (emitted_bytes emitted) → 1 ≤ length (bytes_of (emitted ∷ rest))
some_bytes emitted rest some =
    let whole = ap (λ (bytes : List ℕ). length bytes) (flat_map-cons emitted_bytes emitted rest) in
    omega (arith, some, whole, length-append (emitted_bytes emitted) (bytes_of rest))

some_later : (first rest : List Emitted) → 1 ≤ length (bytes_of rest) → 1 ≤ length (bytes_of (first ++ rest))
some_later first rest some =
    let whole = ap (λ (bytes : List ℕ). length bytes) (flat_map-append emitted_bytes first rest) in
    omega (arith, some, whole, length-append (bytes_of first) (bytes_of rest))

-- a number is returned where the method has a result
has_result : (pending : Bool) (result : Option DeclaredKind) (found : Option DeclaredKind → Option Change) (change : Change)
    → found None ≡ None → (if pending then None else found result) ≡ Some change → (of : DeclaredKind) × (result ≡ Some of)
has_result true result found change none is = none_some change is
has_result false None found change none is = none_some change (sym none ∙ is)
has_result false (Some of) found change none is = (of, refl)

module _ (world : World) (source : Source) where
  abbrev pub bytes_for : ℕ × Op → List ℕ
  bytes_for x = bytes_at source (offset_of source) x

  abbrev to : ℕ → ℕ
  to = offset_of source

  abbrev width_at : ℕ → Width
  width_at pc = width_of (top_of (shapes_at source.widths source.table pc))

  some_switch : (form : SwitchForm) (pc default : ℕ) (rows : List SwitchRow) → 1 ≤ length (bytes_for (pc, op.Switch form default rows))
  some_switch switch.Lookup pc default rows = some_bytes (insns.Switch (width_at pc) (to default) (length rows), map (moved_row to) rows) [] (omega arith)
  some_switch switch.Table pc default rows = some_bytes (insns.Table (width_at pc) (to default) (low_key rows) (length rows), map (moved_row to) rows) [] (omega arith)

  some_return : (pc : ℕ) (k : ValueKind) (result : DeclaredKind) → source.body.result ≡ Some result → 1 ≤ length (bytes_for (pc, op.Return (Some k)))
  some_return pc value_kind.Ref result is = some_bytes (insns.Ret (Some kind.Ref), []) [] (omega arith)
  some_return pc value_kind.Int result is =
      let shape = top_of (shapes_at source.widths source.table pc) in
      let same : length (bytes_for (pc, op.Return (Some value_kind.Int))) ≡ length (bytes_of (write_as result shape ++ alone (insns.Ret (Some (kind_in result))))) =
      ap (λ (found : Option DeclaredKind). length (bytes_of (option_map_or (λ k. write_as k shape ++ alone (insns.Ret (Some (kind_in k)))) found []))) is
      in
      let some = some_later (write_as result shape) (alone (insns.Ret (Some (kind_in result)))) (some_bytes (insns.Ret (Some (kind_in result)), []) [] (omega arith)) in
      omega (arith, same, some)

  pub some_at : (pc : ℕ) (instruction : Op) (frame : VFrame) (change : Change) → change_of world.files source.body pc instruction frame ≡ Some change → goes_on instruction ≡ false → 1 ≤ length (bytes_for (pc, instruction))
  some_at pc (op.Goto target) frame change is ends = some_bytes (insns.Goto (to target), []) [] (omega arith)
  some_at pc (op.Switch form default rows) frame change is ends = some_switch form pc default rows
  some_at pc (op.Return None) frame change is ends = some_bytes (insns.Ret None, []) [] (omega arith)
  some_at pc (op.Return (Some k)) frame change is ends =
      let result = has_result frame.pending source.body.result (λ result. option_and_then (λ tests. plain frame tests []) (returned world.files result (Some k))) change refl is in
      some_return pc k result.0 result.1
  some_at pc op.Throw frame change is ends = some_bytes (insns.Throw, []) [] (omega arith)
  some_at pc instruction frame change is ends = absurd (false≢true (sym ends))
