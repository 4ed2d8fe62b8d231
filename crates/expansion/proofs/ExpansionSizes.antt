-- The bytes of an expansion are as many wherever its jumps lead.
use Rattle.std.proofs.Common.{◌≡◌, ℕ, ◌+◌, ◌*◌, List, length, map, Option, refl, sym, ap, ◌∙◌, arith}
use Rattle.std.proofs.lemmas.List.{length-map, append-nil}
use Rattle.class_pool.specs.declared.descriptor.Kind.{Kind as DeclaredKind}
use Rattle.insn_form.specs.declared.SwitchForm.{SwitchForm}
use Rattle.insn_form.specs.declared.SwitchForm.TheVariants as switch
use Rattle.insn_form.specs.declared.SwitchRow.{SwitchRow}
use Rattle.image_instr.specs.declared.insn.Width.{Width}
use Rattle.image_instr.specs.Insn.{insn_bytes}
use Rattle.image_instr.proofs.switches.Rows.{size_of_rows, size_of_targets}
use Rattle.body_form.specs.declared.op.Op.{Op}
use Rattle.body_form.specs.declared.op.Op.TheVariants as op
use Rattle.jvm_model.specs.WidthsShapes.{Point, point_at}
use Rattle.jvm_model.specs.ImageExpansion.{Locals, Ids, moved_row, switch_insn, width_of, top_of, expanded, bytes_of}
use Rattle.jvm_model.specs.ImageEmission.{Source, locals_by, bytes_at, size_at}

-- the bytes of a switch
abbrev switch_size : SwitchForm → ℕ → ℕ
switch_size switch.Lookup count = 5 + 6 * count
switch_size switch.Table count = 9 + 2 * count

switch_sized : (offset : ℕ → ℕ) (form : SwitchForm) (width : Width) (default : ℕ) (rows : List SwitchRow) → length (insn_bytes (switch_insn form width default rows) (map (moved_row offset) rows)) ≡ switch_size form (length rows)
switch_sized offset switch.Lookup width default rows = omega (arith, size_of_rows (map (moved_row offset) rows), length-map rows (moved_row offset))
switch_sized offset switch.Table width default rows = omega (arith, size_of_targets (map (moved_row offset) rows), length-map rows (moved_row offset))

module _ (locals : Locals) (ids : Ids) (result : Option DeclaredKind) (point : Point) where
  one_switch : (offset : ℕ → ℕ) (form : SwitchForm) (default : ℕ) (rows : List SwitchRow) → length (bytes_of (expanded locals ids offset result point (op.Switch form default rows))) ≡ switch_size form (length rows)
  one_switch offset form default rows =
      ap length (append-nil (insn_bytes (switch_insn form (width_of (top_of point.before)) (offset default) rows) (map (moved_row offset) rows)))
      ∙ switch_sized offset form (width_of (top_of point.before)) (offset default) rows

  expansion_sized : (offset : ℕ → ℕ) (instruction : Op) → length (bytes_of (expanded locals ids offset result point instruction)) ≡ length (bytes_of (expanded locals ids (λ pc. 0) result point instruction))
  expansion_sized offset op.Nop = refl
  expansion_sized offset (op.Const value) = refl
  expansion_sized offset (op.Load k local) = refl
  expansion_sized offset (op.Store k local) = refl
  expansion_sized offset (op.Inc local amount) = refl
  expansion_sized offset (op.Stack form) = refl
  expansion_sized offset (op.Bin operation) = refl
  expansion_sized offset (op.Unary operation) = refl
  expansion_sized offset (op.If condition target) = refl
  expansion_sized offset (op.IfCmp condition target) = refl
  expansion_sized offset (op.IfRef condition target) = refl
  expansion_sized offset (op.Goto target) = refl
  expansion_sized offset (op.Switch form default rows) = one_switch offset form default rows ∙ sym (one_switch (λ pc. 0) form default rows)
  expansion_sized offset (op.Return k) = refl
  expansion_sized offset (op.GetStatic used) = refl
  expansion_sized offset (op.PutStatic used) = refl
  expansion_sized offset (op.GetField used) = refl
  expansion_sized offset (op.PutField used) = refl
  expansion_sized offset (op.CallVirtual used) = refl
  expansion_sized offset (op.CallSpecial used) = refl
  expansion_sized offset (op.CallStatic used) = refl
  expansion_sized offset (op.CallInterface used) = refl
  expansion_sized offset (op.New type) = refl
  expansion_sized offset (op.NewArray type) = refl
  expansion_sized offset op.ArrayLength = refl
  expansion_sized offset (op.ArrayLoad k) = refl
  expansion_sized offset (op.ArrayStore k) = refl
  expansion_sized offset op.Throw = refl
  expansion_sized offset (op.CheckCast type) = refl
  expansion_sized offset (op.InstanceOf type) = refl
  expansion_sized offset (op.MultiArray array dims) = refl

-- an expansion has its size wherever its jumps lead
pub size_is : (source : Source) (offset : ℕ → ℕ) (x : ℕ × Op) → length (bytes_at source offset x) ≡ size_at source x
size_is source offset x =
    expansion_sized (locals_by source.plan source.widths) source.ids source.body.result (point_at source.body.ops source.widths source.table x.0) offset x.1
