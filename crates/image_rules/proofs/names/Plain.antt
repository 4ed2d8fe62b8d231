-- Machine instructions that name nothing and are run: of constants, on the stack, of conversions, switches and returns, and
-- those around calls and statics.
use Rattle.std.proofs.Common.{◌≡◌, ℕ, ℤ, pos, negsuc, ◌+◌, Bool, true, false, ◌&&◌, nat_eq, if◌then◌else◌, List, [], ◌∷◌, ◌++◌, take, drop, reverse, Option, Some, None, refl}
use Rattle.std.specs.List.{AllByRecursion}
use Rattle.std.specs.Option.{option_map_or}
use Rattle.cell_num.specs.Cells.{sign_extended, low_cell}
use Rattle.cell_num.specs.declared.conversions.Conv.{Conv}
use Rattle.cell_num.specs.declared.conversions.Conv.TheVariants as conv
use Rattle.class_pool.specs.declared.descriptor.Kind.{Kind as DeclaredKind}
use Rattle.class_pool.specs.declared.descriptor.Kind.TheVariants as declared
use Rattle.insn_form.specs.declared.StackForm.{StackForm}
use Rattle.insn_form.specs.declared.StackForm.TheVariants as form
use Rattle.insn_form.specs.declared.SwitchForm.{SwitchForm}
use Rattle.insn_form.specs.declared.SwitchForm.TheVariants as switch
use Rattle.insn_form.specs.declared.SwitchRow.{SwitchRow}
use Rattle.insn_form.specs.declared.ValueKind.{ValueKind}
use Rattle.insn_form.specs.declared.ValueKind.TheVariants as value_kind
use Rattle.image_instr.specs.declared.insn.Kind.{Kind}
use Rattle.image_instr.specs.declared.insn.Kind.TheVariants as kind
use Rattle.image_instr.specs.declared.insn.MInsn.{MInsn}
use Rattle.image_instr.specs.declared.insn.MInsn.TheVariants as insns
use Rattle.image_instr.specs.declared.insn.SwitchRow as image_row
use Rattle.image_instr.specs.declared.insn.Width.{Width}
use Rattle.image_form.specs.declared.record.Image.{Image}
use Rattle.image_form.specs.declared.record.Method.{Method}
use Rattle.image_check.specs.Ids.{HasIds}
use Rattle.body_form.specs.declared.op.Literal.{Literal}
use Rattle.body_form.specs.declared.op.Literal.TheVariants as literal
use Rattle.body_form.specs.declared.op.MethodUse.{MethodUse}
use Rattle.body_form.specs.declared.op.UnaryOp.{UnaryOp}
use Rattle.body_form.specs.declared.op.UnaryOp.TheVariants as unary
use Rattle.jvm_model.specs.WidthsShapes.{Point}
use Rattle.jvm_model.specs.WidthsSlots.{passed_cells, is_small}
use Rattle.jvm_model.specs.ImageExpansion.{Emitted, alone, alone_where, is_between, is_one, is_two, top_of, second_of, kind_in, constant, extend, read_as, cut_to_one, narrow_cell, write_as, some_refs, refs_in, cells_in, remove, copy, exchange, restack, conversion, unary_of, switch_insn, return_of, cut_arguments, call}
use Rattle.type_safety.proofs.fitting.SetLists.{all_joined}
use Rattle.split_safety.specs.Runs.{runs_so_far}

module _ (image : Image) (method : Method) where
  -- what it names is there, and it is run
  abbrev pub IsWell : Emitted → Type 0
  IsWell emitted = HasIds image method emitted.0 × (runs_so_far emitted.0 ≡ true)

  -- so is each
  abbrev pub AreWell : List Emitted → Type 0
  AreWell list = AllByRecursion IsWell list

  pub both : (first second : List Emitted) → AreWell first → AreWell second → AreWell (first ++ second)
  both first second one two = all_joined IsWell first second one two

  pub where_emitted : (is : Bool) (insn : MInsn) → IsWell (insn, []) → AreWell (alone_where is insn)
  where_emitted true insn well = (well, tt)
  where_emitted false insn well = tt

  either : (is : Bool) (one other : MInsn) → IsWell (one, []) → IsWell (other, []) → IsWell (if is then one else other, [])
  either true one other well more = well
  either false one other well more = more

  -- ---- constants

  wide_well : (number : ℤ) → IsWell (constant (literal.Int number) kind.Two, [])
  wide_well number =
      either (is_between (negsuc 127) (pos 127) number) (insns.Small2 number) (if is_between (negsuc 32767) (pos 32767) number then insns.Mid2 number else insns.Const2 number) (tt, refl)
      (either (is_between (negsuc 32767) (pos 32767) number) (insns.Mid2 number) (insns.Const2 number) (tt, refl) (tt, refl))

  pub constant_well : (value : Literal) (shape : Kind) → IsWell (constant value shape, [])
  constant_well literal.Null shape = (tt, refl)
  constant_well (literal.Int number) kind.One =
      let low = sign_extended (low_cell number) in
      either (is_between (negsuc 127) (pos 127) low) (insns.Small1 low) (insns.Const1 low) (tt, refl) (tt, refl)
  constant_well (literal.Int number) kind.Two = wide_well number
  constant_well (literal.Int number) kind.Ref = wide_well number

  -- ---- values

  pub extend_well : (unsigned : Bool) (shape : Kind) → AreWell (extend unsigned shape)
  extend_well true shape = where_emitted (is_two shape) insns.Zx (tt, refl)
  extend_well false shape = where_emitted (is_two shape) insns.Sx (tt, refl)

  pub read_well : (k : DeclaredKind) (shape : Kind) → AreWell (read_as k shape)
  read_well declared.Int shape = where_emitted (is_one shape) (insns.Pop 1) (tt, refl)
  read_well declared.Char shape = extend_well true shape
  read_well declared.Boolean shape = extend_well true shape
  read_well declared.Byte shape = extend_well false shape
  read_well declared.Short shape = extend_well false shape
  read_well k shape = tt

  narrow_well : (k : DeclaredKind) → AreWell (narrow_cell k)
  narrow_well declared.Byte = ((tt, refl), tt)
  narrow_well declared.Boolean = ((tt, refl), tt)
  narrow_well k = tt

  cut_well : (small : Bool) (shape : Kind) → AreWell (cut_to_one small shape)
  cut_well small shape = where_emitted (small && is_two shape) (insns.Pop 1) (tt, refl)

  pub write_well : (k : DeclaredKind) (shape : Kind) → AreWell (write_as k shape)
  write_well k shape = both (cut_to_one (is_small k) shape) (narrow_cell k) (cut_well (is_small k) shape) (narrow_well k)

  -- ---- the stack

  some_well : (count : ℕ) (insn : ℕ → MInsn) → IsWell (insn count, []) → AreWell (some_refs count insn)
  some_well count insn well = where_emitted (if nat_eq count 0 then false else true) (insn count) well

  remove_well : (shapes : List Kind) → AreWell (remove shapes)
  remove_well shapes =
      both (some_refs (refs_in shapes) (λ count. insns.RPop count)) (some_refs (cells_in shapes) (λ count. insns.Pop count))
      (some_well (refs_in shapes) (λ count. insns.RPop count) (tt, refl)) (some_well (cells_in shapes) (λ count. insns.Pop count) (tt, refl))

  copy_well : (top below : List Kind) → AreWell (copy top below)
  copy_well top below =
      both (some_refs (refs_in top) (λ count. insns.RDupX count (refs_in below))) (some_refs (cells_in top) (λ count. insns.DupX count (cells_in below)))
      (some_well (refs_in top) (λ count. insns.RDupX count (refs_in below)) (tt, refl)) (some_well (cells_in top) (λ count. insns.DupX count (cells_in below)) (tt, refl))

  exchange_well : (top below : Kind) → AreWell (exchange top below)
  exchange_well kind.Ref kind.Ref = ((tt, refl), tt)
  exchange_well kind.Ref kind.One = tt
  exchange_well kind.Ref kind.Two = tt
  exchange_well kind.One kind.Ref = tt
  exchange_well kind.One kind.One = ((tt, refl), tt)
  exchange_well kind.One kind.Two = ((tt, refl), tt)
  exchange_well kind.Two kind.Ref = tt
  exchange_well kind.Two kind.One = ((tt, refl), tt)
  exchange_well kind.Two kind.Two = ((tt, refl), tt)

  pub restack_well : (f : StackForm) (shapes : List Kind) → AreWell (restack f shapes)
  restack_well form.Pop shapes = remove_well (take 1 shapes)
  restack_well form.Pop2 shapes = remove_well (take 2 shapes)
  restack_well form.Dup shapes = copy_well (take 1 shapes) []
  restack_well form.DupX1 shapes = copy_well (take 1 shapes) (take 1 (drop 1 shapes))
  restack_well form.DupX2 shapes = copy_well (take 1 shapes) (take 2 (drop 1 shapes))
  restack_well form.Dup2 shapes = copy_well (take 2 shapes) []
  restack_well form.Dup2X1 shapes = copy_well (take 2 shapes) (take 1 (drop 2 shapes))
  restack_well form.Dup2X2 shapes = copy_well (take 2 shapes) (take 2 (drop 2 shapes))
  restack_well form.Swap shapes = exchange_well (top_of shapes) (second_of shapes)

  -- ---- conversions, switches, returns

  conversion_well : (c : Conv) (before after : Kind) → AreWell (conversion c before after)
  conversion_well conv.Byte before after = both (cut_to_one true before) (alone insns.Sb ++ extend false after) (cut_well true before) ((tt, refl), extend_well false after)
  conversion_well conv.Short before after = both (cut_to_one true before) (extend false after) (cut_well true before) (extend_well false after)
  conversion_well conv.Char before after = both (cut_to_one true before) (extend true after) (cut_well true before) (extend_well true after)

  pub unary_well : (o : UnaryOp) (before after : Kind) → AreWell (unary_of o before after)
  unary_well unary.Neg before after = ((tt, refl), tt)
  unary_well (unary.Convert c) before after = conversion_well c before after

  pub switch_well : (f : SwitchForm) (w : Width) (default : ℕ) (rows : List SwitchRow) (moved : List image_row.SwitchRow) → IsWell (switch_insn f w default rows, moved)
  switch_well switch.Lookup w default rows moved = (tt, refl)
  switch_well switch.Table w default rows moved = (tt, refl)

  pub return_well : (result : Option DeclaredKind) (shape : Kind) (value : Option ValueKind) → AreWell (return_of result shape value)
  return_well result shape None = ((tt, refl), tt)
  return_well result shape (Some value_kind.Ref) = ((tt, refl), tt)
  return_well None shape (Some value_kind.Int) = tt
  return_well (Some k) shape (Some value_kind.Int) = both (write_as k shape) (alone (insns.Ret (Some (kind_in k)))) (write_well k shape) ((tt, refl), tt)

  -- ---- around calls

  arguments_well : (above : ℕ) (kinds : List DeclaredKind) (shapes : List Kind) → AreWell (cut_arguments above kinds shapes)
  unfolding cut_arguments
  arguments_well above [] [] = tt
  arguments_well above [] (shape ∷ shapes) = tt
  arguments_well above (k ∷ kinds) [] = tt
  arguments_well above (k ∷ kinds) (shape ∷ shapes) =
      both (alone_where (is_small k && is_two shape) (insns.Drop above)) (cut_arguments (above + passed_cells k) kinds shapes)
      (where_emitted (is_small k && is_two shape) (insns.Drop above) (tt, refl))
      (arguments_well (above + passed_cells k) kinds shapes)

  result_well : (result : Option DeclaredKind) (shape : Kind) → AreWell (option_map_or (λ (k : DeclaredKind). read_as k shape) result [])
  result_well None shape = tt
  result_well (Some k) shape = read_well k shape

  pub call_well : (used : MethodUse) (point : Point) (insn : MInsn) → IsWell (insn, []) → AreWell (call used point insn)
  call_well used point insn well =
      let result = option_map_or (λ (k : DeclaredKind). read_as k (top_of point.after)) used.descriptor.result [] in
      both (cut_arguments 0 (reverse used.descriptor.params) point.before) (alone insn ++ result)
      (arguments_well 0 (reverse used.descriptor.params) point.before)
      (well, result_well used.descriptor.result (top_of point.after))
