-- The machine instructions of an instruction move what they move where each call is of the method that the instruction names.
use Rattle.std.proofs.Common.{◌≡◌, ℕ, ◌+◌, ℤ, pos, negsuc, Bool, true, false, ◌&&◌, nat_eq, if◌then◌else◌, List, [], ◌∷◌, ◌++◌, take, drop, reverse, Option, Some, None, refl, ap}
use Rattle.std.specs.List.{AllByRecursion}
use Rattle.std.specs.Option.{option_map_or}
use Rattle.std.proofs.lemmas.Bool.{false≢true}
use Rattle.cell_num.specs.Cells.{sign_extended, low_cell}
use Rattle.cell_num.specs.declared.conversions.Conv.{Conv}
use Rattle.cell_num.specs.declared.conversions.Conv.TheVariants as conv
use Rattle.class_pool.specs.declared.descriptor.Kind.{Kind as DeclaredKind}
use Rattle.class_pool.specs.declared.descriptor.Kind.TheVariants as declared
use Rattle.insn_form.specs.declared.StackForm.{StackForm}
use Rattle.insn_form.specs.declared.StackForm.TheVariants as form
use Rattle.insn_form.specs.declared.SwitchForm.TheVariants as switch
use Rattle.insn_form.specs.declared.ValueKind.{ValueKind}
use Rattle.insn_form.specs.declared.ValueKind.TheVariants as value_kind
use Rattle.image_instr.specs.declared.insn.Kind.{Kind}
use Rattle.image_instr.specs.declared.insn.Kind.TheVariants as kind
use Rattle.image_instr.specs.declared.insn.MInsn.{MInsn}
use Rattle.image_instr.specs.declared.insn.MInsn.TheVariants as insns
use Rattle.image_instr.specs.declared.signature.Sig.{Sig}
use Rattle.image_instr.specs.Effect.{called, effect_of}
use Rattle.image_form.specs.declared.record.Image.{Image}
use Rattle.image_check.specs.Visits.{moved_by}
use Rattle.body_form.specs.declared.op.Literal.{Literal}
use Rattle.body_form.specs.declared.op.Literal.TheVariants as literal
use Rattle.body_form.specs.declared.op.Op.{Op}
use Rattle.body_form.specs.declared.op.Op.TheVariants as op
use Rattle.body_form.specs.declared.op.UnaryOp.{UnaryOp}
use Rattle.body_form.specs.declared.op.UnaryOp.TheVariants as unary
use Rattle.jvm_model.specs.ImageExpansion.{Emitted, Ids, Locals, alone, alone_where, cells_in, constant, conversion, copy, cut_arguments, cut_to_one, exchange, expanded, extend, is_between, is_one, is_two, kind_in, narrow_cell, narrow_constant, read_as, refs_in, remove, restack, return_of, second_of, some_refs, top_of, unary_of, wide_constant, write_as}
use Rattle.jvm_model.specs.WidthsFrame.{call_signature}
use Rattle.jvm_model.specs.WidthsShapes.{Point}
use Rattle.jvm_model.specs.WidthsSlots.{is_small, passed_cells}
use Rattle.set_image.specs.LinkRefusals.{is_built}
use Rattle.image_rules.specs.Parts.{CallsAs}

module _ (image : Image) (sig : Sig) where
  -- it moves what it moves where it calls by the signature
  abbrev pub MovesBy : Emitted → Type 0
  MovesBy emitted = moved_by image emitted.0 ≡ effect_of emitted.0 sig

  abbrev AllMove : List Emitted → Type 0
  AllMove list = AllByRecursion MovesBy list

  both : (first second : List Emitted) → AllMove first → AllMove second → AllMove (first ++ second)
  both [] second one two = two
  both (x ∷ first) second one two = (one.0, both first second one.1 two)

  maybe : (is : Bool) (insn : MInsn) → MovesBy (insn, []) → AllMove (alone_where is insn)
  maybe true insn moves = (moves, tt)
  maybe false insn moves = tt

  moves_extend : (unsigned : Bool) (shape : Kind) → AllMove (extend unsigned shape)
  moves_extend true shape = maybe (is_two shape) insns.Zx refl
  moves_extend false shape = maybe (is_two shape) insns.Sx refl

  moves_read : (k : DeclaredKind) (shape : Kind) → AllMove (read_as k shape)
  moves_read declared.Int shape = maybe (is_one shape) (insns.Pop 1) refl
  moves_read declared.Char shape = moves_extend true shape
  moves_read declared.Boolean shape = moves_extend true shape
  moves_read declared.Byte shape = moves_extend false shape
  moves_read declared.Short shape = moves_extend false shape
  moves_read declared.Double shape = tt
  moves_read declared.Float shape = tt
  moves_read declared.Long shape = tt
  moves_read (declared.Class name) shape = tt
  moves_read (declared.Array dims of) shape = tt

  moves_cell : (k : DeclaredKind) → AllMove (narrow_cell k)
  moves_cell declared.Byte = (refl, tt)
  moves_cell declared.Boolean = (refl, tt)
  moves_cell declared.Int = tt
  moves_cell declared.Char = tt
  moves_cell declared.Short = tt
  moves_cell declared.Double = tt
  moves_cell declared.Float = tt
  moves_cell declared.Long = tt
  moves_cell (declared.Class name) = tt
  moves_cell (declared.Array dims of) = tt

  moves_cut : (small : Bool) (shape : Kind) → AllMove (cut_to_one small shape)
  moves_cut small shape = maybe (small && is_two shape) (insns.Pop 1) refl

  moves_write : (k : DeclaredKind) (shape : Kind) → AllMove (write_as k shape)
  moves_write k shape = both (cut_to_one (is_small k) shape) (narrow_cell k) (moves_cut (is_small k) shape) (moves_cell k)

  -- ---- stack instructions

  moves_some : (count : ℕ) (insn : ℕ → MInsn) → MovesBy (insn count, []) → AllMove (some_refs count insn)
  moves_some count insn moves = maybe (if nat_eq count 0 then false else true) (insn count) moves

  moves_remove : (shapes : List Kind) → AllMove (remove shapes)
  moves_remove shapes =
      both (some_refs (refs_in shapes) (λ count. insns.RPop count)) (some_refs (cells_in shapes) (λ count. insns.Pop count))
      (moves_some (refs_in shapes) (λ count. insns.RPop count) refl) (moves_some (cells_in shapes) (λ count. insns.Pop count) refl)

  moves_copy : (top below : List Kind) → AllMove (copy top below)
  moves_copy top below =
      both (some_refs (refs_in top) (λ count. insns.RDupX count (refs_in below))) (some_refs (cells_in top) (λ count. insns.DupX count (cells_in below)))
      (moves_some (refs_in top) (λ count. insns.RDupX count (refs_in below)) refl) (moves_some (cells_in top) (λ count. insns.DupX count (cells_in below)) refl)

  moves_exchange : (top below : Kind) → AllMove (exchange top below)
  moves_exchange kind.Ref kind.Ref = (refl, tt)
  moves_exchange kind.Ref kind.One = tt
  moves_exchange kind.Ref kind.Two = tt
  moves_exchange kind.One kind.Ref = tt
  moves_exchange kind.One kind.One = (refl, tt)
  moves_exchange kind.One kind.Two = (refl, tt)
  moves_exchange kind.Two kind.Ref = tt
  moves_exchange kind.Two kind.One = (refl, tt)
  moves_exchange kind.Two kind.Two = (refl, tt)

  moves_restack : (f : StackForm) (shapes : List Kind) → AllMove (restack f shapes)
  moves_restack form.Pop shapes = moves_remove (take 1 shapes)
  moves_restack form.Pop2 shapes = moves_remove (take 2 shapes)
  moves_restack form.Dup shapes = moves_copy (take 1 shapes) []
  moves_restack form.DupX1 shapes = moves_copy (take 1 shapes) (take 1 (drop 1 shapes))
  moves_restack form.DupX2 shapes = moves_copy (take 1 shapes) (take 2 (drop 1 shapes))
  moves_restack form.Dup2 shapes = moves_copy (take 2 shapes) []
  moves_restack form.Dup2X1 shapes = moves_copy (take 2 shapes) (take 1 (drop 2 shapes))
  moves_restack form.Dup2X2 shapes = moves_copy (take 2 shapes) (take 2 (drop 2 shapes))
  moves_restack form.Swap shapes = moves_exchange (top_of shapes) (second_of shapes)

  -- ---- numbers

  moves_wide : (number : ℤ) → MovesBy (wide_constant number, [])
  moves_wide number = by (is_between (negsuc 127) (pos 127) number) (is_between (negsuc 32767) (pos 32767) number)
    where
      by : (small middle : Bool) → MovesBy ((if small then insns.Small2 number else (if middle then insns.Mid2 number else insns.Const2 number)), [])
      by true middle = refl
      by false true = refl
      by false false = refl

  moves_narrow : (number : ℤ) → MovesBy (narrow_constant number, [])
  moves_narrow number = by (is_between (negsuc 127) (pos 127) number)
    where
      by : (small : Bool) → MovesBy ((if small then insns.Small1 number else insns.Const1 number), [])
      by true = refl
      by false = refl

  moves_constant : (value : Literal) (shape : Kind) → MovesBy (constant value shape, [])
  moves_constant literal.Null shape = refl
  moves_constant (literal.Int number) kind.One = moves_narrow (sign_extended (low_cell number))
  moves_constant (literal.Int number) kind.Two = moves_wide number
  moves_constant (literal.Int number) kind.Ref = moves_wide number

  moves_conversion : (c : Conv) (before after : Kind) → AllMove (conversion c before after)
  moves_conversion conv.Byte before after = both (cut_to_one true before) (alone insns.Sb ++ extend false after) (moves_cut true before) (refl, moves_extend false after)
  moves_conversion conv.Short before after = both (cut_to_one true before) (extend false after) (moves_cut true before) (moves_extend false after)
  moves_conversion conv.Char before after = both (cut_to_one true before) (extend true after) (moves_cut true before) (moves_extend true after)

  moves_unary : (o : UnaryOp) (before after : Kind) → AllMove (unary_of o before after)
  moves_unary unary.Neg before after = (refl, tt)
  moves_unary (unary.Convert c) before after = moves_conversion c before after

  -- ---- locals, calls, returns

  moves_cleared : (slot : Option ℕ) → AllMove (option_map_or (λ slot. alone (insns.RClear slot)) slot [])
  moves_cleared None = tt
  moves_cleared (Some slot) = (refl, tt)

  moves_arguments : (above : ℕ) (kinds : List DeclaredKind) (shapes : List Kind) → AllMove (cut_arguments above kinds shapes)
  unfolding cut_arguments
  moves_arguments above [] [] = tt
  moves_arguments above [] (shape ∷ shapes) = tt
  moves_arguments above (k ∷ kinds) [] = tt
  moves_arguments above (k ∷ kinds) (shape ∷ shapes) =
      both (alone_where (is_small k && is_two shape) (insns.Drop above)) (cut_arguments (above + passed_cells k) kinds shapes)
      (maybe (is_small k && is_two shape) (insns.Drop above) refl) (moves_arguments (above + passed_cells k) kinds shapes)

  moves_result : (result : Option DeclaredKind) (shape : Kind) → AllMove (option_map_or (λ (k : DeclaredKind). read_as k shape) result [])
  moves_result None shape = tt
  moves_result (Some k) shape = moves_read k shape

  moves_return : (result : Option DeclaredKind) (shape : Kind) (value : Option ValueKind) → AllMove (return_of result shape value)
  moves_return result shape None = (refl, tt)
  moves_return result shape (Some value_kind.Ref) = (refl, tt)
  moves_return None shape (Some value_kind.Int) = tt
  moves_return (Some k) shape (Some value_kind.Int) = both (write_as k shape) (alone (insns.Ret (Some (kind_in k)))) (moves_write k shape) (refl, tt)

-- each machine instruction of an instruction, by the signature of the method that it names
pub all_move : (image : Image) (locals : Locals) (ids : Ids) (offset : ℕ → ℕ) (result : Option DeclaredKind) (point : Point) (instruction : Op)
    → is_built instruction ≡ true → CallsAs image ids instruction
    → AllByRecursion (MovesBy image (call_signature instruction)) (expanded locals ids offset result point instruction)
all_move image locals ids offset result point op.Nop built calls = tt
all_move image locals ids offset result point (op.Const value) built calls = (moves_constant image (call_signature (op.Const value)) value (top_of point.after), tt)
all_move image locals ids offset result point (op.Load value_kind.Ref local) built calls = (refl, tt)
all_move image locals ids offset result point (op.Load value_kind.Int local) built calls = (refl, tt)
all_move image locals ids offset result point (op.Store value_kind.Ref local) built calls = (refl, tt)
all_move image locals ids offset result point (op.Store value_kind.Int local) built calls =
    (refl, moves_cleared image (call_signature (op.Store value_kind.Int local)) (locals.slot local))
all_move image locals ids offset result point (op.Inc local amount) built calls = (refl, tt)
all_move image locals ids offset result point (op.Stack f) built calls = moves_restack image (call_signature (op.Stack f)) f point.before
all_move image locals ids offset result point (op.Bin o) built calls = (refl, tt)
all_move image locals ids offset result point (op.Unary o) built calls = moves_unary image (call_signature (op.Unary o)) o (top_of point.before) (top_of point.after)
all_move image locals ids offset result point (op.If c target) built calls = (refl, tt)
all_move image locals ids offset result point (op.IfCmp c target) built calls = (refl, tt)
all_move image locals ids offset result point (op.IfRef c target) built calls = (refl, tt)
all_move image locals ids offset result point (op.Goto target) built calls = (refl, tt)
all_move image locals ids offset result point (op.Switch switch.Lookup default rows) built calls = (refl, tt)
all_move image locals ids offset result point (op.Switch switch.Table default rows) built calls = (refl, tt)
all_move image locals ids offset result point (op.Return k) built calls = moves_return image (call_signature (op.Return k)) result (top_of point.before) k
all_move image locals ids offset result point (op.GetStatic used) built calls = (refl, moves_read image (call_signature (op.GetStatic used)) used.kind (top_of point.after))
all_move image locals ids offset result point (op.PutStatic used) built calls =
    let sig = call_signature (op.PutStatic used) in
    let shape = top_of point.before in
    both image sig (write_as used.kind shape) (alone (insns.PutS (kind_in used.kind) (ids.static used.field))) (moves_write image sig used.kind shape) (refl, tt)
all_move image locals ids offset result point (op.CallStatic used) built calls =
    let sig = call_signature (op.CallStatic used) in
    let read = option_map_or (λ (k : DeclaredKind). read_as k (top_of point.after)) used.descriptor.result [] in
    both image sig (cut_arguments 0 (reverse used.descriptor.params) point.before) (alone (insns.CallS (ids.method used.method)) ++ read)
    (moves_arguments image sig 0 (reverse used.descriptor.params) point.before) (ap called calls, moves_result image sig used.descriptor.result (top_of point.after))
all_move image locals ids offset result point instruction built calls = absurd (false≢true built)
