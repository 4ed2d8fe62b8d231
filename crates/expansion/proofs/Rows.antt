-- Machine instructions have no rows, but for a switch.
use Rattle.std.proofs.Common.{◌≡◌, ℕ, ◌+◌, Bool, true, false, ◌&&◌, if◌then◌else◌, List, [], ◌∷◌, ◌++◌, take, drop, reverse, Option, Some, None, refl, sym, ap, ◌∙◌}
use Rattle.std.specs.Option.{option_map_or}
use Rattle.std.proofs.lemmas.List.{map-append}
use Rattle.cell_num.specs.declared.conversions.Conv.{Conv}
use Rattle.cell_num.specs.declared.conversions.Conv.TheVariants as conv
use Rattle.class_pool.specs.declared.descriptor.Kind.{Kind as DeclaredKind}
use Rattle.class_pool.specs.declared.descriptor.Kind.TheVariants as declared
use Rattle.insn_form.specs.declared.ElementKind.{ElementKind}
use Rattle.insn_form.specs.declared.ElementKind.TheVariants as element_kind
use Rattle.insn_form.specs.declared.StackForm.{StackForm}
use Rattle.insn_form.specs.declared.StackForm.TheVariants as form
use Rattle.insn_form.specs.declared.ValueKind.{ValueKind}
use Rattle.insn_form.specs.declared.ValueKind.TheVariants as value_kind
use Rattle.image_instr.specs.declared.insn.Kind.{Kind}
use Rattle.image_instr.specs.declared.insn.Kind.TheVariants as kind
use Rattle.image_instr.specs.declared.insn.MInsn.{MInsn}
use Rattle.image_instr.specs.declared.insn.MInsn.TheVariants as insn
use Rattle.body_form.specs.declared.op.MethodUse.{MethodUse}
use Rattle.body_form.specs.declared.op.Op.{Op}
use Rattle.body_form.specs.declared.op.Op.TheVariants as op
use Rattle.body_form.specs.declared.op.UnaryOp.{UnaryOp}
use Rattle.body_form.specs.declared.op.UnaryOp.TheVariants as unary
use Rattle.jvm_model.specs.WidthsSlots.{passed_cells, is_small}
use Rattle.jvm_model.specs.WidthsShapes.{Point, kind_of_width}
use Rattle.jvm_model.specs.ImageExpansion.{Emitted, Locals, Ids, alone, alone_where, is_one, is_two, top_of, second_of, width_of, kind_in, element_of, extend, read_as, cut_to_one, narrow_cell, write_as, some_refs, refs_in, cells_in, remove, copy, exchange, restack, conversion, unary_of, cut_arguments, call, call_itself, is_boolean_array, read_element, is_small_element, store, return_of, expanded}
use Rattle.body_form.specs.declared.types.VType.TheVariants as known
use Rattle.std.specs.Prelude.{get_or, nat_eq}
use Rattle.class_pool.specs.declared.types.TypeBase.TheVariants as base
use Rattle.expansion.specs.Expanding.{insns}
use Rattle.expansion.specs.Seen.{rows_at, with_rows}

-- none of these has rows
abbrev Bare : List Emitted → Type 0
Bare list = list ≡ with_rows [] (insns list)

both : (first second : List Emitted) → Bare first → Bare second → Bare (first ++ second)
both first second one two =
    ap (λ list. list ++ second) one ∙ (ap (λ list. with_rows [] (insns first) ++ list) two
    ∙ (sym (map-append (λ (i : MInsn). (i, [])) (insns first) (insns second)) ∙ ap (with_rows []) (sym (map-append (λ (emitted : Emitted). emitted.0) first second))))

maybe : (is : Bool) (i : MInsn) → Bare (alone_where is i)
maybe true i = refl
maybe false i = refl

bare_extend : (unsigned : Bool) (shape : Kind) → Bare (extend unsigned shape)
bare_extend unsigned shape = maybe (is_two shape) (if unsigned then insn.Zx else insn.Sx)

bare_read : (k : DeclaredKind) (shape : Kind) → Bare (read_as k shape)
bare_read declared.Int shape = maybe (is_one shape) (insn.Pop 1)
bare_read declared.Char shape = bare_extend true shape
bare_read declared.Boolean shape = bare_extend true shape
bare_read declared.Byte shape = bare_extend false shape
bare_read declared.Short shape = bare_extend false shape
bare_read declared.Double shape = refl
bare_read declared.Float shape = refl
bare_read declared.Long shape = refl
bare_read (declared.Class name) shape = refl
bare_read (declared.Array dims of) shape = refl

bare_narrow : (k : DeclaredKind) → Bare (narrow_cell k)
bare_narrow declared.Byte = refl
bare_narrow declared.Boolean = refl
bare_narrow declared.Int = refl
bare_narrow declared.Char = refl
bare_narrow declared.Short = refl
bare_narrow declared.Double = refl
bare_narrow declared.Float = refl
bare_narrow declared.Long = refl
bare_narrow (declared.Class name) = refl
bare_narrow (declared.Array dims of) = refl

bare_write : (k : DeclaredKind) (shape : Kind) → Bare (write_as k shape)
bare_write k shape = both (cut_to_one (is_small k) shape) (narrow_cell k) (maybe (is_small k && is_two shape) (insn.Pop 1)) (bare_narrow k)

bare_some : (count : ℕ) (i : ℕ → MInsn) → Bare (some_refs count i)
bare_some count i = maybe (if nat_eq count 0 then false else true) (i count)

bare_remove : (shapes : List Kind) → Bare (remove shapes)
bare_remove shapes =
    both (some_refs (refs_in shapes) (λ count. insn.RPop count)) (some_refs (cells_in shapes) (λ count. insn.Pop count))
    (bare_some (refs_in shapes) (λ count. insn.RPop count)) (bare_some (cells_in shapes) (λ count. insn.Pop count))

bare_copy : (top below : List Kind) → Bare (copy top below)
bare_copy top below =
    both (some_refs (refs_in top) (λ count. insn.RDupX count (refs_in below))) (some_refs (cells_in top) (λ count. insn.DupX count (cells_in below)))
    (bare_some (refs_in top) (λ count. insn.RDupX count (refs_in below))) (bare_some (cells_in top) (λ count. insn.DupX count (cells_in below)))

bare_exchange : (top below : Kind) → Bare (exchange top below)
bare_exchange kind.Ref kind.Ref = refl
bare_exchange kind.Ref kind.One = refl
bare_exchange kind.Ref kind.Two = refl
bare_exchange kind.One kind.Ref = refl
bare_exchange kind.One kind.One = refl
bare_exchange kind.One kind.Two = refl
bare_exchange kind.Two kind.Ref = refl
bare_exchange kind.Two kind.One = refl
bare_exchange kind.Two kind.Two = refl

bare_restack : (f : StackForm) (shapes : List Kind) → Bare (restack f shapes)
bare_restack form.Pop shapes = bare_remove (take 1 shapes)
bare_restack form.Pop2 shapes = bare_remove (take 2 shapes)
bare_restack form.Dup shapes = bare_copy (take 1 shapes) []
bare_restack form.DupX1 shapes = bare_copy (take 1 shapes) (take 1 (drop 1 shapes))
bare_restack form.DupX2 shapes = bare_copy (take 1 shapes) (take 2 (drop 1 shapes))
bare_restack form.Dup2 shapes = bare_copy (take 2 shapes) []
bare_restack form.Dup2X1 shapes = bare_copy (take 2 shapes) (take 1 (drop 2 shapes))
bare_restack form.Dup2X2 shapes = bare_copy (take 2 shapes) (take 2 (drop 2 shapes))
bare_restack form.Swap shapes = bare_exchange (top_of shapes) (second_of shapes)

bare_conversion : (c : Conv) (before after : Kind) → Bare (conversion c before after)
bare_conversion conv.Byte before after =
    both (cut_to_one true before) (alone insn.Sb ++ extend false after) (maybe (is_two before) (insn.Pop 1)) (both (alone insn.Sb) (extend false after) refl (bare_extend false after))
bare_conversion conv.Short before after = both (cut_to_one true before) (extend false after) (maybe (is_two before) (insn.Pop 1)) (bare_extend false after)
bare_conversion conv.Char before after = both (cut_to_one true before) (extend true after) (maybe (is_two before) (insn.Pop 1)) (bare_extend true after)

bare_unary : (o : UnaryOp) (before after : Kind) → Bare (unary_of o before after)
bare_unary unary.Neg before after = refl
bare_unary (unary.Convert c) before after = bare_conversion c before after

bare_cut : (above : ℕ) (kinds : List DeclaredKind) (shapes : List Kind) → Bare (cut_arguments above kinds shapes)
unfolding cut_arguments
bare_cut above [] [] = refl
bare_cut above [] (shape ∷ shapes) = refl
bare_cut above (k ∷ kinds) [] = refl
bare_cut above (k ∷ kinds) (shape ∷ shapes) =
    both (alone_where (is_small k && is_two shape) (insn.Drop above)) (cut_arguments (above + passed_cells k) kinds shapes) (maybe (is_small k && is_two shape) (insn.Drop above)) (bare_cut (above + passed_cells k) kinds shapes)

bare_result : (result : Option DeclaredKind) (shape : Kind) → Bare (option_map_or (λ (k : DeclaredKind). read_as k shape) result [])
bare_result None shape = refl
bare_result (Some k) shape = bare_read k shape

bare_call : (used : MethodUse) (point : Point) (i : MInsn) → Bare (call used point i)
bare_call used point i =
    let result = option_map_or (λ (k : DeclaredKind). read_as k (top_of point.after)) used.descriptor.result [] in
    both (cut_arguments 0 (reverse used.descriptor.params) point.before) (alone i ++ result) (bare_cut 0 (reverse used.descriptor.params) point.before) (both (alone i) result refl (bare_result used.descriptor.result (top_of point.after)))

bare_element : (k : ElementKind) (boolean : Bool) (shape : Kind) → Bare (read_element k boolean shape)
bare_element element_kind.Int boolean shape = maybe (is_one shape) (insn.Pop 1)
bare_element element_kind.Ref boolean shape = refl
bare_element element_kind.Byte boolean shape = bare_extend boolean shape
bare_element element_kind.Char boolean shape = bare_extend true shape
bare_element element_kind.Short boolean shape = bare_extend false shape

bare_cleared : (slot : Option ℕ) → Bare (option_map_or (λ slot. alone (insn.RClear slot)) slot [])
bare_cleared None = refl
bare_cleared (Some slot) = refl

bare_store : (locals : Locals) (k : ValueKind) (local : ℕ) → Bare (store locals k local)
bare_store locals value_kind.Ref local = refl
bare_store locals value_kind.Int local =
    both (alone (insn.Store (kind_of_width (locals.width local)) (locals.cell local))) (option_map_or (λ slot. alone (insn.RClear slot)) (locals.slot local) []) refl (bare_cleared (locals.slot local))

bare_return : (result : Option DeclaredKind) (shape : Kind) (value : Option ValueKind) → Bare (return_of result shape value)
bare_return result shape None = refl
bare_return result shape (Some value_kind.Ref) = refl
bare_return None shape (Some value_kind.Int) = refl
bare_return (Some k) shape (Some value_kind.Int) = both (write_as k shape) (alone (insn.Ret (Some (kind_in k)))) (bare_write k shape) refl

pub rows_told : (locals : Locals) (ids : Ids) (offset : ℕ → ℕ) (seen : Point) (returned : Option DeclaredKind) (instruction : Op) → expanded locals ids offset returned seen instruction ≡ with_rows (rows_at offset instruction) (insns (expanded locals ids offset returned seen instruction))
rows_told locals ids offset seen returned op.Nop = refl
rows_told locals ids offset seen returned (op.Const value) = refl
rows_told locals ids offset seen returned (op.Load k local) = refl
rows_told locals ids offset seen returned (op.Store k local) = bare_store locals k local
rows_told locals ids offset seen returned (op.Inc local amount) = refl
rows_told locals ids offset seen returned (op.Stack f) = bare_restack f seen.before
rows_told locals ids offset seen returned (op.Bin o) = refl
rows_told locals ids offset seen returned (op.Unary o) = bare_unary o (top_of seen.before) (top_of seen.after)
rows_told locals ids offset seen returned (op.If c target) = refl
rows_told locals ids offset seen returned (op.IfCmp c target) = refl
rows_told locals ids offset seen returned (op.IfRef c target) = refl
rows_told locals ids offset seen returned (op.Goto target) = refl
rows_told locals ids offset seen returned (op.Switch f default rows) = refl
rows_told locals ids offset seen returned (op.Return k) = bare_return returned (top_of seen.before) k
rows_told locals ids offset seen returned (op.GetStatic used) = both (alone (insn.GetS (kind_in used.kind) (ids.static used.field))) (read_as used.kind (top_of seen.after)) refl (bare_read used.kind (top_of seen.after))
rows_told locals ids offset seen returned (op.PutStatic used) = both (write_as used.kind (top_of seen.before)) (alone (insn.PutS (kind_in used.kind) (ids.static used.field))) (bare_write used.kind (top_of seen.before)) refl
rows_told locals ids offset seen returned (op.GetField used) = both (alone (insn.GetF (kind_in used.kind) (ids.field used.field))) (read_as used.kind (top_of seen.after)) refl (bare_read used.kind (top_of seen.after))
rows_told locals ids offset seen returned (op.PutField used) = both (write_as used.kind (top_of seen.before)) (alone (insn.PutF (kind_in used.kind) (ids.field used.field))) (bare_write used.kind (top_of seen.before)) refl
rows_told locals ids offset seen returned (op.CallVirtual used) = bare_call used seen (call_itself ids used (insn.CallV (ids.selector used)))
rows_told locals ids offset seen returned (op.CallSpecial used) = bare_call used seen (insn.CallX (ids.method used.method))
rows_told locals ids offset seen returned (op.CallStatic used) = bare_call used seen (insn.CallS (ids.method used.method))
rows_told locals ids offset seen returned (op.CallInterface used) = bare_call used seen (call_itself ids used (insn.CallI (ids.selector used) (ids.type (record { dims = 0; base = base.Class used.class }))))
rows_told locals ids offset seen returned (op.New type) = refl
rows_told locals ids offset seen returned (op.NewArray type) = refl
rows_told locals ids offset seen returned op.ArrayLength = both (alone insn.ALen) (extend true (top_of seen.after)) refl (bare_extend true (top_of seen.after))
rows_told locals ids offset seen returned (op.ArrayLoad k) =
    let boolean = is_boolean_array (get_or seen.types 1 known.Top) in
    both (alone (insn.ALoad (element_of k) (width_of (top_of seen.before)))) (read_element k boolean (top_of seen.after)) refl (bare_element k boolean (top_of seen.after))
rows_told locals ids offset seen returned (op.ArrayStore k) =
    both (cut_to_one (is_small_element k) (top_of seen.before)) (alone (insn.AStore (element_of k) (width_of (second_of seen.before)))) (maybe (is_small_element k && is_two (top_of seen.before)) (insn.Pop 1)) refl
rows_told locals ids offset seen returned op.Throw = refl
rows_told locals ids offset seen returned (op.CheckCast type) = refl
rows_told locals ids offset seen returned (op.InstanceOf type) = both (alone (insn.Inst (ids.type type))) (extend true (top_of seen.after)) refl (bare_extend true (top_of seen.after))
rows_told locals ids offset seen returned (op.MultiArray array dims) = refl
