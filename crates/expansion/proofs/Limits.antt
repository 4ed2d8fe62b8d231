-- Machine instructions keep to their limits, and have the rows that they count.
use Rattle.std.proofs.Common.{◌≡◌, ℕ, ◌+◌, Bool, true, false, ◌&&◌, if◌then◌else◌, List, [], ◌∷◌, ◌++◌, length, map, take, drop, reverse, Option, Some, None, refl}
use Rattle.std.specs.Option.{option_map_or}
use Rattle.cell_num.specs.declared.conversions.Conv.{Conv}
use Rattle.cell_num.specs.declared.conversions.Conv.TheVariants as conv
use Rattle.class_pool.specs.declared.descriptor.Kind.{Kind as DeclaredKind}
use Rattle.class_pool.specs.declared.descriptor.Kind.TheVariants as declared
use Rattle.insn_form.specs.declared.ElementKind.{ElementKind}
use Rattle.insn_form.specs.declared.ElementKind.TheVariants as element_kind
use Rattle.insn_form.specs.declared.StackForm.{StackForm}
use Rattle.insn_form.specs.declared.StackForm.TheVariants as form
use Rattle.insn_form.specs.declared.ValueKind.{ValueKind}
use Rattle.insn_form.specs.declared.ValueKind.TheVariants as value_kind
use Rattle.image_instr.specs.declared.insn.Kind.{Kind}
use Rattle.image_instr.specs.declared.insn.Kind.TheVariants as kind
use Rattle.image_instr.specs.declared.insn.MInsn.{MInsn}
use Rattle.image_instr.specs.declared.insn.MInsn.TheVariants as insn
use Rattle.image_instr.specs.Effect.{cells_of}
use Rattle.body_form.specs.declared.op.MethodUse.{MethodUse}
use Rattle.body_form.specs.declared.op.Op.{Op}
use Rattle.body_form.specs.declared.op.Op.TheVariants as op
use Rattle.body_form.specs.declared.op.UnaryOp.{UnaryOp}
use Rattle.body_form.specs.declared.op.UnaryOp.TheVariants as unary
use Rattle.jvm_model.specs.WidthsSlots.{passed_cells, is_small}
use Rattle.jvm_model.specs.WidthsShapes.{Point, kind_of_width}
use Rattle.jvm_model.specs.ImageExpansion.{Emitted, Locals, Ids, alone, alone_where, is_one, is_two, top_of, second_of, width_of, kind_in, element_of, extend, read_as, cut_to_one, narrow_cell, write_as, some_refs, refs_in, cells_in, remove, copy, exchange, restack, conversion, unary_of, cut_arguments, call, call_itself, is_boolean_array, read_element, is_small_element, store, return_of, expanded}
use Rattle.body_form.specs.declared.types.VType.TheVariants as known
use Rattle.std.specs.Prelude.{get_or, nat_eq}
use Rattle.class_pool.specs.declared.types.TypeBase.TheVariants as base
use Rattle.std.proofs.Common.{◌≤◌, ◌+ℤ◌, ℤ, arith, zero, suc, pos, negsuc}
use Rattle.std.specs.List.{AllByRecursion}
use Rattle.std.proofs.lemmas.List.{length-take, length-map}
use Rattle.image_instr.specs.Effect.{refs_of}
use Rattle.image_instr.specs.Insn.{KeysRise, KeysFollow}
use Rattle.insn_form.specs.declared.SwitchForm.{SwitchForm}
use Rattle.insn_form.specs.declared.SwitchForm.TheVariants as switch
use Rattle.insn_form.specs.declared.SwitchRow.{SwitchRow}
use Rattle.jvm_model.specs.ImageExpansion.{moved_row, low_key, switch_insn, constant, narrow_constant, wide_constant, is_between, load}
use Rattle.body_form.specs.declared.op.Literal.TheVariants as literal
use Rattle.body_form.specs.declared.op.Literal.{Literal}
use Rattle.cell_num.specs.Cells.{sign_extended, low_cell}
use Rattle.expansion.specs.Seen.{Keeps, KeepsRows}

abbrev All : List Emitted → Type 0
All list = AllByRecursion Keeps list

both : (first second : List Emitted) → All first → All second → All (first ++ second)
both [] second one two = two
both (x ∷ first) second one two = (one.0, both first second one.1 two)

maybe : (is : Bool) (i : MInsn) → Keeps (i, []) → All (alone_where is i)
maybe true i keeps = (keeps, tt)
maybe false i keeps = tt

pop_one : Keeps (insn.Pop 1, [])
pop_one = ((omega arith, omega arith), refl)

fine_extend : (unsigned : Bool) (shape : Kind) → All (extend unsigned shape)
fine_extend true shape = maybe (is_two shape) insn.Zx (tt, refl)
fine_extend false shape = maybe (is_two shape) insn.Sx (tt, refl)

fine_read : (k : DeclaredKind) (shape : Kind) → All (read_as k shape)
fine_read declared.Int shape = maybe (is_one shape) (insn.Pop 1) pop_one
fine_read declared.Char shape = fine_extend true shape
fine_read declared.Boolean shape = fine_extend true shape
fine_read declared.Byte shape = fine_extend false shape
fine_read declared.Short shape = fine_extend false shape
fine_read declared.Double shape = tt
fine_read declared.Float shape = tt
fine_read declared.Long shape = tt
fine_read (declared.Class name) shape = tt
fine_read (declared.Array dims of) shape = tt

fine_narrow : (k : DeclaredKind) → All (narrow_cell k)
fine_narrow declared.Byte = ((tt, refl), tt)
fine_narrow declared.Boolean = ((tt, refl), tt)
fine_narrow declared.Int = tt
fine_narrow declared.Char = tt
fine_narrow declared.Short = tt
fine_narrow declared.Double = tt
fine_narrow declared.Float = tt
fine_narrow declared.Long = tt
fine_narrow (declared.Class name) = tt
fine_narrow (declared.Array dims of) = tt

fine_cut_to_one : (small : Bool) (shape : Kind) → All (cut_to_one small shape)
fine_cut_to_one small shape = maybe (small && is_two shape) (insn.Pop 1) pop_one

fine_write : (k : DeclaredKind) (shape : Kind) → All (write_as k shape)
fine_write k shape = both (cut_to_one (is_small k) shape) (narrow_cell k) (fine_cut_to_one (is_small k) shape) (fine_narrow k)

-- ---- stack instructions

refs_low : (k : Kind) → refs_of k ≤ 1
refs_low kind.Ref = omega arith
refs_low kind.One = omega arith
refs_low kind.Two = omega arith

cells_low : (k : Kind) → cells_of k ≤ 2
cells_low kind.Ref = omega arith
cells_low kind.One = omega arith
cells_low kind.Two = omega arith

few_refs : (xs : List Kind) → length xs ≤ 2 → refs_in xs ≤ 2
few_refs [] le = omega arith
few_refs (a ∷ []) le = omega (arith, refs_low a)
few_refs (a ∷ b ∷ []) le = omega (arith, refs_low a, refs_low b)
few_refs (a ∷ b ∷ c ∷ xs) le = absurd (omega (arith, le))

few_cells : (xs : List Kind) → length xs ≤ 2 → cells_in xs ≤ 4
few_cells [] le = omega arith
few_cells (a ∷ []) le = omega (arith, cells_low a)
few_cells (a ∷ b ∷ []) le = omega (arith, cells_low a, cells_low b)
few_cells (a ∷ b ∷ c ∷ xs) le = absurd (omega (arith, le))

fine_some : (count : ℕ) (i : ℕ → MInsn) → (1 ≤ count → Keeps (i count, [])) → All (some_refs count i)
fine_some zero i keeps = tt
fine_some (suc n) i keeps = elim (nat_eq (suc n) 0) as (λ none. All (alone_where (if none then false else true) (i (suc n)))) [ true ↦ tt | false ↦ (keeps (omega arith), tt) ]

fine_remove : (shapes : List Kind) → length shapes ≤ 2 → All (remove shapes)
fine_remove shapes few =
    both (some_refs (refs_in shapes) (λ count. insn.RPop count)) (some_refs (cells_in shapes) (λ count. insn.Pop count))
    (fine_some (refs_in shapes) (λ count. insn.RPop count) (λ some. ((some, omega (arith, few_refs shapes few)), refl)))
    (fine_some (cells_in shapes) (λ count. insn.Pop count) (λ some. ((some, few_cells shapes few), refl)))

fine_copy : (top below : List Kind) → length top ≤ 2 → length below ≤ 2 → All (copy top below)
fine_copy top below few few_below =
    both (some_refs (refs_in top) (λ count. insn.RDupX count (refs_in below))) (some_refs (cells_in top) (λ count. insn.DupX count (cells_in below)))
    (fine_some (refs_in top) (λ count. insn.RDupX count (refs_in below)) (λ some. ((some, few_refs top few, few_refs below few_below), refl)))
    (fine_some (cells_in top) (λ count. insn.DupX count (cells_in below)) (λ some. ((some, few_cells top few, few_cells below few_below), refl)))

fine_exchange : (top below : Kind) → All (exchange top below)
fine_exchange kind.Ref kind.Ref = ((tt, refl), tt)
fine_exchange kind.Ref kind.One = tt
fine_exchange kind.Ref kind.Two = tt
fine_exchange kind.One kind.Ref = tt
fine_exchange kind.One kind.One = (((omega arith, omega arith, omega arith, omega arith), refl), tt)
fine_exchange kind.One kind.Two = (((omega arith, omega arith, omega arith, omega arith), refl), tt)
fine_exchange kind.Two kind.Ref = tt
fine_exchange kind.Two kind.One = (((omega arith, omega arith, omega arith, omega arith), refl), tt)
fine_exchange kind.Two kind.Two = (((omega arith, omega arith, omega arith, omega arith), refl), tt)

one_taken : (xs : List Kind) → length (take 1 xs) ≤ 2
one_taken xs = omega (arith, length-take 1 xs)

two_taken : (xs : List Kind) → length (take 2 xs) ≤ 2
two_taken xs = omega (arith, length-take 2 xs)

fine_restack : (f : StackForm) (shapes : List Kind) → All (restack f shapes)
fine_restack form.Pop shapes = fine_remove (take 1 shapes) (one_taken shapes)
fine_restack form.Pop2 shapes = fine_remove (take 2 shapes) (two_taken shapes)
fine_restack form.Dup shapes = fine_copy (take 1 shapes) [] (one_taken shapes) (omega arith)
fine_restack form.DupX1 shapes = fine_copy (take 1 shapes) (take 1 (drop 1 shapes)) (one_taken shapes) (one_taken (drop 1 shapes))
fine_restack form.DupX2 shapes = fine_copy (take 1 shapes) (take 2 (drop 1 shapes)) (one_taken shapes) (two_taken (drop 1 shapes))
fine_restack form.Dup2 shapes = fine_copy (take 2 shapes) [] (two_taken shapes) (omega arith)
fine_restack form.Dup2X1 shapes = fine_copy (take 2 shapes) (take 1 (drop 2 shapes)) (two_taken shapes) (one_taken (drop 2 shapes))
fine_restack form.Dup2X2 shapes = fine_copy (take 2 shapes) (take 2 (drop 2 shapes)) (two_taken shapes) (two_taken (drop 2 shapes))
fine_restack form.Swap shapes = fine_exchange (top_of shapes) (second_of shapes)

-- ---- numbers

fine_wide : (number : ℤ) → All (alone (wide_constant number))
fine_wide number =
    elim (is_between (negsuc 127) (pos 127) number) as (λ small. All (alone (if small then insn.Small2 number else (if is_between (negsuc 32767) (pos 32767) number then insn.Mid2 number else insn.Const2 number)))) [
      | true ↦ ((tt, refl), tt)
      | false ↦ elim (is_between (negsuc 32767) (pos 32767) number) as (λ middle. All (alone (if middle then insn.Mid2 number else insn.Const2 number))) [ true ↦ ((tt, refl), tt) | false ↦ ((tt, refl), tt) ]
    ]

fine_one_cell : (number : ℤ) → All (alone (narrow_constant number))
fine_one_cell number = elim (is_between (negsuc 127) (pos 127) number) as (λ small. All (alone (if small then insn.Small1 number else insn.Const1 number))) [ true ↦ ((tt, refl), tt) | false ↦ ((tt, refl), tt) ]

fine_constant : (value : Literal) (shape : Kind) → All (alone (constant value shape))
fine_constant literal.Null shape = ((tt, refl), tt)
fine_constant (literal.Int number) kind.One = fine_one_cell (sign_extended (low_cell number))
fine_constant (literal.Int number) kind.Two = fine_wide number
fine_constant (literal.Int number) kind.Ref = fine_wide number

fine_conversion : (c : Conv) (before after : Kind) → All (conversion c before after)
fine_conversion conv.Byte before after = both (cut_to_one true before) (alone insn.Sb ++ extend false after) (fine_cut_to_one true before) (both (alone insn.Sb) (extend false after) ((tt, refl), tt) (fine_extend false after))
fine_conversion conv.Short before after = both (cut_to_one true before) (extend false after) (fine_cut_to_one true before) (fine_extend false after)
fine_conversion conv.Char before after = both (cut_to_one true before) (extend true after) (fine_cut_to_one true before) (fine_extend true after)

fine_unary : (o : UnaryOp) (before after : Kind) → All (unary_of o before after)
fine_unary unary.Neg before after = ((tt, refl), tt)
fine_unary (unary.Convert c) before after = fine_conversion c before after

-- ---- switches

rising : (offset : ℕ → ℕ) (before : Option ℤ) (rows : List SwitchRow) → KeysRise before (map (moved_row (λ pc. 0)) rows) → KeysRise before (map (moved_row offset) rows)
rising offset before [] rise = tt
rising offset before (row ∷ rows) rise = (rise.0, rising offset (Some row.key) rows rise.1)

following : (offset : ℕ → ℕ) (low : ℤ) (rows : List SwitchRow) → KeysFollow low (map (moved_row (λ pc. 0)) rows) → KeysFollow low (map (moved_row offset) rows)
following offset low [] follow = tt
following offset low (row ∷ rows) follow = (follow.0, following offset (low +ℤ pos 1) rows follow.1)

moved_length : (offset : ℕ → ℕ) (rows : List SwitchRow) → length (map (moved_row offset) rows) ≡ length rows
moved_length offset rows = length-map rows (moved_row offset)

fine_switch : (offset : ℕ → ℕ) (shape : Kind) (f : SwitchForm) (default : ℕ) (rows : List SwitchRow) → KeepsRows (op.Switch f default rows) → Keeps (switch_insn f (width_of shape) (offset default) rows, map (moved_row offset) rows)
fine_switch offset shape switch.Lookup default rows keeps = (tt, (moved_length offset rows, rising offset None rows keeps.1.1))
fine_switch offset shape switch.Table default rows keeps = (keeps.0, (moved_length offset rows, following offset (low_key rows) rows keeps.1.1))

-- ---- calls

fine_cut : (above : ℕ) (kinds : List DeclaredKind) (shapes : List Kind) → All (cut_arguments above kinds shapes)
unfolding cut_arguments
fine_cut above [] [] = tt
fine_cut above [] (shape ∷ shapes) = tt
fine_cut above (k ∷ kinds) [] = tt
fine_cut above (k ∷ kinds) (shape ∷ shapes) =
    both (alone_where (is_small k && is_two shape) (insn.Drop above)) (cut_arguments (above + passed_cells k) kinds shapes) (maybe (is_small k && is_two shape) (insn.Drop above) (tt, refl)) (fine_cut (above + passed_cells k) kinds shapes)

fine_result : (result : Option DeclaredKind) (shape : Kind) → All (option_map_or (λ (k : DeclaredKind). read_as k shape) result [])
fine_result None shape = tt
fine_result (Some k) shape = fine_read k shape

fine_call : (used : MethodUse) (point : Point) (i : MInsn) → Keeps (i, []) → All (call used point i)
fine_call used point i keeps =
    let result = option_map_or (λ (k : DeclaredKind). read_as k (top_of point.after)) used.descriptor.result [] in
    both (cut_arguments 0 (reverse used.descriptor.params) point.before) (alone i ++ result) (fine_cut 0 (reverse used.descriptor.params) point.before) (both (alone i) result (keeps, tt) (fine_result used.descriptor.result (top_of point.after)))

fine_itself : (ids : Ids) (used : MethodUse) (i : MInsn) → Keeps (i, []) → Keeps (call_itself ids used i, [])
fine_itself ids used i keeps = elim used.private as (λ private. Keeps ((if private then insn.CallX (ids.method used.method) else i), [])) [ true ↦ (tt, refl) | false ↦ keeps ]

-- ---- elements, locals, returns

fine_element : (k : ElementKind) (boolean : Bool) (shape : Kind) → All (read_element k boolean shape)
fine_element element_kind.Int boolean shape = maybe (is_one shape) (insn.Pop 1) pop_one
fine_element element_kind.Ref boolean shape = tt
fine_element element_kind.Byte boolean shape = fine_extend boolean shape
fine_element element_kind.Char boolean shape = fine_extend true shape
fine_element element_kind.Short boolean shape = fine_extend false shape

fine_load : (locals : Locals) (k : ValueKind) (local : ℕ) → All (alone (load locals k local))
fine_load locals value_kind.Ref local = ((tt, refl), tt)
fine_load locals value_kind.Int local = ((tt, refl), tt)

fine_cleared : (slot : Option ℕ) → All (option_map_or (λ slot. alone (insn.RClear slot)) slot [])
fine_cleared None = tt
fine_cleared (Some slot) = ((tt, refl), tt)

fine_store : (locals : Locals) (k : ValueKind) (local : ℕ) → All (store locals k local)
fine_store locals value_kind.Ref local = ((tt, refl), tt)
fine_store locals value_kind.Int local =
    both (alone (insn.Store (kind_of_width (locals.width local)) (locals.cell local))) (option_map_or (λ slot. alone (insn.RClear slot)) (locals.slot local) []) ((tt, refl), tt) (fine_cleared (locals.slot local))

fine_return : (result : Option DeclaredKind) (shape : Kind) (value : Option ValueKind) → All (return_of result shape value)
fine_return result shape None = ((tt, refl), tt)
fine_return result shape (Some value_kind.Ref) = ((tt, refl), tt)
fine_return None shape (Some value_kind.Int) = tt
fine_return (Some k) shape (Some value_kind.Int) = both (write_as k shape) (alone (insn.Ret (Some (kind_in k)))) (fine_write k shape) ((tt, refl), tt)

pub limits_kept : (locals : Locals) (ids : Ids) (offset : ℕ → ℕ) (seen : Point) (returned : Option DeclaredKind) (instruction : Op) → KeepsRows instruction → AllByRecursion Keeps (expanded locals ids offset returned seen instruction)
limits_kept locals ids offset seen returned op.Nop keeps = tt
limits_kept locals ids offset seen returned (op.Const value) keeps = fine_constant value (top_of seen.after)
limits_kept locals ids offset seen returned (op.Load k local) keeps = fine_load locals k local
limits_kept locals ids offset seen returned (op.Store k local) keeps = fine_store locals k local
limits_kept locals ids offset seen returned (op.Inc local amount) keeps = ((tt, refl), tt)
limits_kept locals ids offset seen returned (op.Stack f) keeps = fine_restack f seen.before
limits_kept locals ids offset seen returned (op.Bin o) keeps = ((tt, refl), tt)
limits_kept locals ids offset seen returned (op.Unary o) keeps = fine_unary o (top_of seen.before) (top_of seen.after)
limits_kept locals ids offset seen returned (op.If c target) keeps = ((tt, refl), tt)
limits_kept locals ids offset seen returned (op.IfCmp c target) keeps = ((tt, refl), tt)
limits_kept locals ids offset seen returned (op.IfRef c target) keeps = ((tt, refl), tt)
limits_kept locals ids offset seen returned (op.Goto target) keeps = ((tt, refl), tt)
limits_kept locals ids offset seen returned (op.Switch f default rows) keeps = (fine_switch offset (top_of seen.before) f default rows keeps, tt)
limits_kept locals ids offset seen returned (op.Return k) keeps = fine_return returned (top_of seen.before) k
limits_kept locals ids offset seen returned (op.GetStatic used) keeps = both (alone (insn.GetS (kind_in used.kind) (ids.static used.field))) (read_as used.kind (top_of seen.after)) ((tt, refl), tt) (fine_read used.kind (top_of seen.after))
limits_kept locals ids offset seen returned (op.PutStatic used) keeps = both (write_as used.kind (top_of seen.before)) (alone (insn.PutS (kind_in used.kind) (ids.static used.field))) (fine_write used.kind (top_of seen.before)) ((tt, refl), tt)
limits_kept locals ids offset seen returned (op.GetField used) keeps = both (alone (insn.GetF (kind_in used.kind) (ids.field used.field))) (read_as used.kind (top_of seen.after)) ((tt, refl), tt) (fine_read used.kind (top_of seen.after))
limits_kept locals ids offset seen returned (op.PutField used) keeps = both (write_as used.kind (top_of seen.before)) (alone (insn.PutF (kind_in used.kind) (ids.field used.field))) (fine_write used.kind (top_of seen.before)) ((tt, refl), tt)
limits_kept locals ids offset seen returned (op.CallVirtual used) keeps = fine_call used seen (call_itself ids used (insn.CallV (ids.selector used))) (fine_itself ids used (insn.CallV (ids.selector used)) (tt, refl))
limits_kept locals ids offset seen returned (op.CallSpecial used) keeps = fine_call used seen (insn.CallX (ids.method used.method)) (tt, refl)
limits_kept locals ids offset seen returned (op.CallStatic used) keeps = fine_call used seen (insn.CallS (ids.method used.method)) (tt, refl)
limits_kept locals ids offset seen returned (op.CallInterface used) keeps =
    let by_selector = insn.CallI (ids.selector used) (ids.type (record { dims = 0; base = base.Class used.class })) in
    fine_call used seen (call_itself ids used by_selector) (fine_itself ids used by_selector (tt, refl))
limits_kept locals ids offset seen returned (op.New type) keeps = ((tt, refl), tt)
limits_kept locals ids offset seen returned (op.NewArray type) keeps = ((tt, refl), tt)
limits_kept locals ids offset seen returned op.ArrayLength keeps = both (alone insn.ALen) (extend true (top_of seen.after)) ((tt, refl), tt) (fine_extend true (top_of seen.after))
limits_kept locals ids offset seen returned (op.ArrayLoad k) keeps =
    let boolean = is_boolean_array (get_or seen.types 1 known.Top) in
    both (alone (insn.ALoad (element_of k) (width_of (top_of seen.before)))) (read_element k boolean (top_of seen.after)) ((tt, refl), tt) (fine_element k boolean (top_of seen.after))
limits_kept locals ids offset seen returned (op.ArrayStore k) keeps =
    both (cut_to_one (is_small_element k) (top_of seen.before)) (alone (insn.AStore (element_of k) (width_of (second_of seen.before)))) (fine_cut_to_one (is_small_element k) (top_of seen.before)) ((tt, refl), tt)
limits_kept locals ids offset seen returned op.Throw keeps = ((tt, refl), tt)
limits_kept locals ids offset seen returned (op.CheckCast type) keeps = ((tt, refl), tt)
limits_kept locals ids offset seen returned (op.InstanceOf type) keeps = both (alone (insn.Inst (ids.type type))) (extend true (top_of seen.after)) ((tt, refl), tt) (fine_extend true (top_of seen.after))
limits_kept locals ids offset seen returned (op.MultiArray array dims) keeps = ((tt, refl), tt)
