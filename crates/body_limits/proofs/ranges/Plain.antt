-- The machine instructions of plain instructions have no numbers: those on the stack, of conversions, of elements and of
-- returns.
use Rattle.std.proofs.Common.{ℕ, Bool, true, false, ◌&&◌, nat_eq, if◌then◌else◌, List, [], ◌++◌, take, drop, Option, Some, None}
use Rattle.std.specs.List.{AllByRecursion}
use Rattle.cell_num.specs.declared.conversions.Conv.{Conv}
use Rattle.cell_num.specs.declared.conversions.Conv.TheVariants as conv
use Rattle.class_pool.specs.declared.descriptor.Kind.{Kind as DeclaredKind}
use Rattle.class_pool.specs.declared.descriptor.Kind.TheVariants as declared
use Rattle.insn_form.specs.declared.ElementKind.{ElementKind}
use Rattle.insn_form.specs.declared.ElementKind.TheVariants as element_kind
use Rattle.insn_form.specs.declared.StackForm.{StackForm}
use Rattle.insn_form.specs.declared.StackForm.TheVariants as form
use Rattle.insn_form.specs.declared.ValueKind.{ValueKind}
use Rattle.insn_form.specs.declared.ValueKind.TheVariants as value_kind
use Rattle.image_instr.specs.declared.insn.Kind.{Kind}
use Rattle.image_instr.specs.declared.insn.Kind.TheVariants as kind
use Rattle.image_instr.specs.declared.insn.MInsn.{MInsn}
use Rattle.image_instr.specs.declared.insn.MInsn.TheVariants as insns
use Rattle.image_instr.specs.Insn.{HasRanges}
use Rattle.body_form.specs.declared.op.UnaryOp.{UnaryOp}
use Rattle.body_form.specs.declared.op.UnaryOp.TheVariants as unary
use Rattle.jvm_model.specs.WidthsSlots.{is_small}
use Rattle.jvm_model.specs.ImageExpansion.{Emitted, alone, alone_where, is_one, is_two, top_of, second_of, kind_in, extend, read_as, cut_to_one, narrow_cell, write_as, some_refs, refs_in, cells_in, remove, copy, exchange, restack, conversion, unary_of, read_element, return_of}
use Rattle.type_safety.proofs.fitting.SetLists.{all_joined}
use Rattle.match_code.specs.Standing.{IsInRange}

-- the numbers of each are of their types
abbrev pub InRange : List Emitted → Type 0
InRange list = AllByRecursion IsInRange list

pub both : (first second : List Emitted) → InRange first → InRange second → InRange (first ++ second)
both first second one two = all_joined IsInRange first second one two

pub where_emitted : (is : Bool) (insn : MInsn) → HasRanges insn → InRange (alone_where is insn)
where_emitted true insn range = ((range, tt), tt)
where_emitted false insn range = tt

-- ---- values

pub extend_in : (unsigned : Bool) (shape : Kind) → InRange (extend unsigned shape)
extend_in true shape = where_emitted (is_two shape) insns.Zx tt
extend_in false shape = where_emitted (is_two shape) insns.Sx tt

pub read_in : (k : DeclaredKind) (shape : Kind) → InRange (read_as k shape)
read_in declared.Int shape = where_emitted (is_one shape) (insns.Pop 1) tt
read_in declared.Char shape = extend_in true shape
read_in declared.Boolean shape = extend_in true shape
read_in declared.Byte shape = extend_in false shape
read_in declared.Short shape = extend_in false shape
read_in declared.Double shape = tt
read_in declared.Float shape = tt
read_in declared.Long shape = tt
read_in (declared.Class name) shape = tt
read_in (declared.Array dims of) shape = tt

narrow_in : (k : DeclaredKind) → InRange (narrow_cell k)
narrow_in declared.Byte = ((tt, tt), tt)
narrow_in declared.Boolean = ((tt, tt), tt)
narrow_in declared.Int = tt
narrow_in declared.Char = tt
narrow_in declared.Short = tt
narrow_in declared.Double = tt
narrow_in declared.Float = tt
narrow_in declared.Long = tt
narrow_in (declared.Class name) = tt
narrow_in (declared.Array dims of) = tt

pub cut_in : (small : Bool) (shape : Kind) → InRange (cut_to_one small shape)
cut_in small shape = where_emitted (small && is_two shape) (insns.Pop 1) tt

pub write_in : (k : DeclaredKind) (shape : Kind) → InRange (write_as k shape)
write_in k shape = both (cut_to_one (is_small k) shape) (narrow_cell k) (cut_in (is_small k) shape) (narrow_in k)

-- ---- the stack

some_in : (count : ℕ) (insn : ℕ → MInsn) → HasRanges (insn count) → InRange (some_refs count insn)
some_in count insn range = where_emitted (if nat_eq count 0 then false else true) (insn count) range

remove_in : (shapes : List Kind) → InRange (remove shapes)
remove_in shapes =
    both (some_refs (refs_in shapes) (λ count. insns.RPop count)) (some_refs (cells_in shapes) (λ count. insns.Pop count))
    (some_in (refs_in shapes) (λ count. insns.RPop count) tt) (some_in (cells_in shapes) (λ count. insns.Pop count) tt)

copy_in : (top below : List Kind) → InRange (copy top below)
copy_in top below =
    both (some_refs (refs_in top) (λ count. insns.RDupX count (refs_in below))) (some_refs (cells_in top) (λ count. insns.DupX count (cells_in below)))
    (some_in (refs_in top) (λ count. insns.RDupX count (refs_in below)) tt) (some_in (cells_in top) (λ count. insns.DupX count (cells_in below)) tt)

exchange_in : (top below : Kind) → InRange (exchange top below)
exchange_in kind.Ref kind.Ref = ((tt, tt), tt)
exchange_in kind.Ref kind.One = tt
exchange_in kind.Ref kind.Two = tt
exchange_in kind.One kind.Ref = tt
exchange_in kind.One kind.One = ((tt, tt), tt)
exchange_in kind.One kind.Two = ((tt, tt), tt)
exchange_in kind.Two kind.Ref = tt
exchange_in kind.Two kind.One = ((tt, tt), tt)
exchange_in kind.Two kind.Two = ((tt, tt), tt)

pub restack_in : (f : StackForm) (shapes : List Kind) → InRange (restack f shapes)
restack_in form.Pop shapes = remove_in (take 1 shapes)
restack_in form.Pop2 shapes = remove_in (take 2 shapes)
restack_in form.Dup shapes = copy_in (take 1 shapes) []
restack_in form.DupX1 shapes = copy_in (take 1 shapes) (take 1 (drop 1 shapes))
restack_in form.DupX2 shapes = copy_in (take 1 shapes) (take 2 (drop 1 shapes))
restack_in form.Dup2 shapes = copy_in (take 2 shapes) []
restack_in form.Dup2X1 shapes = copy_in (take 2 shapes) (take 1 (drop 2 shapes))
restack_in form.Dup2X2 shapes = copy_in (take 2 shapes) (take 2 (drop 2 shapes))
restack_in form.Swap shapes = exchange_in (top_of shapes) (second_of shapes)

-- ---- conversions, elements, returns

conversion_in : (c : Conv) (before after : Kind) → InRange (conversion c before after)
conversion_in conv.Byte before after = both (cut_to_one true before) (alone insns.Sb ++ extend false after) (cut_in true before) ((tt, tt), extend_in false after)
conversion_in conv.Short before after = both (cut_to_one true before) (extend false after) (cut_in true before) (extend_in false after)
conversion_in conv.Char before after = both (cut_to_one true before) (extend true after) (cut_in true before) (extend_in true after)

pub unary_in : (o : UnaryOp) (before after : Kind) → InRange (unary_of o before after)
unary_in unary.Neg before after = ((tt, tt), tt)
unary_in (unary.Convert c) before after = conversion_in c before after

pub element_in : (k : ElementKind) (boolean : Bool) (shape : Kind) → InRange (read_element k boolean shape)
element_in element_kind.Int boolean shape = where_emitted (is_one shape) (insns.Pop 1) tt
element_in element_kind.Ref boolean shape = tt
element_in element_kind.Byte boolean shape = extend_in boolean shape
element_in element_kind.Char boolean shape = extend_in true shape
element_in element_kind.Short boolean shape = extend_in false shape

pub return_in : (result : Option DeclaredKind) (shape : Kind) (value : Option ValueKind) → InRange (return_of result shape value)
return_in result shape None = ((tt, tt), tt)
return_in result shape (Some value_kind.Ref) = ((tt, tt), tt)
return_in None shape (Some value_kind.Int) = tt
return_in (Some k) shape (Some value_kind.Int) = both (write_as k shape) (alone (insns.Ret (Some (kind_in k)))) (write_in k shape) ((tt, tt), tt)
