-- Machine instructions of constants, locals, numbers, jumps and switches find their operands, and lead to the depth of the
-- frame after them.
use Rattle.std.proofs.Common.{◌≡◌, ℕ, ℤ, pos, negsuc, Bool, true, false, ◌&&◌, if◌then◌else◌, List, [], ◌∷◌, ◌++◌, length, drop, Option, Some, None, refl, sym, subst}
use Rattle.std.specs.Option.{option_map_or}
use Rattle.std.proofs.lemmas.Bool.{and_parts}
use Rattle.cell_num.specs.declared.arithmetic.BinOp.{BinOp}
use Rattle.cell_num.specs.declared.conditions.Cond.{Cond}
use Rattle.cell_num.specs.declared.conversions.Conv.{Conv}
use Rattle.cell_num.specs.declared.conversions.Conv.TheVariants as conv
use Rattle.insn_form.specs.declared.RefCond.{RefCond}
use Rattle.insn_form.specs.declared.RefCond.TheVariants as ref_cond
use Rattle.insn_form.specs.declared.SwitchForm.{SwitchForm}
use Rattle.insn_form.specs.declared.SwitchForm.TheVariants as switch
use Rattle.insn_form.specs.declared.SwitchRow.{SwitchRow}
use Rattle.insn_form.specs.declared.ValueKind.{ValueKind}
use Rattle.insn_form.specs.declared.ValueKind.TheVariants as value_kind
use Rattle.image_instr.specs.declared.insn.SwitchRow as image_row
use Rattle.image_instr.specs.declared.insn.Kind.{Kind}
use Rattle.image_instr.specs.declared.insn.Kind.TheVariants as kind
use Rattle.image_instr.specs.declared.insn.Width.{Width}
use Rattle.image_instr.specs.declared.insn.Width.TheVariants as width
use Rattle.image_instr.specs.declared.insn.MInsn.{MInsn}
use Rattle.image_instr.specs.declared.insn.MInsn.TheVariants as insns
use Rattle.image_form.specs.declared.record.Image.{Image}
use Rattle.image_form.specs.declared.record.Method.{Method}
use Rattle.body_form.specs.declared.op.Literal.{Literal}
use Rattle.body_form.specs.declared.op.Literal.TheVariants as literal
use Rattle.body_form.specs.declared.op.UnaryOp.{UnaryOp}
use Rattle.body_form.specs.declared.op.UnaryOp.TheVariants as unary
use Rattle.body_form.specs.declared.types.VType.{VType}
use Rattle.body_form.specs.declared.types.VType.TheVariants as known
use Rattle.jvm_model.specs.ImageExpansion.{Emitted, Locals, alone, condition_of, constant, is_between, load, operation_of, store, switch_insn, test_of, top_of, unary_of, width_of, wide_constant}
use Rattle.jvm_model.specs.TypesFrames.{is_int}
use Rattle.jvm_model.specs.TypesRules.{compared, constant_of, has_kind, is_constructed, takes}
use Rattle.jvm_model.specs.WidthsShapes.{kind_of_width, shape_of}
use Rattle.image_rules.specs.Depths.{depth_of, wide}
use Rattle.image_rules.proofs.DepthSums.{Goes, goes_by, goes_none, goes_on_with, goes_pop, goes_push}

-- ---- shapes

pub int_is : (type : VType) → is_int type ≡ true → type ≡ known.Int
int_is known.Int int = refl
int_is type int = absurd cc

pub reference_shape : (type : VType) → has_kind value_kind.Ref type ≡ true → shape_of width.Two type ≡ kind.Ref
reference_shape known.Null refers = refl
reference_shape (known.Ref of) refers = refl
reference_shape (known.New pc) refers = refl
reference_shape known.This refers = refl
reference_shape known.Top refers = absurd cc
reference_shape known.Int refers = absurd cc

constructed_shape : (type : VType) → is_constructed type ≡ true → shape_of width.Two type ≡ kind.Ref
constructed_shape known.Null is = refl
constructed_shape (known.Ref of) is = refl
constructed_shape type is = absurd cc

module _ (image : Image) (method : Method) where
  abbrev GoesOver : List VType → List Emitted → List VType → Type 0
  GoesOver before emitted after = Goes image method (depth_of (wide before)) emitted (depth_of (wide after))

  -- ---- constants

  pushes_wide : (number : ℤ) (stack : List VType) → GoesOver stack (alone (wide_constant number)) (known.Int ∷ stack)
  pushes_wide number stack = by_size (is_between (negsuc 127) (pos 127) number) (is_between (negsuc 32767) (pos 32767) number)
    where
      by_size : (small middle : Bool) → GoesOver stack (alone (if small then insns.Small2 number else (if middle then insns.Mid2 number else insns.Const2 number))) (known.Int ∷ stack)
      by_size true middle = goes_push image method (insns.Small2 number) kind.Two (wide stack) tt refl
      by_size false true = goes_push image method (insns.Mid2 number) kind.Two (wide stack) tt refl
      by_size false false = goes_push image method (insns.Const2 number) kind.Two (wide stack) tt refl

  pub constant_right : (value : Literal) (stack : List VType) → GoesOver stack (alone (constant value (top_of (wide (constant_of value ∷ stack))))) (constant_of value ∷ stack)
  constant_right literal.Null stack = goes_push image method insns.Null kind.Ref (wide stack) tt refl
  constant_right (literal.Int number) stack = pushes_wide number stack

  -- ---- locals

  module _ (locals : Locals) (two : (local : ℕ) → locals.width local ≡ width.Two) where
    pub load_right : (k : ValueKind) (local : ℕ) (type : VType) (stack : List VType) → has_kind k type ≡ true → GoesOver stack (alone (load locals k local)) (type ∷ stack)
    load_right value_kind.Ref local type stack has =
        subst (λ (shape : Kind). Goes image method (depth_of (wide stack)) (alone (load locals value_kind.Ref local)) (depth_of (shape ∷ wide stack))) (sym (reference_shape type has))
        (goes_push image method (load locals value_kind.Ref local) kind.Ref (wide stack) tt refl)
    load_right value_kind.Int local known.Int stack has =
        subst (λ (w : Width). Goes image method (depth_of (wide stack)) (alone (insns.Load (kind_of_width w) (locals.cell local))) (depth_of (kind.Two ∷ wide stack))) (sym (two local))
        (goes_push image method (insns.Load kind.Two (locals.cell local)) kind.Two (wide stack) tt refl)
    load_right value_kind.Int local type stack has = absurd cc

    clears : (slot : Option ℕ) (shapes : List Kind) → Goes image method (depth_of shapes) (option_map_or (λ slot. alone (insns.RClear slot)) slot []) (depth_of shapes)
    clears None shapes = goes_none image method (depth_of shapes)
    clears (Some slot) shapes = goes_by image method (insns.RClear slot) [] [] [] shapes tt refl

    pub store_right : (k : ValueKind) (local : ℕ) (type : VType) (stack : List VType) → has_kind k type ≡ true → GoesOver (type ∷ stack) (store locals k local) stack
    store_right value_kind.Ref local type stack has =
        subst (λ (shape : Kind). Goes image method (depth_of (shape ∷ wide stack)) (store locals value_kind.Ref local) (depth_of (wide stack))) (sym (reference_shape type has))
        (goes_pop image method (insns.Store kind.Ref _) kind.Ref (wide stack) tt refl)
    store_right value_kind.Int local known.Int stack has =
        goes_on_with image method (depth_of (wide (known.Int ∷ stack))) (depth_of (wide stack)) (depth_of (wide stack))
        (alone (insns.Store (kind_of_width (locals.width local)) (locals.cell local))) (option_map_or (λ slot. alone (insns.RClear slot)) (locals.slot local) [])
        (subst (λ (w : Width). Goes image method (depth_of (kind.Two ∷ wide stack)) (alone (insns.Store (kind_of_width w) (locals.cell local))) (depth_of (wide stack))) (sym (two local))
        (goes_pop image method (insns.Store kind.Two (locals.cell local)) kind.Two (wide stack) tt refl))
        (clears (locals.slot local) (wide stack))
    store_right value_kind.Int local type stack has = absurd cc

    pub inc_right : (local : ℕ) (amount : ℤ) (stack : List VType) → GoesOver stack (alone (insns.Inc (locals.width local) (locals.cell local) amount)) stack
    inc_right local amount stack = goes_by image method (insns.Inc (locals.width local) (locals.cell local) amount) [] [] [] (wide stack) tt refl

  -- ---- numbers

  pub bin_right : (o : BinOp) (stack : List VType) → takes (is_int ∷ is_int ∷ []) stack ≡ true → GoesOver stack (alone (insns.Bin (width_of (top_of (wide stack))) (operation_of o))) (known.Int ∷ drop 2 stack)
  unfolding takes
  bin_right o [] has = absurd cc
  bin_right o (known.Int ∷ []) has = absurd cc
  bin_right o (known.Int ∷ known.Int ∷ stack) has = goes_by image method (insns.Bin width.Two (operation_of o)) [] (kind.Two ∷ kind.Two ∷ []) (kind.Two ∷ []) (wide stack) tt refl
  bin_right o (known.Int ∷ type ∷ stack) has = absurd cc
  bin_right o (type ∷ stack) has = absurd cc

  -- a number of two cells is cut to the low one
  cuts : (shapes : List Kind) → Goes image method (depth_of (kind.Two ∷ shapes)) (alone (insns.Pop 1)) (depth_of (kind.One ∷ shapes))
  cuts shapes = goes_by image method (insns.Pop 1) [] (kind.One ∷ []) [] (kind.One ∷ shapes) tt refl

  extends : (insn : MInsn) (shapes : List Kind) → Goes image method (depth_of (kind.One ∷ shapes)) (alone insn) (depth_of (kind.Two ∷ shapes)) → Goes image method (depth_of (kind.Two ∷ shapes)) (alone (insns.Pop 1) ++ alone insn) (depth_of (kind.Two ∷ shapes))
  extends insn shapes one =
      goes_on_with image method (depth_of (kind.Two ∷ shapes)) (depth_of (kind.One ∷ shapes)) (depth_of (kind.Two ∷ shapes)) (alone (insns.Pop 1)) (alone insn) (cuts shapes) one

  converts : (c : Conv) (shapes : List Kind) → Goes image method (depth_of (kind.Two ∷ shapes)) (unary_of (unary.Convert c) kind.Two kind.Two) (depth_of (kind.Two ∷ shapes))
  converts conv.Byte shapes =
      goes_on_with image method (depth_of (kind.Two ∷ shapes)) (depth_of (kind.One ∷ shapes)) (depth_of (kind.Two ∷ shapes)) (alone (insns.Pop 1)) (alone insns.Sb ++ alone insns.Sx) (cuts shapes)
      (goes_on_with image method (depth_of (kind.One ∷ shapes)) (depth_of (kind.One ∷ shapes)) (depth_of (kind.Two ∷ shapes)) (alone insns.Sb) (alone insns.Sx)
      (goes_by image method insns.Sb [] (kind.One ∷ []) (kind.One ∷ []) shapes tt refl) (goes_by image method insns.Sx [] (kind.One ∷ []) (kind.Two ∷ []) shapes tt refl))
  converts conv.Short shapes = extends insns.Sx shapes (goes_by image method insns.Sx [] (kind.One ∷ []) (kind.Two ∷ []) shapes tt refl)
  converts conv.Char shapes = extends insns.Zx shapes (goes_by image method insns.Zx [] (kind.One ∷ []) (kind.Two ∷ []) shapes tt refl)

  pub unary_right : (o : UnaryOp) (stack : List VType) → takes (is_int ∷ []) stack ≡ true
      → GoesOver stack (unary_of o (top_of (wide stack)) (top_of (wide (known.Int ∷ drop 1 stack)))) (known.Int ∷ drop 1 stack)
  unfolding takes
  unary_right o [] has = absurd cc
  unary_right unary.Neg (known.Int ∷ stack) has = goes_by image method (insns.Neg width.Two) [] (kind.Two ∷ []) (kind.Two ∷ []) (wide stack) tt refl
  unary_right (unary.Convert c) (known.Int ∷ stack) has = converts c (wide stack)
  unary_right o (type ∷ stack) has = absurd cc

  -- ---- jumps

  pub if_right : (c : Cond) (target : ℕ) (stack : List VType) → takes (is_int ∷ []) stack ≡ true
      → GoesOver stack (alone (insns.Jz (width_of (top_of (wide stack))) (condition_of c) target)) (drop 1 stack)
  unfolding takes
  if_right c target [] has = absurd cc
  if_right c target (known.Int ∷ stack) has = goes_pop image method (insns.Jz width.Two (condition_of c) target) kind.Two (wide stack) tt refl
  if_right c target (type ∷ stack) has = absurd cc

  pub compare_right : (c : Cond) (target : ℕ) (stack : List VType) → takes (is_int ∷ is_int ∷ []) stack ≡ true
      → GoesOver stack (alone (insns.JCmp (width_of (top_of (wide stack))) (condition_of c) target)) (drop 2 stack)
  unfolding takes
  compare_right c target [] has = absurd cc
  compare_right c target (known.Int ∷ []) has = absurd cc
  compare_right c target (known.Int ∷ known.Int ∷ stack) has = goes_by image method (insns.JCmp width.Two (condition_of c) target) [] (kind.Two ∷ kind.Two ∷ []) [] (wide stack) tt refl
  compare_right c target (known.Int ∷ type ∷ stack) has = absurd cc
  compare_right c target (type ∷ stack) has = absurd cc

  module _ (target : ℕ) where
    one_tested : (c : RefCond) (stack : List VType) → ((shapes : List Kind) → Goes image method (depth_of (kind.Ref ∷ shapes)) (alone (insns.RJ (test_of c) target)) (depth_of shapes))
        → takes (is_constructed ∷ []) stack ≡ true → GoesOver stack (alone (insns.RJ (test_of c) target)) (drop 1 stack)
    unfolding takes
    one_tested c [] goes has = absurd cc
    one_tested c (type ∷ stack) goes has =
        subst (λ (shape : Kind). Goes image method (depth_of (shape ∷ wide stack)) (alone (insns.RJ (test_of c) target)) (depth_of (wide stack)))
        (sym (constructed_shape type (and_parts (is_constructed type) true has).0)) (goes (wide stack))

    both_tested : (c : RefCond) (stack : List VType) → ((shapes : List Kind) → Goes image method (depth_of (kind.Ref ∷ kind.Ref ∷ shapes)) (alone (insns.RJ (test_of c) target)) (depth_of shapes))
        → takes (is_constructed ∷ is_constructed ∷ []) stack ≡ true → GoesOver stack (alone (insns.RJ (test_of c) target)) (drop 2 stack)
    unfolding takes
    both_tested c [] goes has = absurd cc
    both_tested c (first ∷ []) goes has = absurd (let parts = and_parts (is_constructed first) false has in cc)
    both_tested c (first ∷ second ∷ stack) goes has =
        let parts = and_parts (is_constructed first) (is_constructed second && true) has in
        let one = constructed_shape first parts.0 in
        let two = constructed_shape second (and_parts (is_constructed second) true parts.1).0 in
        subst (λ (shape : Kind). Goes image method (depth_of (shape ∷ shape_of width.Two second ∷ wide stack)) (alone (insns.RJ (test_of c) target)) (depth_of (wide stack))) (sym one)
        (subst (λ (shape : Kind). Goes image method (depth_of (kind.Ref ∷ shape ∷ wide stack)) (alone (insns.RJ (test_of c) target)) (depth_of (wide stack))) (sym two) (goes (wide stack)))

    pub test_right : (c : RefCond) (stack : List VType) → takes (compared c) stack ≡ true → GoesOver stack (alone (insns.RJ (test_of c) target)) (drop (length (compared c)) stack)
    test_right ref_cond.Eq stack has = both_tested ref_cond.Eq stack (λ shapes. goes_by image method (insns.RJ (test_of ref_cond.Eq) target) [] (kind.Ref ∷ kind.Ref ∷ []) [] shapes tt refl) has
    test_right ref_cond.Ne stack has = both_tested ref_cond.Ne stack (λ shapes. goes_by image method (insns.RJ (test_of ref_cond.Ne) target) [] (kind.Ref ∷ kind.Ref ∷ []) [] shapes tt refl) has
    test_right ref_cond.Null stack has = one_tested ref_cond.Null stack (λ shapes. goes_pop image method (insns.RJ (test_of ref_cond.Null) target) kind.Ref shapes tt refl) has
    test_right ref_cond.NonNull stack has = one_tested ref_cond.NonNull stack (λ shapes. goes_pop image method (insns.RJ (test_of ref_cond.NonNull) target) kind.Ref shapes tt refl) has

    pub goto_right : (stack : List VType) → GoesOver stack (alone (insns.Goto target)) stack
    goto_right stack = goes_by image method (insns.Goto target) [] [] [] (wide stack) tt refl

    pub switch_right : (f : SwitchForm) (rows : List SwitchRow) (moved : List image_row.SwitchRow) (stack : List VType) → takes (is_int ∷ []) stack ≡ true
        → GoesOver stack ((switch_insn f (width_of (top_of (wide stack))) target rows, moved) ∷ []) (drop 1 stack)
    unfolding takes
    switch_right f rows moved [] has = absurd cc
    switch_right switch.Lookup rows moved (known.Int ∷ stack) has = goes_by image method (insns.Switch width.Two target (length rows)) moved (kind.Two ∷ []) [] (wide stack) tt refl
    switch_right switch.Table rows moved (known.Int ∷ stack) has = goes_by image method (switch_insn switch.Table width.Two target rows) moved (kind.Two ∷ []) [] (wide stack) tt refl
    switch_right f rows moved (type ∷ stack) has = absurd cc
