-- An expansion hangs on no more than what its instruction names and looks at.
use Rattle.std.proofs.Common.{◌≡◌, ℕ, ◌+◌, Bool, true, false, ◌&&◌, if◌then◌else◌, List, [], ◌∷◌, ◌++◌, length, take, reverse, Option, unwrap_or, refl, sym, ap, ◌∙◌}
use Rattle.std.specs.Option.{option_map_or}
use Rattle.std.proofs.lemmas.List.{length-reverse}
use Rattle.class_pool.specs.declared.descriptor.Kind.{Kind as DeclaredKind}
use Rattle.class_pool.specs.declared.types.TypeBase.TheVariants as base
use Rattle.insn_form.specs.declared.StackForm.{StackForm}
use Rattle.insn_form.specs.declared.StackForm.TheVariants as form
use Rattle.insn_form.specs.declared.ValueKind.TheVariants as value_kind
use Rattle.image_instr.specs.declared.insn.Kind.{Kind}
use Rattle.image_instr.specs.declared.insn.Kind.TheVariants as kind
use Rattle.image_instr.specs.declared.insn.MInsn.{MInsn}
use Rattle.image_instr.specs.declared.insn.MInsn.TheVariants as insn
use Rattle.body_form.specs.declared.op.MethodUse.{MethodUse}
use Rattle.body_form.specs.declared.op.Op.{Op}
use Rattle.body_form.specs.declared.op.Op.TheVariants as op
use Rattle.body_form.specs.declared.types.VType.TheVariants as known
use Rattle.jvm_model.specs.WidthsSlots.{passed_cells, is_small}
use Rattle.jvm_model.specs.WidthsShapes.{Point, kind_of_width}
use Rattle.jvm_model.specs.ImageExpansion.{Emitted, Locals, Ids, alone, alone_where, is_two, top_of, second_of, width_of, kind_in, operation_of, condition_of, test_of, element_of, extend, read_as, write_as, restack, unary_of, switch_insn, cut_arguments, call, call_itself, is_boolean_array, read_element, is_small_element, cut_to_one, constant, return_of, expanded}
use Rattle.expansion.specs.declared.around.Around.{Around}
use Rattle.expansion.specs.declared.around.Numbers.{Numbers}
use Rattle.expansion.specs.Expanding.{insns, ids_of, point_of, expansion_of}
use Rattle.expansion.specs.Seen.{IsAround, AreNumbers}
use Rattle.expansion.proofs.Arguments.{no_kinds}

both_alike : {X Y Z : Type 0} (f : X → Y → Z) {a b : X} {c d : Y} → a ≡ b → c ≡ d → f a c ≡ f b d
both_alike f {a} {b} {c} {d} first second = ap (λ x. f x c) first ∙ ap (f b) second

-- ---- shapes

top_taken : (xs : List Kind) → top_of (take 2 xs) ≡ top_of xs
top_taken [] = refl
top_taken (x ∷ []) = refl
top_taken (x ∷ y ∷ xs) = refl

second_taken : (xs : List Kind) → second_of (take 2 xs) ≡ second_of xs
second_taken [] = refl
second_taken (x ∷ []) = refl
second_taken (x ∷ y ∷ xs) = refl

top_alike : (xs ys : List Kind) → take 2 xs ≡ take 2 ys → top_of xs ≡ top_of ys
top_alike xs ys e = sym (top_taken xs) ∙ ap top_of e ∙ top_taken ys

second_alike : (xs ys : List Kind) → take 2 xs ≡ take 2 ys → second_of xs ≡ second_of ys
second_alike xs ys e = sym (second_taken xs) ∙ ap second_of e ∙ second_taken ys

restack_taken : (f : StackForm) (xs : List Kind) → restack f (take 4 xs) ≡ restack f xs
restack_taken f [] = refl
restack_taken f (a ∷ []) = refl
restack_taken f (a ∷ b ∷ []) = refl
restack_taken f (a ∷ b ∷ c ∷ []) = refl
restack_taken form.Pop (a ∷ b ∷ c ∷ d ∷ xs) = refl
restack_taken form.Pop2 (a ∷ b ∷ c ∷ d ∷ xs) = refl
restack_taken form.Dup (a ∷ b ∷ c ∷ d ∷ xs) = refl
restack_taken form.DupX1 (a ∷ b ∷ c ∷ d ∷ xs) = refl
restack_taken form.DupX2 (a ∷ b ∷ c ∷ d ∷ xs) = refl
restack_taken form.Dup2 (a ∷ b ∷ c ∷ d ∷ xs) = refl
restack_taken form.Dup2X1 (a ∷ b ∷ c ∷ d ∷ xs) = refl
restack_taken form.Dup2X2 (a ∷ b ∷ c ∷ d ∷ xs) = refl
restack_taken form.Swap (a ∷ b ∷ c ∷ d ∷ xs) = refl

-- ---- calls

cut_taken : (above : ℕ) (kinds : List DeclaredKind) (shapes : List Kind) → cut_arguments above kinds (take (length kinds) shapes) ≡ cut_arguments above kinds shapes
unfolding cut_arguments
cut_taken above [] shapes = no_kinds above (take 0 shapes) ∙ sym (no_kinds above shapes)
cut_taken above (k ∷ kinds) [] = refl
cut_taken above (k ∷ kinds) (shape ∷ shapes) = ap (λ list. alone_where (is_small k && is_two shape) (insn.Drop above) ++ list) (cut_taken (above + passed_cells k) kinds shapes)

cut_alike : (params : List DeclaredKind) (xs ys : List Kind) → take (length params) xs ≡ take (length params) ys → cut_arguments 0 (reverse params) xs ≡ cut_arguments 0 (reverse params) ys
cut_alike params xs ys e =
    let same : take (length (reverse params)) xs ≡ take (length (reverse params)) ys = ap (λ n. take n xs) (length-reverse params) ∙ e ∙ ap (λ n. take n ys) (sym (length-reverse params)) in
    sym (cut_taken 0 (reverse params) xs) ∙ ap (cut_arguments 0 (reverse params)) same ∙ cut_taken 0 (reverse params) ys

call_alike : (used : MethodUse) (seen point : Point) (first second : MInsn) → take (length used.descriptor.params) seen.before ≡ take (length used.descriptor.params) point.before → top_of seen.after ≡ top_of point.after → first ≡ second → insns (call used seen first) ≡ insns (call used point second)
call_alike used seen point first second before after same =
    ap insns (both_alike (λ (x y : List Emitted). x ++ y) (cut_alike used.descriptor.params seen.before point.before before)
    (both_alike (λ (i : MInsn) (shape : Kind). alone i ++ option_map_or (λ (result : DeclaredKind). read_as result shape) used.descriptor.result []) same after))

itself_alike : (ids : Ids) (numbers : Numbers) (used : MethodUse) (first second : MInsn) → (used.private ≡ true → ids.method used.method ≡ numbers.method) → (used.private ≡ false → first ≡ second) → call_itself ids used first ≡ call_itself (ids_of numbers) used second
itself_alike ids numbers used first second private selected =
    elim used.private as (λ private. (private ≡ true → ids.method used.method ≡ numbers.method) → (private ≡ false → first ≡ second) → (if private then insn.CallX (ids.method used.method) else first) ≡ (if private then insn.CallX numbers.method else second)) [
      | true ↦ λ one other. ap insn.CallX (one refl)
      | false ↦ λ one other. other refl
    ] private selected

boolean_seen : (boolean : Bool) → is_boolean_array (if boolean then known.Ref (record { dims = 1; base = base.Boolean }) else known.Top) ≡ boolean
boolean_seen true = refl
boolean_seen false = refl

-- ---- instructions

pub alike : (locals : Locals) (ids : Ids) (offset : ℕ → ℕ) (numbers : Numbers) (seen : Point) (around : Around) (returned : Option DeclaredKind) (instruction : Op) → AreNumbers locals ids offset numbers instruction → IsAround seen around instruction → insns (expanded locals ids offset returned seen instruction) ≡ expansion_of around numbers returned instruction
alike locals ids offset numbers seen around returned op.Nop are is = refl
alike locals ids offset numbers seen around returned (op.Const value) are is = ap (λ shape. insns (alone (constant value shape))) is.after
alike locals ids offset numbers seen around returned (op.Load value_kind.Ref local) are is = ap (λ slot. insns (alone (insn.Load kind.Ref (unwrap_or slot 0)))) are
alike locals ids offset numbers seen around returned (op.Load value_kind.Int local) are is = both_alike (λ w c. insns (alone (insn.Load (kind_of_width w) c))) are.1 are.0
alike locals ids offset numbers seen around returned (op.Store value_kind.Ref local) are is = ap (λ slot. insns (alone (insn.Store kind.Ref (unwrap_or slot 0)))) are
alike locals ids offset numbers seen around returned (op.Store value_kind.Int local) are is =
    both_alike (λ (first : MInsn) slot. insns (alone first ++ option_map_or (λ slot. alone (insn.RClear slot)) slot [])) (both_alike (λ w c. insn.Store (kind_of_width w) c) are.2 are.1) are.0
alike locals ids offset numbers seen around returned (op.Inc local amount) are is = both_alike (λ w c. insns (alone (insn.Inc w c amount))) are.1 are.0
alike locals ids offset numbers seen around returned (op.Stack f) are is = ap insns (sym (restack_taken f seen.before) ∙ ap (restack f) is.before ∙ restack_taken f around.before)
alike locals ids offset numbers seen around returned (op.Bin o) are is = ap (λ shape. insns (alone (insn.Bin (width_of shape) (operation_of o)))) (top_alike seen.before around.before is.before)
alike locals ids offset numbers seen around returned (op.Unary o) are is = both_alike (λ before after. insns (unary_of o before after)) (top_alike seen.before around.before is.before) is.after
alike locals ids offset numbers seen around returned (op.If c target) are is = both_alike (λ shape at. insns (alone (insn.Jz (width_of shape) (condition_of c) at))) (top_alike seen.before around.before is.before) are
alike locals ids offset numbers seen around returned (op.IfCmp c target) are is = both_alike (λ shape at. insns (alone (insn.JCmp (width_of shape) (condition_of c) at))) (top_alike seen.before around.before is.before) are
alike locals ids offset numbers seen around returned (op.IfRef c target) are is = ap (λ at. insns (alone (insn.RJ (test_of c) at))) are
alike locals ids offset numbers seen around returned (op.Goto target) are is = ap (λ at. insns (alone (insn.Goto at))) are
alike locals ids offset numbers seen around returned (op.Switch f default rows) are is =
    both_alike (λ shape at. insns (alone (switch_insn f (width_of shape) at rows))) (top_alike seen.before around.before is.before) are
alike locals ids offset numbers seen around returned (op.Return k) are is = ap (λ shape. insns (return_of returned shape k)) (top_alike seen.before around.before is.before)
alike locals ids offset numbers seen around returned (op.GetStatic used) are is = both_alike (λ place shape. insns (alone (insn.GetS (kind_in used.kind) place) ++ read_as used.kind shape)) are is.after
alike locals ids offset numbers seen around returned (op.PutStatic used) are is =
    both_alike (λ place shape. insns (write_as used.kind shape ++ alone (insn.PutS (kind_in used.kind) place))) are (top_alike seen.before around.before is.before)
alike locals ids offset numbers seen around returned (op.GetField used) are is = both_alike (λ place shape. insns (alone (insn.GetF (kind_in used.kind) place) ++ read_as used.kind shape)) are is.after
alike locals ids offset numbers seen around returned (op.PutField used) are is =
    both_alike (λ place shape. insns (write_as used.kind shape ++ alone (insn.PutF (kind_in used.kind) place))) are (top_alike seen.before around.before is.before)
alike locals ids offset numbers seen around returned (op.CallVirtual used) are is =
    call_alike used seen (point_of around) (call_itself ids used (insn.CallV (ids.selector used))) (call_itself (ids_of numbers) used (insn.CallV numbers.selector)) is.before is.after
    (itself_alike ids numbers used (insn.CallV (ids.selector used)) (insn.CallV numbers.selector) are.0 (λ e. ap insn.CallV (are.1 e)))
alike locals ids offset numbers seen around returned (op.CallSpecial used) are is =
    call_alike used seen (point_of around) (insn.CallX (ids.method used.method)) (insn.CallX numbers.method) is.before is.after (ap insn.CallX are)
alike locals ids offset numbers seen around returned (op.CallStatic used) are is =
    call_alike used seen (point_of around) (insn.CallS (ids.method used.method)) (insn.CallS numbers.method) is.before is.after (ap insn.CallS are)
alike locals ids offset numbers seen around returned (op.CallInterface used) are is =
    let id = ids.type (record { dims = 0; base = base.Class used.class }) in
    call_alike used seen (point_of around) (call_itself ids used (insn.CallI (ids.selector used) id)) (call_itself (ids_of numbers) used (insn.CallI numbers.selector numbers.type_id)) is.before is.after
    (itself_alike ids numbers used (insn.CallI (ids.selector used) id) (insn.CallI numbers.selector numbers.type_id) are.0.0 (λ e. both_alike insn.CallI (are.0.1 e) are.1))
alike locals ids offset numbers seen around returned (op.New type) are is = ap (λ id. insns (alone (insn.New id))) are
alike locals ids offset numbers seen around returned (op.NewArray type) are is = both_alike (λ shape id. insns (alone (insn.NewArr (width_of shape) id))) (top_alike seen.before around.before is.before) are
alike locals ids offset numbers seen around returned op.ArrayLength are is = ap (λ shape. insns (alone insn.ALen ++ extend true shape)) is.after
alike locals ids offset numbers seen around returned (op.ArrayLoad k) are is =
    both_alike (λ (load : MInsn) (read : List Emitted). insns (alone load ++ read)) (ap (λ shape. insn.ALoad (element_of k) (width_of shape)) (top_alike seen.before around.before is.before))
    (both_alike (λ boolean shape. read_element k boolean shape) (is.boolean refl ∙ sym (boolean_seen around.boolean)) is.after)
alike locals ids offset numbers seen around returned (op.ArrayStore k) are is =
    both_alike (λ top second. insns (cut_to_one (is_small_element k) top ++ alone (insn.AStore (element_of k) (width_of second)))) (top_alike seen.before around.before is.before) (second_alike seen.before around.before is.before)
alike locals ids offset numbers seen around returned op.Throw are is = refl
alike locals ids offset numbers seen around returned (op.CheckCast type) are is = ap (λ id. insns (alone (insn.Cast id))) are
alike locals ids offset numbers seen around returned (op.InstanceOf type) are is = both_alike (λ id shape. insns (alone (insn.Inst id) ++ extend true shape)) are is.after
alike locals ids offset numbers seen around returned (op.MultiArray array dims) are is = ap (λ id. insns (alone (insn.Multi id dims))) are
