-- Instructions that take operands by tests and push others: constants, whole numbers, branches and throws.
use Rattle.std.proofs.Common.{◌≡◌, ℕ, Bool, true, false, not, List, [], ◌∷◌, map, Option, Some, None, unwrap_or, if◌then◌else◌, refl, arith}
use Rattle.std.specs.Int.{w32}
use Rattle.std.specs.Prelude.{ℤ, pos, FitsSigned}
use Rattle.std.specs.Ordering.{int_eq}
use Rattle.std.specs.List.{Contains}
use Rattle.std.proofs.lemmas.List.Elements.{Contains-append_right}
use Rattle.cell_num.specs.declared.arithmetic.BinOp.{BinOp}
use Rattle.cell_num.specs.declared.conditions.Cond.{Cond}
use Rattle.cell_num.specs.Arithmetic.{applied}
use Rattle.cell_num.specs.Conditions.{is_met}
use Rattle.insn_form.specs.declared.RefCond.{RefCond}
use Rattle.insn_form.specs.declared.RefCond.TheVariants as ref_cond
use Rattle.insn_form.specs.declared.SwitchForm.{SwitchForm}
use Rattle.insn_form.specs.declared.SwitchRow.{SwitchRow}
use Rattle.body_form.specs.declared.body.Body.{Body}
use Rattle.body_form.specs.declared.op.Literal.{Literal}
use Rattle.body_form.specs.declared.op.Literal.TheVariants as literal
use Rattle.body_form.specs.declared.op.Op.TheVariants as op
use Rattle.body_form.specs.declared.op.UnaryOp.{UnaryOp}
use Rattle.body_form.specs.declared.types.VType.TheVariants as known
use Rattle.jvm_model.specs.Operands.{row_target}
use Rattle.jvm_model.specs.State.{Value, Whole}
use Rattle.jvm_model.specs.TypesFrames.{is_int}
use Rattle.jvm_model.specs.TypesRules.{is_constructed}
use Rattle.jvm_model.specs.TypesRules as rules
use Rattle.typed_machine.specs.TypedState.{Object}
use Rattle.typed_machine.specs.TypedStep as step
use Rattle.typed_machine.specs.TypedWorld.{World, pc_after}
use Rattle.type_safety.specs.Facts.{ConstantFits}
use Rattle.type_safety.specs.Fitting.{ValueFits}
use Rattle.type_safety.specs.Safety.{MoveFits}
use Rattle.type_safety.proofs.moves.Going.{IsAt, change_at, goes, jump, branch, machine_throws, takes_none, takes_one, takes_two}
use Rattle.type_safety.proofs.moves.Lemmas.{MoveLemma}
use Rattle.type_safety.proofs.fitting.MachineThrows.{arithmetic_thrown}
use Rattle.type_safety.proofs.fitting.Numbers.{result_fits, unary_fits}
use Rattle.type_safety.proofs.fitting.Operands.{whole_case}

-- the one target
only : (to : ℕ) → Contains (to ∷ []) to
only to = (0, omega arith, refl)

-- ---- targets of switches

later : (first : ℕ) (tos : List ℕ) (to : ℕ) → Contains tos to → Contains (first ∷ tos) to
later first tos to among = Contains-append_right (first ∷ []) tos to among

row_with : (here : Bool) (target : ℕ) (found : Option ℕ) (tos : List ℕ) (to : ℕ) → ((to : ℕ) → found ≡ Some to → Contains tos to) → (if here then Some target else found) ≡ Some to
    → Contains (target ∷ tos) to
row_with true target found tos to others e = (0, omega arith, cc)
row_with false target found tos to others e = later target tos to (others to e)

row_among : (key : ℤ) (rows : List SwitchRow) (to : ℕ) → row_target key rows ≡ Some to → Contains (map (λ (row : SwitchRow). row.target) rows) to
row_among key [] to e = cc
row_among key (row ∷ rows) to e =
    row_with (int_eq row.key key) row.target (row_target key rows) (map (λ (row : SwitchRow). row.target) rows) to (λ to e. row_among key rows to e) e

chosen_among : (default : ℕ) (tos : List ℕ) (found : Option ℕ) → ((to : ℕ) → found ≡ Some to → Contains tos to) → Contains (default ∷ tos) (unwrap_or found default)
chosen_among default tos None among = (0, omega arith, refl)
chosen_among default tos (Some to) among = later default tos to (among to refl)

-- ---- constants and jumps

constant_fits : (world : World) (objects : List Object) (body : Body) (constant : Literal) → ConstantFits constant → ValueFits world objects body (step.constant_of constant) (rules.constant_of constant)
constant_fits world objects body (literal.Int number) fits = (number, refl, fits)
constant_fits world objects body literal.Null fits = refl

pub nop_moves : MoveLemma op.Nop
nop_moves parts world tables set state frame others is fits body types after stands has =
    let at : IsAt world tables state frame others body op.Nop types after = record { set = set; is = is; fits = fits; stands = stands; has = has } in
    let by = change_at at in
    goes at refl frame frame.operands (takes_none at [] by.change by.is by.reached frame refl has.locals [] tt)

pub const_moves : (constant : Literal) → ConstantFits constant → MoveLemma (op.Const constant)
const_moves constant number parts world tables set state frame others is fits body types after stands has =
    let at : IsAt world tables state frame others body (op.Const constant) types after = record { set = set; is = is; fits = fits; stands = stands; has = has } in
    let by = change_at at in
    let value = step.constant_of constant in
    goes at refl frame (value ∷ frame.operands)
    (takes_none at (rules.constant_of constant ∷ []) by.change by.is by.reached frame refl has.locals (value ∷ []) (constant_fits world state.objects body constant number, tt))

pub goto_moves : (target : ℕ) → MoveLemma (op.Goto target)
goto_moves target parts world tables set state frame others is fits body types after stands has =
    let at : IsAt world tables state frame others body (op.Goto target) types after = record { set = set; is = is; fits = fits; stands = stands; has = has } in
    let by = change_at at in
    jump at target (only target) frame.operands (takes_none at [] by.change by.is by.reached frame refl has.locals [] tt)

-- ---- whole numbers

pub bin_moves : (operation : BinOp) → MoveLemma (op.Bin operation)
bin_moves operation parts world tables set state frame others is fits body types after stands has =
    let at : IsAt world tables state frame others body (op.Bin operation) types after = record { set = set; is = is; fits = fits; stands = stands; has = has } in
    let by = change_at at in
    let next = pc_after body.ops frame.pc in
    let Goal : List Value → Type 0 = λ operands. MoveFits world tables (step.compute world state frame others next operation operands) in
    takes_two at is_int is_int (known.Int ∷ []) by.change by.is by.reached Goal (λ x y rest one two push.
    whole_case world state.objects body (λ v. Goal (v ∷ y ∷ rest)) x one (λ b b_fits.
    whole_case world state.objects body (λ v. Goal (Whole b ∷ v ∷ rest)) y two (λ a a_fits.
    elim (applied operation a b) as (λ found. ((number : ℤ) → found ≡ Some number → FitsSigned w32 number) → MoveFits world tables (step.result world state frame others next rest found)) [
      | None ↦ λ fits. machine_throws at 4 (arithmetic_thrown world set.closed)
      | Some number ↦ λ fits. goes at refl frame (Whole number ∷ rest) (push (Whole number ∷ []) ((number, refl, fits number refl), tt))
    ] (λ number is. result_fits operation a b number a_fits b_fits is))))

pub unary_moves : (operation : UnaryOp) → MoveLemma (op.Unary operation)
unary_moves operation parts world tables set state frame others is fits body types after stands has =
    let at : IsAt world tables state frame others body (op.Unary operation) types after = record { set = set; is = is; fits = fits; stands = stands; has = has } in
    let by = change_at at in
    let Goal : List Value → Type 0 = λ operands. MoveFits world tables (step.convert state frame others (pc_after body.ops frame.pc) operation operands) in
    takes_one at is_int (known.Int ∷ []) by.change by.is by.reached Goal (λ x rest passes push.
    whole_case world state.objects body (λ v. Goal (v ∷ rest)) x passes (λ number fits_32.
    let result = step.unary_of operation number in
    goes at refl frame (Whole result ∷ rest) (push (Whole result ∷ []) ((result, refl, unary_fits operation number), tt))))

-- ---- branches

pub if_moves : (cond : Cond) (target : ℕ) → MoveLemma (op.If cond target)
if_moves cond target parts world tables set state frame others is fits body types after stands has =
    let at : IsAt world tables state frame others body (op.If cond target) types after = record { set = set; is = is; fits = fits; stands = stands; has = has } in
    let by = change_at at in
    let Goal : List Value → Type 0 = λ operands. MoveFits world tables (step.if_number state frame others (pc_after body.ops frame.pc) (λ number. is_met cond number (pos 0)) target operands) in
    takes_one at is_int [] by.change by.is by.reached Goal (λ x rest passes push.
    whole_case world state.objects body (λ v. Goal (v ∷ rest)) x passes (λ number fits_32. branch at refl (is_met cond number (pos 0)) target (only target) rest (push [] tt)))

pub if_cmp_moves : (cond : Cond) (target : ℕ) → MoveLemma (op.IfCmp cond target)
if_cmp_moves cond target parts world tables set state frame others is fits body types after stands has =
    let at : IsAt world tables state frame others body (op.IfCmp cond target) types after = record { set = set; is = is; fits = fits; stands = stands; has = has } in
    let by = change_at at in
    let Goal : List Value → Type 0 = λ operands. MoveFits world tables (step.if_numbers state frame others (pc_after body.ops frame.pc) (is_met cond) target operands) in
    takes_two at is_int is_int [] by.change by.is by.reached Goal (λ x y rest one two push.
    whole_case world state.objects body (λ v. Goal (v ∷ y ∷ rest)) x one (λ b b_fits.
    whole_case world state.objects body (λ v. Goal (Whole b ∷ v ∷ rest)) y two (λ a a_fits. branch at refl (is_met cond a b) target (only target) rest (push [] tt))))

-- two references are compared, or one with null
pub if_ref_moves : (cond : RefCond) (target : ℕ) → MoveLemma (op.IfRef cond target)
if_ref_moves ref_cond.Eq target parts world tables set state frame others is fits body types after stands has =
    let at : IsAt world tables state frame others body (op.IfRef ref_cond.Eq target) types after = record { set = set; is = is; fits = fits; stands = stands; has = has } in
    let by = change_at at in
    takes_two at is_constructed is_constructed [] by.change by.is by.reached
    (λ operands. MoveFits world tables (step.if_reference state frame others (pc_after body.ops frame.pc) ref_cond.Eq target operands))
    (λ x y rest one two push. branch at refl (step.are_same y x) target (only target) rest (push [] tt))
if_ref_moves ref_cond.Ne target parts world tables set state frame others is fits body types after stands has =
    let at : IsAt world tables state frame others body (op.IfRef ref_cond.Ne target) types after = record { set = set; is = is; fits = fits; stands = stands; has = has } in
    let by = change_at at in
    takes_two at is_constructed is_constructed [] by.change by.is by.reached
    (λ operands. MoveFits world tables (step.if_reference state frame others (pc_after body.ops frame.pc) ref_cond.Ne target operands))
    (λ x y rest one two push. branch at refl (not (step.are_same y x)) target (only target) rest (push [] tt))
if_ref_moves ref_cond.Null target parts world tables set state frame others is fits body types after stands has =
    let at : IsAt world tables state frame others body (op.IfRef ref_cond.Null target) types after = record { set = set; is = is; fits = fits; stands = stands; has = has } in
    let by = change_at at in
    takes_one at is_constructed [] by.change by.is by.reached
    (λ operands. MoveFits world tables (step.if_reference state frame others (pc_after body.ops frame.pc) ref_cond.Null target operands))
    (λ x rest passes push. branch at refl (step.is_null x) target (only target) rest (push [] tt))
if_ref_moves ref_cond.NonNull target parts world tables set state frame others is fits body types after stands has =
    let at : IsAt world tables state frame others body (op.IfRef ref_cond.NonNull target) types after = record { set = set; is = is; fits = fits; stands = stands; has = has } in
    let by = change_at at in
    takes_one at is_constructed [] by.change by.is by.reached
    (λ operands. MoveFits world tables (step.if_reference state frame others (pc_after body.ops frame.pc) ref_cond.NonNull target operands))
    (λ x rest passes push. branch at refl (not (step.is_null x)) target (only target) rest (push [] tt))

pub switch_moves : (form : SwitchForm) (default : ℕ) (rows : List SwitchRow) → MoveLemma (op.Switch form default rows)
switch_moves form default rows parts world tables set state frame others is fits body types after stands has =
    let at : IsAt world tables state frame others body (op.Switch form default rows) types after = record { set = set; is = is; fits = fits; stands = stands; has = has } in
    let by = change_at at in
    let Goal : List Value → Type 0 = λ operands. MoveFits world tables (step.choose state frame others (λ key. unwrap_or (row_target key rows) default) operands) in
    takes_one at is_int [] by.change by.is by.reached Goal (λ x rest passes push.
    whole_case world state.objects body (λ v. Goal (v ∷ rest)) x passes (λ key fits_32.
    jump at (unwrap_or (row_target key rows) default) (chosen_among default (map (λ (row : SwitchRow). row.target) rows) (row_target key rows) (row_among key rows)) rest (push [] tt)))
