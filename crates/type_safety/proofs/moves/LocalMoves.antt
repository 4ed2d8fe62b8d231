-- Instructions on locals and on the operand stack: loads, stores, increments, and operands that move as they are.
use Rattle.std.proofs.Common.{◌≡◌, ℕ, Bool, true, false, ◌&&◌, nat_lt, List, [], ◌∷◌, ◌++◌, length, drop, Option, Some, None, option_and_then, if◌then◌else◌, refl, sym, ap, subst, ◌∙◌}
use Rattle.std.specs.Prelude.{ℤ, ◌+ℤ◌, slice_get}
use Rattle.std.proofs.lemmas.Int.{SFits-int_wrap}
use Rattle.std.specs.Int.{w32, int_wrap}
use Rattle.std.proofs.lemmas.Bool.{and_parts}
use Rattle.std.proofs.lemmas.Option.{same_Some, cond_some}
use Rattle.insn_form.specs.declared.StackForm.{StackForm}
use Rattle.insn_form.specs.declared.StackForm.TheVariants.{Pop, Pop2, Dup, DupX1, DupX2, Dup2, Dup2X1, Dup2X2, Swap}
use Rattle.insn_form.specs.declared.ValueKind.{ValueKind}
use Rattle.insn_form.specs.declared.ValueKind.TheVariants as value_kind
use Rattle.account.specs.Account.{Stuck}
use Rattle.body_form.specs.declared.body.Body.{Body}
use Rattle.body_form.specs.declared.op.Op.TheVariants as op
use Rattle.body_form.specs.declared.types.VFrame.{VFrame}
use Rattle.body_form.specs.declared.types.VType.{VType}
use Rattle.body_form.specs.declared.types.VType.TheVariants.{Top, Int}
use Rattle.jvm_model.specs.Bodies.{AreEach}
use Rattle.jvm_model.specs.Operands.{restacked}
use Rattle.jvm_model.specs.State.{Value, Whole}
use Rattle.jvm_model.specs.TypesFrames.{is_int}
use Rattle.jvm_model.specs.TypesRules.{Change, changed, plain, has_kind, moves}
use Rattle.jvm_model.specs.TypesRules as rules
use Rattle.typed_machine.specs.TypedMoves.{goes_on}
use Rattle.typed_machine.specs.TypedState.{Frame, State}
use Rattle.typed_machine.specs.TypedStep.{with_local}
use Rattle.typed_machine.specs.TypedStep as step
use Rattle.typed_machine.specs.TypedWorld.{World, pc_after}
use Rattle.type_safety.specs.Fitting.{Tables, ValueFits, LocalFits}
use Rattle.type_safety.specs.Safety.{MoveFits}
use Rattle.type_safety.proofs.moves.Going.{IsAt, change_at, goes, takes_none}
use Rattle.type_safety.proofs.moves.Lemmas.{MoveLemma}
use Rattle.type_safety.proofs.moves.Moving.{FitsAfter}
use Rattle.type_safety.proofs.fitting.Operands.{AreRead, each_read, each_length, each_set, each_put, int_with}

where_true : {X : Type 0} (b : Bool) (found : Option X) (x : X) → (if b then found else None) ≡ Some x → (b ≡ true) × (found ≡ Some x)
where_true true found x e = (refl, e)
where_true false found x e = cc

-- ---- kinds

no_top : (kind : ValueKind) → has_kind kind Top ≡ true → ⊥
no_top value_kind.Int e = cc
no_top value_kind.Ref e = cc

is_int_type : (type : VType) → is_int type ≡ true → type ≡ Int
is_int_type Int e = refl
is_int_type type e = cc

module _ (world : World) (tables : Tables) (state : State) (frame : Frame) (others : List Frame) (body : Body) (types after : VFrame) where
  abbrev Fits : Value → VType → Type 0
  Fits value type = ValueFits world state.objects body value type

  abbrev Held : Option Value → VType → Type 0
  Held local type = LocalFits world state.objects body local type

  -- the value of a local that may be there and set
  abbrev value_in : Option (Option Value) → Option Value
  value_in there = option_and_then (λ (value : Option Value). value) there

  -- ---- loads

  load_with : (kind : ValueKind) (local : ℕ) (at : IsAt world tables state frame others body (op.Load kind local) types after) (there : Option (Option Value)) (found : Option VType)
      → AreRead Held there found → (change : Change) → rules.load types kind found ≡ Some change → changed change types ≡ after
      → MoveFits world tables (step.load state frame others (pc_after body.ops frame.pc) (value_in there))
  load_with kind local at None None read change e reached = cc
  load_with kind local at (Some there) None read change e reached = cc
  load_with kind local at None (Some type) read change e reached = absurd read
  load_with kind local at (Some None) (Some type) read change e reached =
      absurd (no_top kind (subst (λ t. has_kind kind t ≡ true) read (where_true (has_kind kind type) (plain types [] (type ∷ [])) change e).0))
  load_with kind local at (Some (Some value)) (Some type) read change e reached =
      let is = where_true (has_kind kind type) (plain types [] (type ∷ [])) change e in
      goes at refl frame (value ∷ frame.operands) (takes_none at (type ∷ []) change is.1 reached frame refl at.has.locals (value ∷ []) (read, tt))

  -- ---- stores

  store_with : (kind : ValueKind) (local : ℕ) (at : IsAt world tables state frame others body (op.Store kind local) types after) (operands : List Value) (stack : List VType)
      → AreEach Fits operands stack → types.stack ≡ stack → (change : Change) → rules.store types kind local stack ≡ Some change → changed change types ≡ after
      → MoveFits world tables (step.store state frame others (pc_after body.ops frame.pc) local operands)
  store_with kind local at operands [] fits is change e reached = cc
  store_with kind local at [] (type ∷ stack) fits is change e reached = absurd fits
  store_with kind local at (value ∷ operands) (type ∷ stack) fits is change e reached =
      let put : Change = record { pops = 1; renames = None; stores = Some (local, type); pushes = []; pending = types.pending } in
      let holds = cond_some (has_kind kind type && nat_lt local (length types.locals)) put change e in
      let within = (and_parts (has_kind kind type) (nat_lt local (length types.locals)) holds.0).1 in
      let long : length frame.locals ≡ length types.locals = each_length Held frame.locals types.locals at.has.locals in
      let there : nat_lt local (length frame.locals) ≡ true = ap (nat_lt local) long ∙ within in
      let whole : changed put types ≡ after = ap (λ c. changed c types) holds.1 ∙ reached in
      let rest : AreEach Fits operands (drop 1 types.stack) = subst (λ ss. AreEach Fits operands (drop 1 ss)) (sym is) fits.1 in
      let moved = with_local frame local value in
      let fit : FitsAfter world state.objects body frame after moved operands = record {
        method = refl;
        locals = subst (λ (f : VFrame). AreEach Held moved.locals f.locals) whole (each_set Held frame.locals types.locals at.has.locals local (Some value) type fits.0);
        stack = subst (λ (f : VFrame). AreEach Fits operands f.stack) whole rest;
      } in
      let next = pc_after body.ops frame.pc in
      subst (λ b. MoveFits world tables (if b then goes_on state moved others next operands else Stuck)) (sym there) (goes at refl moved operands fit)

  -- ---- increments

  increment_with : (local : ℕ) (amount : ℤ) (at : IsAt world tables state frame others body (op.Inc local amount) types after) (there : Option (Option Value)) (found : Option VType)
      → AreRead Held there found → slice_get types.locals local ≡ found → (change : Change) → rules.increment types found ≡ Some change → changed change types ≡ after
      → MoveFits world tables (step.increment state frame others (pc_after body.ops frame.pc) local amount (value_in there))
  increment_with local amount at None None read is change e reached = cc
  increment_with local amount at (Some there) None read is change e reached = cc
  increment_with local amount at None (Some type) read is change e reached = absurd read
  increment_with local amount at (Some None) (Some type) read is change e reached =
      let holds = where_true (is_int type) (plain types [] []) change e in
      let f : false ≡ true = subst (λ t. is_int t ≡ true) read holds.0 in cc
  increment_with local amount at (Some (Some value)) (Some type) read is change e reached =
      let holds = where_true (is_int type) (plain types [] []) change e in
      let whole = int_with world state.objects body value type holds.0 read in
      let next = pc_after body.ops frame.pc in
      let result = Whole (int_wrap w32 (whole.0 +ℤ amount)) in
      let moved = with_local frame local result in
      let int = is_int_type type holds.0 in
      let here : Fits result type = subst (Fits result) (sym int) (int_wrap w32 (whole.0 +ℤ amount), refl, SFits-int_wrap w32 (whole.0 +ℤ amount)) in
      subst (λ v. MoveFits world tables (step.increment state frame others next local amount (Some v))) (sym whole.1)
      (goes at refl moved frame.operands
      (takes_none at [] change holds.1 reached moved refl (each_put Held frame.locals types.locals at.has.locals local (Some result) type is here) [] tt))

  -- ---- operands that move as they are

  -- the operands that move fit the types that the rule leaves
  record Restacks (form : StackForm) (operands : List Value) (stack : List VType) (change : Change) : Type 0 where
    result : List Value
    is : restacked form operands ≡ Some result
    fits : AreEach Fits result (change.pushes ++ drop change.pops stack)
    same : moves types change.pops change.pushes ≡ Some change

  restacked_as : (form : StackForm) (operands : List Value) (stack : List VType) (pops : ℕ) (pushes : List VType) (result : List Value) → restacked form operands ≡ Some result
      → AreEach Fits result (pushes ++ drop pops stack) → (change : Change) → moves types pops pushes ≡ Some change → Restacks form operands stack change
  restacked_as form operands stack pops pushes result is fits change e =
      let moved : Change = record { pops = pops; renames = None; stores = None; pushes = pushes; pending = types.pending } in
      subst (Restacks form operands stack) (same_Some moved change e) (record { result = result; is = is; fits = fits; same = refl })

  none_moves : (form : StackForm) (change : Change) → rules.restack types form [] ≡ Some change → ⊥
  none_moves Pop change e = cc
  none_moves Pop2 change e = cc
  none_moves Dup change e = cc
  none_moves DupX1 change e = cc
  none_moves DupX2 change e = cc
  none_moves Dup2 change e = cc
  none_moves Dup2X1 change e = cc
  none_moves Dup2X2 change e = cc
  none_moves Swap change e = cc

  restacks : (form : StackForm) (operands : List Value) (stack : List VType) → AreEach Fits operands stack → (change : Change) → rules.restack types form stack ≡ Some change
      → Restacks form operands stack change
  restacks form operands [] fits change e = absurd (none_moves form change e)
  restacks form [] (a ∷ stack) fits change e = absurd fits
  restacks form (x ∷ []) (a ∷ b ∷ stack) fits change e = absurd fits.1
  restacks form (x ∷ y ∷ []) (a ∷ b ∷ c ∷ stack) fits change e = absurd fits.1.1
  restacks form (x ∷ y ∷ z ∷ []) (a ∷ b ∷ c ∷ d ∷ stack) fits change e = absurd fits.1.1.1
  restacks Pop (x ∷ xs) (a ∷ stack) fits change e = restacked_as Pop (x ∷ xs) (a ∷ stack) 1 [] xs refl fits.1 change e
  restacks Pop2 (x ∷ y ∷ xs) (a ∷ b ∷ stack) fits change e = restacked_as Pop2 (x ∷ y ∷ xs) (a ∷ b ∷ stack) 2 [] xs refl fits.1.1 change e
  restacks Dup (x ∷ xs) (a ∷ stack) fits change e = restacked_as Dup (x ∷ xs) (a ∷ stack) 1 (a ∷ a ∷ []) (x ∷ x ∷ xs) refl (fits.0, fits) change e
  restacks DupX1 (x ∷ y ∷ xs) (a ∷ b ∷ stack) fits change e =
      restacked_as DupX1 (x ∷ y ∷ xs) (a ∷ b ∷ stack) 2 (a ∷ b ∷ a ∷ []) (x ∷ y ∷ x ∷ xs) refl (fits.0, (fits.1.0, (fits.0, fits.1.1))) change e
  restacks DupX2 (x ∷ y ∷ z ∷ xs) (a ∷ b ∷ c ∷ stack) fits change e =
      restacked_as DupX2 (x ∷ y ∷ z ∷ xs) (a ∷ b ∷ c ∷ stack) 3 (a ∷ b ∷ c ∷ a ∷ []) (x ∷ y ∷ z ∷ x ∷ xs) refl (fits.0, (fits.1.0, (fits.1.1.0, (fits.0, fits.1.1.1)))) change e
  restacks Dup2 (x ∷ y ∷ xs) (a ∷ b ∷ stack) fits change e =
      restacked_as Dup2 (x ∷ y ∷ xs) (a ∷ b ∷ stack) 2 (a ∷ b ∷ a ∷ b ∷ []) (x ∷ y ∷ x ∷ y ∷ xs) refl (fits.0, (fits.1.0, fits)) change e
  restacks Dup2X1 (x ∷ y ∷ z ∷ xs) (a ∷ b ∷ c ∷ stack) fits change e =
      restacked_as Dup2X1 (x ∷ y ∷ z ∷ xs) (a ∷ b ∷ c ∷ stack) 3 (a ∷ b ∷ c ∷ a ∷ b ∷ []) (x ∷ y ∷ z ∷ x ∷ y ∷ xs) refl
      (fits.0, (fits.1.0, (fits.1.1.0, (fits.0, (fits.1.0, fits.1.1.1))))) change e
  restacks Dup2X2 (x ∷ y ∷ z ∷ w ∷ xs) (a ∷ b ∷ c ∷ d ∷ stack) fits change e =
      restacked_as Dup2X2 (x ∷ y ∷ z ∷ w ∷ xs) (a ∷ b ∷ c ∷ d ∷ stack) 4 (a ∷ b ∷ c ∷ d ∷ a ∷ b ∷ []) (x ∷ y ∷ z ∷ w ∷ x ∷ y ∷ xs) refl
      (fits.0, (fits.1.0, (fits.1.1.0, (fits.1.1.1.0, (fits.0, (fits.1.0, fits.1.1.1.1)))))) change e
  restacks Swap (x ∷ y ∷ xs) (a ∷ b ∷ stack) fits change e = restacked_as Swap (x ∷ y ∷ xs) (a ∷ b ∷ stack) 2 (b ∷ a ∷ []) (y ∷ x ∷ xs) refl (fits.1.0, (fits.0, fits.1.1)) change e
  restacks form operands stack fits change e = cc

-- ---- each instruction

pub load_moves : (kind : ValueKind) (local : ℕ) → MoveLemma (op.Load kind local)
load_moves kind local parts world tables set state frame others is fits body types after stands has =
    let at : IsAt world tables state frame others body (op.Load kind local) types after = record { set = set; is = is; fits = fits; stands = stands; has = has } in
    let by = change_at at in
    let read = each_read (LocalFits world state.objects body) frame.locals types.locals has.locals local in
    load_with world tables state frame others body types after kind local at (slice_get frame.locals local) (slice_get types.locals local) read by.change by.is by.reached

pub store_moves : (kind : ValueKind) (local : ℕ) → MoveLemma (op.Store kind local)
store_moves kind local parts world tables set state frame others is fits body types after stands has =
    let at : IsAt world tables state frame others body (op.Store kind local) types after = record { set = set; is = is; fits = fits; stands = stands; has = has } in
    let by = change_at at in
    store_with world tables state frame others body types after kind local at frame.operands types.stack has.operands refl by.change by.is by.reached

pub inc_moves : (local : ℕ) (amount : ℤ) → MoveLemma (op.Inc local amount)
inc_moves local amount parts world tables set state frame others is fits body types after stands has =
    let at : IsAt world tables state frame others body (op.Inc local amount) types after = record { set = set; is = is; fits = fits; stands = stands; has = has } in
    let by = change_at at in
    let read = each_read (LocalFits world state.objects body) frame.locals types.locals has.locals local in
    increment_with world tables state frame others body types after local amount at (slice_get frame.locals local) (slice_get types.locals local) read refl by.change by.is by.reached

pub stack_moves : (form : StackForm) → MoveLemma (op.Stack form)
stack_moves form parts world tables set state frame others is fits body types after stands has =
    let at : IsAt world tables state frame others body (op.Stack form) types after = record { set = set; is = is; fits = fits; stands = stands; has = has } in
    let by = change_at at in
    let change = by.change in
    let moved : Change = record { pops = change.pops; renames = None; stores = None; pushes = change.pushes; pending = types.pending } in
    let restack = restacks world tables state frame others body types after form frame.operands types.stack has.operands change by.is in
    let whole : changed moved types ≡ after = ap (λ c. changed c types) (same_Some moved change restack.same) ∙ by.reached in
    let fit : FitsAfter world state.objects body frame after frame restack.result = record {
      method = refl;
      locals = subst (λ (f : VFrame). AreEach (LocalFits world state.objects body) frame.locals f.locals) whole has.locals;
      stack = subst (λ (f : VFrame). AreEach (ValueFits world state.objects body) restack.result f.stack) whole restack.fits;
    } in
    let next = pc_after body.ops frame.pc in
    subst (λ operands. MoveFits world tables (step.restack state frame others next operands)) (sym restack.is) (goes at refl frame restack.result fit)
