-- What the rules of types say of loads and stores: the local is there, and the value is of the kind of the instruction.
use Rattle.std.proofs.Common.{◌≡◌, inl, inr, ℕ, ◌<◌, Bool, true, false, ◌&&◌, not, nat_le, nat_lt, if◌then◌else◌, List, [], ◌∷◌, length, Option, Some, None, option_and_then, refl, sym, ap, subst, ◌∙◌, arith}
use Rattle.std.specs.Prelude.{slice_get}
use Rattle.std.proofs.lemmas.Bool.{and_parts}
use Rattle.std.proofs.lemmas.Bool.Decides.{nat_tests}
use Rattle.std.proofs.lemmas.List.Elements.{All-from_recursion, All-contains}
use Rattle.std.proofs.lemmas.Option.{none-some, slice_get_within}
use Rattle.account.specs.Account.{Stuck}
use Rattle.image_instr.specs.declared.insn.Kind.TheVariants as kind
use Rattle.insn_form.specs.declared.ValueKind.{ValueKind}
use Rattle.insn_form.specs.declared.ValueKind.TheVariants as value_kind
use Rattle.body_form.specs.declared.body.Body.{Body}
use Rattle.body_form.specs.declared.op.Op.{Op}
use Rattle.body_form.specs.declared.op.Op.TheVariants as op
use Rattle.body_form.specs.declared.types.VFrame.{VFrame}
use Rattle.body_form.specs.declared.types.VType.{VType}
use Rattle.body_form.specs.declared.types.VType.TheVariants as known
use Rattle.body_form.specs.Flow.{goes_on as leads_on}
use Rattle.jvm_model.specs.Bodies.{AreEach}
use Rattle.jvm_model.specs.State.{Value}
use Rattle.jvm_model.specs.TypesRight.{IsRight}
use Rattle.jvm_model.specs.TypesRules.{Change, change_of, has_kind, is_within, is_last}
use Rattle.jvm_model.specs.TypesRules as rules
use Rattle.mote_model.specs.SplitState as split
use Rattle.typed_machine.specs.TypedMoves.{goes_on}
use Rattle.typed_machine.specs.TypedState.{Object, State}
use Rattle.typed_machine.specs.TypedStep.{local_at, move}
use Rattle.typed_machine.specs.TypedStep as step
use Rattle.typed_machine.specs.TypedWorld.{World, pc_after}
use Rattle.type_safety.specs.Fitting.{IsWhole, ValueFits, LocalFits, FramesFit}
use Rattle.type_safety.specs.Safety.{MoveFits}
use Rattle.match_states.specs.MatchedFrames.{IsOfShape}
use Rattle.match_states.specs.Setting.{Setting, table_for}
use Rattle.match_views.proofs.MatchedLists.{each_count}
use Rattle.match_views.proofs.NextObjects.{each_there}
use Rattle.follow_numbers.specs.WideCode.{IsWideCode, StandsAt}
use Rattle.follow_numbers.proofs.NextStates.{body_at, found_at, typed_move, is_unstuck}

-- ---- values of a kind

pub whole_by : (world : World) (objects : List Object) (body : Body) (type : VType) → has_kind value_kind.Int type ≡ true → (value : Value) → ValueFits world objects body value type → IsWhole value
whole_by world objects body known.Int has value fits = fits
whole_by world objects body type has value fits = absurd cc

pub refers_by : (world : World) (objects : List Object) (body : Body) (type : VType) → has_kind value_kind.Ref type ≡ true → (value : Value) → ValueFits world objects body value type → IsOfShape kind.Ref value
refers_by world objects body known.Top has value fits = absurd cc
refers_by world objects body known.Int has value fits = absurd cc
refers_by world objects body known.Null has value fits = inl fits
refers_by world objects body (known.Ref type) has value (inl null) = inl null
refers_by world objects body (known.Ref type) has value (inr names) = inr (names.name, names.is)
refers_by world objects body (known.New pc) has value fits = inr (fits.name, fits.is)
refers_by world objects body known.This has value fits = inr (fits.name, fits.is)

-- ---- rules

pub where_true : {X : Type 0} (b : Bool) (found : Option X) (x : X) → (if b then found else None) ≡ Some x → (b ≡ true) × (found ≡ Some x)
where_true true found x e = (refl, e)
where_true false found x e = absurd (none-some x e)

pub and_then_some : {X Y : Type 0} (found : Option X) (reach : X → Option Y) (y : Y) → option_and_then reach found ≡ Some y → (x : X) × (found ≡ Some x)
and_then_some None reach y e = absurd (none-some y e)
and_then_some (Some x) reach y e = (x, refl)

module _ {setting : Setting} {state : State} {other : split.State} {instruction : Op} (code : IsWideCode setting) (here : StandsAt setting state other instruction) where
  -- the rule of the instruction, in the frame of types that the youngest frame fits
  pub record RuleHere : Type 0 where
    pub of : Body
    pub types : VFrame
    pub at : table_for setting (body_at here) here.frame.pc ≡ Some types
    pub locals : AreEach (LocalFits setting.world state.objects of) here.frame.locals types.locals
    pub operands : AreEach (ValueFits setting.world state.objects of) here.frame.operands types.stack
    pub within : is_within (body_at here) types ≡ true
    pub change : Change
    pub rule : change_of setting.world.files (body_at here) here.frame.pc instruction types ≡ Some change

  pub rule_here : RuleHere
  rule_here =
      let young = (subst (FramesFit setting.world setting.tables state.objects) here.frames_are here.match.fits.frames).0 in
      let body = body_at here in
      let pc = here.frame.pc in
      let Right : Body → Type 0 = λ b. IsRight setting.world.files b (table_for setting b) in
      let right = All-contains Right setting.world.bodies body (All-from_recursion Right setting.world.bodies code.compiled.typed.types) (found_at here).of_set in
      let at : table_for setting body pc ≡ Some young.types = ap (λ id. setting.tables id pc) (found_at here).method ∙ young.known in
      let holds = right.rules pc instruction young.types here.at at in
      let parts = where_true (is_within body young.types && not (leads_on instruction && is_last body.ops pc)) _ holds.after holds.rule in
      let change = and_then_some (change_of setting.world.files body pc instruction young.types) _ holds.after parts.1 in
      record {
        of = young.body;
        types = young.types;
        at = at;
        locals = young.has.locals;
        operands = young.has.operands;
        within = (and_parts (is_within body young.types) (not (leads_on instruction && is_last body.ops pc)) parts.0).0;
        change = change.0;
        rule = change.1;
      }

  -- a local of the frame is one of the body
  pub low_local : (local : ℕ) → local < length here.frame.locals → local < (body_at here).max_locals
  low_local local low =
      let count = each_count (LocalFits setting.world state.objects rule_here.of) here.frame.locals rule_here.types.locals rule_here.locals in
      let test = (and_parts (nat_le (length rule_here.types.stack) (body_at here).max_stack) (nat_le (length rule_here.types.locals) (body_at here).max_locals) rule_here.within).1 in
      grind (arith, nat_tests, count, test, low)

  -- a local that holds a value
  pub record Holds (local : ℕ) (value : Value) : Type 0 where
    pub low : local < length here.frame.locals
    pub type : VType
    pub there : slice_get rule_here.types.locals local ≡ Some type
    pub fits : ValueFits setting.world state.objects rule_here.of value type

  is_set : (value : Value) (found : Option (Option Value)) → option_and_then (λ (value : Option Value). value) found ≡ Some value → found ≡ Some (Some value)
  is_set value None is = absurd (none-some value is)
  is_set value (Some held) is = ap (λ (o : Option Value). Some o) is

  pub holds : (local : ℕ) (value : Value) → local_at here.frame local ≡ Some value → Holds local value
  holds local value is =
      let set = is_set value (slice_get here.frame.locals local) is in
      let fits = each_there (LocalFits setting.world state.objects rule_here.of) here.frame.locals rule_here.types.locals rule_here.locals local (Some value) set in
      record { low = slice_get_within here.frame.locals local (Some value) set; type = fits.0; there = fits.1; fits = fits.2 }

  pub cannot_be_stuck : move setting.world state ≡ Stuck → ⊥
  cannot_be_stuck stuck = subst (MoveFits setting.world setting.tables) stuck (is_unstuck here code)

-- ---- loads

module _ {setting : Setting} {state : State} {other : split.State} (code : IsWideCode setting) (of_kind : ValueKind) (local : ℕ) (here : StandsAt setting state other (op.Load of_kind local)) where
  abbrev next : Option ℕ
  next = pc_after (body_at here).ops here.frame.pc

  -- the local holds a value of the kind
  pub record Loads : Type 0 where
    pub value : Value
    pub at : local_at here.frame local ≡ Some value
    pub typed : move setting.world state ≡ goes_on state here.frame here.frames next (value ∷ here.frame.operands)
    pub low : local < length here.frame.locals
    pub type : VType
    pub there : slice_get (rule_here code here).types.locals local ≡ Some type
    pub kind : has_kind of_kind type ≡ true
    pub fits : ValueFits setting.world state.objects (rule_here code here).of value type

  loads_in : (found : Option Value) → local_at here.frame local ≡ found → move setting.world state ≡ step.load state here.frame here.frames next found → Loads
  loads_in None at typed = absurd (cannot_be_stuck code here typed)
  loads_in (Some value) at typed =
      let held = holds code here local value at in
      let rule = rule_here code here in
      let is = sym (ap (rules.load rule.types of_kind) held.there) ∙ rule.rule in
      record {
        value = value;
        at = at;
        typed = typed;
        low = held.low;
        type = held.type;
        there = held.there;
        kind = (where_true (has_kind of_kind held.type) _ rule.change is).0;
        fits = held.fits;
      }

  pub loads : Loads
  loads = loads_in (local_at here.frame local) refl (typed_move here)

-- ---- stores

module _ {setting : Setting} {state : State} {other : split.State} (code : IsWideCode setting) (of_kind : ValueKind) (local : ℕ) (here : StandsAt setting state other (op.Store of_kind local)) where
  -- the top is of the kind, and the local is there
  pub record Stores : Type 0 where
    pub value : Value
    pub below : List Value
    pub are : here.frame.operands ≡ value ∷ below
    pub low : local < length here.frame.locals
    pub type : VType
    pub kind : has_kind of_kind type ≡ true
    pub fits : ValueFits setting.world state.objects (rule_here code here).of value type

  stores_in : (operands : List Value) (stack : List VType) → here.frame.operands ≡ operands → AreEach (ValueFits setting.world state.objects (rule_here code here).of) operands stack
      → rules.store (rule_here code here).types of_kind local stack ≡ Some (rule_here code here).change → Stores
  stores_in operands [] are fits is = absurd (none-some (rule_here code here).change is)
  stores_in [] (type ∷ stack) are fits is = absurd fits
  stores_in (value ∷ below) (type ∷ stack) are fits is =
      let rule = rule_here code here in
      let holds = where_true (has_kind of_kind type && nat_lt local (length rule.types.locals)) _ rule.change is in
      let parts = and_parts (has_kind of_kind type) (nat_lt local (length rule.types.locals)) holds.0 in
      let count = each_count (LocalFits setting.world state.objects rule.of) here.frame.locals rule.types.locals rule.locals in
      let test = parts.1 in
      record { value = value; below = below; are = are; low = grind (arith, nat_tests, count, test); type = type; kind = parts.0; fits = fits.0 }

  pub stores : Stores
  stores = stores_in here.frame.operands (rule_here code here).types.stack refl (rule_here code here).operands (rule_here code here).rule
