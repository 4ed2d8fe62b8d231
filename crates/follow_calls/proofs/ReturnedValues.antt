-- What the rules of types say of a method that returns a value: the value is of the kind of the instruction, and fits the result.
use Rattle.std.proofs.Common.{◌≡◌, Bool, true, false, ◌&&◌, if◌then◌else◌, List, [], ◌∷◌, length, Option, Some, None, option_and_then, refl}
use Rattle.std.proofs.lemmas.Bool.{and_parts}
use Rattle.std.proofs.lemmas.Option.{none-some}
use Rattle.class_pool.specs.declared.descriptor.Kind.{Kind}
use Rattle.insn_form.specs.declared.ValueKind.{ValueKind}
use Rattle.body_form.specs.declared.op.Op.TheVariants as op
use Rattle.body_form.specs.declared.types.VType.{VType}
use Rattle.jvm_model.specs.Bodies.{AreEach}
use Rattle.jvm_model.specs.State.{Value}
use Rattle.jvm_model.specs.TypesFrames.{fits_kind}
use Rattle.jvm_model.specs.TypesRules.{Change, has_kind, takes, returned}
use Rattle.mote_model.specs.SplitState as split
use Rattle.typed_machine.specs.TypedState.{State}
use Rattle.type_safety.specs.Fitting.{ValueFits}
use Rattle.match_states.specs.Setting.{Setting}
use Rattle.follow_numbers.specs.WideCode.{IsWideCode, StandsAt}
use Rattle.follow_numbers.proofs.NextStates.{body_at}
use Rattle.follow_operands.proofs.LocalRules.{rule_here, where_true}

module _ {setting : Setting} {state : State} {other : split.State} (code : IsWideCode setting) (of_kind : ValueKind) (here : StandsAt setting state other (op.Return (Some of_kind))) where
  -- the top is what is returned
  pub record ReturnsValue : Type 0 where
    pub value : Value
    pub below : List Value
    pub are : here.frame.operands ≡ value ∷ below
    pub result : Kind
    pub declared : (body_at here).result ≡ Some result
    pub type : VType
    pub kind : has_kind of_kind type ≡ true
    pub taken : fits_kind setting.world.files result type ≡ true
    pub fits : ValueFits setting.world state.objects (rule_here code here).of value type

  abbrev after_tests : List VType → List (VType → Bool) → Option Change
  after_tests stack tests =
      if takes tests stack then Some (record { pops = length tests; renames = None; stores = None; pushes = []; pending = (rule_here code here).types.pending }) else None

  returns_in : (pending : Bool) (result : Option Kind) (operands : List Value) (stack : List VType) → (body_at here).result ≡ result → here.frame.operands ≡ operands
      → AreEach (ValueFits setting.world state.objects (rule_here code here).of) operands stack
      → (if pending then None else option_and_then (after_tests stack) (returned setting.world.files result (Some of_kind))) ≡ Some (rule_here code here).change → ReturnsValue
  unfolding takes
  returns_in true result operands stack declared are fits is = absurd (none-some (rule_here code here).change is)
  returns_in false None operands stack declared are fits is = absurd (none-some (rule_here code here).change is)
  returns_in false (Some result) [] [] declared are fits is = absurd (none-some (rule_here code here).change is)
  returns_in false (Some result) [] (type ∷ stack) declared are fits is = absurd fits
  returns_in false (Some result) (value ∷ below) [] declared are fits is = absurd fits
  returns_in false (Some result) (value ∷ below) (type ∷ stack) declared are fits is =
      let holds = where_true ((has_kind of_kind type && fits_kind setting.world.files result type) && true) _ (rule_here code here).change is in
      let both = and_parts (has_kind of_kind type && fits_kind setting.world.files result type) true holds.0 in
      let parts = and_parts (has_kind of_kind type) (fits_kind setting.world.files result type) both.0 in
      record { value = value; below = below; are = are; result = result; declared = declared; type = type; kind = parts.0; taken = parts.1; fits = fits.0 }

  pub returns_value : ReturnsValue
  returns_value = returns_in (rule_here code here).types.pending (body_at here).result here.frame.operands (rule_here code here).types.stack refl refl (rule_here code here).operands (rule_here code here).rule
