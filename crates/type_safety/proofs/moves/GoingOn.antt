-- A frame goes on behind its instruction, where it fits what the instruction's rule leaves; and what throws throws.
use Rattle.std.proofs.Common.{◌≡◌, ℕ, suc, Bool, true, false, ◌&&◌, not, nat_eq, List, [], ◌∷◌, Option, Some, None, option_and_then, if◌then◌else◌, refl, sym, ap, subst, ◌∙◌, arith}
use Rattle.std.specs.List.{AllByRecursion, Contains}
use Rattle.std.proofs.lemmas.Bool.{and_parts, eqb-true}
use Rattle.std.proofs.lemmas.Option.{same_Some, cond_some}
use Rattle.account.specs.Account.{Event, Need}
use Rattle.class_pool.specs.declared.types.MemberId.{MemberId}
use Rattle.class_file.specs.declared.record.ClassFile.{ClassFile}
use Rattle.body_form.specs.declared.body.Body.{Body}
use Rattle.body_form.specs.declared.op.Op.{Op}
use Rattle.body_form.specs.declared.types.VFrame.{VFrame}
use Rattle.body_form.specs.Flow.{goes_on, successors}
use Rattle.jvm_model.specs.State.{Value}
use Rattle.jvm_model.specs.TypesRules.{Change, is_last, is_within, where_within, change_of, changed, frame_after}
use Rattle.typed_machine.specs.TypedMoves.{at_pc, does_next, throws, null_pointer_exception, incompatible_class_change_error}
use Rattle.typed_machine.specs.TypedState.{Object, Frame, State}
use Rattle.typed_machine.specs.TypedWorld.{World, body_among, is_of, pc_after}
use Rattle.type_safety.specs.Facts.{BodyFacts}
use Rattle.type_safety.specs.Fitting.{Tables, FrameFits, OthersWait, ObjectFits, StaticsFit, StateFits}
use Rattle.type_safety.specs.Parts.{AreParts, StandsAt}
use Rattle.type_safety.specs.Safety.{IsSet, MoveFits, method_of}
use Rattle.type_safety.proofs.fitting.MachineThrows.{null_thrown, change_thrown}

-- ---- the body of a method

-- a body that is found for a method is among the bodies, and is that method's
pub record IsFound (bodies : List Body) (id : MemberId) (body : Body) : Type 0 where
  pub among : Contains bodies body
  pub method : method_of body ≡ id

abbrev member_id : ℕ → ℕ → MemberId
member_id class member = record { class = class; member = member }

later : (other : Body) (bodies : List Body) (body : Body) → Contains bodies body → Contains (other ∷ bodies) body
later other bodies body has = let lt = has.1 in (suc has.0, omega arith, has.2)

-- the first one, or one after it
first_or_later : (id : MemberId) (other : Body) (bodies : List Body) (body : Body) → (body_among bodies id ≡ Some body → IsFound bodies id body)
    → (b : Bool) → is_of id other ≡ b → (if b then Some other else body_among bodies id) ≡ Some body → IsFound (other ∷ bodies) id body
first_or_later id other bodies body rest true is found =
    let parts = and_parts (nat_eq id.class other.class) (nat_eq id.member other.method) is in
    subst (IsFound (other ∷ bodies) id) (same_Some other body found)
    (record {
      among = (0, omega arith, refl);
      method = ap (λ (c : ℕ). member_id c other.method) (sym (eqb-true id.class other.class parts.0)) ∙ ap (λ (m : ℕ). member_id id.class m) (sym (eqb-true id.member other.method parts.1));
    })
first_or_later id other bodies body rest false is found = let there = rest found in record { among = later other bodies body there.among; method = there.method }

pub found_body : (bodies : List Body) (id : MemberId) (body : Body) → body_among bodies id ≡ Some body → IsFound bodies id body
unfolding body_among
found_body [] id body e = cc
found_body (other ∷ bodies) id body e = first_or_later id other bodies body (found_body bodies id body) (is_of id other) refl e

-- ---- the parts of a rule

pub record RuleParts (files : List ClassFile) (body : Body) (pc : ℕ) (instruction : Op) (types after : VFrame) : Type 0 where
  pub not_last : (goes_on instruction && is_last body.ops pc) ≡ false
  pub change : Change
  pub is : change_of files body pc instruction types ≡ Some change
  pub leaves : changed change types ≡ after

opposite : (b : Bool) → not b ≡ true → b ≡ false
opposite true e = cc
opposite false e = refl

where_true : {X : Type 0} (b : Bool) (found : Option X) (x : X) → (if b then found else None) ≡ Some x → (b ≡ true) × (found ≡ Some x)
where_true true found x e = (refl, e)
where_true false found x e = cc

pub rule_parts : (files : List ClassFile) (body : Body) (pc : ℕ) (instruction : Op) (types after : VFrame) → frame_after files body pc instruction types ≡ Some after → RuleParts files body pc instruction types after
rule_parts files body pc instruction types after e = with_change (change_of files body pc instruction types) refl (tested.1)
  where
    tested : ((is_within body types && not (goes_on instruction && is_last body.ops pc)) ≡ true)
        × (option_and_then (λ change. where_within body (changed change types)) (change_of files body pc instruction types) ≡ Some after)
    tested =
        where_true (is_within body types && not (goes_on instruction && is_last body.ops pc))
        (option_and_then (λ change. where_within body (changed change types)) (change_of files body pc instruction types)) after e

    with_change : (found : Option Change) → change_of files body pc instruction types ≡ found → option_and_then (λ change. where_within body (changed change types)) found ≡ Some after
        → RuleParts files body pc instruction types after
    with_change None is f = cc
    with_change (Some change) is f =
        record {
          not_last = opposite (goes_on instruction && is_last body.ops pc) (and_parts (is_within body types) (not (goes_on instruction && is_last body.ops pc)) tested.0).1;
          change = change;
          is = is;
          leaves = (cond_some (is_within body (changed change types)) (changed change types) after f).1;
        }

-- ---- frames that wait

module _ (world : World) (tables : Tables) where
  -- it is the method of the frame above that counts
  pub wait_below : (objects : List Object) (above other : Frame) (others : List Frame) → other.method ≡ above.method → OthersWait world tables objects above others → OthersWait world tables objects other others
  wait_below objects above other [] same wait = same ∙ wait
  wait_below objects above other (frame ∷ others) same wait = (
    record {
      body = wait.0.body;
      found = wait.0.found;
      instruction = wait.0.instruction;
      used = wait.0.used;
      at = wait.0.at;
      calls = wait.0.calls;
      types = wait.0.types;
      known = wait.0.known;
      change = wait.0.change;
      rule = wait.0.rule;
      has = wait.0.has;
      callee = wait.0.callee;
      callee_found = ap (body_among world.bodies) same ∙ wait.0.callee_found;
      result = wait.0.result;
    },
    wait.1,
  )

  module _ (set : IsSet world tables) where
    pub facts_of : (id : MemberId) (body : Body) → body_among world.bodies id ≡ Some body → BodyFacts world body
    facts_of id body found = set.facts body (found_body world.bodies id body found).among

    -- ---- going on

    pub going_on : AreParts → (state : State) (frame : Frame) (others : List Frame) (body : Body) (types after : VFrame) (instruction : Op) → StandsAt world tables frame body instruction types after
        → OthersWait world tables state.objects frame others → AllByRecursion (ObjectFits world state.objects) state.objects → StaticsFit world state.objects state.statics
        → goes_on instruction ≡ true → (need : Need) (events : List Event) (operands : List Value) → FrameFits world state.objects body (at_pc frame frame.pc operands) after
        → MoveFits world tables (does_next need events state frame others (pc_after body.ops frame.pc) operands)
    going_on parts state frame others body types after instruction stands wait objects statics goes need events operands has =
        subst (λ next. MoveFits world tables (does_next need events state frame others next operands)) (sym leads.1)
        (record {
          frames = (parts.leaving world tables set state.objects objects frame (at_pc frame frame.pc operands) body instruction types after stands refl has leads.0 leads.2, wait_below state.objects frame (at_pc frame leads.0 operands) others refl wait);
          objects = objects;
          statics = statics;
        })
      where
        rule : RuleParts world.files body frame.pc instruction types after
        rule = rule_parts world.files body frame.pc instruction types after stands.rule

        not_last : is_last body.ops frame.pc ≡ false
        not_last = sym (ap (λ b. b && is_last body.ops frame.pc) goes) ∙ rule.not_last

        leads : (to : ℕ) × (pc_after body.ops frame.pc ≡ Some to) × Contains (successors body.ops frame.pc) to
        leads = ((facts_of frame.method body stands.found).leads frame.pc instruction stands.at).next goes not_last

  -- ---- throws

  pub null_throws : AreParts → IsSet world tables → (state : State) → StateFits world tables state → MoveFits world tables (throws world state state.frames null_pointer_exception)
  null_throws parts set state fits = let thrown = null_thrown world set.closed in parts.throwing world tables set state fits null_pointer_exception thrown.concrete thrown.throwable

  pub change_throws : AreParts → IsSet world tables → (state : State) → StateFits world tables state → MoveFits world tables (throws world state state.frames incompatible_class_change_error)
  change_throws parts set state fits = let thrown = change_thrown world set.closed in parts.throwing world tables set state fits incompatible_class_change_error thrown.concrete thrown.throwable
