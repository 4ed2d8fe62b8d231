-- Frames that go on, at the next instruction or at a target.
use Rattle.std.proofs.Common.{◌≡◌, ℕ, Bool, true, false, ◌&&◌, inl, inr, nat_eq, List, [], ◌∷◌, Option, Some, if◌then◌else◌, sym, ap, subst, ◌∙◌}
use Rattle.std.specs.List.{AllByRecursion, Contains}
use Rattle.std.proofs.lemmas.Bool.{cases_Bool}
use Rattle.std.proofs.lemmas.Option.{same_Some}
use Rattle.std.proofs.lemmas.List.Elements.{Contains-append_right}
use Rattle.account.specs.Account.{Event, Need}
use Rattle.body_form.specs.declared.body.Body.{Body}
use Rattle.body_form.specs.declared.op.Op.{Op}
use Rattle.body_form.specs.declared.types.VFrame.{VFrame}
use Rattle.body_form.specs.Flow.{Ops, goes_on, targets, leads_to, successors}
use Rattle.jvm_model.specs.Bodies.{AreEach}
use Rattle.jvm_model.specs.State.{Value}
use Rattle.jvm_model.specs.TypesRules.{op_at, is_last}
use Rattle.typed_machine.specs.TypedMoves.{at_pc, does_next, jumps, branches, no_need}
use Rattle.typed_machine.specs.TypedState.{Object, Frame, State}
use Rattle.typed_machine.specs.TypedWorld.{World, pc_after}
use Rattle.type_safety.specs.Fitting.{Tables, ValueFits, LocalFits, ObjectFits, StaticsFit, OthersWait, StateFits}
use Rattle.type_safety.specs.Parts.{StandsAt}
use Rattle.type_safety.specs.Safety.{IsSet, MoveFits}
use Rattle.type_safety.proofs.fitting.Leaving.{leaves}
use Rattle.type_safety.proofs.fitting.SetBodies.{body_of, change_by}
use Rattle.type_safety.proofs.fitting.Standing.{wait_for}
use Rattle.type_safety.proofs.fitting.Values.{are_of_set}

-- ---- targets are successors

with_next : (goes : Bool) (next to : ℕ) (tos : List ℕ) → Contains tos to → Contains (if goes then next ∷ tos else tos) to
with_next true next to tos among = Contains-append_right (next ∷ []) tos to among
with_next false next to tos among = among

target_among : (instruction : Op) (to : ℕ) → Contains (targets instruction) to → (suffix : Ops) → Contains (leads_to instruction suffix) to
target_among instruction to among [] = among
target_among instruction to among (next ∷ suffix) = with_next (goes_on instruction) next.0 to (targets instruction) among

pub target_follows : (ops : Ops) (pc : ℕ) (instruction : Op) → op_at ops pc ≡ Some instruction → (to : ℕ) → Contains (targets instruction) to → Contains (successors ops pc) to
unfolding op_at
target_follows [] pc instruction e to among = cc
target_follows ((at, first) ∷ ops) pc instruction e to among =
    elim (cases_Bool (nat_eq at pc)) [
      | inl here ↦
          let same : first ≡ instruction = same_Some first instruction (sym (ap (λ b. if b then Some first else op_at ops pc) here) ∙ e) in
          subst (λ b. Contains (if b then leads_to first ops else successors ops pc) to) (sym here) (subst (λ op. Contains (leads_to op ops) to) (sym same) (target_among instruction to among ops))
      | inr later ↦
          let rest = target_follows ops pc instruction (sym (ap (λ b. if b then Some first else op_at ops pc) later) ∙ e) to among in
          subst (λ b. Contains (if b then leads_to first ops else successors ops pc) to) (sym later) rest
    ]

not_last : (goes last : Bool) → goes ≡ true → (goes && last) ≡ false → last ≡ false
not_last true last is e = e
not_last false last is e = cc

-- ---- a frame that goes on

-- objects and statics that fit, and frames that wait for one
pub record IsLeft (world : World) (tables : Tables) (new : State) (frame : Frame) (others : List Frame) : Type 0 where
  pub objects : AllByRecursion (ObjectFits world new.objects) new.objects
  pub statics : StaticsFit world new.objects new.statics
  pub wait : OthersWait world tables new.objects frame others

-- what an instruction leaves of a frame: the locals of one, and operands
pub record FitsAfter (world : World) (objects : List Object) (body : Body) (frame : Frame) (after : VFrame) (moved : Frame) (operands : List Value) : Type 0 where
  pub method : moved.method ≡ frame.method
  pub locals : AreEach (LocalFits world objects body) moved.locals after.locals
  pub stack : AreEach (ValueFits world objects body) operands after.stack

module _ (world : World) (tables : Tables) (set : IsSet world tables) (frame : Frame) (body : Body) (instruction : Op) (types after : VFrame)
    (stands : StandsAt world tables frame body instruction types after) (new : State) (others : List Frame) (left : IsLeft world tables new frame others) where
  goes_to : (moved : Frame) (operands : List Value) → FitsAfter world new.objects body frame after moved operands → (to : ℕ) → Contains (successors body.ops frame.pc) to
      → StateFits world tables (record { frames = at_pc moved to operands ∷ others; objects = new.objects; statics = new.statics; answers = new.answers })
  goes_to moved operands fit to among =
      let young = leaves world tables set new.objects (are_of_set world new.objects left.objects) frame (at_pc moved moved.pc operands) body instruction types after stands fit.method
      (record { locals = fit.locals; operands = fit.stack }) to among in
      record {
        frames = (young, wait_for world tables new.objects frame (at_pc moved to operands) fit.method others left.wait);
        objects = left.objects;
        statics = left.statics;
      }

  next_with : (need : Need) (events : List Event) (moved : Frame) (operands : List Value) → FitsAfter world new.objects body frame after moved operands → (to : ℕ) → Contains (successors body.ops frame.pc) to → (next : Option ℕ) → next ≡ Some to
      → MoveFits world tables (does_next need events new moved others next operands)
  next_with need events moved operands fit to among next is =
      subst (λ o. MoveFits world tables (does_next need events new moved others o operands)) (sym is) (goes_to moved operands fit to among)

  pub next_fits : goes_on instruction ≡ true → (need : Need) (events : List Event) (moved : Frame) (operands : List Value) → FitsAfter world new.objects body frame after moved operands
      → MoveFits world tables (does_next need events new moved others (pc_after body.ops frame.pc) operands)
  next_fits goes need events moved operands fit =
      let is = body_of world tables set frame.method body stands.found in
      let by = change_by world.files body frame.pc instruction types after stands.rule in
      let next = (is.facts.leads frame.pc instruction stands.at).next goes (not_last (goes_on instruction) (is_last body.ops frame.pc) goes by.ends) in
      next_with need events moved operands fit next.0 next.2 (pc_after body.ops frame.pc) next.1

  pub jump_fits : (target : ℕ) → Contains (targets instruction) target → (moved : Frame) (operands : List Value) → FitsAfter world new.objects body frame after moved operands → MoveFits world tables (jumps new moved others target operands)
  jump_fits target among moved operands fit = goes_to moved operands fit target (target_follows body.ops frame.pc instruction stands.at target among)

  pub branch_fits : goes_on instruction ≡ true → (taken : Bool) (target : ℕ) → Contains (targets instruction) target → (moved : Frame) (operands : List Value) → FitsAfter world new.objects body frame after moved operands
      → MoveFits world tables (branches taken new moved others target (pc_after body.ops frame.pc) operands)
  branch_fits goes true target among moved operands fit = jump_fits target among moved operands fit
  branch_fits goes false target among moved operands fit = next_fits goes no_need [] moved operands fit
