-- What a move of the youngest frame goes on to fits: the frame goes on behind its instruction, or an exception is thrown.
use Rattle.std.proofs.Common.{◌≡◌, ◌⊎◌, ℕ, ◌<◌, Bool, true, false, ◌&&◌, not, nat_eq, inl, inr, List, [], ◌∷◌, ◌++◌, length, drop, Option, Some, None, option_and_then, if◌then◌else◌, refl, sym, ap, subst, ◌∙◌, arith}
use Rattle.std.specs.Prelude.{slice_get, slice_set}
use Rattle.std.specs.Option.{option_map_or}
use Rattle.std.specs.List.{AllByRecursion, Contains}
use Rattle.std.proofs.lemmas.Bool.{and_parts}
use Rattle.std.proofs.lemmas.List.Elements.{Contains-append_left, Contains-append_right, Contains-push}
use Rattle.std.proofs.lemmas.Option.{cond_some}
use Rattle.account.specs.Account.{Event, Need, Stuck}
use Rattle.class_pool.specs.declared.types.MemberId.{MemberId}
use Rattle.class_file.specs.declared.record.ClassFile.{ClassFile}
use Rattle.class_file.specs.Rules.{is_abstract, is_interface}
use Rattle.class_tree.specs.Set.{flags_of}
use Rattle.class_tree.specs.Subtypes.{IsSubtype, Over, Super, class_type, directly_below}
use Rattle.class_tree.proofs.merging.MergeLaws.{below}
use Rattle.body_form.specs.declared.body.Body.{Body}
use Rattle.body_form.specs.declared.op.Op.{Op}
use Rattle.body_form.specs.declared.types.VFrame.{VFrame}
use Rattle.body_form.specs.declared.types.VType.{VType}
use Rattle.body_form.specs.Flow.{Ops, goes_on as leads_on, successors}
use Rattle.jvm_model.specs.Bodies.{AreEach}
use Rattle.jvm_model.specs.State.{Value, Null}
use Rattle.jvm_model.specs.TypesNames.{NamesKnown}
use Rattle.jvm_model.specs.TypesRules.{Change, op_at, takes, plain, changed, change_of, is_last, is_within, where_within, frame_after}
use Rattle.typed_machine.specs.TypedMoves.{TypedMove, at_pc, does_next, throws, with_object_of, null_pointer_exception}
use Rattle.typed_machine.specs.TypedState.{Object, Frame, State, with_frames, with_object, with_objects}
use Rattle.typed_machine.specs.TypedWorld.{World, body_among, is_of, pc_after}
use Rattle.type_safety.specs.Facts.{IsConcrete, ClassFits, Named, BodyFacts}
use Rattle.type_safety.specs.Fitting.{Tables, NamesObject, ValueFits, FrameFits, ObjectFits, StaticsFit, OthersWait, FramesFit, StateFits}
use Rattle.type_safety.specs.Parts.{SameShape, Grown, GrownFits, StandsAt, AreParts}
use Rattle.type_safety.specs.Safety.{IsSet, MoveFits}
use Rattle.type_safety.proofs.fitting.GrownObjects.{all_at, all_append, all_set, grown_itself, grown_append, grown_set, object_grows, objects_grow, statics_grow}

-- the youngest frame of a state that fits stands at an instruction
pub record At (world : World) (tables : Tables) (state : State) (frame : Frame) (others : List Frame) (body : Body) (instruction : Op) (types after : VFrame) : Type 0 where
  pub parts : AreParts
  pub set : IsSet world tables
  pub frames : state.frames ≡ frame ∷ others
  pub fits : StateFits world tables state
  pub stands : StandsAt world tables frame body instruction types after
  pub has : FrameFits world state.objects body frame types

-- a state after a move: its objects are those before, of the same shapes, or more, and all of it but frames fits
pub record Follows (world : World) (tables : Tables) (state next : State) : Type 0 where
  pub grown : Grown state.objects next.objects
  pub objects : AllByRecursion (ObjectFits world next.objects) next.objects
  pub statics : StaticsFit world next.objects next.statics

-- ---- bodies and rules

body_here : (here : Bool) (body : Body) (bodies : List Body) (found : Option Body) (one : Body) → (found ≡ Some one → Contains bodies one)
    → (if here then Some body else found) ≡ Some one → Contains (body ∷ bodies) one
body_here true body bodies found one rest e =
    let same : body ≡ one = cc in subst (Contains (body ∷ bodies)) same (Contains-append_left (body ∷ []) bodies body (Contains-push [] body))
body_here false body bodies found one rest e = Contains-append_right (body ∷ []) bodies one (rest e)

pub body_contained : (bodies : List Body) (id : MemberId) (one : Body) → body_among bodies id ≡ Some one → Contains bodies one
unfolding body_among
body_contained [] id one e = cc
body_contained (body ∷ bodies) id one e = body_here (is_of id body) body bodies (body_among bodies id) one (body_contained bodies id one) e

op_here : (files : List ClassFile) (here : Bool) (first one : Op) (found : Option Op) → NamesKnown files first → (found ≡ Some one → NamesKnown files one) → (if here then Some first else found) ≡ Some one → NamesKnown files one
op_here files true first one found known rest e = let same : first ≡ one = cc in subst (NamesKnown files) same known
op_here files false first one found known rest e = rest e

op_known : (files : List ClassFile) (ops : Ops) → AllByRecursion (λ x. NamesKnown files x.1) ops → (pc : ℕ) (one : Op) → op_at ops pc ≡ Some one → NamesKnown files one
unfolding op_at
op_known files [] all pc one e = cc
op_known files ((start, first) ∷ ops) all pc one e = op_here files (nat_eq start pc) first one (op_at ops pc) all.0 (op_known files ops all.1 pc one) e

-- the rule of an instruction holds, and gives what is known after it
pub record HasRule (files : List ClassFile) (body : Body) (pc : ℕ) (instruction : Op) (types after : VFrame) : Type 0 where
  pub change : Change
  pub is : change_of files body pc instruction types ≡ Some change
  pub gives : changed change types ≡ after
  pub last : (leads_on instruction && is_last body.ops pc) ≡ false

opposite : (b : Bool) → not b ≡ true → b ≡ false
opposite false e = refl
opposite true e = cc

rule_within : (files : List ClassFile) (body : Body) (pc : ℕ) (instruction : Op) (types after : VFrame) (found : Option Change) → change_of files body pc instruction types ≡ found
    → (leads_on instruction && is_last body.ops pc) ≡ false → option_and_then (λ change. where_within body (changed change types)) found ≡ Some after → HasRule files body pc instruction types after
rule_within files body pc instruction types after None is last e = cc
rule_within files body pc instruction types after (Some change) is last e =
    record { change = change; is = is; gives = (cond_some (is_within body (changed change types)) (changed change types) after e).1; last = last }

where_true : {X : Type 0} (b : Bool) (found : Option X) (x : X) → (if b then found else None) ≡ Some x → (b ≡ true) × (found ≡ Some x)
where_true true found x e = (refl, e)
where_true false found x e = cc

pub rule_of : (files : List ClassFile) (body : Body) (pc : ℕ) (instruction : Op) (types after : VFrame) → frame_after files body pc instruction types ≡ Some after → HasRule files body pc instruction types after
rule_of files body pc instruction types after e =
    let found = change_of files body pc instruction types in
    let falls = leads_on instruction && is_last body.ops pc in
    let parts = where_true (is_within body types && not falls) (option_and_then (λ change. where_within body (changed change types)) found) after e in
    rule_within files body pc instruction types after found refl (opposite falls (and_parts (is_within body types) (not falls) parts.0).1) parts.1

-- operands that pass tests are taken, and others are pushed
pub record PlainRule (tests : List (VType → Bool)) (pushes : List VType) (types after : VFrame) : Type 0 where
  pub taken : takes tests types.stack ≡ true
  pub gives : record { locals = types.locals; stack = pushes ++ drop (length tests) types.stack; pending = types.pending } ≡ after

pub plain_gives : (tests : List (VType → Bool)) (pushes : List VType) (types after : VFrame) (change : Change) → plain types tests pushes ≡ Some change → changed change types ≡ after → PlainRule tests pushes types after
plain_gives tests pushes types after change e gives =
    let is = cond_some (takes tests types.stack) _ change e in
    record { taken = is.0; gives = ap (λ (c : Change). changed c types) is.1 ∙ gives }

-- ---- classes that the machine makes

module _ (world : World) where
  runtime_below : IsSubtype world.files (class_type 3) (class_type 1)
  runtime_below = Over (class_type 2) (Super 3 2 refl) (Super 2 1 refl)

  pub exception_fits : (class : ℕ) → directly_below world.files class 3 ≡ true → IsSubtype world.files (class_type class) (class_type 1)
  exception_fits class e = Over (class_type 3) (Super class 3 e) runtime_below

  pub bounds_fits : IsSubtype world.files (class_type 10) (class_type 1)
  bounds_fits = Over (class_type 9) (Super 10 9 refl) (exception_fits 9 refl)

-- ---- moves

module _ {world : World} {tables : Tables} {state : State} {frame : Frame} {others : List Frame} {body : Body} {instruction : Op} {types after : VFrame} (at : At world tables state frame others body instruction types after) where
  pub facts : BodyFacts world body
  facts = at.set.facts body (body_contained world.bodies frame.method body at.stands.found)

  pub named : Named world body.class instruction
  named = facts.named frame.pc instruction at.stands.at

  pub rule : HasRule world.files body frame.pc instruction types after
  rule = rule_of world.files body frame.pc instruction types after at.stands.rule

  pub plain_rule : (tests : List (VType → Bool)) (pushes : List VType) → change_of world.files body frame.pc instruction types ≡ plain types tests pushes → PlainRule tests pushes types after
  plain_rule tests pushes e = plain_gives tests pushes types after rule.change (sym e ∙ rule.is) rule.gives

  pub names_known : NamesKnown world.files instruction
  names_known = op_known world.files body.ops facts.of_set.ops frame.pc instruction at.stands.at

  -- ---- going on

  others_same : (pc : ℕ) (operands : List Value) (objects : List Object) (above : Frame) (rest : List Frame) → OthersWait world tables objects above rest → OthersWait world tables objects (at_pc above pc operands) rest
  others_same pc operands objects above [] wait = wait
  others_same pc operands objects above (next ∷ rest) wait =
      let w = wait.0 in (
        record {
          body = w.body;
          found = w.found;
          instruction = w.instruction;
          used = w.used;
          at = w.at;
          calls = w.calls;
          types = w.types;
          known = w.known;
          change = w.change;
          rule = w.rule;
          has = w.has;
          callee = w.callee;
          callee_found = w.callee_found;
          result = w.result;
        },
        wait.1,
      )

  pub waiting : OthersWait world tables state.objects frame others
  waiting = let fit : FramesFit world tables state.objects (frame ∷ others) = subst (FramesFit world tables state.objects) at.frames at.fits.frames in fit.1

  -- what fits goes on to fit in a state that follows
  pub grows : (next : State) → Follows world tables state next → GrownFits world tables state.objects next.objects
  grows next follows = at.parts.growing world tables state.objects next.objects follows.grown

  next_fits : (next : State) (values : List Value) (to : ℕ) → Contains (successors body.ops frame.pc) to → Follows world tables state next
      → FrameFits world next.objects body (at_pc frame frame.pc values) after → StateFits world tables (with_frames next (at_pc frame to values ∷ others))
  next_fits next values to leads follows fits =
      record {
        frames = (
          at.parts.leaving world tables at.set next.objects follows.objects frame (at_pc frame frame.pc values) body instruction types after at.stands refl fits to leads,
          others_same to values next.objects frame others ((grows next follows).others frame others waiting),
        );
        objects = follows.objects;
        statics = follows.statics;
      }

  pub goes_to : leads_on instruction ≡ true → (need : Need) (events : List Event) (next : State) (values : List Value) → Follows world tables state next
      → FrameFits world next.objects body (at_pc frame frame.pc values) after → MoveFits world tables (does_next need events next frame others (pc_after body.ops frame.pc) values)
  goes_to on need events next values follows fits =
      let last : is_last body.ops frame.pc ≡ false = sym (ap (λ b. b && is_last body.ops frame.pc) on) ∙ rule.last in
      let leads = (facts.leads frame.pc instruction at.stands.at).next on last in
      subst (λ pc. MoveFits world tables (does_next need events next frame others pc values)) (sym leads.1) (next_fits next values leads.0 leads.2 follows fits)

  pub steady : Follows world tables state state
  steady = record { grown = grown_itself state.objects; objects = at.fits.objects; statics = at.fits.statics }

  -- objects are appended, or one is set to another of its shape
  pub append_follows : (more : List Object) → AllByRecursion (ObjectFits world (state.objects ++ more)) more → Follows world tables state (with_objects state more)
  append_follows more fit =
      let objects = state.objects ++ more in
      let grown = grown_append state.objects more in
      let grow = at.parts.growing world tables state.objects objects grown in
      record {
        grown = grown;
        objects = all_append (ObjectFits world objects) state.objects more (objects_grow world tables state.objects objects grow state.objects at.fits.objects) fit;
        statics = statics_grow world tables state.objects objects grow state.statics at.fits.statics;
      }

  pub set_follows : (name : ℕ) (old new : Object) → slice_get state.objects name ≡ Some old → SameShape old new
      → ((objects : List Object) → GrownFits world tables state.objects objects → ObjectFits world objects old → ObjectFits world objects new) → Follows world tables state (with_object state name new)
  set_follows name old new there same fit =
      let objects = slice_set state.objects name new in
      let grown = grown_set state.objects name old new there same in
      let grow = at.parts.growing world tables state.objects objects grown in
      let before = object_grows world tables state.objects objects grow old (all_at (ObjectFits world state.objects) state.objects at.fits.objects name old there) in
      record {
        grown = grown;
        objects = all_set (ObjectFits world objects) state.objects name new (fit objects grow before) (objects_grow world tables state.objects objects grow state.objects at.fits.objects);
        statics = statics_grow world tables state.objects objects grow state.statics at.fits.statics;
      }

  -- the frame goes on with these operands pushed in place of those that the tests took of a stack
  abbrev pub Goes : List (VType → Bool) → List VType → List VType → Type 0
  Goes tests pushes stack =
      (need : Need) (events : List Event) (next : State) (values : List Value) → Follows world tables state next → AreEach (ValueFits world next.objects body) values (pushes ++ drop (length tests) stack)
      → MoveFits world tables (does_next need events next frame others (pc_after body.ops frame.pc) values)

  -- by a plain rule
  pub goes_by : (tests : List (VType → Bool)) (pushes : List VType) → leads_on instruction ≡ true → PlainRule tests pushes types after → Goes tests pushes types.stack
  goes_by tests pushes on plainly need events next values follows fit =
      let held = (grows next follows).frame body frame types at.has in
      goes_to on need events next values follows
      (subst (FrameFits world next.objects body (at_pc frame frame.pc values)) plainly.gives (record { locals = held.locals; operands = fit }))

  -- ---- throws

  pub throws_fit : (class : ℕ) → IsConcrete world class → IsSubtype world.files (class_type class) (class_type 1) → MoveFits world tables (throws world state (frame ∷ others) class)
  throws_fit class concrete under =
      let fits : ClassFits world class 1 = (below world.files at.set.closed (class_type class) 1 (concrete.0, tt) refl).1 under in
      subst (λ frames. MoveFits world tables (throws world state frames class)) at.frames (at.parts.throwing world tables at.set state at.fits class concrete fits)

  pub exception_thrown : (class : ℕ) → class < 15 → is_interface (flags_of world.files class) ≡ false → is_abstract (flags_of world.files class) ≡ false → directly_below world.files class 3 ≡ true
      → MoveFits world tables (throws world state (frame ∷ others) class)
  exception_thrown class library plain concrete e = throws_fit class (inl library, plain, concrete) (exception_fits world class e)

  -- what is done with null or the name of an object
  pub object_fits : (Has : Object → Type 0) (reference : Value) (use_object : ℕ → Object → TypedMove) → (reference ≡ Null) ⊎ NamesObject state.objects reference Has
      → ((name : ℕ) (object : Object) → slice_get state.objects name ≡ Some object → Has object → MoveFits world tables (use_object name object))
      → MoveFits world tables (with_object_of world state (frame ∷ others) reference use_object)
  object_fits Has reference use_object (inl none) fit =
      subst (λ value. MoveFits world tables (with_object_of world state (frame ∷ others) value use_object)) (sym none)
      (exception_thrown null_pointer_exception (omega arith) refl refl refl)
  object_fits Has reference use_object (inr names) fit =
      let P : Option Object → Type 0 = λ found. MoveFits world tables (option_map_or (use_object names.name) found Stuck) in
      subst (λ value. MoveFits world tables (with_object_of world state (frame ∷ others) value use_object)) (sym names.is)
      (subst P (sym names.there) (fit names.name names.object names.there names.has))

  pub object_at_fits : (name : ℕ) (object : Object) → slice_get state.objects name ≡ Some object → ObjectFits world state.objects object
  object_at_fits name object there = all_at (ObjectFits world state.objects) state.objects at.fits.objects name object there
