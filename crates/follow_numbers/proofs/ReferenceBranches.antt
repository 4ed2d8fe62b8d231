-- The split machine follows the typed one at branches on references.
use Rattle.std.proofs.Common.{◌≡◌, inl, inr, ℕ, Bool, true, false, not, if◌then◌else◌, List, [], ◌∷◌, Option, Some, None, option_and_then, refl, sym, ap, ap₂, subst, ◌∙◌}
use Rattle.std.specs.Prelude.{is_some}
use Rattle.std.proofs.lemmas.Bool.{and_parts}
use Rattle.std.proofs.lemmas.List.Elements.{All-from_recursion, All-contains}
use Rattle.std.proofs.lemmas.Option.{none-some}
use Rattle.image_instr.specs.declared.insn.Kind.TheVariants as kind
use Rattle.image_instr.specs.declared.insn.MInsn.TheVariants as insns
use Rattle.image_instr.specs.declared.insn.RefTest.{RefTest}
use Rattle.image_instr.specs.declared.insn.RefTest.TheVariants as ref_test
use Rattle.insn_form.specs.declared.RefCond.{RefCond}
use Rattle.insn_form.specs.declared.RefCond.TheVariants as ref_cond
use Rattle.body_form.specs.declared.body.Body.{Body}
use Rattle.body_form.specs.declared.op.Op.TheVariants as op
use Rattle.body_form.specs.declared.types.VFrame.{VFrame}
use Rattle.body_form.specs.declared.types.VType.{VType}
use Rattle.body_form.specs.declared.types.VType.TheVariants as known
use Rattle.jvm_model.specs.Bodies.{AreEach}
use Rattle.jvm_model.specs.ImageEmission.{offset_of}
use Rattle.jvm_model.specs.ImageExpansion.{alone}
use Rattle.jvm_model.specs.State.{Value}
use Rattle.jvm_model.specs.TypesRight.{IsRight}
use Rattle.jvm_model.specs.TypesRules.{Change, compared, is_constructed, takes}
use Rattle.mote_model.specs.State.{Reference, Frame as SplitFrame}
use Rattle.mote_model.specs.SplitMoves as split_moves
use Rattle.mote_model.specs.SplitMoves.{SplitMove, with_refs, take_ref, take_ref_from}
use Rattle.mote_model.specs.SplitState as split
use Rattle.mote_model.specs.SplitStep as split_step
use Rattle.typed_machine.specs.TypedMoves.{branches}
use Rattle.typed_machine.specs.TypedState.{Object, State}
use Rattle.typed_machine.specs.TypedStep as step
use Rattle.typed_machine.specs.TypedStep.{is_null, if_reference}
use Rattle.typed_machine.specs.TypedWorld.{World, pc_after}
use Rattle.type_safety.specs.Fitting.{ValueFits, FramesFit}
use Rattle.match_states.specs.MatchedFrames.{IsOfShape, reference_of}
use Rattle.match_states.specs.Setting.{Setting, source_for, table_for}
use Rattle.match_code.specs.Standing.{emitted_at}
use Rattle.follow_numbers.specs.WideCode.{value_refs, value_cells, IsWideCode, StandsAt}
use Rattle.follow_numbers.proofs.NextStates.{body_at, found_at, typed_move}
use Rattle.follow_numbers.proofs.NextMoves.{AreMatched, next_offset, both_branch}
use Rattle.follow_numbers.proofs.TakenNumbers.{refs_of, cells_of}

-- ---- references of both machines

-- null, or a name
abbrev IsRef : Value → Type 0
IsRef value = IsOfShape kind.Ref value

-- a value that is a reference stands in one half alone
record Referred (value : Value) : Type 0 where
  pub refs : (below : List Value) → value_refs (value ∷ below) ≡ reference_of value ∷ value_refs below
  pub cells : (below : List Value) → value_cells (value ∷ below) ≡ value_cells below
  pub null : not (is_some (reference_of value)) ≡ is_null value
  pub some : is_some (reference_of value) ≡ not (is_null value)

referred : (value : Value) → IsRef value → Referred value
referred value (inl is) = subst Referred (sym is) (record { refs = λ below. refl; cells = λ below. refl; null = refl; some = refl })
referred value (inr is) = subst Referred (sym is.1) (record { refs = λ below. refl; cells = λ below. refl; null = refl; some = refl })

same_objects : (a b : Value) → IsRef a → IsRef b → split_step.are_same (reference_of a) (reference_of b) ≡ step.are_same a b
same_objects a b (inl p) (inl q) = ap₂ (λ x y. split_step.are_same (reference_of x) (reference_of y)) p q ∙ sym (ap₂ step.are_same p q)
same_objects a b (inl p) (inr q) = ap₂ (λ x y. split_step.are_same (reference_of x) (reference_of y)) p q.1 ∙ sym (ap₂ step.are_same p q.1)
same_objects a b (inr p) (inl q) = ap₂ (λ x y. split_step.are_same (reference_of x) (reference_of y)) p.1 q ∙ sym (ap₂ step.are_same p.1 q)
same_objects a b (inr p) (inr q) = ap₂ (λ x y. split_step.are_same (reference_of x) (reference_of y)) p.1 q.1 ∙ sym (ap₂ step.are_same p.1 q.1)

takes_ref : (frame : SplitFrame) (reference : Reference) (refs : List Reference) → frame.refs.operands ≡ reference ∷ refs → (use_it : Reference → SplitFrame → SplitMove) → take_ref frame use_it ≡ use_it reference (with_refs frame refs)
takes_ref frame reference refs has use_it = ap (λ (l : List Reference). take_ref_from frame l use_it) has

-- ---- what the rule takes

rule_takes : (within takes : Bool) (change : Change) (after : VFrame) (reach : Change → Option VFrame) → (if within then option_and_then reach (if takes then Some change else None) else None) ≡ Some after → takes ≡ true
rule_takes true true change after reach is = refl
rule_takes true false change after reach is = absurd (none-some after is)
rule_takes false takes change after reach is = absurd (none-some after is)

module _ (world : World) (objects : List Object) (body : Body) where
  constructed : (type : VType) → is_constructed type ≡ true → (value : Value) → ValueFits world objects body value type → IsRef value
  constructed known.Null is value fits = inl fits
  constructed (known.Ref type) is value (inl null) = inl null
  constructed (known.Ref type) is value (inr names) = inr (names.name, names.is)
  constructed known.Top is value fits = absurd cc
  constructed known.Int is value fits = absurd cc
  constructed (known.New pc) is value fits = absurd cc
  constructed known.This is value fits = absurd cc

  -- a reference at the top, above operands that pass the other tests
  record TakesRef (tests : List (VType → Bool)) (operands : List Value) : Type 0 where
    pub value : Value
    pub below : List Value
    pub are : operands ≡ value ∷ below
    pub is : IsRef value
    pub stack : List VType
    pub fits : AreEach (ValueFits world objects body) below stack
    pub passes : takes tests stack ≡ true

  takes_first : (tests : List (VType → Bool)) (operands : List Value) (stack : List VType) → AreEach (ValueFits world objects body) operands stack → takes (is_constructed ∷ tests) stack ≡ true → TakesRef tests operands
  unfolding takes
  takes_first tests [] [] fits passes = absurd cc
  takes_first tests [] (type ∷ stack) fits passes = absurd fits
  takes_first tests (value ∷ operands) [] fits passes = absurd fits
  takes_first tests (value ∷ operands) (type ∷ stack) fits passes =
      let parts = and_parts (is_constructed type) (takes tests stack) passes in
      record { value = value; below = operands; are = refl; is = constructed type parts.0 value fits.0; stack = stack; fits = fits.1; passes = parts.1 }

module _ {setting : Setting} {state : State} {other : split.State} (code : IsWideCode setting) (target : ℕ) where
  module _ (c : RefCond) (here : StandsAt setting state other (op.IfRef c target)) where
    record Compares : Type 0 where
      pub of : Body
      pub stack : List VType
      pub fits : AreEach (ValueFits setting.world state.objects of) here.frame.operands stack
      pub passes : takes (compared c) stack ≡ true

    compares : Compares
    compares =
        let young = (subst (FramesFit setting.world setting.tables state.objects) here.frames_are here.match.fits.frames).0 in
        let body = body_at here in
        let Right : Body → Type 0 = λ b. IsRight setting.world.files b (table_for setting b) in
        let right = All-contains Right setting.world.bodies body (All-from_recursion Right setting.world.bodies code.compiled.typed.types) (found_at here).of_set in
        let at : table_for setting body here.frame.pc ≡ Some young.types = ap (λ id. setting.tables id here.frame.pc) (found_at here).method ∙ young.known in
        let holds = right.rules here.frame.pc (op.IfRef c target) young.types here.at at in
        record { of = young.body; stack = young.types.stack; fits = young.has.operands; passes = rule_takes _ (takes (compared c) young.types.stack) _ holds.after _ holds.rule }

    abbrev there : ℕ
    there = offset_of (source_for setting (body_at here)) target

    abbrev next : Option ℕ
    next = pc_after (body_at here).ops here.frame.pc

    -- one reference is tested
    one_tested : (test : RefTest) → emitted_at setting (body_at here) here.frame.pc (op.IfRef c target) ≡ alone (insns.RJ test there) → (does : Value → Bool) (asks : Reference → Bool) → ((value : Value) → Referred value → asks (reference_of value) ≡ does value)
        → ((value : Value) (below : List Value) → if_reference state here.frame here.frames next c target (value ∷ below) ≡ branches (does value) state here.frame here.frames target next below)
        → ((at : ℕ) → split_step.jump_if_reference other here.split here.others at test there ≡ take_ref here.split (λ a rest. split_moves.branches (asks a) other rest here.others there at))
        → takes (is_constructed ∷ []) compares.stack ≡ true → AreMatched setting state other
    one_tested test emitted does asks same typed moves passes =
        let took = takes_first setting.world state.objects compares.of [] here.frame.operands compares.stack compares.fits passes in
        let reference = referred took.value took.is in
        let last = with_refs here.split (value_refs took.below) in
        let after = next_offset code here (insns.RJ test there) [] emitted in
        let operands = took.value ∷ took.below in
        both_branch code here (insns.RJ test there) [] emitted took.below last
        (record { method = refl; ref_locals = refl; cell_locals = refl; refs = refl; cells = cells_of code here operands took.are ∙ reference.cells took.below })
        (does took.value) target refl (typed_move here ∙ ap (if_reference state here.frame here.frames next c target) took.are ∙ typed took.value took.below)
        (moves after
        ∙ takes_ref here.split (reference_of took.value) (value_refs took.below) (refs_of code here operands took.are ∙ reference.refs took.below) (λ a rest. split_moves.branches (asks a) other rest here.others there after)
        ∙ ap (λ (taken : Bool). split_moves.branches taken other last here.others there after) (same took.value reference))

    -- two references are compared
    two_tested : (test : RefTest) → emitted_at setting (body_at here) here.frame.pc (op.IfRef c target) ≡ alone (insns.RJ test there) → (turn : Bool → Bool)
        → ((b a : Value) (below : List Value) → if_reference state here.frame here.frames next c target (b ∷ a ∷ below) ≡ branches (turn (step.are_same a b)) state here.frame here.frames target next below)
        → ((at : ℕ) → split_step.jump_if_reference other here.split here.others at test there ≡ take_ref here.split (λ b below. take_ref below (λ a rest. split_moves.branches (turn (split_step.are_same a b)) other rest here.others there at)))
        → takes (is_constructed ∷ is_constructed ∷ []) compares.stack ≡ true → AreMatched setting state other
    two_tested test emitted turn typed moves passes =
        let top = takes_first setting.world state.objects compares.of (is_constructed ∷ []) here.frame.operands compares.stack compares.fits passes in
        let took = takes_first setting.world state.objects compares.of [] top.below top.stack top.fits top.passes in
        let above = referred top.value top.is in
        let reference = referred took.value took.is in
        let operands = top.value ∷ took.value ∷ took.below in
        let are : here.frame.operands ≡ operands = top.are ∙ ap (λ (l : List Value). top.value ∷ l) took.are in
        let first = with_refs here.split (value_refs (took.value ∷ took.below)) in
        let last = with_refs first (value_refs took.below) in
        let after = next_offset code here (insns.RJ test there) [] emitted in
        both_branch code here (insns.RJ test there) [] emitted took.below last
        (record { method = refl; ref_locals = refl; cell_locals = refl; refs = refl; cells = cells_of code here operands are ∙ above.cells (took.value ∷ took.below) ∙ reference.cells took.below })
        (turn (step.are_same took.value top.value)) target refl (typed_move here ∙ ap (if_reference state here.frame here.frames next c target) are ∙ typed top.value took.value took.below)
        (moves after
        ∙ takes_ref here.split (reference_of top.value) (value_refs (took.value ∷ took.below)) (refs_of code here operands are ∙ above.refs (took.value ∷ took.below))
        (λ b below. take_ref below (λ a rest. split_moves.branches (turn (split_step.are_same a b)) other rest here.others there after))
        ∙ takes_ref first (reference_of took.value) (value_refs took.below) (reference.refs took.below) (λ a rest. split_moves.branches (turn (split_step.are_same a (reference_of top.value))) other rest here.others there after)
        ∙ ap (λ (taken : Bool). split_moves.branches (turn taken) other last here.others there after) (same_objects took.value top.value took.is top.is))

  pub if_ref_follows : (c : RefCond) → StandsAt setting state other (op.IfRef c target) → AreMatched setting state other
  if_ref_follows ref_cond.Null here =
      one_tested ref_cond.Null here ref_test.Null refl is_null (λ a. not (is_some a)) (λ value is. is.null) (λ value below. refl) (λ at. refl) (compares ref_cond.Null here).passes
  if_ref_follows ref_cond.NonNull here =
      one_tested ref_cond.NonNull here ref_test.NonNull refl (λ value. not (is_null value)) is_some (λ value is. is.some) (λ value below. refl) (λ at. refl) (compares ref_cond.NonNull here).passes
  if_ref_follows ref_cond.Eq here = two_tested ref_cond.Eq here ref_test.Equal refl (λ same. same) (λ b a below. refl) (λ at. refl) (compares ref_cond.Eq here).passes
  if_ref_follows ref_cond.Ne here = two_tested ref_cond.Ne here ref_test.NotEqual refl not (λ b a below. refl) (λ at. refl) (compares ref_cond.Ne here).passes
