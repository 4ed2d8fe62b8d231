-- The references of matching frames: those of the locals in the order of their slots, then those of the operands from the
-- bottom.
use Rattle.std.proofs.Common.{◌≡◌, ℕ, List, [], ◌∷◌, ◌++◌, map, reverse, Option, Some, None, refl, sym, ap, ◌∙◌}
use Rattle.std.specs.List.{cons_option}
use Rattle.std.specs.Option.{option_map_or}
use Rattle.std.proofs.lemmas.List.{append-nil, reverse-append}
use Rattle.std.proofs.lemmas.List.Elements.{filter_map-append}
use Rattle.image_instr.specs.declared.insn.Kind.{Kind}
use Rattle.image_instr.specs.declared.insn.Kind.TheVariants as kind
use Rattle.body_form.specs.declared.body.Body.{Body}
use Rattle.jvm_model.specs.Bodies.{AreEach}
use Rattle.jvm_model.specs.State.{Value}
use Rattle.jvm_model.specs.WidthsSlots.{reference_locals}
use Rattle.mote_model.specs.State.{Reference, Frame as SplitFrame, whole}
use Rattle.mote_model.specs.SplitState.{names_of}
use Rattle.typed_machine.specs.TypedState.{Frame}
use Rattle.typed_machine.specs.TypedWorld.{body_among}
use Rattle.type_safety.specs.Fitting.{IsWhole}
use Rattle.match_states.specs.Setting.{Setting}
use Rattle.match_states.specs.MatchedFrames.{reference_of, IsOfShape, operand_refs, OperandsMatch, local_reference, LocalsMatch, YoungestMatches, WaitingMatches}
use Rattle.typed_machine.specs.TypedView.{frame_names}
use Rattle.match_views.proofs.MatchedLists.{map-reverse}

-- ---- names of references

pub names-append : (references others : List Reference) → names_of (references ++ others) ≡ names_of references ++ names_of others
names-append references others = filter_map-append (λ reference. reference) references others

turned : (reference : Reference) (names : List ℕ) → reverse names ++ names_of (reference ∷ []) ≡ reverse (cons_option reference names)
turned None names = append-nil (reverse names)
turned (Some name) names = sym (reverse-append (name ∷ []) names)

pub names-reverse : (references : List Reference) → names_of (reverse references) ≡ reverse (names_of references)
names-reverse [] = refl
names-reverse (reference ∷ references) =
    ap names_of (reverse-append (reference ∷ []) references)
    ∙ names-append (reverse references) (reference ∷ [])
    ∙ ap (λ names. names ++ names_of (reference ∷ [])) (names-reverse references)
    ∙ turned reference (names_of references)

-- ---- operands

no_reference : (value : Value) → IsWhole value → reference_of value ≡ None
no_reference value whole = ap reference_of whole.1

-- a whole number has no name
without_whole : (value : Value) (values : List Value) → IsWhole value → names_of (map reference_of (value ∷ values)) ≡ names_of (map reference_of values)
without_whole value values whole = ap (λ reference. names_of (reference ∷ map reference_of values)) (no_reference value whole)

names_of_operands : (shapes : List Kind) (values : List Value) → AreEach IsOfShape shapes values → names_of (operand_refs shapes values) ≡ names_of (map reference_of values)
unfolding operand_refs
names_of_operands [] [] each = refl
names_of_operands [] (value ∷ values) each = absurd each
names_of_operands (shape ∷ shapes) [] each = absurd each
names_of_operands (kind.Ref ∷ shapes) (value ∷ values) each = ap (cons_option (reference_of value)) (names_of_operands shapes values each.1)
names_of_operands (kind.One ∷ shapes) (value ∷ values) each = names_of_operands shapes values each.1 ∙ sym (without_whole value values each.0)
names_of_operands (kind.Two ∷ shapes) (value ∷ values) each = names_of_operands shapes values each.1 ∙ sym (without_whole value values each.0)

-- operands of these shapes have the names of the references that stand for them, from the bottom
pub operand_names : (shapes : List Kind) (values : List Value) → AreEach IsOfShape shapes values → names_of (reverse (operand_refs shapes values)) ≡ names_of (map reference_of (reverse values))
operand_names shapes values each =
    names-reverse (operand_refs shapes values)
    ∙ ap reverse (names_of_operands shapes values each)
    ∙ sym (names-reverse (map reference_of values))
    ∙ ap names_of (sym (map-reverse reference_of values))

-- ---- frames

module _ (setting : Setting) (frame : Frame) (other : SplitFrame) where
  -- the names of a frame whose locals and operands match
  names_by_parts : (body : Body) → body_among setting.world.bodies frame.method ≡ Some body → LocalsMatch setting body frame other.refs.locals other.cells.locals
      → (shapes : List Kind) → OperandsMatch shapes frame.operands other.refs.operands other.cells.operands → frame_names setting.world frame ≡ names_of (whole other.refs)
  names_by_parts body found locals shapes operands =
      ap (λ (b : Option Body). names_of (option_map_or (λ body. map (local_reference frame) (reference_locals body)) b []) ++ names_of (map reference_of (reverse frame.operands))) found
      ∙ ap (λ refs. names_of refs ++ names_of (map reference_of (reverse frame.operands))) (sym locals.refs_are)
      ∙ ap (λ names. names_of other.refs.locals ++ names) (sym (operand_names shapes frame.operands operands.shaped))
      ∙ ap (λ refs. names_of other.refs.locals ++ names_of (reverse refs)) (sym operands.refs_are)
      ∙ sym (names-append other.refs.locals (reverse other.refs.operands))

  pub youngest_names : YoungestMatches setting frame other → frame_names setting.world frame ≡ names_of (whole other.refs)
  youngest_names is = names_by_parts is.body is.found is.locals _ is.operands

  pub waiting_names : WaitingMatches setting frame other → frame_names setting.world frame ≡ names_of (whole other.refs)
  waiting_names is = names_by_parts is.body is.found is.locals _ is.operands
