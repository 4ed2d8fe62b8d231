-- Each body of an accepted set is compiled, wide and typed, its instructions are of built forms, and what types do not reach
-- stands there as nop.
use Rattle.std.proofs.Common.{◌≡◌, ◌⊎◌, inl, inr, ℕ, ◌≤◌, List, [], ◌∷◌, map, length, Some, refl, sym, ap, subst, arith}
use Rattle.std.specs.List.{AllByRecursion, Contains}
use Rattle.code_reach.specs.Reached as reach
use Rattle.code_reach.specs.Reached.{RisesFrom}
use Rattle.class_file.specs.declared.record.ClassFile.{ClassFile}
use Rattle.class_code.specs.declared.insn.Insn.{Insn}
use Rattle.class_code.specs.Flow.{code_ways}
use Rattle.class_order.specs.Orders.{ClassOrderIsRight}
use Rattle.body_form.specs.declared.body.Body.{Body}
use Rattle.body_form.specs.declared.op.Op.{Op}
use Rattle.body_form.specs.declared.op.Op.TheVariants as op
use Rattle.body_form.specs.declared.types.VFrame.{VFrame}
use Rattle.jvm_model.specs.Bodies.{AreBodies, IsFamily, IsNop, IsResolved}
use Rattle.jvm_model.specs.ImageEmission.{Source, code_of}
use Rattle.jvm_model.specs.TypesRight as types
use Rattle.jvm_model.specs.TypesRight.{Table}
use Rattle.jvm_model.specs.TypesRules.{op_at}
use Rattle.type_rounds.proofs.tables.Starts.{op_is_start}
use Rattle.type_safety.specs.Facts.{BodyFacts}
use Rattle.type_safety.specs.Safety.{method_of}
use Rattle.type_safety.specs.Starts.{StartsFit}
use Rattle.type_safety.proofs.facts.BodyReach.{body_reached}
use Rattle.type_safety.proofs.facts.CodedBodies.{body_of}
use Rattle.type_safety.proofs.facts.Control.{op_there}
use Rattle.type_safety.proofs.fitting.SetLists.{all_contained, all_from, contains_all, each_back}
use Rattle.match_states.specs.Setting.{IsCompiled, Setting, source_for, table_for}
use Rattle.body_limits.specs.Limits.{NumbersAreInRange}
use Rattle.follow_numbers.specs.WideCode.{IsWideCode}
use Rattle.follow_calls.proofs.DeclaredParameters.{bodies_declared}
use Rattle.set_image.specs.Linked as linked_set
use Rattle.set_image.specs.Linked.{Linked, Typed, bodies_of}
use Rattle.set_image.specs.LinkRefusals.{IsAccepted}
use Rattle.set_compile.specs.Compiled.{SetsCompile}
use Rattle.set_compile.specs.Settings.{setting_of, typed_among}
use Rattle.set_compile.proofs.CompiledSets.{source_is}
use Rattle.set_compile.proofs.FoundCode.{all_found, own_method}
use Rattle.set_runs.proofs.NoRefusals.{IsBuilt, IsSmall, IsUnrefused, is_unrefused}
use Rattle.set_runs.proofs.WideSets as wide_sets
use Rattle.image_rules.proofs.DeclaredDims.{dims_declared}
use Rattle.image_rules.specs.Parts.{BodiesAreAccepted, IsOfAccepted}

no_items : {X : Type 0} (items : List X) → length items ≤ 0 → items ≡ []
no_items [] few = refl
no_items (x ∷ items) few = absurd (omega (arith, few))

-- an instruction of a body is nop, or its types are known
module _ (files : List ClassFile) (bodies : List Body) (are : AreBodies files bodies) (body : Body) (among : Contains bodies body)
    (rise : RisesFrom 0 body.ops) (table : Table) (right : types.IsRight files body table) where
  nop_or_known : (pc : ℕ) (instruction : Op) → op_at body.ops pc ≡ Some instruction → (instruction ≡ op.Nop) ⊎ ((frame : VFrame) × (table pc ≡ Some frame))
  nop_or_known pc instruction at =
      let of = body_of files bodies are body among in
      let coded = of.coded in
      let is = of.is in
      let ways = code_ways coded.code.handlers coded.insns in
      let by_family : (x : ℕ × Insn) → IsFamily files coded.class coded.file.pool ways x (pc, instruction) → (instruction ≡ op.Nop) ⊎ ((frame : VFrame) × (table pc ≡ Some frame)) =
      λ x family. elim family [
        | IsResolved same reached found ↦
            let start = op_is_start body.ops pc instruction at in
            let on = body_reached files coded.class coded.file.pool coded.code.handlers coded.insns body rise is.ops is.handlers in
            inr (right.reached pc start (on pc start (subst (reach.IsReached ways) (sym same) reached)))
        | IsNop same unreached nop ↦ inl nop
      ]
      in
      let there = op_there body.ops pc instruction at in
      let each = each_back (IsFamily files coded.class coded.file.pool ways) (Contains coded.insns) coded.insns body.ops (contains_all coded.insns) is.ops (pc, instruction) there in
      by_family each.0 each.2

module _ (orders : ClassOrderIsRight) (compile : SetsCompile) (ranges : NumbersAreInRange) (starts : StartsFit)
    (files : List (List ℕ)) (linked : Linked) (accepted : IsAccepted files linked) where
  abbrev setting : Setting
  setting = setting_of linked

  abbrev Has : Typed → Type 0
  Has typed = typed_among linked.code (own_method typed) ≡ Some typed

  -- the code of each is short
  abbrev Fits : Body → Type 0
  Fits body = length (code_of (source_for setting body)) ≤ 65535

  each_fits : (code : List Typed) → AllByRecursion Has code → AllByRecursion (IsSmall linked) code → AllByRecursion Fits (map linked_set.body_of code)
  each_fits [] found small = tt
  each_fits (typed ∷ code) found small = (
    (let of = accepted.of_files in
        let source = ap (λ (source : Source). length (code_of source)) (source_is linked of.is_linked orders typed found.0) in
        let bytes = small.0 in
        omega (arith, source, bytes.bytes)),
    each_fits code found.1 small.1,
  )

  accepted_body : (body : Body) → Contains (bodies_of linked) body → IsOfAccepted setting body
  accepted_body body among =
      let of = accepted.of_files in
      let set = of.is_linked in
      let wide : IsWideCode setting = wide_sets.wide_code orders compile ranges starts files linked accepted in
      let compiled : IsCompiled setting = wide.compiled in
      let typed = compiled.typed in
      let facts : BodyFacts setting.world body = typed.facts body among in
      let rise = (let of_set = facts.of_set in of_set.rise) in
      let right = all_contained (λ body. types.IsRight linked.classes body (setting.tables (method_of body))) (bodies_of linked) typed.types body among in
      let unrefused : IsUnrefused linked = is_unrefused linked accepted.accepted in
      let built = all_contained IsBuilt (bodies_of linked) unrefused.built body among in
      let short = all_contained Fits (bodies_of linked) (each_fits linked.code (all_found linked.classes linked.code set.are_bodies) unrefused.small) body among in
      record {
        compiled = compiled;
        of_set = among;
        facts = facts;
        params = bodies_declared setting set.are_bodies body among;
        right = right;
        known = nop_or_known linked.classes (bodies_of linked) set.are_bodies body among rise (table_for setting body) right;
        wide = wide.wide body among;
        built = built.ops;
        dims = dims_declared setting compiled set.are_bodies body among facts;
        handlers = no_items body.handlers built.handlers;
        insns = wide.insns body among;
        fits = short;
      }

  all_accepted : AllByRecursion (IsOfAccepted setting) (bodies_of linked)
  all_accepted = all_from (IsOfAccepted setting) (bodies_of linked) accepted_body

pub bodies_are_accepted : ClassOrderIsRight → SetsCompile → NumbersAreInRange → StartsFit → BodiesAreAccepted
bodies_are_accepted orders compile ranges starts files linked accepted = all_accepted orders compile ranges starts files linked accepted
