-- The code of each method of the image of an accepted set is instructions, which jump to starts, name what is there, and are
-- run so far.
use Rattle.std.proofs.Common.{◌≡◌, ◌⊎◌, inl, inr, ℕ, ◌+◌, true, false, if◌then◌else◌, nat_lt, List, [], ◌∷◌, ◌++◌, map, filter, length, Some, sym, refl, ap, subst, ◌∙◌, arith}
use Rattle.std.specs.List.{AllByRecursion}
use Rattle.image_instr.specs.declared.insn.Kind.TheVariants as kind
use Rattle.image_instr.specs.declared.insn.MInsn.TheVariants as insns
use Rattle.image_check.specs.Code.{CodeIs, Insns, IsStart, targets}
use Rattle.image_check.specs.Ids.{HasIds}
use Rattle.body_form.specs.declared.body.Body.{Body}
use Rattle.body_form.specs.declared.body.Guard.{Guard}
use Rattle.body_form.specs.declared.op.Op.{Op}
use Rattle.body_form.specs.Flow as flow
use Rattle.jvm_model.specs.declared.plan.Fill.{Fill}
use Rattle.jvm_model.specs.ImageEmission.{Source, code_of, handler_of, method_of, offset_of}
use Rattle.jvm_model.specs.ImageExpansion.{Emitted, bytes_of}
use Rattle.jvm_model.specs.TypesRules.{op_at}
use Rattle.jvm_model.specs.WidthsFrame.{fill_insns}
use Rattle.type_rounds.proofs.tables.Lists.{all_given, all_map}
use Rattle.type_safety.proofs.fitting.SetLists as set_lists
use Rattle.match_states.specs.Setting.{Setting, source_for}
use Rattle.match_code.specs.Standing.{IsEmittedInsn, emitted_at, fills_for}
use Rattle.split_safety.specs.Runs.{runs_so_far}
use Rattle.set_compile.proofs.KeyedLists.{all_flat}
use Rattle.image_rules.specs.Depths.{LeadAs}
use Rattle.image_rules.specs.Parts.{BodiesAreAccepted, ExpansionsLeadAs, ExpansionsNameWell, FillsNameWell, IsKnownAt, IsOfAccepted, NamesWell}
use Rattle.image_rules.specs.Rules.{HasRightInsns, InsnsAreRight}
use Rattle.image_rules.proofs.ComingOn.{come_on, rises, target_known}
use Rattle.image_rules.proofs.EmittedCode.{code_bytes, emitted_all, emitted_code, emitted_parts}
use Rattle.image_rules.proofs.ImageMethods.{of_each_method}
use Rattle.image_rules.proofs.ListedInsns.{AimsAtStarts, listed, listed_all, listed_are, listed_jump, start_behind}

-- ---- where machine instructions aim

-- the targets of one are none, or those of the instruction
abbrev AimsWith : (ℕ → ℕ) → Op → Emitted → Type 0
AimsWith offset instruction emitted = (targets emitted.0 emitted.1 ≡ []) ⊎ (targets emitted.0 emitted.1 ≡ map offset (flow.targets instruction))

all_aim : (offset : ℕ → ℕ) (instruction : Op) (list : List Emitted) → LeadAs offset instruction list → AllByRecursion (AimsWith offset instruction) list
unfolding LeadAs
all_aim offset instruction [] leads = tt
all_aim offset instruction (emitted ∷ []) leads = (inr leads.1, tt)
all_aim offset instruction (emitted ∷ next ∷ rest) leads = (inl leads.1, all_aim offset instruction (next ∷ rest) leads.2)

-- what extends a parameter jumps nowhere
abbrev JumpsNowhere : Emitted → Type 0
JumpsNowhere emitted = targets emitted.0 emitted.1 ≡ []

fill_stays : (fill : Fill) → AllByRecursion JumpsNowhere (fill_insns fill)
fill_stays fill =
    elim fill.zero as (λ zero. AllByRecursion JumpsNowhere ((insns.Load kind.One fill.from, []) ∷ (if zero then insns.Zx else insns.Sx, []) ∷ (insns.Store kind.Two fill.to, []) ∷ [])) [
      | true ↦ (refl, (refl, (refl, tt)))
      | false ↦ (refl, (refl, (refl, tt)))
    ]

-- ---- the code of a body

module _ (lead : ExpansionsLeadAs) (setting : Setting) (body : Body) (of : IsOfAccepted setting body) where
  abbrev source : Source
  source = source_for setting body

  -- its machine instructions, each with its offset
  abbrev whole : Insns
  whole = listed 0 (emitted_code source)

  abbrev Aims : Emitted → Type 0
  Aims = AimsAtStarts (code_of source) whole

  -- one that has a machine instruction stands at its offset
  starts_at : (pc : ℕ) (instruction : Op) → op_at body.ops pc ≡ Some instruction → (emitted : Emitted) (rest : List Emitted)
      → emitted_at setting body pc instruction ≡ emitted ∷ rest → IsStart whole (offset_of source pc)
  starts_at pc instruction at emitted rest is =
      let parts = emitted_parts source (rises setting body of) pc instruction at in
      let place = 0 + length (bytes_of parts.before) in
      let code : parts.before ++ emitted ∷ (rest ++ parts.after) ≡ emitted_code source = ap (λ (l : List Emitted). parts.before ++ (l ++ parts.after)) (sym is) ∙ sym parts.are in
      let start = start_behind 0 parts.before emitted (rest ++ parts.after) in
      let offset : place ≡ offset_of source pc = omega (arith, parts.size) in
      subst (IsStart whole) offset (subst (λ (l : List Emitted). IsStart (listed 0 l) place) code start)

  -- a machine instruction stands at the offset of a pc whose types are known
  pub known_start : (pc : ℕ) → IsKnownAt setting body pc → IsStart whole (offset_of source pc)
  known_start pc is =
      let to = come_on lead setting body of (λ n. Unit {0}) (λ at next known none after there holds. tt) pc is tt in
      let there = to.is in
      subst (IsStart whole) to.offset (starts_at to.to there.instruction there.at to.emitted to.rest to.here)

  targets_start : (pc : ℕ) (is : IsKnownAt setting body pc) → AllByRecursion (IsStart whole) (map (offset_of source) (flow.targets is.instruction))
  targets_start pc is =
      all_given (IsStart whole) (offset_of source) (flow.targets is.instruction)
      (set_lists.all_from (λ to. IsStart whole (offset_of source to)) (flow.targets is.instruction)
      (λ to among. known_start to (target_known setting body of pc is to among)))

  -- those of an instruction aim at starts
  known_aim : (pc : ℕ) (is : IsKnownAt setting body pc) → AllByRecursion Aims (emitted_at setting body pc is.instruction)
  known_aim pc is =
      all_map (AimsWith (offset_of source) is.instruction) Aims
      (λ emitted aim. elim aim [
        | inl none ↦ subst (AllByRecursion (IsStart whole)) (sym none) tt
        | inr some ↦ subst (AllByRecursion (IsStart whole)) (sym some) (targets_start pc is)
      ])
      (emitted_at setting body pc is.instruction) (all_aim (offset_of source) is.instruction (emitted_at setting body pc is.instruction) (lead setting body of pc is.instruction is.at))

  aim_at : (pc : ℕ) (instruction : Op) → op_at body.ops pc ≡ Some instruction → AllByRecursion Aims (emitted_at setting body pc instruction)
  aim_at pc instruction at =
      elim (of.known pc instruction at) [
        | inl nop ↦ subst (λ (o : Op). AllByRecursion Aims (emitted_at setting body pc o)) (sym nop) tt
        | inr known ↦ known_aim pc (record { instruction = instruction; at = at; frame = known.0; types = known.1 })
      ]

  fills_aim : AllByRecursion Aims (fills_for setting body)
  fills_aim =
      all_map JumpsNowhere Aims (λ emitted none. subst (AllByRecursion (IsStart whole)) (sym none) tt) (fills_for setting body)
      (all_flat JumpsNowhere fill_insns fill_stays source.plan.fills)

  pub right_insns : ExpansionsNameWell → FillsNameWell → HasRightInsns setting.image (method_of source)
  right_insns expansions fills =
      let rise = rises setting body of in
      let code = emitted_code source in
      let insns_of = of.insns in
      let all = emitted_all source IsEmittedInsn rise insns_of.fills insns_of.expansions in
      let aim = emitted_all source Aims rise fills_aim aim_at in
      let names = emitted_all source (NamesWell setting body) rise (fills setting body of) (expansions setting body of) in
      let method = method_of source in
      record {
        insns = whole;
        code = subst (λ (bytes : List ℕ). CodeIs bytes whole) (sym (code_bytes source)) (listed_are 0 code all);
        targets = listed_jump (code_of source) whole 0 code (code_bytes source) all aim;
        ids = listed_all (HasIds setting.image method) 0 code (all_map (NamesWell setting body) (λ emitted. HasIds setting.image method emitted.0) (λ emitted well. well.0) code names);
        run = listed_all (λ insn. runs_so_far insn ≡ true) 0 code (all_map (NamesWell setting body) (λ emitted. runs_so_far emitted.0 ≡ true) (λ emitted well. well.1) code names);
        handlers = ap (λ (guards : List Guard). filter (λ handler. nat_lt handler.start handler.end) (map (handler_of source) guards)) of.handlers;
      }

-- ---- the methods of a set

pub insns_are_right : ExpansionsLeadAs → ExpansionsNameWell → FillsNameWell → BodiesAreAccepted → InsnsAreRight
insns_are_right lead expansions fills bodies = of_each_method bodies HasRightInsns (λ setting body of. right_insns lead setting body of expansions fills)
