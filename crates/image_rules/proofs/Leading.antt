-- The machine instructions of an instruction lead where it leads: all but the last go on and jump nowhere, and the last goes
-- on or jumps as the instruction does.
use Rattle.std.proofs.Common.{◌≡◌, inl, inr, ℕ, ◌+◌, ℤ, pos, negsuc, Bool, true, false, ◌&&◌, nat_eq, List, [], ◌∷◌, ◌++◌, map, take, drop, reverse, Option, Some, None, refl, sym, ap, subst, ◌∙◌}
use Rattle.std.specs.Prelude.{if◌then◌else◌, option_and_then}
use Rattle.std.specs.List.{AllByRecursion}
use Rattle.std.specs.Option.{option_map_or}
use Rattle.std.proofs.lemmas.Bool.{false≢true}
use Rattle.cell_num.specs.declared.conversions.Conv.{Conv}
use Rattle.cell_num.specs.declared.conversions.Conv.TheVariants as conv
use Rattle.cell_num.specs.Cells.{sign_extended, low_cell}
use Rattle.class_pool.specs.declared.descriptor.Kind.{Kind as DeclaredKind}
use Rattle.class_pool.specs.declared.descriptor.Kind.TheVariants as declared
use Rattle.insn_form.specs.declared.StackForm.{StackForm}
use Rattle.insn_form.specs.declared.StackForm.TheVariants as form
use Rattle.insn_form.specs.declared.SwitchForm.{SwitchForm}
use Rattle.insn_form.specs.declared.SwitchForm.TheVariants as switch
use Rattle.insn_form.specs.declared.SwitchRow.{SwitchRow}
use Rattle.insn_form.specs.declared.ValueKind.{ValueKind}
use Rattle.insn_form.specs.declared.ValueKind.TheVariants as value_kind
use Rattle.image_instr.specs.declared.insn.SwitchRow as image_row
use Rattle.image_instr.specs.declared.insn.Kind.{Kind}
use Rattle.image_instr.specs.declared.insn.Kind.TheVariants as kind
use Rattle.image_instr.specs.declared.insn.MInsn.{MInsn}
use Rattle.image_instr.specs.declared.insn.MInsn.TheVariants as insns
use Rattle.image_instr.specs.declared.insn.Width.{Width}
use Rattle.image_check.specs.Code.{targets}
use Rattle.image_check.specs.Visits.{goes_on}
use Rattle.body_form.specs.declared.body.Body.{Body}
use Rattle.body_form.specs.declared.op.Literal.{Literal}
use Rattle.body_form.specs.declared.op.Literal.TheVariants as literal
use Rattle.body_form.specs.declared.op.MethodUse.{MethodUse}
use Rattle.body_form.specs.declared.op.Op.{Op}
use Rattle.body_form.specs.declared.op.Op.TheVariants as op
use Rattle.body_form.specs.declared.op.UnaryOp.{UnaryOp}
use Rattle.body_form.specs.declared.op.UnaryOp.TheVariants as unary
use Rattle.body_form.specs.Flow as flow
use Rattle.jvm_model.specs.ImageEmission.{locals_by, offset_of}
use Rattle.jvm_model.specs.ImageExpansion.{Emitted, Ids, Locals, alone, alone_where, call, constant, conversion, copy, cut_arguments, cut_to_one, exchange, expanded, extend, is_between, is_one, is_two, kind_in, load, moved_row, narrow_cell, narrow_constant, read_as, refs_in, cells_in, remove, restack, return_of, second_of, some_refs, store, switch_insn, top_of, unary_of, wide_constant, width_of, write_as}
use Rattle.jvm_model.specs.TypesRules.{Change, op_at, plain, returned}
use Rattle.jvm_model.specs.WidthsShapes.{Point, point_at}
use Rattle.jvm_model.specs.WidthsSlots.{is_small, passed_cells}
use Rattle.match_states.specs.Setting.{Setting, source_for}
use Rattle.set_image.specs.LinkRefusals.{is_built}
use Rattle.type_rounds.proofs.tables.Starts.{holds_at}
use Rattle.type_safety.proofs.fitting.SetBodies.{change_by}
use Rattle.type_safety.proofs.fitting.SetLists.{none_some}
use Rattle.image_rules.specs.Depths.{LeadAs}
use Rattle.image_rules.specs.Parts.{ExpansionsLeadAs, IsOfAccepted}

-- ---- machine instructions that go on and jump nowhere

abbrev IsPlain : Emitted → Type 0
IsPlain emitted = (goes_on emitted.0 ≡ true) × (targets emitted.0 emitted.1 ≡ [])

abbrev Plain : List Emitted → Type 0
Plain list = AllByRecursion IsPlain list

both : (first second : List Emitted) → Plain first → Plain second → Plain (first ++ second)
both [] second one two = two
both (x ∷ first) second one two = (one.0, both first second one.1 two)

maybe : (is : Bool) (insn : MInsn) → IsPlain (insn, []) → Plain (alone_where is insn)
maybe true insn plain = (plain, tt)
maybe false insn plain = tt

plain_extend : (unsigned : Bool) (shape : Kind) → Plain (extend unsigned shape)
plain_extend true shape = maybe (is_two shape) insns.Zx (refl, refl)
plain_extend false shape = maybe (is_two shape) insns.Sx (refl, refl)

plain_read : (k : DeclaredKind) (shape : Kind) → Plain (read_as k shape)
plain_read declared.Int shape = maybe (is_one shape) (insns.Pop 1) (refl, refl)
plain_read declared.Char shape = plain_extend true shape
plain_read declared.Boolean shape = plain_extend true shape
plain_read declared.Byte shape = plain_extend false shape
plain_read declared.Short shape = plain_extend false shape
plain_read declared.Double shape = tt
plain_read declared.Float shape = tt
plain_read declared.Long shape = tt
plain_read (declared.Class name) shape = tt
plain_read (declared.Array dims of) shape = tt

plain_cell : (k : DeclaredKind) → Plain (narrow_cell k)
plain_cell declared.Byte = ((refl, refl), tt)
plain_cell declared.Boolean = ((refl, refl), tt)
plain_cell declared.Int = tt
plain_cell declared.Char = tt
plain_cell declared.Short = tt
plain_cell declared.Double = tt
plain_cell declared.Float = tt
plain_cell declared.Long = tt
plain_cell (declared.Class name) = tt
plain_cell (declared.Array dims of) = tt

plain_cut : (small : Bool) (shape : Kind) → Plain (cut_to_one small shape)
plain_cut small shape = maybe (small && is_two shape) (insns.Pop 1) (refl, refl)

plain_write : (k : DeclaredKind) (shape : Kind) → Plain (write_as k shape)
plain_write k shape = both (cut_to_one (is_small k) shape) (narrow_cell k) (plain_cut (is_small k) shape) (plain_cell k)

-- ---- stack instructions

plain_some : (count : ℕ) (insn : ℕ → MInsn) → IsPlain (insn count, []) → Plain (some_refs count insn)
plain_some count insn plain = maybe (if nat_eq count 0 then false else true) (insn count) plain

plain_remove : (shapes : List Kind) → Plain (remove shapes)
plain_remove shapes =
    both (some_refs (refs_in shapes) (λ count. insns.RPop count)) (some_refs (cells_in shapes) (λ count. insns.Pop count))
    (plain_some (refs_in shapes) (λ count. insns.RPop count) (refl, refl)) (plain_some (cells_in shapes) (λ count. insns.Pop count) (refl, refl))

plain_copy : (top below : List Kind) → Plain (copy top below)
plain_copy top below =
    both (some_refs (refs_in top) (λ count. insns.RDupX count (refs_in below))) (some_refs (cells_in top) (λ count. insns.DupX count (cells_in below)))
    (plain_some (refs_in top) (λ count. insns.RDupX count (refs_in below)) (refl, refl))
    (plain_some (cells_in top) (λ count. insns.DupX count (cells_in below)) (refl, refl))

plain_exchange : (top below : Kind) → Plain (exchange top below)
plain_exchange kind.Ref kind.Ref = ((refl, refl), tt)
plain_exchange kind.Ref kind.One = tt
plain_exchange kind.Ref kind.Two = tt
plain_exchange kind.One kind.Ref = tt
plain_exchange kind.One kind.One = ((refl, refl), tt)
plain_exchange kind.One kind.Two = ((refl, refl), tt)
plain_exchange kind.Two kind.Ref = tt
plain_exchange kind.Two kind.One = ((refl, refl), tt)
plain_exchange kind.Two kind.Two = ((refl, refl), tt)

plain_restack : (f : StackForm) (shapes : List Kind) → Plain (restack f shapes)
plain_restack form.Pop shapes = plain_remove (take 1 shapes)
plain_restack form.Pop2 shapes = plain_remove (take 2 shapes)
plain_restack form.Dup shapes = plain_copy (take 1 shapes) []
plain_restack form.DupX1 shapes = plain_copy (take 1 shapes) (take 1 (drop 1 shapes))
plain_restack form.DupX2 shapes = plain_copy (take 1 shapes) (take 2 (drop 1 shapes))
plain_restack form.Dup2 shapes = plain_copy (take 2 shapes) []
plain_restack form.Dup2X1 shapes = plain_copy (take 2 shapes) (take 1 (drop 2 shapes))
plain_restack form.Dup2X2 shapes = plain_copy (take 2 shapes) (take 2 (drop 2 shapes))
plain_restack form.Swap shapes = plain_exchange (top_of shapes) (second_of shapes)

-- ---- numbers

plain_wide : (number : ℤ) → Plain (alone (wide_constant number))
plain_wide number =
    elim (is_between (negsuc 127) (pos 127) number) as (λ small. Plain (alone (if small then insns.Small2 number else (if is_between (negsuc 32767) (pos 32767) number then insns.Mid2 number else insns.Const2 number)))) [
      | true ↦ ((refl, refl), tt)
      | false ↦ elim (is_between (negsuc 32767) (pos 32767) number) as (λ middle. Plain (alone (if middle then insns.Mid2 number else insns.Const2 number))) [ true ↦ ((refl, refl), tt) | false ↦ ((refl, refl), tt) ]
    ]

plain_one_cell : (number : ℤ) → Plain (alone (narrow_constant number))
plain_one_cell number =
    elim (is_between (negsuc 127) (pos 127) number) as (λ small. Plain (alone (if small then insns.Small1 number else insns.Const1 number))) [ true ↦ ((refl, refl), tt) | false ↦ ((refl, refl), tt) ]

plain_constant : (value : Literal) (shape : Kind) → Plain (alone (constant value shape))
plain_constant literal.Null shape = ((refl, refl), tt)
plain_constant (literal.Int number) kind.One = plain_one_cell (sign_extended (low_cell number))
plain_constant (literal.Int number) kind.Two = plain_wide number
plain_constant (literal.Int number) kind.Ref = plain_wide number

plain_conversion : (c : Conv) (before after : Kind) → Plain (conversion c before after)
plain_conversion conv.Byte before after =
    both (cut_to_one true before) (alone insns.Sb ++ extend false after) (plain_cut true before) (both (alone insns.Sb) (extend false after) ((refl, refl), tt) (plain_extend false after))
plain_conversion conv.Short before after = both (cut_to_one true before) (extend false after) (plain_cut true before) (plain_extend false after)
plain_conversion conv.Char before after = both (cut_to_one true before) (extend true after) (plain_cut true before) (plain_extend true after)

plain_unary : (o : UnaryOp) (before after : Kind) → Plain (unary_of o before after)
plain_unary unary.Neg before after = ((refl, refl), tt)
plain_unary (unary.Convert c) before after = plain_conversion c before after

-- ---- locals and calls

plain_load : (locals : Locals) (k : ValueKind) (local : ℕ) → Plain (alone (load locals k local))
plain_load locals value_kind.Ref local = ((refl, refl), tt)
plain_load locals value_kind.Int local = ((refl, refl), tt)

plain_cleared : (slot : Option ℕ) → Plain (option_map_or (λ slot. alone (insns.RClear slot)) slot [])
plain_cleared None = tt
plain_cleared (Some slot) = ((refl, refl), tt)

plain_store : (locals : Locals) (k : ValueKind) (local : ℕ) → Plain (store locals k local)
plain_store locals value_kind.Ref local = ((refl, refl), tt)
plain_store locals value_kind.Int local = ((refl, refl), plain_cleared (locals.slot local))

plain_arguments : (above : ℕ) (kinds : List DeclaredKind) (shapes : List Kind) → Plain (cut_arguments above kinds shapes)
unfolding cut_arguments
plain_arguments above [] [] = tt
plain_arguments above [] (shape ∷ shapes) = tt
plain_arguments above (k ∷ kinds) [] = tt
plain_arguments above (k ∷ kinds) (shape ∷ shapes) =
    both (alone_where (is_small k && is_two shape) (insns.Drop above)) (cut_arguments (above + passed_cells k) kinds shapes)
    (maybe (is_small k && is_two shape) (insns.Drop above) (refl, refl)) (plain_arguments (above + passed_cells k) kinds shapes)

plain_result : (result : Option DeclaredKind) (shape : Kind) → Plain (option_map_or (λ (k : DeclaredKind). read_as k shape) result [])
plain_result None shape = tt
plain_result (Some k) shape = plain_read k shape

plain_call : (used : MethodUse) (point : Point) (insn : MInsn) → IsPlain (insn, []) → Plain (call used point insn)
plain_call used point insn plain =
    let result = option_map_or (λ (k : DeclaredKind). read_as k (top_of point.after)) used.descriptor.result [] in
    both (cut_arguments 0 (reverse used.descriptor.params) point.before) (alone insn ++ result) (plain_arguments 0 (reverse used.descriptor.params) point.before)
    (both (alone insn) result (plain, tt) (plain_result used.descriptor.result (top_of point.after)))

-- ---- where they lead

module _ (offset : ℕ → ℕ) (instruction : Op) where
  -- the instruction goes on and names no target
  plain_leads : flow.goes_on instruction ≡ true → flow.targets instruction ≡ [] → (list : List Emitted) → Plain list → LeadAs offset instruction list
  unfolding LeadAs
  plain_leads on none [] all = (on, none)
  plain_leads on none (emitted ∷ []) all = (all.0.0 ∙ sym on, all.0.1 ∙ sym (ap (map offset) none))
  plain_leads on none (emitted ∷ next ∷ rest) all = (all.0.0, all.0.1, plain_leads on none (next ∷ rest) all.1)

  -- the last one leads where the instruction does
  last_leads : (first : List Emitted) (last : Emitted) → Plain first → goes_on last.0 ≡ flow.goes_on instruction
      → targets last.0 last.1 ≡ map offset (flow.targets instruction) → LeadAs offset instruction (first ++ last ∷ [])
  unfolding LeadAs
  last_leads [] last all on to = (on, to)
  last_leads (emitted ∷ []) last all on to = (all.0.0, all.0.1, (on, to))
  last_leads (emitted ∷ next ∷ rest) last all on to = (all.0.0, all.0.1, last_leads (next ∷ rest) last all.1 on to)

-- the targets of a switch are the offsets of its targets
moved_targets : (offset : ℕ → ℕ) (rows : List SwitchRow)
    → map (λ (row : image_row.SwitchRow). row.target) (map (moved_row offset) rows) ≡ map offset (map (λ (row : SwitchRow). row.target) rows)
moved_targets offset [] = refl
moved_targets offset (row ∷ rows) = ap (λ (list : List ℕ). offset row.target ∷ list) (moved_targets offset rows)

switch_leads : (offset : ℕ → ℕ) (f : SwitchForm) (width : Width) (default : ℕ) (rows : List SwitchRow)
    → LeadAs offset (op.Switch f default rows) ((switch_insn f width (offset default) rows, map (moved_row offset) rows) ∷ [])
unfolding LeadAs
switch_leads offset switch.Lookup width default rows = (refl, ap (λ (list : List ℕ). offset default ∷ list) (moved_targets offset rows))
switch_leads offset switch.Table width default rows = (refl, ap (λ (list : List ℕ). offset default ∷ list) (moved_targets offset rows))

-- ---- an instruction

-- a method that returns a number has a result
abbrev HasResult : Option DeclaredKind → Op → Type 0
HasResult result (op.Return (Some value_kind.Int)) = (of : DeclaredKind) × (result ≡ Some of)
HasResult result instruction = Unit {0}

return_leads : (offset : ℕ → ℕ) (result : Option DeclaredKind) (shape : Kind) → (of : DeclaredKind) → result ≡ Some of
    → LeadAs offset (op.Return (Some value_kind.Int)) (return_of result shape (Some value_kind.Int))
return_leads offset result shape of is =
    let Leads : Option DeclaredKind → Type 0 = λ found. LeadAs offset (op.Return (Some value_kind.Int)) (return_of found shape (Some value_kind.Int)) in
    let there : Leads (Some of) = last_leads offset (op.Return (Some value_kind.Int)) (write_as of shape) (insns.Ret (Some (kind_in of)), []) (plain_write of shape) refl refl in
    subst Leads (sym is) there

module _ (locals : Locals) (ids : Ids) (offset : ℕ → ℕ) (result : Option DeclaredKind) (point : Point) where
  leads : (instruction : Op) → is_built instruction ≡ true → HasResult result instruction → LeadAs offset instruction (expanded locals ids offset result point instruction)
  unfolding LeadAs
  leads op.Nop built has = (refl, refl)
  leads (op.Const value) built has = plain_leads offset (op.Const value) refl refl (alone (constant value (top_of point.after))) (plain_constant value (top_of point.after))
  leads (op.Load k local) built has = plain_leads offset (op.Load k local) refl refl (alone (load locals k local)) (plain_load locals k local)
  leads (op.Store k local) built has = plain_leads offset (op.Store k local) refl refl (store locals k local) (plain_store locals k local)
  leads (op.Inc local amount) built has = (refl, refl)
  leads (op.Stack f) built has = plain_leads offset (op.Stack f) refl refl (restack f point.before) (plain_restack f point.before)
  leads (op.Bin o) built has = (refl, refl)
  leads (op.Unary o) built has = plain_leads offset (op.Unary o) refl refl (unary_of o (top_of point.before) (top_of point.after)) (plain_unary o (top_of point.before) (top_of point.after))
  leads (op.If c target) built has = (refl, refl)
  leads (op.IfCmp c target) built has = (refl, refl)
  leads (op.IfRef c target) built has = (refl, refl)
  leads (op.Goto target) built has = (refl, refl)
  leads (op.Switch f default rows) built has = switch_leads offset f (width_of (top_of point.before)) default rows
  leads (op.Return None) built has = (refl, refl)
  leads (op.Return (Some value_kind.Ref)) built has = (refl, refl)
  leads (op.Return (Some value_kind.Int)) built has = return_leads offset result (top_of point.before) has.0 has.1
  leads (op.GetStatic used) built has =
      plain_leads offset (op.GetStatic used) refl refl (alone (insns.GetS (kind_in used.kind) (ids.static used.field)) ++ read_as used.kind (top_of point.after))
      ((refl, refl), plain_read used.kind (top_of point.after))
  leads (op.PutStatic used) built has =
      last_leads offset (op.PutStatic used) (write_as used.kind (top_of point.before)) (insns.PutS (kind_in used.kind) (ids.static used.field), [])
      (plain_write used.kind (top_of point.before)) refl refl
  leads (op.CallStatic used) built has =
      plain_leads offset (op.CallStatic used) refl refl (call used point (insns.CallS (ids.method used.method)))
      (plain_call used point (insns.CallS (ids.method used.method)) (refl, refl))
  leads instruction built has = absurd (false≢true built)

-- ---- an instruction of a body

module _ (setting : Setting) (body : Body) (of : IsOfAccepted setting body) where
  result_there : (pending : Bool) (result : Option DeclaredKind) (found : Option DeclaredKind → Option Change) (change : Change)
      → found None ≡ None → (if pending then None else found result) ≡ Some change → (of : DeclaredKind) × (result ≡ Some of)
  result_there true result found change none is = none_some change is
  result_there false None found change none is = none_some change (sym none ∙ is)
  result_there false (Some of) found change none is = (of, refl)

  no_nop : (k : Option ValueKind) → op.Return k ≡ op.Nop → ⊥
  no_nop k is = cc

  -- the rule of a return
  returns : (pc : ℕ) (k : ValueKind) → op_at body.ops pc ≡ Some (op.Return (Some k)) → (of : DeclaredKind) × (body.result ≡ Some of)
  returns pc k at =
      elim (of.known pc (op.Return (Some k)) at) [
        | inl nop ↦ absurd (no_nop (Some k) nop)
        | inr known ↦
            let world = setting.world in
            let right = of.right in
            let holds = right.rules pc (op.Return (Some k)) known.0 at known.1 in
            let frame = known.0 in
            let change = change_by world.files body pc (op.Return (Some k)) frame holds.after holds.rule in
            result_there frame.pending body.result (λ result. option_and_then (λ tests. plain frame tests []) (returned world.files result (Some k))) change.change refl change.is
      ]

  has_result : (pc : ℕ) (instruction : Op) → op_at body.ops pc ≡ Some instruction → HasResult body.result instruction
  has_result pc (op.Return (Some value_kind.Int)) at = returns pc value_kind.Int at
  has_result pc instruction at = tt

pub expansions_lead_as : ExpansionsLeadAs
expansions_lead_as setting body of pc instruction at =
    let source = source_for setting body in
    leads (locals_by source.plan source.widths) source.ids (offset_of source) source.body.result (point_at source.body.ops source.widths source.table pc) instruction
    (holds_at (λ x. is_built x.1 ≡ true) body.ops of.built pc instruction at) (has_result setting body of pc instruction at)
