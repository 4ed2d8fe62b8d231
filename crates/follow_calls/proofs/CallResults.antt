-- The expansion of a call, with what reads its result behind it.
use Rattle.std.proofs.Common.{◌≡◌, ℕ, suc, List, [], length, Option, Some, refl, subst}
use Rattle.std.specs.Option.{option_map_or}
use Rattle.std.proofs.lemmas.Option.{none-some, some_pair_parts}
use Rattle.body_form.specs.declared.body.Body.{Body}
use Rattle.body_form.specs.declared.op.MethodUse.{MethodUse}
use Rattle.body_form.specs.declared.op.Op.{Op}
use Rattle.body_form.specs.declared.op.Op.TheVariants as op
use Rattle.jvm_model.specs.ImageExpansion.{Emitted, read_as, top_of}
use Rattle.jvm_model.specs.WidthsShapes.{point_at}
use Rattle.match_states.specs.MatchedFrames.{call_at}
use Rattle.match_states.specs.Setting.{Setting, table_for, widths_for}
use Rattle.match_code.proofs.MatchedCode.{IsCall}

-- the result is read as the shape behind the call asks for
abbrev pub result_read : Setting → Body → ℕ → MethodUse → List Emitted
result_read setting body pc used =
    option_map_or (λ result. read_as result (top_of (point_at body.ops (widths_for setting body) (table_for setting body) pc).after)) used.descriptor.result []

module _ (setting : Setting) (body : Body) (pc : ℕ) where
  -- a call, behind which its result is read
  pub record ReadsResult (instruction : Op) (used : MethodUse) : Type 0 where
    pub call : IsCall setting body pc instruction used
    pub read : call.rest ≡ result_read setting body pc used

  with_use : (instruction : Op) (found used : MethodUse) (count taken : ℕ) → ReadsResult instruction found → ◌≡◌ {A = Option (MethodUse × ℕ)} (Some (found, count)) (Some (used, taken)) → ReadsResult instruction used
  with_use instruction found used count taken is e = subst (ReadsResult instruction) (some_pair_parts found used count taken e).0 is

  pub call_reads : (instruction : Op) (used : MethodUse) (taken : ℕ) → call_at instruction ≡ Some (used, taken) → ReadsResult instruction used
  call_reads (op.CallStatic found) used taken e = with_use (op.CallStatic found) found used (length found.descriptor.params) taken (record { call = record { insn = _; rest = result_read setting body pc found; emitted = refl }; read = refl }) e
  call_reads (op.CallVirtual found) used taken e = with_use (op.CallVirtual found) found used (suc (length found.descriptor.params)) taken (record { call = record { insn = _; rest = result_read setting body pc found; emitted = refl }; read = refl }) e
  call_reads (op.CallSpecial found) used taken e = with_use (op.CallSpecial found) found used (suc (length found.descriptor.params)) taken (record { call = record { insn = _; rest = result_read setting body pc found; emitted = refl }; read = refl }) e
  call_reads (op.CallInterface found) used taken e = with_use (op.CallInterface found) found used (suc (length found.descriptor.params)) taken (record { call = record { insn = _; rest = result_read setting body pc found; emitted = refl }; read = refl }) e
  call_reads instruction used taken e = absurd (none-some (used, taken) e)
