-- Where frames that match stand in their code: the youngest at the beginning of an expansion, the others at their calls.
use Rattle.std.proofs.Common.{◌≡◌, ℕ, suc, Bool, true, false, nat_eq, if◌then◌else◌, List, [], ◌∷◌, ◌++◌, length, reverse, Option, Some, refl, sym, ap, subst, ◌∙◌, arith}
use Rattle.std.specs.List.{Contains}
use Rattle.std.proofs.lemmas.Bool.{and_parts, eqb-true}
use Rattle.std.proofs.lemmas.Option.{none-some, same_Some, some_pair_parts}
use Rattle.class_pool.specs.declared.types.MemberId.{MemberId}
use Rattle.image_instr.specs.declared.insn.MInsn.{MInsn}
use Rattle.image_instr.specs.declared.insn.SwitchRow.{SwitchRow}
use Rattle.body_form.specs.declared.body.Body.{Body}
use Rattle.body_form.specs.declared.op.MethodUse.{MethodUse}
use Rattle.body_form.specs.declared.op.Op.{Op}
use Rattle.body_form.specs.declared.op.Op.TheVariants as op
use Rattle.jvm_model.specs.ImageExpansion.{Emitted, cut_arguments}
use Rattle.jvm_model.specs.TypesRules.{op_at}
use Rattle.jvm_model.specs.WidthsShapes.{shapes_at}
use Rattle.mote_model.specs.State.{Frame as SplitFrame}
use Rattle.typed_machine.specs.TypedState.{Frame}
use Rattle.typed_machine.specs.TypedWorld.{body_among, is_of}
use Rattle.type_safety.specs.Safety.{method_of}
use Rattle.match_states.specs.MatchedFrames.{YoungestMatches, WaitingMatches, call_at}
use Rattle.match_states.specs.Setting.{Setting, table_for, widths_for, id_for}
use Rattle.match_code.specs.Standing.{emitted_at, StandsInExpansion}

-- ---- the body of a method

-- a body that is found for a method is among the bodies, and is that method's
pub record IsFound (bodies : List Body) (id : MemberId) (body : Body) : Type 0 where
  pub of_set : Contains bodies body
  pub method : method_of body ≡ id

abbrev member_id : ℕ → ℕ → MemberId
member_id class member = record { class = class; member = member }

-- the first one, or one after it
first_or_later : (id : MemberId) (other : Body) (bodies : List Body) (body : Body) → (body_among bodies id ≡ Some body → IsFound bodies id body)
    → (b : Bool) → is_of id other ≡ b → (if b then Some other else body_among bodies id) ≡ Some body → IsFound (other ∷ bodies) id body
first_or_later id other bodies body later true is found =
    let parts = and_parts (nat_eq id.class other.class) (nat_eq id.member other.method) is in
    subst (IsFound (other ∷ bodies) id) (same_Some other body found)
    (record {
      of_set = (0, omega arith, refl);
      method = ap (λ (c : ℕ). member_id c other.method) (sym (eqb-true id.class other.class parts.0)) ∙ ap (λ (m : ℕ). member_id id.class m) (sym (eqb-true id.member other.method parts.1));
    })
first_or_later id other bodies body later false is found =
    let there = later found in
    let within = there.of_set.1 in
    record { of_set = (suc there.of_set.0, omega arith, there.of_set.2); method = there.method }

pub found_body : (bodies : List Body) (id : MemberId) (body : Body) → body_among bodies id ≡ Some body → IsFound bodies id body
unfolding body_among
found_body [] id body e = cc
found_body (other ∷ bodies) id body e = first_or_later id other bodies body (found_body bodies id body) (is_of id other) refl e

-- ---- the youngest frame

module _ (setting : Setting) (frame : Frame) (other : SplitFrame) where
  -- it stands at the first machine instruction of the expansion, where there is one
  pub youngest_stands : (youngest : YoungestMatches setting frame other) (instruction : Op) → op_at youngest.body.ops frame.pc ≡ Some instruction
      → (insn : MInsn) (rows : List SwitchRow) (rest : List Emitted) → emitted_at setting youngest.body frame.pc instruction ≡ (insn, rows) ∷ rest
      → StandsInExpansion setting youngest.body other frame.pc instruction [] insn rows rest
  youngest_stands youngest instruction at insn rows rest emitted =
      let found = found_body setting.world.bodies frame.method youngest.body youngest.found in
      record {
        of_set = found.of_set;
        method = youngest.method ∙ ap (id_for setting) (sym found.method);
        at = at;
        emitted = emitted;
        pc_is = omega (arith, youngest.pc);
      }

-- ---- frames that wait

-- what cuts the arguments of a call, before it
abbrev pub cuts_at : Setting → Body → ℕ → MethodUse → List Emitted
cuts_at setting body pc used = cut_arguments 0 (reverse used.descriptor.params) (shapes_at (widths_for setting body) (table_for setting body) pc)

-- the expansion of a call: what cuts the arguments, the call, and what reads its result
pub record IsCall (setting : Setting) (body : Body) (pc : ℕ) (instruction : Op) (used : MethodUse) : Type 0 where
  pub insn : MInsn
  pub rest : List Emitted
  pub emitted : emitted_at setting body pc instruction ≡ cuts_at setting body pc used ++ (insn, []) ∷ rest

module _ (setting : Setting) (body : Body) (pc : ℕ) where
  with_use : (instruction : Op) (found used : MethodUse) (count taken : ℕ) → IsCall setting body pc instruction found → ◌≡◌ {A = Option (MethodUse × ℕ)} (Some (found, count)) (Some (used, taken)) → IsCall setting body pc instruction used
  with_use instruction found used count taken is e = subst (IsCall setting body pc instruction) (some_pair_parts found used count taken e).0 is

  pub call_emitted : (instruction : Op) (used : MethodUse) (taken : ℕ) → call_at instruction ≡ Some (used, taken) → IsCall setting body pc instruction used
  call_emitted (op.CallStatic found) used taken e = with_use (op.CallStatic found) found used (length found.descriptor.params) taken (record { insn = _; rest = _; emitted = refl }) e
  call_emitted (op.CallVirtual found) used taken e = with_use (op.CallVirtual found) found used (suc (length found.descriptor.params)) taken (record { insn = _; rest = _; emitted = refl }) e
  call_emitted (op.CallSpecial found) used taken e = with_use (op.CallSpecial found) found used (suc (length found.descriptor.params)) taken (record { insn = _; rest = _; emitted = refl }) e
  call_emitted (op.CallInterface found) used taken e = with_use (op.CallInterface found) found used (suc (length found.descriptor.params)) taken (record { insn = _; rest = _; emitted = refl }) e
  call_emitted instruction used taken e = absurd (none-some (used, taken) e)

module _ (setting : Setting) (frame : Frame) (other : SplitFrame) where
  -- one stands at its call
  pub waiting_stands : (waiting : WaitingMatches setting frame other)
      → (call : IsCall setting waiting.body frame.pc waiting.instruction waiting.used) × StandsInExpansion setting waiting.body other frame.pc waiting.instruction (cuts_at setting waiting.body frame.pc waiting.used) call.insn [] call.rest
  waiting_stands waiting =
      let found = found_body setting.world.bodies frame.method waiting.body waiting.found in
      let call = call_emitted setting waiting.body frame.pc waiting.instruction waiting.used waiting.taken waiting.call in (
        call,
        record {
          of_set = found.of_set;
          method = waiting.method ∙ ap (id_for setting) (sym found.method);
          at = waiting.at;
          emitted = call.emitted;
          pc_is = waiting.pc;
        },
      )
