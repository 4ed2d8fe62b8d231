-- Offsets are in the order of pcs, seen from where a frame stands: jumps that lead forward, and rows that cover.
use Rattle.std.proofs.Common.{◌≡◌, inl, inr, ℕ, ◌+◌, ◌<◌, ◌≤◌, Bool, true, false, ◌&&◌, nat_lt, nat_le, List, [], ◌∷◌, ◌++◌, length, refl, sym, ap, ◌∙◌, length-append, arith}
use Rattle.std.proofs.lemmas.Bool.{cases_lt}
use Rattle.std.proofs.lemmas.Bool.Decides.{nat_tests}
use Rattle.std.proofs.lemmas.Option.{none-some}
use Rattle.image_instr.specs.declared.insn.MInsn.{MInsn}
use Rattle.image_instr.specs.declared.insn.SwitchRow.{SwitchRow}
use Rattle.image_instr.specs.Insn.{insn_bytes, IsInsn}
use Rattle.image_instr.specs.Reading.{insn_at}
use Rattle.image_instr.proofs.encoding.Again.{insn_at-again}
use Rattle.body_form.specs.declared.body.Body.{Body}
use Rattle.body_form.specs.declared.body.Guard.{Guard}
use Rattle.body_form.specs.declared.op.Op.{Op}
use Rattle.body_form.specs.Flow.{covers}
use Rattle.jvm_model.specs.ImageEmission.{size_at, offset_of}
use Rattle.jvm_model.specs.ImageExpansion.{Emitted, bytes_of}
use Rattle.mote_model.specs.State.{Frame}
use Rattle.match_states.specs.Setting.{Setting, IsCompiled, source_for}
use Rattle.match_code.specs.Standing.{StandsInExpansion}
use Rattle.match_code.proofs.CodeLayout.{offset_keeps, offset_above}
use Rattle.match_code.proofs.CodeMoves.{body_rises}
use Rattle.match_code.proofs.CodePoints.{bytes_cut}
use Rattle.expansion.proofs.ExpansionSizes.{size_is}

-- ---- an instruction has a byte

no_bytes : (insn : MInsn) (rows : List SwitchRow) (bytes : List ℕ) → IsInsn insn rows → bytes ≡ insn_bytes insn rows → 0 < length bytes
no_bytes insn rows [] is e = absurd (none-some (insn, length (insn_bytes insn rows)) (ap (λ (b : List ℕ). insn_at (b ++ [])) e ∙ insn_at-again insn rows [] is))
no_bytes insn rows (byte ∷ bytes) is e = omega arith

pub some_bytes : (insn : MInsn) (rows : List SwitchRow) → IsInsn insn rows → 0 < length (insn_bytes insn rows)
some_bytes insn rows is = no_bytes insn rows (insn_bytes insn rows) is refl

-- ---- order

less_is : (m n a b : ℕ) → m < n → a < b → nat_lt a b ≡ nat_lt m n
less_is m n a b less lower =
    let first : nat_lt a b ≡ true = grind (arith, nat_tests) in
    let second : nat_lt m n ≡ true = grind (arith, nat_tests) in
    first ∙ sym second

not_less_is : (m n a b : ℕ) → n ≤ m → b ≤ a → nat_lt a b ≡ nat_lt m n
not_less_is m n a b from above =
    let first : nat_lt a b ≡ false = grind (arith, nat_tests) in
    let second : nat_lt m n ≡ false = grind (arith, nat_tests) in
    first ∙ sym second

up_to_is : (m n a b : ℕ) → nat_lt a b ≡ nat_lt m n → nat_le b a ≡ nat_le n m
up_to_is m n a b same = grind (arith, nat_tests)

module _ (setting : Setting) (compiled : IsCompiled setting) (body : Body) (frame : Frame) (pc : ℕ) (instruction : Op) (first : List Emitted) (insn : MInsn) (rows : List SwitchRow) (rest : List Emitted)
    (stands : StandsInExpansion setting body frame pc instruction first insn rows rest) (is : IsInsn insn rows) where
  -- the machine instruction ends within the expansion
  pub ends_within : frame.pc + length (insn_bytes insn rows) ≤ offset_of (source_for setting body) pc + size_at (source_for setting body) (pc, instruction)
  ends_within =
      let source = source_for setting body in
      let size = ap (λ (l : List Emitted). length (bytes_of l)) stands.emitted in
      omega (arith, stands.pc_is, size, size_is source (offset_of source) (pc, instruction), ap length (bytes_cut first insn rows rest), length-append (bytes_of first) (insn_bytes insn rows ++ bytes_of rest), length-append (insn_bytes insn rows) (bytes_of rest))

  -- a jump leads forward where that of the pc does
  pub same_order : (to : ℕ) → nat_lt frame.pc (offset_of (source_for setting body) to) ≡ nat_lt pc to
  same_order to =
      let source = source_for setting body in
      elim (cases_lt pc to) [
        | inl less ↦ less_is pc to frame.pc (offset_of source to) less
            (omega (arith, some_bytes insn rows is, ends_within, offset_above source (body_rises setting compiled body stands.of_set) pc instruction stands.at to less))
        | inr from ↦ not_less_is pc to frame.pc (offset_of source to) from (omega (arith, stands.pc_is, offset_keeps source to pc from))
      ]

  pub same_from : (from : ℕ) → nat_le (offset_of (source_for setting body) from) frame.pc ≡ nat_le from pc
  same_from from = up_to_is pc from frame.pc (offset_of (source_for setting body) from) (same_order from)

  -- a row of the code covers the frame where that of the body covers the pc
  pub same_covering : (guard : Guard) → (nat_le (offset_of (source_for setting body) guard.start) frame.pc && nat_lt frame.pc (offset_of (source_for setting body) guard.end)) ≡ covers pc guard
  same_covering guard =
      ap (λ (b : Bool). b && nat_lt frame.pc (offset_of (source_for setting body) guard.end)) (same_from guard.start)
      ∙ ap (λ (b : Bool). nat_le guard.start pc && b) (same_order guard.end)
