-- What is found at the prefix of the bytes, and only that, is encoded there.
use Rattle.std.proofs.Common.{◌≡◌, ℕ, List, ◌++◌, take, drop, Some, None, refl, sym, ap, subst, ◌∙◌}
use Rattle.std.specs.Prelude.{IfSome, IfNone}
use Rattle.std.proofs.lemmas.List.{take_at, take-append-drop}
use Rattle.std.proofs.lemmas.Option.{none-some}
use Rattle.image_instr.specs.declared.insn.SwitchRow.{SwitchRow}
use Rattle.image_instr.specs.declared.insn.MInsn.{MInsn}
use Rattle.image_instr.specs.Insn.{insn_bytes, IsAtPrefix}
use Rattle.image_instr.specs.Reading.{Found, insn_at, rows_at}
use Rattle.image_instr.proofs.encoding.Bytes.{IsBytes}
use Rattle.image_instr.proofs.encoding.Forms.{IsFound, Sound}
use Rattle.image_instr.proofs.encoding.Groups.{insn_at-sound}
use Rattle.image_instr.proofs.encoding.Again.{insn_at-again}
use Rattle.image_instr.proofs.encoding.EncodingIsInjective.{rows_are}

-- an instruction that is encoded is at the prefix
stands : (bytes : List ℕ) (insn : MInsn) (size : ℕ) → IsFound bytes insn size → IsAtPrefix insn (rows_at insn bytes) size bytes
stands bytes insn size found =
    let at : IsAtPrefix insn found.rows size bytes = record { is_insn = found.is_insn; size_is = found.size_is; bytes_are = ap (take size) found.parts ∙ take_at (insn_bytes insn found.rows) found.rest size (sym found.size_is) } in
    let same : found.rows ≡ rows_at insn bytes = rows_are insn found.rows found.rest found.is_insn ∙ ap (rows_at insn) (sym found.parts) in
    subst (λ (rows : List SwitchRow). IsAtPrefix insn rows size bytes) same at

all_hold : (bytes : List ℕ) (found : Found) → Sound bytes found → IfSome found (λ f. IsAtPrefix f.0 (rows_at f.0 bytes) f.1 bytes)
all_hold bytes None sound = tt
all_hold bytes (Some f) sound = stands bytes f.0 f.1 sound

-- what was found is at the prefix
pub found_holds : (bytes : List ℕ) → IsBytes bytes → IfSome (insn_at bytes) (λ f. IsAtPrefix f.0 (rows_at f.0 bytes) f.1 bytes)
found_holds bytes fits = all_hold bytes (insn_at bytes) (insn_at-sound bytes fits)

-- the bytes are those of the instruction, and what follows it
pub prefix_parts : (bytes : List ℕ) (insn : MInsn) (rows : List SwitchRow) (size : ℕ) → IsAtPrefix insn rows size bytes → bytes ≡ insn_bytes insn rows ++ drop size bytes
prefix_parts bytes insn rows size at =
    sym (take-append-drop size bytes) ∙ ap (λ (t : List ℕ). t ++ drop size bytes) at.bytes_are

-- what is at the prefix is found
pub prefix_found : (bytes : List ℕ) (insn : MInsn) (rows : List SwitchRow) (size : ℕ) → IsAtPrefix insn rows size bytes → insn_at bytes ≡ Some (insn, size)
prefix_found bytes insn rows size at =
    ap insn_at (prefix_parts bytes insn rows size at) ∙ insn_at-again insn rows (drop size bytes) at.is_insn ∙ ap (λ (n : ℕ). Some (insn, n)) (sym at.size_is)

-- with the rows that are read
pub prefix_rows : (bytes : List ℕ) (insn : MInsn) (rows : List SwitchRow) (size : ℕ) → IsAtPrefix insn rows size bytes → rows ≡ rows_at insn bytes
prefix_rows bytes insn rows size at =
    rows_are insn rows (drop size bytes) at.is_insn ∙ ap (rows_at insn) (sym (prefix_parts bytes insn rows size at))

-- where nothing is found, nothing stands
nothing_holds : (bytes : List ℕ) (found : Found) → insn_at bytes ≡ found → IfNone found ((insn : MInsn) (rows : List SwitchRow) (size : ℕ) → IsAtPrefix insn rows size bytes → ⊥)
nothing_holds bytes None e = λ insn rows size at. none-some (insn, size) (sym e ∙ prefix_found bytes insn rows size at)
nothing_holds bytes (Some f) e = tt

pub none_holds : (bytes : List ℕ) → IfNone (insn_at bytes) ((insn : MInsn) (rows : List SwitchRow) (size : ℕ) → IsAtPrefix insn rows size bytes → ⊥)
none_holds bytes = nothing_holds bytes (insn_at bytes) refl
