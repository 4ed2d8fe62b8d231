-- Machine instructions that stand one after the other as the instructions of their bytes, each with its offset.
use Rattle.std.proofs.Common.{◌≡◌, ℕ, ◌+◌, List, [], ◌∷◌, ◌++◌, map, length, drop, Some, refl, sym, ap, subst, ◌∙◌, arith, length-append}
use Rattle.std.specs.List.{AllByRecursion, Contains}
use Rattle.std.proofs.lemmas.List.{drop_at, drop-drop}
use Rattle.std.proofs.lemmas.List.Concat.{flat_map-cons}
use Rattle.image_instr.specs.declared.insn.MInsn.{MInsn}
use Rattle.image_instr.specs.declared.insn.SwitchRow.{SwitchRow}
use Rattle.image_instr.specs.Insn.{insn_bytes}
use Rattle.image_instr.specs.Reading.{insn_at, rows_at}
use Rattle.image_instr.proofs.encoding.Again.{insn_at-again}
use Rattle.image_instr.proofs.encoding.EncodingIsInjective.{rows_are}
use Rattle.image_check.specs.Code.{AreIn, Insns, IsStart, JumpsToStarts, targets}
use Rattle.jvm_model.specs.ImageExpansion.{Emitted, bytes_of, emitted_bytes}
use Rattle.match_code.specs.Standing.{IsEmittedInsn}
use Rattle.type_safety.proofs.fitting.SetLists.{in_head, in_tail}

-- each with its offset, from this one on
unfoldable pub listed : ℕ → List Emitted → Insns
listed at [] = []
listed at (emitted ∷ rest) = (at, emitted.0) ∷ listed (at + length (emitted_bytes emitted)) rest

-- the bytes of the first are read, and those of the others are left
module _ (emitted : Emitted) (rest : List Emitted) where
  bytes_first : bytes_of (emitted ∷ rest) ≡ insn_bytes emitted.0 emitted.1 ++ bytes_of rest
  bytes_first = flat_map-cons emitted_bytes emitted rest

  read_first : IsEmittedInsn emitted → insn_at (bytes_of (emitted ∷ rest)) ≡ Some (emitted.0, length (emitted_bytes emitted))
  read_first is = ap insn_at bytes_first ∙ insn_at-again emitted.0 emitted.1 (bytes_of rest) is

  rows_first : IsEmittedInsn emitted → rows_at emitted.0 (bytes_of (emitted ∷ rest)) ≡ emitted.1
  rows_first is = ap (rows_at emitted.0) bytes_first ∙ sym (rows_are emitted.0 emitted.1 (bytes_of rest) is)

  bytes_left : drop (length (emitted_bytes emitted)) (bytes_of (emitted ∷ rest)) ≡ bytes_of rest
  bytes_left = ap (drop (length (emitted_bytes emitted))) bytes_first ∙ drop_at (emitted_bytes emitted) (bytes_of rest) (length (emitted_bytes emitted)) refl

-- the bytes are these instructions
pub listed_are : (at : ℕ) (list : List Emitted) → AllByRecursion IsEmittedInsn list → (end : ℕ) × AreIn at (bytes_of list) (listed at list) end []
unfolding listed
listed_are at [] all = (at, (refl, refl))
listed_are at (emitted ∷ rest) all =
    let size = length (emitted_bytes emitted) in
    let others = listed_are (at + size) rest all.1 in
    let left = subst (λ (bytes : List ℕ). AreIn (at + size) bytes (listed (at + size) rest) others.0 []) (sym (bytes_left emitted rest)) others.1 in
    (others.0, (refl, size, read_first emitted rest all.0, left))

-- what holds of each machine instruction holds of each that is listed
pub listed_all : (P : MInsn → Type 0) (at : ℕ) (list : List Emitted) → AllByRecursion (λ emitted. P emitted.0) list → AllByRecursion (λ x. P x.1) (listed at list)
unfolding listed
listed_all P at [] all = tt
listed_all P at (emitted ∷ rest) all = (all.0, listed_all P (at + length (emitted_bytes emitted)) rest all.1)

-- an instruction behind others stands behind their bytes
pub start_behind : (at : ℕ) (first : List Emitted) (emitted : Emitted) (rest : List Emitted) → IsStart (listed at (first ++ emitted ∷ rest)) (at + length (bytes_of first))
unfolding listed
start_behind at [] emitted rest =
    let here : at + 0 ≡ at = omega arith in
    let offsets = map (λ (x : ℕ × MInsn). x.0) (listed (at + length (emitted_bytes emitted)) rest) in
    subst (Contains (at ∷ offsets)) (sym here) (in_head at offsets)
start_behind at (other ∷ first) emitted rest =
    let size = length (emitted_bytes other) in
    let all = first ++ emitted ∷ rest in
    let there = start_behind (at + size) first emitted rest in
    let offset : (at + size) + length (bytes_of first) ≡ at + length (bytes_of (other ∷ first)) =
    omega (arith, ap length (flat_map-cons emitted_bytes other first), length-append (emitted_bytes other) (bytes_of first)) in
    subst (Contains (map (λ (x : ℕ × MInsn). x.0) (listed at (other ∷ all)))) offset
    (in_tail at ((at + size) + length (bytes_of first)) (map (λ (x : ℕ × MInsn). x.0) (listed (at + size) all)) there)

-- where the targets of each are starts, each that is listed jumps to starts
module _ (code : List ℕ) (whole : Insns) where
  abbrev pub AimsAtStarts : Emitted → Type 0
  AimsAtStarts emitted = AllByRecursion (IsStart whole) (targets emitted.0 emitted.1)

  pub listed_jump : (at : ℕ) (list : List Emitted) → drop at code ≡ bytes_of list → AllByRecursion IsEmittedInsn list → AllByRecursion AimsAtStarts list
      → AllByRecursion (JumpsToStarts code whole) (listed at list)
  unfolding listed
  listed_jump at [] here all aim = tt
  listed_jump at (emitted ∷ rest) here all aim =
      let size = length (emitted_bytes emitted) in
      let rows : emitted.1 ≡ rows_at emitted.0 (drop at code) = sym (rows_first emitted rest all.0) ∙ ap (rows_at emitted.0) (sym here) in
      let next : drop (at + size) code ≡ bytes_of rest = sym (drop-drop size at code) ∙ ap (drop size) here ∙ bytes_left emitted rest in
      (subst (λ (rows : List SwitchRow). AllByRecursion (IsStart whole) (targets emitted.0 rows)) rows aim.0, listed_jump (at + size) rest next all.1 aim.1)
