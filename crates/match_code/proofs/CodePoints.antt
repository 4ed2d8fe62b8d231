-- What code follows at a point within an expansion, and among what extends parameters.
use Rattle.std.proofs.Common.{◌≡◌, ℕ, ◌+◌, List, [], ◌∷◌, ◌++◌, length, drop, Some, sym, ap, ◌∙◌, append_assoc, length-append, arith}
use Rattle.std.specs.List.{AllByRecursion, flat_map}
use Rattle.std.proofs.lemmas.Grind.{flat_map-append}
use Rattle.std.proofs.lemmas.List.{drop_at}
use Rattle.std.proofs.lemmas.List.Concat.{flat_map-cons}
use Rattle.code_reach.specs.Reached.{RisesFrom}
use Rattle.image_instr.specs.declared.insn.MInsn.{MInsn}
use Rattle.image_instr.specs.declared.insn.SwitchRow.{SwitchRow}
use Rattle.image_instr.specs.Insn.{insn_bytes}
use Rattle.body_form.specs.declared.op.Op.{Op}
use Rattle.jvm_model.specs.ImageEmission.{Source, expansion_at, bytes_at, offset_of, code_of}
use Rattle.jvm_model.specs.ImageExpansion.{Emitted, emitted_bytes, bytes_of}
use Rattle.jvm_model.specs.TypesRules.{op_at}
use Rattle.jvm_model.specs.WidthsFrame.{fill_insns}
use Rattle.match_code.proofs.CodeLayout.{code_parts}

-- ---- lists of machine instructions

pub bytes_joined : (first rest : List Emitted) → bytes_of (first ++ rest) ≡ bytes_of first ++ bytes_of rest
bytes_joined first rest = flat_map-append emitted_bytes first rest

pub bytes_cut : (first : List Emitted) (insn : MInsn) (rows : List SwitchRow) (rest : List Emitted) → bytes_of (first ++ (insn, rows) ∷ rest) ≡ bytes_of first ++ (insn_bytes insn rows ++ bytes_of rest)
bytes_cut first insn rows rest =
    bytes_joined first ((insn, rows) ∷ rest) ∙ ap (λ (l : List ℕ). bytes_of first ++ l) (flat_map-cons emitted_bytes (insn, rows) rest)

-- the instruction comes to those before it
pub list_over : (first : List Emitted) (emitted : Emitted) (rest : List Emitted) → first ++ emitted ∷ rest ≡ (first ++ emitted ∷ []) ++ rest
list_over first emitted rest = sym (append_assoc first (emitted ∷ []) rest)

pub size_over : (first : List Emitted) (insn : MInsn) (rows : List SwitchRow) → length (bytes_of (first ++ (insn, rows) ∷ [])) ≡ length (bytes_of first) + length (insn_bytes insn rows)
size_over first insn rows =
    omega (arith, ap length (bytes_cut first insn rows []), length-append (bytes_of first) (insn_bytes insn rows ++ []), length-append (insn_bytes insn rows) [])

-- what holds of all of them holds of the one between
pub holds_here : (P : Emitted → Type 0) (first : List Emitted) (emitted : Emitted) (rest : List Emitted) → AllByRecursion P (first ++ emitted ∷ rest) → P emitted
holds_here P [] emitted rest all = all.0
holds_here P (other ∷ first) emitted rest all = holds_here P first emitted rest all.1

-- ---- points of bytes

-- bytes that stand behind others, from a point within them on
bytes_from : (before first here after : List ℕ) (at : ℕ) → length before + length first ≡ at → drop at (before ++ ((first ++ here) ++ after)) ≡ here ++ after
bytes_from before first here after at size =
    ap (λ (l : List ℕ). drop at (before ++ l)) (append_assoc first here after)
    ∙ ap (drop at) (sym (append_assoc before first (here ++ after)))
    ∙ drop_at (before ++ first) (here ++ after) at (omega (arith, length-append before first, size))

-- the code from a point within an expansion on
module _ (source : Source) (rise : RisesFrom 0 source.body.ops) (pc : ℕ) (instruction : Op) (at : op_at source.body.ops pc ≡ Some instruction)
    (first : List Emitted) (insn : MInsn) (rows : List SwitchRow) (rest : List Emitted) (emitted : expansion_at source (offset_of source) (pc, instruction) ≡ first ++ (insn, rows) ∷ rest) where
  pub after_point : List ℕ
  after_point = bytes_of rest ++ (code_parts source rise pc instruction at).after

  pub code_at_point : drop (offset_of source pc + length (bytes_of first)) (code_of source) ≡ insn_bytes insn rows ++ after_point
  unfolding after_point
  code_at_point =
      let parts = code_parts source rise pc instruction at in
      let here = insn_bytes insn rows ++ bytes_of rest in
      let point = offset_of source pc + length (bytes_of first) in
      ap (drop point) parts.code_is
      ∙ ap (λ (l : List Emitted). drop point (parts.before ++ (bytes_of l ++ parts.after))) emitted
      ∙ ap (λ (l : List ℕ). drop point (parts.before ++ (l ++ parts.after))) (bytes_cut first insn rows rest)
      ∙ bytes_from parts.before (bytes_of first) here parts.after point (omega (arith, parts.size))
      ∙ append_assoc (insn_bytes insn rows) (bytes_of rest) parts.after

-- the code from a point within what extends parameters on
module _ (source : Source) (first : List Emitted) (insn : MInsn) (rows : List SwitchRow) (rest : List Emitted) (emitted : flat_map fill_insns source.plan.fills ≡ first ++ (insn, rows) ∷ rest) where
  pub after_fill : List ℕ
  after_fill = bytes_of rest ++ flat_map (bytes_at source (offset_of source)) source.body.ops

  pub code_at_fill : drop (length (bytes_of first)) (code_of source) ≡ insn_bytes insn rows ++ after_fill
  unfolding after_fill
  code_at_fill =
      let code = flat_map (bytes_at source (offset_of source)) source.body.ops in
      let here = insn_bytes insn rows ++ bytes_of rest in
      let point = length (bytes_of first) in
      ap (λ (l : List Emitted). drop point (bytes_of l ++ code)) emitted
      ∙ ap (λ (l : List ℕ). drop point (l ++ code)) (bytes_cut first insn rows rest)
      ∙ bytes_from [] (bytes_of first) here code point (omega arith)
      ∙ append_assoc (insn_bytes insn rows) (bytes_of rest) code
