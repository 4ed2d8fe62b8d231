-- What the code of a method names: its instructions, and then the rows of its exception table.
use Rattle.std.proofs.Common.{◌≡◌, inl, inr, ℕ, List, Option, Some, None, sym, subst}
use Rattle.class_file.specs.declared.record.ClassFile.{ClassFile}
use Rattle.class_file.specs.declared.record.CodeAttr.{CodeAttr}
use Rattle.class_file.specs.declared.record.HandlerRow.{HandlerRow}
use Rattle.class_code.specs.declared.insn.Insn.{Insn}
use Rattle.class_code.specs.Code.{Insns}
use Rattle.class_code.specs.Flow.{code_ways}
use Rattle.jvm_model.specs.declared.refusal.Refusal.{Refusal}
use Rattle.jvm_model.specs.Phases.{first_refusal}
use Rattle.jvm_model.specs.FirstOf.{FirstOf}
use Rattle.jvm_model.specs.Linking.{NamesOf, row_refusal, CodeNames}

module _ (files : List ClassFile) (position : ℕ) (file : ClassFile) (member : ℕ) (code : CodeAttr) (insns : Insns) where
  -- the first refusal of the instructions, with these rows
  abbrev pub OfInsns : List HandlerRow → Option Refusal → Type 0
  OfInsns rows found = FirstOf (λ (index : ℕ) (x : ℕ × Insn). NamesOf files position file member (code_ways rows insns) x) 0 insns found

  abbrev pub rows_refusal : List HandlerRow → Option Refusal
  rows_refusal rows = first_refusal (row_refusal files position file member) 0 rows

  pub code_none : (rows : List HandlerRow) → rows ≡ code.handlers → OfInsns rows None → rows_refusal rows ≡ None → CodeNames files position file member code insns None
  code_none rows same first second =
      (subst (λ (l : List HandlerRow). OfInsns l None) same first, sym (subst (λ (l : List HandlerRow). rows_refusal l ≡ None) same second))

  pub code_first : (rows : List HandlerRow) (why : Refusal) → rows ≡ code.handlers → OfInsns rows (Some why) → CodeNames files position file member code insns (Some why)
  code_first rows why same first = inl (subst (λ (l : List HandlerRow). OfInsns l (Some why)) same first)

  pub code_second : (rows : List HandlerRow) (why : Refusal) → rows ≡ code.handlers → OfInsns rows None → rows_refusal rows ≡ Some why → CodeNames files position file member code insns (Some why)
  code_second rows why same first second =
      inr (subst (λ (l : List HandlerRow). OfInsns l None) same first, sym (subst (λ (l : List HandlerRow). rows_refusal l ≡ Some why) same second))
