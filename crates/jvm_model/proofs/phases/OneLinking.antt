-- The phases of members and of the entry have one answer for each list of classes, and so for each set of files.
use Rattle.std.proofs.Common.{◌≡◌, ℕ, ◌+◌, List, Option, None, refl, sym, ◌∙◌}
use Rattle.library.specs.Classes.{first_own}
use Rattle.class_file.specs.declared.record.ClassFile.{ClassFile}
use Rattle.class_file.specs.declared.record.CodeAttr.{CodeAttr}
use Rattle.class_file.specs.declared.record.Member.{Member}
use Rattle.class_code.specs.declared.insn.Insn.{Insn}
use Rattle.class_code.specs.Code.{Insns, decoded}
use Rattle.class_code.specs.Flow.{code_ways}
use Rattle.code_reach.specs.Reached.{Ways}
use Rattle.jvm_model.specs.declared.refusal.Refusal.{Refusal}
use Rattle.jvm_model.specs.Phases.{first_refusal}
use Rattle.jvm_model.specs.CodeInsns.{insns_in}
use Rattle.jvm_model.specs.Instructions.{op_of}
use Rattle.jvm_model.specs.FirstOf.{FirstOf, IfThere}
use Rattle.jvm_model.specs.Linking.{declared_refusal, fault_of, refusal_at, row_refusal, NamesOf, IsSkipped, IsTested, CodeNames, MethodNames, ClassLinks, Linking, Members}
use Rattle.jvm_model.specs.Entry.{entry_refusal, Entering, EntryPoint}
use Rattle.jvm_model.specs.ClosedSet.{records_of}
use Rattle.jvm_model.proofs.phases.FirstAnswers.{IsOne, IsSome, one_first, some_first, one_there, some_there, one_else, some_else, one_same, some_same}
use Rattle.jvm_model.proofs.bodies.ReachedInsns.{where_reached}

-- ---- the instructions of a method, and its rows

module _ (files : List ClassFile) (position : ℕ) (file : ClassFile) (member : ℕ) where
  one_names : (ways : Ways) (x : ℕ × Insn) → IsOne (NamesOf files position file member ways x)
  one_names ways x a b (IsSkipped none p) (IsSkipped other q) = p ∙ sym q
  one_names ways x a b (IsSkipped none p) (IsTested reached q) = absurd (none reached)
  one_names ways x a b (IsTested reached p) (IsSkipped none q) = absurd (none reached)
  one_names ways x a b (IsTested reached p) (IsTested other q) = p ∙ sym q

  some_names : (ways : Ways) (x : ℕ × Insn) → IsSome (NamesOf files position file member ways x)
  some_names ways x =
      where_reached ways x.0 (NamesOf files position file member ways x)
      (λ reached. (refusal_at position member x.0 (fault_of (op_of files (first_own + position) file.pool x.1)), IsTested reached refl))
      (λ none. (None, IsSkipped none refl))

  -- what the instructions of a method name
  abbrev InsnsName : CodeAttr → Insns → Option Refusal → Type 0
  InsnsName code insns found = FirstOf (λ index x. NamesOf files position file member (code_ways code.handlers insns) x) 0 insns found

  -- what the rows of its exception table catch
  abbrev RowsName : CodeAttr → Option Refusal → Type 0
  RowsName code found = found ≡ first_refusal (row_refusal files position file member) 0 code.handlers

  one_code : (code : CodeAttr) (insns : Insns) → IsOne (CodeNames files position file member code insns)
  one_code code insns =
      one_else (InsnsName code insns) (RowsName code)
      (one_first (λ index x. NamesOf files position file member (code_ways code.handlers insns) x) (λ index x. one_names (code_ways code.handlers insns) x) 0 insns)
      (one_same (first_refusal (row_refusal files position file member) 0 code.handlers))

  some_code : (code : CodeAttr) (insns : Insns) → IsSome (CodeNames files position file member code insns)
  some_code code insns =
      some_else (InsnsName code insns) (RowsName code)
      (some_first (λ index x. NamesOf files position file member (code_ways code.handlers insns) x) (λ index x. some_names (code_ways code.handlers insns) x) 0 insns)
      (some_same (first_refusal (row_refusal files position file member) 0 code.handlers))

  abbrev CodeIsNamed : CodeAttr → Option Refusal → Type 0
  CodeIsNamed code found = IfThere (CodeNames files position file member code) (insns_in (decoded code.code)) found

  one_method : (m : Member) → IsOne (MethodNames files position file member m)
  one_method m = one_there CodeIsNamed (λ code. one_there (CodeNames files position file member code) (one_code code) (insns_in (decoded code.code))) m.code

  some_method : (m : Member) → IsSome (MethodNames files position file member m)
  some_method m = some_there CodeIsNamed (λ code. some_there (CodeNames files position file member code) (some_code code) (insns_in (decoded code.code))) m.code

-- ---- the classes

module _ (files : List ClassFile) where
  abbrev Declares : ℕ → ClassFile → Option Refusal → Type 0
  Declares position file found = found ≡ declared_refusal files position file

  abbrev MethodsName : ℕ → ClassFile → Option Refusal → Type 0
  MethodsName position file found = FirstOf (MethodNames files position file) 0 file.methods found

  one_class : (position : ℕ) (file : ClassFile) → IsOne (ClassLinks files position file)
  one_class position file =
      one_else (Declares position file) (MethodsName position file) (one_same (declared_refusal files position file))
      (one_first (MethodNames files position file) (one_method files position file) 0 file.methods)

  some_class : (position : ℕ) (file : ClassFile) → IsSome (ClassLinks files position file)
  some_class position file =
      some_else (Declares position file) (MethodsName position file) (some_same (declared_refusal files position file))
      (some_first (MethodNames files position file) (some_method files position file) 0 file.methods)

  pub linking_unique : IsOne (Linking files)
  linking_unique = one_first (ClassLinks files) one_class 0 files

  pub linking_total : IsSome (Linking files)
  linking_total = some_first (ClassLinks files) some_class 0 files

-- ---- the phases over the files

pub members_total : (files : List (List ℕ)) → IsSome (Members files)
members_total files = some_there Linking linking_total (records_of files)

pub members_unique : (files : List (List ℕ)) → IsOne (Members files)
members_unique files = one_there Linking linking_unique (records_of files)

pub entry_total : (files : List (List ℕ)) → IsSome (EntryPoint files)
entry_total files = some_there Entering (λ classes. some_same (entry_refusal classes)) (records_of files)

pub entry_unique : (files : List (List ℕ)) → IsOne (EntryPoint files)
entry_unique files = one_there Entering (λ classes. one_same (entry_refusal classes)) (records_of files)
