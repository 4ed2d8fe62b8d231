-- The files of a set are read, keep the rules of class files, and have code that fits.
use Rattle.std.proofs.Common.{◌≡◌, ℕ, suc, List, [], ◌∷◌, length, Option, Some, None, option_map, option_and_then, Result, Ok, Err, refl, sym, ap, subst, ◌∙◌}
use Rattle.std.specs.List.{AllByRecursion}
use Rattle.class_file.specs.declared.record.ClassFile.{ClassFile}
use Rattle.class_file.specs.declared.record.CodeAttr.{CodeAttr}
use Rattle.class_file.specs.declared.record.HandlerRow.{HandlerRow}
use Rattle.class_file.specs.declared.record.Member.{Member}
use Rattle.class_file.specs.declared.refusal.ReadRefusal.{ReadRefusal}
use Rattle.class_file.specs.ReadingClass.{class_of}
use Rattle.class_code.specs.declared.refusal.CodeRefusal.{CodeRefusal}
use Rattle.class_code.specs.declared.refusal.CodeRefusal.TheVariants as fault
use Rattle.class_code.specs.Code.{Insns, decoded, HandlerFits, handler_fits, first_other, first_unfit}
use Rattle.class_code.proofs.Firsts.{none_exactly}
use Rattle.class_code.proofs.Laws.{code-found}
use Rattle.class_code.proofs.Numbers.{HasNumbers, hold-numbers}
use Rattle.class_code.proofs.Starts.{handler-tells}
use Rattle.jvm_model.specs.declared.refusal.Refusal.{Refusal}
use Rattle.jvm_model.specs.Phases.{first_refusal, record_in, unless_unfit, fault_in, fault_of, refusal_of_code, method_refusal, class_refusal, code_refusal}
use Rattle.jvm_model.specs.ClosedSet.{records_of}
use Rattle.type_safety.proofs.fitting.SetLists.{none_some, same_some, no_first, no_second}
use Rattle.type_safety.proofs.facts.ReadRules.{FileRules, file_keeps}

-- the code is instructions, and its rows lead to starts of them
pub record FitsCode (code : CodeAttr) : Type 0 where
  pub insns : Insns
  pub is : decoded code.code ≡ Ok insns
  pub numbers : AllByRecursion (λ x. HasNumbers x.1) insns
  pub rows : AllByRecursion (HandlerFits insns (length code.code)) code.handlers

abbrev pub FitsMethod : Member → Type 0
FitsMethod m = (code : CodeAttr) → m.code ≡ Some code → FitsCode code

pub record IsRead (file : ClassFile) : Type 0 where
  pub rules : FileRules file
  pub codes : AllByRecursion FitsMethod file.methods

-- ---- no refusal

map_none : {X Y : Type 0} (f : X → Y) (o : Option X) → option_map f o ≡ None → o ≡ None
map_none f None e = refl
map_none f (Some x) e = cc

all_pass : {X : Type 0} (test : ℕ → X → Option Refusal) (P : X → Type 0) → ((place : ℕ) (x : X) → test place x ≡ None → P x) → (place : ℕ) (xs : List X) → first_refusal test place xs ≡ None → AllByRecursion P xs
unfolding first_refusal
all_pass test P h place [] e = tt
all_pass test P h place (x ∷ xs) e =
    (h place x (no_first (test place x) (first_refusal test (suc place) xs) e), all_pass test P h (suc place) xs (no_second (test place x) (first_refusal test (suc place) xs) e))

-- ---- code

rows_fit : (code : CodeAttr) (insns : Insns) → unless_unfit code insns ≡ None → AllByRecursion (HandlerFits insns (length code.code)) code.handlers
rows_fit code insns e =
    let none = map_none (λ (row : HandlerRow). row.start) (first_other (handler_fits insns (length code.code)) code.handlers) (map_none (λ pc. fault.BadCode pc) (first_unfit insns (length code.code) code.handlers) e) in
    (none_exactly (handler_fits insns (length code.code)) (HandlerFits insns (length code.code)) (handler-tells insns (length code.code)) code.handlers).0 none

code_fits : (code : CodeAttr) (read : Result Insns CodeRefusal) → decoded code.code ≡ read → fault_in code read ≡ None → FitsCode code
code_fits code (Ok insns) is e =
    let found = code-found code.code insns is in
    record { insns = insns; is = is; numbers = hold-numbers 0 code.code insns found.stand.0 [] found.stand.1; rows = rows_fit code insns e }
code_fits code (Err why) is e = absurd (let bad : Some why ≡ None = e in cc)

method_fits : (file member : ℕ) (m : Member) → method_refusal file member m ≡ None → FitsMethod m
method_fits file member m e code is =
    let none : option_and_then fault_of m.code ≡ None = map_none (refusal_of_code file member) (option_and_then fault_of m.code) e in
    code_fits code (decoded code.code) refl (sym (ap (option_and_then fault_of) is) ∙ none)

-- ---- files

file_reads : (bytes : List ℕ) (read : Result ClassFile ReadRefusal) → class_of bytes ≡ read → (place : ℕ) → option_and_then (class_refusal place) (record_in read) ≡ None → (rest : Option (List ClassFile)) (classes : List ClassFile)
    → ((others : List ClassFile) → rest ≡ Some others → AllByRecursion IsRead others) → option_and_then (λ class. option_map (λ others. class ∷ others) rest) (record_in read) ≡ Some classes → AllByRecursion IsRead classes
file_reads bytes (Err why) is place fits rest classes others e = none_some classes e
file_reads bytes (Ok file) is place fits None classes others e = none_some classes e
file_reads bytes (Ok file) is place fits (Some more) classes others e =
    let read : IsRead file = record { rules = file_keeps bytes file is; codes = all_pass (method_refusal place) FitsMethod (method_fits place) 0 file.methods fits } in
    subst (AllByRecursion IsRead) (same_some (file ∷ more) classes e) (read, others more refl)

pub files_read : (place : ℕ) (files : List (List ℕ)) (classes : List ClassFile) → records_of files ≡ Some classes → first_refusal code_refusal place files ≡ None → AllByRecursion IsRead classes
unfolding first_refusal
files_read place [] classes e fits = subst (AllByRecursion IsRead) (same_some [] classes e) tt
files_read place (bytes ∷ files) classes e fits =
    file_reads bytes (class_of bytes) refl place (no_first (code_refusal place bytes) (first_refusal code_refusal (suc place) files) fits) (records_of files) classes
    (λ others is. files_read (suc place) files others is (no_second (code_refusal place bytes) (first_refusal code_refusal (suc place) files) fits)) e
