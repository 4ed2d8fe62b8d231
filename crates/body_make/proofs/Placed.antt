-- What instructions and rows name, at their places in the code.
use Rattle.std.proofs.Common.{◌≡◌, inl, inr, ◌⊎◌, ◌↔◌, ℕ, zero, suc, ◌-◌, ◌<◌, ◌≤◌, Bool, true, List, [], ◌∷◌, length, get_or, Option, Some, None, refl, sym, ap, subst, ◌∙◌, arith}
use Rattle.std.specs.Prelude.{Err}
use Rattle.std.proofs.lemmas.Bool.{false≢true}
use Rattle.class_file.specs.declared.record.ClassFile.{ClassFile}
use Rattle.class_file.specs.declared.record.HandlerRow.{HandlerRow}
use Rattle.class_code.specs.declared.insn.Insn.{Insn}
use Rattle.class_code.specs.Code.{Insns}
use Rattle.class_code.specs.Flow.{code_ways}
use Rattle.code_reach.specs.Reached.{Ways, IsReached, AreFlags, TellReached}
use Rattle.body_form.specs.declared.op.Op.{Op}
use Rattle.body_form.specs.declared.body.Guard.{Guard}
use Rattle.body_make.specs.declared.fault.Fault.{Fault}
use Rattle.body_make.specs.declared.fault.Fault.TheVariants as fault
use Rattle.body_make.specs.declared.refusal.LinkRefusal.{LinkRefusal}
use Rattle.body_make.specs.Refusals.{no_memory, refusal_of}
use Rattle.body_make.specs.Answers.{Tells}
use Rattle.body_make.specs.Names.{RefusesFor, IsOpOf}
use Rattle.body_make.proofs.Refusing.{own_number}
use Rattle.jvm_model.specs.declared.refusal.Refusal.{Refusal}
use Rattle.jvm_model.specs.Resolution.{Resolved}
use Rattle.jvm_model.specs.Instructions.{op_of, caught_by}
use Rattle.jvm_model.specs.Linking.{fault_of, refusal_at, NamesOf, IsSkipped, IsTested, row_refusal}
use Rattle.jvm_model.specs.Bodies.{IsFamily, IsResolved, IsNop, IsGuard}

-- a fault that is told is refused, unless there was no memory
pub told_refusal : {X : Type 0} (position member pc : ℕ) (why : LinkRefusal) (fault : Fault) (wanted : Resolved X) → RefusesFor position member pc fault why → Tells {X = X} (Err fault) wanted
    → (why ≡ no_memory) ⊎ (refusal_at position member pc (fault_of wanted) ≡ Some (refusal_of why))
told_refusal {X = X} position member pc why fault.Unresolved wanted refuses tells = inr (ap (λ (w : Resolved X). refusal_at position member pc (fault_of w)) tells ∙ ap (λ (r : Refusal). Some r) (sym refuses))
told_refusal {X = X} position member pc why fault.WrongKind wanted refuses tells = inr (ap (λ (w : Resolved X). refusal_at position member pc (fault_of w)) tells ∙ ap (λ (r : Refusal). Some r) (sym refuses))
told_refusal {X = X} position member pc why fault.Denied wanted refuses tells = inr (ap (λ (w : Resolved X). refusal_at position member pc (fault_of w)) tells ∙ ap (λ (r : Refusal). Some r) (sym refuses))
told_refusal {X = X} position member pc why fault.Memory wanted refuses tells = inl refuses

-- ---- instructions

flag_within : (all : Ways) (rows : List HandlerRow) (insns : Insns) (flags : List Bool) (i : ℕ) (x : ℕ × Insn) (other : Bool) → AreFlags all (code_ways rows insns) flags → i < length insns → x ≡ get_or insns i x
    → (get_or flags i other ≡ true) ↔ IsReached all x.0
flag_within all rows [] flags i x other are lt is = absurd (omega (arith, lt))
flag_within all rows (y ∷ insns) [] i x other are lt is = absurd are
flag_within all rows (y ∷ insns) (flag ∷ flags) zero x other are lt is = subst (λ (z : ℕ × Insn). (flag ≡ true) ↔ IsReached all z.0) (sym is) are.0
flag_within all rows (y ∷ insns) (flag ∷ flags) (suc i) x other are lt is = flag_within all rows insns flags i x other are.1 (omega (arith, lt)) is

-- the flag of an instruction tells whether it is reached
pub flag_at : (rows : List HandlerRow) (insns : Insns) (flags : List Bool) (i : ℕ) (x : ℕ × Insn) (flag : Bool) → TellReached (code_ways rows insns) flags → i < length insns → x ≡ get_or insns i x
    → flag ≡ get_or flags i flag → (flag ≡ true) ↔ IsReached (code_ways rows insns) x.0
flag_at rows insns flags i x flag tell lt is same = subst (λ b. (b ≡ true) ↔ IsReached (code_ways rows insns) x.0) (sym same) (flag_within (code_ways rows insns) rows insns flags i x flag tell lt is)

many_flags : (all : Ways) (rows : List HandlerRow) (insns : Insns) (flags : List Bool) → AreFlags all (code_ways rows insns) flags → length flags ≡ length insns
many_flags all rows [] [] are = refl
many_flags all rows [] (flag ∷ flags) are = absurd are
many_flags all rows (x ∷ insns) [] are = absurd are
many_flags all rows (x ∷ insns) (flag ∷ flags) are = ap suc (many_flags all rows insns flags are.1)

-- there is a flag for each instruction
pub flags_length : (rows : List HandlerRow) (insns : Insns) (flags : List Bool) → TellReached (code_ways rows insns) flags → length flags ≡ length insns
flags_length rows insns flags tell = many_flags (code_ways rows insns) rows insns flags tell

module _ (files : List ClassFile) (class : ℕ) (file : ClassFile) (member : ℕ) (ways : Ways) (x : ℕ × Insn) (reached : Bool) (tells : (reached ≡ true) ↔ IsReached ways x.0) where
  -- an instruction of which the family is had is not refused
  pub named_none : (op : Op) → 32 ≤ class → IsOpOf files class file.pool reached x.1 op → NamesOf files (class - 32) file member ways x None
  named_none op le (inl (is, ok)) =
      IsTested (tells.0 is) (sym (ap (λ n. refusal_at (class - 32) member x.0 (fault_of (op_of files n file.pool x.1))) (own_number class le) ∙ ap (λ (w : Resolved Op). refusal_at (class - 32) member x.0 (fault_of w)) ok))
  named_none op le (inr (is, nop)) = IsSkipped (λ there. absurd (false≢true (sym is ∙ tells.1 there))) refl

  pub named_some : (why : Refusal) → 32 ≤ class → reached ≡ true → refusal_at (class - 32) member x.0 (fault_of (op_of files class file.pool x.1)) ≡ Some why → NamesOf files (class - 32) file member ways x (Some why)
  named_some why le is e = IsTested (tells.0 is) (sym (ap (λ n. refusal_at (class - 32) member x.0 (fault_of (op_of files n file.pool x.1))) (own_number class le) ∙ e))

  pub family_of : (op : Op) → IsOpOf files class file.pool reached x.1 op → IsFamily files class file.pool ways x (x.0, op)
  family_of op (inl (is, ok)) = IsResolved refl (tells.0 is) ok
  family_of op (inr (is, nop)) = IsNop refl (λ there. absurd (false≢true (sym is ∙ tells.1 there))) nop

-- ---- rows

module _ (files : List ClassFile) (class : ℕ) (file : ClassFile) (member index : ℕ) (row : HandlerRow) where
  at_own : 32 ≤ class → row_refusal files (class - 32) file member index row ≡ refusal_at (class - 32) member row.target (fault_of (caught_by files class file.pool row.catch_type))
  at_own le = ap (λ n. refusal_at (class - 32) member row.target (fault_of (caught_by files n file.pool row.catch_type))) (own_number class le)

  -- a row of which the guard is had is not refused
  pub row_none : (guard : Guard) → 32 ≤ class → IsGuard files class file.pool row guard → row_refusal files (class - 32) file member index row ≡ None
  row_none guard le is = at_own le ∙ ap (λ (w : Resolved (Option ℕ)). refusal_at (class - 32) member row.target (fault_of w)) is.catches

  pub row_some : (why : Refusal) → 32 ≤ class → refusal_at (class - 32) member row.target (fault_of (caught_by files class file.pool row.catch_type)) ≡ Some why → row_refusal files (class - 32) file member index row ≡ Some why
  row_some why le e = at_own le ∙ e
