-- What an instruction of an initialiser does, by the tests that it passes.
use Rattle.std.proofs.Common.{◌≡◌, ℕ, suc, ◌+◌, ◌<◌, ◌≤◌, Bool, true, false, cond, [], ◌∷◌, length, drop, get_or, drop-cons, add-one, Option, Some, None, option_map, option_and_then, refl, sym, ap, subst, ◌∙◌}
use Rattle.std.proofs.lemmas.List.{drop_all}
use Rattle.std.specs.Option.{option_map_or}
use Rattle.class_pool.specs.Pool.{Slots}
use Rattle.class_file.specs.declared.record.ClassFile.{ClassFile}
use Rattle.class_file.specs.declared.record.Member.{Member}
use Rattle.class_code.specs.declared.insn.Insn.{Insn}
use Rattle.class_code.specs.Code.{Insns}
use Rattle.jvm_model.specs.declared.refusal.Refusal.{Refusal}
use Rattle.jvm_model.specs.declared.refusal.Cause.TheVariants.{BadInitialiser}
use Rattle.jvm_model.specs.Phases.{refusal_of_insn}
use Rattle.jvm_model.specs.Initialisers.{Pushed as Held, pushed_by, is_plain_return, sets, fails_after_return, fails_from}
use Rattle.jvm_model.specs.Linking.{is_initialiser, initialiser_fault, initialiser_refusal}
use Rattle.body_make.specs.declared.initialisers.Pushed.{Pushed}
use Rattle.body_make.specs.declared.initialisers.Next.{Next}
use Rattle.body_make.specs.declared.initialisers.Next.TheVariants.{Holds, Returns, Fails}
use Rattle.body_make.specs.Pushes.{pushed_of, GoesOn, method_fault}

-- ---- the first of a pair

module _ (file : ClassFile) (pool : Slots) (insn : Insn) (same : file.pool ≡ pool) (end pc : ℕ) (insns : Insns) where
  -- what comes where the instruction is no return
  after_push : Option Held → Option ℕ
  after_push found = option_map_or (λ pushed. fails_from file end (Some pushed) insns) found (Some pc)

  begins : fails_from file end None ((pc, insn) ∷ insns) ≡ cond (is_plain_return insn) (fails_after_return insns) (after_push (pushed_by pool insn))
  unfolding fails_from after_push
  begins = ap (λ (p : Slots). cond (is_plain_return insn) (fails_after_return insns) (after_push (pushed_by p insn))) same

  pub goes_return : is_plain_return insn ≡ true → GoesOn file end None (pc, insn) insns Returns
  goes_return is = begins ∙ ap (λ b. cond b (fails_after_return insns) (after_push (pushed_by pool insn))) is

  pub goes_push : (pushed : Pushed) → is_plain_return insn ≡ false → option_map pushed_of (Some pushed) ≡ pushed_by pool insn → GoesOn file end None (pc, insn) insns (Holds (Some pushed))
  unfolding after_push
  goes_push pushed no_return is =
      begins ∙ ap (λ b. cond b (fails_after_return insns) (after_push (pushed_by pool insn))) no_return ∙ ap after_push (sym is)

  pub goes_nowhere : is_plain_return insn ≡ false → None ≡ pushed_by pool insn → GoesOn file end None (pc, insn) insns Fails
  unfolding after_push
  goes_nowhere no_return is = begins ∙ ap (λ b. cond b (fails_after_return insns) (after_push (pushed_by pool insn))) no_return ∙ ap after_push (sym is)

-- ---- the second of a pair

module _ (file : ClassFile) (pushed : Held) (insn : Insn) (end pc : ℕ) (insns : Insns) where
  ends : fails_from file end (Some pushed) ((pc, insn) ∷ insns) ≡ cond (sets file pushed insn) (fails_from file end None insns) (Some pc)
  unfolding fails_from
  ends = refl

  pub goes_set : true ≡ sets file pushed insn → GoesOn file end (Some pushed) (pc, insn) insns (Holds None)
  goes_set is = ends ∙ ap (λ b. cond b (fails_from file end None insns) (Some pc)) (sym is)

  pub goes_unset : false ≡ sets file pushed insn → GoesOn file end (Some pushed) (pc, insn) insns Fails
  goes_unset is = ends ∙ ap (λ b. cond b (fails_from file end None insns) (Some pc)) (sym is)

-- ---- all of them

module _ (file : ClassFile) (end : ℕ) where
  at_end : (held : Option Held) → fails_from file end held [] ≡ Some end
  unfolding fails_from
  at_end None = refl
  at_end (Some pushed) = refl

  pub code_ends : (held : Option Held) (insns : Insns) (i : ℕ) → length insns ≤ i → fails_from file end held (drop i insns) ≡ Some end
  code_ends held insns i le = ap (fails_from file end held) (drop_all i insns le) ∙ at_end held

  code_goes : (held : Option Held) (insns : Insns) (i : ℕ) (x : ℕ × Insn) → i < length insns → x ≡ get_or insns i x → fails_from file end held (drop i insns) ≡ fails_from file end held (x ∷ drop (i + 1) insns)
  code_goes held insns i x lt is = ap (fails_from file end held) (drop-cons insns i x lt ∙ ap (λ y. y ∷ drop (suc i) insns) (sym is) ∙ ap (λ n. x ∷ drop n insns) (sym (add-one i)))

  -- by what the instruction at a position does
  module _ (held : Option Held) (insns : Insns) (i : ℕ) (x : ℕ × Insn) (lt : i < length insns) (is : x ≡ get_or insns i x) (next : Next) (does : (end pc : ℕ) (rest : Insns) → GoesOn file end held (pc, x.1) rest next) where
    here : (found : Next) → next ≡ found → GoesOn file end held x (drop (i + 1) insns) found
    here found same = subst (λ (n : Next). GoesOn file end held x (drop (i + 1) insns) n) same (does end x.0 (drop (i + 1) insns))

    pub code_holds : (pushed : Option Pushed) → next ≡ Holds pushed → fails_from file end held (drop i insns) ≡ fails_from file end (option_map pushed_of pushed) (drop (i + 1) insns)
    code_holds pushed same = code_goes held insns i x lt is ∙ here (Holds pushed) same

    pub code_returns : next ≡ Returns → fails_from file end held (drop i insns) ≡ fails_after_return (drop (i + 1) insns)
    code_returns same = code_goes held insns i x lt is ∙ here Returns same

    pub code_fails : next ≡ Fails → fails_from file end held (drop i insns) ≡ Some x.0
    code_fails same = code_goes held insns i x lt is ∙ here Fails same

-- ---- the refusal

-- where the method has no fault there is none, and else it is at the fault's pc
module _ (position : ℕ) (file : ClassFile) (member : ℕ) (m : Member) where
  refusal_at : ℕ → Refusal
  refusal_at pc = refusal_of_insn BadInitialiser position member pc 0

  by_name : (b : Bool) (o : Option ℕ) → cond b (option_map refusal_at o) None ≡ option_map refusal_at (cond b o None)
  by_name true o = refl
  by_name false o = refl

  refusal_by_fault : initialiser_refusal position file member m ≡ option_map refusal_at (method_fault file m)
  unfolding refusal_at
  refusal_by_fault = by_name (is_initialiser file.pool m) (option_and_then (initialiser_fault file) m.code)

  pub no_fault : None ≡ method_fault file m → initialiser_refusal position file member m ≡ None
  no_fault is = refusal_by_fault ∙ ap (option_map refusal_at) (sym is)

  pub fault_refused : (pc : ℕ) (why : Refusal) → Some pc ≡ method_fault file m → why ≡ refusal_of_insn BadInitialiser position member pc 0 → initialiser_refusal position file member m ≡ Some why
  unfolding refusal_at
  fault_refused pc why is same = refusal_by_fault ∙ ap (option_map refusal_at) (sym is) ∙ ap (λ (r : Refusal). Some r) (sym same)
