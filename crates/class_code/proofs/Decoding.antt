-- Reading instructions one after the other, by steps.
use Rattle.std.proofs.Common.{◌≡◌, ℕ, zero, suc, ◌+◌, ◌-◌, ◌≤◌, ◌<◌, List, [], ◌∷◌, ◌++◌, length, Result, Ok, Err, refl, sym, ap, ◌∙◌, append_assoc, arith}
use Rattle.std.proofs.lemmas.List.{append-nil}
use Rattle.class_code.specs.declared.refusal.Fault.{Fault}
use Rattle.class_code.specs.declared.refusal.CodeRefusal.{CodeRefusal}
use Rattle.class_code.specs.declared.insn.Insn.{Insn}
use Rattle.class_code.specs.declared.refusal.Fault.TheVariants.{Unsupported, BadCode, Memory}
use Rattle.class_code.specs.Operands.{Gives}
use Rattle.class_code.specs.Table.{Prefix, insn_at}
use Rattle.class_code.specs.Code.{Insns, Answers, at_pc, with_prefix, go_on, insns_within, insns_of}
use Rattle.class_code.proofs.Shorter.{insn_at-shorter}

pub prefix-then : (a b : Insns) (read : Result Insns CodeRefusal) → with_prefix a (with_prefix b read) ≡ with_prefix (a ++ b) read
prefix-then a b (Ok insns) = ap (λ (insns : Insns). Ok insns) (sym (append_assoc a b insns))
prefix-then a b (Err why) = refl

pub prefix-none : (read : Result Insns CodeRefusal) → with_prefix [] read ≡ read
prefix-none (Ok insns) = refl
prefix-none (Err why) = refl

-- what agrees on the rest agrees
go_on-same : (f g : ℕ → List ℕ → Result Insns CodeRefusal) (pc : ℕ) (bytes : List ℕ) (prefix : Prefix) → ((insn : Insn) (suffix : List ℕ) (next : ℕ) → prefix ≡ Ok (insn, suffix) → f next suffix ≡ g next suffix) → go_on f pc bytes prefix ≡ go_on g pc bytes prefix
go_on-same f g pc bytes (Ok (insn, suffix)) same = ap (with_prefix ((pc, insn) ∷ [])) (same insn suffix (pc + (length bytes - length suffix)) refl)
go_on-same f g pc bytes (Err why) same = refl

-- any two counts that suffice read the same
within-same : (one other pc : ℕ) (bytes : List ℕ) → length bytes ≤ one → length bytes ≤ other → insns_within one pc bytes ≡ insns_within other pc bytes
unfolding insns_within
within-same zero zero pc bytes h k = refl
within-same zero (suc other) pc [] h k = refl
within-same zero (suc other) pc (byte ∷ bytes) h k = absurd (omega arith)
within-same (suc one) zero pc [] h k = refl
within-same (suc one) zero pc (byte ∷ bytes) h k = absurd (omega arith)
within-same (suc one) (suc other) pc [] h k = refl
within-same (suc one) (suc other) pc (byte ∷ bytes) h k =
    go_on-same (insns_within one) (insns_within other) pc (byte ∷ bytes) (insn_at pc (byte ∷ bytes)) (λ insn suffix next e.
    let less = insn_at-shorter pc (byte ∷ bytes) insn suffix e in
    within-same one other next suffix (omega (arith, less)) (omega (arith, less)))

-- ---- by steps

pub insns_of-none : (pc : ℕ) → insns_of pc [] ≡ Ok []
unfolding insns_within
insns_of-none pc = refl

pub insns_of-step : (pc byte : ℕ) (bytes : List ℕ) → insns_of pc (byte ∷ bytes) ≡ go_on insns_of pc (byte ∷ bytes) (insn_at pc (byte ∷ bytes))
unfolding insns_within
insns_of-step pc byte bytes =
    go_on-same (insns_within (length bytes)) insns_of pc (byte ∷ bytes) (insn_at pc (byte ∷ bytes)) (λ insn suffix next e.
    let less = insn_at-shorter pc (byte ∷ bytes) insn suffix e in
    within-same (length bytes) (length suffix) next suffix (omega (arith, less)) (omega arith))

-- ---- the loop

pub goes_on : (prefix : Insns) (pc : ℕ) (bytes : List ℕ) (insn : Insn) (suffix : List ℕ) (total : Result Insns CodeRefusal) → 0 < length bytes → insn_at pc bytes ≡ Ok (insn, suffix)
    → with_prefix prefix (insns_of pc bytes) ≡ total → with_prefix (prefix ++ (pc, insn) ∷ []) (insns_of (pc + (length bytes - length suffix)) suffix) ≡ total
goes_on prefix pc [] insn suffix total there e so_far = absurd (omega arith)
goes_on prefix pc (byte ∷ bytes) insn suffix total there e so_far =
    sym (prefix-then prefix ((pc, insn) ∷ []) (insns_of (pc + (length (byte ∷ bytes) - length suffix)) suffix))
    ∙ ap (with_prefix prefix) (ap (go_on insns_of pc (byte ∷ bytes)) (sym e) ∙ sym (insns_of-step pc byte bytes)) ∙ so_far

pub fails : (prefix : Insns) (pc : ℕ) (bytes : List ℕ) (why : Fault) (total : Result Insns CodeRefusal) → 0 < length bytes → insn_at pc bytes ≡ Err why
    → with_prefix prefix (insns_of pc bytes) ≡ total → total ≡ Err (at_pc pc why)
fails prefix pc [] why total there e so_far = absurd (omega arith)
fails prefix pc (byte ∷ bytes) why total there e so_far =
    sym so_far ∙ ap (with_prefix prefix) (insns_of-step pc byte bytes ∙ ap (go_on insns_of pc (byte ∷ bytes)) e)

pub is_done : (prefix : Insns) (pc : ℕ) (bytes : List ℕ) (total : Result Insns CodeRefusal) → length bytes ≤ 0 → with_prefix prefix (insns_of pc bytes) ≡ total → total ≡ Ok prefix
is_done prefix pc [] total none so_far =
    sym so_far ∙ ap (with_prefix prefix) (insns_of-none pc) ∙ ap (λ (insns : Insns). Ok insns) (append-nil prefix)
is_done prefix pc (byte ∷ bytes) total none so_far = absurd (omega arith)

-- a fault ends the reading, unless it is want of memory
pub refused : {X Y : Type 0} (view : X → Insn × List ℕ) (other : Y → Insns) (prefix : Insns) (pc : ℕ) (bytes : List ℕ) (why : Fault) (total : Result Insns CodeRefusal) → 0 < length bytes
    → Gives view (Err why) (insn_at pc bytes) → with_prefix prefix (insns_of pc bytes) ≡ total → Answers other (Err (at_pc pc why)) total
refused view other prefix pc bytes (Unsupported opcode) total there h so_far = fails prefix pc bytes (Unsupported opcode) total there h so_far
refused view other prefix pc bytes BadCode total there h so_far = fails prefix pc bytes BadCode total there h so_far
refused view other prefix pc bytes Memory total there h so_far = tt
