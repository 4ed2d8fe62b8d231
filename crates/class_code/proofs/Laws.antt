-- Decoding as a function is the relation: each answer of it comes exactly where the relation says.
use Rattle.std.proofs.Common.{◌≡◌, ℕ, zero, suc, ◌+◌, ◌-◌, ◌≤◌, ◌<◌, List, [], ◌∷◌, length, Bool, Option, Some, None, option_map, Result, Ok, Err, refl, sym, ap, subst, ◌∙◌, arith, inl, inr, ◌⊎◌}
use Rattle.std.specs.Prelude.{IfOk, IfErr}
use Rattle.std.proofs.lemmas.List.{append-nil}
use Rattle.class_code.specs.declared.refusal.Fault.{Fault}
use Rattle.class_code.specs.declared.refusal.Fault.TheVariants as fault
use Rattle.class_code.specs.declared.refusal.CodeRefusal.{CodeRefusal}
use Rattle.class_code.specs.declared.refusal.CodeRefusal.TheVariants.{Unsupported, BadCode, Memory}
use Rattle.class_code.specs.declared.insn.Insn.{Insn}
use Rattle.class_code.specs.Table.{Prefix, insn_at}
use Rattle.class_code.specs.Code.{Insns, AreIn, CodeIs, FailsAt, JumpsToStarts, IsFirstOther, LeadsAstray, IsCode, IsRefused, RiseFrom, at_pc, with_prefix, go_on, insns_within, insns_of, jumps_to_starts, first_other, unless_astray, with_targets, decoded, Answers}
use Rattle.class_code.proofs.Shorter.{insn_at-shorter}
use Rattle.class_code.proofs.Decoding.{prefix-then, prefix-none, insns_of-none, insns_of-step}
use Rattle.class_code.proofs.Firsts.{none_exactly, found-first, first-found}
use Rattle.class_code.proofs.Starts.{jumps-tell}

abbrev done : Insns → Result Insns CodeRefusal
done insns = Ok insns

abbrev failed : CodeRefusal → Result Insns CodeRefusal
failed why = Err why

ok_is : (a b : Insns) → done a ≡ done b → a ≡ b
ok_is a b e = cc

err_is : (a b : CodeRefusal) → failed a ≡ failed b → a ≡ b
err_is a b e = cc

ok_is_err : (a : Insns) (b : CodeRefusal) → done a ≡ failed b → ⊥
ok_is_err a b e = cc

-- ---- what is read stands there

-- instructions, and where the bytes after them begin
pub record Stands (pc : ℕ) (bytes : List ℕ) (insns : Insns) : Type 0 where
  pub end : ℕ
  pub stand : AreIn pc bytes insns end []

-- instructions, and a fault after them
pub record Falls (pc : ℕ) (bytes : List ℕ) (why : CodeRefusal) : Type 0 where
  pub before : Insns
  pub next : ℕ
  pub left : List ℕ
  pub stand : AreIn pc bytes before next left
  pub there : 0 < length left
  pub fault : Fault
  pub fails : insn_at next left ≡ Err fault
  pub is : why ≡ at_pc next fault

-- one more instruction in prefix
holds-more : (pc : ℕ) (bytes : List ℕ) (insn : Insn) (suffix : List ℕ) (read : Result Insns CodeRefusal) (insns : Insns) → insn_at pc bytes ≡ Ok (insn, suffix)
    → ((others : Insns) → read ≡ Ok others → Stands (pc + (length bytes - length suffix)) suffix others) → with_prefix ((pc, insn) ∷ []) read ≡ Ok insns → Stands pc bytes insns
holds-more pc bytes insn suffix (Ok others) insns e rest total =
    let r = rest others refl in
    subst (Stands pc bytes) (ok_is ((pc, insn) ∷ others) insns total) (record { end = r.end; stand = (refl, suffix, e, r.stand) })
holds-more pc bytes insn suffix (Err why) insns e rest total = absurd (ok_is_err insns why (sym total))

falls-more : (pc : ℕ) (bytes : List ℕ) (insn : Insn) (suffix : List ℕ) (read : Result Insns CodeRefusal) (why : CodeRefusal) → insn_at pc bytes ≡ Ok (insn, suffix)
    → (read ≡ Err why → Falls (pc + (length bytes - length suffix)) suffix why) → with_prefix ((pc, insn) ∷ []) read ≡ Err why → Falls pc bytes why
falls-more pc bytes insn suffix (Ok others) why e rest total = absurd (ok_is_err ((pc, insn) ∷ others) why total)
falls-more pc bytes insn suffix (Err other) why e rest total =
    let r = rest total in
    record { before = (pc, insn) ∷ r.before; next = r.next; left = r.left; stand = (refl, suffix, e, r.stand); there = r.there; fault = r.fault; fails = r.fails; is = r.is }

-- the instruction at the prefix, where the rest is so for fewer bytes
prefix-holds : (read : ℕ → List ℕ → Result Insns CodeRefusal) (pc : ℕ) (bytes : List ℕ) (insns : Insns) (prefix : Prefix) → insn_at pc bytes ≡ prefix
    → ((next : ℕ) (suffix : List ℕ) (others : Insns) → length suffix < length bytes → read next suffix ≡ Ok others → Stands next suffix others) → go_on read pc bytes prefix ≡ Ok insns → Stands pc bytes insns
prefix-holds read pc bytes insns (Ok (insn, suffix)) e rest total =
    holds-more pc bytes insn suffix (read (pc + (length bytes - length suffix)) suffix) insns e (λ others r. rest (pc + (length bytes - length suffix)) suffix others (insn_at-shorter pc bytes insn suffix e) r) total
prefix-holds read pc bytes insns (Err why) e rest total = absurd (ok_is_err insns (at_pc pc why) (sym total))

read-holds : (most pc : ℕ) (bytes : List ℕ) (insns : Insns) → length bytes ≤ most → insns_within most pc bytes ≡ Ok insns → Stands pc bytes insns
unfolding insns_within
read-holds zero pc [] insns le e = subst (Stands pc []) (ok_is [] insns e) (record { end = pc; stand = (refl, refl) })
read-holds zero pc (byte ∷ bytes) insns le e = absurd (omega arith)
read-holds (suc most) pc [] insns le e = subst (Stands pc []) (ok_is [] insns e) (record { end = pc; stand = (refl, refl) })
read-holds (suc most) pc (byte ∷ bytes) insns le e =
    prefix-holds (insns_within most) pc (byte ∷ bytes) insns (insn_at pc (byte ∷ bytes)) refl (λ next suffix others less r. read-holds most next suffix others (omega (arith, less)) r) e

prefix-falls : (read : ℕ → List ℕ → Result Insns CodeRefusal) (pc byte : ℕ) (bytes : List ℕ) (why : CodeRefusal) (prefix : Prefix) → insn_at pc (byte ∷ bytes) ≡ prefix
    → ((next : ℕ) (suffix : List ℕ) → length suffix < length (byte ∷ bytes) → read next suffix ≡ Err why → Falls next suffix why) → go_on read pc (byte ∷ bytes) prefix ≡ Err why → Falls pc (byte ∷ bytes) why
prefix-falls read pc byte bytes why (Ok (insn, suffix)) e rest total =
    falls-more pc (byte ∷ bytes) insn suffix (read (pc + (length (byte ∷ bytes) - length suffix)) suffix) why e (λ r. rest (pc + (length (byte ∷ bytes) - length suffix)) suffix (insn_at-shorter pc (byte ∷ bytes) insn suffix e) r) total
prefix-falls read pc byte bytes why (Err fault) e rest total =
    record { before = []; next = pc; left = byte ∷ bytes; stand = (refl, refl); there = omega arith; fault = fault; fails = e; is = sym (err_is (at_pc pc fault) why total) }

read-falls : (most pc : ℕ) (bytes : List ℕ) (why : CodeRefusal) → length bytes ≤ most → insns_within most pc bytes ≡ Err why → Falls pc bytes why
unfolding insns_within
read-falls zero pc bytes why le e = absurd (ok_is_err [] why e)
read-falls (suc most) pc [] why le e = absurd (ok_is_err [] why e)
read-falls (suc most) pc (byte ∷ bytes) why le e =
    prefix-falls (insns_within most) pc byte bytes why (insn_at pc (byte ∷ bytes)) refl (λ next suffix less r. read-falls most next suffix why (omega (arith, less)) r) e

-- ---- what stands there is read

none-at_end : (pc : ℕ) (insn : Insn) (suffix : List ℕ) → insn_at pc [] ≡ Ok (insn, suffix) → ⊥
none-at_end pc insn suffix e = omega (arith, insn_at-shorter pc [] insn suffix e)

pub hold-reads : (pc : ℕ) (bytes : List ℕ) (insns : Insns) (next : ℕ) (left : List ℕ) → AreIn pc bytes insns next left → insns_of pc bytes ≡ with_prefix insns (insns_of next left)
hold-reads pc bytes [] next left stand = ap (insns_of pc) (sym stand.1) ∙ ap (λ n. insns_of n left) (sym stand.0) ∙ sym (prefix-none (insns_of next left))
hold-reads pc [] ((at, insn) ∷ insns) next left stand = absurd (none-at_end pc insn stand.1 stand.2)
hold-reads pc (byte ∷ bytes) ((at, insn) ∷ insns) next left stand =
    insns_of-step pc byte bytes ∙ ap (go_on insns_of pc (byte ∷ bytes)) stand.2
    ∙ ap (with_prefix ((pc, insn) ∷ [])) (hold-reads (pc + (length (byte ∷ bytes) - length stand.1)) stand.1 insns next left stand.3)
    ∙ prefix-then ((pc, insn) ∷ []) insns (insns_of next left)
    ∙ ap (λ n. with_prefix ((n, insn) ∷ insns) (insns_of next left)) (sym stand.0)

code-reads : (code : List ℕ) (insns : Insns) → CodeIs code insns → insns_of 0 code ≡ Ok insns
code-reads code insns is = hold-reads 0 code insns is.0 [] is.1 ∙ ap (with_prefix insns) (insns_of-none is.0) ∙ ap done (append-nil insns)

fault-reads : (code : List ℕ) (pc : ℕ) (why : Fault) (left : List ℕ) → 0 < length left → insn_at pc left ≡ Err why → insns_of pc left ≡ Err (at_pc pc why)
fault-reads code pc why [] there e = absurd (omega arith)
fault-reads code pc why (byte ∷ left) there e = insns_of-step pc byte left ∙ ap (go_on insns_of pc (byte ∷ left)) e

fails-reads : (code : List ℕ) (pc : ℕ) (why : Fault) → FailsAt code pc why → insns_of 0 code ≡ Err (at_pc pc why)
fails-reads code pc why f = hold-reads 0 code f.before pc f.left f.stand ∙ ap (with_prefix f.before) (fault-reads code pc why f.left f.there f.fails)

-- ---- with targets

abbrev test : Insns → ℕ × Insn → Bool
test insns x = jumps_to_starts insns x.1

ended : (insns : Insns) (o : Option (ℕ × Insn)) (list : Insns) → unless_astray insns (option_map (λ x. x.0) o) ≡ Ok list → (insns ≡ list) × (o ≡ None)
ended insns None list e = (ok_is insns list e, refl)
ended insns (Some x) list e = absurd (ok_is_err list (BadCode x.0) (sym e))

strayed : (insns : Insns) (o : Option (ℕ × Insn)) (why : CodeRefusal) → unless_astray insns (option_map (λ x. x.0) o) ≡ Err why → (x : ℕ × Insn) × (o ≡ Some x) × (why ≡ BadCode x.0)
strayed insns None why e = absurd (ok_is_err insns why e)
strayed insns (Some x) why e = (x, refl, sym (err_is (BadCode x.0) why e))

targets-found : (code : List ℕ) (read : Result Insns CodeRefusal) (list : Insns) → insns_of 0 code ≡ read → with_targets read ≡ Ok list → IsCode code list
targets-found code (Ok insns) list e total =
    let end = ended insns (first_other (test insns) insns) list total in
    let stands = read-holds (length code) 0 code insns (omega arith) e in
    subst (IsCode code) end.0 (record { stand = (stands.end, stands.stand); jumps = (none_exactly (test insns) (JumpsToStarts insns) (jumps-tell insns) insns).0 end.1 })
targets-found code (Err why) list e total = absurd (ok_is_err list why (sym total))

pub code-found : (code : List ℕ) (list : Insns) → decoded code ≡ Ok list → IsCode code list
code-found code list e = targets-found code (insns_of 0 code) list refl e

pub found-code : (code : List ℕ) (list : Insns) → IsCode code list → decoded code ≡ Ok list
found-code code list is =
    ap with_targets (code-reads code list is.stand)
    ∙ ap (λ o. unless_astray list (option_map (λ x. x.0) o)) ((none_exactly (test list) (JumpsToStarts list) (jumps-tell list) list).1 is.jumps)

-- a fault that is no want of memory is a refusal
abbrev OrMemory : List ℕ → CodeRefusal → Type 0
OrMemory code why = (why ≡ Memory) ⊎ IsRefused code why

fault-refused : (code : List ℕ) (pc : ℕ) (why : Fault) → FailsAt code pc why → OrMemory code (at_pc pc why)
fault-refused code pc (fault.Unsupported opcode) f = inr f
fault-refused code pc fault.BadCode f = inr (inl f)
fault-refused code pc fault.Memory f = inl refl

targets-refused : (code : List ℕ) (read : Result Insns CodeRefusal) (why : CodeRefusal) → insns_of 0 code ≡ read → with_targets read ≡ Err why → OrMemory code why
targets-refused code (Ok insns) why e total =
    let stray = strayed insns (first_other (test insns) insns) why total in
    let stands = read-holds (length code) 0 code insns (omega arith) e in
    let first : IsFirstOther (JumpsToStarts insns) insns (stray.0.0, stray.0.1) = found-first (test insns) (JumpsToStarts insns) (jumps-tell insns) insns stray.0 stray.1 in
    subst (OrMemory code) (sym stray.2) (inr (inr (record { insns = insns; insn = stray.0.1; stand = (stands.end, stands.stand); first = first })))
targets-refused code (Err other) why e total =
    let f = read-falls (length code) 0 code other (omega arith) e in
    subst (OrMemory code) (sym f.is ∙ err_is other why total) (fault-refused code f.next f.fault (record { before = f.before; left = f.left; stand = f.stand; there = f.there; fails = f.fails }))

pub code-refused : (code : List ℕ) (why : CodeRefusal) → decoded code ≡ Err why → (why ≡ Memory) ⊎ IsRefused code why
code-refused code why e = targets-refused code (insns_of 0 code) why refl e

astray-reads : (code : List ℕ) (pc : ℕ) → LeadsAstray code pc → decoded code ≡ Err (BadCode pc)
astray-reads code pc a =
    ap with_targets (code-reads code a.insns a.stand)
    ∙ ap (λ o. unless_astray a.insns (option_map (λ x. x.0) o)) (first-found (test a.insns) (JumpsToStarts a.insns) (jumps-tell a.insns) a.insns (pc, a.insn) a.first)

pub refused-code : (code : List ℕ) (why : CodeRefusal) → IsRefused code why → decoded code ≡ Err why
refused-code code (Unsupported pc opcode) r = ap with_targets (fails-reads code pc (fault.Unsupported opcode) r)
refused-code code (BadCode pc) r = elim r [ inl f ↦ ap with_targets (fails-reads code pc fault.BadCode f) | inr a ↦ astray-reads code pc a ]
refused-code code Memory r = absurd r

-- ---- pcs rise

rise-weaker : (low high : ℕ) (insns : Insns) → low ≤ high → RiseFrom high insns → RiseFrom low insns
rise-weaker low high [] le rise = tt
rise-weaker low high ((pc, insn) ∷ insns) le rise = (omega (arith, rise.0), rise.1)

hold-rises : (pc : ℕ) (bytes : List ℕ) (insns : Insns) (next : ℕ) (left : List ℕ) → AreIn pc bytes insns next left → RiseFrom pc insns
hold-rises pc bytes [] next left stand = tt
hold-rises pc bytes ((at, insn) ∷ insns) next left stand =
    let less = insn_at-shorter pc bytes insn stand.1 stand.2 in
    (omega (arith, stand.0), rise-weaker (suc at) (pc + (length bytes - length stand.1)) insns (omega (arith, less, stand.0)) (hold-rises (pc + (length bytes - length stand.1)) stand.1 insns next left stand.3))

pub reads-rise : (code : List ℕ) (insns : Insns) → insns_of 0 code ≡ Ok insns → RiseFrom 0 insns
reads-rise code insns e =
    let stands = read-holds (length code) 0 code insns (omega arith) e in
    hold-rises 0 code insns stands.end [] stands.stand

-- ---- what was answered

pub answered-ok : {X : Type 0} (view : X → Insns) (r : Result X CodeRefusal) (code : List ℕ) → Answers view r (decoded code) → IfOk r (λ x. IsCode code (view x))
answered-ok view (Ok x) code a = code-found code (view x) a
answered-ok view (Err why) code a = tt

pub answered-err : {X : Type 0} (view : X → Insns) (r : Result X CodeRefusal) (code : List ℕ) → Answers view r (decoded code) → IfErr r (λ why. (why ≡ Memory) ⊎ IsRefused code why)
answered-err view (Ok x) code a = tt
answered-err view (Err (Unsupported pc opcode)) code a = code-refused code (Unsupported pc opcode) a
answered-err view (Err (BadCode pc)) code a = code-refused code (BadCode pc) a
answered-err view (Err Memory) code a = inl refl
