-- What a depth that reaches an offset reaches after its instruction.
use Rattle.std.proofs.Common.{◌≡◌, ℕ, ◌+◌, ◌<◌, Bool, true, false, cond, List, [], ◌∷◌, length, drop, get_or, Some, IsTrue, refl, sym, ap, subst, ◌∙◌, arith, inl, inr, All}
use Rattle.std.specs.List.{Contains, AllByRecursion}
use Rattle.std.proofs.lemmas.List.{drop_all}
use Rattle.std.proofs.lemmas.List.Elements.{Contains-append_cases, All-weaker, All-contains_itself}
use Rattle.std.proofs.lemmas.Bool.{cases_lt}
use Rattle.std.proofs.lemmas.Option.{none-some, some_pair_parts}
use Rattle.image_instr.specs.declared.insn.MInsn.{MInsn}
use Rattle.image_instr.specs.Reading.{insn_at, rows_at}
use Rattle.image_form.specs.declared.record.Image.{Image}
use Rattle.image_check.specs.Code.{Insns, CodeIs, IsStart, JumpsToStarts, targets, targets_at}
use Rattle.image_check.specs.Visits.{Depth, IsSent, HasOperands, moved_by, suffix, goes_on, successors}
use Rattle.image_check.specs.Flow.{JumpsWell, StartsAt}
use Rattle.image_check.proofs.Passing.{each-of}
use Rattle.image_check.proofs.Holding.{one_list, start_there, IsThere}

-- the one element
pub is_one : {X : Type 0} (x y : X) → Contains (x ∷ []) y → x ≡ y
is_one x y has = elim (cases_lt has.0 1) [ inl lt ↦ let none : has.0 ≡ 0 = omega arith in ap (λ k. get_or (x ∷ []) k y) (sym none) ∙ has.2 | inr le ↦ absurd (omega (arith, has.1)) ]

pub is_none : {X : Type 0} (x : X) → Contains [] x → ⊥
is_none x has = omega (arith, has.1)

-- the depth after an instruction reaches each successor
pub sent_on : (image : Image) (code : List ℕ) (pc : ℕ) (d : Depth) (insn : MInsn) (size to : ℕ) → IsSent image code pc d → insn_at (drop pc code) ≡ Some (insn, size) → HasOperands (moved_by image insn) d → Contains (successors code pc insn size) to → IsSent image code to (suffix (moved_by image insn) d)
sent_on image code pc d insn size to sent found operands place = λ holds first closed.
    each-of (λ to. holds to (suffix (moved_by image insn) d).refs (suffix (moved_by image insn) d).cells ≡ true) (successors code pc insn size) to
    (closed pc d.refs d.cells insn size (sent holds first closed) found operands) place

-- a start is in the code
pub start_within : (code : List ℕ) (pc : ℕ) → StartsAt code pc → pc < length code
start_within code pc starts =
    let there = start_there code starts.insns starts.is_code pc starts.start in
    elim (cases_lt pc (length code)) [
      | inl lt ↦ lt
      | inr le ↦ absurd (none-some (there.insn, there.size) (ap insn_at (sym (drop_all pc code le)) ∙ there.found))
    ]

-- an instruction is at a start
pub start_found : (code : List ℕ) (pc : ℕ) → StartsAt code pc → (insn : MInsn) × (size : ℕ) × (insn_at (drop pc code) ≡ Some (insn, size))
start_found code pc starts =
    let there = start_there code starts.insns starts.is_code pc starts.start in
    (there.insn, there.size, there.found)

abbrev cond_next : Bool → ℕ → List ℕ
cond_next b next = cond b (next ∷ []) []

next_starts : (b : Bool) (insns : Insns) (next to : ℕ) → (b ≡ true → IsStart insns next) → Contains (cond_next b next) to → IsStart insns to
next_starts true insns next to h place = subst (IsStart insns) (is_one next to place) (h refl)
next_starts false insns next to h place = absurd (is_none to place)

starts_there : (code : List ℕ) (pc : ℕ) (insn : MInsn) (size to : ℕ) (insns : Insns) → CodeIs code insns → AllByRecursion (JumpsToStarts code insns) insns → IsThere code insns pc → insn_at (drop pc code) ≡ Some (insn, size)
    → (IsTrue (goes_on insn) → pc + size < length code) → Contains (successors code pc insn size) to → IsStart insns to
starts_there code pc insn size to insns is jumps there found inside place =
    let parts = some_pair_parts there.insn insn there.size size (sym there.found ∙ found) in
    let among : Contains insns (pc, insn) = subst (λ (x : MInsn). Contains insns (pc, x)) parts.0 there.among in
    elim (Contains-append_cases (cond_next (goes_on insn) (pc + size)) (targets insn (rows_at insn (drop pc code))) to place) [
      | inl next ↦ next_starts (goes_on insn) insns (pc + size) to (λ on. subst (λ n. IsStart insns (pc + n)) parts.1 (there.goes (subst (λ n. pc + n < length code) (sym parts.1) (inside on)))) next
      | inr target ↦ each-of (IsStart insns) (targets_at code (pc, insn)) to (each-of (JumpsToStarts code insns) insns (pc, insn) jumps among) target
    ]

-- each successor of an instruction of the code is a start
pub starts_on : (code : List ℕ) (pc : ℕ) (insn : MInsn) (size to : ℕ) → JumpsWell code → StartsAt code pc → insn_at (drop pc code) ≡ Some (insn, size) → (IsTrue (goes_on insn) → pc + size < length code) → Contains (successors code pc insn size) to → StartsAt code to
starts_on code pc insn size to well starts found inside place =
    let same = one_list 0 code starts.insns well.insns starts.is_code.0 well.is_code.0 starts.is_code.1 well.is_code.1 in
    let there = start_there code well.insns well.is_code pc (subst (λ (insns : Insns). IsStart insns pc) same starts.start) in
    record { insns = well.insns; is_code = well.is_code; start = starts_there code pc insn size to well.insns well.is_code well.jumps there found inside place }

-- each successor is in the table
pub successors_within : (code : List ℕ) (pc : ℕ) (insn : MInsn) (size n : ℕ) → JumpsWell code → StartsAt code pc → insn_at (drop pc code) ≡ Some (insn, size) → (IsTrue (goes_on insn) → pc + size < length code) → n ≡ length code → All (λ to. to < n) (successors code pc insn size)
successors_within code pc insn size n well starts found inside e =
    All-weaker (Contains (successors code pc insn size)) (λ to. to < n)
    (λ to place. omega (arith, start_within code to (starts_on code pc insn size to well starts found inside place), e))
    (successors code pc insn size) (All-contains_itself (successors code pc insn size))
