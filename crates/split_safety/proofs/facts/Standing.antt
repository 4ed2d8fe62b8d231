-- What stands at an offset that a depth reaches: an instruction, of which all rules hold, which the machine runs, and
-- after which the depth reaches each offset to which it leads.
use Rattle.std.proofs.Common.{◌≡◌, ℕ, ◌+◌, ◌<◌, ◌≤◌, Bool, true, false, ◌||◌, if◌then◌else◌, List, [], ◌∷◌, length, drop, nat_le, Some, IsTrue, sym, ap, subst, ◌∙◌, arith, ⊎_elim, drop_of_length-le}
use Rattle.std.specs.List.{AllByRecursion, Contains}
use Rattle.std.proofs.lemmas.Bool.{and_parts, le-leb, leb-true, or_cases, or_left, or_right, cases_lt}
use Rattle.std.proofs.lemmas.Option.{none-some, some_pair_parts}
use Rattle.image_instr.specs.declared.insn.MInsn.{MInsn}
use Rattle.image_instr.specs.Reading.{insn_at, rows_at}
use Rattle.image_form.specs.declared.record.Image.{Image}
use Rattle.image_form.specs.declared.record.Method.{Method}
use Rattle.image_check.specs.Checked.{IsCheckedMethod}
use Rattle.image_check.specs.Code.{Insns, IsStart, JumpsToStarts, targets, targets_at}
use Rattle.image_check.specs.Ids.{HasIds}
use Rattle.image_check.specs.Listing.{is_start}
use Rattle.image_check.specs.Visits.{Depth, moved_by, suffix, HasOperands, ReturnsResult, FitsBody, goes_on, successors, IsClosed, IsSent}
use Rattle.image_check.proofs.Flowing.{more-all}
use Rattle.image_check.proofs.Holding.{first_start, one_list, start_there}
use Rattle.image_check.proofs.Passing.{each-of}
use Rattle.image_check.proofs.Reaching.{sent_on}
use Rattle.image_check.proofs.Starts.{start-found, all-passes}
use Rattle.split_safety.specs.Runs.{RunsMethod, runs_so_far}
use Rattle.split_safety.proofs.facts.Lists.{all_append}
use Rattle.split_safety.proofs.facts.Numbers.{PushesInt, found_sized}

-- an instruction is found inside the code alone
pub found_inside : (code : List ℕ) (pc : ℕ) (found : MInsn × ℕ) → insn_at (drop pc code) ≡ Some found → pc < length code
found_inside code pc found e =
    ⊎_elim (λ lt. lt) (λ le. absurd (none-some found (sym (ap insn_at (drop_of_length-le code le)) ∙ e))) (cases_lt pc (length code))

-- ---- the starts are a closed set, with what is after the end

module _ (image : Image) (method : Method) (checked : IsCheckedMethod image method) where
  abbrev IsStartOrPast : ℕ → Type 0
  IsStartOrPast pc = (is_start checked.insns pc || nat_le (length method.code) pc) ≡ true

  tells : (pc : ℕ) → IsStart checked.insns pc → IsStartOrPast pc
  tells pc start = or_left (is_start checked.insns pc) (nat_le (length method.code) pc) (and_parts (is_start checked.insns pc) true (all-passes checked.insns (pc ∷ []) (start, tt))).0

  past : (pc : ℕ) → length method.code ≤ pc → IsStartOrPast pc
  past pc le = or_right (is_start checked.insns pc) (nat_le (length method.code) pc) (le-leb (length method.code) pc le)

  start_here : (pc : ℕ) (found : MInsn × ℕ) → insn_at (drop pc method.code) ≡ Some found → IsStartOrPast pc → IsStart checked.insns pc
  start_here pc found e either =
      ⊎_elim (λ start. start-found checked.insns pc start)
      (λ after. let inside = found_inside method.code pc found e in absurd (omega (arith, inside, leb-true (length method.code) pc after)))
      (or_cases (is_start checked.insns pc) (nat_le (length method.code) pc) either)

  -- the instruction that is found at a start is one of the code
  pub among : (pc : ℕ) (insn : MInsn) (size : ℕ) → IsStart checked.insns pc → insn_at (drop pc method.code) ≡ Some (insn, size) → Contains checked.insns (pc, insn)
  among pc insn size start found =
      let there = start_there method.code checked.insns checked.code pc start in
      let parts = some_pair_parts there.insn insn there.size size (sym there.found ∙ found) in
      subst (λ (x : MInsn). Contains checked.insns (pc, x)) parts.0 there.among

  next_closed : (pc : ℕ) (insn : MInsn) (size : ℕ) → IsStart checked.insns pc → insn_at (drop pc method.code) ≡ Some (insn, size) → IsStartOrPast (pc + size)
  next_closed pc insn size start found =
      let there = start_there method.code checked.insns checked.code pc start in
      let parts = some_pair_parts there.insn insn there.size size (sym there.found ∙ found) in
      subst (λ n. IsStartOrPast (pc + n)) parts.1
      (⊎_elim (λ lt. tells (pc + there.size) (there.goes lt)) (λ le. past (pc + there.size) le) (cases_lt (pc + there.size) (length method.code)))

  going_on : (P : ℕ → Type 0) (on : Bool) (pc : ℕ) → P pc → AllByRecursion P (if on then pc ∷ [] else [])
  going_on P true pc p = (p, tt)
  going_on P false pc p = tt

  starts_closed : IsClosed image method.code (λ pc refs cells. is_start checked.insns pc || nat_le (length method.code) pc)
  starts_closed pc refs cells insn size here found operands =
      let start = start_here pc (insn, size) found here in
      all_append IsStartOrPast (if goes_on insn then (pc + size) ∷ [] else []) (targets insn (rows_at insn (drop pc method.code)))
      (going_on IsStartOrPast (goes_on insn) (pc + size) (next_closed pc insn size start found))
      (more-all (IsStart checked.insns) IsStartOrPast tells (targets_at method.code (pc, insn))
      (each-of (JumpsToStarts method.code checked.insns) checked.insns (pc, insn) checked.targets (among pc insn size start found)))

  pub sent_start : (pc : ℕ) (d : Depth) (found : MInsn × ℕ) → 1 ≤ length method.code → IsSent image method.code pc d → insn_at (drop pc method.code) ≡ Some found → IsStart checked.insns pc
  sent_start pc d found some sent e = start_here pc found e (sent _ (tells 0 (first_start method.code checked.insns checked.code some)) starts_closed)

-- ---- what stands there

pub record Stands (image : Image) (method : Method) (pc : ℕ) (d : Depth) : Type 0 where
  pub insn : MInsn
  pub size : ℕ
  pub found : insn_at (drop pc method.code) ≡ Some (insn, size)
  pub operands : HasOperands (moved_by image insn) d
  pub result : ReturnsResult method insn
  pub fits : FitsBody method d
  pub fits_after : FitsBody method (suffix (moved_by image insn) d)
  pub inside : IsTrue (goes_on insn) → pc + size < length method.code
  pub ids : HasIds image method insn
  pub run : runs_so_far insn ≡ true
  pub pushes : PushesInt insn
  pub sent : (to : ℕ) → Contains (successors method.code pc insn size) to → IsSent image method.code to (suffix (moved_by image insn) d)

pub stands_there : (image : Image) (method : Method) → IsCheckedMethod image method → RunsMethod method → 1 ≤ length method.code → (pc : ℕ) (d : Depth) → IsSent image method.code pc d → Stands image method pc d
stands_there image method checked runs some pc d sent =
    let right = checked.right pc d sent in
    let start = sent_start image method checked pc d (right.insn, right.size) some sent right.found in
    let one = among image method checked pc right.insn right.size start right.found in
    let same = one_list 0 method.code checked.insns runs.insns checked.code.0 runs.code.0 checked.code.1 runs.code.1 in
    record {
      insn = right.insn;
      size = right.size;
      found = right.found;
      operands = right.operands;
      result = right.result;
      fits = right.fits;
      fits_after = right.fits_after;
      inside = right.inside;
      ids = each-of (λ (x : ℕ × MInsn). HasIds image method x.1) checked.insns (pc, right.insn) checked.ids one;
      run = each-of (λ (x : ℕ × MInsn). runs_so_far x.1 ≡ true) runs.insns (pc, right.insn) runs.run (subst (λ (insns : Insns). Contains insns (pc, right.insn)) same one);
      pushes = (found_sized (drop pc method.code) right.insn right.size right.found).1;
      sent = λ to. sent_on image method.code pc d right.insn right.size to sent right.found right.operands;
    }
