-- Instructions that stand one after the other.
use Rattle.std.proofs.Common.{◌≡◌, ℕ, zero, suc, ◌+◌, ◌-◌, ◌<◌, ◌≤◌, List, [], ◌∷◌, ◌++◌, length, drop, get_or, Some, None, refl, sym, ap, subst, ◌∙◌, arith, inl, inr, ◌⊎◌, length-drop}
use Rattle.std.specs.List.{Contains}
use Rattle.std.proofs.lemmas.List.{drop-drop, get_or-map, length-map, get_or_default}
use Rattle.std.proofs.lemmas.List.Elements.{Contains-get_or}
use Rattle.std.proofs.lemmas.Option.{none-some, some_pair_parts}
use Rattle.image_instr.specs.declared.insn.MInsn.{MInsn}
use Rattle.image_instr.specs.Reading.{insn_at}
use Rattle.image_check.specs.Code.{Insns, AreIn, CodeIs, IsStart}
use Rattle.image_check.specs.Targets.{HoldsAt}
use Rattle.image_check.proofs.Starts.{nothing}

-- ---- one more after the others

pub hold-push : (p : ℕ) (bytes : List ℕ) (insns : Insns) (next : ℕ) (left : List ℕ) (insn : MInsn) (size : ℕ) → AreIn p bytes insns next left → insn_at left ≡ Some (insn, size) → AreIn p bytes (insns ++ (next, insn) ∷ []) (next + size) (drop size left)
hold-push p bytes [] next left insn size s e = (s.0, size, ap insn_at (sym s.1) ∙ e, (ap (λ n. n + size) s.0, ap (drop size) s.1))
hold-push p bytes ((at, x) ∷ insns) next left insn size s e = (s.0, s.1, s.2, hold-push (p + s.1) (drop s.1 bytes) insns next left insn size s.3 e)

-- ---- the list is the only one

none_first : (bytes : List ℕ) (found : MInsn × ℕ) → [] ≡ bytes → insn_at bytes ≡ Some found → ⊥
none_first bytes found e h = none-some found (ap insn_at e ∙ h)

pub one_list : (p : ℕ) (bytes : List ℕ) (a b : Insns) (m n : ℕ) → AreIn p bytes a m [] → AreIn p bytes b n [] → a ≡ b
one_list p bytes [] [] m n s t = refl
one_list p bytes [] ((at, y) ∷ b) m n s t = absurd (none_first bytes (y, t.1) s.1 t.2)
one_list p bytes ((at, x) ∷ a) [] m n s t = absurd (none_first bytes (x, s.1) t.1 s.2)
one_list p bytes ((at, x) ∷ a) ((at', y) ∷ b) m n s t =
    let parts = some_pair_parts x y s.1 t.1 (sym s.2 ∙ t.2) in
    let rest = one_list (p + s.1) (drop s.1 bytes) a b m n s.3 (subst (λ size. AreIn (p + size) (drop size bytes) b n []) (sym parts.1) t.3) in
    let place : at ≡ at' = s.0 ∙ sym t.0 in
    cc

-- where the code is instructions, they do not stop before its end
pub none_stops : (p : ℕ) (bytes : List ℕ) (a b : Insns) (m n : ℕ) (left : List ℕ) → AreIn p bytes a m [] → AreIn p bytes b n left → 0 < length left → insn_at left ≡ None → ⊥
none_stops p bytes [] [] m n left s t there e = let same : left ≡ [] = t.1 ∙ sym s.1 in omega (arith, ap length same)
none_stops p bytes [] ((at, y) ∷ b) m n left s t there e = none_first bytes (y, t.1) s.1 t.2
none_stops p bytes ((at, x) ∷ a) [] m n left s t there e = none-some (x, s.1) (sym e ∙ ap insn_at t.1 ∙ s.2)
none_stops p bytes ((at, x) ∷ a) ((at', y) ∷ b) m n left s t there e =
    let parts = some_pair_parts x y s.1 t.1 (sym s.2 ∙ t.2) in
    none_stops (p + s.1) (drop s.1 bytes) a b m n left s.3 (subst (λ size. AreIn (p + size) (drop size bytes) b n left) (sym parts.1) t.3) there e

-- ---- where they stand

next_is : (p : ℕ) (bytes : List ℕ) (insns : Insns) (next : ℕ) (left : List ℕ) → AreIn p bytes insns next left → (p ≤ next) × (drop (next - p) bytes ≡ left)
next_is p bytes [] next left s =
    let none : next - p ≡ 0 = omega (arith, s.0) in
    (omega (arith, s.0), ap (λ n. drop n bytes) none ∙ sym s.1)
next_is p bytes ((at, x) ∷ insns) next left s =
    let rest = next_is (p + s.1) (drop s.1 bytes) insns next left s.3 in
    let far : s.1 + (next - (p + s.1)) ≡ next - p = omega (arith, rest.0) in
    (omega (arith, rest.0), ap (λ n. drop n bytes) (sym far) ∙ sym (drop-drop (next - (p + s.1)) s.1 bytes) ∙ rest.1)

-- the instructions end at the code's end, or after it
pub ends_after : (code : List ℕ) (insns : Insns) (is : CodeIs code insns) → length code ≤ is.0
ends_after code insns is =
    let rest = next_is 0 code insns is.0 [] is.1 in
    let none : length (drop (is.0 - 0) code) ≡ 0 = ap length rest.1 in
    omega (arith, none, length-drop (is.0 - 0) code)

later : (x : ℕ × MInsn) (insns : Insns) (pc : ℕ) → IsStart insns pc → IsStart (x ∷ insns) pc
later x insns pc start = (suc start.0, omega (arith, start.1), start.2)

first_or_end : (p : ℕ) (bytes : List ℕ) (insns : Insns) (next : ℕ) (left : List ℕ) → AreIn p bytes insns next left → (p ≡ next) ⊎ IsStart insns p
first_or_end p bytes [] next left s = inl (sym s.0)
first_or_end p bytes ((at, x) ∷ insns) next left s = inr (0, omega arith, s.0)

-- where there is code, its first instruction is at 0
pub first_start : (code : List ℕ) (insns : Insns) → CodeIs code insns → 1 ≤ length code → IsStart insns 0
first_start code insns is some =
    elim (first_or_end 0 code insns is.0 [] is.1) [ inl e ↦ absurd (omega (arith, e, ends_after code insns is)) | inr start ↦ start ]

-- the instruction stands in the bytes, which begin at p, and another begins after it, or they end there
pub record IsPlaced (p : ℕ) (bytes : List ℕ) (insns : Insns) (next : ℕ) (x : ℕ × MInsn) : Type 0 where
  pub size : ℕ
  pub from : p ≤ x.0
  pub found : insn_at (drop (x.0 - p) bytes) ≡ Some (x.1, size)
  pub goes : (x.0 + size ≡ next) ⊎ IsStart insns (x.0 + size)

one_later : (x : ℕ × MInsn) (insns : Insns) (next pc : ℕ) → (pc ≡ next) ⊎ IsStart insns pc → (pc ≡ next) ⊎ IsStart (x ∷ insns) pc
one_later x insns next pc (inl e) = inl e
one_later x insns next pc (inr start) = inr (later x insns pc start)

placed : (p : ℕ) (bytes : List ℕ) (insns : Insns) (next : ℕ) (left : List ℕ) → AreIn p bytes insns next left → (k : ℕ) → k < length insns → IsPlaced p bytes insns next (get_or insns k nothing)
placed p bytes [] next left s k lt = absurd (omega arith)
placed p bytes ((at, x) ∷ insns) next left s zero lt =
    let none : at - p ≡ 0 = omega (arith, s.0) in
    let suffix : p + s.1 ≡ at + s.1 = ap (λ n. n + s.1) (sym s.0) in
    record {
      size = s.1;
      from = omega (arith, s.0);
      found = ap (λ n. insn_at (drop n bytes)) none ∙ s.2;
      goes = one_later (at, x) insns next (at + s.1) (subst (λ n. (n ≡ next) ⊎ IsStart insns n) suffix (first_or_end (p + s.1) (drop s.1 bytes) insns next left s.3));
    }
placed p bytes ((at, x) ∷ insns) next left s (suc k) lt =
    let rest = placed (p + s.1) (drop s.1 bytes) insns next left s.3 k (omega arith) in
    let y = get_or insns k nothing in
    let far : s.1 + (y.0 - (p + s.1)) ≡ y.0 - p = omega (arith, rest.from) in
    record {
      size = rest.size;
      from = omega (arith, rest.from);
      found = ap (λ n. insn_at (drop n bytes)) (sym far) ∙ ap insn_at (sym (drop-drop (y.0 - (p + s.1)) s.1 bytes)) ∙ rest.found;
      goes = one_later (at, x) insns next (y.0 + rest.size) rest.goes;
    }

-- ---- in a whole code

from_start : (code : List ℕ) (x : ℕ × MInsn) (size : ℕ) → insn_at (drop (x.0 - 0) code) ≡ Some (x.1, size) → insn_at (drop x.0 code) ≡ Some (x.1, size)
from_start code x size e = let same : x.0 ≡ x.0 - 0 = omega arith in ap (λ n. insn_at (drop n code)) same ∙ e

-- an instruction of the code is at its offset
pub holds_at : (code : List ℕ) (insns : Insns) → CodeIs code insns → (x : ℕ × MInsn) → Contains insns x → HoldsAt code x.0 x.1
holds_at code insns is x has =
    let here = placed 0 code insns is.0 [] is.1 has.0 has.1 in
    let same : get_or insns has.0 nothing ≡ x = get_or_default insns has.0 nothing x has.1 ∙ has.2 in
    subst (λ (x : ℕ × MInsn). HoldsAt code x.0 x.1) same (here.size, from_start code (get_or insns has.0 nothing) here.size here.found)

-- at a start an instruction stands, and after it another, or the code ends
pub record IsThere (code : List ℕ) (insns : Insns) (pc : ℕ) : Type 0 where
  pub insn : MInsn
  pub size : ℕ
  pub found : insn_at (drop pc code) ≡ Some (insn, size)
  pub among : Contains insns (pc, insn)
  pub goes : pc + size < length code → IsStart insns (pc + size)

there : (code : List ℕ) (insns : Insns) (is : CodeIs code insns) (x : ℕ × MInsn) → Contains insns x → IsPlaced 0 code insns is.0 x → IsThere code insns x.0
there code insns is x has here = record {
  insn = x.1;
  size = here.size;
  found = from_start code x here.size here.found;
  among = has;
  goes = λ lt. elim here.goes [ inl e ↦ absurd (omega (arith, ends_after code insns is)) | inr start ↦ start ];
}

pub start_there : (code : List ℕ) (insns : Insns) → CodeIs code insns → (pc : ℕ) → IsStart insns pc → IsThere code insns pc
start_there code insns is pc start =
    let pcs = λ (x : ℕ × MInsn). x.0 in
    let lt : start.0 < length insns = omega (arith, start.1, length-map insns pcs) in
    let same = sym (get_or-map pcs insns start.0 nothing pc lt) ∙ start.2 in
    subst (IsThere code insns) same (there code insns is (get_or insns start.0 nothing) (Contains-get_or insns start.0 nothing lt) (placed 0 code insns is.0 [] is.1 start.0 lt))
