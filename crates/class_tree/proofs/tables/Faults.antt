-- Lists of what is wrong with the texts of a pool, by their indexes.
use Rattle.std.proofs.Common.{◌≡◌, ℕ, zero, suc, ◌+◌, ◌<◌, ◌≤◌, List, [], ◌∷◌, ◌++◌, length, Option, None, option_and_then, inl, inr, refl, sym, ap, ◌∙◌, arith}
use Rattle.std.proofs.lemmas.Bool.{cases_lt}
use Rattle.class_pool.specs.Pool.{Slots, entry_at, text_of, utf8_at}
use Rattle.class_tree.specs.declared.descriptors.Fault.{Fault}
use Rattle.class_tree.specs.Descriptors.{fault_at}

pushed_there : (faults : List (Option Fault)) (x : Option Fault) → fault_at (faults ++ x ∷ []) (length faults) ≡ x
pushed_there [] x = refl
pushed_there (y ∷ faults) x = pushed_there faults x

pushed_before : (faults : List (Option Fault)) (x : Option Fault) (i : ℕ) → i < length faults → fault_at (faults ++ x ∷ []) i ≡ fault_at faults i
pushed_before [] x i lt = absurd (omega (arith, lt))
pushed_before (y ∷ faults) x zero lt = refl
pushed_before (y ∷ faults) x (suc i) lt = pushed_before faults x i (omega (arith, lt))

-- one more index
pub fault_more : (f : ℕ → Option Fault) (faults : List (Option Fault)) (x : Option Fault) (n : ℕ) → length faults ≡ n → ((i : ℕ) → i < n → fault_at faults i ≡ f i) → x ≡ f n
    → (i : ℕ) → i < n + 1 → fault_at (faults ++ x ∷ []) i ≡ f i
fault_more f faults x n many done new i lt =
    elim (cases_lt i n) [
      | inl less ↦ pushed_before faults x i (omega (arith, less, many)) ∙ done i less
      | inr more ↦
          let e : i ≡ n = omega (arith, lt, more) in
          ap (fault_at (faults ++ x ∷ [])) (e ∙ sym many) ∙ pushed_there faults x ∙ new ∙ ap f (sym e)
    ]

beyond : (faults : List (Option Fault)) (i : ℕ) → length faults ≤ i → fault_at faults i ≡ None
beyond [] i le = refl
beyond (y ∷ faults) zero le = absurd (omega (arith, le))
beyond (y ∷ faults) (suc i) le = beyond faults i (omega (arith, le))

-- past the end of a pool there is no text
slot_beyond : (pool : Slots) (i : ℕ) → length pool ≤ i → option_and_then text_of (entry_at pool (suc i)) ≡ None
slot_beyond [] i le = refl
slot_beyond (slot ∷ pool) zero le = absurd (omega (arith, le))
slot_beyond (slot ∷ pool) (suc i) le = slot_beyond pool i (omega (arith, le))

text_beyond : (pool : Slots) (i : ℕ) → length pool + 1 ≤ i → utf8_at pool i ≡ None
text_beyond pool zero le = absurd (omega (arith, le))
text_beyond pool (suc i) le = slot_beyond pool i (omega (arith, le))

-- all indexes, where what is wrong comes from the text
pub fault_all : (g : List ℕ → Option Fault) (pool : Slots) (faults : List (Option Fault)) (n : ℕ) → length faults ≡ n → length pool + 1 ≤ n
    → ((i : ℕ) → i < n → fault_at faults i ≡ option_and_then g (utf8_at pool i)) → (i : ℕ) → fault_at faults i ≡ option_and_then g (utf8_at pool i)
fault_all g pool faults n many whole done i =
    elim (cases_lt i n) [
      | inl less ↦ done i less
      | inr more ↦ beyond faults i (omega (arith, more, many)) ∙ sym (ap (option_and_then g) (text_beyond pool i (omega (arith, more, whole))))
    ]
