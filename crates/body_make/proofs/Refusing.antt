-- A refusal where a test of a class says so, which has a file.
use Rattle.std.proofs.Common.{◌≡◌, ℕ, ◌+◌, ◌-◌, ◌≤◌, Bool, true, false, Some, None, sym, ap, ◌∙◌, arith}
use Rattle.jvm_model.specs.declared.refusal.Refusal.{Refusal}
use Rattle.jvm_model.specs.Linking.{refuse_where}

-- the number of a class by the position of its file
pub own_number : (class : ℕ) → 32 ≤ class → 32 + (class - 32) ≡ class
own_number class le = omega arith

pub refused_where : (says : Bool) (refusal why : Refusal) → says ≡ true → why ≡ refusal → refuse_where says refusal ≡ Some why
refused_where says refusal why e is = ap (λ b. refuse_where b refusal) e ∙ ap (λ (r : Refusal). Some r) (sym is)

pub passed_where : (says : Bool) (refusal : Refusal) → says ≡ false → refuse_where says refusal ≡ None
passed_where says refusal e = ap (λ b. refuse_where b refusal) e

-- a test of the class by the position of its file
pub refused_own : (says : ℕ → Bool) (class : ℕ) (refusal why : Refusal) → 32 ≤ class → says class ≡ true → why ≡ refusal → refuse_where (says (32 + (class - 32))) refusal ≡ Some why
refused_own says class refusal why le e is = refused_where (says (32 + (class - 32))) refusal why (ap says (own_number class le) ∙ e) is

pub passed_own : (says : ℕ → Bool) (class : ℕ) (refusal : Refusal) → 32 ≤ class → says class ≡ false → refuse_where (says (32 + (class - 32))) refusal ≡ None
passed_own says class refusal le e = passed_where (says (32 + (class - 32))) refusal (ap says (own_number class le) ∙ e)
