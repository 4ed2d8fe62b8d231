-- Where a reader refuses bytes that it did not miss, no good part begins, whatever follows them.
use Rattle.std.proofs.Common.{◌≡◌, ℕ, List, ◌++◌, Result, Ok, Err, sym, ap, ◌∙◌, inl, inr}
use Rattle.byte_read.proofs.Steps.{no_failure, same_why}
use Rattle.byte_read.proofs.Steady.{Persists, IsSteady}
use Rattle.class_file.specs.declared.refusal.ReadRefusal.{ReadRefusal}
use Rattle.class_file.specs.declared.refusal.ReadRefusal.TheVariants.{Truncated}
use Rattle.class_file.specs.Faults.{BeginsNone}
use Rattle.class_file.proofs.readers.Parts.{Reads}

still_refused : {A : Type 0} (more : List ℕ) (r longer : Result (A × List ℕ) ReadRefusal) (why : ReadRefusal) → r ≡ Err why → (why ≡ Truncated → ⊥) → Persists Truncated more r longer → longer ≡ Err why
still_refused more (Ok x) longer why e not_cut persists = absurd (no_failure x why e)
still_refused {A = A} more (Err d) longer why e not_cut (inl cut) = absurd (not_cut (sym (same_why {A = A × List ℕ} d why e) ∙ cut))
still_refused more (Err d) longer why e not_cut (inr same) = same ∙ e

pub begins_none : {A L : Type 0} {read : List ℕ → Result (A × List ℕ) ReadRefusal} {text : L → List ℕ} {value : L → A} {Good : L → Type 0} → Reads read text value Good → IsSteady Truncated read → (bytes : List ℕ) (why : ReadRefusal) → read bytes ≡ Err why
    → (why ≡ Truncated → ⊥) → BeginsNone text Good bytes
begins_none {read = read} {value = value} one steady bytes why e not_cut part more suffix good whole =
    no_failure (value part, suffix) why (sym (ap read whole ∙ one.again part suffix good) ∙ still_refused more (read bytes) (read (bytes ++ more)) why e not_cut (steady.persists bytes more))
