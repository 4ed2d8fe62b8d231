-- A set has one verdict.
use Rattle.std.proofs.Common.{◌≡◌, ℕ, List, Some, None}
use Rattle.jvm_model.specs.declared.refusal.Refusal.{Refusal}
use Rattle.set_verdict.specs.Verdict.{Accepted, IsRefused}
use Rattle.set_verdict.proofs.SetVerdicts.{verdict_unique}

none_is_some : (refusal : Refusal) → None ≡ Some refusal → ⊥
none_is_some refusal e = cc

same_found : (a b : Refusal) → Some a ≡ Some b → a ≡ b
same_found a b e = cc

pub accepted_or_refused : (files : List (List ℕ)) (refusal : Refusal) → Accepted files → IsRefused files refusal → ⊥
accepted_or_refused files refusal accepted refused = none_is_some refusal (verdict_unique files None (Some refusal) accepted refused)

pub one_refusal : (files : List (List ℕ)) (a b : Refusal) → IsRefused files a → IsRefused files b → a ≡ b
one_refusal files a b x y = same_found a b (verdict_unique files (Some a) (Some b) x y)
