-- Texts that grow at their end.
use Rattle.std.proofs.Common.{◌≡◌, ℕ, List, [], ◌∷◌, ◌++◌, ap, ◌∙◌}
use Rattle.std.proofs.lemmas.List.{append_assoc}

pub class_added : (old name : List ℕ) → ((old ++ 76 ∷ []) ++ name) ++ 59 ∷ [] ≡ old ++ 76 ∷ (name ++ 59 ∷ [])
class_added old name = append_assoc (old ++ 76 ∷ []) name (59 ∷ []) ∙ append_assoc old (76 ∷ []) (name ++ 59 ∷ [])

pub array_added : (old rows base : List ℕ) → (old ++ rows) ++ base ≡ old ++ (rows ++ base)
array_added old rows base = append_assoc old rows base

pub descriptor_added : (params result : List ℕ) → ((40 ∷ params) ++ 41 ∷ []) ++ result ≡ 40 ∷ (params ++ 41 ∷ result)
descriptor_added params result = ap (λ ys. 40 ∷ ys) (append_assoc params (41 ∷ []) result)
