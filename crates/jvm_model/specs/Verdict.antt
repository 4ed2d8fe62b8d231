-- What a verdict on a set of class files is, each a list of bytes: the first refusal in a list of phases, each of which
-- has one answer for each set.
use Rattle.std.specs.Prelude.{◌≡◌, ◌⊎◌, ℕ, ◌<◌, List, [], ◌∷◌, Option, Some, None}
use Rattle.std.specs.List.{AllByRecursion}
use Rattle.jvm_model.specs.declared.refusal.Refusal.{Refusal}

-- the files are lists of bytes
abbrev pub AreBytes : List (List ℕ) → Type 0
AreBytes files = AllByRecursion (λ bytes. AllByRecursion (λ byte. byte < 256) bytes) files

-- what a phase answers for a set: a refusal, or none
abbrev pub Phase : Type 1
Phase = List (List ℕ) → Option Refusal → Type 0

-- the refusal of the first of these phases that has one; none where none of them has one
abbrev pub FirstRefusal : List Phase → List (List ℕ) → Option Refusal → Type 0
FirstRefusal [] files found = found ≡ None
FirstRefusal (phase ∷ rest) files None = phase files None × FirstRefusal rest files None
FirstRefusal (phase ∷ rest) files (Some refusal) = phase files (Some refusal) ⊎ (phase files None × FirstRefusal rest files (Some refusal))

-- the phase has an answer for each set of files of bytes, and one at most
pub record IsFunction (phase : Phase) : Type 0 where
  pub total : (files : List (List ℕ)) → AreBytes files → (found : Option Refusal) × phase files found
  pub unique : (files : List (List ℕ)) (first second : Option Refusal) → phase files first → phase files second → first ≡ second

abbrev pub AreFunctions : List Phase → Type 0
AreFunctions [] = Unit {0}
AreFunctions (phase ∷ rest) = IsFunction phase × AreFunctions rest
