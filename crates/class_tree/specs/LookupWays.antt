-- The ways that the lookups of a set go.
use Rattle.std.specs.Prelude.{◌≡◌, ℕ, ◌+◌, ◌<◌, List, [], ◌∷◌, length, Option}
use Rattle.class_pool.specs.declared.types.MemberId.{MemberId}
use Rattle.class_file.specs.declared.record.ClassFile.{ClassFile}
use Rattle.class_tree.specs.declared.route.Route.{Route}
use Rattle.class_tree.specs.declared.route.Route.TheVariants.{Superinterfaces}
use Rattle.class_tree.specs.DirectSupers.{class_count, above_by, superclasses_of, superinterfaces_of, all_supers_of}
use Rattle.class_tree.specs.Upwards.{first_answer, first_upwards}
use Rattle.class_tree.specs.Ways.{way_at, answer_of}

-- the list of each class is the class alone
abbrev pub AreAlone : ℕ → List (List ℕ) → Type 0
AreAlone count own = (class : ℕ) → class < count → way_at own class ≡ class ∷ []

-- the first answer along each way is the first on the way up from its class by a route, where each class
-- answers by a list of its own
abbrev pub LeadUpBy : List (List ℕ) → List ClassFile → Route → List (List ℕ) → List (List ℕ) → Type 0
LeadUpBy names files route own ways = (class : ℕ) → class < 32 + length names → (answer : ℕ → Option MemberId) →
    first_answer answer (way_at ways class) ≡ first_upwards (above_by route names files) (answer_of own answer) (32 + length names) class

-- the first answer along each list is the first that the superinterfaces of its class give, each by its way
abbrev pub LeadBeside : List (List ℕ) → List ClassFile → List (List ℕ) → List (List ℕ) → Type 0
LeadBeside names files ways beside = (class : ℕ) → class < 32 + length names → (answer : ℕ → Option MemberId) →
    first_answer answer (way_at beside class) ≡ first_answer (answer_of ways answer) (above_by Superinterfaces names files class)

-- ---- the ways of a set

-- the first answer along the way is the first on the way up from the class, by the classes above each
abbrev pub LeadsUp : List ClassFile → (ℕ → List ℕ) → ℕ → List ℕ → Type 0
LeadsUp files above class way = (answer : ℕ → Option MemberId) → first_answer answer way ≡ first_upwards above answer (class_count files) class

-- what the superinterfaces of a class answer, each with what is on the way up from it
abbrev pub beside_answer : List ClassFile → (ℕ → Option MemberId) → ℕ → Option MemberId
beside_answer files answer class = first_answer (first_upwards (superinterfaces_of files) answer (class_count files)) (superinterfaces_of files class)

-- the first answer along the way is the first that the superinterfaces give, class by class from the class to
-- its superclasses
abbrev pub LeadsBeside : List ClassFile → ℕ → List ℕ → Type 0
LeadsBeside files class way = (answer : ℕ → Option MemberId) → first_answer answer way ≡ first_upwards (superclasses_of files) (beside_answer files answer) (class_count files) class

pub record AreLookupWays (files : List ClassFile) (both superclasses superinterfaces beside : List (List ℕ)) : Type 0 where
  pub by_both : (class : ℕ) → class < class_count files → LeadsUp files (all_supers_of files) class (way_at both class)
  pub by_superclasses : (class : ℕ) → class < class_count files → LeadsUp files (superclasses_of files) class (way_at superclasses class)
  pub by_superinterfaces : (class : ℕ) → class < class_count files → LeadsUp files (superinterfaces_of files) class (way_at superinterfaces class)
  pub besides : (class : ℕ) → class < class_count files → LeadsBeside files class (way_at beside class)
