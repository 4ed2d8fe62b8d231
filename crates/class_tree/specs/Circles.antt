-- Classes that are above themselves.
use Rattle.std.specs.Prelude.{◌≡◌, ℕ, ◌+◌, ◌<◌, List, length, Option, Some, None}
use Rattle.library.specs.Classes.{first_own}
use Rattle.class_file.specs.declared.record.ClassFile.{ClassFile}
use Rattle.class_tree.specs.declared.refusal.TreeRefusal.{TreeRefusal}
use Rattle.class_tree.specs.declared.refusal.TreeRefusal.TheVariants.{Circular}
use Rattle.class_tree.specs.Closure.{Leads}
use Rattle.class_tree.specs.Set.{is_directly_below}

-- the class of a file is above itself
abbrev pub IsCircular : List (List ℕ) → List ClassFile → ℕ → Type 0
IsCircular names files file = Leads (is_directly_below names files) (first_own + file) (first_own + file)

-- the first file whose class is above itself
pub record IsFirstCircular (names : List (List ℕ)) (files : List ClassFile) (file : ℕ) : Type 0 where
  pub within : file < length files
  pub circular : IsCircular names files file
  pub earlier : (other : ℕ) → other < file → IsCircular names files other → ⊥

-- what the files are refused for by it, or none of their classes is above itself
abbrev pub Circles : List (List ℕ) → List ClassFile → Option TreeRefusal → Type 0
Circles names files None = (file : ℕ) → file < length files → IsCircular names files file → ⊥
Circles names files (Some why) = (file : ℕ) × IsFirstCircular names files file × (why ≡ Circular file)
