-- An accepted set, with its image, is typed code with its image, of which the laws on both machines speak.
use Rattle.std.specs.Prelude.{ℕ, List}
use Rattle.match_states.specs.Setting.{IsCompiled}
use Rattle.set_image.specs.Linked.{Linked, IsOfFiles}
use Rattle.set_compile.specs.Settings.{setting_of}

abbrev pub SetsCompile : Type 0
SetsCompile = (files : List (List ℕ)) (linked : Linked) → IsOfFiles files linked → IsCompiled (setting_of linked)
