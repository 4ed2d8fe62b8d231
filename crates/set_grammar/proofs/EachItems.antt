-- What each item of a list meets, whatever stands before it.
use Rattle.std.proofs.Common.{List, [], ◌∷◌, ◌++◌}
use Rattle.std.specs.List.{AllByRecursion}
use Rattle.image_form.specs.Grammar.{Each, EachAfter}

each_behind : {X : Type 0} (P : X → Type 0) (before items : List X) → AllByRecursion P items → EachAfter (λ before item. P item) before items
each_behind P before [] all = tt
each_behind P before (item ∷ items) all = (all.0, each_behind P (before ++ item ∷ []) items all.1)

pub each_of_all : {X : Type 0} (P : X → Type 0) (items : List X) → AllByRecursion P items → Each P items
each_of_all P items all = each_behind P [] items all
