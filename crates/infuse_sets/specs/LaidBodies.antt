-- Bodies with their types and the layouts of their frames, as the code has them.
use Rattle.std.specs.Prelude.{◌≡◌, ℕ, Bool, List}
use Rattle.std.specs.List.Sorted.{IsNonDecreasingBy}
use Rattle.set_image.specs.Linked.{Typed, is_of_class, plan_for}
use Rattle.infuse_sets.specs.declared.laid.LaidBody.{LaidBody}
use Rattle.infuse_sets.specs.TypedBodies.{IsFit, typed_of}

-- the body with its table
abbrev pub laid_as : LaidBody → Typed
laid_as laid = let typed = laid.typed in typed_of typed.now

-- the frame is laid out as the types say
abbrev pub IsLaid : LaidBody → Type 0
IsLaid laid = laid.plan ≡ plan_for (laid_as laid)

-- the body keeps to the limits, and its frame is laid out as its types say
pub record IsFitLaid (laid : LaidBody) : Type 0 where
  pub fit : let typed = laid.typed in IsFit typed.now
  pub laid_is : IsLaid laid

-- they stand in the order of their classes
abbrev pub are_laid_by_class : List LaidBody → Type 0
are_laid_by_class list = IsNonDecreasingBy (λ laid. let body = (laid_as laid).body in body.class) list

-- the body is that of a method of the class
abbrev pub is_laid_in : ℕ → LaidBody → Bool
is_laid_in class laid = is_of_class class (laid_as laid)
