-- The methods of an image, one by one.
use Rattle.std.proofs.Common.{◌≡◌, ℕ, ◌+◌, ◌<◌, ◌≤◌, List, [], ◌∷◌, ◌++◌, length, take, get_or, slice_get, Some, All, refl, sym, subst}
use Rattle.std.specs.List.{Contains}
use Rattle.std.proofs.lemmas.List.Elements.{All-contains, All-from_recursion, All-more}
use Rattle.std.proofs.lemmas.Option.{slice_get_read}
use Rattle.std.specs.List.{AllByRecursion}
use Rattle.image_form.specs.declared.record.Image.{Image}
use Rattle.image_form.specs.declared.record.Method.{Method}
use Rattle.image_form.specs.Grammar.{EachAfter, IsImage, IsMethod}
use Rattle.image_check.proofs.Passing.{all-kept, read-is_there}

-- what each meets whatever stands before it
all_meet : {X : Type 0} (P : X → Type 0) (before items : List X) → EachAfter (λ before item. P item) before items → AllByRecursion P items
all_meet P before [] each = tt
all_meet P before (item ∷ items) each = (each.0, all_meet P (before ++ item ∷ []) items each.1)

-- a method that is read from the methods of an image
module _ (image : Image) (methods : List Method) (same : methods ≡ image.methods) (i : ℕ) (method : Method) (within : i < length methods) (is : method ≡ get_or methods i method) where
  inside : i < length image.methods
  inside = subst (λ (l : List Method). i < length l) same within

  read : method ≡ get_or image.methods i method
  read = subst (λ (l : List Method). method ≡ get_or l i method) same is

  -- it stands at its position
  pub is_method : slice_get image.methods i ≡ Some method
  is_method = slice_get_read image.methods (length image.methods) i method refl inside read

  -- it is one by the grammar
  pub method_is : IsImage image → IsMethod image.types method
  method_is whole =
      let all = all_meet (IsMethod image.types) [] image.methods whole.methods_are in
      All-contains (IsMethod image.types) image.methods method (All-from_recursion (IsMethod image.types) image.methods all) (read-is_there image.methods i method inside read)

  -- what holds of those before it and of it
  pub one_more : (P : Method → Type 0) → All P (take i image.methods) → P method → All P (take (i + 1) image.methods)
  one_more P all here = All-more P image.methods i method inside all (subst P read here)

-- what holds of all that were read
pub all_read : (image : Image) (methods : List Method) → methods ≡ image.methods → (i : ℕ) → length methods ≤ i → (P : Method → Type 0) → All P (take i image.methods) → AllByRecursion P image.methods
all_read image methods same i past P all = all-kept P image.methods i (subst (λ (l : List Method). length l ≤ i) same past) all
