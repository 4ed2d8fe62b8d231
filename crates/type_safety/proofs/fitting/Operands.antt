-- Operands and locals by their types: those that an instruction's tests take, and those that it leaves.
use Rattle.std.proofs.Common.{◌≡◌, ℕ, zero, suc, Bool, true, List, [], ◌∷◌, ◌++◌, length, drop, Option, Some, None, refl, sym, ap, subst, ◌∙◌}
use Rattle.std.specs.Int.{w32}
use Rattle.std.specs.Prelude.{ℤ, slice_get, slice_set, FitsSigned}
use Rattle.std.specs.List.{AllByRecursion}
use Rattle.std.proofs.lemmas.Bool.{and_parts}
use Rattle.std.proofs.lemmas.Option.{cond_some}
use Rattle.class_tree.specs.MergeLaws.{IsKnown}
use Rattle.body_form.specs.declared.body.Body.{Body}
use Rattle.body_form.specs.declared.types.VFrame.{VFrame}
use Rattle.body_form.specs.declared.types.VType.{VType}
use Rattle.body_form.specs.declared.types.VType.TheVariants.{Int}
use Rattle.jvm_model.specs.Bodies.{AreEach}
use Rattle.jvm_model.specs.State.{Value, Whole}
use Rattle.jvm_model.specs.TypesFrames.{is_int}
use Rattle.jvm_model.specs.TypesRules.{Change, changed, takes, plain}
use Rattle.typed_machine.specs.TypedState.{Object, Frame}
use Rattle.typed_machine.specs.TypedWorld.{World}
use Rattle.type_safety.specs.Fitting.{IsWhole, ValueFits, LocalFits, FrameFits}
use Rattle.type_safety.proofs.moves.Moving.{FitsAfter}

-- ---- lists by their positions

module _ {X Y : Type 0} (R : X → Y → Type 0) where
  pub each_append : (xs : List X) (ys : List Y) (us : List X) (vs : List Y) → AreEach R xs ys → AreEach R us vs → AreEach R (xs ++ us) (ys ++ vs)
  each_append [] [] us vs first second = second
  each_append [] (y ∷ ys) us vs first second = absurd first
  each_append (x ∷ xs) [] us vs first second = absurd first
  each_append (x ∷ xs) (y ∷ ys) us vs first second = (first.0, each_append xs ys us vs first.1 second)

  pub each_length : (xs : List X) (ys : List Y) → AreEach R xs ys → length xs ≡ length ys
  each_length [] [] each = refl
  each_length [] (y ∷ ys) each = absurd each
  each_length (x ∷ xs) [] each = absurd each
  each_length (x ∷ xs) (y ∷ ys) each = ap suc (each_length xs ys each.1)

  pub each_set : (xs : List X) (ys : List Y) → AreEach R xs ys → (i : ℕ) (x : X) (y : Y) → R x y → AreEach R (slice_set xs i x) (slice_set ys i y)
  each_set [] [] each i x y here = tt
  each_set [] (b ∷ ys) each i x y here = absurd each
  each_set (a ∷ xs) [] each i x y here = absurd each
  each_set (a ∷ xs) (b ∷ ys) each zero x y here = (here, each.1)
  each_set (a ∷ xs) (b ∷ ys) each (suc i) x y here = (each.0, each_set xs ys each.1 i x y here)

  -- what is put at a position fits what was there
  pub each_put : (xs : List X) (ys : List Y) → AreEach R xs ys → (i : ℕ) (x : X) (y : Y) → slice_get ys i ≡ Some y → R x y → AreEach R (slice_set xs i x) ys
  each_put [] [] each i x y there here = tt
  each_put [] (b ∷ ys) each i x y there here = absurd each
  each_put (a ∷ xs) [] each i x y there here = absurd each
  each_put (a ∷ xs) (b ∷ ys) each zero x y there here = let same : y ≡ b = cc in (subst (R x) same here, each.1)
  each_put (a ∷ xs) (b ∷ ys) each (suc i) x y there here = (each.0, each_put xs ys each.1 i x y there here)

  -- what is read at one position of both
  abbrev pub AreRead : Option X → Option Y → Type 0
  AreRead None None = Unit {0}
  AreRead None (Some y) = ⊥
  AreRead (Some x) None = ⊥
  AreRead (Some x) (Some y) = R x y

  pub each_read : (xs : List X) (ys : List Y) → AreEach R xs ys → (i : ℕ) → AreRead (slice_get xs i) (slice_get ys i)
  each_read [] [] each i = tt
  each_read [] (y ∷ ys) each i = absurd each
  each_read (x ∷ xs) [] each i = absurd each
  each_read (x ∷ xs) (y ∷ ys) each zero = each.0
  each_read (x ∷ xs) (y ∷ ys) each (suc i) = each_read xs ys each.1 i

-- ---- operands that pass tests

-- a value fits a type of the set that passes a test
pub record Passes (world : World) (objects : List Object) (body : Body) (value : Value) (test : VType → Bool) : Type 0 where
  pub type : VType
  pub passes : test type ≡ true
  pub known : IsKnown world.files type
  pub fits : ValueFits world objects body value type

-- operands are those that pass tests, and others that fit what is left
pub record AreTaken (world : World) (objects : List Object) (body : Body) (tests : List (VType → Bool)) (operands : List Value) (left : List VType) : Type 0 where
  pub values : List Value
  pub rest : List Value
  pub is : values ++ rest ≡ operands
  pub each : AreEach (Passes world objects body) values tests
  pub fits : AreEach (ValueFits world objects body) rest left

module _ (world : World) (objects : List Object) (body : Body) where
  pub taken : (tests : List (VType → Bool)) (operands : List Value) (stack : List VType) → AreEach (ValueFits world objects body) operands stack → AllByRecursion (IsKnown world.files) stack
      → takes tests stack ≡ true → AreTaken world objects body tests operands (drop (length tests) stack)
  unfolding takes
  taken [] operands stack fits known e = record { values = []; rest = operands; is = refl; each = tt; fits = fits }
  taken (test ∷ tests) [] [] fits known e = cc
  taken (test ∷ tests) [] (type ∷ stack) fits known e = absurd fits
  taken (test ∷ tests) (value ∷ operands) [] fits known e = absurd fits
  taken (test ∷ tests) (value ∷ operands) (type ∷ stack) fits known e =
      let is = and_parts (test type) (takes tests stack) e in
      let others = taken tests operands stack fits.1 known.1 is.1 in
      record {
        values = value ∷ others.values;
        rest = others.rest;
        is = ap (λ vs. value ∷ vs) others.is;
        each = (record { type = type; passes = is.0; known = known.0; fits = fits.0 }, others.each);
        fits = others.fits;
      }

  -- a value that fits an int is a whole number
  pub int_with : (value : Value) (type : VType) → is_int type ≡ true → ValueFits world objects body value type → IsWhole value
  int_with value Int e fits = fits
  int_with value type e fits = cc

  -- what holds of whole numbers holds of a value that passes as an int
  pub whole_case : (P : Value → Type 0) (value : Value) → Passes world objects body value is_int → ((number : ℤ) → FitsSigned w32 number → P (Whole number)) → P value
  whole_case P value passes each = let is = int_with value passes.type passes.passes passes.fits in subst P (sym is.1) (each is.0 is.2)

-- ---- plain rules

module _ (world : World) (objects : List Object) (body : Body) (frame : Frame) (types after : VFrame) (has : FrameFits world objects body frame types) (known : AllByRecursion (IsKnown world.files) types.stack) where
  -- what a plain rule takes of the operands; it pushes types and leaves the locals
  pub record IsPlain (tests : List (VType → Bool)) (pushes : List VType) : Type 0 where
    pub taken : AreTaken world objects body tests frame.operands (drop (length tests) types.stack)
    pub locals : types.locals ≡ after.locals
    pub stack : pushes ++ drop (length tests) types.stack ≡ after.stack

  pub plain_by : (tests : List (VType → Bool)) (pushes : List VType) (change : Change) → plain types tests pushes ≡ Some change → changed change types ≡ after → IsPlain tests pushes
  plain_by tests pushes change is reached =
      let moved : Change = record { pops = length tests; renames = None; stores = None; pushes = pushes; pending = types.pending } in
      let same = cond_some (takes tests types.stack) moved change is in
      let whole : changed moved types ≡ after = ap (λ c. changed c types) same.1 ∙ reached in
      record {
        taken = taken world objects body tests frame.operands types.stack has.operands known same.0;
        locals = ap (λ (f : VFrame). f.locals) whole;
        stack = ap (λ (f : VFrame). f.stack) whole;
      }

  -- a frame with these locals goes on with values pushed that fit what the rule pushes
  pub pushed : (tests : List (VType → Bool)) (pushes : List VType) (is : IsPlain tests pushes) (moved : Frame) → moved.method ≡ frame.method
      → AreEach (LocalFits world objects body) moved.locals types.locals → (values : List Value) → AreEach (ValueFits world objects body) values pushes
      → FitsAfter world objects body frame after moved (values ++ is.taken.rest)
  pushed tests pushes is moved method locals values fits =
      record {
        method = method;
        locals = subst (λ ls. AreEach (LocalFits world objects body) moved.locals ls) is.locals locals;
        stack = subst (λ ss. AreEach (ValueFits world objects body) (values ++ is.taken.rest) ss) is.stack
            (each_append (ValueFits world objects body) values pushes is.taken.rest (drop (length tests) types.stack) fits is.taken.fits);
      }
