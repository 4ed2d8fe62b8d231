-- A value that fits a type fits each type above it, and so does a frame.
use Rattle.std.proofs.Common.{◌≡◌, ℕ, zero, suc, Bool, true, false, inl, inr, List, [], ◌∷◌, Option, Some, None, nat_eq, if◌then◌else◌, refl, sym, ap, subst, ◌∙◌}
use Rattle.std.specs.Prelude.{◌||◌, option_map, option_and_then, slice_get}
use Rattle.std.proofs.lemmas.Option.{same_Some}
use Rattle.std.specs.List.{AllByRecursion}
use Rattle.std.proofs.lemmas.Bool.{eqb-true}
use Rattle.class_pool.specs.declared.types.TypeRef.{TypeRef}
use Rattle.class_file.specs.declared.record.ClassFile.{ClassFile}
use Rattle.class_tree.specs.Subtypes.{IsType}
use Rattle.class_tree.specs.Merge.{merge, merge_refs}
use Rattle.class_tree.specs.MergeLaws.{IsKnown}
use Rattle.class_tree.specs.Tree.{Gathers}
use Rattle.body_form.specs.declared.body.Body.{Body}
use Rattle.body_form.specs.declared.types.VFrame.{VFrame}
use Rattle.body_form.specs.declared.types.VType.{VType}
use Rattle.body_form.specs.declared.types.VType.TheVariants.{Top, Int, Null, Ref, New, This}
use Rattle.jvm_model.specs.Bodies.{AreEach}
use Rattle.jvm_model.specs.State.{Value}
use Rattle.jvm_model.specs.TypesFrames.{may_be_local, may_be_operand, merge_lists, IsAbove, IsKnownFrame}
use Rattle.typed_machine.specs.TypedState.{Object, Instance, Elements, Frame}
use Rattle.typed_machine.specs.TypedWorld.{World, type_of}
use Rattle.type_safety.specs.Fitting.{ValueFits, LocalFits, FrameFits, ObjectFits}
use Rattle.type_safety.proofs.fitting.BelowFits.{ref_above}

-- ---- merges, by their parts

merged_head : (passes : Bool) (type : VType) (rest : Option (List VType)) (first : VType) (others : List VType)
    → (if passes then option_map (λ types. type ∷ types) rest else None) ≡ Some (first ∷ others) → (type ≡ first) × (rest ≡ Some others)
merged_head true type (Some types) first others e = (cc, cc)
merged_head true type None first others e = cc
merged_head false type rest first others e = cc

merged_parts : (locals stack : Option (List VType)) (pending : Bool) (upper : VFrame)
    → option_and_then (λ locals. option_map (λ stack. record { locals = locals; stack = stack; pending = pending }) stack) locals ≡ Some upper → (locals ≡ Some upper.locals) × (stack ≡ Some upper.stack)
merged_parts (Some locals) (Some stack) pending upper e =
    let made : VFrame = record { locals = locals; stack = stack; pending = pending } in
    let same = same_Some made upper e in (ap (λ (f : VFrame). Some f.locals) same, ap (λ (f : VFrame). Some f.stack) same)
merged_parts (Some locals) None pending upper e = cc
merged_parts None stack pending upper e = cc

-- ---- objects

-- each object is of a type of the set
abbrev pub AreOfSet : World → List Object → Type 0
AreOfSet world objects = (name : ℕ) (object : Object) → slice_get objects name ≡ Some object → IsType world.files (type_of object)

pub all_at : {X : Type 0} (P : X → Type 0) (xs : List X) → AllByRecursion P xs → (i : ℕ) (x : X) → slice_get xs i ≡ Some x → P x
all_at P [] all i x is = cc
all_at P (y ∷ xs) all zero x is = let same : y ≡ x = cc in subst P same all.0
all_at P (y ∷ xs) all (suc i) x is = all_at P xs all.1 i x is

of_set : (world : World) (objects : List Object) (object : Object) → ObjectFits world objects object → IsType world.files (type_of object)
of_set world objects (Instance class fields) fit = (fit.0, tt)
of_set world objects (Elements array elements) fit = fit.0

-- objects that fit are of types of the set
pub are_of_set : (world : World) (objects : List Object) → AllByRecursion (ObjectFits world objects) objects → AreOfSet world objects
are_of_set world objects all name object is = of_set world objects object (all_at (ObjectFits world objects) objects all name object is)

-- ---- types above

same_ref : (s t : TypeRef) → Ref s ≡ Ref t → s ≡ t
same_ref s t e = cc

same_new : (p q : ℕ) (b : Bool) → (if b then New p else Top) ≡ New p → b ≡ true
same_new p q true e = refl
same_new p q false e = cc

-- only Top is above Top
above_top : (files : List ClassFile) (upper : VType) → merge files upper Top ≡ Top
above_top files Top = refl
above_top files upper = refl

module _ (world : World) (gathers : Gathers world.files None) (objects : List Object) (are : AreOfSet world objects) (body : Body) where
  ref_value : (value : Value) (s t : TypeRef) → IsType world.files s → IsType world.files t → merge world.files (Ref s) (Ref t) ≡ Ref s
      → ValueFits world objects body value (Ref t) → ValueFits world objects body value (Ref s)
  ref_value value s t one two above (inl null) = inl null
  ref_value value s t one two above (inr named) =
      let object = named.object in
      let up : merge_refs world.files s.dims s.base t.dims t.base ≡ s = same_ref (merge_refs world.files s.dims s.base t.dims t.base) s above in
      inr (record {
        name = named.name;
        object = object;
        is = named.is;
        there = named.there;
        has = ref_above world.files gathers (type_of object).dims (type_of object).base t.dims t.base s.dims s.base (are named.name object named.there) two one up named.has;
      })

  pub value_above : (value : Value) (upper lower : VType) → IsKnown world.files upper → IsKnown world.files lower → merge world.files upper lower ≡ upper
      → ValueFits world objects body value lower → ValueFits world objects body value upper
  value_above value Top lower one two above fits = tt
  value_above value Int Int one two above fits = fits
  value_above value Null Null one two above fits = fits
  value_above value (Ref s) Null one two above fits = inl fits
  value_above value (Ref s) (Ref t) one two above fits = ref_value value s t one two above fits
  value_above value (New p) (New q) one two above fits =
      subst (λ i. ValueFits world objects body value (New i)) (sym (eqb-true p q (same_new p q (nat_eq p q) above))) fits
  value_above value This This one two above fits = fits
  value_above value upper lower one two above fits = cc

  local_above : (value : Option Value) (upper lower : VType) → IsKnown world.files upper → IsKnown world.files lower → merge world.files upper lower ≡ upper
      → LocalFits world objects body value lower → LocalFits world objects body value upper
  local_above None upper lower one two above fits = sym above ∙ ap (merge world.files upper) fits ∙ above_top world.files upper
  local_above (Some value) upper lower one two above fits = value_above value upper lower one two above fits

  -- ---- lists

  each_above : {X : Type 0} (Fits : X → VType → Type 0) (allowed : VType → Bool)
      → ((x : X) (upper lower : VType) → IsKnown world.files upper → IsKnown world.files lower → merge world.files upper lower ≡ upper → Fits x lower → Fits x upper)
      → (xs : List X) (uppers lowers : List VType) → AllByRecursion (IsKnown world.files) uppers → AllByRecursion (IsKnown world.files) lowers → merge_lists world.files allowed uppers lowers ≡ Some uppers
      → AreEach Fits xs lowers → AreEach Fits xs uppers
  unfolding merge_lists
  each_above Fits allowed each [] [] [] one two over fits = tt
  each_above Fits allowed each [] [] (l ∷ ls) one two over fits = absurd fits
  each_above Fits allowed each [] (u ∷ us) [] one two over fits = cc
  each_above Fits allowed each [] (u ∷ us) (l ∷ ls) one two over fits = absurd fits
  each_above Fits allowed each (x ∷ xs) us [] one two over fits = absurd fits
  each_above Fits allowed each (x ∷ xs) [] (l ∷ ls) one two over fits = cc
  each_above Fits allowed each (x ∷ xs) (u ∷ us) (l ∷ ls) one two over fits =
      let is = merged_head (allowed (merge world.files u l)) (merge world.files u l) (merge_lists world.files allowed us ls) u us over in
      (each x u l one.0 two.0 is.0 fits.0, each_above Fits allowed each xs us ls one.1 two.1 is.1 fits.1)

  pub frame_above : (frame : Frame) (upper lower : VFrame) → IsKnownFrame world.files upper → IsKnownFrame world.files lower → IsAbove world.files upper lower
      → FrameFits world objects body frame lower → FrameFits world objects body frame upper
  frame_above frame upper lower one two above fits =
      let over = merged_parts (merge_lists world.files may_be_local upper.locals lower.locals) (merge_lists world.files may_be_operand upper.stack lower.stack) (upper.pending || lower.pending) upper above in
      record {
        locals = each_above (LocalFits world objects body) may_be_local local_above frame.locals upper.locals lower.locals one.locals two.locals over.0 fits.locals;
        operands = each_above (ValueFits world objects body) may_be_operand value_above frame.operands upper.stack lower.stack one.stack two.stack over.1 fits.operands;
      }
