-- The methods of the image of a set stand at the ids of their bodies.
use Rattle.std.proofs.Common.{◌≡◌, inl, inr, ℕ, zero, suc, ◌+◌, ◌-◌, ◌<◌, ◌≤◌, Bool, true, false, cond, nat_eq, nat_lt, List, [], ◌∷◌, ◌++◌, map, filter, length, slice_get, position, Some, None, unwrap_or, is_some, refl, sym, ap, ap₂, ◌∙◌, arith}
use Rattle.std.specs.List.{AllByRecursion, find, flat_map, list_any}
use Rattle.std.specs.Option.{option_map_or}
use Rattle.std.proofs.lemmas.Bool.{le-ltb}
use Rattle.std.proofs.lemmas.Bool.Decides.{Decides-eqb, eqb_tells}
use Rattle.std.proofs.lemmas.List.{map-append}
use Rattle.library.specs.Classes.{first_own}
use Rattle.library.specs.Members.{methods_of as natives_of}
use Rattle.library.specs.Natives.{number_of}
use Rattle.library.specs.declared.natives.Native.{Native}
use Rattle.library.specs.declared.natives.Native.TheVariants.{Construct, Write, Read, Print}
use Rattle.class_pool.specs.declared.types.MemberId.{MemberId}
use Rattle.class_file.specs.declared.record.ClassFile.{ClassFile}
use Rattle.image_form.specs.declared.record.Image.{Image}
use Rattle.image_form.specs.declared.record.Method.{Method}
use Rattle.jvm_model.specs.Bodies.{AreBodies, AreEach, Coded, IsBody, coded_methods}
use Rattle.jvm_model.specs.ImageNumbering.{IsClassOrder, class_order, is_among, is_member, method_id, method_order}
use Rattle.mote_model.specs.SplitState.{method_at}
use Rattle.infuse_ids.specs.Orders.{bodies_of_class, method_of_body, methods_over}
use Rattle.infuse_ids.specs.Orders as orders
use Rattle.infuse_ids.proofs.ClassBodies.{filter_map_same, is_itself, methods_of_bodies, methods_right, own_classes}
use Rattle.set_laws.proofs.CodedMethods.{StandsIn, methods_stand}
use Rattle.set_image.specs.Linked.{Typed, body_of, in_order, is_of_class}
use Rattle.set_compile.specs.Settings.{is_typed_of, typed_among}
use Rattle.set_compile.proofs.FoundCode.{all_found, all_same, own_method}
use Rattle.set_compile.proofs.KeyedLists.{all_filtered, all_flat, any_filtered, any_flat, any_found, found_only, placed_seen}

-- ---- the methods in the order of their ids

seen_flat : {X Y Z : Type 0} (view : Y → Z) (f : X → List Y) (g : X → List Z) → ((x : X) → map view (f x) ≡ g x) → (xs : List X) → map view (flat_map f xs) ≡ flat_map g xs
seen_flat view f g same [] = refl
seen_flat view f g same (x ∷ xs) = map-append view (f x) (flat_map f xs) ∙ ap (λ ys. ys ++ map view (flat_map f xs)) (same x) ∙ ap (λ ys. g x ++ ys) (seen_flat view f g same xs)

map_twice : {X Y Z : Type 0} (f : X → Y) (g : Y → Z) (xs : List X) → map g (map f xs) ≡ map (λ x. g (f x)) xs
map_twice f g [] = refl
map_twice f g (x ∷ xs) = ap (λ ys. g (f x) ∷ ys) (map_twice f g xs)

module _ (classes : List ClassFile) (code : List Typed) (are : AreBodies classes (map body_of code)) where
  of_class : (class : ℕ) → map own_method (filter (is_of_class class) code) ≡ map method_of_body (bodies_of_class (map body_of code) class)
  of_class class =
      sym (map_twice body_of method_of_body (filter (is_of_class class) code))
      ∙ ap (map method_of_body) (sym (filter_map_same (orders.is_of_class class) body_of code))

  pub methods_are : method_order classes ≡ map own_method (in_order classes code)
  methods_are =
      methods_right classes (map body_of code) are
      ∙ sym (seen_flat own_method (λ class. filter (is_of_class class) code) (λ class. map method_of_body (bodies_of_class (map body_of code) class)) of_class (class_order classes))

-- ---- ids

-- an own class has no natives
no_native : (class : ℕ) → first_own ≤ class → natives_of class ≡ []
no_native class le =
    let differs : nat_eq class 14 ≡ false = elim (eqb_tells class 14) [ inl same ↦ absurd (omega (arith, le, same.1)) | inr other ↦ other.0 ] in
    ap (λ b. cond b (Write ∷ Read ∷ Print ∷ []) (cond (nat_lt class 15) (Construct ∷ []) [])) differs
    ∙ ap (λ b. cond b (Construct ∷ []) []) (le-ltb class 15 (omega (arith, le)))

own_id : (methods : List MemberId) (member : MemberId) → first_own ≤ member.class → method_id methods member ≡ first_own + unwrap_or (position (is_member member) methods) 0
own_id methods member le =
    ap (λ (natives : List Native). option_map_or number_of (slice_get natives member.member) (first_own + unwrap_or (position (is_member member) methods) 0)) (no_native member.class le)

-- the method of an id behind those of the library
at_id : (image : Image) (n : ℕ) → method_at image (first_own + n) ≡ slice_get image.methods n
at_id image n =
    let behind : (first_own + n) - first_own ≡ n = omega arith in
    ap (λ b. cond b None (slice_get image.methods ((first_own + n) - first_own))) (le-ltb (first_own + n) first_own (omega arith)) ∙ ap (slice_get image.methods) behind

-- ---- the typed bodies of a closed set

-- the class of the body is that of a file
pub record IsOwn (classes : List ClassFile) (typed : Typed) : Type 0 where
  pub from : let body = typed.body in first_own ≤ body.class
  pub within : let body = typed.body in body.class - first_own < length classes

own_typed : (classes : List ClassFile) (codeds : List Coded) (code : List Typed) → AllByRecursion (StandsIn classes) codeds → AreEach (IsBody classes) codeds (map body_of code)
    → AllByRecursion (λ (m : MemberId). first_own ≤ m.class) (methods_of_bodies (map body_of code)) → AllByRecursion (IsOwn classes) code
own_typed classes codeds [] stand are from = tt
own_typed classes [] (typed ∷ code) stand are from = absurd are
own_typed classes (coded ∷ codeds) (typed ∷ code) stand are from =
    let same = are.0.class in
    let stands = stand.0 in
    let inside : coded.class - first_own < length classes = elim stands.class [ inl low ↦ absurd (omega (arith, low, same, from.0)) | inr own ↦ own.1 ] in
    (record { from = from.0; within = omega (arith, inside, same) }, own_typed classes codeds code stand.1 are.1 from.1)

module _ (classes : List ClassFile) (code : List Typed) (are : AreBodies classes (map body_of code)) (order : IsClassOrder classes (class_order classes)) where
  pub own_code : AllByRecursion (IsOwn classes) code
  own_code = own_typed classes (coded_methods classes) code (methods_stand classes) are (own_classes classes (map body_of code) are)

  abbrev Has : Typed → Type 0
  Has typed = typed_among code (own_method typed) ≡ Some typed

  -- a class of a file is among those in order
  is_numbered : (class : ℕ) → first_own ≤ class → class - first_own < length classes → is_among class (class_order classes) ≡ true
  is_numbered class from within =
      order.each class (ap (λ b. is_some (cond b None (slice_get classes (class - first_own)))) (le-ltb class first_own from) ∙ there classes (class - first_own) within)
    where
      there : (files : List ClassFile) (n : ℕ) → n < length files → is_some (slice_get files n) ≡ true
      there [] n lt = absurd (omega (arith, lt))
      there (file ∷ files) zero lt = refl
      there (file ∷ files) (suc n) lt = there files n (omega (arith, lt))

  abbrev ordered : List Typed
  ordered = in_order classes code

  abbrev is_its : Typed → Typed → Bool
  is_its typed other = is_typed_of (own_method typed) other

  -- a typed body is among those in order
  is_ordered : (typed : Typed) → Has typed → IsOwn classes typed → list_any (is_its typed) ordered ≡ true
  is_ordered typed has own =
      let body = typed.body in
      any_flat (is_its typed) (nat_eq body.class) (λ class. filter (is_of_class class) code)
      (λ class same.
      let in_class : is_of_class class typed ≡ true = (Decides-eqb class body.class).1 (sym ((Decides-eqb body.class class).0 same)) in
      any_filtered (is_its typed) (is_of_class class) code
      (any_found (is_its typed) (λ other. cond (is_of_class class other) (is_its typed other) false) code typed has
      (ap (λ b. cond b (is_its typed typed) false) in_class ∙ is_itself typed.body)))
      (class_order classes) (is_numbered body.class own.from own.within)

  -- it is found there
  is_found : (typed : Typed) → Has typed → IsOwn classes typed → find (is_its typed) ordered ≡ Some typed
  is_found typed has own =
      found_only (is_its typed) typed ordered (is_ordered typed has own)
      (all_flat (λ other. is_its typed other ≡ true → other ≡ typed) (λ class. filter (is_of_class class) code)
      (λ class. all_filtered (λ other. is_its typed other ≡ true → other ≡ typed) (is_of_class class) code (all_same code typed has code (all_found classes code are)))
      (class_order classes))

  -- its method stands at its id, in an image with the methods in order
  pub placed_method : (image : Image) (method : Typed → Method) (typed : Typed) → image.methods ≡ map method ordered → Has typed → IsOwn classes typed
      → method_at image (method_id (method_order classes) (own_method typed)) ≡ Some (method typed)
  placed_method image method typed methods has own =
      let m = own_method typed in
      ap (method_at image) (own_id (method_order classes) m own.from)
      ∙ at_id image (unwrap_or (position (is_member m) (method_order classes)) 0)
      ∙ ap₂ (λ (list : List Method) (members : List MemberId). slice_get list (unwrap_or (position (is_member m) members) 0)) methods (methods_are classes code are)
      ∙ placed_seen own_method method (is_member m) ordered typed (is_found typed has own)
