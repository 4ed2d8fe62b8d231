-- The typed body of each method of a set is found by its method, and no other one is.
use Rattle.std.proofs.Common.{◌≡◌, true, cond, nat_eq, List, [], ◌∷◌, ◌++◌, map, Some, sym, ap, subst, ◌∙◌, append_assoc}
use Rattle.std.specs.List.{AllByRecursion}
use Rattle.std.proofs.lemmas.Bool.{and_parts}
use Rattle.std.proofs.lemmas.Bool.Decides.{Decides-eqb}
use Rattle.std.proofs.lemmas.Option.{same_Some}
use Rattle.class_pool.specs.declared.types.MemberId.{MemberId}
use Rattle.class_file.specs.declared.record.ClassFile.{ClassFile}
use Rattle.class_tree.specs.Members.{member_at}
use Rattle.jvm_model.specs.Bodies.{AreBodies}
use Rattle.infuse_ids.specs.Orders.{method_of_body}
use Rattle.infuse_ids.proofs.ClassBodies.{AreRising, IsBefore, is_itself, is_other, methods_of_bodies, rising}
use Rattle.set_image.specs.Linked.{Typed, body_of}
use Rattle.set_compile.specs.Settings.{is_typed_of, typed_among}

-- the method of a typed body
abbrev pub own_method : Typed → MemberId
own_method typed = method_of_body typed.body

-- they are in the order of their methods, each once
abbrev AreInOrder : List Typed → Type 0
AreInOrder code = AreRising (methods_of_bodies (map body_of code))

is_ahead : (first : MemberId) (before : List Typed) (typed : Typed) (after : List Typed) → AllByRecursion (IsBefore first) (methods_of_bodies (map body_of (before ++ typed ∷ after))) → IsBefore first (own_method typed)
is_ahead first [] typed after all = all.0
is_ahead first (other ∷ before) typed after all = is_ahead first before typed after all.1

found_among : (before : List Typed) (typed : Typed) (after : List Typed) → AreInOrder (before ++ typed ∷ after) → typed_among (before ++ typed ∷ after) (own_method typed) ≡ Some typed
unfolding AreRising
found_among [] typed after order = ap (λ b. cond b (Some typed) (typed_among after (own_method typed))) (is_itself typed.body)
found_among (other ∷ before) typed after order =
    ap (λ b. cond b (Some other) (typed_among (before ++ typed ∷ after) (own_method typed)))
    (is_other (own_method other) (own_method typed) (is_ahead (own_method other) before typed after order.0))
    ∙ found_among before typed after order.1

-- ---- one by one

abbrev IsFound : List Typed → Typed → Type 0
IsFound code typed = typed_among code (own_method typed) ≡ Some typed

each_found : (before after : List Typed) → AreInOrder (before ++ after) → AllByRecursion (IsFound (before ++ after)) after
each_found before [] order = tt
each_found before (typed ∷ after) order =
    let shift : (before ++ typed ∷ []) ++ after ≡ before ++ typed ∷ after = append_assoc before (typed ∷ []) after in (
      found_among before typed after order,
      subst (λ code. AllByRecursion (IsFound code) after) shift (each_found (before ++ typed ∷ []) after (subst AreInOrder (sym shift) order)),
    )

module _ (classes : List ClassFile) (code : List Typed) (are : AreBodies classes (map body_of code)) where
  pub all_found : AllByRecursion (IsFound code) code
  all_found = each_found [] code (rising classes (map body_of code) are)

-- a method is that of a body by both its numbers
same_method : (typed other : Typed) → is_typed_of (own_method typed) other ≡ true → own_method typed ≡ own_method other
same_method typed other is =
    let body = typed.body in
    let second = other.body in
    let parts = and_parts (nat_eq body.class second.class) (nat_eq body.method second.method) is in
    ap (λ class. member_at class body.method) ((Decides-eqb body.class second.class).0 parts.0) ∙ ap (λ method. member_at second.class method) ((Decides-eqb body.method second.method).0 parts.1)

-- those of one method are the same
pub all_same : (code : List Typed) (typed : Typed) → IsFound code typed → (list : List Typed) → AllByRecursion (IsFound code) list → AllByRecursion (λ other. is_typed_of (own_method typed) other ≡ true → other ≡ typed) list
all_same code typed found [] all = tt
all_same code typed found (other ∷ list) all =
    ((λ is. same_Some other typed (sym all.0 ∙ ap (typed_among code) (sym (same_method typed other is)) ∙ found)), all_same code typed found list all.1)
