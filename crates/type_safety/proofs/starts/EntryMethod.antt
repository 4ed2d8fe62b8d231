-- The entry of a set is a method with a body, which takes nothing and gives nothing.
use Rattle.std.proofs.Common.{◌≡◌, inl, inr, ℕ, ◌-◌, ◌+◌, ◌≤◌, Bool, true, false, ◌&&◌, cond, List, [], ◌∷◌, map, get_or, slice_get, codes, Option, Some, None, is_some, option_map, option_and_then, position, refl, sym, ap, ◌∙◌, arith}
use Rattle.std.specs.List.{AllByRecursion}
use Rattle.std.specs.Option.{option_map_or}
use Rattle.std.specs.Str.{bytes_eq}
use Rattle.std.proofs.lemmas.Bool.{and_parts, le-ltb}
use Rattle.std.proofs.lemmas.List.Quantifiers.{position-Some}
use Rattle.std.proofs.lemmas.Option.{slice_get-get_or, slice_get-map}
use Rattle.std.proofs.lemmas.Slice.Eq.{bytes_eq-Decides}
use Rattle.library.specs.Classes.{first_own}
use Rattle.library.specs.Members.{methods_of as natives_of}
use Rattle.class_pool.specs.declared.types.MemberId.{MemberId}
use Rattle.class_pool.specs.DescriptorReading.{method_of, params_at, result_of as read_result}
use Rattle.class_file.specs.Rules.{is_abstract, is_public, is_static}
use Rattle.class_file.specs.declared.record.ClassFile.{ClassFile}
use Rattle.class_file.specs.declared.record.Member.{Member}
use Rattle.class_tree.specs.Set.{file_of}
use Rattle.class_tree.specs.Members.{in_file, in_library, methods_of, is_called}
use Rattle.body_form.specs.declared.op.MethodUse.{MethodUse}
use Rattle.jvm_model.specs.Bodies.{AreBodies}
use Rattle.jvm_model.specs.Entry.{is_main, main_in, entry_of}
use Rattle.typed_machine.specs.TypedWorld.{World}
use Rattle.type_safety.specs.Facts.{RunsBody}
use Rattle.type_safety.proofs.fitting.SetLists.{none_some, same_some, false_is_true, true_or_false}
use Rattle.type_safety.proofs.facts.CodeRead.{IsRead}
use Rattle.type_safety.proofs.facts.RunMethods.{IsCalled, own_file, abstract_is, has_code_where, runs_body}

-- ---- the method

-- the item at the first position at which a test passes
record IsFirst {X : Type 0} (passes : X → Bool) (items : List X) (at : ℕ) : Type 0 where
  item : X
  there : slice_get items at ≡ Some item
  is : passes item ≡ true

first_at : {X : Type 0} (passes : X → Bool) (items : List X) (at : ℕ) → position passes items ≡ Some at → IsFirst passes items at
first_at passes [] at e = none_some at e
first_at passes (x ∷ items) at e =
    let found = position-Some passes (x ∷ items) at x e in
    record { item = get_or (x ∷ items) at x; there = slice_get-get_or (x ∷ items) at x found.0; is = found.1 }

-- a main of a file of the set
pub record IsEntry (files : List ClassFile) (id : MemberId) : Type 0 where
  pub own : 32 ≤ id.class
  pub file : ClassFile
  pub stands : slice_get files (id.class - 32) ≡ Some file
  pub method : Member
  pub there : slice_get file.methods id.member ≡ Some method
  pub is : is_main file.pool method ≡ true

module _ (files : List ClassFile) (id : MemberId) where
  main_at : (place : ℕ) (file : ClassFile) → slice_get files place ≡ Some file → (found : Option ℕ) → main_in file ≡ found → option_map (λ member. record { class = first_own + place; member = member }) found ≡ Some id → IsEntry files id
  main_at place file stands None at e = none_some id e
  main_at place file stands (Some member) at e =
      let same : record { class = first_own + place; member = member } ≡ id = same_some (record { class = first_own + place; member = member }) id e in
      let class : id.class ≡ 32 + place = ap (λ (i : MemberId). i.class) (sym same) in
      let back : id.class - 32 ≡ place = omega (arith, class) in
      let first = first_at (is_main file.pool) file.methods member at in
      record {
        own = omega (arith, class);
        file = file;
        stands = ap (slice_get files) back ∙ stands;
        method = first.item;
        there = ap (λ (i : MemberId). slice_get file.methods i.member) (sym same) ∙ first.there;
        is = first.is;
      }

  file_with : (found : Option ℕ) → position (λ file. is_some (main_in file)) files ≡ found
      → option_and_then (λ place. option_map (λ member. record { class = first_own + place; member = member }) (option_and_then main_in (slice_get files place))) found ≡ Some id → IsEntry files id
  file_with None at e = none_some id e
  file_with (Some place) at e =
      let first = first_at (λ file. is_some (main_in file)) files place at in
      main_at place first.item first.there (main_in first.item) refl
      (ap (λ (o : Option ClassFile). option_map (λ member. record { class = first_own + place; member = member }) (option_and_then main_in o)) (sym first.there) ∙ e)

  pub entry_is : entry_of files ≡ Some id → IsEntry files id
  entry_is e = file_with (position (λ file. is_some (main_in file)) files) refl e

-- ---- its body

-- what a call of it names
abbrev pub main_use : MemberId → MethodUse
main_use id = record { method = id; name = codes "main"; descriptor = record { params = []; result = None }; class = id.class; private = false }

main_type : method_of (codes "()V") ≡ Some (record { params = []; result = None })
unfolding method_of params_at read_result
main_type = refl

module _ (world : World) (read : AllByRecursion IsRead world.files) (are : AreBodies world.files world.bodies) where
  -- main is static, and a static method is not abstract, so that it has code
  pub runs_main : (id : MemberId) → IsEntry world.files id → RunsBody world id (main_use id) false
  runs_main id entry =
      let declaration = in_file entry.file.pool entry.method in
      let parts = and_parts (is_called (codes "main") (codes "()V") declaration) (is_public declaration.flags && is_static declaration.flags) entry.is in
      let names = and_parts (bytes_eq (codes "main") declaration.name) (bytes_eq (codes "()V") declaration.descriptor) parts.0 in
      let static = (and_parts (is_public declaration.flags) (is_static declaration.flags) parts.1).1 in
      let there : slice_get (methods_of world.files id.class) id.member ≡ Some declaration =
      ap (λ b. slice_get (cond b (map in_library (natives_of id.class)) (option_map_or (λ (file : ClassFile). map (in_file file.pool) file.methods) (file_of world.files id.class) [])) id.member) (le-ltb id.class first_own entry.own)
      ∙ ap (λ (o : Option ClassFile). slice_get (option_map_or (λ (file : ClassFile). map (in_file file.pool) file.methods) o []) id.member) (own_file world.files id.class entry.own ∙ entry.stands)
      ∙ slice_get-map (in_file entry.file.pool) entry.file.methods id.member ∙ ap (option_map (in_file entry.file.pool)) entry.there in
      let called : IsCalled world.files id (main_use id) false =
      record {
        declaration = declaration;
        there = there;
        name_is = sym ((bytes_eq-Decides (codes "main") declaration.name).0 names.0);
        type = ap method_of (sym ((bytes_eq-Decides (codes "()V") declaration.descriptor).0 names.1)) ∙ main_type;
        named = refl;
        static = static;
      } in
      let concrete : is_abstract declaration.flags ≡ false =
      elim (true_or_false (is_abstract declaration.flags)) [
        | inl abstract ↦ false_is_true (is_static declaration.flags) static (abstract_is world.files read id.class id.member declaration entry.own there abstract).1
        | inr other ↦ other
      ] in
      runs_body world read are id (main_use id) false called entry.own (has_code_where world.files read id declaration there concrete)
