-- Files are linked to one set at most.
use Rattle.std.proofs.Common.{◌≡◌, ℕ, List, [], ◌∷◌, map, None, refl, sym, ap, subst, ◌∙◌}
use Rattle.std.specs.List.{AllByRecursion}
use Rattle.std.proofs.lemmas.Option.{same_Some}
use Rattle.std.proofs.Math.Path.{fun_ext}
use Rattle.class_pool.specs.declared.types.MemberId.{MemberId}
use Rattle.class_file.specs.declared.record.ClassFile.{ClassFile}
use Rattle.class_tree.specs.Tree.{Gathers}
use Rattle.body_form.specs.declared.body.Body.{Body}
use Rattle.jvm_model.specs.Bodies.{AreEach, IsBody, Coded, coded_methods}
use Rattle.jvm_model.specs.TypesRight.{Table, IsLeast}
use Rattle.jvm_model.proofs.bodies.OneBody.{one_body}
use Rattle.type_rounds.proofs.Rounds.{one_least}
use Rattle.set_image.specs.Linked.{Typed, body_of, IsTyped, Linked, IsLinked, IsOfFiles}

abbrev typed_as : Body → Table → Typed
typed_as body table = record { body = body; table = table }

abbrev linked_as : List ClassFile → List Typed → MemberId → Linked
linked_as classes code main = record { classes = classes; code = code; main = main }

-- ---- the code of a closed set

module _ (classes : List ClassFile) (closed : Gathers classes None) where
  one_table : (body : Body) (first second : Table) → IsLeast classes body first → IsLeast classes body second → first ≡ second
  one_table body first second p q = fun_ext (one_least classes closed body first second p q)

  one_typed : (coded : Coded) (first second : Typed) → IsBody classes coded first.body → IsBody classes coded second.body → IsTyped classes first → IsTyped classes second → first ≡ second
  one_typed coded first second is also p q =
      let bodies : first.body ≡ second.body = one_body classes coded first.body second.body is also in
      ap (λ (x : Body). typed_as x first.table) bodies
      ∙ ap (typed_as second.body) (one_table second.body first.table second.table (subst (λ (x : Body). IsLeast classes x first.table) bodies p) q)

  one_code : (coded : List Coded) (first second : List Typed) → AreEach (IsBody classes) coded (map body_of first) → AreEach (IsBody classes) coded (map body_of second) → AllByRecursion (IsTyped classes) first → AllByRecursion (IsTyped classes) second → first ≡ second
  one_code [] [] [] are also p q = refl
  one_code [] [] (b ∷ second) are also p q = absurd also
  one_code [] (a ∷ first) second are also p q = absurd are
  one_code (c ∷ coded) [] second are also p q = absurd are
  one_code (c ∷ coded) (a ∷ first) [] are also p q = absurd also
  one_code (c ∷ coded) (a ∷ first) (b ∷ second) are also p q =
      ap (λ (x : Typed). x ∷ first) (one_typed c a b are.0 also.0 p.0 q.0) ∙ ap (λ (xs : List Typed). b ∷ xs) (one_code coded first second are.1 also.1 p.1 q.1)

-- ---- sets of the same classes

one_of_classes : (classes : List ClassFile) (first second : List Typed) (main other : MemberId) → IsLinked (linked_as classes first main) → IsLinked (linked_as classes second other) → linked_as classes first main ≡ linked_as classes second other
one_of_classes classes first second main other p q =
    ap (λ (code : List Typed). linked_as classes code main) (one_code classes p.closed (coded_methods classes) first second p.are_bodies q.are_bodies p.are_typed q.are_typed)
    ∙ ap (linked_as classes second) (same_Some main other (sym p.is_main ∙ q.is_main))

-- ---- sets of the same files

pub one_linked : (files : List (List ℕ)) (first second : Linked) → IsOfFiles files first → IsOfFiles files second → first ≡ second
one_linked files first second p q =
    let classes : first.classes ≡ second.classes = same_Some first.classes second.classes (sym p.records ∙ q.records) in
    let moved : IsLinked (linked_as second.classes first.code first.main) = subst (λ (cs : List ClassFile). IsLinked (linked_as cs first.code first.main)) classes p.is_linked in
    ap (λ (cs : List ClassFile). linked_as cs first.code first.main) classes ∙ one_of_classes second.classes first.code second.code first.main second.main moved q.is_linked
