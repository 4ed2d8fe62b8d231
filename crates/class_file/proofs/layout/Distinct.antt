-- Members that differ from those before them are distinct.
use Rattle.std.proofs.Common.{◌≡◌, false, ◌||◌, List, [], ◌∷◌, ◌++◌, map, refl, sym, ◌∙◌}
use Rattle.std.specs.List.{AllByRecursion, IsDistinct}
use Rattle.std.proofs.lemmas.Bool.{or_parts, or_from}
use Rattle.std.proofs.lemmas.List.Folds.{list_any-append}
use Rattle.class_pool.specs.Pool.{Slots}
use Rattle.class_file.specs.declared.head.Head.{Head}
use Rattle.class_file.specs.declared.record.Member.{Member}
use Rattle.class_file.specs.Layout.{MemberLayout, head_of, member_of}
use Rattle.class_file.specs.Rules.{is_same_member}
use Rattle.class_file.specs.ReadingMembers.{is_declared, head_in}
use Rattle.class_file.proofs.readers.Lists.{AllFrom, pushed}

-- two facts of each from one
sorted_out : {X : Type 0} (P Q R : X → Type 0) (xs : List X) → ((x : X) → P x → Q x × R x) → AllByRecursion P xs → AllByRecursion Q xs × AllByRecursion R xs
sorted_out P Q R [] says all = (tt, tt)
sorted_out P Q R (x ∷ xs) says all =
    let here = says x all.0 in
    let others = sorted_out P Q R xs says all.1 in
    ((here.0, others.0), (here.1, others.1))

combined : {X : Type 0} (P Q R : X → Type 0) (xs : List X) → ((x : X) → Q x → R x → P x) → AllByRecursion Q xs → AllByRecursion R xs → AllByRecursion P xs
combined P Q R [] says q r = tt
combined P Q R (x ∷ xs) says q r = (says x q.0 r.0, combined P Q R xs says q.1 r.1)

module _ (pool : Slots) where
  pub one_after : (earlier : List Member) (m : Member) (head : Head) → is_declared pool (earlier ++ m ∷ []) head ≡ (is_declared pool earlier head || (is_same_member pool (head_in m) head || false))
  unfolding is_declared
  one_after earlier m head = list_any-append (λ other. is_same_member pool (head_in other) head) earlier (m ∷ [])

  new_of_both : (earlier : List Member) (m : Member) (head : Head) → is_declared pool (earlier ++ m ∷ []) head ≡ false → (is_declared pool earlier head ≡ false) × (is_same_member pool (head_in m) head ≡ false)
  new_of_both earlier m head e =
      let p = or_parts (is_declared pool earlier head) (is_same_member pool (head_in m) head || false) (sym (one_after earlier m head) ∙ e) in
      (p.0, (or_parts (is_same_member pool (head_in m) head) false p.1).0)

  both_new : (earlier : List Member) (m : Member) (head : Head) → is_declared pool earlier head ≡ false → is_same_member pool (head_in m) head ≡ false → is_declared pool (earlier ++ m ∷ []) head ≡ false
  both_new earlier m head old other =
      one_after earlier m head ∙ or_from (is_declared pool earlier head) (is_same_member pool (head_in m) head || false) old (or_from (is_same_member pool (head_in m) head) false other refl)

  abbrev pub IsNew : List Member → MemberLayout → Type 0
  IsNew earlier m = is_declared pool earlier (head_of m) ≡ false

  abbrev AreNew : List Member → List Head → Type 0
  AreNew earlier heads = AllByRecursion (λ head. is_declared pool earlier head ≡ false) heads

  none_declared : (heads : List Head) → AreNew [] heads
  unfolding is_declared
  none_declared [] = tt
  none_declared (head ∷ heads) = (refl, none_declared heads)

  new_apart : (earlier : List Member) (parts : List MemberLayout) → AllFrom IsNew (pushed member_of) earlier parts → AreNew earlier (map head_of parts) × IsDistinct (is_same_member pool) (map head_of parts)
  unfolding IsDistinct
  new_apart earlier [] all = (tt, tt)
  new_apart earlier (m ∷ parts) all =
      let others = new_apart (earlier ++ member_of m ∷ []) parts all.1 in
      let each =
      sorted_out (λ head. is_declared pool (earlier ++ member_of m ∷ []) head ≡ false) (λ head. is_declared pool earlier head ≡ false) (λ head. is_same_member pool (head_of m) head ≡ false) (map head_of parts)
      (λ head new. new_of_both earlier (member_of m) head new) others.0 in
      ((all.0, each.0), (each.1, others.1))

  apart_new : (earlier : List Member) (parts : List MemberLayout) → AreNew earlier (map head_of parts) → IsDistinct (is_same_member pool) (map head_of parts) → AllFrom IsNew (pushed member_of) earlier parts
  unfolding IsDistinct
  apart_new earlier [] new apart = tt
  apart_new earlier (m ∷ parts) new apart =
      let each =
      combined (λ head. is_declared pool (earlier ++ member_of m ∷ []) head ≡ false) (λ head. is_declared pool earlier head ≡ false) (λ head. is_same_member pool (head_of m) head ≡ false) (map head_of parts)
      (λ head old other. both_new earlier (member_of m) head old other) new.1 apart.0 in
      (new.0, apart_new (earlier ++ member_of m ∷ []) parts each apart.1)

  pub new_distinct : (parts : List MemberLayout) → AllFrom IsNew (pushed member_of) [] parts → IsDistinct (is_same_member pool) (map head_of parts)
  new_distinct parts all = (new_apart [] parts all).1

  pub distinct_new : (parts : List MemberLayout) → IsDistinct (is_same_member pool) (map head_of parts) → AllFrom IsNew (pushed member_of) [] parts
  distinct_new parts apart = apart_new [] parts (none_declared (map head_of parts)) apart
