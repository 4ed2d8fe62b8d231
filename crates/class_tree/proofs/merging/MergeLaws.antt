-- The merge of two types of values: it does not matter which comes first, equal ones stay, and it fits what both
-- fit.
use Rattle.std.proofs.Common.{◌≡◌, ℕ, Bool, true, false, ◌&&◌, inl, inr, List, nat_eq, if◌then◌else◌, refl, sym, ap, ◌∙◌}
use Rattle.std.proofs.lemmas.Bool.{eqb-true}
use Rattle.std.proofs.lemmas.Bool.Decides.{Decides-eqb}
use Rattle.class_pool.specs.declared.types.TypeRef.{TypeRef}
use Rattle.class_file.specs.declared.record.ClassFile.{ClassFile}
use Rattle.body_form.specs.declared.types.VType.{VType}
use Rattle.body_form.specs.declared.types.VType.TheVariants.{Top, Int, Null, Ref, New, This}
use Rattle.class_tree.specs.Merge.{merge}
use Rattle.class_tree.specs.Fits.{fits}
use Rattle.class_tree.specs.MergeLaws.{SupersAreRuled, CommonIsLeast, MergeCommutes, MergeAssociates, EqualTypesStay, MergeFits, InterfacesAreBelowObject, FitsWhereBelow}
use Rattle.class_tree.proofs.ancestors.Superclasses.{ranked}
use Rattle.class_tree.proofs.merging.RefParts.{cases, not_true, and_no}
use Rattle.class_tree.proofs.ancestors.CommonSuper.{supers_ruled, least_above}
use Rattle.class_tree.proofs.merging.Associating.{refs_assoc}
use Rattle.class_tree.proofs.merging.SubtypeFits.{interface_super, fits_below}
use Rattle.class_tree.proofs.merging.Merging.{refs_commute, refs_stay, refs_fit}

-- ---- objects that are not yet constructed

new_or_top : ℕ → ℕ → VType
new_or_top p q = if nat_eq p q then New p else Top

news_commute : (p q : ℕ) → new_or_top p q ≡ new_or_top q p
unfolding new_or_top
news_commute p q =
    elim (cases (nat_eq p q)) [
      | inl same ↦
          let is : p ≡ q = eqb-true p q same in
          ap (λ b. if b then New p else Top) same ∙ ap New is ∙ sym (ap (λ b. if b then New q else Top) ((Decides-eqb q p).1 (sym is)))
      | inr other ↦
          let turned : nat_eq q p ≡ false = not_true (nat_eq q p) (λ e. let f : false ≡ true = sym other ∙ (Decides-eqb p q).1 (sym (eqb-true q p e)) in cc) in
          ap (λ b. if b then New p else Top) other ∙ sym (ap (λ b. if b then New q else Top) turned)
    ]

new_stays : (p : ℕ) → new_or_top p p ≡ New p
unfolding new_or_top
new_stays p = ap (λ b. if b then New p else Top) ((Decides-eqb p p).1 refl)

new_fits : (files : List ClassFile) (b : Bool) (p : ℕ) (type : TypeRef) → fits files (if b then New p else Top) type ≡ false
new_fits files true p type = refl
new_fits files false p type = refl

-- ---- with each other type

module _ (files : List ClassFile) where
  top_commutes : (b : VType) → merge files Top b ≡ merge files b Top
  top_commutes Top = refl
  top_commutes b = refl

  int_commutes : (b : VType) → merge files Int b ≡ merge files b Int
  int_commutes Int = refl
  int_commutes b = refl

  null_commutes : (b : VType) → merge files Null b ≡ merge files b Null
  null_commutes Null = refl
  null_commutes b = refl

  new_commutes : (p : ℕ) (b : VType) → merge files (New p) b ≡ merge files b (New p)
  unfolding new_or_top
  new_commutes p (New q) = news_commute p q
  new_commutes p b = refl

  this_commutes : (b : VType) → merge files This b ≡ merge files b This
  this_commutes This = refl
  this_commutes b = refl

  -- which types a merge fits of which one fits none
  abbrev Fits : VType → VType → TypeRef → Type 0
  Fits a b type = fits files (merge files a b) type ≡ (fits files a type && fits files b type)

  top_fits : (b : VType) (type : TypeRef) → Fits Top b type
  top_fits Top type = refl
  top_fits b type = refl

  int_fits : (b : VType) (type : TypeRef) → Fits Int b type
  int_fits Int type = refl
  int_fits b type = refl

  null_fits : (b : VType) (type : TypeRef) → Fits Null b type
  null_fits Null type = refl
  null_fits b type = refl

  news_fit : (p : ℕ) (b : VType) (type : TypeRef) → Fits (New p) b type
  news_fit p (New q) type = new_fits files (nat_eq p q) p type
  news_fit p b type = refl

  this_fits : (b : VType) (type : TypeRef) → Fits This b type
  this_fits This type = refl
  this_fits b type = refl

-- ---- any two

pub commutes : MergeCommutes
commutes files gathers Top b first second = top_commutes files b
commutes files gathers Int b first second = int_commutes files b
commutes files gathers Null b first second = null_commutes files b
commutes files gathers (Ref s) (Ref t) first second = ap Ref (refs_commute files gathers (ranked files gathers).0 (ranked files gathers).1 s.dims s.base t.dims t.base first second)
commutes files gathers (Ref s) b first second = refl
commutes files gathers (New p) b first second = new_commutes files p b
commutes files gathers This b first second = this_commutes files b

-- ---- three of them

top_last : (files : List ClassFile) (a : VType) → merge files a Top ≡ Top
top_last files a = sym (top_commutes files a)

-- what gives Top of both gives Top of either
either_way : (give : VType → VType) (b : Bool) (p : ℕ) → give (New p) ≡ Top → give Top ≡ Top → give (if b then New p else Top) ≡ Top
either_way give true p one two = one
either_way give false p one two = two

module _ (files : List ClassFile) where
  same_new : (p : ℕ) → merge files (New p) (New p) ≡ New p
  unfolding new_or_top
  same_new p = new_stays p

  -- with one that is the first one, or not
  news_with : (p r : ℕ) (b : Bool) → nat_eq p r ≡ b → merge files (New p) (New r) ≡ merge files (New p) (if b then New p else Top)
  news_with p r true e = ap (λ b. if b then New p else Top) e ∙ sym (same_new p)
  news_with p r false e = ap (λ b. if b then New p else Top) e

  news_assoc_with : (p q r : ℕ) (b : Bool) → nat_eq p q ≡ b → merge files (if b then New p else Top) (New r) ≡ merge files (New p) (merge files (New q) (New r))
  news_assoc_with p q r true e =
      let same : p ≡ q = eqb-true p q e in
      news_with p r (nat_eq p r) refl ∙ ap (λ i. merge files (New p) (merge files (New i) (New r))) same
  news_assoc_with p q r false e =
      sym (either_way (merge files (New p)) (nat_eq q r) q (ap (λ b. if b then New p else Top) e) refl)

  news_assoc : (p q r : ℕ) → merge files (merge files (New p) (New q)) (New r) ≡ merge files (New p) (merge files (New q) (New r))
  news_assoc p q r = news_assoc_with p q r (nat_eq p q) refl

pub associates : MergeAssociates
associates files gathers Top b c first second third = refl
associates files gathers a Top c first second third = ap (λ x. merge files x c) (top_last files a) ∙ sym (top_last files a)
associates files gathers a b Top first second third = top_last files (merge files a b) ∙ sym (top_last files a) ∙ sym (ap (merge files a) (top_last files b))
associates files gathers (Ref s) (Ref t) (Ref u) first second third =
    ap Ref (refs_assoc files gathers (ranked files gathers).0 (ranked files gathers).1 s.dims s.base t.dims t.base u.dims u.base first second third)
associates files gathers (New p) (New q) (New r) first second third = news_assoc files p q r
associates files gathers (New p) (New q) c first second third = either_way (λ x. merge files x c) (nat_eq p q) p refl refl
associates files gathers a (New q) (New r) first second third = sym (either_way (merge files a) (nat_eq q r) q refl refl)
associates files gathers a b c first second third = refl

-- ---- one with itself

pub stays : EqualTypesStay
unfolding new_or_top
stays files gathers (Ref s) inside = ap Ref (refs_stay files gathers (ranked files gathers).0 (ranked files gathers).1 s.dims s.base inside)
stays files gathers (New p) inside = new_stays p
stays files gathers a inside = refl

and_yes : (a : Bool) → a ≡ (a && true)
and_yes true = refl
and_yes false = refl

pub merge_fits : MergeFits
merge_fits files gathers Top b first second type = top_fits files b type
merge_fits files gathers Int b first second type = int_fits files b type
merge_fits files gathers Null b first second type = null_fits files b type
merge_fits files gathers (Ref s) (Ref t) first second type = refs_fit files gathers (ranked files gathers).0 (ranked files gathers).1 s.dims s.base t.dims t.base first second type.dims type.base
merge_fits files gathers (Ref s) Null first second type = and_yes (fits files (Ref s) type)
merge_fits files gathers (Ref s) b first second type = sym (and_no (fits files (Ref s) type))
merge_fits files gathers (New p) b first second type = news_fit files p b type
merge_fits files gathers This b first second type = this_fits files b type

-- ---- classes

pub supers : SupersAreRuled
supers files gathers class upper = supers_ruled files (ranked files gathers).0 (ranked files gathers).1 class upper

pub common : CommonIsLeast
common files gathers a b first second = least_above files (ranked files gathers).0 (ranked files gathers).1 gathers a b first second

-- ---- what fits a class

pub interfaces : InterfacesAreBelowObject
interfaces files gathers class inside interface = interface_super files gathers class inside interface

pub below : FitsWhereBelow
below files gathers type class inside never = fits_below files gathers (ranked files gathers).0 (ranked files gathers).1 type class inside never
