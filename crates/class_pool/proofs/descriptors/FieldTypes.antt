-- A type is read where it is encoded, and what is read is one.
use Rattle.std.proofs.Common.{◌≡◌, ◌⊎◌, ℕ, zero, suc, ◌≤◌, Bool, true, false, cond, ltb, eqb, List, [], ◌∷◌, ◌++◌, length, drop, replicate, get_or, Option, Some, None, refl, sym, ap, subst, ◌∙◌, append_assoc, arith, inl, inr}
use Rattle.std.specs.List.{AllByRecursion}
use Rattle.std.proofs.lemmas.Bool.{cases_Bool, eqb-true, eqb-false, ne_eqb, ltb-false, le-ltb}
use Rattle.std.proofs.lemmas.List.{append-nil, nil_from_length, length-replicate, drop_at}
use Rattle.class_pool.specs.declared.descriptor.Base.{Base}
use Rattle.class_pool.specs.declared.descriptor.Base.TheVariants.{Byte as BaseByte, Char as BaseChar, Double as BaseDouble, Float as BaseFloat, Int as BaseInt, Long as BaseLong, Short as BaseShort, Boolean as BaseBoolean, Class as BaseClass}
use Rattle.class_pool.specs.declared.descriptor.Kind.{Kind}
use Rattle.class_pool.specs.declared.descriptor.Kind.TheVariants.{Byte, Char, Double, Float, Int, Long, Short, Boolean, Class, Array}
use Rattle.class_pool.specs.Descriptors.{base_of, dims_of, base_text, kind_text, IsBase, HasDims, IsKind, IsFieldText}
use Rattle.class_pool.specs.DescriptorReading.{◌>>=◌, class_at, plain_bases, base_among, plain_base, base_at, brackets, plain_kind, kind_with, kind_at, field_of}
use Rattle.class_pool.proofs.descriptors.ClassNames.{some, some_is, no_some, class_read, class_taken}

-- what follows from the value of a step
pub bind_some : {A B C : Type 0} (r : Option A) (f : A → Option B) (y : B) → (r >>= f) ≡ Some y → ((x : A) → r ≡ Some x → f x ≡ Some y → C) → C
bind_some None f y e go = absurd (no_some y e)
bind_some (Some x) f y e go = go x refl e

pub then_some : {A B : Type 0} {r : Option A} {x : A} (f : A → Option B) (y : Option B) → r ≡ Some x → f x ≡ y → (r >>= f) ≡ y
then_some f y e h = rw e h

-- which branch a test chose
pub chosen : {A : Type 0} (b : Bool) (x y z : A) → cond b x y ≡ z → ((b ≡ true) × (x ≡ z)) ⊎ ((b ≡ false) × (y ≡ z))
chosen true x y z e = inl (refl, e)
chosen false x y z e = inr (refl, e)

-- ---- bases

abbrev IsPlain : Base → Type 0
IsPlain (BaseClass name) = ⊥
IsPlain _ = Unit {0}

record OneLetter (letter : ℕ) (base : Base) : Type 0 where
  text_is : base_text base ≡ letter ∷ []
  is_base : IsBase base

one_letter : (base : Base) → IsPlain base → OneLetter (get_or (base_text base) 0 0) base
one_letter BaseByte plain = record { text_is = refl; is_base = tt }
one_letter BaseChar plain = record { text_is = refl; is_base = tt }
one_letter BaseDouble plain = record { text_is = refl; is_base = tt }
one_letter BaseFloat plain = record { text_is = refl; is_base = tt }
one_letter BaseInt plain = record { text_is = refl; is_base = tt }
one_letter BaseLong plain = record { text_is = refl; is_base = tt }
one_letter BaseShort plain = record { text_is = refl; is_base = tt }
one_letter BaseBoolean plain = record { text_is = refl; is_base = tt }
one_letter (BaseClass name) plain = absurd plain

among_taken : (bases : List Base) (letter : ℕ) (base : Base) → AllByRecursion IsPlain bases → base_among bases letter ≡ Some base → OneLetter letter base
among_taken [] letter base plain e = absurd (no_some base e)
among_taken (other ∷ bases) letter base plain e =
    elim (chosen (eqb letter (get_or (base_text other) 0 0)) (some other) (base_among bases letter) (some base) e) [
      | inl is ↦ subst (OneLetter letter) (some_is other base is.1) (subst (λ (n : ℕ). OneLetter n other) (sym (eqb-true _ _ is.0)) (one_letter other plain.0))
      | inr not ↦ among_taken bases letter base plain.1 not.1
    ]

all_plain : AllByRecursion IsPlain plain_bases
all_plain = (tt, (tt, (tt, (tt, (tt, (tt, (tt, (tt, tt))))))))

pub record TakesBase (text : List ℕ) (x : Base × List ℕ) : Type 0 where
  pub parts : text ≡ base_text x.0 ++ x.1
  pub is_base : IsBase x.0

class_base : (letter : ℕ) (text : List ℕ) (x : Base × List ℕ) → letter ≡ 76 → (class_at text >>= λ name. Some (BaseClass name.0, name.1)) ≡ Some x → TakesBase (letter ∷ text) x
class_base letter text x is e =
    bind_some (class_at text) _ x e (λ name at_name e_x.
    let t = class_taken text name at_name in
    let parts : letter ∷ text ≡ base_text (BaseClass name.0) ++ name.1 = ap (λ (l : ℕ). l ∷ text) is ∙ ap (λ (rest : List ℕ). 76 ∷ rest) (t.parts ∙ sym (append_assoc name.0 (59 ∷ []) name.1)) in
    subst (TakesBase (letter ∷ text)) (some_is (BaseClass name.0, name.1) x e_x) (record { parts = parts; is_base = t.is_name }))

letter_base : (letter : ℕ) (text : List ℕ) (x : Base × List ℕ) → (plain_base letter >>= λ base. Some (base, text)) ≡ Some x → TakesBase (letter ∷ text) x
letter_base letter text x e =
    bind_some (plain_base letter) _ x e (λ base at_base e_x.
    let t = among_taken plain_bases letter base all_plain at_base in
    subst (TakesBase (letter ∷ text)) (some_is (base, text) x e_x) (record { parts = ap (λ (prefix : List ℕ). prefix ++ text) (sym t.text_is); is_base = t.is_base }))

pub base_taken : (text : List ℕ) (x : Base × List ℕ) → base_at text ≡ Some x → TakesBase text x
unfolding base_at
base_taken [] x e = absurd (no_some x e)
base_taken (letter ∷ text) x e =
    elim (chosen (eqb letter 76) _ _ (some x) e) [
      | inl is ↦ class_base letter text x (eqb-true _ _ is.0) is.1
      | inr not ↦ letter_base letter text x not.1
    ]

pub base_read : (base : Base) (rest : List ℕ) → IsBase base → base_at (base_text base ++ rest) ≡ Some (base, rest)
unfolding base_at
base_read BaseByte rest is = refl
base_read BaseChar rest is = refl
base_read BaseDouble rest is = refl
base_read BaseFloat rest is = refl
base_read BaseInt rest is = refl
base_read BaseLong rest is = refl
base_read BaseShort rest is = refl
base_read BaseBoolean rest is = refl
base_read (BaseClass name) rest is = then_some _ _ (ap class_at (append_assoc name (59 ∷ []) rest) ∙ class_read name rest is) refl

-- ---- brackets

pub brackets_prefix : (text : List ℕ) → text ≡ replicate (brackets text) 91 ++ drop (brackets text) text
unfolding brackets
brackets_prefix [] = refl
brackets_prefix (letter ∷ text) =
    elim (cases_Bool (eqb letter 91)) [
      | inl is ↦ rw is (ap (λ (l : ℕ). l ∷ text) (eqb-true _ _ is) ∙ ap (λ (t : List ℕ). 91 ∷ t) (brackets_prefix text))
      | inr not ↦ rw not refl
    ]

brackets_read : (n : ℕ) (rest : List ℕ) → brackets rest ≡ 0 → brackets (replicate n 91 ++ rest) ≡ n
unfolding brackets
brackets_read zero rest none = none
brackets_read (suc n) rest none = ap suc (brackets_read n rest none)

no_brackets : (base : Base) (rest : List ℕ) → brackets (base_text base ++ rest) ≡ 0
unfolding brackets
no_brackets BaseByte rest = refl
no_brackets BaseChar rest = refl
no_brackets BaseDouble rest = refl
no_brackets BaseFloat rest = refl
no_brackets BaseInt rest = refl
no_brackets BaseLong rest = refl
no_brackets BaseShort rest = refl
no_brackets BaseBoolean rest = refl
no_brackets (BaseClass name) rest = refl

-- ---- a base with dimensions

-- a type is its dimensions and its base
record IsWith (dims : ℕ) (base : Base) (kind : Kind) : Type 0 where
  base_is : base_of kind ≡ base
  dims_are : dims_of kind ≡ dims
  has_dims : HasDims kind

plain_with : (base : Base) → IsWith 0 base (plain_kind base)
plain_with BaseByte = record { base_is = refl; dims_are = refl; has_dims = tt }
plain_with BaseChar = record { base_is = refl; dims_are = refl; has_dims = tt }
plain_with BaseDouble = record { base_is = refl; dims_are = refl; has_dims = tt }
plain_with BaseFloat = record { base_is = refl; dims_are = refl; has_dims = tt }
plain_with BaseInt = record { base_is = refl; dims_are = refl; has_dims = tt }
plain_with BaseLong = record { base_is = refl; dims_are = refl; has_dims = tt }
plain_with BaseShort = record { base_is = refl; dims_are = refl; has_dims = tt }
plain_with BaseBoolean = record { base_is = refl; dims_are = refl; has_dims = tt }
plain_with (BaseClass name) = record { base_is = refl; dims_are = refl; has_dims = tt }

is_with : (dims : ℕ) (base : Base) → dims ≤ 255 → IsWith dims base (kind_with dims base)
is_with dims base le =
    elim (cases_Bool (eqb dims 0)) [
      | inl none ↦
          let is : dims ≡ 0 = eqb-true _ _ none in
          let same : kind_with dims base ≡ plain_kind base = ap (λ (b : Bool). cond b (plain_kind base) (Array dims base)) none in
          subst (IsWith dims base) (sym same) (subst (λ (n : ℕ). IsWith n base (plain_kind base)) (sym is) (plain_with base))
      | inr some_dims ↦
          let not : dims ≡ 0 → ⊥ = eqb-false dims 0 some_dims in
          let same : kind_with dims base ≡ Array dims base = ap (λ (b : Bool). cond b (plain_kind base) (Array dims base)) some_dims in
          subst (IsWith dims base) (sym same) (record { base_is = refl; dims_are = refl; has_dims = (omega (arith, not), le) })
    ]

with_again : (kind : Kind) → HasDims kind → kind_with (dims_of kind) (base_of kind) ≡ kind
with_again Byte has = refl
with_again Char has = refl
with_again Double has = refl
with_again Float has = refl
with_again Int has = refl
with_again Long has = refl
with_again Short has = refl
with_again Boolean has = refl
with_again (Class name) has = refl
with_again (Array dims of) has = ap (λ (b : Bool). cond b (plain_kind of) (Array dims of)) (ne_eqb dims 0 (λ e. omega (arith, has.0, e)))

few_dims : (kind : Kind) → HasDims kind → dims_of kind ≤ 255
few_dims Byte has = omega arith
few_dims Char has = omega arith
few_dims Double has = omega arith
few_dims Float has = omega arith
few_dims Int has = omega arith
few_dims Long has = omega arith
few_dims Short has = omega arith
few_dims Boolean has = omega arith
few_dims (Class name) has = omega arith
few_dims (Array dims of) has = has.1

-- ---- types

pub record TakesKind (text : List ℕ) (x : Kind × List ℕ) : Type 0 where
  pub parts : text ≡ kind_text x.0 ++ x.1
  pub is_kind : IsKind x.0

kind_made : (text : List ℕ) (base : Base × List ℕ) → brackets text ≤ 255 → TakesBase (drop (brackets text) text) base → TakesKind text (kind_with (brackets text) base.0, base.1)
kind_made text base le t =
    let dims = brackets text in
    let w = is_with dims base.0 le in
    let encoded : kind_text (kind_with dims base.0) ≡ replicate dims 91 ++ base_text base.0 = ap (λ (n : ℕ). replicate n 91 ++ base_text (base_of (kind_with dims base.0))) w.dims_are ∙ ap (λ (b : Base). replicate dims 91 ++ base_text b) w.base_is in
    let whole : text ≡ kind_text (kind_with dims base.0) ++ base.1 = brackets_prefix text ∙ ap (λ (rest : List ℕ). replicate dims 91 ++ rest) t.parts ∙ sym (append_assoc (replicate dims 91) (base_text base.0) base.1) ∙ ap (λ (prefix : List ℕ). prefix ++ base.1) (sym encoded) in
    record { parts = whole; is_kind = (w.has_dims, subst IsBase (sym w.base_is) t.is_base) }

abbrev with_base : ℕ → List ℕ → Option (Kind × List ℕ)
with_base dims text = base_at text >>= λ base. Some (kind_with dims base.0, base.1)

abbrev no_kind : Option (Kind × List ℕ)
no_kind = None

pub kind_taken : (text : List ℕ) (x : Kind × List ℕ) → kind_at text ≡ Some x → TakesKind text x
unfolding kind_at
kind_taken text x e =
    elim (chosen (ltb 255 (brackets text)) no_kind (with_base (brackets text) (drop (brackets text) text)) (some x) e) [
      | inl many ↦ absurd (no_some x many.1)
      | inr few ↦
          bind_some (base_at (drop (brackets text) text)) _ x few.1 (λ base at_base e_x.
          let t = base_taken (drop (brackets text) text) base at_base in
          subst (TakesKind text) (some_is (kind_with (brackets text) base.0, base.1) x e_x) (kind_made text base (ltb-false _ _ few.0) t))
    ]

pub kind_read : (kind : Kind) (rest : List ℕ) → IsKind kind → kind_at (kind_text kind ++ rest) ≡ Some (kind, rest)
unfolding kind_at
kind_read kind rest is =
    let dims = dims_of kind in
    let base = base_of kind in
    let tail : List ℕ = base_text base ++ rest in
    let text : List ℕ = replicate dims 91 ++ tail in
    let count : brackets text ≡ dims = brackets_read dims tail (no_brackets base rest) in
    let suffix : drop dims text ≡ tail = drop_at (replicate dims 91) tail dims (length-replicate {A = ℕ} dims 91) in
    let few : ltb 255 dims ≡ false = le-ltb 255 dims (few_dims kind is.0) in
    let by_count : kind_at text ≡ cond (ltb 255 dims) no_kind (with_base dims (drop dims text)) = ap (λ (n : ℕ). cond (ltb 255 n) no_kind (with_base n (drop n text))) count in
    let by_test : cond (ltb 255 dims) no_kind (with_base dims (drop dims text)) ≡ with_base dims tail = ap (λ (b : Bool). cond b no_kind (with_base dims (drop dims text))) few ∙ ap (with_base dims) suffix in
    ap kind_at (append_assoc (replicate dims 91) (base_text base) rest) ∙ by_count ∙ by_test
    ∙ then_some _ _ (base_read base rest is.1) (ap (λ (k : Kind). some (k, rest)) (with_again kind is.0))

-- ---- fields

abbrev no_field : Option Kind
no_field = None

pub field_taken : (text : List ℕ) (kind : Kind) → field_of text ≡ Some kind → IsFieldText text kind
unfolding field_of
field_taken text kind e =
    bind_some (kind_at text) _ kind e (λ x at_x e_kind.
    elim (chosen (eqb (length x.1) 0) (some x.0) no_field (some kind) e_kind) [
      | inl done ↦
          let t = kind_taken text x at_x in
          let none : x.1 ≡ [] = nil_from_length x.1 (eqb-true _ _ done.0) in
          let same : x.0 ≡ kind = some_is x.0 kind done.1 in
          let whole : text ≡ kind_text x.0 = t.parts ∙ ap (λ (rest : List ℕ). kind_text x.0 ++ rest) none ∙ append-nil (kind_text x.0) in
          subst (IsFieldText text) same (t.is_kind, whole)
      | inr more ↦ absurd (no_some kind more.1)
    ])

pub field_read : (text : List ℕ) (kind : Kind) → IsFieldText text kind → field_of text ≡ Some kind
unfolding field_of
field_read text kind is =
    let read : kind_at text ≡ Some (kind, []) = ap kind_at (is.1 ∙ sym (append-nil (kind_text kind))) ∙ kind_read kind [] is.0 in
    then_some _ _ read refl
