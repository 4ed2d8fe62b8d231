-- A class name is read up to its `;`, and what is read is one.
use Rattle.std.proofs.Common.{◌≡◌, ◌≢◌, ◌⊎◌, ℕ, suc, ◌+◌, Bool, true, false, cond, not, eqb, List, [], ◌∷◌, ◌++◌, length, take, drop, Option, Some, None, option_map, refl, sym, ap, subst, ◌∙◌, append_assoc, arith, inl, inr, length-append}
use Rattle.std.specs.Prelude.{IsTrue}
use Rattle.std.specs.List.{AllByRecursion}
use Rattle.std.proofs.lemmas.Bool.{cases_Bool, and_parts, not-true, eqb-true, eqb-false}
use Rattle.std.proofs.lemmas.List.{take_at, drop_at}
use Rattle.std.proofs.lemmas.List.Concat.{flat_map-cons}
use Rattle.class_pool.specs.Descriptors.{is_part_byte, IsPart, other_parts, IsClassName}
use Rattle.class_pool.specs.DescriptorReading.{after_byte, name_size, split_name, class_at}
use Rattle.byte_read.proofs.Steps.{both, pair, true_false}
use Rattle.class_pool.proofs.descriptors.Scans.{with_byte, name_step, name_stop}

abbrev pub some : {A : Type 0} → A → Option A
some x = Some x

pub some_is : {A : Type 0} (x y : A) → some x ≡ some y → x ≡ y
some_is x y e = cc

pub no_some : {A : Type 0} (x : A) → None ≡ some x → ⊥
no_some x e = cc

-- ---- bytes of a name

-- what may follow, after a byte of a name
part_goes : (begins : Bool) (byte : ℕ) → is_part_byte byte ≡ true → after_byte begins byte ≡ Some false
part_goes begins byte e =
    let p = and_parts (not (eqb byte 46)) _ e in
    let q = and_parts (not (eqb byte 47)) _ p.1 in
    let slash : eqb byte 47 ≡ false = not-true (eqb byte 47) q.0 in
    ap (λ (b : Bool). cond b (cond begins None (Some true)) (cond (is_part_byte byte) (Some false) None)) slash ∙ ap (λ (b : Bool). cond b (some false) None) e

after_end : (begins : Bool) → after_byte begins 59 ≡ None
after_end begins = refl

not_end : (begins next : Bool) (byte : ℕ) → after_byte begins byte ≡ Some next → byte ≢ 59
not_end begins next byte e is = absurd (no_some next (sym (after_end begins) ∙ ap (after_byte begins) (sym is) ∙ e))

-- a byte of a name is a `/` after a part, or a byte of a part
slash_cases : (begins next : Bool) → cond begins None (some true) ≡ Some next → (begins ≡ false) × (next ≡ true)
slash_cases true next e = absurd (no_some next e)
slash_cases false next e = (refl, sym (some_is true next e))

part_cases : (is next : Bool) → cond is (some false) None ≡ Some next → (is ≡ true) × (next ≡ false)
part_cases true next e = (refl, sym (some_is false next e))
part_cases false next e = absurd (no_some next e)

byte_cases : (begins next : Bool) (byte : ℕ) → after_byte begins byte ≡ Some next → ((byte ≡ 47) × (begins ≡ false) × (next ≡ true)) ⊎ ((is_part_byte byte ≡ true) × (next ≡ false))
byte_cases begins next byte e =
    elim (cases_Bool (eqb byte 47)) [
      | inl slash ↦
          let p = slash_cases begins next (sym (ap (λ (b : Bool). cond b (cond begins None (some true)) (cond (is_part_byte byte) (some false) None)) slash) ∙ e) in
          inl (eqb-true _ _ slash, p.0, p.1)
      | inr other ↦ inr (part_cases (is_part_byte byte) next (sym (ap (λ (b : Bool). cond b (cond begins None (some true)) (cond (is_part_byte byte) (some false) None)) other) ∙ e))
    ]

-- ---- the rest of a name

-- the bytes go on a name, where a part begins or has begun
abbrev NameRest : Bool → List ℕ → Type 0
NameRest begins [] = begins ≡ false
NameRest begins (byte ∷ name) = (next : Bool) × (after_byte begins byte ≡ Some next) × NameRest next name

size_read : (begins : Bool) (name rest : List ℕ) → NameRest begins name → name_size begins (name ++ 59 ∷ rest) ≡ Some (length name)
size_read begins [] rest e = name_stop begins 59 rest refl ∙ ap (λ (b : Bool). cond b None (some 0)) e
size_read begins (byte ∷ name) rest go =
    name_step begins byte (name ++ 59 ∷ rest) (not_end begins go.0 byte go.1)
    ∙ ap (λ (n : Option Bool). with_byte n (name ++ 59 ∷ rest)) go.1
    ∙ ap (option_map suc) (size_read go.0 name rest go.2)

-- a name of this size was found
record Sized (begins : Bool) (text : List ℕ) (size : ℕ) : Type 0 where
  name : List ℕ
  rest : List ℕ
  parts : text ≡ name ++ 59 ∷ rest
  size_is : length name ≡ size
  goes : NameRest begins name

stopped : (begins : Bool) (byte size : ℕ) (text : List ℕ) → byte ≡ 59 → cond begins None (some 0) ≡ Some size → Sized begins (byte ∷ text) size
stopped true byte size text is e = absurd (no_some size e)
stopped false byte size text is e = record { name = []; rest = text; parts = ap (λ (b : ℕ). b ∷ text) is; size_is = some_is 0 size e; goes = refl }

-- the size of the rest, where there is one
suc_of : (found : Option ℕ) (size : ℕ) → option_map suc found ≡ Some size → (n : ℕ) × (found ≡ Some n) × (suc n ≡ size)
suc_of None size e = absurd (no_some size e)
suc_of (Some n) size e = (n, refl, some_is (suc n) size e)

next_of : (next : Option Bool) (text : List ℕ) (size : ℕ) → with_byte next text ≡ Some size → (begins : Bool) × (n : ℕ) × (next ≡ Some begins) × (name_size begins text ≡ Some n) × (suc n ≡ size)
next_of None text size e = absurd (no_some size e)
next_of (Some begins) text size e =
    let s = suc_of (name_size begins text) size e in
    (begins, s.0, refl, s.1, s.2)

size_taken : (begins : Bool) (text : List ℕ) (size : ℕ) → name_size begins text ≡ Some size → Sized begins text size
unfolding name_size
size_taken begins [] size e = absurd (no_some size e)
size_taken begins (byte ∷ text) size e =
    elim (cases_Bool (eqb byte 59)) [
      | inl end ↦
          let is : byte ≡ 59 = eqb-true _ _ end in
          stopped begins byte size text is (sym (name_stop begins byte text is) ∙ e)
      | inr other ↦
          let step = name_step begins byte text (eqb-false byte 59 other) in
          let n = next_of (after_byte begins byte) text size (sym step ∙ e) in
          let more = size_taken n.0 text n.1 n.3 in
          record { name = byte ∷ more.name; rest = more.rest; parts = ap (λ (t : List ℕ). byte ∷ t) more.parts; size_is = ap suc more.size_is ∙ n.4; goes = (n.0, n.2, more.goes) }
    ]

-- ---- parts

abbrev ArePartBytes : List ℕ → Type 0
ArePartBytes part = AllByRecursion (λ byte. IsTrue (is_part_byte byte)) part

-- the end of a part, and other parts
record Split (begins : Bool) (name : List ℕ) : Type 0 where
  tail : List ℕ
  others : List (List ℕ)
  tail_is : ArePartBytes tail
  begun : begins ≡ true → tail ≢ []
  others_are : AllByRecursion IsPart others
  encoded : name ≡ tail ++ other_parts others

whole_part : (byte : ℕ) (tail : List ℕ) → byte ∷ tail ≢ []
whole_part byte tail e = cc

slash_prefix : (byte : ℕ) (name : List ℕ) → byte ≡ 47 → Split true name → Split false (byte ∷ name)
slash_prefix byte name is s =
    let whole : byte ∷ name ≡ other_parts (s.tail ∷ s.others) = ap (λ (b : ℕ). b ∷ name) is ∙ ap (λ (t : List ℕ). 47 ∷ t) s.encoded ∙ sym (flat_map-cons (λ (part : List ℕ). 47 ∷ part) s.tail s.others) in
    record { tail = []; others = s.tail ∷ s.others; tail_is = tt; begun = λ e. absurd cc; others_are = ((s.begun refl, s.tail_is), s.others_are); encoded = whole }

part_prefix : (begins : Bool) (byte : ℕ) (name : List ℕ) → is_part_byte byte ≡ true → Split false name → Split begins (byte ∷ name)
part_prefix begins byte name is s = record { tail = byte ∷ s.tail; others = s.others; tail_is = (is, s.tail_is); begun = λ e. whole_part byte s.tail; others_are = s.others_are; encoded = ap (λ (t : List ℕ). byte ∷ t) s.encoded }

split : (begins : Bool) (name : List ℕ) → NameRest begins name → Split begins name
split begins [] e = record { tail = []; others = []; tail_is = tt; begun = λ is. absurd (true_false (sym is ∙ e)); others_are = tt; encoded = refl }
split begins (byte ∷ name) go =
    elim (byte_cases begins go.0 byte go.1) [
      | inl slash ↦ subst (λ (b : Bool). Split b (byte ∷ name)) (sym slash.1) (slash_prefix byte name slash.0 (subst (λ (b : Bool). Split b name) slash.2 (split go.0 name go.2)))
      | inr part ↦ part_prefix begins byte name part.0 (subst (λ (b : Bool). Split b name) part.1 (split go.0 name go.2))
    ]

unsplit : (begins : Bool) (tail : List ℕ) (others : List (List ℕ)) → ArePartBytes tail → (begins ≡ true → tail ≢ []) → AllByRecursion IsPart others → NameRest begins (tail ++ other_parts others)
unsplit true [] others tail_is begun others_are = absurd (begun refl refl)
unsplit false [] [] tail_is begun others_are = refl
unsplit false [] (part ∷ others) tail_is begun others_are =
    subst (NameRest false) (sym (flat_map-cons (λ (p : List ℕ). 47 ∷ p) part others)) (true, refl, unsplit true part others others_are.0.1 (λ e. others_are.0.0) others_are.1)
unsplit begins (byte ∷ tail) others tail_is begun others_are =
    (false, part_goes begins byte tail_is.0, unsplit false tail others tail_is.1 (λ e. absurd cc) others_are)

-- ---- class names

to_name : (name : List ℕ) → NameRest true name → IsClassName name
to_name name go =
    let s = split true name go in
    record { first = s.tail; others = s.others; first_is = (s.begun refl, s.tail_is); others_are = s.others_are; encoded = s.encoded }

from_name : (name : List ℕ) → IsClassName name → NameRest true name
from_name name is = subst (NameRest true) (sym is.encoded) (unsplit true is.first is.others is.first_is.1 (λ e. is.first_is.0) is.others_are)

pub class_read : (name rest : List ℕ) → IsClassName name → class_at (name ++ 59 ∷ rest) ≡ Some (name, rest)
unfolding class_at
class_read name rest is =
    let text : List ℕ = name ++ 59 ∷ rest in
    let size = size_read true name rest (from_name name is) in
    let suffix : drop (length name + 1) text ≡ rest = ap (drop (length name + 1)) (sym (append_assoc name (59 ∷ []) rest)) ∙ drop_at (name ++ 59 ∷ []) rest (length name + 1) (omega (arith, length-append name (59 ∷ []))) in
    ap (option_map (split_name text)) size ∙ ap some (both (take_at name (59 ∷ rest) (length name) refl) suffix)

pub record TakesName (text : List ℕ) (x : List ℕ × List ℕ) : Type 0 where
  pub parts : text ≡ x.0 ++ 59 ∷ x.1
  pub is_name : IsClassName x.0

map_is : {A B : Type 0} (f : A → B) (found : Option A) (y : B) → option_map f found ≡ Some y → (x : A) × (found ≡ Some x) × (f x ≡ y)
map_is f None y e = absurd (no_some y e)
map_is f (Some x) y e = (x, refl, some_is (f x) y e)

pub class_taken : (text : List ℕ) (x : List ℕ × List ℕ) → class_at text ≡ Some x → TakesName text x
unfolding class_at
class_taken text x e =
    let m = map_is (split_name text) (name_size true text) x e in
    let s = size_taken true text m.0 m.1 in
    let suffix : drop (m.0 + 1) text ≡ s.rest = ap (drop (m.0 + 1)) (s.parts ∙ sym (append_assoc s.name (59 ∷ []) s.rest)) ∙ drop_at (s.name ++ 59 ∷ []) s.rest (m.0 + 1) (omega (arith, length-append s.name (59 ∷ []), s.size_is)) in
    let prefix : take m.0 text ≡ s.name = ap (take m.0) s.parts ∙ take_at s.name (59 ∷ s.rest) m.0 s.size_is in
    let same : pair s.name s.rest ≡ x = sym (both prefix suffix) ∙ m.2 in
    subst (TakesName text) same (record { parts = s.parts; is_name = to_name s.name s.goes })
