-- Members by the positions of their names and descriptors among texts.
use Rattle.std.proofs.Common.{◌≡◌, ℕ, ◌+◌, ◌<◌, ◌≤◌, Bool, true, false, not, ◌||◌, ◌&&◌, nat_eq, nat_lt, cond, List, [], ◌∷◌, ◌++◌, map, length, get_or, take, Some, None, position, refl, sym, ap, subst, ◌∙◌, arith, eq-eqb}
use Rattle.std.specs.List.{list_any, position_or_len, AllByRecursion}
use Rattle.std.specs.Str.{bytes_eq}
use Rattle.std.proofs.lemmas.Bool.{lt-ltb, eqb-true}
use Rattle.std.proofs.lemmas.List.{map-append}
use Rattle.std.proofs.lemmas.List.Quantifiers.{position-Some}
use Rattle.std.proofs.lemmas.Slice.Eq.{bytes_eq-Decides}
use Rattle.class_pool.specs.Pool.{Slots}
use Rattle.class_file.specs.declared.record.Member.{Member}
use Rattle.class_tree.specs.declared.member_index.Key.{Key}
use Rattle.class_tree.specs.Members.{Declaration, in_file, is_called}
use Rattle.class_tree.specs.MemberIndex.{IsAmong, key_of, member_key, IsIndexOf}
use Rattle.class_tree.proofs.ancestors.Leading.{or_left, or_right}
use Rattle.class_tree.proofs.lookups.Climbing.{all_map, all_append}
use Rattle.class_tree.proofs.tables.Finding.{position_map}
use Rattle.class_tree.proofs.tables.Scans.{taken}

-- ---- positions

module _ {X : Type 0} (p : X → Bool) where
  pub at_most : (xs : List X) → position_or_len p xs ≤ length xs
  at_most [] = omega arith
  at_most (x ∷ xs) = by (p x) (at_most xs)
    where
      by : (b : Bool) → position_or_len p xs ≤ length xs → cond (not b) (1 + position_or_len p xs) 0 ≤ length (x ∷ xs)
      by true rest = omega arith
      by false rest = omega (arith, rest)

  any_within : (xs : List X) → list_any p xs ≡ true → position_or_len p xs < length xs
  any_within [] e = cc
  any_within (x ∷ xs) e = by (p x) (any_within xs) e
    where
      by : (b : Bool) → (list_any p xs ≡ true → position_or_len p xs < length xs) → (b || list_any p xs) ≡ true → cond (not b) (1 + position_or_len p xs) 0 < length (x ∷ xs)
      by true rest h = omega arith
      by false rest h = omega (arith, rest h)

  passes_there : (xs : List X) (d : X) → position_or_len p xs < length xs → p (get_or xs (position_or_len p xs) d) ≡ true
  passes_there xs d lt = (position-Some p xs (position_or_len p xs) d (ap (λ b. cond b (Some (position_or_len p xs)) None) (lt-ltb (position_or_len p xs) (length xs) lt))).1

  some_case : (b : Bool) (m n : ℕ) → cond b (Some m) None ≡ Some n → n ≡ m
  some_case true m n e = cc
  some_case false m n e = cc

  pub some_first : (xs : List X) (n : ℕ) → position p xs ≡ Some n → n ≡ position_or_len p xs
  some_first xs n e = some_case (nat_lt (position_or_len p xs) (length xs)) (position_or_len p xs) n e

  none_case : (m n : ℕ) (b : Bool) → nat_lt m n ≡ b → m ≤ n → cond b (Some m) None ≡ None → n ≡ m
  none_case m n true is le e = cc
  none_case m n false is le e = let not_less : (m < n → ⊥) = λ lt. (let f : true ≡ false = sym (lt-ltb m n lt) ∙ is in cc) in omega (arith, not_less, le)

  pub none_first : (xs : List X) → position p xs ≡ None → length xs ≡ position_or_len p xs
  none_first xs e = none_case (position_or_len p xs) (length xs) (nat_lt (position_or_len p xs) (length xs)) refl (at_most xs) e

same_first : {X : Type 0} (p q : X → Bool) (xs : List X) → AllByRecursion (λ x. p x ≡ q x) xs → position_or_len p xs ≡ position_or_len q xs
same_first p q [] all = refl
same_first p q (x ∷ xs) all = ap (λ b. cond (not b) (1 + position_or_len p xs) 0) all.0 ∙ ap (λ n. cond (not (q x)) (1 + n) 0) (same_first p q xs all.1)

same_position : {X : Type 0} (p q : X → Bool) (xs : List X) → AllByRecursion (λ x. p x ≡ q x) xs → position p xs ≡ position q xs
same_position p q xs all = ap (λ n. cond (nat_lt n (length xs)) (Some n) None) (same_first p q xs all)

-- ---- texts

same_bool : (p q : Bool) → (p ≡ true → q ≡ true) → (q ≡ true → p ≡ true) → p ≡ q
same_bool true true h k = refl
same_bool false false h k = refl
same_bool true false h k = sym (h refl)
same_bool false true h k = k refl

-- a text and one that is among them are the same where their positions are
same_text : (texts : List (List ℕ)) (a b : List ℕ) → list_any (bytes_eq b) texts ≡ true → nat_eq (position_or_len (bytes_eq a) texts) (position_or_len (bytes_eq b) texts) ≡ bytes_eq a b
same_text texts a b among =
    let at_a = position_or_len (bytes_eq a) texts in
    let at_b = position_or_len (bytes_eq b) texts in
    let within = any_within (bytes_eq b) texts among in
    same_bool (nat_eq at_a at_b) (bytes_eq a b)
    (λ e.
    let same : at_a ≡ at_b = eqb-true at_a at_b e in
    let first : a ≡ get_or texts at_a [] = (bytes_eq-Decides a (get_or texts at_a [])).0 (passes_there (bytes_eq a) texts [] (omega (arith, same, within))) in
    let second : b ≡ get_or texts at_b [] = (bytes_eq-Decides b (get_or texts at_b [])).0 (passes_there (bytes_eq b) texts [] within) in
    (bytes_eq-Decides a b).1 (first ∙ ap (λ n. get_or texts n []) same ∙ sym second))
    (λ e. eq-eqb at_a at_b (ap (λ (t : List ℕ). position_or_len (bytes_eq t) texts) ((bytes_eq-Decides a b).0 e)))

key_says : (texts : List (List ℕ)) (name descriptor : List ℕ) (member : Declaration) → IsAmong texts member
    → (nat_eq (key_of texts name descriptor).name (member_key texts member).name && nat_eq (key_of texts name descriptor).descriptor (member_key texts member).descriptor) ≡ is_called name descriptor member
key_says texts name descriptor member among =
    ap (λ b. b && nat_eq (key_of texts name descriptor).descriptor (member_key texts member).descriptor) (same_text texts name member.name among.0)
    ∙ ap (λ b. bytes_eq name member.name && b) (same_text texts descriptor member.descriptor among.1)

-- the position of a key is that of the member of its name and descriptor
pub key_position : (texts : List (List ℕ)) (keys : List Key) (members : List Declaration) (name descriptor : List ℕ) → IsIndexOf members texts keys
    → position (λ (key : Key). nat_eq (key_of texts name descriptor).name key.name && nat_eq (key_of texts name descriptor).descriptor key.descriptor) keys ≡ position (is_called name descriptor) members
key_position texts keys members name descriptor index =
    let test : Key → Bool = λ key. nat_eq (key_of texts name descriptor).name key.name && nat_eq (key_of texts name descriptor).descriptor key.descriptor in
    ap (position test) index.keyed ∙ position_map (member_key texts) test members
    ∙ same_position (λ member. test (member_key texts member)) (is_called name descriptor) members
    (all_map (IsAmong texts) (λ member. test (member_key texts member) ≡ is_called name descriptor member) (λ member among. key_says texts name descriptor member among) members index.among)

-- ---- adding texts

abbrev pub with_text : List (List ℕ) → List ℕ → List (List ℕ)
with_text texts text = cond (list_any (bytes_eq text) texts) texts (texts ++ text ∷ [])

any_append : (p : List ℕ → Bool) (xs ys : List (List ℕ)) → list_any p (xs ++ ys) ≡ (list_any p xs || list_any p ys)
any_append p [] ys = refl
any_append p (x ∷ xs) ys = ap (λ b. p x || b) (any_append p xs ys) ∙ assoc (p x) (list_any p xs) (list_any p ys)
  where
    assoc : (a b c : Bool) → (a || (b || c)) ≡ ((a || b) || c)
    assoc true b c = refl
    assoc false b c = refl

kept_text : (p : List ℕ → Bool) (texts : List (List ℕ)) (text : List ℕ) (b : Bool) → list_any p texts ≡ true → list_any p (cond b texts (texts ++ text ∷ [])) ≡ true
kept_text p texts text true e = e
kept_text p texts text false e = any_append p texts (text ∷ []) ∙ or_left (list_any p texts) (list_any p (text ∷ [])) e

there_now : (texts : List (List ℕ)) (text : List ℕ) (b : Bool) → list_any (bytes_eq text) texts ≡ b → list_any (bytes_eq text) (cond b texts (texts ++ text ∷ [])) ≡ true
there_now texts text true e = e
there_now texts text false e =
    any_append (bytes_eq text) texts (text ∷ [])
    ∙ or_right (list_any (bytes_eq text) texts) (list_any (bytes_eq text) (text ∷ [])) (or_left (bytes_eq text text) false ((bytes_eq-Decides text text).1 refl))

keeps : (texts : List (List ℕ)) (text : List ℕ) (other : List ℕ) → list_any (bytes_eq other) texts ≡ true → list_any (bytes_eq other) (with_text texts text) ≡ true
keeps texts text other e = kept_text (bytes_eq other) texts text (list_any (bytes_eq text) texts) e

-- the texts of one member more
pub among_more : (texts : List (List ℕ)) (pool : Slots) (members : List Member) (i : ℕ) (member : Member) → i < length members → member ≡ get_or members i member
    → AllByRecursion (IsAmong texts) (map (in_file pool) (take i members))
    → AllByRecursion (IsAmong (with_text (with_text texts (in_file pool member).name) (in_file pool member).descriptor)) (map (in_file pool) (take (i + 1) members))
among_more texts pool members i member lt is all =
    let m = in_file pool member in
    let first = with_text texts m.name in
    let second = with_text first m.descriptor in
    let P : List Declaration → Type 0 = λ l. AllByRecursion (IsAmong second) l in
    subst P (sym (ap (map (in_file pool)) (taken members i member lt is) ∙ map-append (in_file pool) (take i members) (member ∷ [])))
    (all_append (IsAmong second) (map (in_file pool) (take i members)) (m ∷ [])
    (all_map (IsAmong texts) (IsAmong second)
    (λ other among. (keeps first m.descriptor other.name (keeps texts m.name other.name among.0), keeps first m.descriptor other.descriptor (keeps texts m.name other.descriptor among.1)))
    (map (in_file pool) (take i members)) all)
    ((keeps first m.descriptor m.name (there_now texts m.name (list_any (bytes_eq m.name) texts) refl), there_now first m.descriptor (list_any (bytes_eq m.descriptor) first) refl), tt))
