-- The bodies of a set, class by class.
use Rattle.std.proofs.Common.{◌≡◌, ◌⊎◌, ℕ, zero, suc, ◌+◌, ◌-◌, ◌<◌, ◌≤◌, Bool, true, false, ◌&&◌, nat_eq, cond, inl, inr, List, [], ◌∷◌, ◌++◌, map, filter, length, get_or, slice_get, Option, Some, None, option_and_then, option_map, refl, sym, ap, subst, ◌∙◌, arith}
use Rattle.std.specs.List.{AllByRecursion, flat_map}
use Rattle.std.specs.Option.{option_map_or, option_to_list}
use Rattle.std.proofs.lemmas.Bool.{lt-ltb, le-ltb, cases_lt}
use Rattle.std.proofs.lemmas.Bool.Decides.{Decides-eqb, eqb_tells}
use Rattle.std.proofs.lemmas.List.{map-append, append-nil, append_assoc}
use Rattle.std.proofs.lemmas.List.Elements.{filter-append}
use Rattle.std.proofs.lemmas.List.Folds.{flat_map-map}
use Rattle.std.proofs.lemmas.Grind.{flat_map-append}
use Rattle.library.specs.Classes.{first_own}
use Rattle.class_pool.specs.declared.types.MemberId.{MemberId}
use Rattle.class_file.specs.declared.record.ClassFile.{ClassFile}
use Rattle.class_file.specs.declared.record.Member.{Member}
use Rattle.class_tree.specs.Members.{member_at}
use Rattle.class_tree.proofs.lookups.Climbing.{all_map, all_append}
use Rattle.body_form.specs.declared.body.Body.{Body}
use Rattle.class_tree.proofs.ancestors.Leading.{and_both}
use Rattle.class_code.specs.Code.{Insns, decoded}
use Rattle.class_file.specs.declared.record.CodeAttr.{CodeAttr}
use Rattle.jvm_model.specs.Linking.{is_initialiser}
use Rattle.jvm_model.specs.CodeInsns.{insns_in}
use Rattle.jvm_model.specs.Bodies.{AreEach, Coded, IsBody, AreBodies, coded_of, coded_from, coded_in, coded_methods}
use Rattle.jvm_model.specs.ImageNumbering.{class_order, coded_in_class, method_order, is_body_of, bodies_in_order}
use Rattle.infuse_ids.specs.Orders.{AreByClass, is_of_class, bodies_of_class, method_of_body, methods_over}

-- ---- lists that are filtered

module _ {X : Type 0} (p : X → Bool) where
  pub all_pass : (xs : List X) → AllByRecursion (λ x. p x ≡ true) xs → filter p xs ≡ xs
  all_pass [] all = refl
  all_pass (x ∷ xs) all = ap (λ b. cond b (x ∷ filter p xs) (filter p xs)) all.0 ∙ ap (λ ys. x ∷ ys) (all_pass xs all.1)

  pub none_pass : (xs : List X) → AllByRecursion (λ x. p x ≡ false) xs → filter p xs ≡ []
  none_pass [] all = refl
  none_pass (x ∷ xs) all = ap (λ b. cond b (x ∷ filter p xs) (filter p xs)) all.0 ∙ none_pass xs all.1

mapped_more : {X Y : Type 0} (f : X → Y) (x : X) (ys : List Y) (xs : List X) (b : Bool) → ys ≡ map f xs → cond b (f x ∷ ys) ys ≡ map f (cond b (x ∷ xs) xs)
mapped_more f x ys xs true e = ap (λ zs. f x ∷ zs) e
mapped_more f x ys xs false e = e

pub filter_map_same : {X Y : Type 0} (p : Y → Bool) (f : X → Y) (xs : List X) → filter p (map f xs) ≡ map f (filter (λ (x : X). p (f x)) xs)
filter_map_same p f [] = refl
filter_map_same {X} p f (x ∷ xs) = mapped_more f x (filter p (map f xs)) (filter (λ (y : X). p (f y)) xs) (p (f x)) (filter_map_same p f xs)

pub flat_map_same : {X Y : Type 0} (f g : X → List Y) → ((x : X) → f x ≡ g x) → (xs : List X) → flat_map f xs ≡ flat_map g xs
flat_map_same f g same [] = refl
flat_map_same f g same (x ∷ xs) = ap (λ ys. ys ++ flat_map f xs) (same x) ∙ ap (λ ys. g x ++ ys) (flat_map_same f g same xs)

pub flat_map_twice : {X Y Z : Type 0} (f : X → List Y) (g : Y → List Z) (xs : List X) → flat_map g (flat_map f xs) ≡ flat_map (λ (x : X). flat_map g (f x)) xs
flat_map_twice f g [] = refl
flat_map_twice f g (x ∷ xs) = flat_map-append g (f x) (flat_map f xs) ∙ ap (λ ys. flat_map g (f x) ++ ys) (flat_map_twice f g xs)

not_same : (a b : ℕ) → (a ≡ b → ⊥) → nat_eq a b ≡ false
not_same a b differ = elim (eqb_tells a b) [ inl same ↦ absurd (differ same.1) | inr other ↦ other.0 ]

and_second : (a b : Bool) → b ≡ false → (a && b) ≡ false
and_second true b e = e
and_second false b e = refl

-- ---- methods by class and position

-- a method comes before another one
abbrev pub IsBefore : MemberId → MemberId → Type 0
IsBefore first second = (first.class < second.class) ⊎ ((first.class ≡ second.class) × (first.member < second.member))

-- each method comes before all later ones
unfoldable pub AreRising : List MemberId → Type 0
AreRising [] = Unit {0}
AreRising (m ∷ ms) = AllByRecursion (IsBefore m) ms × AreRising ms

abbrev HaveClass : ℕ → List MemberId → Type 0
HaveClass class ms = AllByRecursion (λ (m : MemberId). m.class ≡ class) ms

abbrev HaveClassFrom : ℕ → List MemberId → Type 0
HaveClassFrom class ms = AllByRecursion (λ (m : MemberId). class ≤ m.class) ms

abbrev HavePositionFrom : ℕ → List MemberId → Type 0
HavePositionFrom position ms = AllByRecursion (λ (m : MemberId). position ≤ m.member) ms

rising_append : (class : ℕ) (ms others : List MemberId) → HaveClass class ms → HaveClassFrom (suc class) others → AreRising ms → AreRising others → AreRising (ms ++ others)
unfolding AreRising
rising_append class [] others own later first second = second
rising_append class (m ∷ ms) others own later first second =
    let here = own.0 in
    (all_append (IsBefore m) ms others first.0 (all_map (λ (n : MemberId). suc class ≤ n.class) (IsBefore m) (λ n le. inl (omega (arith, le, here))) others later), rising_append class ms others own.1 later first.1 second)

-- ---- methods that have code

abbrev method_of_coded : Coded → MemberId
method_of_coded coded = member_at coded.class coded.position

-- the methods of a class from a position on
record IsListed (class position : ℕ) (ms : List MemberId) : Type 0 where
  own : HaveClass class ms
  from : HavePositionFrom position ms
  pub rising : AreRising ms

module _ (class : ℕ) (file : ClassFile) where
  -- what a method is, where it has code
  abbrev IsAt : ℕ → Coded → Type 0
  IsAt position coded = (coded.class ≡ class) × (coded.position ≡ position)

  one_at : (position : ℕ) (method : Member) → AllByRecursion (IsAt position) (option_to_list (coded_of class file position method))
  one_at position method = by (is_initialiser file.pool method)
    where
      by_insns : (code : CodeAttr) (o : Option Insns) → AllByRecursion (IsAt position) (option_to_list (option_map (λ (insns : Insns). record { class = class; file = file; position = position; method = method; code = code; insns = insns }) o))
      by_insns code None = tt
      by_insns code (Some insns) = ((refl, refl), tt)

      by_code : (o : Option CodeAttr) → AllByRecursion (IsAt position) (option_to_list (option_and_then (λ (code : CodeAttr). option_map (λ (insns : Insns). record { class = class; file = file; position = position; method = method; code = code; insns = insns }) (insns_in (decoded code.code))) o))
      by_code None = tt
      by_code (Some code) = by_insns code (insns_in (decoded code.code))

      by : (b : Bool) → AllByRecursion (IsAt position) (option_to_list (cond b None (option_and_then (λ (code : CodeAttr). option_map (λ (insns : Insns). record { class = class; file = file; position = position; method = method; code = code; insns = insns }) (insns_in (decoded code.code))) method.code)))
      by true = tt
      by false = by_code method.code

  behind_all : (m : MemberId) (position : ℕ) → m.class ≡ class → m.member ≡ position → (ms : List MemberId) → HaveClass class ms → HavePositionFrom (suc position) ms → AllByRecursion (IsBefore m) ms
  behind_all m position own here [] all from = tt
  behind_all m position own here (n ∷ ms) all from =
      (inr (own ∙ sym all.0, omega (arith, here, from.0)), behind_all m position own here ms all.1 from.1)

  from_less : (position : ℕ) (ms : List MemberId) → HavePositionFrom (suc position) ms → HavePositionFrom position ms
  from_less position ms all = all_map (λ (m : MemberId). suc position ≤ m.member) (λ (m : MemberId). position ≤ m.member) (λ m le. omega (arith, le)) ms all

  first_listed : (position : ℕ) (o : Option Coded) → AllByRecursion (IsAt position) (option_to_list o) → (ms : List MemberId) → IsListed class (suc position) ms → IsListed class position (map method_of_coded (option_to_list o) ++ ms)
  unfolding AreRising
  first_listed position None all ms listed = record { own = listed.own; from = from_less position ms listed.from; rising = listed.rising }
  first_listed position (Some coded) all ms listed =
      let here = all.0 in
      record {
        own = (here.0, listed.own);
        from = (omega (arith, here.1), from_less position ms listed.from);
        rising = (behind_all (method_of_coded coded) position here.0 here.1 ms listed.own listed.from, listed.rising);
      }

  all_listed : (position : ℕ) (methods : List Member) → IsListed class position (map method_of_coded (coded_from class file position methods))
  unfolding coded_from AreRising
  all_listed position [] = record { own = tt; from = tt; rising = tt }
  all_listed position (method ∷ methods) =
      let first = option_to_list (coded_of class file position method) in
      subst (IsListed class position) (sym (map-append method_of_coded first (coded_from class file (suc position) methods)))
      (first_listed position (coded_of class file position method) (one_at position method) (map method_of_coded (coded_from class file (suc position) methods)) (all_listed (suc position) methods))

  -- the class of each of them
  same_class : (codeds : List Coded) → HaveClass class (map method_of_coded codeds) → map (λ (coded : Coded). member_at class coded.position) codeds ≡ map method_of_coded codeds
  same_class [] all = refl
  same_class (coded ∷ codeds) all =
      ap (λ (n : ℕ). member_at n coded.position ∷ map (λ (c : Coded). member_at class c.position) codeds) (sym all.0)
      ∙ ap (λ ms. method_of_coded coded ∷ ms) (same_class codeds all.1)

-- ---- methods of files

abbrev coded_at : ℕ → Option ClassFile → List Coded
coded_at class o = option_map_or (λ (file : ClassFile). coded_from class file 0 file.methods) o []

abbrev is_in_class : ℕ → MemberId → Bool
is_in_class class m = nat_eq class m.class

abbrev methods_in : ℕ → List ClassFile → List MemberId
methods_in first files = map method_of_coded (coded_in first files)

record AreListed (first : ℕ) (ms : List MemberId) : Type 0 where
  from : HaveClassFrom first ms
  pub rising : AreRising ms

split_files : (first : ℕ) (file : ClassFile) (files : List ClassFile) → methods_in first (file ∷ files) ≡ map method_of_coded (coded_from first file 0 file.methods) ++ methods_in (suc first) files
unfolding coded_in
split_files first file files = map-append method_of_coded (coded_from first file 0 file.methods) (coded_in (suc first) files)

files_listed : (first : ℕ) (files : List ClassFile) → AreListed first (methods_in first files)
unfolding coded_in AreRising
files_listed first [] = record { from = tt; rising = tt }
files_listed first (file ∷ files) =
    let here = all_listed first file 0 file.methods in
    let later = files_listed (suc first) files in
    let mine = map method_of_coded (coded_from first file 0 file.methods) in
    let others = methods_in (suc first) files in
    subst (AreListed first) (sym (split_files first file files)) (record {
      from = all_append (λ (m : MemberId). first ≤ m.class) mine others
          (all_map (λ (m : MemberId). m.class ≡ first) (λ (m : MemberId). first ≤ m.class) (λ m e. omega (arith, e)) mine here.own)
          (all_map (λ (m : MemberId). suc first ≤ m.class) (λ (m : MemberId). first ≤ m.class) (λ m le. omega (arith, le)) others later.from);
      rising = rising_append first mine others here.own later.from here.rising later.rising;
    })

other_class : (class : ℕ) (ms : List MemberId) → AllByRecursion (λ (m : MemberId). class < m.class) ms → filter (is_in_class class) ms ≡ []
other_class class ms all =
    none_pass (is_in_class class) ms
    (all_map (λ (m : MemberId). class < m.class) (λ (m : MemberId). is_in_class class m ≡ false) (λ m lt. not_same class m.class (omega (arith, lt))) ms all)

no_earlier : (class first : ℕ) (files : List ClassFile) → class < first → filter (is_in_class class) (methods_in first files) ≡ []
no_earlier class first files lt =
    other_class class (methods_in first files)
    (all_map (λ (m : MemberId). first ≤ m.class) (λ (m : MemberId). class < m.class) (λ m le. omega (arith, lt, le)) (methods_in first files) (files_listed first files).from)

-- the methods of a class among those of the files
class_found : (first i : ℕ) (files : List ClassFile) → filter (is_in_class (first + i)) (methods_in first files) ≡ map method_of_coded (coded_at (first + i) (slice_get files i))
unfolding coded_in
class_found first i [] = refl
class_found first zero (file ∷ files) =
    let mine = map method_of_coded (coded_from first file 0 file.methods) in
    let others = methods_in (suc first) files in
    let here = all_listed first file 0 file.methods in
    let start : first + 0 ≡ first = omega arith in
    let goal : filter (is_in_class first) (methods_in first (file ∷ files)) ≡ mine =
    ap (filter (is_in_class first)) (split_files first file files) ∙ filter-append (is_in_class first) mine others
    ∙ ap (λ ms. ms ++ filter (is_in_class first) others) (all_pass (is_in_class first) mine
    (all_map (λ (m : MemberId). m.class ≡ first) (λ (m : MemberId). is_in_class first m ≡ true) (λ m e. (Decides-eqb first m.class).1 (sym e)) mine here.own))
    ∙ ap (λ ms. mine ++ ms) (no_earlier first (suc first) files (omega arith))
    ∙ append-nil mine
    in
    ap (λ n. filter (is_in_class n) (methods_in first (file ∷ files))) start ∙ goal ∙ ap (λ n. map method_of_coded (coded_from n file 0 file.methods)) (sym start)
class_found first (suc i) (file ∷ files) =
    let mine = map method_of_coded (coded_from first file 0 file.methods) in
    let others = methods_in (suc first) files in
    let here = all_listed first file 0 file.methods in
    let next : first + suc i ≡ suc first + i = omega arith in
    let class = first + suc i in
    ap (filter (is_in_class class)) (split_files first file files) ∙ filter-append (is_in_class class) mine others
    ∙ ap (λ ms. ms ++ filter (is_in_class class) others) (none_pass (is_in_class class) mine
    (all_map (λ (m : MemberId). m.class ≡ first) (λ (m : MemberId). is_in_class class m ≡ false) (λ m e. not_same class m.class (omega (arith, e))) mine here.own))
    ∙ ap (λ n. filter (is_in_class n) others) next ∙ class_found (suc first) i files ∙ ap (λ n. map method_of_coded (coded_at n (slice_get files i))) (sym next)

-- ---- one body for each method

is_one : (first second : MemberId) → IsBefore first second → (nat_eq first.class second.class && nat_eq first.member second.member) ≡ false
is_one first second (inl less) = ap (λ b. b && nat_eq first.member second.member) (not_same first.class second.class (omega (arith, less)))
is_one first second (inr later) = and_second (nat_eq first.class second.class) (nat_eq first.member second.member) (not_same first.member second.member (omega (arith, later.1)))

pub is_other : (first second : MemberId) → IsBefore first second → (nat_eq second.class first.class && nat_eq second.member first.member) ≡ false
is_other first second (inl less) = ap (λ b. b && nat_eq second.member first.member) (not_same second.class first.class (omega (arith, less)))
is_other first second (inr later) = and_second (nat_eq second.class first.class) (nat_eq second.member first.member) (not_same second.member first.member (omega (arith, later.1)))

abbrev pub methods_of_bodies : List Body → List MemberId
methods_of_bodies bodies = map method_of_body bodies

none_later : (body : Body) (bodies : List Body) → AllByRecursion (IsBefore (method_of_body body)) (methods_of_bodies bodies) → AllByRecursion (λ (other : Body). is_body_of (method_of_body body) other ≡ false) bodies
none_later body [] all = tt
none_later body (other ∷ bodies) all = (is_one (method_of_body body) (method_of_body other) all.0, none_later body bodies all.1)

pub is_ahead : (first : MemberId) (before : List Body) (body : Body) (after : List Body) → AllByRecursion (IsBefore first) (methods_of_bodies (before ++ body ∷ after)) → IsBefore first (method_of_body body)
is_ahead first [] body after all = all.0
is_ahead first (other ∷ before) body after all = is_ahead first before body after all.1

pub is_itself : (body : Body) → is_body_of (method_of_body body) body ≡ true
is_itself body = and_both (nat_eq body.class body.class) (nat_eq body.method body.method) ((Decides-eqb body.class body.class).1 refl) ((Decides-eqb body.method body.method).1 refl)

found_once : (before : List Body) (body : Body) (after : List Body) → AreRising (methods_of_bodies (before ++ body ∷ after)) → filter (is_body_of (method_of_body body)) (before ++ body ∷ after) ≡ body ∷ []
unfolding AreRising
found_once [] body after rising =
    ap (λ b. cond b (body ∷ filter (is_body_of (method_of_body body)) after) (filter (is_body_of (method_of_body body)) after)) (is_itself body)
    ∙ ap (λ ys. body ∷ ys) (none_pass (is_body_of (method_of_body body)) after (none_later body after rising.0))
found_once (other ∷ before) body after rising =
    let is = is_body_of (method_of_body body) in
    let rest = before ++ body ∷ after in
    ap (λ b. cond b (other ∷ filter is rest) (filter is rest)) (is_other (method_of_body other) (method_of_body body) (is_ahead (method_of_body other) before body after rising.0))
    ∙ found_once before body after rising.1

-- the body of each method is itself
abbrev body_found : List Body → Body → List Body
body_found bodies body = filter (is_body_of (method_of_body body)) bodies

all_found : (p : Body → Bool) (before after : List Body) → AreRising (methods_of_bodies (before ++ after)) → flat_map (body_found (before ++ after)) (filter p after) ≡ filter p after
all_found p before [] rising = refl
all_found p before (body ∷ after) rising =
    let whole = before ++ body ∷ after in
    let shift : (before ++ body ∷ []) ++ after ≡ whole = append_assoc before (body ∷ []) after in
    let rest : flat_map (body_found whole) (filter p after) ≡ filter p after =
    ap (λ bodies. flat_map (body_found bodies) (filter p after)) (sym shift)
    ∙ all_found p (before ++ body ∷ []) after (subst (λ bodies. AreRising (methods_of_bodies bodies)) (sym shift) rising)
    in
    by (p body) whole (found_once before body after rising) rest
  where
    by : (b : Bool) (whole : List Body) → body_found whole body ≡ body ∷ [] → flat_map (body_found whole) (filter p after) ≡ filter p after
        → flat_map (body_found whole) (cond b (body ∷ filter p after) (filter p after)) ≡ cond b (body ∷ filter p after) (filter p after)
    by true whole once rest = ap (λ ys. ys ++ flat_map (body_found whole) (filter p after)) once ∙ ap (λ ys. body ∷ ys) rest
    by false whole once rest = rest

-- ---- in the order of their classes

later_class : (m : MemberId) (bodies : List Body) → AllByRecursion (IsBefore m) (methods_of_bodies bodies) → (j : ℕ) (d : Body) → j < length bodies → m.class ≤ (get_or bodies j d).class
later_class m [] all j d lt = absurd (omega (arith, lt))
later_class m (body ∷ bodies) all zero d lt = elim all.0 [ inl less ↦ omega (arith, less) | inr same ↦ omega (arith, same.0) ]
later_class m (body ∷ bodies) all (suc j) d lt = later_class m bodies all.1 j d (omega (arith, lt))

by_class : (bodies : List Body) → AreRising (methods_of_bodies bodies) → (i j : ℕ) (d : Body) → i ≤ j → j < length bodies → (get_or bodies i d).class ≤ (get_or bodies j d).class
unfolding AreRising
by_class [] rising i j d le lt = absurd (omega (arith, lt))
by_class (body ∷ bodies) rising zero zero d le lt = omega arith
by_class (body ∷ bodies) rising zero (suc j) d le lt = later_class (method_of_body body) bodies rising.0 j d (omega (arith, lt))
by_class (body ∷ bodies) rising (suc i) zero d le lt = absurd (omega (arith, le))
by_class (body ∷ bodies) rising (suc i) (suc j) d le lt = by_class bodies rising.1 i j d (omega (arith, le)) (omega (arith, lt))

-- ---- the bodies of a set

same_methods : (files : List ClassFile) (codeds : List Coded) (bodies : List Body) → AreEach (IsBody files) codeds bodies → map method_of_coded codeds ≡ methods_of_bodies bodies
same_methods files [] [] are = refl
same_methods files [] (body ∷ bodies) are = absurd are
same_methods files (coded ∷ codeds) [] are = absurd are
same_methods files (coded ∷ codeds) (body ∷ bodies) are =
    let class = are.0.class in
    let method = are.0.method in
    ap (λ (n : ℕ). member_at n coded.position ∷ map method_of_coded codeds) (sym class)
    ∙ ap (λ (n : ℕ). member_at body.class n ∷ map method_of_coded codeds) (sym method)
    ∙ ap (λ ms. method_of_body body ∷ ms) (same_methods files codeds bodies are.1)

module _ (files : List ClassFile) (bodies : List Body) (are : AreBodies files bodies) where
  same : methods_in first_own files ≡ methods_of_bodies bodies
  same = same_methods files (coded_methods files) bodies are

  pub rising : AreRising (methods_of_bodies bodies)
  rising = subst AreRising same (files_listed first_own files).rising

  -- their classes are those of the files
  pub own_classes : AllByRecursion (λ (m : MemberId). first_own ≤ m.class) (methods_of_bodies bodies)
  own_classes = subst (HaveClassFrom first_own) same (files_listed first_own files).from

  pub are_by_class : AreByClass bodies
  are_by_class = by_class bodies rising

  in_class : (class : ℕ) → filter (is_in_class class) (methods_in first_own files) ≡ map method_of_body (bodies_of_class bodies class)
  in_class class = ap (filter (is_in_class class)) same ∙ filter_map_same (is_in_class class) method_of_body bodies

  class_own : (class : ℕ) → first_own ≤ class → (o : Option ClassFile) → slice_get files (class - first_own) ≡ o
      → map (λ (coded : Coded). member_at class coded.position) (coded_at class o) ≡ map method_of_body (bodies_of_class bodies class)
  class_own class own o is =
      let same_number : first_own + (class - first_own) ≡ class = omega (arith, own) in
      with_file o
      ∙ ap (λ (f : Option ClassFile). map method_of_coded (coded_at class f)) (sym is)
      ∙ ap (λ n. map method_of_coded (coded_at n (slice_get files (class - first_own)))) (sym same_number)
      ∙ sym (class_found first_own (class - first_own) files)
      ∙ ap (λ n. filter (is_in_class n) (methods_in first_own files)) same_number
      ∙ in_class class
    where
      with_file : (f : Option ClassFile) → map (λ (coded : Coded). member_at class coded.position) (coded_at class f) ≡ map method_of_coded (coded_at class f)
      with_file None = refl
      with_file (Some file) = same_class class file (coded_from class file 0 file.methods) (all_listed class file 0 file.methods).own

  class_methods : (class : ℕ) → map (λ (coded : Coded). member_at class coded.position) (coded_in_class files class) ≡ map method_of_body (bodies_of_class bodies class)
  class_methods class =
      let methods : Option ClassFile → List MemberId = λ f. map (λ (coded : Coded). member_at class coded.position) (coded_at class f) in
      elim (cases_lt class first_own) [
        | inl library ↦
            ap (λ b. methods (cond b None (slice_get files (class - first_own)))) (lt-ltb class first_own library)
            ∙ sym (no_earlier class first_own files library) ∙ in_class class
        | inr own ↦
            ap (λ b. methods (cond b None (slice_get files (class - first_own)))) (le-ltb class first_own own)
            ∙ class_own class own (slice_get files (class - first_own)) refl
      ]

  pub methods_right : method_order files ≡ methods_over (class_order files) bodies
  methods_right = flat_map_same (λ (class : ℕ). map (λ (coded : Coded). member_at class coded.position) (coded_in_class files class)) (λ (class : ℕ). map method_of_body (bodies_of_class bodies class)) class_methods (class_order files)

  class_bodies : (class : ℕ) → flat_map (λ (member : MemberId). filter (is_body_of member) bodies) (map method_of_body (bodies_of_class bodies class)) ≡ bodies_of_class bodies class
  class_bodies class =
      flat_map-map (λ (member : MemberId). filter (is_body_of member) bodies) method_of_body (bodies_of_class bodies class)
      ∙ all_found (is_of_class class) [] bodies rising

  pub bodies_right : bodies_in_order files bodies ≡ flat_map (bodies_of_class bodies) (class_order files)
  bodies_right =
      let find : MemberId → List Body = λ member. filter (is_body_of member) bodies in
      let methods : ℕ → List MemberId = λ class. map method_of_body (bodies_of_class bodies class) in
      ap (flat_map find) methods_right ∙ flat_map_twice methods find (class_order files)
      ∙ flat_map_same (λ (class : ℕ). flat_map find (methods class)) (bodies_of_class bodies) class_bodies (class_order files)
