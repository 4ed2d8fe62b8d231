-- The bodies of a set, and the methods whose they are.
use Rattle.std.proofs.Common.{◌≡◌, ℕ, zero, suc, ◌+◌, ◌-◌, ◌≤◌, Bool, true, false, ◌&&◌, nat_eq, List, [], ◌∷◌, ◌++◌, slice_get, Option, Some, None, option_map, option_and_then, refl, sym, ap, subst, ◌∙◌, arith, eq-eqb, eqb-true}
use Rattle.std.specs.Prelude.{if◌then◌else◌}
use Rattle.std.specs.List.{AllByRecursion, Contains}
use Rattle.std.specs.Option.{option_to_list}
use Rattle.std.proofs.lemmas.Bool.{and_parts}
use Rattle.std.proofs.lemmas.List.Elements.{Contains-append_left, Contains-append_right}
use Rattle.class_pool.specs.declared.types.MemberId.{MemberId}
use Rattle.class_file.specs.declared.record.ClassFile.{ClassFile}
use Rattle.class_file.specs.declared.record.CodeAttr.{CodeAttr}
use Rattle.class_file.specs.declared.record.Member.{Member}
use Rattle.class_code.specs.Code.{Insns, decoded}
use Rattle.body_form.specs.declared.body.Body.{Body}
use Rattle.jvm_model.specs.CodeInsns.{insns_in}
use Rattle.jvm_model.specs.Linking.{is_initialiser}
use Rattle.jvm_model.specs.Bodies.{Coded, coded_of, coded_from, coded_in, coded_methods, IsBody, AreBodies}
use Rattle.typed_machine.specs.TypedWorld.{is_of, body_among}
use Rattle.type_safety.proofs.fitting.SetLists.{none_some, same_some, all_joined, in_head, in_tail, each_back, each_on}

-- a method with its code and instructions, as it stands in the set
pub record StandsAs (files : List ClassFile) (coded : Coded) : Type 0 where
  pub own : 32 ≤ coded.class
  pub file : slice_get files (coded.class - 32) ≡ Some coded.file
  pub method : slice_get coded.file.methods coded.position ≡ Some coded.method
  pub code : coded.method.code ≡ Some coded.code
  pub insns : insns_in (decoded coded.code.code) ≡ Some coded.insns
  pub named : is_initialiser coded.file.pool coded.method ≡ false

made : ℕ → ClassFile → ℕ → Member → CodeAttr → Insns → Coded
made class file position m code insns = record { class = class; file = file; position = position; method = m; code = code; insns = insns }

-- the items from one position on are those of the whole list
abbrev IsPart : {X : Type 0} → List X → ℕ → List X → Type 0
IsPart whole from part = (i : ℕ) → slice_get part i ≡ slice_get whole (from + i)

part_tail : {X : Type 0} (whole : List X) (from : ℕ) (x : X) (part : List X) → IsPart whole from (x ∷ part) → IsPart whole (suc from) part
part_tail whole from x part is i = is (suc i) ∙ ap (slice_get whole) (omega arith)

part_head : {X : Type 0} (whole : List X) (from : ℕ) (x : X) (part : List X) → IsPart whole from (x ∷ part) → slice_get whole from ≡ Some x
part_head whole from x part is = let at : from + 0 ≡ from = omega arith in sym (is 0 ∙ ap (slice_get whole) at)

module _ (files : List ClassFile) where
  one_stands : (class : ℕ) (file : ClassFile) (position : ℕ) (m : Member) → 32 ≤ class → slice_get files (class - 32) ≡ Some file → slice_get file.methods position ≡ Some m
      → AllByRecursion (StandsAs files) (option_to_list (coded_of class file position m))
  unfolding made
  one_stands class file position m own is at = by_name (is_initialiser file.pool m) refl m.code refl
    where
      by_insns : is_initialiser file.pool m ≡ false → (code : CodeAttr) → m.code ≡ Some code → (found : Option Insns) → insns_in (decoded code.code) ≡ found → AllByRecursion (StandsAs files) (option_to_list (option_map (made class file position m code) found))
      by_insns plain code has None e = tt
      by_insns plain code has (Some insns) e = (record { own = own; file = is; method = at; code = has; insns = e; named = plain }, tt)

      by_name : (skipped : Bool) → is_initialiser file.pool m ≡ skipped → (code : Option CodeAttr) → m.code ≡ code
          → AllByRecursion (StandsAs files) (option_to_list (if skipped then None else option_and_then (λ c. option_map (made class file position m c) (insns_in (decoded c.code))) code))
      by_name true plain code has = tt
      by_name false plain None has = tt
      by_name false plain (Some code) has = by_insns plain code has (insns_in (decoded code.code)) refl

  from_stand : (class : ℕ) (file : ClassFile) → 32 ≤ class → slice_get files (class - 32) ≡ Some file → (position : ℕ) (methods : List Member) → IsPart file.methods position methods
      → AllByRecursion (StandsAs files) (coded_from class file position methods)
  unfolding coded_from
  from_stand class file own is position [] part = tt
  from_stand class file own is position (m ∷ methods) part =
      all_joined (StandsAs files) (option_to_list (coded_of class file position m)) (coded_from class file (suc position) methods)
      (one_stands class file position m own is (part_head file.methods position m methods part))
      (from_stand class file own is (suc position) methods (part_tail file.methods position m methods part))

  in_stand : (place : ℕ) (rest : List ClassFile) → IsPart files place rest → AllByRecursion (StandsAs files) (coded_in (32 + place) rest)
  unfolding coded_in
  in_stand place [] part = tt
  in_stand place (file ∷ rest) part =
      let at : 32 + place - 32 ≡ place = omega arith in
      all_joined (StandsAs files) (coded_from (32 + place) file 0 file.methods) (coded_in (suc (32 + place)) rest)
      (from_stand (32 + place) file (omega arith) (ap (slice_get files) at ∙ part_head files place file rest part) 0 file.methods (λ i. ap (slice_get file.methods) (omega arith)))
      (let next : 32 + suc place ≡ suc (32 + place) = omega arith in
      subst (λ n. AllByRecursion (StandsAs files) (coded_in n rest)) next (in_stand (suc place) rest (part_tail files place file rest part)))

  pub coded_stand : AllByRecursion (StandsAs files) (coded_methods files)
  coded_stand = in_stand 0 files (λ i. ap (slice_get files) (omega arith))

  -- ---- each method with code is among them

  one_there : (class : ℕ) (file : ClassFile) (position : ℕ) (m : Member) (code : CodeAttr) (insns : Insns) → is_initialiser file.pool m ≡ false → m.code ≡ Some code → insns_in (decoded code.code) ≡ Some insns
      → Contains (option_to_list (coded_of class file position m)) (made class file position m code insns)
  unfolding made
  one_there class file position m code insns plain has is =
      let found : coded_of class file position m ≡ Some (made class file position m code insns) =
      ap (λ b. if b then None else option_and_then (λ c. option_map (made class file position m c) (insns_in (decoded c.code))) m.code) plain
      ∙ ap (option_and_then (λ (c : CodeAttr). option_map (made class file position m c) (insns_in (decoded c.code)))) has
      ∙ ap (option_map (made class file position m code)) is in
      subst (λ (o : Option Coded). Contains (option_to_list o) (made class file position m code insns)) (sym found) (in_head (made class file position m code insns) [])

  from_there : (class : ℕ) (file : ClassFile) (from : ℕ) (methods : List Member) (i : ℕ) (m : Member) (code : CodeAttr) (insns : Insns) → slice_get methods i ≡ Some m → is_initialiser file.pool m ≡ false → m.code ≡ Some code → insns_in (decoded code.code) ≡ Some insns
      → Contains (coded_from class file from methods) (made class file (from + i) m code insns)
  unfolding coded_from
  from_there class file from [] i m code insns at plain has is = none_some m at
  from_there class file from (n ∷ methods) zero m code insns at plain has is =
      let same : n ≡ m = same_some n m at in
      let here : from + 0 ≡ from = omega arith in
      subst (λ (p : ℕ). Contains (option_to_list (coded_of class file from n) ++ coded_from class file (suc from) methods) (made class file p m code insns)) (sym here)
      (subst (λ (k : Member). Contains (option_to_list (coded_of class file from k) ++ coded_from class file (suc from) methods) (made class file from m code insns)) (sym same)
      (Contains-append_left (option_to_list (coded_of class file from m)) (coded_from class file (suc from) methods) (made class file from m code insns) (one_there class file from m code insns plain has is)))
  from_there class file from (n ∷ methods) (suc i) m code insns at plain has is =
      let next : suc from + i ≡ from + suc i = omega arith in
      Contains-append_right (option_to_list (coded_of class file from n)) (coded_from class file (suc from) methods) (made class file (from + suc i) m code insns)
      (subst (λ (p : ℕ). Contains (coded_from class file (suc from) methods) (made class file p m code insns)) next (from_there class file (suc from) methods i m code insns at plain has is))

  in_there : (class : ℕ) (rest : List ClassFile) (k : ℕ) (file : ClassFile) → slice_get rest k ≡ Some file → (i : ℕ) (m : Member) (code : CodeAttr) (insns : Insns) → slice_get file.methods i ≡ Some m → is_initialiser file.pool m ≡ false → m.code ≡ Some code → insns_in (decoded code.code) ≡ Some insns
      → Contains (coded_in class rest) (made (class + k) file i m code insns)
  unfolding coded_in
  in_there class [] k file fk i m code insns at plain has is = none_some file fk
  in_there class (f ∷ rest) zero file fk i m code insns at plain has is =
      let same : f ≡ file = same_some f file fk in
      let here : class + 0 ≡ class = omega arith in
      let start : 0 + i ≡ i = omega arith in
      subst (λ (p : ℕ). Contains (coded_from class f 0 f.methods ++ coded_in (suc class) rest) (made p file i m code insns)) (sym here)
      (subst (λ (g : ClassFile). Contains (coded_from class g 0 g.methods ++ coded_in (suc class) rest) (made class file i m code insns)) (sym same)
      (Contains-append_left (coded_from class file 0 file.methods) (coded_in (suc class) rest) (made class file i m code insns) (subst (λ (p : ℕ). Contains (coded_from class file 0 file.methods) (made class file p m code insns)) start (from_there class file 0 file.methods i m code insns at plain has is))))
  in_there class (f ∷ rest) (suc k) file fk i m code insns at plain has is =
      let next : suc class + k ≡ class + suc k = omega arith in
      Contains-append_right (coded_from class f 0 f.methods) (coded_in (suc class) rest) (made (class + suc k) file i m code insns)
      (subst (λ (p : ℕ). Contains (coded_in (suc class) rest) (made p file i m code insns)) next (in_there (suc class) rest k file fk i m code insns at plain has is))

  -- ---- the body of a method

  module _ (bodies : List Body) (are : AreBodies files bodies) where
    -- a body, and the method whose it is
    pub record IsBodyOf (body : Body) : Type 0 where
      pub coded : Coded
      pub stands : StandsAs files coded
      pub is : IsBody files coded body

    pub body_of : (body : Body) → Contains bodies body → IsBodyOf body
    body_of body h = let found = each_back (IsBody files) (StandsAs files) (coded_methods files) bodies coded_stand are body h in record { coded = found.0; stands = found.1; is = found.2 }

    -- a body that is found among them
    pub record IsFoundFor (id : MemberId) : Type 0 where
      pub body : Body
      pub found : body_among bodies id ≡ Some body
      pub there : Contains bodies body
      pub class : body.class ≡ id.class
      pub method : body.method ≡ id.member

    abbrev Found : MemberId → List Body → Option Body → Type 0
    Found id all o = (c : Body) × (o ≡ Some c) × Contains all c × (is_of id c ≡ true)

    among : (all : List Body) (id : MemberId) (body : Body) → Contains all body → is_of id body ≡ true → (b : Body) × (body_among all id ≡ Some b) × Contains all b × (is_of id b ≡ true)
    unfolding body_among
    among [] id body (k, within, is) e = absurd (omega (arith, within))
    among (b ∷ all) id body h e = by_test (is_of id b) refl (λ h. among all id body h e)
      where
        by_head : (Contains all body → Found id all (body_among all id)) → (h : Contains (b ∷ all) body) → is_of id b ≡ false → Found id all (body_among all id)
        by_head rest (zero, within, is) other = absurd (let bad : true ≡ false = sym e ∙ ap (is_of id) (sym is) ∙ other in cc)
        by_head rest (suc k, within, is) other = rest (k, omega (arith, within), is)

        by_test : (t : Bool) → is_of id b ≡ t → (Contains all body → Found id all (body_among all id)) → Found id (b ∷ all) (if t then Some b else body_among all id)
        by_test true passed rest = (b, refl, in_head b all, passed)
        by_test false other rest = let more = by_head rest h other in (more.0, more.1, in_tail b more.0 all more.2, more.3)

    pub body_found : (id : MemberId) → 32 ≤ id.class → (file : ClassFile) → slice_get files (id.class - 32) ≡ Some file → (m : Member) (code : CodeAttr) (insns : Insns) → slice_get file.methods id.member ≡ Some m → is_initialiser file.pool m ≡ false → m.code ≡ Some code → insns_in (decoded code.code) ≡ Some insns
        → IsFoundFor id
    unfolding made
    body_found id own file fk m code insns at plain has is =
        let number : 32 + (id.class - 32) ≡ id.class = omega (arith, own) in
        let coded = made (32 + (id.class - 32)) file id.member m code insns in
        let on = each_on (IsBody files) (coded_methods files) bodies are coded (in_there 32 files (id.class - 32) file fk id.member m code insns at plain has is) in
        let class : id.class ≡ on.0.class = sym number ∙ sym on.2.class in
        let member : id.member ≡ on.0.method = sym on.2.method in
        let test : is_of id on.0 ≡ true = ap (λ b. b && nat_eq id.member on.0.method) (eq-eqb id.class on.0.class class) ∙ eq-eqb id.member on.0.method member in
        let found = among bodies id on.0 on.1 test in
        let parts = and_parts (nat_eq id.class found.0.class) (nat_eq id.member found.0.method) found.3 in
        record { body = found.0; found = found.1; there = found.2; class = sym (eqb-true id.class found.0.class parts.0); method = sym (eqb-true id.member found.0.method parts.1) }
