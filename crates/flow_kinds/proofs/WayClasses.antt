-- The way up from a class: which class of it is the first that passes a test.
use Rattle.std.proofs.Common.{◌≡◌, ℕ, zero, suc, Bool, true, false, ◌||◌, if◌then◌else◌, cond, List, [], ◌∷◌, Option, Some, None, is_some, option_map, unwrap_or, nat_eq, refl, sym, ap, ◌∙◌}
use Rattle.std.specs.Option.{option_or}
use Rattle.std.specs.List.{find, list_any}
use Rattle.class_pool.specs.declared.types.MemberId.{MemberId}
use Rattle.class_file.specs.declared.record.ClassFile.{ClassFile}
use Rattle.class_tree.specs.Upwards.{first_answer, first_upwards}
use Rattle.class_tree.specs.DirectSupers.{class_count, superclasses_of}
use Rattle.class_tree.specs.LookupWays.{LeadsUp}
use Rattle.class_tree.specs.Merge.{first_passing, is_class_or_super, common_super}

-- ---- answers by another name

module _ {X Y : Type 0} (f : X → Y) where
  or_mapped : (first second : Option X) → option_map f (option_or first second) ≡ option_or (option_map f first) (option_map f second)
  or_mapped None second = refl
  or_mapped (Some x) second = refl

  first_mapped : (given : ℕ → Option X) (taken : ℕ → Option Y) → ((class : ℕ) → option_map f (given class) ≡ taken class) → (classes : List ℕ)
      → option_map f (first_answer given classes) ≡ first_answer taken classes
  unfolding first_answer
  first_mapped given taken same [] = refl
  first_mapped given taken same (class ∷ classes) =
      or_mapped (given class) (first_answer given classes)
      ∙ ap (λ o. option_or o (option_map f (first_answer given classes))) (same class)
      ∙ ap (option_or (taken class)) (first_mapped given taken same classes)

  upwards_mapped : (above : ℕ → List ℕ) (given : ℕ → Option X) (taken : ℕ → Option Y) → ((class : ℕ) → option_map f (given class) ≡ taken class) → (levels class : ℕ)
      → option_map f (first_upwards above given levels class) ≡ first_upwards above taken levels class
  unfolding first_upwards
  upwards_mapped above given taken same zero class = refl
  upwards_mapped above given taken same (suc levels) class =
      or_mapped (given class) (first_answer (first_upwards above given levels) (above class))
      ∙ ap (λ o. option_or o (option_map f (first_answer (first_upwards above given levels) (above class)))) (same class)
      ∙ ap (option_or (taken class)) (first_mapped (first_upwards above given levels) (first_upwards above taken levels) (upwards_mapped above given taken same levels) (above class))

-- ---- the first that passes a test

module _ (test : ℕ → Bool) where
  abbrev id_of : ℕ → MemberId
  id_of class = record { class = class; member = 0 }

  abbrev passing : ℕ → Option ℕ
  passing class = if test class then Some class else None

  abbrev passing_id : ℕ → Option MemberId
  passing_id class = if test class then Some (id_of class) else None

  class_named : (b : Bool) (class : ℕ) → option_map (λ (id : MemberId). id.class) (if b then Some (id_of class) else None) ≡ (if b then Some class else None)
  class_named true class = refl
  class_named false class = refl

  along : (files : List ClassFile) (class : ℕ) (way : List ℕ) → LeadsUp files (superclasses_of files) class way → first_answer passing way ≡ first_passing files test class
  along files class way leads =
      sym (first_mapped (λ id. id.class) passing_id passing (λ c. class_named (test c) c) way)
      ∙ ap (option_map (λ id. id.class)) (leads passing_id)
      ∙ upwards_mapped (λ id. id.class) (superclasses_of files) passing_id passing (λ c. class_named (test c) c) (class_count files) class

  -- ---- along a way

  found_step : (b : Bool) (class : ℕ) (rest found : Option ℕ) → rest ≡ found → option_or (if b then Some class else None) rest ≡ cond b (Some class) found
  found_step true class rest found e = refl
  found_step false class rest found e = e

  found_first : (way : List ℕ) → first_answer passing way ≡ find test way
  unfolding first_answer
  found_first [] = refl
  found_first (class ∷ way) = found_step (test class) class (first_answer passing way) (find test way) (found_first way)

  pub found_along : (files : List ClassFile) (class : ℕ) (way : List ℕ) → LeadsUp files (superclasses_of files) class way → find test way ≡ first_passing files test class
  found_along files class way leads = sym (found_first way) ∙ along files class way leads

-- ---- the test of a superclass

any_step : (b : Bool) (class : ℕ) (found : Option ℕ) (others : Bool) → is_some found ≡ others → is_some (cond b (Some class) found) ≡ (b || others)
any_step true class found others e = refl
any_step false class found others e = e

any_found : (test : ℕ → Bool) (way : List ℕ) → is_some (find test way) ≡ list_any test way
any_found test [] = refl
any_found test (class ∷ way) = any_step (test class) class (find test way) (list_any test way) (any_found test way)

-- a class is above another one where it is on the way up from it
pub above_along : (files : List ClassFile) (class upper : ℕ) (way : List ℕ) → LeadsUp files (superclasses_of files) class way → list_any (nat_eq upper) way ≡ is_class_or_super files class upper
above_along files class upper way leads = sym (any_found (nat_eq upper) way) ∙ ap is_some (found_along (nat_eq upper) files class way leads)

same_found : (first second : ℕ → Bool) → ((class : ℕ) → first class ≡ second class) → (way : List ℕ) → find first way ≡ find second way
same_found first second same [] = refl
same_found first second same (class ∷ way) = ap (λ b. cond b (Some class) (find first way)) (same class) ∙ ap (cond (second class) (Some class)) (same_found first second same way)

-- the first on one way that is on another one is the first common superclass
pub common_along : (files : List ClassFile) (a b : ℕ) (first second : List ℕ) → LeadsUp files (superclasses_of files) a first → LeadsUp files (superclasses_of files) b second
    → unwrap_or (find (λ class. list_any (nat_eq class) second) first) 0 ≡ common_super files a b
common_along files a b first second up_a up_b =
    ap (λ found. unwrap_or found 0)
    (same_found (λ class. list_any (nat_eq class) second) (is_class_or_super files b) (λ class. above_along files b class second up_b) first
    ∙ found_along (is_class_or_super files b) files a first up_a)
