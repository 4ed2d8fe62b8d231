-- The rows of all bodies catch what is of a class alike on both machines, where the image says of two classes what the set
-- says: no class has the id that stands for any.
use Rattle.std.proofs.Common.{◌≡◌, ℕ, ◌+◌, ◌<◌, ◌≤◌, Bool, true, false, ◌||◌, nat_eq, nat_lt, if◌then◌else◌, List, [], ◌∷◌, length, Option, Some, None, refl, ap, ◌∙◌, arith}
use Rattle.std.specs.Prelude.{IfSome, position, unwrap_or}
use Rattle.std.specs.List.{AllByRecursion}
use Rattle.std.specs.Option.{option_map_or, option_or}
use Rattle.std.proofs.lemmas.Bool.{ltb-true, ltb-false}
use Rattle.std.proofs.lemmas.Bool.Decides.{nat_tests}
use Rattle.std.proofs.lemmas.List.Quantifiers.{position-Some}
use Rattle.class_pool.specs.declared.types.TypeRef.{TypeRef}
use Rattle.class_file.specs.declared.record.ClassFile.{ClassFile}
use Rattle.class_tree.specs.AccessTests.{is_subclass}
use Rattle.class_tree.specs.Set.{IsClass}
use Rattle.class_tree.specs.Subtypes.{class_type}
use Rattle.body_form.specs.declared.body.Body.{Body}
use Rattle.body_form.specs.declared.body.Guard.{Guard}
use Rattle.jvm_model.specs.ImageLimits.{excess, first_excess}
use Rattle.jvm_model.specs.ImageNumbering.{Numbering, is_type, type_id}
use Rattle.mote_model.specs.SplitTypes.{is_below}
use Rattle.match_states.specs.Setting.{Setting, IsCompiled, source_for}
use Rattle.match_code.proofs.CodeHandlers.{catches, CatchesAlike}
use Rattle.follow_numbers.proofs.CaughtFrames.{AllCatchAlike}

abbrev pub class_id : Setting → ℕ → ℕ
class_id setting class = type_id setting.numbering.types (class_type class)

-- the image says of a class and each other one whether it is below it as the set does
abbrev pub ClassesAgree : Setting → ℕ → Type 0
ClassesAgree setting class =
    (upper : ℕ) → IsClass setting.world.files upper → is_below setting.image (class_id setting class) (class_id setting upper) ≡ is_subclass setting.world.files class upper

-- ---- ids

none_first : {X : Type 0} (first second : Option X) → option_or first second ≡ None → first ≡ None
none_first None second is = refl
none_first (Some x) second is = cc

abbrev counted : ℕ → ℕ → Option (ℕ × ℕ)
counted what count = Some (what, count)

within_limit : (what count limit : ℕ) (above : Bool) → nat_lt limit count ≡ above → (if above then counted what count else None) ≡ None → count ≤ limit
within_limit what count limit true test is = cc
within_limit what count limit false test is = ltb-false limit count test

-- the types are few
few_types : (files : List ClassFile) (numbering : Numbering) → first_excess files numbering ≡ None → 32 + length numbering.types ≤ 4096
few_types files numbering within =
    let first : excess 2 (32 + length numbering.types) 4096 ≡ None = none_first (excess 2 (32 + length numbering.types) 4096) _ within in
    within_limit 2 (32 + length numbering.types) 4096 (nat_lt 4096 (32 + length numbering.types)) refl first

found_low : (types : List TypeRef) (type : TypeRef) (found : Option ℕ) → position (is_type type) types ≡ found → 32 + length types ≤ 4096 → 32 + unwrap_or found 0 < 65535
found_low types type None at few = omega arith
found_low types type (Some place) at few =
    let less : place < length types = (position-Some (is_type type) types place (class_type 0) at).0 in
    omega (arith, less, few)

own_or_library : (class own : ℕ) (library : Bool) → nat_lt class 32 ≡ library → own < 65535 → unwrap_or (if library then Some class else None) own < 65535
own_or_library class own true test low = let less : class < 32 = ltb-true class 32 test in omega (arith, less)
own_or_library class own false test low = low

id_low : (types : List TypeRef) → 32 + length types ≤ 4096 → (class : ℕ) → type_id types (class_type class) < 65535
id_low types few class =
    own_or_library class (32 + unwrap_or (position (is_type (class_type class)) types) 0) (nat_lt class 32) refl
    (found_low types (class_type class) (position (is_type (class_type class)) types) refl few)

not_any : (id : ℕ) → id < 65535 → nat_eq id 65535 ≡ false
not_any id low = grind (arith, nat_tests)

-- ---- rows

module _ (setting : Setting) (compiled : IsCompiled setting) (within : first_excess setting.world.files setting.numbering ≡ None) (class : ℕ) (agree : ClassesAgree setting class) where
  by_class : (found : Option ℕ) → IfSome found (IsClass setting.world.files)
      → catches setting.image (class_id setting class) (option_map_or (λ upper. class_id setting upper) found 65535) ≡ option_map_or (is_subclass setting.world.files class) found true
  by_class None is = refl
  by_class (Some upper) is =
      ap (λ any. any || is_below setting.image (class_id setting class) (class_id setting upper))
      (not_any (class_id setting upper) (id_low setting.numbering.types (few_types setting.world.files setting.numbering within) upper))
      ∙ agree upper is

  rows_alike : (body : Body) (guards : List Guard) → AllByRecursion (λ (guard : Guard). IfSome guard.class (IsClass setting.world.files)) guards
      → AllByRecursion (CatchesAlike (source_for setting body) setting.image (class_id setting class) setting.world class) guards
  rows_alike body [] known = tt
  rows_alike body (guard ∷ guards) known = (by_class guard.class known.0, rows_alike body guards known.1)

  pub all_catch_alike : AllCatchAlike setting (class_id setting class) class
  all_catch_alike body of_set = rows_alike body body.handlers (compiled.typed.facts body of_set).of_set.handlers
