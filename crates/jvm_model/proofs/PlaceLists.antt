-- The list of the places that a map holds.
use Rattle.std.proofs.Common.{◌≡◌, ℕ, Bool, true, false, cond, nat_eq, ◌&&◌, List, [], ◌∷◌, ◌++◌, map, Option, Some, None, unwrap_or, refl, sym, ap, ◌∙◌}
use Rattle.std.specs.Map.{lookup}
use Rattle.std.proofs.lemmas.List.{map-append}
use Rattle.class_pool.specs.declared.types.MemberId.{MemberId}
use Rattle.jvm_model.specs.declared.numbers.FieldPlace.{FieldPlace}
use Rattle.jvm_model.specs.ImageNumbering.{is_member, place_listed}

abbrev pub place_at : MemberId × ℕ → FieldPlace
place_at entry = record { member = entry.0; place = entry.1 }

either : (b : Bool) (place : ℕ) (found : Option ℕ) → unwrap_or (cond b (Some place) found) 0 ≡ cond b place (unwrap_or found 0)
either true place found = refl
either false place found = refl

-- a look-up finds the place that is listed
pub listed : (member : MemberId) (entries : List (MemberId × ℕ)) → unwrap_or (lookup (is_member member) entries) 0 ≡ place_listed (map place_at entries) member
unfolding place_listed
listed member [] = refl
listed member (entry ∷ entries) =
    either (is_member member entry.0) entry.1 (lookup (is_member member) entries)
    ∙ ap (λ n. cond (is_member member entry.0) entry.1 n) (listed member entries)
