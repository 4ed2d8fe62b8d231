-- What a store changes of what is kept.
use Rattle.std.proofs.Common.{◌≡◌, ◌≢◌, ℕ, Bool, true, false, cond, List, Option, Some, None, refl, sym, ap, subst, ◌∙◌}
use Rattle.std.specs.Prelude.{option_map}
use Rattle.std.specs.Str.{bytes_eq}
use Rattle.std.specs.Cmp.Lexicographic.{nat_list_cmp_total}
use Rattle.std.specs.FinMap.{get, insert, get-insert}
use Rattle.std.proofs.lemmas.Map.Text.{is_eq-slice_cmp}
use Rattle.std.proofs.lemmas.Slice.Eq.{bytes_eq-Decides}
use Rattle.host_face.specs.Shelf.{Files, ChangesOnly}
use Rattle.mote_top.specs.declared.status.Status.{Status}
use Rattle.mote_top.specs.declared.status.Status.TheVariants.{Done, ShelfFault, Memory}
use Rattle.mote_top.specs.Storing.{IsStored}

other_differs : (a b : List ℕ) → a ≢ b → (same : Bool) → bytes_eq a b ≡ same → same ≡ false
other_differs a b differ true e = absurd (differ ((bytes_eq-Decides a b).0 e))
other_differs a b differ false e = refl

-- each other name keeps what it had
kept_elsewhere : (files : Files) (out bytes other : List ℕ) → other ≢ out → get (insert files out bytes) other ≡ get files other
kept_elsewhere files out bytes other differ =
    get-insert nat_list_cmp_total files out bytes other
    ∙ ap (λ (same : Bool). cond same (Some bytes) (get files other)) (is_eq-slice_cmp other out ∙ other_differs other out differ (bytes_eq other out) refl)

inserted : (out bytes : List ℕ) (kept : Option Files) → ChangesOnly out kept (option_map (λ kept. insert kept out bytes) kept)
inserted out bytes None = tt
inserted out bytes (Some files) = λ other differ. kept_elsewhere files out bytes other differ

-- whatever a store answers, it changes its own name alone
pub stored_changes : (out bytes : List ℕ) (kept now : Option Files) (before after : List ℕ → ℕ) (status : Status) → IsStored out bytes kept now before after status → ChangesOnly out kept now
stored_changes out bytes kept now before after Done stored = subst (ChangesOnly out kept) (sym stored) (inserted out bytes kept)
stored_changes out bytes kept now before after (ShelfFault word) stored = stored.1
stored_changes out bytes kept now before after Memory stored = stored
stored_changes out bytes kept now before after _ stored = absurd stored

-- the name itself has the bytes
pub kept_there : (files : Files) (out bytes : List ℕ) → get (insert files out bytes) out ≡ Some bytes
kept_there files out bytes =
    get-insert nat_list_cmp_total files out bytes out
    ∙ ap (λ (same : Bool). cond same (Some bytes) (get files out)) (is_eq-slice_cmp out out ∙ (bytes_eq-Decides out out).1 refl)
