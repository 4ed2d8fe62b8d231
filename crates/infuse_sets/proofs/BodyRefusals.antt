-- The refusals of one body: its code is too long, or its frame too large.
use Rattle.std.proofs.Common.{◌≡◌, ℕ, ◌<◌, ◌≤◌, Bool, cond, List, [], ◌∷◌, map, slice_get, Option, Some, None, refl, sym, ap, subst, ◌∙◌}
use Rattle.std.specs.List.{cons_option, filter_map}
use Rattle.std.proofs.lemmas.Bool.{le-leb, le-ltb, lt-ltb}
use Rattle.jvm_model.specs.declared.refusal.Cause.TheVariants as cause
use Rattle.jvm_model.specs.declared.refusal.Refusal.{Refusal}
use Rattle.jvm_model.specs.ImageNumbering.{Numbering}
use Rattle.jvm_model.specs.Phases.{saturated}
use Rattle.set_image.specs.Linked.{Typed}
use Rattle.set_image.specs.LinkRefusals.{bytes_in, cells_in, first_of, frame_refusal, length_refusal, refusal_of_body}

module _ (numbering : Numbering) (typed : Typed) where
  pub short : bytes_in numbering typed ≤ 65535 → length_refusal numbering typed ≡ None
  short le =
      let why = refusal_of_body cause.CodeTooLong typed.body 0 (saturated (bytes_in numbering typed)) in
      ap (λ (b : Bool). cond b (Some why) None) (le-ltb 65535 (bytes_in numbering typed) le)

  pub long : (length : ℕ) → length ≡ bytes_in numbering typed → 65535 < length → length ≤ 4294967295 → length_refusal numbering typed ≡ Some (refusal_of_body cause.CodeTooLong typed.body 0 length)
  long length is more fits =
      let bytes = bytes_in numbering typed in
      let lower : 65535 < bytes = subst (λ n. 65535 < n) is more in
      let upper : bytes ≤ 4294967295 = subst (λ n. n ≤ 4294967295) is fits in
      let refusal : ℕ → Option Refusal = λ value. Some (refusal_of_body cause.CodeTooLong typed.body 0 value) in
      ap (λ (b : Bool). cond b (refusal (saturated bytes)) None) (lt-ltb 65535 bytes lower)
      ∙ ap (λ (b : Bool). refusal (cond b bytes 4294967295)) (le-leb bytes 4294967295 upper)
      ∙ ap refusal (sym is)

  pub fits : cells_in typed ≤ 32767 → frame_refusal typed ≡ None
  fits le =
      let why = refusal_of_body cause.FrameTooLarge typed.body 0 (cells_in typed) in
      ap (λ (b : Bool). cond b (Some why) None) (le-ltb 32767 (cells_in typed) le)

  pub large : (cells : ℕ) → cells ≡ cells_in typed → 32767 < cells → frame_refusal typed ≡ Some (refusal_of_body cause.FrameTooLarge typed.body 0 cells)
  large cells is more =
      let refusal : ℕ → Option Refusal = λ value. Some (refusal_of_body cause.FrameTooLarge typed.body 0 value) in
      ap (λ (b : Bool). cond b (refusal (cells_in typed)) None) (lt-ltb 32767 (cells_in typed) (subst (λ n. 32767 < n) is more)) ∙ ap refusal (sym is)

-- the first refusal of items that are seen by a view
module _ {X Y : Type 0} (refusal : Y → Option Refusal) (view : X → Y) where
  all_seen : (xs : List X) → filter_map refusal (map view xs) ≡ filter_map (λ (x : X). refusal (view x)) xs
  all_seen [] = refl
  all_seen (x ∷ xs) = ap (cons_option (refusal (view x))) (all_seen xs)

  pub first_seen : (items : List X) → first_of refusal (map view items) ≡ first_of (λ (x : X). refusal (view x)) items
  first_seen items = ap (λ (l : List Refusal). slice_get l 0) (all_seen items)
