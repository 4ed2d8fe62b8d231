-- What follows the parts of a descriptor is found without their values, and with it whether a text is one.
use Rattle.std.proofs.Common.{◌≡◌, ℕ, suc, ◌-◌, ◌+◌, ◌<◌, ◌≤◌, Bool, true, false, cond, eqb, List, ◌∷◌, length, Option, Some, None, is_some, refl, sym, ap, ◌∙◌, arith}
use Rattle.class_pool.specs.declared.descriptor.Kind.{Kind}
use Rattle.class_pool.specs.DescriptorReading.{◌>>=◌, suffix_of, kind_at, field_of, after_close, params_at}
use Rattle.class_pool.proofs.descriptors.ClassNames.{some, some_is, no_some}
use Rattle.class_pool.proofs.descriptors.FieldTypes.{then_some}
use Rattle.class_pool.proofs.descriptors.Parameters.{Params, one_on, one_closed, room_left}

-- a value was read where something follows it
suffix_is : {X : Type 0} (read : Option (X × List ℕ)) (after : List ℕ) → suffix_of read ≡ Some after → (x : X) × (read ≡ Some (x, after))
suffix_is None after e = absurd (no_some after e)
suffix_is (Some x) after e = (x.0, ap (λ (rest : List ℕ). Some (x.0, rest)) (some_is x.1 after e))

no_suffix : {X : Type 0} (read : Option (X × List ℕ)) → suffix_of read ≡ None → read ≡ None
no_suffix None e = refl
no_suffix (Some x) e = absurd (no_some x.1 (sym e))

-- ---- fields

-- nothing follows
abbrev pub ends : Option (List ℕ) → Bool
ends None = false
ends (Some rest) = eqb (length rest) 0

ended : (b : Bool) (kind : Kind) → is_some (cond b (some kind) None) ≡ b
ended true kind = refl
ended false kind = refl

pub field_ends : (text : List ℕ) → is_some (field_of text) ≡ ends (suffix_of (kind_at text))
unfolding field_of
field_ends text = by_read (kind_at text)
  where
    by_read : (read : Option (Kind × List ℕ)) → is_some (read >>= λ kind. cond (eqb (length kind.1) 0) (some kind.0) None) ≡ ends (suffix_of read)
    by_read None = refl
    by_read (Some x) = ended (eqb (length x.1) 0) x.0

-- ---- parameters, as a loop skips them

-- a parameter more has the same after it
same_suffix : (kind : Kind) (read : Option Params) → suffix_of (read >>= λ others. Some (kind ∷ others.0, others.1)) ≡ suffix_of read
same_suffix kind None = refl
same_suffix kind (Some x) = refl

pub skip_goes_on : (most i : ℕ) (text after : List ℕ) (total : Option (List ℕ)) → i < most → after_close text ≡ None → suffix_of (kind_at text) ≡ Some after
    → suffix_of (params_at (most - i) text) ≡ total → suffix_of (params_at (most - (i + 1)) after) ≡ total
skip_goes_on most i text after total lt goes read so_far =
    let next = most - (i + 1) in
    let kind = suffix_is (kind_at text) after read in
    let one : params_at (suc next) text ≡ (params_at next after >>= λ others. Some (kind.0 ∷ others.0, others.1)) = one_on next text goes ∙ then_some _ _ kind.1 refl in
    sym (same_suffix kind.0 (params_at next after)) ∙ ap suffix_of (sym one) ∙ ap (λ (n : ℕ). suffix_of (params_at n text)) (sym (room_left most i lt)) ∙ so_far

pub skip_closes : (most i : ℕ) (text rest : List ℕ) (total : Option (List ℕ)) → i < most → after_close text ≡ Some rest → suffix_of (params_at (most - i) text) ≡ total → total ≡ Some rest
skip_closes most i text rest total lt close so_far =
    sym so_far ∙ ap (λ (n : ℕ). suffix_of (params_at n text)) (room_left most i lt) ∙ ap suffix_of (one_closed (most - (i + 1)) text rest close)

pub skip_fails : (most i : ℕ) (text : List ℕ) (total : Option (List ℕ)) → i < most → after_close text ≡ None → suffix_of (kind_at text) ≡ None → suffix_of (params_at (most - i) text) ≡ total → total ≡ None
skip_fails most i text total lt goes read so_far =
    let next = most - (i + 1) in
    let none : kind_at text ≡ None = no_suffix (kind_at text) read in
    let one : params_at (suc next) text ≡ None = one_on next text goes ∙ rw none refl in
    sym so_far ∙ ap (λ (n : ℕ). suffix_of (params_at n text)) (room_left most i lt) ∙ ap suffix_of one

pub skip_ends : (most i : ℕ) (text : List ℕ) (total : Option (List ℕ)) → most ≤ i → suffix_of (params_at (most - i) text) ≡ total → total ≡ None
unfolding params_at
skip_ends most i text total le so_far =
    let none : most - i ≡ 0 = omega arith in
    sym so_far ∙ ap (λ (n : ℕ). suffix_of (params_at n text)) none
