-- The search for a key among rows in the code whose keys rise.
use Rattle.std.proofs.Common.{◌≡◌, ℕ, ℤ, zero, suc, ◌+◌, ◌-◌, ◌*◌, ◌<◌, ◌≤◌, ◌<ℤ◌, ◌≤ℤ◌, Bool, true, false, cond, List, drop, Option, Some, None, refl, sym, ap, subst, ◌∙◌, arith}
use Rattle.std.specs.Int.Signed.{lt_z}
use Rattle.std.specs.Ordering.{int_eq}
use Rattle.std.proofs.lemmas.Int.{ints, by_lt_z}
use Rattle.std.proofs.lemmas.List.{drop-drop}
use Rattle.std.proofs.lemmas.Bool.Decides.{Decides-int_eq}
use Rattle.byteorder.specs.Endian.{big_number}
use Rattle.image_instr.specs.Reading.{key_in, is_above, keys_rise, rows_in}
use Rattle.image_instr.specs.Switch.{target_in}
use Rattle.image_instr.proofs.encoding.Forms.{both_true}
use Rattle.image_instr.proofs.switches.Targets.{not_true}

above_of : (before key : ℤ) → is_above (Some before) key ≡ true → before <ℤ key
above_of before key e = grind (arith, ints)

next_row : (k : ℕ) (bytes : List ℕ) → drop (6 * k) (drop 6 bytes) ≡ drop (6 * suc k) bytes
next_row k bytes = drop-drop (6 * k) 6 bytes ∙ ap (λ (n : ℕ). drop n bytes) (omega arith)

-- the first row is above what came before, and the others rise from it
rise_parts : (count : ℕ) (before : Option ℤ) (bytes : List ℕ) → keys_rise (suc count) before bytes ≡ true → (is_above before (key_in bytes) ≡ true) × (keys_rise count (Some (key_in bytes)) (drop 6 bytes) ≡ true)
unfolding keys_rise
rise_parts count before bytes rise =
    both_true (is_above before (key_in bytes)) (keys_rise count (Some (key_in bytes)) (drop 6 bytes)) rise

rise_from : (count : ℕ) (before : Option ℤ) (bytes : List ℕ) → is_above before (key_in bytes) ≡ true → keys_rise count (Some (key_in bytes)) (drop 6 bytes) ≡ true → keys_rise (suc count) before bytes ≡ true
unfolding keys_rise
rise_from count before bytes first rest = rw (first, rest) refl

-- each key is above what came before
above : (count k : ℕ) (before : ℤ) (bytes : List ℕ) → keys_rise count (Some before) bytes ≡ true → k < count → before <ℤ key_in (drop (6 * k) bytes)
above zero k before bytes rise lt = absurd (omega arith)
above (suc count) zero before bytes rise lt = above_of before (key_in bytes) (rise_parts count (Some before) bytes rise).0
above (suc count) (suc k) before bytes rise lt =
    let parts = rise_parts count (Some before) bytes rise in
    let first = above_of before (key_in bytes) parts.0 in
    let rest = subst (λ (b : List ℕ). key_in bytes <ℤ key_in b) (next_row k bytes) (above count k (key_in bytes) (drop 6 bytes) parts.1 (omega arith)) in
    omega (arith, ints, first, rest)

-- with the first row of another key
other_row : (count : ℕ) (default : ℕ) (bytes : List ℕ) (wanted : ℤ) → (key_in bytes ≡ wanted → ⊥) → target_in default (rows_in (suc count) bytes) wanted ≡ target_in default (rows_in count (drop 6 bytes)) wanted
unfolding rows_in
other_row count default bytes wanted other =
    ap (λ (b : Bool). cond b (big_number 2 (drop 4 bytes)) (target_in default (rows_in count (drop 6 bytes)) wanted)) (not_true (int_eq (key_in bytes) wanted) (λ e. other ((Decides-int_eq (key_in bytes) wanted).0 e)))

same_row : (count : ℕ) (default : ℕ) (bytes : List ℕ) (wanted : ℤ) → key_in bytes ≡ wanted → target_in default (rows_in (suc count) bytes) wanted ≡ big_number 2 (drop 4 bytes)
unfolding rows_in
same_row count default bytes wanted same =
    ap (λ (b : Bool). cond b (big_number 2 (drop 4 bytes)) (target_in default (rows_in count (drop 6 bytes)) wanted)) ((Decides-int_eq (key_in bytes) wanted).1 same)

no_row : (default : ℕ) (bytes : List ℕ) (wanted : ℤ) → target_in default (rows_in 0 bytes) wanted ≡ default
unfolding rows_in
no_row default bytes wanted = refl

either_row : (m n : ℕ) (default : ℕ) (bytes : List ℕ) (wanted : ℤ) → target_in default (rows_in m (drop 6 bytes)) wanted ≡ target_in default (rows_in n (drop 6 bytes)) wanted → target_in default (rows_in (suc m) bytes) wanted ≡ target_in default (rows_in (suc n) bytes) wanted
unfolding rows_in
either_row m n default bytes wanted e =
    ap (λ (rest : ℕ). cond (int_eq (key_in bytes) wanted) (big_number 2 (drop 4 bytes)) rest) e

-- a number that is not above what came before is no key
low_key : (count : ℕ) (before : ℤ) (default : ℕ) (bytes : List ℕ) (wanted : ℤ) → keys_rise count (Some before) bytes ≡ true → wanted ≤ℤ before → target_in default (rows_in count bytes) wanted ≡ default
low_key zero before default bytes wanted rise le = no_row default bytes wanted
low_key (suc count) before default bytes wanted rise le =
    let parts = rise_parts count (Some before) bytes rise in
    let first = above_of before (key_in bytes) parts.0 in
    other_row count default bytes wanted (λ e. omega (arith, ints, first, le, e))
    ∙ low_key count (key_in bytes) default (drop 6 bytes) wanted parts.1 (omega (arith, ints, first, le))

-- a number below a key is among the rows before it
pub below : (count k : ℕ) (before : Option ℤ) (default : ℕ) (bytes : List ℕ) (wanted : ℤ) → keys_rise count before bytes ≡ true → k < count → wanted <ℤ key_in (drop (6 * k) bytes) → target_in default (rows_in count bytes) wanted ≡ target_in default (rows_in k bytes) wanted
below zero k before default bytes wanted rise lt under = absurd (omega arith)
below (suc count) zero before default bytes wanted rise lt under =
    let parts = rise_parts count before bytes rise in
    other_row count default bytes wanted (λ e. omega (arith, ints, under, e))
    ∙ low_key count (key_in bytes) default (drop 6 bytes) wanted parts.1 (omega (arith, ints, under))
    ∙ sym (no_row default bytes wanted)
below (suc count) (suc k) before default bytes wanted rise lt under =
    let parts = rise_parts count before bytes rise in
    either_row count k default bytes wanted
    (below count k (Some (key_in bytes)) default (drop 6 bytes) wanted parts.1 (omega arith) (subst (λ (b : List ℕ). wanted <ℤ key_in b) (sym (next_row k bytes)) under))

-- a number above a key is among the rows after it
pub beyond : (count k : ℕ) (before : Option ℤ) (default : ℕ) (bytes : List ℕ) (wanted : ℤ) → keys_rise count before bytes ≡ true → k < count → key_in (drop (6 * k) bytes) <ℤ wanted → target_in default (rows_in count bytes) wanted ≡ target_in default (rows_in (count - (k + 1)) (drop (6 * (k + 1)) bytes)) wanted
beyond zero k before default bytes wanted rise lt over = absurd (omega arith)
beyond (suc count) zero before default bytes wanted rise lt over =
    let e : count ≡ suc count - (zero + 1) = omega arith in
    other_row count default bytes wanted (λ same. omega (arith, ints, over, same))
    ∙ ap (λ (n : ℕ). target_in default (rows_in n (drop 6 bytes)) wanted) e
beyond (suc count) (suc k) before default bytes wanted rise lt over =
    let parts = rise_parts count before bytes rise in
    let first = subst (λ (b : List ℕ). key_in bytes <ℤ key_in b) (next_row k bytes) (above count k (key_in bytes) (drop 6 bytes) parts.1 (omega arith)) in
    let on = beyond count k (Some (key_in bytes)) default (drop 6 bytes) wanted parts.1 (omega arith) (subst (λ (b : List ℕ). key_in b <ℤ wanted) (sym (next_row k bytes)) over) in
    let e : count - (k + 1) ≡ suc count - (suc k + 1) = omega arith in
    let f : drop (6 * (k + 1)) (drop 6 bytes) ≡ drop (6 * (suc k + 1)) bytes = drop-drop (6 * (k + 1)) 6 bytes ∙ ap (λ (n : ℕ). drop n bytes) (omega arith) in
    other_row count default bytes wanted (λ same. omega (arith, ints, over, first, same)) ∙ on
    ∙ (λ i. target_in default (rows_in (e i) (f i)) wanted)

-- a key gives its row
pub here : (count k : ℕ) (before : Option ℤ) (default : ℕ) (bytes : List ℕ) (wanted : ℤ) → keys_rise count before bytes ≡ true → k < count → key_in (drop (6 * k) bytes) ≡ wanted → target_in default (rows_in count bytes) wanted ≡ big_number 2 (drop 4 (drop (6 * k) bytes))
here zero k before default bytes wanted rise lt is = absurd (omega arith)
here (suc count) zero before default bytes wanted rise lt is = same_row count default bytes wanted is
here (suc count) (suc k) before default bytes wanted rise lt is =
    let parts = rise_parts count before bytes rise in
    let first = subst (λ (b : List ℕ). key_in bytes <ℤ key_in b) (next_row k bytes) (above count k (key_in bytes) (drop 6 bytes) parts.1 (omega arith)) in
    other_row count default bytes wanted (λ same. omega (arith, ints, is, first, same))
    ∙ here count k (Some (key_in bytes)) default (drop 6 bytes) wanted parts.1 (omega arith) (ap key_in (next_row k bytes) ∙ is)
    ∙ ap (λ (b : List ℕ). big_number 2 (drop 4 b)) (next_row k bytes)

-- the rows before one rise, and those after it
pub rise_before : (count k : ℕ) (before : Option ℤ) (bytes : List ℕ) → keys_rise count before bytes ≡ true → k ≤ count → keys_rise k before bytes ≡ true
unfolding keys_rise
rise_before count zero before bytes rise le = refl
rise_before zero (suc k) before bytes rise le = absurd (omega arith)
rise_before (suc count) (suc k) before bytes rise le =
    let parts = rise_parts count before bytes rise in
    rise_from k before bytes parts.0 (rise_before count k (Some (key_in bytes)) (drop 6 bytes) parts.1 (omega arith))

rise_alone : (count : ℕ) (before : Option ℤ) (bytes : List ℕ) → keys_rise count before bytes ≡ true → keys_rise count None bytes ≡ true
unfolding keys_rise
rise_alone zero before bytes rise = refl
rise_alone (suc count) before bytes rise = rise_from count None bytes refl (rise_parts count before bytes rise).1

pub rise_after : (count k : ℕ) (before : Option ℤ) (bytes : List ℕ) → keys_rise count before bytes ≡ true → k < count → keys_rise (count - (k + 1)) None (drop (6 * (k + 1)) bytes) ≡ true
rise_after zero k before bytes rise lt = absurd (omega arith)
rise_after (suc count) zero before bytes rise lt =
    let e : count ≡ suc count - (zero + 1) = omega arith in
    subst (λ (n : ℕ). keys_rise n None (drop 6 bytes) ≡ true) e (rise_alone count (Some (key_in bytes)) (drop 6 bytes) (rise_parts count before bytes rise).1)
rise_after (suc count) (suc k) before bytes rise lt =
    let on = rise_after count k (Some (key_in bytes)) (drop 6 bytes) (rise_parts count before bytes rise).1 (omega arith) in
    let e : count - (k + 1) ≡ suc count - (suc k + 1) = omega arith in
    let f : drop (6 * (k + 1)) (drop 6 bytes) ≡ drop (6 * (suc k + 1)) bytes = drop-drop (6 * (k + 1)) 6 bytes ∙ ap (λ (n : ℕ). drop n bytes) (omega arith) in
    subst (λ (n : ℕ). keys_rise n None (drop (6 * (suc k + 1)) bytes) ≡ true) e (subst (λ (b : List ℕ). keys_rise (count - (k + 1)) None b ≡ true) f on)

-- ---- the rows from a low index to a high one, and one between them

module _ (low middle high : ℕ) (rows : List ℕ) (from : low ≤ middle) (to : middle < high) (rise : keys_rise (high - low) None (drop (6 * low) rows) ≡ true) where
  row_is : drop (6 * (middle - low)) (drop (6 * low) rows) ≡ drop (6 * middle) rows
  row_is = drop-drop (6 * (middle - low)) (6 * low) rows ∙ ap (λ (n : ℕ). drop n rows) (omega (arith, from))

  after_is : drop (6 * ((middle - low) + 1)) (drop (6 * low) rows) ≡ drop (6 * (middle + 1)) rows
  after_is = drop-drop (6 * ((middle - low) + 1)) (6 * low) rows ∙ ap (λ (n : ℕ). drop n rows) (omega (arith, from))

  left_after : (high - low) - ((middle - low) + 1) ≡ high - (middle + 1)
  left_after = omega (arith, from, to)

  within : middle - low < high - low
  within = omega (arith, from, to)

  pub rise_right : keys_rise (high - (middle + 1)) None (drop (6 * (middle + 1)) rows) ≡ true
  rise_right =
      let on = rise_after (high - low) (middle - low) None (drop (6 * low) rows) rise within in
      subst (λ (n : ℕ). keys_rise n None (drop (6 * (middle + 1)) rows) ≡ true) left_after (subst (λ (b : List ℕ). keys_rise ((high - low) - ((middle - low) + 1)) None b ≡ true) after_is on)

  pub rise_left : keys_rise (middle - low) None (drop (6 * low) rows) ≡ true
  rise_left = rise_before (high - low) (middle - low) None (drop (6 * low) rows) rise (omega (arith, within))

  pub go_right : (default : ℕ) (wanted : ℤ) → key_in (drop (6 * middle) rows) <ℤ wanted → target_in default (rows_in (high - (middle + 1)) (drop (6 * (middle + 1)) rows)) wanted ≡ target_in default (rows_in (high - low) (drop (6 * low) rows)) wanted
  go_right default wanted over =
      sym (beyond (high - low) (middle - low) None default (drop (6 * low) rows) wanted rise within (subst (λ (b : List ℕ). key_in b <ℤ wanted) (sym row_is) over)
      ∙ (λ i. target_in default (rows_in (left_after i) (after_is i)) wanted))

  pub go_left : (default : ℕ) (wanted : ℤ) → wanted <ℤ key_in (drop (6 * middle) rows) → target_in default (rows_in (middle - low) (drop (6 * low) rows)) wanted ≡ target_in default (rows_in (high - low) (drop (6 * low) rows)) wanted
  go_left default wanted under =
      sym (below (high - low) (middle - low) None default (drop (6 * low) rows) wanted rise within (subst (λ (b : List ℕ). wanted <ℤ key_in b) (sym row_is) under))

  pub found_here : (default : ℕ) (wanted : ℤ) → key_in (drop (6 * middle) rows) ≡ wanted → big_number 2 (drop 4 (drop (6 * middle) rows)) ≡ target_in default (rows_in (high - low) (drop (6 * low) rows)) wanted
  found_here default wanted is =
      sym (here (high - low) (middle - low) None default (drop (6 * low) rows) wanted rise within (ap key_in row_is ∙ is)
      ∙ ap (λ (b : List ℕ). big_number 2 (drop 4 b)) row_is)

pub none_left : (low high default : ℕ) (rows : List ℕ) (wanted : ℤ) → high ≤ low → default ≡ target_in default (rows_in (high - low) (drop (6 * low) rows)) wanted
none_left low high default rows wanted le =
    let e : 0 ≡ high - low = omega (arith, le) in
    sym (no_row default (drop (6 * low) rows) wanted) ∙ ap (λ (n : ℕ). target_in default (rows_in n (drop (6 * low) rows)) wanted) e

pub less : (a b : ℤ) → lt_z a b ≡ true → a <ℤ b
less a b e = grind (arith, ints)

not_less : (a b : ℤ) → lt_z a b ≡ false → b ≤ℤ a
not_less a b e = grind (arith, ints)

pub greater : (a b : ℤ) → lt_z a b ≡ false → (a ≡ b → ⊥) → b <ℤ a
greater a b e other =
    let le = not_less a b e in
    by_lt_z {P = b <ℤ a} b a (λ lt. lt) (λ ge. absurd (other (omega (arith, ints, le, ge))))
