-- A list is refused for its count or for one of its items, after good ones; and nothing by the rules begins
-- where a reader refuses bytes that it did not miss.
use Rattle.std.proofs.Common.{◌≡◌, ◌⊎◌, ℕ, zero, suc, ◌<◌, List, [], ◌∷◌, ◌++◌, length, Result, Ok, Err, refl, sym, ap, ◌∙◌, append_assoc, arith, inl, inr}
use Rattle.std.specs.List.{flat_map}
use Rattle.std.proofs.lemmas.List.{append-nil}
use Rattle.byte_read.specs.Reading.{◌>>=◌, steps_at}
use Rattle.byte_read.proofs.Steps.{IsBytes, bind_fails_then, no_failure, same_why}
use Rattle.byte_read.proofs.Steady.{Persists}
use Rattle.byte_read.proofs.Loop.{items_step}
use Rattle.image_instr.specs.Insn.{u2}
use Rattle.image_form.specs.declared.refusal.FormRefusal.{FormRefusal}
use Rattle.image_form.specs.declared.refusal.FormRefusal.TheVariants.{Truncated}
use Rattle.image_form.specs.Grammar.{EachAfter}
use Rattle.image_form.specs.Reading.{items_at}
use Rattle.image_form.specs.BadTables.{BeginsNone, HasBadItem}
use Rattle.image_form.proofs.format.Readers.{Reader, Reads}
use Rattle.image_form.proofs.faults.PrefixesReaders.{IsSteady}

still_refused : {A : Type 0} (more : List ℕ) (r longer : Result (A × List ℕ) FormRefusal) (why : FormRefusal) → r ≡ Err why → (why ≡ Truncated → ⊥) → Persists Truncated more r longer → longer ≡ Err why
still_refused more (Ok x) longer why e not_cut persists = absurd (no_failure x why e)
still_refused {A} more (Err d) longer why e not_cut (inl cut) = absurd (not_cut (sym (same_why {A = A × List ℕ} d why e) ∙ cut))
still_refused more (Err d) longer why e not_cut (inr same) = same ∙ e

pub begins_none : {A : Type 0} {Is : A → Type 0} {bytes_of : A → List ℕ} {read : Reader A} → Reads A Is bytes_of read → IsSteady read → (bytes : List ℕ) (why : FormRefusal) → read bytes ≡ Err why → (why ≡ Truncated → ⊥) → BeginsNone bytes_of Is bytes
begins_none {read} one steady bytes why e not_cut part more suffix is whole =
    no_failure (part, suffix) why (sym (ap read whole ∙ one.again part suffix is) ∙ still_refused more (read bytes) (read (bytes ++ more)) why e not_cut (steady.persists bytes more))

-- ---- items

record ItemsStop {A : Type 0} (P : List A → A → Type 0) (item_bytes : A → List ℕ) (item_at : List A → Reader A) (room : ℕ) (before : List A) (bytes : List ℕ) (why : FormRefusal) : Type 0 where
  items : List A
  rest : List ℕ
  fewer : length items < room
  encoded : bytes ≡ flat_map item_bytes items ++ rest
  are : EachAfter P before items
  fails : item_at (before ++ items) rest ≡ Err why

module _ {A : Type 0} {P : List A → A → Type 0} {item_bytes : A → List ℕ} {item_at : List A → Reader A} (reads : (before : List A) → Reads A (P before) item_bytes (item_at before)) where
  items_stop : (room : ℕ) (before : List A) (bytes : List ℕ) (why : FormRefusal) → IsBytes bytes → items_at item_at room before bytes ≡ Err why → ItemsStop P item_bytes item_at room before bytes why
  unfolding steps_at
  items_stop zero before bytes why fits e = absurd (no_failure (before, bytes) why e)
  items_stop (suc room) before bytes why fits e =
      bind_fails_then (item_at before bytes) (λ item. items_at item_at room (before ++ item.0 ∷ []) item.1) why (sym (items_step item_at before room bytes) ∙ e)
      (λ at_why. record { items = []; rest = bytes; fewer = omega arith; encoded = refl; are = tt; fails = ap (λ (all : List A). item_at all bytes) (append-nil before) ∙ at_why })
      (λ item at_item e_why.
      let t = (reads before).taken bytes item fits at_item in
      let o = items_stop room (before ++ item.0 ∷ []) item.1 why t.rest_fits e_why in
      record {
        items = item.0 ∷ o.items;
        rest = o.rest;
        fewer = omega (arith, o.fewer);
        encoded = t.parts ∙ ap (λ (rest : List ℕ). item_bytes item.0 ++ rest) o.encoded ∙ sym (append_assoc (item_bytes item.0) (flat_map item_bytes o.items) o.rest);
        are = (t.is, o.are);
        fails = ap (λ (all : List A). item_at all o.rest) (sym (append_assoc before (item.0 ∷ []) o.items)) ∙ o.fails;
      })

  -- the count is refused, or an item after good ones
  pub list_stops : {IsCount : ℕ → Type 0} {count_at : Reader ℕ} → Reads ℕ IsCount u2 count_at → IsSteady count_at → ((before : List A) → IsSteady (item_at before)) → (bytes : List ℕ) (why : FormRefusal) → IsBytes bytes → (why ≡ Truncated → ⊥)
      → (count_at bytes >>= λ count. items_at item_at count.0 [] count.1) ≡ Err why
      → ((count_at bytes ≡ Err why) × BeginsNone u2 IsCount bytes) ⊎ ((index : ℕ) × (items : List A) × (rest : List ℕ) × (index ≡ length items) × HasBadItem IsCount P item_bytes bytes index × (item_at items rest ≡ Err why))
  list_stops {IsCount} {count_at} counts count_steady steady bytes why fits not_cut e =
      bind_fails_then (count_at bytes) (λ count. items_at item_at count.0 [] count.1) why e (λ at_count. inl (at_count, begins_none counts count_steady bytes why at_count not_cut)) (λ count at_count e_items.
      let c = counts.taken bytes count fits at_count in
      let s = items_stop count.0 [] count.1 why c.rest_fits e_items in
      let bad : HasBadItem IsCount P item_bytes bytes (length s.items) =
      record {
        count = count.0;
        items = s.items;
        rest = s.rest;
        count_is = c.is;
        fewer = s.fewer;
        index_is = refl;
        encoded = c.parts ∙ ap (λ (rest : List ℕ). u2 count.0 ++ rest) s.encoded;
        are_good = s.are;
        none = begins_none (reads s.items) (steady s.items) s.rest why s.fails not_cut;
      } in
      inr (length s.items, s.items, s.rest, refl, bad, s.fails))
