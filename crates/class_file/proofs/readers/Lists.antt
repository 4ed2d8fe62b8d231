-- Readers of lists: so many steps, where a step may look at what was read before it.
use Rattle.std.proofs.Common.{◌≡◌, ℕ, zero, suc, ◌<◌, List, [], ◌∷◌, ◌++◌, length, map, Result, Ok, Err, refl, sym, ap, subst, ◌∙◌, append_assoc, arith}
use Rattle.std.specs.List.{flat_map, AllByRecursion}
use Rattle.std.proofs.lemmas.List.{append-nil}
use Rattle.byte_read.proofs.Steps.{IsBytes, joined, bind_then, bind_fails_then, ok_is, no_failure, then_ok, then_err}
use Rattle.class_file.specs.declared.refusal.ReadRefusal.{ReadRefusal}
use Rattle.class_file.specs.Layout.{u2, counted}
use Rattle.class_file.specs.Relation.{FitsU2}
use Rattle.byte_read.specs.Reading.{steps_at, one_more}
use Rattle.class_file.specs.Reading.{counted_at, list_at}
use Rattle.class_file.proofs.readers.Steps.{IsPartFault}
use Rattle.class_file.proofs.readers.Parts.{Taken, Reads, u2_reads, first, last, reshaped}

-- each part is good, seen from the state that those before it left
abbrev pub AllFrom : {S L : Type 0} → (S → L → Type 0) → (S → L → S) → S → List L → Type 0
AllFrom Good next s [] = Unit {0}
AllFrom Good next s (part ∷ parts) = Good s part × AllFrom Good next (next s part) parts

-- the state after all parts
abbrev pub after : {S L : Type 0} → (S → L → S) → S → List L → S
after next s [] = s
after next s (part ∷ parts) = after next (next s part) parts

module _ {S L : Type 0} {step : S → List ℕ → Result (S × List ℕ) ReadRefusal} {text : L → List ℕ} {next : S → L → S} {Good : S → L → Type 0} (one : (s : S) → Reads (step s) text (next s) (Good s)) where
  abbrev AreGood : S → ℕ → List L → Type 0
  AreGood s count parts = (length parts ≡ count) × AllFrom Good next s parts

  steps_taken : (s : S) (count : ℕ) (bytes : List ℕ) (x : S × List ℕ) → IsBytes bytes → steps_at step s count bytes ≡ Ok x → Taken (flat_map text) (after next s) (AreGood s count) bytes x
  unfolding steps_at
  steps_taken s zero bytes x fits e =
      subst (Taken (flat_map text) (after next s) (AreGood s 0) bytes) (ok_is (s, bytes) x e) (record { part = []; takes = record { parts = refl; rest_fits = fits }; good = (refl, tt); value_is = refl })
  steps_taken s (suc count) bytes x fits e =
      bind_then (step s bytes) (λ y. steps_at step y.0 count y.1) x e (λ y at_y e_x.
      let t = (one s).taken bytes y fits at_y in
      let o = steps_taken y.0 count y.1 x t.takes.rest_fits e_x in
      record {
        part = t.part ∷ o.part;
        takes = joined t.takes o.takes;
        good = (ap suc o.good.0, (t.good, subst (λ (now : S). AllFrom Good next now o.part) (sym t.value_is) o.good.1));
        value_is = ap (λ (now : S). after next now o.part) t.value_is ∙ o.value_is;
      })

  steps_again : (s : S) (parts : List L) (rest : List ℕ) → AllFrom Good next s parts → steps_at step s (length parts) (flat_map text parts ++ rest) ≡ Ok (after next s parts, rest)
  unfolding steps_at
  steps_again s [] rest good = refl
  steps_again s (part ∷ parts) rest good =
      ap (steps_at step s (suc (length parts))) (append_assoc (text part) (flat_map text parts) rest)
      ∙ then_ok (λ y. steps_at step y.0 (length parts) y.1) (Ok (after next (next s part) parts, rest)) ((one s).again part (flat_map text parts ++ rest) good.0) (steps_again (next s part) parts rest good.1)

  steps_fail : (s : S) (count : ℕ) (bytes : List ℕ) (why : ReadRefusal) → IsBytes bytes → steps_at step s count bytes ≡ Err why → IsPartFault why
  unfolding steps_at
  steps_fail s zero bytes why fits e = absurd (no_failure (s, bytes) why e)
  steps_fail s (suc count) bytes why fits e =
      bind_fails_then (step s bytes) (λ y. steps_at step y.0 count y.1) why e (λ at_why. (one s).fails bytes why fits at_why)
      (λ y at_y e_why. steps_fail y.0 count y.1 why ((one s).taken bytes y fits at_y).takes.rest_fits e_why)

  steps_reads : (s : S) (count : ℕ) → Reads (steps_at step s count) (flat_map text) (after next s) (AreGood s count)
  steps_reads s count =
      record {
        taken = steps_taken s count;
        again = λ parts rest good. ap (λ (n : ℕ). steps_at step s n (flat_map text parts ++ rest)) (sym good.0) ∙ steps_again s parts rest good.1;
        fails = steps_fail s count;
      }

  -- the count, and so many parts
  pub counted_reads : (s : S) → Reads (counted_at step s) (counted text) (after next s) (λ parts. FitsU2 (length parts) × AllFrom Good next s parts)
  unfolding counted_at
  counted_reads s =
      reshaped (first u2_reads (λ count. steps_reads s count)) (λ p. p.1)
      (λ p good. (ap (λ (n : ℕ). u2 n ++ flat_map text p.1) (sym good.1.0), refl, (subst FitsU2 (sym good.1.0) good.0, good.1.1)))
      (λ parts. (length parts, parts))
      (λ parts good. (refl, refl, (good.0, (refl, good.1))))

-- the last of good parts is good, seen from the state that the others left
pub last_from : {S L : Type 0} (Good : S → L → Type 0) (next : S → L → S) (s : S) (parts : List L) (part : L) → AllFrom Good next s (parts ++ part ∷ []) → Good (after next s parts) part
last_from Good next s [] part all = all.0
last_from Good next s (other ∷ parts) part all = last_from Good next (next s other) parts part all.1

-- steps stop at one, after good parts that are fewer than they
pub record Stops {S L : Type 0} (step : S → List ℕ → Result (S × List ℕ) ReadRefusal) (text : L → List ℕ) (next : S → L → S) (Good : S → L → Type 0) (s : S) (count : ℕ) (bytes : List ℕ) (why : ReadRefusal) : Type 0 where
  pub parts : List L
  pub rest : List ℕ
  pub fewer : length parts < count
  pub encoded : bytes ≡ flat_map text parts ++ rest
  pub rest_fits : IsBytes rest
  pub good : AllFrom Good next s parts
  pub fails : step (after next s parts) rest ≡ Err why

module _ {S L : Type 0} {step : S → List ℕ → Result (S × List ℕ) ReadRefusal} {text : L → List ℕ} {next : S → L → S} {Good : S → L → Type 0} (one : (s : S) → Reads (step s) text (next s) (Good s)) where
  pub steps_stop : (s : S) (count : ℕ) (bytes : List ℕ) (why : ReadRefusal) → IsBytes bytes → steps_at step s count bytes ≡ Err why → Stops step text next Good s count bytes why
  unfolding steps_at
  steps_stop s zero bytes why fits e = absurd (no_failure (s, bytes) why e)
  steps_stop s (suc count) bytes why fits e =
      bind_fails_then (step s bytes) (λ y. steps_at step y.0 count y.1) why e
      (λ at_why. record { parts = []; rest = bytes; fewer = omega arith; encoded = refl; rest_fits = fits; good = tt; fails = at_why })
      (λ y at_y e_why.
      let t = (one s).taken bytes y fits at_y in
      let o = steps_stop y.0 count y.1 why t.takes.rest_fits e_why in
      record {
        parts = t.part ∷ o.parts;
        rest = o.rest;
        fewer = omega (arith, o.fewer);
        encoded = t.takes.parts ∙ ap (λ (rest : List ℕ). text t.part ++ rest) o.encoded ∙ sym (append_assoc (text t.part) (flat_map text o.parts) o.rest);
        rest_fits = o.rest_fits;
        good = (t.good, subst (λ (now : S). AllFrom Good next now o.parts) (sym t.value_is) o.good);
        fails = subst (λ (now : S). step (after next now o.parts) o.rest ≡ Err why) (sym t.value_is) o.fails;
      })

  pub stops_again : (s : S) (parts : List L) (count : ℕ) (rest : List ℕ) (why : ReadRefusal) → length parts < count → AllFrom Good next s parts → step (after next s parts) rest ≡ Err why → steps_at step s count (flat_map text parts ++ rest) ≡ Err why
  unfolding steps_at
  stops_again s parts zero rest why lt good e = absurd (omega (arith, lt))
  stops_again s [] (suc count) rest why lt good e = then_err (λ y. steps_at step y.0 count y.1) e
  stops_again s (part ∷ parts) (suc count) rest why lt good e =
      ap (steps_at step s (suc count)) (append_assoc (text part) (flat_map text parts) rest)
      ∙ then_ok (λ y. steps_at step y.0 count y.1) (Err why) ((one s).again part (flat_map text parts ++ rest) good.0) (stops_again (next s part) parts count rest why (omega (arith, lt)) good.1 e)

-- the value of one more part after the earlier ones
abbrev pub pushed : {A L : Type 0} → (L → A) → List A → L → List A
pushed value earlier part = earlier ++ value part ∷ []

all_pushed : {A L : Type 0} (value : L → A) (earlier : List A) (parts : List L) → after (pushed value) earlier parts ≡ earlier ++ map value parts
all_pushed value earlier [] = sym (append-nil earlier)
all_pushed value earlier (part ∷ parts) = all_pushed value (earlier ++ value part ∷ []) parts ∙ append_assoc earlier (value part ∷ []) (map value parts)

pub list_reads : {A L : Type 0} {item : List A → List ℕ → Result (A × List ℕ) ReadRefusal} {text : L → List ℕ} {value : L → A} {Good : List A → L → Type 0}
    → ((earlier : List A) → Reads (item earlier) text value (Good earlier))
    → Reads (list_at item) (counted text) (map value) (λ parts. FitsU2 (length parts) × AllFrom Good (pushed value) [] parts)
list_reads {item = item} {text = text} {value = value} {Good = Good} one =
    let steps : (earlier : _) → Reads (one_more item earlier) text (pushed value earlier) (Good earlier) = λ earlier. last (one earlier) (λ a. earlier ++ a ∷ []) in
    reshaped (counted_reads steps []) (λ parts. parts)
    (λ parts good. (refl, sym (all_pushed value [] parts), good))
    (λ parts. parts)
    (λ parts good. (refl, all_pushed value [] parts, good))

-- ---- what is good, by its causes

pub split : {S L : Type 0} (P Q : L → Type 0) (next : S → L → S) (s : S) (parts : List L) → AllFrom (λ now part. P part × Q part) next s parts → AllByRecursion P parts × AllByRecursion Q parts
split P Q next s [] all = (tt, tt)
split P Q next s (part ∷ parts) all =
    let others = split P Q next (next s part) parts all.1 in
    ((all.0.0, others.0), (all.0.1, others.1))

pub merged : {S L : Type 0} (P Q : L → Type 0) (next : S → L → S) (s : S) (parts : List L) → AllByRecursion P parts → AllByRecursion Q parts → AllFrom (λ now part. P part × Q part) next s parts
merged P Q next s [] p q = tt
merged P Q next s (part ∷ parts) p q = ((p.0, q.0), merged P Q next (next s part) parts p.1 q.1)

pub split_off : {S L : Type 0} (P : L → Type 0) (R : S → L → Type 0) (next : S → L → S) (s : S) (parts : List L) → AllFrom (λ now part. P part × R now part) next s parts → AllByRecursion P parts × AllFrom R next s parts
split_off P R next s [] all = (tt, tt)
split_off P R next s (part ∷ parts) all =
    let others = split_off P R next (next s part) parts all.1 in
    ((all.0.0, others.0), (all.0.1, others.1))

pub merged_with : {S L : Type 0} (P : L → Type 0) (R : S → L → Type 0) (next : S → L → S) (s : S) (parts : List L) → AllByRecursion P parts → AllFrom R next s parts → AllFrom (λ now part. P part × R now part) next s parts
merged_with P R next s [] p r = tt
merged_with P R next s (part ∷ parts) p r = ((p.0, r.0), merged_with P R next (next s part) parts p.1 r.1)

-- two facts of each part
pub unzipped : {L : Type 0} (P Q : L → Type 0) (parts : List L) → AllByRecursion (λ part. P part × Q part) parts → AllByRecursion P parts × AllByRecursion Q parts
unzipped P Q [] all = (tt, tt)
unzipped P Q (part ∷ parts) all =
    let others = unzipped P Q parts all.1 in
    ((all.0.0, others.0), (all.0.1, others.1))

pub zipped : {L : Type 0} (P Q : L → Type 0) (parts : List L) → AllByRecursion P parts → AllByRecursion Q parts → AllByRecursion (λ part. P part × Q part) parts
zipped P Q [] p q = tt
zipped P Q (part ∷ parts) p q = ((p.0, q.0), zipped P Q parts p.1 q.1)
