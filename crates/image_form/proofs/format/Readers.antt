-- Readers: what a reader takes from the prefix is encoded there, it takes each encoding again, and what it
-- refuses is too short or breaks a rule of a table. Numbers, bytes after their length, and lists.
use Rattle.std.proofs.Common.{◌≡◌, ℕ, zero, suc, ◌^◌, ◌<◌, ◌≤◌, Bool, true, false, cond, leb, List, [], ◌∷◌, ◌++◌, length, Result, Ok, Err, refl, sym, ap, subst, ◌∙◌, append_assoc, arith}
use Rattle.std.specs.List.{flat_map}
use Rattle.std.proofs.lemmas.Bool.{leb-true, le-leb}
use Rattle.std.proofs.lemmas.List.{append-nil}
use Rattle.image_instr.specs.Insn.{u2}
use Rattle.image_form.specs.declared.refusal.FormRefusal.{FormRefusal}
use Rattle.image_form.specs.declared.refusal.FormRefusal.TheVariants.{NotInfusion, FormVersion, Truncated, TrailingBytes, BadTable, Memory}
use Rattle.image_form.specs.Format.{counted}
use Rattle.image_form.specs.Grammar.{EachAfter}
use Rattle.byte_read.specs.Reading.{◌>>=◌, steps_at}
use Rattle.byte_read.proofs.Steps.{IsBytes, Takes, done, ok_is, then_ok, u1_takes, u1_fails, u1_again, u2_takes, u2_again, number_fails, slice_takes, slice_fails, slice_again}
use Rattle.byte_read.proofs.Loop.{items_step}
use Rattle.image_form.specs.Reading.{u1_at, u2_at, slice_at, tested, items_at}

-- a reader of values with bytes after them
abbrev pub Reader : Type 0 → Type 0
Reader A = List ℕ → Result (A × List ℕ) FormRefusal

-- the bytes end too early, or break a rule of a table
abbrev pub IsOfTables : FormRefusal → Type 0
IsOfTables NotInfusion = ⊥
IsOfTables (FormVersion version) = ⊥
IsOfTables Truncated = Unit {0}
IsOfTables TrailingBytes = ⊥
IsOfTables (BadTable table index) = Unit {0}
IsOfTables Memory = ⊥

-- no answer, but for such a refusal
abbrev pub Refuses : {B : Type 0} → Result B FormRefusal → Type 0
Refuses (Ok x) = Unit {0}
Refuses (Err why) = IsOfTables why

-- the value was taken from the prefix
pub record Taken (A : Type 0) (Is : A → Type 0) (bytes_of : A → List ℕ) (bytes : List ℕ) (x : A × List ℕ) : Type 0 where
  pub is : Is x.0
  pub parts : bytes ≡ bytes_of x.0 ++ x.1
  pub rest_fits : IsBytes x.1

-- the reader reads the encodings of these values
pub record Reads (A : Type 0) (Is : A → Type 0) (bytes_of : A → List ℕ) (read : Reader A) : Type 0 where
  pub again : (x : A) (rest : List ℕ) → Is x → read (bytes_of x ++ rest) ≡ Ok (x, rest)
  pub taken : (bytes : List ℕ) (x : A × List ℕ) → IsBytes bytes → read bytes ≡ Ok x → Taken A Is bytes_of bytes x
  pub refuses : (bytes : List ℕ) → Refuses (read bytes)

-- ---- one reader after another

-- what was read first, and what the rest made of it
pub record Bound (A B : Type 0) (r : Result A FormRefusal) (f : A → Result B FormRefusal) (y : B) : Type 0 where
  pub first : A
  pub first_is : r ≡ Ok first
  pub then_is : f first ≡ Ok y

pub bound : {A B : Type 0} (r : Result A FormRefusal) (f : A → Result B FormRefusal) (y : B) → (r >>= f) ≡ Ok y → Bound A B r f y
bound (Ok x) f y e = record { first = x; first_is = refl; then_is = e }
bound (Err why) f y e = absurd cc

pub refuses_then : {A B : Type 0} (r : Result A FormRefusal) (f : A → Result B FormRefusal) → Refuses r → ((x : A) → Refuses (f x)) → Refuses (r >>= f)
refuses_then (Ok x) f h then = then x
refuses_then (Err why) f h then = h

refused_so : {B : Type 0} (r : Result B FormRefusal) → ((why : FormRefusal) → r ≡ Err why → why ≡ Truncated) → Refuses r
refused_so (Ok x) missed = tt
refused_so (Err why) missed = subst IsOfTables (sym (missed why refl)) tt

-- ---- the same values and bytes in other words

as_taken : {A : Type 0} {S T : A → Type 0} {s_bytes t_bytes : A → List ℕ} {bytes : List ℕ} {x : A × List ℕ} → ((x : A) → S x → T x) → ((x : A) → s_bytes x ≡ t_bytes x) → Taken A S s_bytes bytes x → Taken A T t_bytes bytes x
as_taken {x} to text t = record { is = to x.0 t.is; parts = t.parts ∙ ap (λ (prefix : List ℕ). prefix ++ x.1) (text x.0); rest_fits = t.rest_fits }

pub Reads-as : {A : Type 0} {S T : A → Type 0} {s_bytes t_bytes : A → List ℕ} {read : Reader A} → Reads A S s_bytes read → ((x : A) → S x → T x) → ((x : A) → T x → S x) → ((x : A) → s_bytes x ≡ t_bytes x) → Reads A T t_bytes read
Reads-as {read} r to from text = record {
  again = λ x rest h. ap (λ (prefix : List ℕ). read (prefix ++ rest)) (sym (text x)) ∙ r.again x rest (from x h);
  taken = λ bytes x fits e. as_taken to text (r.taken bytes x fits e);
  refuses = r.refuses;
}

-- ---- records, field by field

made_taken : {C : Type 0} (value : C) (bytes : List ℕ) (x : C × List ℕ) → IsBytes bytes → done {E = FormRefusal} (value, bytes) ≡ Ok x → Taken C (λ c. c ≡ value) (λ c. []) bytes x
made_taken {C} value bytes x fits e =
    let same : (value, bytes) ≡ x = ok_is (value, bytes) x e in
    record { is = ap (λ p. p.0) (sym same); parts = ap (λ p. p.1) same; rest_fits = subst (λ (p : C × List ℕ). IsBytes p.1) same fits }

-- a value that needs no bytes more
pub made : {C : Type 0} (value : C) → Reads C (λ c. c ≡ value) (λ c. []) (λ bytes. Ok (value, bytes))
made value = record {
  again = λ x rest h. ap (λ c. Ok (c, rest)) (sym h);
  taken = made_taken value;
  refuses = λ bytes. tt;
}

-- a field, and after it the rest of the record, which may speak of it
module _ {A C : Type 0} {IsFirst : A → Type 0} {first_bytes : A → List ℕ} {read : Reader A} {IsRest : A → C → Type 0} {rest_bytes : C → List ℕ} {next : A → Reader C} (field_of : C → A) (field_is : (a : A) (c : C) → IsRest a c → field_of c ≡ a) (reads : Reads A IsFirst first_bytes read) (reads_rest : (a : A) → Reads C (IsRest a) rest_bytes (next a)) where
  abbrev go_on : A × List ℕ → Result (C × List ℕ) FormRefusal
  go_on x = next x.0 x.1

  abbrev IsWhole : C → Type 0
  IsWhole c = IsFirst (field_of c) × IsRest (field_of c) c

  abbrev whole_bytes : C → List ℕ
  whole_bytes c = first_bytes (field_of c) ++ rest_bytes c

  field_again : (c : C) (rest : List ℕ) → IsWhole c → (read (whole_bytes c ++ rest) >>= go_on) ≡ Ok (c, rest)
  field_again c rest h =
      ap (λ (text : List ℕ). read text >>= go_on) (append_assoc (first_bytes (field_of c)) (rest_bytes c) rest)
      ∙ then_ok go_on _ (reads.again (field_of c) (rest_bytes c ++ rest) h.0) ((reads_rest (field_of c)).again c rest h.1)

  field_by : (bytes : List ℕ) (a : A) (back : List ℕ) (x : C × List ℕ) → IsFirst a → bytes ≡ first_bytes a ++ back → Taken C (IsRest a) rest_bytes back x → Taken C IsWhole whole_bytes bytes x
  field_by bytes a back x is parts t =
      let same : a ≡ field_of x.0 = sym (field_is a x.0 t.is) in
      record {
        is = (subst IsFirst same is, subst (λ (v : A). IsRest v x.0) same t.is);
        parts =
            parts
            ∙ ap (λ (text : List ℕ). first_bytes a ++ text) t.parts
            ∙ ap (λ (v : A). first_bytes v ++ (rest_bytes x.0 ++ x.1)) same
            ∙ sym (append_assoc (first_bytes (field_of x.0)) (rest_bytes x.0) x.1);
        rest_fits = t.rest_fits;
      }

  field_taken : (bytes : List ℕ) (x : C × List ℕ) → IsBytes bytes → (read bytes >>= go_on) ≡ Ok x → Taken C IsWhole whole_bytes bytes x
  field_taken bytes x fits e =
      let b = bound (read bytes) go_on x e in
      let first = reads.taken bytes b.first fits b.first_is in
      field_by bytes b.first.0 b.first.1 x first.is first.parts ((reads_rest b.first.0).taken b.first.1 x first.rest_fits b.then_is)

  pub field_reads : Reads C (λ c. IsFirst (field_of c) × IsRest (field_of c) c) (λ c. first_bytes (field_of c) ++ rest_bytes c) (λ bytes. read bytes >>= λ x. next x.0 x.1)
  field_reads = record {
    again = field_again;
    taken = field_taken;
    refuses = λ bytes. refuses_then (read bytes) go_on (reads.refuses bytes) (λ x. (reads_rest x.0).refuses x.1);
  }

-- ---- numbers

taken_so : {A : Type 0} {Is : A → Type 0} {bytes_of : A → List ℕ} {bytes : List ℕ} {x : A × List ℕ} → Takes bytes (bytes_of x.0) x.1 → Is x.0 → Taken A Is bytes_of bytes x
taken_so takes is = record { is = is; parts = takes.parts; rest_fits = takes.rest_fits }

pub u1_reads : Reads ℕ (λ n. n < 2 ^ 8) (λ n. n ∷ []) u1_at
u1_reads = record {
  again = λ n rest h. u1_again Truncated n rest;
  taken =
      λ bytes x fits e.
      let t = u1_takes Truncated bytes x fits e in
      taken_so t.0 t.1;
  refuses = λ bytes. refused_so (u1_at bytes) (λ why e. (u1_fails Truncated bytes why e).1);
}

pub u2_reads : Reads ℕ (λ n. n < 2 ^ 16) u2 u2_at
u2_reads = record {
  again = u2_again Truncated;
  taken =
      λ bytes x fits e.
      let t = u2_takes Truncated bytes x fits e in
      taken_so t.0 t.1;
  refuses = λ bytes. refused_so (u2_at bytes) (λ why e. (number_fails Truncated 2 bytes why e).1);
}

-- ---- tests

-- what a test lets through is what was read and meets the test
passes : {A : Type 0} (b : Bool) (why : FormRefusal) (x y : A) → cond b (Ok x) (Err why) ≡ Ok y → (x ≡ y) × (b ≡ true)
passes true why x y e = (ok_is x y e, refl)
passes false why x y e = absurd cc

tested_taken_by : {A : Type 0} (test : A → Bool) (why : FormRefusal) (r : Result (A × List ℕ) FormRefusal) (x : A × List ℕ) → tested test why r ≡ Ok x → (r ≡ Ok x) × (test x.0 ≡ true)
tested_taken_by test why (Ok y) x e =
    let p = passes (test y.0) why y x e in
    (ap (λ z. Ok z) p.0, ap (λ z. test z.0) (sym p.0) ∙ p.1)
tested_taken_by test why (Err other) x e = absurd cc

cond_refuses : {A : Type 0} (b : Bool) (x : A) (why : FormRefusal) → IsOfTables why → Refuses (cond b (Ok x) (Err why))
cond_refuses true x why h = tt
cond_refuses false x why h = h

tested_refuses : {A : Type 0} (test : A → Bool) (why : FormRefusal) (r : Result (A × List ℕ) FormRefusal) → IsOfTables why → Refuses r → Refuses (tested test why r)
tested_refuses test why (Ok y) h g = cond_refuses (test y.0) y why h
tested_refuses test why (Err other) h g = g

tested_again : {A : Type 0} (test : A → Bool) (why : FormRefusal) (r : Result (A × List ℕ) FormRefusal) (x : A) (rest : List ℕ) → r ≡ Ok (x, rest) → test x ≡ true → tested test why r ≡ Ok (x, rest)
tested_again test why r x rest e h = rw (e, h) refl

tested_taken : {A : Type 0} {Is : A → Type 0} {bytes_of : A → List ℕ} {read : Reader A} (test : A → Bool) (why : FormRefusal) → Reads A Is bytes_of read → (bytes : List ℕ) (x : A × List ℕ) → IsBytes bytes → tested test why (read bytes) ≡ Ok x → Taken A (λ y. Is y × (test y ≡ true)) bytes_of bytes x
tested_taken {read} test why r bytes x fits e =
    let p = tested_taken_by test why (read bytes) x e in
    let t = r.taken bytes x fits p.0 in
    record { is = (t.is, p.1); parts = t.parts; rest_fits = t.rest_fits }

-- a part whose value meets a test
pub tested_reads : {A : Type 0} {Is : A → Type 0} {bytes_of : A → List ℕ} {read : Reader A} (test : A → Bool) (why : FormRefusal) → IsOfTables why → Reads A Is bytes_of read → Reads A (λ x. Is x × (test x ≡ true)) bytes_of (λ bytes. tested test why (read bytes))
tested_reads {bytes_of} {read} test why h r = record {
  again = λ x rest is. tested_again test why (read (bytes_of x ++ rest)) x rest (r.again x rest is.0) is.1;
  taken = tested_taken test why r;
  refuses = λ bytes. tested_refuses test why (read bytes) h (r.refuses bytes);
}

pub u1_tested : (test : ℕ → Bool) (why : FormRefusal) → IsOfTables why → Reads ℕ (λ n. (n < 2 ^ 8) × (test n ≡ true)) (λ n. n ∷ []) (λ bytes. tested test why (u1_at bytes))
u1_tested test why h = tested_reads test why h u1_reads

pub u2_tested : (test : ℕ → Bool) (why : FormRefusal) → IsOfTables why → Reads ℕ (λ n. (n < 2 ^ 16) × (test n ≡ true)) u2 (λ bytes. tested test why (u2_at bytes))
u2_tested test why h = tested_reads test why h u2_reads

-- a count of at most so many
pub most_reads : (most : ℕ) (why : FormRefusal) → most < 2 ^ 16 → IsOfTables why → Reads ℕ (λ count. count ≤ most) u2 (λ bytes. tested (λ count. leb count most) why (u2_at bytes))
most_reads most why lt h = Reads-as (u2_tested (λ count. leb count most) why h) (λ count g. leb-true _ _ g.1) (λ count g. (omega (arith, g, lt), le-leb _ _ g)) (λ count. refl)

-- ---- bytes after their length

slice_taken : (size : ℕ) (bytes : List ℕ) (x : List ℕ × List ℕ) → IsBytes bytes → slice_at size bytes ≡ Ok x → Taken (List ℕ) (λ value. length value ≡ size) (λ value. value) bytes x
slice_taken size bytes x fits e =
    let t = slice_takes Truncated size bytes x fits e in
    taken_so t.0 t.1

slice_refuses : (size : ℕ) (bytes : List ℕ) → Refuses (slice_at size bytes)
slice_refuses size bytes = refused_so (slice_at size bytes) (λ why e. (slice_fails Truncated size bytes why e).1)

-- the bytes with their length in prefix
abbrev pub sized : List ℕ → List ℕ
sized value = u2 (length value) ++ value

abbrev slice_then : ℕ × List ℕ → Result (List ℕ × List ℕ) FormRefusal
slice_then size = slice_at size.0 size.1

sized_again : {IsSize : ℕ → Type 0} {size_at : Reader ℕ} → Reads ℕ IsSize u2 size_at → (value rest : List ℕ) → IsSize (length value) → (size_at (sized value ++ rest) >>= slice_then) ≡ Ok (value, rest)
sized_again {size_at} r value rest h =
    ap (λ (text : List ℕ). size_at text >>= slice_then) (append_assoc (u2 (length value)) value rest) ∙ then_ok slice_then _ (r.again (length value) (value ++ rest) h) (slice_again Truncated value rest (length value) refl)

sized_taken : {IsSize : ℕ → Type 0} {size_at : Reader ℕ} → Reads ℕ IsSize u2 size_at → (bytes : List ℕ) (x : List ℕ × List ℕ) → IsBytes bytes → (size_at bytes >>= slice_then) ≡ Ok x → Taken (List ℕ) (λ value. IsSize (length value)) sized bytes x
sized_taken {IsSize} {size_at} r bytes x fits e =
    let b = bound (size_at bytes) slice_then x e in
    let size = r.taken bytes b.first fits b.first_is in
    let value = slice_taken b.first.0 b.first.1 x size.rest_fits b.then_is in
    record {
      is = subst IsSize (sym value.is) size.is;
      parts = size.parts ∙ ap (λ (rest : List ℕ). u2 b.first.0 ++ rest) value.parts ∙ ap (λ (n : ℕ). u2 n ++ (x.0 ++ x.1)) (sym value.is) ∙ sym (append_assoc (u2 (length x.0)) x.0 x.1);
      rest_fits = value.rest_fits;
    }

-- so many bytes after their length
pub sized_reads : {IsSize : ℕ → Type 0} {size_at : Reader ℕ} → Reads ℕ IsSize u2 size_at → Reads (List ℕ) (λ value. IsSize (length value)) sized (λ bytes. size_at bytes >>= slice_then)
sized_reads {size_at} r = record {
  again = sized_again r;
  taken = sized_taken r;
  refuses = λ bytes. refuses_then (size_at bytes) slice_then (r.refuses bytes) (λ size. slice_refuses size.0 size.1);
}

-- ---- lists after their count

-- the items that were read after those before them
record TakenItems (A : Type 0) (P : List A → A → Type 0) (item_bytes : A → List ℕ) (room : ℕ) (before : List A) (bytes : List ℕ) (y : List A × List ℕ) : Type 0 where
  items : List A
  all_are : y.0 ≡ before ++ items
  count_is : length items ≡ room
  are : EachAfter P before items
  parts : bytes ≡ flat_map item_bytes items ++ y.1
  rest_fits : IsBytes y.1

module _ {A : Type 0} {P : List A → A → Type 0} {item_bytes : A → List ℕ} {item_at : List A → Reader A} (reads : (before : List A) → Reads A (P before) item_bytes (item_at before)) where
  abbrev more : ℕ → List A → A × List ℕ → Result (List A × List ℕ) FormRefusal
  more room before item = items_at item_at room (before ++ item.0 ∷ []) item.1

  items_again : (xs before : List A) (rest : List ℕ) → EachAfter P before xs → items_at item_at (length xs) before (flat_map item_bytes xs ++ rest) ≡ Ok (before ++ xs, rest)
  unfolding steps_at
  items_again [] before rest h = ap (λ (all : List A). Ok (all, rest)) (sym (append-nil before))
  items_again (x ∷ xs) before rest h =
      items_step item_at before (length xs) (flat_map item_bytes (x ∷ xs) ++ rest)
      ∙ ap (λ (text : List ℕ). item_at before text >>= more (length xs) before) (append_assoc (item_bytes x) (flat_map item_bytes xs) rest)
      ∙ then_ok (more (length xs) before) _ ((reads before).again x (flat_map item_bytes xs ++ rest) h.0) (items_again xs (before ++ x ∷ []) rest h.1)
      ∙ ap (λ (all : List A). Ok (all, rest)) (append_assoc before (x ∷ []) xs)

  items_taken : (room : ℕ) (before : List A) (bytes : List ℕ) (y : List A × List ℕ) → IsBytes bytes → items_at item_at room before bytes ≡ Ok y → TakenItems A P item_bytes room before bytes y
  unfolding steps_at
  items_taken zero before bytes y fits e =
      subst (TakenItems A P item_bytes zero before bytes) (ok_is (before, bytes) y e) (record {
        items = [];
        all_are = sym (append-nil before);
        count_is = refl;
        are = tt;
        parts = refl;
        rest_fits = fits;
      })
  items_taken (suc room) before bytes y fits e =
      let b = bound (item_at before bytes) (more room before) y (sym (items_step item_at before room bytes) ∙ e) in
      let t = (reads before).taken bytes b.first fits b.first_is in
      let u = items_taken room (before ++ b.first.0 ∷ []) b.first.1 y t.rest_fits b.then_is in
      record {
        items = b.first.0 ∷ u.items;
        all_are = u.all_are ∙ append_assoc before (b.first.0 ∷ []) u.items;
        count_is = ap suc u.count_is;
        are = (t.is, u.are);
        parts = t.parts ∙ ap (λ (rest : List ℕ). item_bytes b.first.0 ++ rest) u.parts ∙ sym (append_assoc (item_bytes b.first.0) (flat_map item_bytes u.items) y.1);
        rest_fits = u.rest_fits;
      }

  items_refuses : (room : ℕ) (before : List A) (bytes : List ℕ) → Refuses (items_at item_at room before bytes)
  unfolding steps_at
  items_refuses zero before bytes = tt
  items_refuses (suc room) before bytes =
      subst Refuses (sym (items_step item_at before room bytes)) (refuses_then (item_at before bytes) (more room before) ((reads before).refuses bytes) (λ item. items_refuses room (before ++ item.0 ∷ []) item.1))

  abbrev items_then : ℕ × List ℕ → Result (List A × List ℕ) FormRefusal
  items_then count = items_at item_at count.0 [] count.1

  module _ {IsCount : ℕ → Type 0} {count_at : Reader ℕ} (counts : Reads ℕ IsCount u2 count_at) where
    counted_again : (xs : List A) (rest : List ℕ) → IsCount (length xs) × EachAfter P [] xs → (count_at (counted item_bytes xs ++ rest) >>= items_then) ≡ Ok (xs, rest)
    counted_again xs rest h =
        ap (λ (text : List ℕ). count_at text >>= items_then) (append_assoc (u2 (length xs)) (flat_map item_bytes xs) rest)
        ∙ then_ok items_then _ (counts.again (length xs) (flat_map item_bytes xs ++ rest) h.0) (items_again xs [] rest h.1)

    counted_by : (bytes : List ℕ) (n : ℕ) (back : List ℕ) (y : List A × List ℕ) → IsCount n → bytes ≡ u2 n ++ back → TakenItems A P item_bytes n [] back y → Taken (List A) (λ xs. IsCount (length xs) × EachAfter P [] xs) (counted item_bytes) bytes y
    counted_by bytes n back y is parts t =
        let count_is : length y.0 ≡ n = ap length t.all_are ∙ t.count_is in
        record {
          is = (subst IsCount (sym count_is) is, subst (EachAfter P []) (sym t.all_are) t.are);
          parts =
              parts
              ∙ ap (λ (rest : List ℕ). u2 n ++ rest) t.parts
              ∙ ap (λ (m : ℕ). u2 m ++ (flat_map item_bytes t.items ++ y.1)) (sym count_is)
              ∙ ap (λ (xs : List A). u2 (length y.0) ++ (flat_map item_bytes xs ++ y.1)) (sym t.all_are)
              ∙ sym (append_assoc (u2 (length y.0)) (flat_map item_bytes y.0) y.1);
          rest_fits = t.rest_fits;
        }

    counted_taken : (bytes : List ℕ) (y : List A × List ℕ) → IsBytes bytes → (count_at bytes >>= items_then) ≡ Ok y → Taken (List A) (λ xs. IsCount (length xs) × EachAfter P [] xs) (counted item_bytes) bytes y
    counted_taken bytes y fits e =
        let b = bound (count_at bytes) items_then y e in
        let count = counts.taken bytes b.first fits b.first_is in
        counted_by bytes b.first.0 b.first.1 y count.is count.parts (items_taken b.first.0 [] b.first.1 y count.rest_fits b.then_is)

    -- so many items after their count
    pub counted_reads : Reads (List A) (λ xs. IsCount (length xs) × EachAfter P [] xs) (counted item_bytes) (λ bytes. count_at bytes >>= items_then)
    counted_reads = record {
      again = counted_again;
      taken = counted_taken;
      refuses = λ bytes. refuses_then (count_at bytes) items_then (counts.refuses bytes) (λ count. items_refuses count.0 [] count.1);
    }
