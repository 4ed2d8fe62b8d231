-- Readers of parts: each takes one encoding of a part that is good, and every such encoding is read.
use Rattle.std.proofs.Common.{◌≡◌, ◌⊎◌, ℕ, ◌^◌, ◌<◌, Bool, true, false, cond, List, ◌++◌, length, Result, Ok, Err, refl, sym, ap, subst, ◌∙◌, append_assoc, inl, inr}
use Rattle.std.specs.Prelude.{IsTrue}
use Rattle.byte_read.proofs.Steps.{IsBytes, Takes, joined, true_false, bind_then, bind_fails_then, ok_is, no_failure, then_ok, under, done, IsBytes-prefix, passes, stops, u2_takes, u2_again, u4_takes, u4_again, slice_takes, slice_again}
use Rattle.class_file.specs.declared.refusal.ReadRefusal.{ReadRefusal}
use Rattle.class_file.specs.declared.refusal.ReadRefusal.TheVariants.{Truncated}
use Rattle.class_file.specs.Layout.{u2, u4}
use Rattle.class_file.specs.Relation.{FitsU2}
use Rattle.byte_read.specs.Reading.{◌>>=◌}
use Rattle.class_file.specs.Reading.{u2_at, u4_at, slice_at}
use Rattle.class_file.proofs.readers.Steps.{IsPartFault, is_fault, u2_fails, u4_fails, slice_fails}

-- what a reader took from the prefix: a good part, and its value
pub record Taken {A L : Type 0} (text : L → List ℕ) (value : L → A) (Good : L → Type 0) (bytes : List ℕ) (x : A × List ℕ) : Type 0 where
  pub part : L
  pub takes : Takes bytes (text part) x.1
  pub good : Good part
  pub value_is : value part ≡ x.0

-- a reader takes good parts, reads each one that is encoded, and has no other faults than those of parts
pub record Reads {A L : Type 0} (read : List ℕ → Result (A × List ℕ) ReadRefusal) (text : L → List ℕ) (value : L → A) (Good : L → Type 0) : Type 0 where
  pub taken : (bytes : List ℕ) (x : A × List ℕ) → IsBytes bytes → read bytes ≡ Ok x → Taken text value Good bytes x
  pub again : (part : L) (rest : List ℕ) → Good part → read (text part ++ rest) ≡ Ok (value part, rest)
  pub fails : (bytes : List ℕ) (why : ReadRefusal) → IsBytes bytes → read bytes ≡ Err why → IsPartFault why

-- ---- numbers and slices

abbrev pub itself : {A : Type 0} → A → A
itself x = x

pub u2_reads : Reads u2_at u2 itself FitsU2
u2_reads =
    record {
      taken =
          λ bytes x fits e.
          let t = u2_takes Truncated bytes x fits e in
          record { part = x.0; takes = t.0; good = t.1; value_is = refl };
      again = u2_again Truncated;
      fails = λ bytes why fits e. u2_fails bytes why e;
    }

pub u4_reads : Reads u4_at u4 itself (λ n. n < 2 ^ 32)
u4_reads =
    record {
      taken =
          λ bytes x fits e.
          let t = u4_takes Truncated bytes x fits e in
          record { part = x.0; takes = t.0; good = t.1; value_is = refl };
      again = u4_again Truncated;
      fails = λ bytes why fits e. u4_fails bytes why e;
    }

pub slice_reads : (size : ℕ) → Reads (slice_at size) itself itself (λ text. length text ≡ size)
slice_reads size =
    record {
      taken =
          λ bytes x fits e.
          let t = slice_takes Truncated size bytes x fits e in
          record { part = x.0; takes = t.0; good = t.1; value_is = refl };
      again = λ text rest good. slice_again Truncated text rest size good;
      fails = λ bytes why fits e. slice_fails size bytes why e;
    }

-- ---- one part after another

module _ {A B L M : Type 0} {read : List ℕ → Result (A × List ℕ) ReadRefusal} {text : L → List ℕ} {value : L → A} {Good : L → Type 0} where
  first_taken : {next : A → List ℕ → Result (B × List ℕ) ReadRefusal} {text2 : M → List ℕ} {value2 : A → M → B} {Good2 : A → M → Type 0}
      → Reads read text value Good → ((a : A) → Reads (next a) text2 (value2 a) (Good2 a))
      → (bytes : List ℕ) (x : B × List ℕ) → IsBytes bytes → (read bytes >>= λ y. next y.0 y.1) ≡ Ok x
      → Taken (λ (p : L × M). text p.0 ++ text2 p.1) (λ (p : L × M). value2 (value p.0) p.1) (λ (p : L × M). Good p.0 × Good2 (value p.0) p.1) bytes x
  first_taken {next = next} {text2 = text2} {value2 = value2} {Good2 = Good2} one others bytes x fits e =
      bind_then (read bytes) (λ y. next y.0 y.1) x e (λ y at_y e_x.
      let t = one.taken bytes y fits at_y in
      let o = (others y.0).taken y.1 x t.takes.rest_fits e_x in
      record {
        part = (t.part, o.part);
        takes = joined t.takes o.takes;
        good = (t.good, subst (λ (a : A). Good2 a o.part) (sym t.value_is) o.good);
        value_is = ap (λ (a : A). value2 a o.part) t.value_is ∙ o.value_is;
      })

  pub first : {next : A → List ℕ → Result (B × List ℕ) ReadRefusal} {text2 : M → List ℕ} {value2 : A → M → B} {Good2 : A → M → Type 0}
      → Reads read text value Good → ((a : A) → Reads (next a) text2 (value2 a) (Good2 a))
      → Reads (λ bytes. read bytes >>= λ y. next y.0 y.1) (λ (p : L × M). text p.0 ++ text2 p.1) (λ (p : L × M). value2 (value p.0) p.1) (λ (p : L × M). Good p.0 × Good2 (value p.0) p.1)
  first {next = next} {text2 = text2} {value2 = value2} {Good2 = Good2} one others =
      record {
        taken = first_taken one others;
        again =
            λ p rest good.
            ap (λ bytes. read bytes >>= λ y. next y.0 y.1) (append_assoc (text p.0) (text2 p.1) rest)
            ∙ then_ok (λ y. next y.0 y.1) (Ok (value2 (value p.0) p.1, rest)) (one.again p.0 (text2 p.1 ++ rest) good.0) ((others (value p.0)).again p.1 rest good.1);
        fails =
            λ bytes why fits e.
            bind_fails_then (read bytes) (λ y. next y.0 y.1) why e (λ at_why. one.fails bytes why fits at_why)
            (λ y at_y e_why. (others y.0).fails y.1 why (one.taken bytes y fits at_y).takes.rest_fits e_why);
      }

module _ {A B L : Type 0} {read : List ℕ → Result (A × List ℕ) ReadRefusal} {text : L → List ℕ} {value : L → A} {Good : L → Type 0} where
  -- another value of the same part
  pub last : Reads read text value Good → (view : A → B) → Reads (λ bytes. read bytes >>= λ y. Ok (view y.0, y.1)) text (λ part. view (value part)) Good
  last one view =
      record {
        taken =
            λ bytes x fits e.
            bind_then (read bytes) (λ y. Ok (view y.0, y.1)) x e (λ y at_y e_x.
            let t = one.taken bytes y fits at_y in
            let same = ok_is (view y.0, y.1) x e_x in
            subst (Taken text (λ part. view (value part)) Good bytes) same (record { part = t.part; takes = t.takes; good = t.good; value_is = ap view t.value_is }));
        again = λ part rest good. then_ok (λ y. Ok (view y.0, y.1)) (Ok (view (value part), rest)) (one.again part rest good) refl;
        fails =
            λ bytes why fits e.
            bind_fails_then (read bytes) (λ y. Ok (view y.0, y.1)) why e (λ at_why. one.fails bytes why fits at_why)
            (λ y at_y e_why. absurd (no_failure (view y.0, y.1) why e_why));
      }

module _ {A L : Type 0} {read : List ℕ → Result (A × List ℕ) ReadRefusal} {text : L → List ℕ} {value : L → A} {Good : L → Type 0} where
  -- a test of the value
  pub tested : Reads read text value Good → (test : A → Bool) (d : ReadRefusal) → IsPartFault d
      → Reads (λ bytes. read bytes >>= λ y. cond (test y.0) (Ok y) (Err d)) text value (λ part. Good part × IsTrue (test (value part)))
  tested one test d is =
      record {
        taken =
            λ bytes x fits e.
            bind_then (read bytes) (λ y. cond (test y.0) (Ok y) (Err d)) x e (λ y at_y e_x.
            let t = one.taken bytes y fits at_y in
            let g = passes (test y.0) y x d e_x in
            subst (Taken text value (λ part. Good part × IsTrue (test (value part))) bytes) g.1
            (record { part = t.part; takes = t.takes; good = (t.good, subst (λ (a : A). IsTrue (test a)) (sym t.value_is) g.0); value_is = t.value_is }));
        again =
            λ part rest good.
            then_ok (λ y. cond (test y.0) (Ok y) (Err d)) (Ok (value part, rest)) (one.again part rest good.0) (rw good.1 refl);
        fails =
            λ bytes why fits e.
            bind_fails_then (read bytes) (λ y. cond (test y.0) (Ok y) (Err d)) why e (λ at_why. one.fails bytes why fits at_why)
            (λ y at_y e_why. subst IsPartFault (stops (test y.0) y d why e_why).1 is);
      }

  -- a reader that does the same reads the same
  pub alike : {other : List ℕ → Result (A × List ℕ) ReadRefusal} → Reads read text value Good → ((bytes : List ℕ) → other bytes ≡ read bytes) → Reads other text value Good
  alike one same =
      record {
        taken = λ bytes x fits e. one.taken bytes x fits (sym (same bytes) ∙ e);
        again = λ part rest good. same (text part ++ rest) ∙ one.again part rest good;
        fails = λ bytes why fits e. one.fails bytes why fits (sym (same bytes) ∙ e);
      }

  -- the parts in another form, where their encoding is of bytes
  pub reshaped_bytes : {M : Type 0} {text2 : M → List ℕ} {value2 : M → A} {Good2 : M → Type 0} → Reads read text value Good
      → (to : L → M) → ((part : L) → IsBytes (text part) → Good part → (text part ≡ text2 (to part)) × (value2 (to part) ≡ value part) × Good2 (to part))
      → (from : M → L) → ((part : M) → Good2 part → (text2 part ≡ text (from part)) × (value (from part) ≡ value2 part) × Good (from part))
      → Reads read text2 value2 Good2
  reshaped_bytes {text2 = text2} {value2 = value2} {Good2 = Good2} one to goes from comes =
      record {
        taken =
            λ bytes x fits e.
            let t = one.taken bytes x fits e in
            let g = goes t.part (IsBytes-prefix (text t.part) x.1 (subst IsBytes t.takes.parts fits)) t.good in
            record { part = to t.part; takes = subst (λ (prefix : List ℕ). Takes bytes prefix x.1) g.0 t.takes; good = g.2; value_is = g.1 ∙ t.value_is };
        again =
            λ part rest good.
            let g = comes part good in
            ap (λ (prefix : List ℕ). read (prefix ++ rest)) g.0 ∙ one.again (from part) rest g.2 ∙ ap (λ (a : A). Ok (a, rest)) g.1;
        fails = one.fails;
      }

  -- the parts in another form
  pub reshaped : {M : Type 0} {text2 : M → List ℕ} {value2 : M → A} {Good2 : M → Type 0} → Reads read text value Good
      → (to : L → M) → ((part : L) → Good part → (text part ≡ text2 (to part)) × (value2 (to part) ≡ value part) × Good2 (to part))
      → (from : M → L) → ((part : M) → Good2 part → (text2 part ≡ text (from part)) × (value (from part) ≡ value2 part) × Good (from part))
      → Reads read text2 value2 Good2
  reshaped one to goes from comes = reshaped_bytes one to (λ part fits good. goes part good) from comes

  -- the same parts, whose goodness is said in another way
  pub reworded : {Good2 : L → Type 0} → Reads read text value Good → ((part : L) → Good part → Good2 part) → ((part : L) → Good2 part → Good part) → Reads read text value Good2
  reworded one goes comes = reshaped one (λ part. part) (λ part good. (refl, refl, goes part good)) (λ part. part) (λ part good. (refl, refl, comes part good))

-- a test of another value of the same part
pub last_tested : {A B L : Type 0} {read : List ℕ → Result (A × List ℕ) ReadRefusal} {text : L → List ℕ} {value : L → A} {Good : L → Type 0}
    → Reads read text value Good → (view : A → B) (test : B → Bool) (d : ReadRefusal) → IsPartFault d
    → Reads (λ bytes. read bytes >>= λ y. cond (test (view y.0)) (Ok (view y.0, y.1)) (Err d)) text (λ part. view (value part)) (λ part. Good part × IsTrue (test (view (value part))))
last_tested {read = read} one view test d is = alike (tested (last one view) test d is) (λ bytes. under (read bytes) _ _ _ (λ y. refl))

-- ---- one of two ways

-- a step after a test is taken where the test holds
pub test_first : {A B : Type 0} (b : Bool) (x : A) (f : A → Result B ReadRefusal) (d : ReadRefusal) → cond b (f x) (Err d) ≡ (cond b (done x) (Err d) >>= f)
test_first true x f d = refl
test_first false x f d = refl

abbrev pub on_either : {A B C : Type 0} → (A → C) → (B → C) → A ⊎ B → C
on_either f g (inl a) = f a
on_either f g (inr b) = g b

-- the part is good, and the test chose its way
abbrev pub IsWay : {L M : Type 0} → Bool → (L → Type 0) → (M → Type 0) → L ⊎ M → Type 0
IsWay b Good Good2 (inl part) = (b ≡ true) × Good part
IsWay b Good Good2 (inr part) = (b ≡ false) × Good2 part

again_left : {A L M : Type 0} {read : List ℕ → Result (A × List ℕ) ReadRefusal} {text : L → List ℕ} {value : L → A} {Good : L → Type 0} (text2 : M → List ℕ) (value2 : M → A) (Good2 : M → Type 0) → Reads read text value Good
    → (part : L ⊎ M) (rest : List ℕ) → IsWay true Good Good2 part → read (on_either text text2 part ++ rest) ≡ Ok (on_either value value2 part, rest)
again_left text2 value2 Good2 one (inl part) rest good = one.again part rest good.1
again_left text2 value2 Good2 one (inr part) rest good = absurd (true_false good.0)

again_right : {A L M : Type 0} {read : List ℕ → Result (A × List ℕ) ReadRefusal} {text : M → List ℕ} {value : M → A} {Good : M → Type 0} (text2 : L → List ℕ) (value2 : L → A) (Good2 : L → Type 0) → Reads read text value Good
    → (part : L ⊎ M) (rest : List ℕ) → IsWay false Good2 Good part → read (on_either text2 text part ++ rest) ≡ Ok (on_either value2 value part, rest)
again_right text2 value2 Good2 other (inl part) rest good = absurd (true_false (sym good.0))
again_right text2 value2 Good2 other (inr part) rest good = other.again part rest good.1

module _ {A L M : Type 0} {read : List ℕ → Result (A × List ℕ) ReadRefusal} {text : L → List ℕ} {value : L → A} {Good : L → Type 0} {read2 : List ℕ → Result (A × List ℕ) ReadRefusal} {text2 : M → List ℕ} {value2 : M → A} {Good2 : M → Type 0} where
  pub one_of : (b : Bool) → Reads read text value Good → Reads read2 text2 value2 Good2 → Reads (λ bytes. cond b (read bytes) (read2 bytes)) (on_either text text2) (on_either value value2) (IsWay b Good Good2)
  one_of true one other =
      record {
        taken =
            λ bytes x fits e.
            let t = one.taken bytes x fits e in
            record { part = inl t.part; takes = t.takes; good = (refl, t.good); value_is = t.value_is };
        again = again_left text2 value2 Good2 one;
        fails = one.fails;
      }
  one_of false one other =
      record {
        taken =
            λ bytes x fits e.
            let t = other.taken bytes x fits e in
            record { part = inr t.part; takes = t.takes; good = (refl, t.good); value_is = t.value_is };
        again = again_right text value Good other;
        fails = other.fails;
      }

module _ {A L : Type 0} {read : List ℕ → Result (A × List ℕ) ReadRefusal} {text : L → List ℕ} {value : L → A} {Good : L → Type 0} where
  -- a reader that is not come to where a test holds
  pub barred : (b : Bool) (d : ReadRefusal) → IsPartFault d → Reads read text value Good → Reads (λ bytes. cond b (Err d) (read bytes)) text value (λ part. (b ≡ false) × Good part)
  barred true d is one =
      record {
        taken = λ bytes x fits e. absurd (no_failure x d (sym e));
        again = λ part rest good. absurd (true_false good.0);
        fails = λ bytes why fits e. is_fault {A = A × List ℕ} d why is e;
      }
  barred false d is one =
      record {
        taken =
            λ bytes x fits e.
            let t = one.taken bytes x fits e in
            record { part = t.part; takes = t.takes; good = (refl, t.good); value_is = t.value_is };
        again = λ part rest good. one.again part rest good.1;
        fails = one.fails;
      }

-- ---- what the value says

-- a test of the value, and of what it says
pub checked : {A B L : Type 0} {read : List ℕ → Result (A × List ℕ) ReadRefusal} {text : L → List ℕ} {value : L → A} {Good : L → Type 0}
    → Reads read text value Good → (check : A → Result B ReadRefusal) → ((a : A) (why : ReadRefusal) → check a ≡ Err why → IsPartFault why) → (test : A → B → Bool) (d : ReadRefusal) → IsPartFault d
    → Reads (λ bytes. read bytes >>= λ y. check y.0 >>= λ b. cond (test y.0 b) (Ok y) (Err d)) text value (λ part. Good part × (b : B) × (check (value part) ≡ Ok b) × IsTrue (test (value part) b))
checked {A = A} {B = B} {read = read} {text = text} {value = value} {Good = Good} one check faults test d is =
    record {
      taken =
          λ bytes x fits e.
          bind_then (read bytes) _ x e (λ y at_y e_b.
          bind_then (check y.0) (λ b. cond (test y.0 b) (Ok y) (Err d)) x e_b (λ b at_b e_x.
          let t = one.taken bytes y fits at_y in
          let g = passes (test y.0 b) y x d e_x in
          let said : (check y.0 ≡ Ok b) × IsTrue (test y.0 b) = (at_b, g.0) in
          let says : (check (value t.part) ≡ Ok b) × IsTrue (test (value t.part) b) = subst (λ (a : A). (check a ≡ Ok b) × IsTrue (test a b)) (sym t.value_is) said in
          subst (Taken text value (λ part. Good part × (c : B) × (check (value part) ≡ Ok c) × IsTrue (test (value part) c)) bytes) g.1
          (record { part = t.part; takes = t.takes; good = (t.good, b, says.0, says.1); value_is = t.value_is })));
      again =
          λ part rest good.
          then_ok _ (Ok (value part, rest)) (one.again part rest good.0)
          (then_ok (λ b. cond (test (value part) b) (Ok (value part, rest)) (Err d)) (Ok (value part, rest)) good.2 (rw good.3 refl));
      fails =
          λ bytes why fits e.
          bind_fails_then (read bytes) _ why e (λ at_why. one.fails bytes why fits at_why) (λ y at_y e_b.
          bind_fails_then (check y.0) (λ b. cond (test y.0 b) (Ok y) (Err d)) why e_b (λ at_why. faults y.0 why at_why)
          (λ b at_b e_why. subst IsPartFault (stops (test y.0 b) y d why e_why).1 is));
    }
