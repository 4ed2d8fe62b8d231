-- The rows of all classes are matched exactly where each has one signature.
use Rattle.std.proofs.Common.{◌≡◌, ℕ, suc, ◌+◌, Bool, true, false, ◌&&◌, cond, eqb, List, [], ◌∷◌, ◌++◌, length, Option, Some, None, refl, sym, ap, ◌∙◌, arith}
use Rattle.byte_read.proofs.Steps.{chosen, true_false}
use Rattle.std.specs.Prelude.{slice_get}
use Rattle.std.specs.List.{list_all}
use Rattle.std.proofs.lemmas.Bool.{eqb-true, eq-eqb, and_parts, and_from}
use Rattle.image_instr.specs.declared.signature.Sig.{Sig}
use Rattle.image_form.specs.declared.record.TypeEntry.{TypeEntry}
use Rattle.image_form.specs.declared.record.TypeEntry.TheVariants.{Class, RefArray, NumArray}
use Rattle.image_form.specs.declared.record.DispatchRow.{DispatchRow}
use Rattle.image_form.specs.declared.record.Method.{Method}
use Rattle.image_form.specs.Library.{signature, signature_in}
use Rattle.image_form.specs.Grammar.{EachAfter, HasOneSignature, HasSignatures}
use Rattle.image_form.specs.Reading.{is_one_signature, is_matched, is_entry_matched, first_unmatched}

-- ---- tests of all items

pub each_from : {A : Type 0} {P : A → Type 0} (test : A → Bool) → ((x : A) → test x ≡ true → P x) → (before xs : List A) → list_all test xs ≡ true → EachAfter (λ before x. P x) before xs
each_from test to before [] e = tt
each_from test to before (x ∷ xs) e =
    let p = and_parts (test x) (list_all test xs) e in
    (to x p.0, each_from test to (before ++ x ∷ []) xs p.1)

pub each_to : {A : Type 0} {P : A → Type 0} (test : A → Bool) → ((x : A) → P x → test x ≡ true) → (before xs : List A) → EachAfter (λ before x. P x) before xs → list_all test xs ≡ true
each_to test from before [] h = refl
each_to test from before (x ∷ xs) h = and_from (test x) (list_all test xs) (from x h.0) (each_to test from (before ++ x ∷ []) xs h.1)

-- ---- signatures

pub same_sig : (first second : Sig) → first.refs ≡ second.refs → first.cells ≡ second.cells → first.result ≡ second.result → first ≡ second
same_sig first second refs cells result =
    ap (λ (n : ℕ). signature n first.cells first.result) refs ∙ ap (λ (n : ℕ). signature second.refs n first.result) cells ∙ ap (λ (n : ℕ). signature second.refs second.cells n) result

-- the two are this signature
record AreOne (first second : Option Sig) : Type 0 where
  sig : Sig
  first_is : first ≡ Some sig
  second_is : second ≡ Some sig

one_signature : (first second : Option Sig) → is_one_signature first second ≡ true → AreOne first second
one_signature (Some first) (Some second) e =
    let p = and_parts (eqb first.refs second.refs) (eqb first.cells second.cells && eqb first.result second.result) e in
    let q = and_parts (eqb first.cells second.cells) (eqb first.result second.result) p.1 in
    record { sig = first; first_is = refl; second_is = ap (λ (s : Sig). Some s) (sym (same_sig first second (eqb-true _ _ p.0) (eqb-true _ _ q.0) (eqb-true _ _ q.1))) }
one_signature (Some first) None e = absurd cc
one_signature None other e = absurd cc

one_signature_test : (sig : Sig) → is_one_signature (Some sig) (Some sig) ≡ true
one_signature_test sig =
    and_from (eqb sig.refs sig.refs) (eqb sig.cells sig.cells && eqb sig.result sig.result) (eq-eqb _ _ refl)
    (and_from (eqb sig.cells sig.cells) (eqb sig.result sig.result) (eq-eqb _ _ refl) (eq-eqb _ _ refl))

-- ---- rows and entries

row_from : (selectors : List Sig) (methods : List Method) (row : DispatchRow) → is_matched selectors methods row ≡ true → HasOneSignature selectors methods row
row_from selectors methods row e =
    let a = one_signature (slice_get selectors row.selector) (signature_in methods row.method) e in
    record { sig = a.sig; selector_is = a.first_is; method_is = a.second_is }

row_to : (selectors : List Sig) (methods : List Method) (row : DispatchRow) → HasOneSignature selectors methods row → is_matched selectors methods row ≡ true
row_to selectors methods row h =
    ap (λ (first : Option Sig). is_one_signature first (signature_in methods row.method)) h.selector_is ∙ ap (is_one_signature (Some h.sig)) h.method_is ∙ one_signature_test h.sig

entry_from : (selectors : List Sig) (methods : List Method) (entry : TypeEntry) → is_entry_matched selectors methods entry ≡ true → HasSignatures selectors methods entry
entry_from selectors methods (Class class) e = each_from (is_matched selectors methods) (row_from selectors methods) [] class.rows e
entry_from selectors methods (RefArray element) e = tt
entry_from selectors methods (NumArray kind) e = tt

entry_to : (selectors : List Sig) (methods : List Method) (entry : TypeEntry) → HasSignatures selectors methods entry → is_entry_matched selectors methods entry ≡ true
entry_to selectors methods (Class class) h = each_to (is_matched selectors methods) (row_to selectors methods) [] class.rows h
entry_to selectors methods (RefArray element) h = refl
entry_to selectors methods (NumArray kind) h = refl

-- ---- all entries

none_parts : (b : Bool) (index : ℕ) (rest : Option ℕ) → cond b rest (Some index) ≡ None → (b ≡ true) × (rest ≡ None)
none_parts true index rest e = (refl, e)
none_parts false index rest e = absurd cc

pub matched_from : (selectors : List Sig) (methods : List Method) (index : ℕ) (before entries : List TypeEntry) → first_unmatched selectors methods index entries ≡ None → EachAfter (λ before entry. HasSignatures selectors methods entry) before entries
unfolding first_unmatched
matched_from selectors methods index before [] e = tt
matched_from selectors methods index before (entry ∷ entries) e =
    let p = none_parts (is_entry_matched selectors methods entry) index (first_unmatched selectors methods (suc index) entries) e in
    (entry_from selectors methods entry p.0, matched_from selectors methods (suc index) (before ++ entry ∷ []) entries p.1)

pub matched_to : (selectors : List Sig) (methods : List Method) (index : ℕ) (before entries : List TypeEntry) → EachAfter (λ before entry. HasSignatures selectors methods entry) before entries → first_unmatched selectors methods index entries ≡ None
unfolding first_unmatched
matched_to selectors methods index before [] h = refl
matched_to selectors methods index before (entry ∷ entries) h =
    rw (entry_to selectors methods entry h.0) (matched_to selectors methods (suc index) (before ++ entry ∷ []) entries h.1)

-- ---- the first entry that is not matched

abbrev index_of : ℕ → Option ℕ
index_of index = Some index

pub record Unmatched (selectors : List Sig) (methods : List Method) (index : ℕ) (seen entries : List TypeEntry) (found : ℕ) : Type 0 where
  pub before : List TypeEntry
  pub entry : TypeEntry
  pub after : List TypeEntry
  pub parts : entries ≡ before ++ entry ∷ after
  pub matched : EachAfter (λ earlier other. HasSignatures selectors methods other) seen before
  pub unmatched : HasSignatures selectors methods entry → ⊥
  pub index_is : found ≡ index + length before

no_index : (found : ℕ) → None ≡ index_of found → ⊥
no_index found e = cc

same_found : (index found : ℕ) → index_of index ≡ Some found → index ≡ found
same_found index found e = cc

pub found_unmatched : (selectors : List Sig) (methods : List Method) (index : ℕ) (seen entries : List TypeEntry) (found : ℕ) → first_unmatched selectors methods index entries ≡ Some found → Unmatched selectors methods index seen entries found
unfolding first_unmatched
found_unmatched selectors methods index seen [] found e = absurd (no_index found e)
found_unmatched selectors methods index seen (entry ∷ entries) found e =
    chosen (is_entry_matched selectors methods entry) (first_unmatched selectors methods (suc index) entries) (Some index) (Some found) e
    (λ is e_rest.
    let o = found_unmatched selectors methods (suc index) (seen ++ entry ∷ []) entries found e_rest in
    record {
      before = entry ∷ o.before;
      entry = o.entry;
      after = o.after;
      parts = ap (λ (others : List TypeEntry). entry ∷ others) o.parts;
      matched = (entry_from selectors methods entry is, o.matched);
      unmatched = o.unmatched;
      index_is = omega (arith, o.index_is);
    })
    (λ not e_here. record {
      before = [];
      entry = entry;
      after = entries;
      parts = refl;
      matched = tt;
      unmatched = λ h. true_false (sym (entry_to selectors methods entry h) ∙ not);
      index_is = omega (arith, same_found index found e_here);
    })
