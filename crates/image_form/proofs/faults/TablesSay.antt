-- What a bad entry of a table is, in words of the format.
use Rattle.std.proofs.Common.{◌≡◌, ℕ, zero, suc, ◌^◌, ◌<◌, leb, eqb, List, [], ◌∷◌, ◌++◌, length, take, drop, Option, Some, None, Ok, Err, refl, sym, ap, subst, ◌∙◌, append_assoc, arith, inl, inr}
use Rattle.std.specs.Str.{bytes_eq}
use Rattle.std.proofs.lemmas.Bool.{eqb-true}
use Rattle.std.proofs.lemmas.List.{take-append-drop}
use Rattle.std.proofs.lemmas.Slice.Eq.{bytes_eq-Decides}
use Rattle.byte_read.specs.Reading.{◌>>=◌}
use Rattle.byte_read.proofs.Steps.{IsBytes, IsBytes-drop, bind_fails_then, no_failure, same_why, chosen, number_fails}
use Rattle.image_instr.specs.Insn.{u2}
use Rattle.image_form.specs.declared.record.Image.{Image}
use Rattle.image_form.specs.declared.record.TypeEntry.{TypeEntry}
use Rattle.image_form.specs.declared.record.Method.{Method}
use Rattle.image_form.specs.declared.refusal.FormRefusal.TheVariants.{NotInfusion, FormVersion, Truncated, TrailingBytes, BadTable}
use Rattle.image_form.specs.Format.{magic, counted, type_bytes, sig_bytes, method_bytes}
use Rattle.image_form.specs.Grammar.{IsSelector, IsMethod, most_types, most_methods}
use Rattle.image_form.specs.Reading.{u2_at, tested, items_at, in_types, in_statics, in_main, types_at, selectors_at, methods_at, static_refs_at, cell_at, static_cells_at, names_main, main_at, matched, parts_at, whole_of, versioned, image_of}
use Rattle.image_form.specs.Refused.{IsRefused}
use Rattle.image_form.specs.BadTables.{AreBytes, BeginsNone, AtMost, HasBadItem, HasBadList, HasBadType, HasTablesThen, HasStaticsThen, IsBadTable, types, selectors, methods, statics, main, rows, HasBadTable}
use Rattle.image_form.proofs.format.Readers.{Reader, Reads, most_reads, u2_reads}
use Rattle.image_form.proofs.format.TypeParts.{type_reads, types_reads}
use Rattle.image_form.proofs.format.MethodParts.{selector_reads, selectors_reads, method_reads, methods_reads}
use Rattle.image_form.proofs.format.Matching.{found_unmatched}
use Rattle.image_form.proofs.format.ImageParts.{static_refs_reads, static_cells_reads, main_reads, parts_reads, unmatched_in, match_rows}
use Rattle.image_form.proofs.format.Whole.{ends, whole_is}
use Rattle.image_form.proofs.faults.PrefixesReaders.{IsSteady, most_steady, type_steady, selector_steady, method_steady, main_steady}
use Rattle.image_form.proofs.faults.Raises.{Raises, u2_raises, items_raise}
use Rattle.image_form.proofs.faults.TableFaults.{IsCutOr, u2_tested, type_raises, selector_raises, method_raises}
use Rattle.image_form.proofs.faults.TablesStop.{begins_none, list_stops}

-- ---- which table, and which entry

bytes_are : (bytes : List ℕ) → AreBytes bytes → IsBytes bytes
bytes_are [] all i = omega arith
bytes_are (byte ∷ bytes) all zero = all.0
bytes_are (byte ∷ bytes) all (suc i) = bytes_are bytes all.1 i

not_cut : (table index : ℕ) → BadTable table index ≡ Truncated → ⊥
not_cut table index e = absurd cc

of_table : (table index t i : ℕ) → IsCutOr (BadTable t i) (BadTable table index) → (table ≡ t) × (index ≡ i)
of_table table index t i (inl e) = absurd (not_cut table index e)
of_table table index t i (inr e) = (cc, cc)

-- ---- lists

module _ {A : Type 0} {P : List A → A → Type 0} {item_bytes : A → List ℕ} {item_at : List A → Reader A} (t most : ℕ) where
  list_bad : ((before : List A) → Reads A (P before) item_bytes (item_at before)) → ((before : List A) → IsSteady (item_at before)) → ((before : List A) → Raises (IsCutOr (BadTable t (length before))) (item_at before)) → most < 2 ^ 16
      → (bytes : List ℕ) (table index : ℕ) → IsBytes bytes → (tested (λ count. leb count most) (BadTable t 0) (u2_at bytes) >>= λ count. items_at item_at count.0 [] count.1) ≡ Err (BadTable table index)
      → (table ≡ t) × HasBadList (AtMost most) P item_bytes bytes index
  list_bad reads steady raises small bytes table index fits e =
      elim (list_stops reads (most_reads most (BadTable t 0) small tt) (most_steady most (BadTable t 0)) steady bytes (BadTable table index) fits (not_cut table index) e) [
        | inl (at_count, none) ↦
            let o = of_table table index t 0 ((u2_tested (BadTable t 0) (λ count. leb count most)).fails bytes (BadTable table index) at_count) in
            (o.0, inl (o.1, none))
        | inr (found, items, rest, found_is, bad, at_item) ↦
            let o = of_table table index t (length items) ((raises items).fails rest (BadTable table index) at_item) in
            (o.0, inr (subst (HasBadItem (AtMost most) P item_bytes bytes) (found_is ∙ sym o.1) bad))
      ]

types_bad : (bytes : List ℕ) (table index : ℕ) → IsBytes bytes → types_at bytes ≡ Err (BadTable table index) → (table ≡ 0) × HasBadType bytes index
unfolding types_at
types_bad bytes table index fits e = list_bad 0 most_types type_reads type_steady type_raises (omega arith) bytes table index fits e

selectors_bad : (bytes : List ℕ) (table index : ℕ) → IsBytes bytes → selectors_at bytes ≡ Err (BadTable table index) → (table ≡ 1) × HasBadList (AtMost 16384) (λ before selector. IsSelector selector) sig_bytes bytes index
unfolding selectors_at
selectors_bad bytes table index fits e = list_bad 1 16384 selector_reads selector_steady selector_raises (omega arith) bytes table index fits e

methods_bad : (entries : List TypeEntry) (bytes : List ℕ) (table index : ℕ) → IsBytes bytes → methods_at entries bytes ≡ Err (BadTable table index) → (table ≡ 2) × HasBadList (AtMost most_methods) (λ before method. IsMethod entries method) method_bytes bytes index
unfolding methods_at
methods_bad entries bytes table index fits e = list_bad 2 most_methods (method_reads entries) (method_steady entries) (method_raises entries) (omega arith) bytes table index fits e

-- ---- statics and main

refs_bad : (bytes : List ℕ) (table index : ℕ) → static_refs_at bytes ≡ Err (BadTable table index) → (table ≡ 3) × (index ≡ 0) × BeginsNone u2 (AtMost 16384) bytes
unfolding static_refs_at
refs_bad bytes table index e =
    let o = of_table table index 3 0 ((u2_tested in_statics (λ count. leb count 16384)).fails bytes (BadTable table index) e) in
    (o.0, o.1, begins_none (most_reads 16384 in_statics (omega arith) tt) (most_steady 16384 in_statics) bytes (BadTable table index) e (not_cut table index))

cell_cut : (before : List ℕ) → Raises (λ why. why ≡ Truncated) (cell_at before)
unfolding cell_at
cell_cut before = u2_raises refl

cells_bad : (bytes : List ℕ) (table index : ℕ) → static_cells_at bytes ≡ Err (BadTable table index) → (table ≡ 3) × (index ≡ 0) × BeginsNone u2 (AtMost 16384) bytes
unfolding static_cells_at
cells_bad bytes table index e =
    bind_fails_then (tested (λ count. leb count 16384) in_statics (u2_at bytes)) (λ count. items_at cell_at count.0 [] count.1) (BadTable table index) e
    (λ at_count.
    let o = of_table table index 3 0 ((u2_tested in_statics (λ count. leb count 16384)).fails bytes (BadTable table index) at_count) in
    (o.0, o.1, begins_none (most_reads 16384 in_statics (omega arith) tt) (most_steady 16384 in_statics) bytes (BadTable table index) at_count (not_cut table index)))
    (λ count at_count e_items. absurd (not_cut table index ((items_raise cell_cut count.0 []).fails count.1 (BadTable table index) e_items)))

main_bad : (list : List Method) (bytes : List ℕ) (table index : ℕ) → main_at list bytes ≡ Err (BadTable table index) → (table ≡ 4) × (index ≡ 0)
unfolding main_at
main_bad list bytes table index e = of_table table index 4 0 ((u2_tested in_main (names_main list)).fails bytes (BadTable table index) e)

-- ---- all parts

in_parts : (bytes : List ℕ) (table index : ℕ) → IsBytes bytes → parts_at bytes ≡ Err (BadTable table index) → IsBadTable bytes table index
unfolding parts_at
in_parts bytes table index fits e =
    let why = BadTable table index in
    bind_fails_then (types_at bytes) _ why e
    (λ at_types.
    let b = types_bad bytes table index fits at_types in
    types b.0 b.1)
    (λ ts at_types e_selectors.
    let t = types_reads.taken bytes ts fits at_types in
    bind_fails_then (selectors_at ts.1) _ why e_selectors
    (λ at_selectors.
    let b = selectors_bad ts.1 table index t.rest_fits at_selectors in
    selectors b.0 (record { types = ts.0; rest = ts.1; are_types = t.is; encoded = t.parts; bad = b.1 }))
    (λ ss at_selectors e_methods.
    let s = selectors_reads.taken ts.1 ss t.rest_fits at_selectors in
    let two = t.parts ∙ ap (λ (rest : List ℕ). counted type_bytes ts.0 ++ rest) s.parts in
    bind_fails_then (methods_at ts.0 ss.1) _ why e_methods
    (λ at_methods.
    let b = methods_bad ts.0 ss.1 table index s.rest_fits at_methods in
    methods b.0 (record { types = ts.0; selectors = ss.0; rest = ss.1; are_types = t.is; are_selectors = s.is; encoded = two; bad = b.1 }))
    (λ ms at_methods e_refs.
    let m = (methods_reads ts.0).taken ss.1 ms s.rest_fits at_methods in
    let tables : HasTablesThen bytes ts.0 ss.0 ms.0 ms.1 =
    record { are_types = t.is; are_selectors = s.is; are_methods = m.is; encoded = two ∙ ap (λ (rest : List ℕ). counted type_bytes ts.0 ++ (counted sig_bytes ss.0 ++ rest)) m.parts } in
    bind_fails_then (static_refs_at ms.1) _ why e_refs
    (λ at_refs.
    let b = refs_bad ms.1 table index at_refs in
    statics b.0 b.1 (record { types = ts.0; selectors = ss.0; methods = ms.0; rest = ms.1; tables = tables; bad = inl b.2 }))
    (λ rs at_refs e_cells.
    let r = static_refs_reads.taken ms.1 rs m.rest_fits at_refs in
    bind_fails_then (static_cells_at rs.1) _ why e_cells
    (λ at_cells.
    let b = cells_bad rs.1 table index at_cells in
    statics b.0 b.1 (record { types = ts.0; selectors = ss.0; methods = ms.0; rest = ms.1; tables = tables; bad = inr (rs.0, rs.1, r.is, r.parts, b.2) }))
    (λ cs at_cells e_main.
    let c = static_cells_reads.taken rs.1 cs r.rest_fits at_cells in
    let after : ms.1 ≡ u2 rs.0 ++ (counted u2 cs.0 ++ cs.1) = r.parts ∙ ap (λ (rest : List ℕ). u2 rs.0 ++ rest) c.parts in
    let all : HasStaticsThen bytes ts.0 ss.0 ms.0 cs.1 = record { static_refs = rs.0; static_cells = cs.0; few_refs = r.is; are_cells = c.is; tables = subst (HasTablesThen bytes ts.0 ss.0 ms.0) after tables } in
    bind_fails_then (main_at ms.0 cs.1) _ why e_main
    (λ at_main.
    let b = main_bad ms.0 cs.1 table index at_main in
    main b.0 b.1 (record { types = ts.0; selectors = ss.0; methods = ms.0; rest = cs.1; statics = all; none = begins_none (main_reads ms.0) (main_steady ms.0) cs.1 why at_main (not_cut table index) }))
    (λ id at_main e_image. absurd (no_failure _ why e_image)))))))

-- ---- the rows, after main

abbrev index_of : ℕ → Option ℕ
index_of index = Some index

found_some : (part : Image × List ℕ) (place : Option ℕ) (table index : ℕ) → matched place part ≡ Err (BadTable table index) → (table ≡ 0) × (place ≡ index_of index)
found_some part None table index e = absurd (no_failure part (BadTable table index) e)
found_some part (Some found) table index e =
    let o = of_table table index 0 found (inr (sym (same_why {A = Image × List ℕ} (in_types found) (BadTable table index) e))) in
    (o.0, ap index_of (sym o.1))

regrouped : (a b c d e f more : List ℕ) → (a ++ (b ++ (c ++ (d ++ (e ++ f))))) ++ more ≡ a ++ (b ++ (c ++ (d ++ (e ++ (f ++ more)))))
regrouped a b c d e f more = simp append_assoc

in_rows : (bytes : List ℕ) (part : Image × List ℕ) (table index : ℕ) → IsBytes bytes → parts_at bytes ≡ Ok part → match_rows part ≡ Err (BadTable table index) → IsBadTable bytes table index
in_rows bytes part table index fits at_parts e =
    let image = part.0 in
    let t = parts_reads.taken bytes part fits at_parts in
    let is = t.is in
    let found = found_some part (unmatched_in image) table index e in
    let u = found_unmatched image.selectors image.methods 0 [] image.types index found.1 in
    let encoded : bytes ≡ counted type_bytes image.types ++ (counted sig_bytes image.selectors ++ (counted method_bytes image.methods ++ (u2 image.static_refs ++ (counted u2 image.static_cells ++ (u2 image.main ++ part.1))))) =
    t.parts ∙ regrouped (counted type_bytes image.types) (counted sig_bytes image.selectors) (counted method_bytes image.methods) (u2 image.static_refs) (counted u2 image.static_cells) (u2 image.main) part.1 in
    let all : HasStaticsThen bytes image.types image.selectors image.methods (u2 image.main ++ part.1) =
    record {
      static_refs = image.static_refs;
      static_cells = image.static_cells;
      few_refs = is.static_refs;
      are_cells = is.static_cells;
      tables = record { are_types = is.types; are_selectors = is.selectors; are_methods = is.methods; encoded = encoded };
    } in
    rows found.0 (record {
      before = u.before;
      entry = u.entry;
      after = u.after;
      selectors = image.selectors;
      methods = image.methods;
      main = image.main;
      rest = part.1;
      statics = subst (λ (entries : List TypeEntry). HasStaticsThen bytes entries image.selectors image.methods (u2 image.main ++ part.1)) u.parts all;
      is_main = is.main;
      matched = u.matched;
      unmatched = u.unmatched;
      index_is = omega (arith, u.index_is);
    })

-- ---- the whole

not_ended : (part : Image × List ℕ) (table index : ℕ) → ends part ≡ Err (BadTable table index) → ⊥
not_ended part table index e =
    chosen (eqb (length part.1) 0) (Ok part.0) (Err TrailingBytes) (Err (BadTable table index)) e (λ none is. no_failure part.0 (BadTable table index) is) (λ some is. other (same_why {A = Image} TrailingBytes (BadTable table index) is))
  where
    other : TrailingBytes ≡ BadTable table index → ⊥
    other same = absurd cc

in_whole : (bytes : List ℕ) (table index : ℕ) → IsBytes bytes → whole_of bytes ≡ Err (BadTable table index) → IsBadTable bytes table index
in_whole bytes table index fits e =
    let why = BadTable table index in
    bind_fails_then (parts_at bytes >>= match_rows) ends why (sym (whole_is bytes) ∙ e)
    (λ at_image. bind_fails_then (parts_at bytes) match_rows why at_image (λ at_parts. in_parts bytes table index fits at_parts) (λ part at_parts e_rows. in_rows bytes part table index fits at_parts e_rows))
    (λ part at_image e_end. absurd (not_ended part table index e_end))

not_version : (version table index : ℕ) → FormVersion version ≡ BadTable table index → ⊥
not_version version table index e = absurd cc

not_foreign : (table index : ℕ) → NotInfusion ≡ BadTable table index → ⊥
not_foreign table index e = absurd cc

in_versioned : (bytes body : List ℕ) (table index : ℕ) → IsBytes body → bytes ≡ magic ++ body → versioned body ≡ Err (BadTable table index) → HasBadTable bytes table index
unfolding versioned
in_versioned bytes body table index fits parts e =
    let why = BadTable table index in
    bind_fails_then (u2_at body) _ why e (λ at_version. absurd (not_cut table index (number_fails Truncated 2 body why at_version).1)) (λ version at_version e_whole.
    let v = u2_reads.taken body version fits at_version in
    chosen (eqb version.0 1) (whole_of version.1) (Err (FormVersion version.0)) (Err why) e_whole
    (λ one e_rest. record {
      rest = version.1;
      encoded = parts ∙ ap (λ (rest : List ℕ). magic ++ rest) (v.parts ∙ ap (λ (n : ℕ). u2 n ++ version.1) (eqb-true _ _ one));
      bad = in_whole version.1 table index v.rest_fits e_rest;
    })
    (λ other is. absurd (not_version version.0 table index (same_why {A = Image} (FormVersion version.0) why is))))

bad_table : (bytes : List ℕ) (table index : ℕ) → IsBytes bytes → image_of bytes ≡ Err (BadTable table index) → HasBadTable bytes table index
unfolding image_of
bad_table bytes table index fits e =
    chosen (bytes_eq (take 4 bytes) magic) (versioned (drop 4 bytes)) (Err NotInfusion) (Err (BadTable table index)) e
    (λ same e_rest.
    let is : take 4 bytes ≡ magic = (bytes_eq-Decides (take 4 bytes) magic).0 same in
    let parts : bytes ≡ magic ++ drop 4 bytes = sym (take-append-drop 4 bytes) ∙ ap (λ (prefix : List ℕ). prefix ++ drop 4 bytes) is in
    in_versioned bytes (drop 4 bytes) table index (IsBytes-drop 4 bytes fits) parts e_rest)
    (λ other is. absurd (not_foreign table index (same_why {A = Image} NotInfusion (BadTable table index) is)))

pub bad_table_is : (bytes : List ℕ) (table index : ℕ) → AreBytes bytes → IsRefused bytes (BadTable table index) → HasBadTable bytes table index
bad_table_is bytes table index are e = bad_table bytes table index (bytes_are bytes are) e
