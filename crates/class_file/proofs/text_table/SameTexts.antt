-- The rows of a pool's texts make a right table, and by it members of the same name and descriptor are known.
use Rattle.std.proofs.Common.{◌≡◌, ℕ, zero, suc, ◌+◌, ◌<◌, ◌≤◌, Bool, true, false, cond, ◌||◌, List, [], ◌∷◌, ◌++◌, length, get_or, Option, Some, None, refl, sym, ap, ◌∙◌, ⊎_elim, arith}
use Rattle.std.specs.Prelude.{◌==◌, IsSome, is_some, option_map, option_and_then, unwrap_or, slice_get}
use Rattle.std.specs.Borrow.{Bor}
use Rattle.std.specs.Bool.{Decides}
use Rattle.std.specs.Str.{bytes_eq}
use Rattle.std.specs.BTreeMap as tree
use Rattle.std.specs.BTreeMap.{BTreeMap, is_at}
use Rattle.std.specs.BTreeSet as sorted
use Rattle.std.specs.BTreeSet.{BTreeSet}
use Rattle.std.specs.Ordering.{nat_cmp, is_eq}
use Rattle.std.specs.Cmp.{tied_then, unsigned_tied}
use Rattle.std.specs.Cmp.Lexicographic.{slice_cmp}
use Rattle.std.proofs.lemmas.Bool.{false≢true, eqb-true, eq-eqb, cases_lt, cases_eq}
use Rattle.std.proofs.lemmas.Bool.Decides.{same_from_decides}
use Rattle.std.proofs.Math.Seq.{get_or-append_seam}
use Rattle.std.proofs.lemmas.List.{length-append, get_or_append_left}
use Rattle.std.proofs.lemmas.Option.{slice_get_past, slice_get-get_or}
use Rattle.std.proofs.lemmas.Slice.Eq.{bytes_eq-Decides}
use Rattle.std.proofs.lemmas.Map.Text.{btree_map_updates_str}
use Rattle.class_pool.specs.Pool.{Slots, utf8_at}
use Rattle.class_pool.specs.DescriptorReading.{field_of, method_of}
use Rattle.class_file.specs.declared.head.Head.{Head}
use Rattle.class_file.specs.declared.record.Member.{Member}
use Rattle.class_file.specs.declared.texts.TextRow.{TextRow}
use Rattle.class_file.specs.Rules.{is_same_text, is_same_member}
use Rattle.class_file.specs.ReadingMembers.{head_in, is_declared}
use Rattle.class_file.specs.Texts.{shape_of, same_in, is_field_in, shape_in, same_at, AreTexts, number_in, AreNumbered, no_row, row_of, row_at, signature_of, signature_cmp, is_seen, AreSeen}
use Rattle.class_file.proofs.layout.Distinct.{one_after}

-- no text follows the pool
pub none_after : (pool : Slots) (index : ℕ) → length pool + 1 ≤ index → utf8_at pool index ≡ None
none_after pool zero le = absurd (omega arith)
none_after pool (suc offset) le =
    let gone : slice_get pool offset ≡ None = slice_get_past pool offset (omega arith) in
    rw gone refl

-- ---- the numbers

-- each text before an index has an index of its own
pub record AreNumberedTo (pool : Slots) (number : List ℕ → Option ℕ) (count : ℕ) : Type 0 where
  pub named : (text : List ℕ) (index : ℕ) → number text ≡ Some index → utf8_at pool index ≡ Some text
  pub all : (index : ℕ) (text : List ℕ) → index < count → utf8_at pool index ≡ Some text → IsSome (number text)

pub none_numbered : (pool : Slots) (numbers : BTreeMap (Bor (List ℕ)) ℕ) → numbers.entries ≡ [] → AreNumberedTo pool (number_in numbers) 0
none_numbered pool numbers empty =
    record {
      named = λ text index e. absurd (no_number text index e);
      all = λ index text lt is. absurd (omega arith);
    }
  where
    no_number : (text : List ℕ) (index : ℕ) → number_in numbers text ≡ Some index → ⊥
    no_number text index e =
        let none : number_in numbers text ≡ None = rw empty refl in
        let both : None ≡ Some index = sym none ∙ e in
        cc

-- a place without a text
pub one_passed : (pool : Slots) (number : List ℕ → Option ℕ) (count : ℕ) → utf8_at pool count ≡ None → AreNumberedTo pool number count → AreNumberedTo pool number (count + 1)
one_passed pool number count none so_far =
    record {
      named = so_far.named;
      all = λ index text lt is.
          ⊎_elim (λ same. absurd (apart index text same is)) (λ other. so_far.all index text (omega arith) is) (cases_eq index count);
    }
  where
    apart : (index : ℕ) (text : List ℕ) → index ≡ count → utf8_at pool index ≡ Some text → ⊥
    apart index text same is =
        let both : None ≡ Some text = sym none ∙ ap (utf8_at pool) (sym same) ∙ is in
        cc

-- a place with a text, which is put in
pub one_numbered : (pool : Slots) (old new : BTreeMap (Bor (List ℕ)) ℕ) (count : ℕ) (text : List ℕ) → utf8_at pool count ≡ Some text
    → tree.UpdatesBy (λ x y. slice_cmp nat_cmp x.now y.now) (λ key. slice_cmp nat_cmp text key.now) old new (Some count) → AreNumberedTo pool (number_in old) count → AreNumberedTo pool (number_in new) (count + 1)
one_numbered pool old new count text here puts so_far =
    record {
      named = λ other index e. names other index (bytes_eq text other) refl (sym (now other) ∙ e);
      all = λ index other lt is.
          ⊎_elim (λ same. has index other (ap (utf8_at pool) same ∙ here) is) (λ apart. had other (so_far.all index other (omega arith) is)) (cases_eq index count);
    }
  where
    now : (other : List ℕ) → number_in new other ≡ cond (bytes_eq text other) (Some count) (number_in old other)
    now other = btree_map_updates_str text old new (Some count) puts other

    one_text : (a b : List ℕ) → Some a ≡ Some b → a ≡ b
    one_text a b e = cc

    one_slot : (a b : ℕ) → Some a ≡ Some b → a ≡ b
    one_slot a b e = cc

    names : (other : List ℕ) (index : ℕ) (test : Bool) → bytes_eq text other ≡ test → cond (bytes_eq text other) (Some count) (number_in old other) ≡ Some index → utf8_at pool index ≡ Some other
    names other index true same e =
        let at : count ≡ index = one_slot count index (sym (ap (λ b. cond b (Some count) (number_in old other)) same) ∙ e) in
        let is : text ≡ other = (bytes_eq-Decides text other).0 same in
        ap (utf8_at pool) (sym at) ∙ (here ∙ ap (λ (t : List ℕ). Some t) is)
    names other index false apart e = so_far.named other index (sym (ap (λ b. cond b (Some count) (number_in old other)) apart) ∙ e)

    set_there : (test : Bool) (found : Option ℕ) → test ≡ true → IsSome (cond test (Some count) found)
    set_there test found e = rw e refl

    has : (index : ℕ) (other : List ℕ) → utf8_at pool index ≡ Some text → utf8_at pool index ≡ Some other → IsSome (number_in new other)
    has index other is also =
        let same : text ≡ other = one_text text other (sym is ∙ also) in
        rw (now other) (set_there (bytes_eq text other) (number_in old other) ((bytes_eq-Decides text other).1 same))

    kept : (test : Bool) (found : Option ℕ) → IsSome found → IsSome (cond test (Some count) found)
    kept true found is = refl
    kept false found is = is

    had : (other : List ℕ) → IsSome (number_in old other) → IsSome (number_in new other)
    had other is = rw (now other) (kept (bytes_eq text other) (number_in old other) is)

pub all_numbered : (pool : Slots) (number : List ℕ → Option ℕ) (count : ℕ) → length pool + 1 ≤ count → AreNumberedTo pool number count → AreNumbered pool number
all_numbered pool number count le so_far =
    record {
      named = so_far.named;
      all = λ index text is. ⊎_elim (λ lt. so_far.all index text lt is) (λ past. absurd (gone index text (omega arith) is)) (cases_lt index count);
    }
  where
    gone : (index : ℕ) (text : List ℕ) → length pool + 1 ≤ index → utf8_at pool index ≡ Some text → ⊥
    gone index text past is =
        let both : None ≡ Some text = sym (none_after pool index past) ∙ is in
        cc

-- ---- the rows

-- one more row
pub one_row : {X : Type 0} (rows : List X) (row : X) (at : ℕ → X) (count : ℕ) → length rows ≡ count → ((index : ℕ) → index < length rows → slice_get rows index ≡ Some (at index)) → row ≡ at count
    → (length (rows ++ row ∷ []) ≡ count + 1) × ((index : ℕ) → index < length (rows ++ row ∷ []) → slice_get (rows ++ row ∷ []) index ≡ Some (at index))
one_row {X} rows row at count size so_far is =
    (longer ∙ ap (λ n. n + 1) size, λ index lt. ⊎_elim (λ prefix. earlier index lt prefix) (λ past. last index lt (omega (arith, longer))) (cases_lt index (length rows)))
  where
    longer : length (rows ++ row ∷ []) ≡ length rows + 1
    longer = length-append rows (row ∷ [])

    some : (a b : X) → a ≡ b → Some a ≡ Some b
    some a b e = ap (λ (x : X). Some x) e

    earlier : (index : ℕ) → index < length (rows ++ row ∷ []) → index < length rows → slice_get (rows ++ row ∷ []) index ≡ Some (at index)
    earlier index lt prefix =
        slice_get-get_or (rows ++ row ∷ []) index row lt
        ∙ (some (get_or (rows ++ row ∷ []) index row) (get_or rows index row) (get_or_append_left rows (row ∷ []) row index prefix) ∙ (sym (slice_get-get_or rows index row prefix) ∙ so_far index prefix))

    last : (index : ℕ) → index < length (rows ++ row ∷ []) → index ≡ length rows → slice_get (rows ++ row ∷ []) index ≡ Some (at index)
    last index lt end =
        slice_get-get_or (rows ++ row ∷ []) index row lt
        ∙ (some (get_or (rows ++ row ∷ []) index row) row (ap (λ n. get_or (rows ++ row ∷ []) n row) end ∙ get_or-append_seam rows row [] row) ∙ some row (at index) (is ∙ ap at (sym size ∙ sym end)))

pub table_is_right : (pool : Slots) (number : List ℕ → Option ℕ) (rows : List TextRow) → AreNumbered pool number → length rows ≡ length pool + 1
    → ((index : ℕ) → index < length rows → slice_get rows index ≡ Some (row_at pool number index)) → AreTexts pool rows
table_is_right pool number rows numbered count each =
    record {
      same_text = λ index. ap (utf8_at pool) (reads same_in (λ row. row.same) refl (λ row. refl) index) ∙ stands (utf8_at pool index) index refl;
      one_index = λ first second e.
          reads same_in (λ row. row.same) refl (λ row. refl) first ∙ (ap (λ found. (row_of number found).same) e ∙ sym (reads same_in (λ row. row.same) refl (λ row. refl) second));
      fields = λ index. reads is_field_in (λ row. row.is_field) refl (λ row. refl) index ∙ field_told (utf8_at pool index);
      methods = λ index. reads shape_in (λ row. row.method) refl (λ row. refl) index ∙ method_told (utf8_at pool index);
    }
  where
    reads : {X : Type 0} (of : Option TextRow → X) (part : TextRow → X) → of None ≡ part no_row → ((row : TextRow) → of (Some row) ≡ part row) → (index : ℕ) → of (slice_get rows index) ≡ part (row_at pool number index)
    reads of part none some index =
        ⊎_elim (λ lt. ap of (each index lt) ∙ some (row_at pool number index))
        (λ past.
        let gone : slice_get rows index ≡ None = slice_get_past rows index past in
        let no_text : utf8_at pool index ≡ None = none_after pool index (omega arith) in
        ap of gone ∙ (none ∙ ap (λ found. part (row_of number found)) (sym no_text)))
        (cases_lt index (length rows))

    named : (text : List ℕ) (found : Option ℕ) → number text ≡ found → IsSome found → utf8_at pool (unwrap_or found 0) ≡ Some text
    named text None e is = absurd (false≢true is)
    named text (Some index) e is = numbered.named text index e

    stands : (found : Option (List ℕ)) (index : ℕ) → utf8_at pool index ≡ found → utf8_at pool ((row_of number found).same) ≡ found
    stands None index e = refl
    stands (Some text) index e = named text (number text) refl (numbered.all index text e)

    field_told : (found : Option (List ℕ)) → (row_of number found).is_field ≡ is_some (option_and_then field_of found)
    field_told None = refl
    field_told (Some text) = refl

    method_told : (found : Option (List ℕ)) → (row_of number found).method ≡ option_map shape_of (option_and_then method_of found)
    method_told None = refl
    method_told (Some text) = refl

-- ---- members of the same name and descriptor

Decides-same_text : (first second : Option (List ℕ)) → IsSome second → Decides (is_same_text first second) (first ≡ second)
Decides-same_text None None is = absurd (false≢true is)
Decides-same_text None (Some text) is = (λ e. absurd (false≢true e), λ (e : None ≡ Some text). absurd cc)
Decides-same_text (Some text) None is = absurd (false≢true is)
Decides-same_text (Some text) (Some other) is =
    let tells = bytes_eq-Decides other text in
    (λ e. ap (λ (t : List ℕ). Some t) (sym (tells.0 e)), λ (e : Some text ≡ Some other). tells.1 cc)

module _ (pool : Slots) (rows : List TextRow) (right : AreTexts pool rows) where
  Decides-same_index : (first second : ℕ) → Decides (same_at rows first == same_at rows second) (utf8_at pool first ≡ utf8_at pool second)
  Decides-same_index first second = (
    λ e. sym (right.same_text first) ∙ (ap (utf8_at pool) (eqb-true (same_at rows first) (same_at rows second) e) ∙ right.same_text second),
    λ e. eq-eqb (same_at rows first) (same_at rows second) (right.one_index first second e),
  )

  -- two texts are the same exactly where one index stands for both
  pub same_where : (first second : ℕ) → IsSome (utf8_at pool second) → is_same_text (utf8_at pool first) (utf8_at pool second) ≡ (same_at rows first == same_at rows second)
  same_where first second is = same_from_decides _ _ (Decides-same_text (utf8_at pool first) (utf8_at pool second) is) (Decides-same_index first second)

  same_signature : (first second : Head) → IsSome (utf8_at pool second.name) → IsSome (utf8_at pool second.descriptor)
      → is_same_member pool first second ≡ is_at (signature_cmp (signature_of rows first)) (signature_of rows second)
  same_signature first second name descriptor =
      let a = nat_cmp (same_at rows first.name) (same_at rows second.name) in
      let b = nat_cmp (same_at rows first.descriptor) (same_at rows second.descriptor) in
      let names : is_same_text (utf8_at pool first.name) (utf8_at pool second.name) ≡ is_eq a = same_where first.name second.name name ∙ sym (unsigned_tied (same_at rows first.name) (same_at rows second.name)) in
      let descriptors : is_same_text (utf8_at pool first.descriptor) (utf8_at pool second.descriptor) ≡ is_eq b =
      same_where first.descriptor second.descriptor descriptor ∙ sym (unsigned_tied (same_at rows first.descriptor) (same_at rows second.descriptor)) in
      rw (names, descriptors) (tied_then a b)

  joined : (one old : Bool) → cond one true old ≡ (old || (one || false))
  joined true true = refl
  joined true false = refl
  joined false true = refl
  joined false false = refl

  -- one more member
  pub one_seen : (earlier : List Member) (m : Member) (old new : BTreeSet (ℕ × ℕ)) → sorted.Updates signature_cmp old new (signature_of rows (head_in m)) true → AreSeen pool rows earlier old → AreSeen pool rows (earlier ++ m ∷ []) new
  one_seen earlier m old new puts so_far head name descriptor =
      let now : is_seen rows new head ≡ cond (is_at (signature_cmp (signature_of rows (head_in m))) (signature_of rows head)) true (is_seen rows old head) = puts.0 (signature_of rows head) in
      let one : is_same_member pool (head_in m) head ≡ is_at (signature_cmp (signature_of rows (head_in m))) (signature_of rows head) = same_signature (head_in m) head name descriptor in
      now ∙ (ap (λ (b : Bool). cond b true (is_seen rows old head)) (sym one)
      ∙ (joined (is_same_member pool (head_in m) head) (is_seen rows old head)
      ∙ (ap (λ (b : Bool). b || (is_same_member pool (head_in m) head || false)) (so_far head name descriptor) ∙ sym (one_after pool earlier m head))))

-- before the first
pub none_seen : (pool : Slots) (rows : List TextRow) (seen : BTreeSet (ℕ × ℕ)) → seen.keys ≡ [] → AreSeen pool rows [] seen
unfolding is_declared
none_seen pool rows seen empty head name descriptor = rw empty refl
