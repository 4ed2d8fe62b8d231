-- The rows of a class are by rising selectors, and their numbers fit.
use Rattle.std.proofs.Common.{◌≡◌, ◌⊎◌, inl, inr, ℕ, suc, ◌+◌, ◌-◌, ◌^◌, ◌<◌, ◌≤◌, Bool, true, false, nat_eq, if◌then◌else◌, List, [], ◌∷◌, ◌++◌, length, slice_get, position, Option, Some, None, option_map, unwrap_or, refl, sym, ap, subst, ◌∙◌, arith, eqb-true, length-append}
use Rattle.std.specs.List.{filter_map, cons_option}
use Rattle.std.specs.Option.{option_map_or}
use Rattle.std.proofs.lemmas.Bool.{lt-ltb}
use Rattle.std.proofs.lemmas.List.Quantifiers.{position-Some}
use Rattle.library.specs.Classes.{first_own}
use Rattle.library.specs.Members.{methods_of as natives_of}
use Rattle.library.specs.Natives.{number_of}
use Rattle.library.specs.declared.natives.Native.{Native}
use Rattle.library.specs.declared.natives.Native.TheVariants as native
use Rattle.class_pool.specs.declared.types.MemberId.{MemberId}
use Rattle.class_file.specs.declared.record.ClassFile.{ClassFile}
use Rattle.class_tree.specs.Selection.{select}
use Rattle.image_form.specs.Grammar.{EachAfter, IsRow, is_above}
use Rattle.image_form.specs.declared.record.DispatchRow.{DispatchRow}
use Rattle.jvm_model.specs.declared.numbers.Selector.{Selector}
use Rattle.jvm_model.specs.ImageNumbering.{Numbering, is_member, method_id}
use Rattle.jvm_model.specs.ImageTables.{entry_flags, numbered, row_for, rows_of}

-- ---- ids of methods

small_number : (n : Native) → number_of n < 32
small_number native.Construct = omega arith
small_number native.Write = omega arith
small_number native.Read = omega arith
small_number native.Print = omega arith

some_place : (methods : List MemberId) (member : MemberId) (place : Option ℕ) → position (is_member member) methods ≡ place → unwrap_or place 0 ≤ length methods
some_place methods member None is = omega arith
some_place methods member (Some place) is = let found = position-Some (is_member member) methods place member is in let lt = found.0 in omega (arith, lt)

pub id_fits : (methods : List MemberId) (member : MemberId) → first_own + length methods ≤ 16384 → method_id methods member < 2 ^ 16
id_fits methods member few = by (slice_get (natives_of member.class) member.member)
  where
    by : (found : Option Native) → option_map_or number_of found (first_own + unwrap_or (position (is_member member) methods) 0) < 2 ^ 16
    by None = let place = some_place methods member (position (is_member member) methods) refl in omega (arith, few, place)
    by (Some n) = let number = small_number n in omega (arith, number)

-- ---- rows

last_is : (rows : List DispatchRow) (row : DispatchRow) → slice_get (rows ++ row ∷ []) (length (rows ++ row ∷ []) - 1) ≡ Some row
last_is rows row =
    let at : length (rows ++ row ∷ []) - 1 ≡ length rows = omega (arith, length-append rows (row ∷ [])) in
    ap (slice_get (rows ++ row ∷ [])) at ∙ there rows
  where
    there : (before : List DispatchRow) → slice_get (before ++ row ∷ []) (length before) ≡ Some row
    there [] = refl
    there (first ∷ before) = there before

module _ (files : List ClassFile) (numbering : Numbering) (few : first_own + length numbering.methods ≤ 16384) (class : ℕ) where
  -- each selector from this one on is above those of rows
  abbrev AreBelow : List DispatchRow → ℕ → Type 0
  AreBelow before from = (selector : ℕ) → from ≤ selector → is_above (slice_get before (length before - 1)) selector ≡ true

  rows_rise : (before : List DispatchRow) (from : ℕ) (selectors : List Selector) → from + length selectors ≤ 16384 → AreBelow before from → EachAfter IsRow before (filter_map (row_for files numbering class) (numbered from selectors))
  unfolding numbered
  rows_rise before from [] room below = tt
  rows_rise before from (selector ∷ selectors) room below =
      by (select files selector.name selector.descriptor class) (λ rows under. rows_rise rows (suc from) selectors (omega (arith, room)) under)
    where
      by : (found : Option MemberId) → ((rows : List DispatchRow) → AreBelow rows (suc from) → EachAfter IsRow rows (filter_map (row_for files numbering class) (numbered (suc from) selectors)))
          → EachAfter IsRow before (cons_option (option_map (λ member. record { selector = from; method = method_id numbering.methods member }) found) (filter_map (row_for files numbering class) (numbered (suc from) selectors)))
      by None rest = rest before (λ other le. below other (omega (arith, le)))
      by (Some member) rest =
          let row : DispatchRow = record { selector = from; method = method_id numbering.methods member } in (
            record { selector_fits = omega (arith, room); rises = below from (omega arith); method_fits = id_fits numbering.methods member few },
            rest (before ++ row ∷ []) (λ other le. ap (λ found. is_above found other) (last_is before row) ∙ lt-ltb from other (omega (arith, le))),
          )

  few_rows : (from : ℕ) (selectors : List Selector) → length (filter_map (row_for files numbering class) (numbered from selectors)) ≤ length selectors
  unfolding numbered
  few_rows from [] = omega arith
  few_rows from (selector ∷ selectors) = by (row_for files numbering class (from, selector)) (few_rows (suc from) selectors)
    where
      by : (found : Option DispatchRow) → length (filter_map (row_for files numbering class) (numbered (suc from) selectors)) ≤ length selectors
          → length (cons_option found (filter_map (row_for files numbering class) (numbered (suc from) selectors))) ≤ length (selector ∷ selectors)
      by None rest = omega (arith, rest)
      by (Some row) rest = omega (arith, rest)

  -- the rows of a class with these flags
  pub record HasGoodRows (flags : ℕ) : Type 0 where
    pub fit : length (rows_of files numbering class flags) < 2 ^ 16
    pub hold : (entry_flags flags ≡ 0) ⊎ (rows_of files numbering class flags ≡ [])
    pub are : EachAfter IsRow [] (rows_of files numbering class flags)

  pub good_rows : (flags : ℕ) → length numbering.selectors ≤ 16384 → HasGoodRows flags
  good_rows flags room = by (nat_eq (entry_flags flags) 0) refl
    where
      by : (concrete : Bool) → nat_eq (entry_flags flags) 0 ≡ concrete → HasGoodRows flags
      by true is =
          let all = filter_map (row_for files numbering class) (numbered 0 numbering.selectors) in
          let same : rows_of files numbering class flags ≡ all = ap (λ b. if b then all else []) is in
          record {
            fit = let count = few_rows 0 numbering.selectors in let long = ap (λ (rows : List DispatchRow). length rows) same in omega (arith, room, count, long);
            hold = inl (eqb-true (entry_flags flags) 0 is);
            are = subst (EachAfter IsRow []) (sym same) (rows_rise [] 0 numbering.selectors (omega (arith, room)) (λ selector le. refl));
          }
      by false is =
          let same : rows_of files numbering class flags ≡ [] = ap (λ b. if b then filter_map (row_for files numbering class) (numbered 0 numbering.selectors) else []) is in
          record { fit = let long = ap (λ (rows : List DispatchRow). length rows) same in omega (arith, long); hold = inr same; are = subst (EachAfter IsRow []) (sym same) tt }
