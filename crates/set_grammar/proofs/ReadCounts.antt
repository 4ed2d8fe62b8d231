-- A class file of bytes has fewer than 65,536 interfaces, and a name of fewer than 65,536 bytes.
use Rattle.std.proofs.Common.{◌≡◌, ℕ, zero, suc, ◌^◌, ◌<◌, List, [], ◌∷◌, length, slice_get, Option, Some, None, option_and_then, unwrap_or, Ok, refl, sym, subst, arith}
use Rattle.std.specs.List.{AllByRecursion}
use Rattle.byte_read.proofs.Steps.{IsBytes}
use Rattle.class_pool.specs.declared.pool.Const.{Const}
use Rattle.class_pool.specs.declared.pool.Const.TheVariants as entry
use Rattle.class_pool.specs.Pool.{Slots, EachEntry, FitsEntry, class_name_at, class_of as class_in, entry_at, text_of, utf8_at}
use Rattle.class_file.specs.declared.record.ClassFile.{ClassFile}
use Rattle.class_file.specs.ReadingClass.{class_of}
use Rattle.class_file.proofs.layout.Whole.{file_is}
use Rattle.class_tree.specs.Set.{own_name}
use Rattle.type_safety.proofs.fitting.SetLists.{none_some, same_some}

-- ---- texts of a pool

text_fits : (made : Const) (text : List ℕ) → FitsEntry made → text_of made ≡ Some text → length text < 2 ^ 16
text_fits (entry.Utf8 found) text fits e = subst (λ (t : List ℕ). length t < 2 ^ 16) (same_some found text e) fits.0
text_fits other text fits e = none_some text e

at_place : (pool : Slots) (place : ℕ) (made : Const) → EachEntry FitsEntry pool → option_and_then (λ slot. slot) (slice_get pool place) ≡ Some made → FitsEntry made
at_place [] place made each e = none_some made e
at_place (None ∷ pool) zero made each e = none_some made e
at_place (None ∷ pool) (suc place) made each e = at_place pool place made each e
at_place (Some other ∷ pool) zero made each e = subst FitsEntry (same_some other made e) each.0
at_place (Some other ∷ pool) (suc place) made each e = at_place pool place made each.1 e

at_index : (pool : Slots) (index : ℕ) (made : Const) → EachEntry FitsEntry pool → entry_at pool index ≡ Some made → FitsEntry made
at_index pool zero made each e = none_some made e
at_index pool (suc place) made each e = at_place pool place made each e

module _ (pool : Slots) (each : EachEntry FitsEntry pool) where
  entry_text : (index : ℕ) (found : Option Const) → entry_at pool index ≡ found → (text : List ℕ) → option_and_then text_of found ≡ Some text → length text < 2 ^ 16
  entry_text index None at text e = none_some text e
  entry_text index (Some made) at text e = text_fits made text (at_index pool index made each at) e

  short_or_none : (found : Option (List ℕ)) → ((text : List ℕ) → found ≡ Some text → length text < 2 ^ 16) → length (unwrap_or found []) < 2 ^ 16
  short_or_none None fits = omega arith
  short_or_none (Some text) fits = fits text refl

  name_text : (named : Option ℕ) (text : List ℕ) → option_and_then (utf8_at pool) named ≡ Some text → length text < 2 ^ 16
  name_text None text e = none_some text e
  name_text (Some index) text e = entry_text index (entry_at pool index) refl text e

  name_fits : (this : ℕ) → length (unwrap_or (class_name_at pool this) []) < 2 ^ 16
  name_fits this = short_or_none (class_name_at pool this) (name_text (option_and_then class_in (entry_at pool this)))

-- ---- files

each_byte : (bytes : List ℕ) → AllByRecursion (λ byte. byte < 256) bytes → IsBytes bytes
each_byte [] all i = omega arith
each_byte (byte ∷ bytes) all zero = all.0
each_byte (byte ∷ bytes) all (suc i) = each_byte bytes all.1 i

pub record HasFewCounts (file : ClassFile) : Type 0 where
  pub interfaces : length file.interfaces < 2 ^ 16
  pub name : length (own_name file) < 2 ^ 16

pub counts_fit : (bytes : List ℕ) (file : ClassFile) → AllByRecursion (λ byte. byte < 256) bytes → class_of bytes ≡ Ok file → HasFewCounts file
counts_fit bytes file all e =
    let is = file_is bytes file (each_byte bytes all) e in
    let laid = is.1 in
    let fits = laid.fits in
    let regular = laid.regular in
    let pool = regular.is_pool in
    subst HasFewCounts (sym laid.stands) (record { interfaces = fits.interface_count; name = name_fits is.0.pool pool.fits is.0.this_class })
