-- Where no count is above its limit, each count is within it.
use Rattle.std.proofs.Common.{◌≡◌, ℕ, ◌+◌, ◌≤◌, Bool, true, false, cond, nat_lt, List, length, Option, Some, None, refl, sym}
use Rattle.std.specs.Option.{option_or}
use Rattle.std.proofs.lemmas.Bool.{ltb-false}
use Rattle.std.proofs.lemmas.Option.{none-some}
use Rattle.library.specs.Classes.{first_own}
use Rattle.class_file.specs.declared.record.ClassFile.{ClassFile}
use Rattle.jvm_model.specs.ImageLimits.{excess, file_layouts, first_excess, first_large}
use Rattle.jvm_model.specs.ImageNumbering.{Numbering}

-- neither of two has something
pub first_none : {X : Type 0} (first second : Option X) → option_or first second ≡ None → first ≡ None
first_none None second is = refl
first_none (Some x) second is = absurd (none-some x (sym is))

pub second_none : {X : Type 0} (first second : Option X) → option_or first second ≡ None → second ≡ None
second_none None second is = is
second_none (Some x) second is = absurd (none-some x (sym is))

pub within : (what count limit : ℕ) → excess what count limit ≡ None → count ≤ limit
within what count limit is = by (nat_lt limit count) refl is
  where
    by : (b : Bool) → nat_lt limit count ≡ b → cond {A = Option (ℕ × ℕ)} b (Some (what, count)) None ≡ None → count ≤ limit
    by true e is = let found : ℕ × ℕ = (what, count) in absurd (none-some found (sym is))
    by false e is = ltb-false limit count e

-- each count is within its limit
pub record AreWithin (files : List ClassFile) (numbering : Numbering) : Type 0 where
  pub types : first_own + length numbering.types ≤ 4096
  pub selectors : length numbering.selectors ≤ 16384
  pub methods : first_own + length numbering.methods ≤ 16384
  pub static_refs : numbering.static_refs ≤ 16384
  pub static_cells : length numbering.static_cells ≤ 16384
  pub layouts : first_large (file_layouts files) ≡ None

pub are_within : (files : List ClassFile) (numbering : Numbering) → first_excess files numbering ≡ None → AreWithin files numbering
are_within files numbering none =
    let types = excess 2 (first_own + length numbering.types) 4096 in
    let selectors = excess 3 (length numbering.selectors) 16384 in
    let methods = excess 4 (first_own + length numbering.methods) 16384 in
    let refs = excess 5 numbering.static_refs 16384 in
    let cells = excess 6 (length numbering.static_cells) 16384 in
    let large = first_large (file_layouts files) in
    let from_cells = option_or cells large in
    let from_refs = option_or refs from_cells in
    let from_methods = option_or methods from_refs in
    let from_selectors = option_or selectors from_methods in
    let after_types = second_none types from_selectors none in
    let after_selectors = second_none selectors from_methods after_types in
    let after_methods = second_none methods from_refs after_selectors in
    let after_refs = second_none refs from_cells after_methods in
    record {
      types = within 2 (first_own + length numbering.types) 4096 (first_none types from_selectors none);
      selectors = within 3 (length numbering.selectors) 16384 (first_none selectors from_methods after_types);
      methods = within 4 (first_own + length numbering.methods) 16384 (first_none methods from_refs after_selectors);
      static_refs = within 5 numbering.static_refs 16384 (first_none refs from_cells after_methods);
      static_cells = within 6 (length numbering.static_cells) 16384 (first_none cells large after_refs);
      layouts = second_none cells large after_refs;
    }
