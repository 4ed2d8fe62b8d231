-- The table of what stands directly above what, row by row.
use Rattle.std.proofs.Common.{◌≡◌, ℕ, ◌+◌, ◌-◌, ◌<◌, ◌≤◌, Bool, false, cond, List, [], ◌∷◌, ◌++◌, length, get_or, slice_get, Option, Some, Vec, Global, inl, inr, sym, ◌∙◌, ap, subst, arith}
use Rattle.std.specs.Option.{option_map_or}
use Rattle.std.proofs.lemmas.Bool.{le-ltb, cases_lt}
use Rattle.std.proofs.lemmas.List.{length-map}
use Rattle.library.specs.Classes.{first_own}
use Rattle.class_file.specs.declared.record.ClassFile.{ClassFile}
use Rattle.class_tree.specs.Set.{is_number, library_superclass, names_super, is_directly_below}
use Rattle.class_tree.specs.Closure.{Edges, AreOver, IsRowOf}
use Rattle.class_tree.proofs.tables.Rows.{lists, row_pushed, row_earlier}
use Rattle.class_tree.proofs.ancestors.Leading.{over_zero}

-- what a file says is what stands directly above its class
pub file_below : (names : List (List ℕ)) (files : List ClassFile) (class : ℕ) (file : ClassFile) (to : ℕ) → first_own ≤ class → slice_get files (class - first_own) ≡ Some file
    → names_super names to file ≡ is_directly_below names files class to
file_below names files class file to ge is =
    sym (ap (λ b. cond b (is_number to (library_superclass class)) (option_map_or (names_super names to) (slice_get files (class - first_own)) false)) (le-ltb class first_own ge)
    ∙ ap (λ (o : Option ClassFile). option_map_or (names_super names to) o false) is)

module _ (edge : Edges) (count : ℕ) where
  -- the rows up to a number say what they are to say
  abbrev pub AreRows : ℕ → List (Vec Bool Global) → Type 0
  AreRows most rows = (from : ℕ) → from < most → IsRowOf edge count from (get_or (lists rows) from [])

  pub rows_more : (rows : List (Vec Bool Global)) (n : ℕ) (row : Vec Bool Global) → length rows ≡ n → AreRows n rows → IsRowOf edge count n row.items → AreRows (n + 1) (rows ++ row ∷ [])
  rows_more rows n row many done new from lt =
      let P : List Bool → Type 0 = λ r. IsRowOf edge count from r in
      elim (cases_lt from n) [
        | inl less ↦ subst P (sym (row_earlier rows row from (subst (λ m. from < m) (sym many) less))) (done from less)
        | inr more ↦
            let e : length rows ≡ from = omega (arith, lt, more, many) in
            let Q : ℕ → Type 0 = λ m. IsRowOf edge count m row.items in
            subst P (sym (ap (λ m. get_or (lists (rows ++ row ∷ [])) m []) (sym e) ∙ row_pushed rows row)) (subst Q (sym many ∙ e) new)
      ]

  pub table_begins : (rows : List (Vec Bool Global)) → length rows ≡ count → AreRows count rows → AreOver edge count 0 (lists rows)
  table_begins rows many done =
      record {
        square = record { many = length-map rows (λ (v : Vec Bool Global). v.items) ∙ many; long = λ from lt. (done from lt).long };
        says = λ from to f t. (done from f).says to t ∙ sym (over_zero edge from to);
      }
