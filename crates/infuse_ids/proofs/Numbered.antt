-- The numbers of classes, class by class.
use Rattle.std.proofs.Common.{◌≡◌, ℕ, zero, suc, ◌+◌, ◌-◌, ◌<◌, ◌≤◌, length, take, Bool, true, false, ◌||◌, nat_lt, cond, List, [], ◌∷◌, ◌++◌, refl, sym, ap, ◌∙◌, arith}
use Rattle.std.specs.List.{fold, range_with_len}
use Rattle.std.specs.Option.{option_to_list}
use Rattle.std.proofs.lemmas.List.{take_all}
use Rattle.std.proofs.lemmas.List.Sums.{fold-append}
use Rattle.library.specs.Classes.{first_own}
use Rattle.class_file.specs.declared.record.ClassFile.{ClassFile}
use Rattle.class_tree.specs.DirectSupers.{superclass_of, superinterfaces_of}
use Rattle.jvm_model.specs.ImageNumbering.{is_among, number_class}

module _ (files : List ClassFile) (order : List ℕ) (class : ℕ) where
  abbrev is_passed : Bool
  is_passed = nat_lt class first_own || is_among class order

  abbrev uppers : List ℕ
  uppers = option_to_list (superclass_of files class) ++ superinterfaces_of files class

  -- no level is left
  pub at_end : (levels : ℕ) → levels ≡ 0 → order ≡ number_class files levels order class
  unfolding number_class
  at_end zero e = refl
  at_end (suc levels) e = cc

  -- the class has a number, or is none of a file
  pub passed : (levels : ℕ) → is_passed ≡ true → order ≡ number_class files levels order class
  unfolding number_class
  passed zero e = refl
  passed (suc levels) e = sym (ap (λ b. cond b order (fold (number_class files levels) order uppers ++ class ∷ [])) e)

  -- it gets one behind what stands above it
  pub behind : (levels : ℕ) → 0 < levels → is_passed ≡ false → fold (number_class files (levels - 1)) order uppers ++ class ∷ [] ≡ number_class files levels order class
  unfolding number_class
  behind zero lt e = absurd (omega (arith, lt))
  behind (suc levels) lt e =
      let same : suc levels - 1 ≡ levels = omega arith in
      ap (λ n. fold (number_class files n) order uppers ++ class ∷ []) same
      ∙ sym (ap (λ b. cond b order (fold (number_class files levels) order uppers ++ class ∷ [])) e)

-- the numbers from one on, with the next
range_next : (first many : ℕ) → range_with_len first (suc many) ≡ range_with_len first many ++ (first + many) ∷ []
range_next first zero = ap (λ n. n ∷ []) (let same : first ≡ first + 0 = omega arith in same)
range_next first (suc many) =
    ap (λ ns. first ∷ ns) (range_next (first + 1) many ∙ ap (λ n. range_with_len (first + 1) many ++ n ∷ []) (let same : first + 1 + many ≡ first + suc many = omega arith in same))

pub range_more : {B : Type 0} (f : B → ℕ → B) (start : B) (first many : ℕ) → f (fold f start (range_with_len first many)) (first + many) ≡ fold f start (range_with_len first (many + 1))
range_more f start first many =
    let one : many + 1 ≡ suc many = omega arith in
    sym (
    ap (λ n. fold f start (range_with_len first n)) one ∙ ap (fold f start) (range_next first many)
    ∙ fold-append f start (range_with_len first many) ((first + many) ∷ [])
    )

-- all items are taken
pub all_of : (items : List ℕ) (i : ℕ) → length items ≤ i → take i items ≡ items
all_of items i le = take_all i items le
