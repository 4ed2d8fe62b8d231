-- The first object that is too large, from a class on.
use Rattle.std.proofs.Common.{◌≡◌, ℕ, suc, ◌+◌, ◌-◌, ◌<◌, inl, inr, List, map, length, Option, Some, None, option_map, ap, ◌∙◌, arith}
use Rattle.std.specs.List.{range_with_len}
use Rattle.std.specs.Option.{option_or}
use Rattle.library.specs.Classes.{first_own}
use Rattle.class_file.specs.declared.record.ClassFile.{ClassFile}
use Rattle.jvm_model.specs.declared.numbers.Layout.{Layout}
use Rattle.jvm_model.specs.ImageLimits.{excess, object_cells, first_large, file_layouts}
use Rattle.jvm_model.specs.ImageNumbering.{layout_of}
use Rattle.infuse_ids.specs.declared.refusal.IdsRefusal.{IdsRefusal}
use Rattle.infuse_ids.specs.Sizes.{RefusesFor, refusal_of}

-- ---- the first of two counts above their limits

pub refuses_first : (first other : Option (ℕ × ℕ)) (why : IdsRefusal) → RefusesFor first why → RefusesFor (option_or first other) why
refuses_first first other why (inl memory) = inl memory
refuses_first None other why (inr e) = cc
refuses_first (Some x) other why (inr e) = inr e

pub refuses_later : (first other : Option (ℕ × ℕ)) (why : IdsRefusal) → first ≡ None → RefusesFor other why → RefusesFor (option_or first other) why
refuses_later first other why none (inl memory) = inl memory
refuses_later first other why none (inr e) = inr (ap (λ o. option_map refusal_of (option_or o other)) none ∙ e)

pub none_of_both : (first other : Option (ℕ × ℕ)) → first ≡ None → other ≡ None → option_or first other ≡ None
none_of_both first other none e = ap (λ o. option_or o other) none ∙ e

-- ---- objects

module _ (files : List ClassFile) where
  -- the layouts from a class on
  abbrev pub from_class : ℕ → List Layout
  from_class position = map (layout_of files) (range_with_len (first_own + position) (length files - position))

  pub at_start : first_large (from_class 0) ≡ first_large (file_layouts files)
  at_start =
      let start : first_own + 0 ≡ first_own = omega arith in
      let many : length files - 0 ≡ length files = omega arith in
      ap (λ n. first_large (map (layout_of files) (range_with_len n (length files - 0)))) start
      ∙ ap (λ n. first_large (map (layout_of files) (range_with_len first_own n))) many

  abbrev excess_at : ℕ → Option (ℕ × ℕ)
  excess_at position = excess 7 (object_cells (layout_of files (first_own + position))) 32767

  pub at_class : (position : ℕ) → position < length files → first_large (from_class position) ≡ option_or (excess_at position) (first_large (from_class (position + 1)))
  unfolding first_large
  at_class position lt =
      let many : length files - position ≡ suc (length files - (position + 1)) = omega (arith, lt) in
      let next : first_own + position + 1 ≡ first_own + (position + 1) = omega arith in
      ap (λ n. first_large (map (layout_of files) (range_with_len (first_own + position) n))) many
      ∙ ap (λ n. option_or (excess_at position) (first_large (map (layout_of files) (range_with_len n (length files - (position + 1)))))) next

  pub at_end : (position : ℕ) → length files - position ≡ 0 → first_large (from_class position) ≡ None
  unfolding first_large
  at_end position none = ap (λ n. first_large (map (layout_of files) (range_with_len (first_own + position) n))) none
