-- The merge of two trees, by those of their halves.
use Rattle.std.proofs.Common.{◌≡◌, ℕ, zero, suc, ◌-◌, ◌^◌, ◌<◌, min, List, [], ◌∷◌, ◌++◌, length, take, Option, Some, None, unwrap_or, refl, sym, ap, subst, ◌∙◌, arith, option_map}
use Rattle.std.specs.List.{AllByRecursion}
use Rattle.std.proofs.lemmas.List.{length-take, take_min, take_all}
use Rattle.class_file.specs.declared.record.ClassFile.{ClassFile}
use Rattle.class_tree.specs.Tree.{Gathers}
use Rattle.class_tree.specs.Merge.{merge}
use Rattle.class_tree.specs.MergeLaws.{IsKnown}
use Rattle.class_tree.proofs.merging.MergeLaws.{stays}
use Rattle.body_form.specs.declared.types.VType.{VType}
use Rattle.jvm_model.specs.TypesFrames.{may_be_local, merge_lists}
use Rattle.type_table.specs.declared.store.Branch.{Branch}
use Rattle.type_table.specs.declared.trees.Trees.{Trees}
use Rattle.type_table.specs.Trees.{tree_of, HasTree, TreesGrow, IsBranch, IsTree}
use Rattle.type_table.specs.Merges.{merged_types, IsForkOver, IsMergedLeaf, IsMergedTree}
use Rattle.type_table.proofs.Branching.{tree_stays, length_tree}

-- ---- lists

module _ (files : List ClassFile) where
  pub merged_itself : Gathers files None → (types : List VType) → AllByRecursion (IsKnown files) types → merged_types files types types ≡ types
  unfolding merged_types
  merged_itself gathered [] known = refl
  merged_itself gathered (type ∷ types) known =
      ap (λ (t : VType). t ∷ merged_types files types types) (stays files gathered type known.0) ∙ ap (λ (list : List VType). type ∷ list) (merged_itself gathered types known.1)

  pub merged_append : (a b c d : List VType) → length a ≡ length c → merged_types files (a ++ b) (c ++ d) ≡ merged_types files a c ++ merged_types files b d
  unfolding merged_types
  merged_append [] b [] d long = refl
  merged_append [] b (y ∷ c) d long = let none : 0 ≡ suc (length c) = long in absurd (omega arith)
  merged_append (x ∷ a) b [] d long = let none : suc (length a) ≡ 0 = long in absurd (omega arith)
  merged_append (x ∷ a) b (y ∷ c) d long = ap (λ (list : List VType). merge files x y ∷ list) (merged_append a b c d (omega arith))

  pub length_merged : (a b : List VType) → length a ≡ length b → length (merged_types files a b) ≡ length a
  unfolding merged_types
  length_merged [] b long = refl
  length_merged (x ∷ a) [] long = let none : suc (length a) ≡ 0 = long in absurd (omega arith)
  length_merged (x ∷ a) (y ∷ b) long = ap suc (length_merged a b (omega arith))

  -- locals merge whatever they are
  pub locals_merge : (a b : List VType) → length a ≡ length b → merge_lists files may_be_local a b ≡ Some (merged_types files a b)
  unfolding merged_types merge_lists
  locals_merge [] [] long = refl
  locals_merge [] (y ∷ b) long = let none : 0 ≡ suc (length b) = long in absurd (omega arith)
  locals_merge (x ∷ a) [] long = let none : suc (length a) ≡ 0 = long in absurd (omega arith)
  locals_merge (x ∷ a) (y ∷ b) long = ap (option_map (λ types. merge files x y ∷ types)) (locals_merge a b (omega arith))

take_split : (count : ℕ) (xs ys : List VType) → take count (xs ++ ys) ≡ take count xs ++ take (count - length xs) ys
take_split zero [] ys = refl
take_split zero (x ∷ xs) ys = let none : 0 - suc (length xs) ≡ 0 = omega arith in sym (ap (λ n. take n ys) none)
take_split (suc count) [] ys = let none : suc count - 0 ≡ suc count = omega arith in sym (ap (λ n. take n ys) none)
take_split (suc count) (x ∷ xs) ys =
    let same : suc count - suc (length xs) ≡ count - length xs = omega arith in
    ap (λ (list : List VType). x ∷ list) (take_split count xs ys) ∙ ap (λ n. x ∷ (take count xs ++ take n ys)) (sym same)

-- the first locals of two halves
pub take_halves : (count half : ℕ) (xs ys : List VType) → length xs ≡ half → take count (xs ++ ys) ≡ take (min count half) xs ++ take (count - half) ys
take_halves count half xs ys long =
    take_split count xs ys
    ∙ ap (λ (list : List VType). list ++ take (count - length xs) ys) (sym (take_min count xs) ∙ ap (λ n. take (min count n) xs) long)
    ∙ ap (λ n. take (min count half) xs ++ take (count - n) ys) long

all_left : {X : Type 0} (P : X → Type 0) (xs ys : List X) → AllByRecursion P (xs ++ ys) → AllByRecursion P xs
all_left P [] ys all = tt
all_left P (x ∷ xs) ys all = (all.0, all_left P xs ys all.1)

all_right : {X : Type 0} (P : X → Type 0) (xs ys : List X) → AllByRecursion P (xs ++ ys) → AllByRecursion P ys
all_right P [] ys all = all
all_right P (x ∷ xs) ys all = all_right P xs ys all.1

take_one : (count : ℕ) (type : VType) → 0 < count → take count (type ∷ []) ≡ type ∷ []
take_one count type some = take_all count (type ∷ []) (omega arith)

same_parts : (a b c d : List VType) → length a ≡ length c → a ++ b ≡ c ++ d → (a ≡ c) × (b ≡ d)
same_parts [] b [] d long same = (refl, same)
same_parts [] b (y ∷ c) d long same = let none : 0 ≡ suc (length c) = long in absurd (omega arith)
same_parts (x ∷ a) b [] d long same = let none : suc (length a) ≡ 0 = long in absurd (omega arith)
same_parts (x ∷ a) b (y ∷ c) d long same =
    let whole : x ∷ (a ++ b) ≡ y ∷ (c ++ d) = same in
    let rest = same_parts a b c d (omega arith) (cc) in
    let head : x ≡ y = cc in
    (ap (λ (t : VType). t ∷ a) head ∙ ap (λ (list : List VType). y ∷ list) rest.0, rest.1)

-- ---- the same trees

-- nothing is merged
pub none_merged : (files : List ClassFile) (count : ℕ) (a b : List VType) → count ≡ 0 → merged_types files (take count a) (take count b) ≡ take count a
unfolding merged_types
none_merged files count a b none =
    let At : ℕ → Type 0 = λ n. merged_types files (take n a) (take n b) ≡ take n a in
    let start : At 0 = refl in
    subst At (sym none) start

-- ---- leaves

pub leaf_is_merged : (files : List ClassFile) (old new : Trees) (depth count upper lower : ℕ) (a b : VType) (found : Option ℕ) → 0 < count → depth ≡ 0
    → tree_of old depth upper ≡ a ∷ [] → tree_of old depth lower ≡ b ∷ [] → IsMergedLeaf new a (merge files a b) found
    → IsMergedTree new depth count (take count (tree_of old depth upper)) (merged_types files (take count (tree_of old depth upper)) (take count (tree_of old depth lower))) found
unfolding merged_types
leaf_is_merged files old new depth count upper lower a b found some none is_upper is_lower leaf =
    let first : take count (tree_of old depth upper) ≡ a ∷ [] = ap (take count) is_upper ∙ take_one count a some in
    let second : take count (tree_of old depth lower) ≡ b ∷ [] = ap (take count) is_lower ∙ take_one count b some in
    subst (λ (list : List VType). IsMergedTree new depth count list (merged_types files list (take count (tree_of old depth lower))) found) (sym first)
    (subst (λ (list : List VType). IsMergedTree new depth count (a ∷ []) (merged_types files (a ∷ []) list) found) (sym second) (whole found leaf))
  where
    whole : (o : Option ℕ) → IsMergedLeaf new a (merge files a b) o → IsMergedTree new depth count (a ∷ []) (merged_types files (a ∷ []) (b ∷ [])) o
    whole None is = ap (λ (t : VType). t ∷ []) is
    whole (Some root) is =
        let made = subst (λ n. IsTree new n root (merge files a b ∷ [])) (sym none) is.0 in
        (made.has, sym (ap (take count) made.is ∙ take_one count (merge files a b) some), λ same. let equal : merge files a b ∷ [] ≡ a ∷ [] = same in is.1 (cc))

-- ---- halves

-- a half after a merge: the one that is found, or that of the branch
pub record IsHalf (trees : Trees) (depth root count : ℕ) (upper merge : List VType) (found : Option ℕ) : Type 0 where
  pub has : HasTree trees depth root
  pub is : take count (tree_of trees depth root) ≡ merge
  pub same : merge ≡ upper → found ≡ None
  pub kept : found ≡ None → merge ≡ upper

pub is_half : (old new : Trees) (depth count over : ℕ) (merge : List VType) (found : Option ℕ) → TreesGrow old new → HasTree old depth over
    → IsMergedTree new depth count (take count (tree_of old depth over)) merge found
    → IsHalf new depth (unwrap_or found over) count (take count (tree_of old depth over)) merge found
is_half old new depth count over merge None grow has is =
    let stays = tree_stays old new depth over grow has in
    record { has = stays.has; is = ap (take count) stays.is ∙ sym is; same = λ _. refl; kept = λ _. is }
is_half old new depth count over merge (Some root) grow has is =
    record { has = is.0; is = sym is.1; same = λ equal. absurd (is.2 equal); kept = λ none. let some : ◌≡◌ {A = Option ℕ} (Some root) None = none in absurd (cc) }

pub half_stays : (old new : Trees) (depth root count : ℕ) (upper merge : List VType) (found : Option ℕ) → TreesGrow old new → IsHalf old depth root count upper merge found
    → IsHalf new depth root count upper merge found
half_stays old new depth root count upper merge found grow half =
    let stays = tree_stays old new depth root grow half.has in
    record { has = stays.has; is = ap (take count) stays.is ∙ half.is; same = half.same; kept = half.kept }

module _ (files : List ClassFile) (first : Trees) (depth count upper lower : ℕ) (over under : Branch) (few rest : ℕ) (is_few : few ≡ min count (2 ^ (depth - 1))) (is_rest : rest ≡ count - 2 ^ (depth - 1))
    (is_upper : IsBranch first depth upper over) (is_lower : IsBranch first depth lower under) where
  -- the first so many locals of a tree, by those of its halves
  split : (root : ℕ) (branch : Branch) → IsBranch first depth root branch
      → take count (tree_of first depth root) ≡ take few (tree_of first (depth - 1) branch.left) ++ take rest (tree_of first (depth - 1) branch.right)
  split root branch is =
      ap (take count) is.locals ∙ take_halves count (2 ^ (depth - 1)) (tree_of first (depth - 1) branch.left) (tree_of first (depth - 1) branch.right) (length_tree first (depth - 1) branch.left is.left)
      ∙ ap (λ n. take n (tree_of first (depth - 1) branch.left) ++ take (count - 2 ^ (depth - 1)) (tree_of first (depth - 1) branch.right)) (sym is_few)
      ∙ ap (λ n. take few (tree_of first (depth - 1) branch.left) ++ take n (tree_of first (depth - 1) branch.right)) (sym is_rest)

  pub halves_known : (root : ℕ) (branch : Branch) → IsBranch first depth root branch → AllByRecursion (IsKnown files) (take count (tree_of first depth root))
      → AllByRecursion (IsKnown files) (take few (tree_of first (depth - 1) branch.left)) × AllByRecursion (IsKnown files) (take rest (tree_of first (depth - 1) branch.right))
  halves_known root branch is known =
      let left = take few (tree_of first (depth - 1) branch.left) in
      let right = take rest (tree_of first (depth - 1) branch.right) in
      let both = subst (AllByRecursion (IsKnown files)) (split root branch is) known in
      (all_left (IsKnown files) left right both, all_right (IsKnown files) left right both)

  abbrev pub left_merge : List VType
  left_merge = merged_types files (take few (tree_of first (depth - 1) over.left)) (take few (tree_of first (depth - 1) under.left))

  abbrev pub right_merge : List VType
  right_merge = merged_types files (take rest (tree_of first (depth - 1) over.right)) (take rest (tree_of first (depth - 1) under.right))

  both_long : length (take few (tree_of first (depth - 1) over.left)) ≡ length (take few (tree_of first (depth - 1) under.left))
  both_long =
      length-take few (tree_of first (depth - 1) over.left) ∙ ap (min few) (length_tree first (depth - 1) over.left is_upper.left ∙ sym (length_tree first (depth - 1) under.left is_lower.left))
      ∙ sym (length-take few (tree_of first (depth - 1) under.left))

  merge_split : merged_types files (take count (tree_of first depth upper)) (take count (tree_of first depth lower)) ≡ left_merge ++ right_merge
  merge_split =
      ap (λ (list : List VType). merged_types files list (take count (tree_of first depth lower))) (split upper over is_upper)
      ∙ ap (merged_types files (take few (tree_of first (depth - 1) over.left) ++ take rest (tree_of first (depth - 1) over.right))) (split lower under is_lower)
      ∙ merged_append files (take few (tree_of first (depth - 1) over.left)) (take rest (tree_of first (depth - 1) over.right)) (take few (tree_of first (depth - 1) under.left)) (take rest (tree_of first (depth - 1) under.right)) both_long

  pub halves_merged : (third fourth : Trees) (left right found : Option ℕ)
      → IsHalf third (depth - 1) (unwrap_or left over.left) few (take few (tree_of first (depth - 1) over.left)) left_merge left
      → IsHalf third (depth - 1) (unwrap_or right over.right) rest (take rest (tree_of first (depth - 1) over.right)) right_merge right
      → IsForkOver third fourth depth over left right found
      → IsMergedTree fourth depth count (take count (tree_of first depth upper)) (merged_types files (take count (tree_of first depth upper)) (take count (tree_of first depth lower))) found
  halves_merged third fourth left right None left_half right_half fork =
      merge_split ∙ ap (λ (list : List VType). list ++ right_merge) (left_half.kept fork.0)
      ∙ ap (λ (list : List VType). take few (tree_of first (depth - 1) over.left) ++ list) (right_half.kept fork.1) ∙ sym (split upper over is_upper)
  halves_merged third fourth left right (Some root) left_half right_half fork =
      let x = tree_of third (depth - 1) (unwrap_or left over.left) in
      let y = tree_of third (depth - 1) (unwrap_or right over.right) in
      let made : take count (tree_of fourth depth root) ≡ left_merge ++ right_merge =
      ap (take count) fork.0.is ∙ take_halves count (2 ^ (depth - 1)) x y (length_tree third (depth - 1) (unwrap_or left over.left) left_half.has)
      ∙ ap (λ n. take n x ++ take (count - 2 ^ (depth - 1)) y) (sym is_few) ∙ ap (λ n. take few x ++ take n y) (sym is_rest)
      ∙ ap (λ (list : List VType). list ++ take rest y) left_half.is ∙ ap (λ (list : List VType). left_merge ++ list) right_half.is
      in (
        fork.0.has,
        merge_split ∙ sym made,
        λ same.
            let parts = same_parts left_merge right_merge (take few (tree_of first (depth - 1) over.left)) (take rest (tree_of first (depth - 1) over.right))
            (length_merged files (take few (tree_of first (depth - 1) over.left)) (take few (tree_of first (depth - 1) under.left)) both_long)
            (sym merge_split ∙ same ∙ split upper over is_upper)
            in
            fork.1 (left_half.same parts.0) (right_half.same parts.1),
      )

-- the right half of a merge, where the left one was merged before
pub right_half : (files : List ClassFile) (first second third : Trees) (depth rest over under : ℕ) (found : Option ℕ) → TreesGrow first second → TreesGrow second third → HasTree first depth over → HasTree first depth under
    → IsMergedTree third depth rest (take rest (tree_of second depth over)) (merged_types files (take rest (tree_of second depth over)) (take rest (tree_of second depth under))) found
    → IsHalf third depth (unwrap_or found over) rest (take rest (tree_of first depth over)) (merged_types files (take rest (tree_of first depth over)) (take rest (tree_of first depth under))) found
right_half files first second third depth rest over under found before after has_over has_under merged =
    let stays_over = tree_stays first second depth over before has_over in
    let stays_under = tree_stays first second depth under before has_under in
    let half = is_half second third depth rest over (merged_types files (take rest (tree_of second depth over)) (take rest (tree_of second depth under))) found after stays_over.has merged in
    let At : List VType → List VType → Type 0 = λ upper lower. IsHalf third depth (unwrap_or found over) rest (take rest upper) (merged_types files (take rest upper) (take rest lower)) found in
    subst (λ (list : List VType). At list (tree_of first depth under)) stays_over.is (subst (λ (list : List VType). At (tree_of second depth over) list) stays_under.is half)
