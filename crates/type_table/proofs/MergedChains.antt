-- The merge of two chains, walked from the top entry by entry.
use Rattle.std.proofs.Common.{◌≡◌, ℕ, suc, ◌<◌, ◌≤◌, Bool, true, false, cond, List, [], ◌∷◌, ◌++◌, length, take, drop, Option, Some, None, option_map, refl, sym, ap, subst, ◌∙◌, arith, append_assoc}
use Rattle.std.specs.List.{AllByRecursion}
use Rattle.std.proofs.lemmas.List.{length-take-le, take_at, take_all, take-append-le, same_from_push, length_push}
use Rattle.class_file.specs.declared.record.ClassFile.{ClassFile}
use Rattle.class_tree.specs.Tree.{Gathers}
use Rattle.class_tree.specs.Merge.{merge}
use Rattle.class_tree.specs.MergeLaws.{IsKnown}
use Rattle.class_tree.proofs.merging.MergeLaws.{stays}
use Rattle.body_form.specs.declared.types.VType.{VType}
use Rattle.jvm_model.specs.TypesFrames.{may_be_operand, merge_lists}
use Rattle.type_table.specs.declared.store.Cell.{Cell}
use Rattle.type_table.specs.declared.operands.Chain.{Chain}
use Rattle.type_table.specs.Chains.{chain_of, HasChain, IsTop}
use Rattle.type_table.specs.Merges.{AreMerged, AreOperands}
use Rattle.type_table.proofs.Chaining.{IsWalked, walk_on, taken_on}

-- ---- lists

-- a list in front of what is found
pub in_front : List VType → Option (List VType) → Option (List VType)
in_front front found = option_map (λ rest. front ++ rest) found

module _ (files : List ClassFile) where
  abbrev Merge : List VType → List VType → Option (List VType)
  Merge upper lower = merge_lists files may_be_operand upper lower

  merge_none : Merge [] [] ≡ Some []
  unfolding merge_lists
  merge_none = refl

  merge_more : (a b : VType) (upper lower : List VType) → may_be_operand (merge files a b) ≡ true
      → Merge (a ∷ upper) (b ∷ lower) ≡ option_map (λ types. merge files a b ∷ types) (Merge upper lower)
  unfolding merge_lists
  merge_more a b upper lower passes = ap (λ t. cond t (option_map (λ types. merge files a b ∷ types) (Merge upper lower)) None) passes

  merge_stops : (a b : VType) (upper lower : List VType) → may_be_operand (merge files a b) ≡ false → Merge (a ∷ upper) (b ∷ lower) ≡ None
  unfolding merge_lists
  merge_stops a b upper lower fails = ap (λ t. cond t (option_map (λ types. merge files a b ∷ types) (Merge upper lower)) None) fails

  pub merge_itself : Gathers files None → (types : List VType) → AllByRecursion (IsKnown files) types → AreOperands types → Merge types types ≡ Some types
  merge_itself gathered [] known operands = merge_none
  merge_itself gathered (type ∷ types) known operands =
      let same : merge files type type ≡ type = stays files gathered type known.0 in
      merge_more type type types types (ap may_be_operand same ∙ operands.0)
      ∙ ap (option_map (λ rest. merge files type type ∷ rest)) (merge_itself gathered types known.1 operands.1)
      ∙ ap (λ (t : VType). Some (t ∷ types)) same

  pub heights_clash : (allowed : VType → Bool) (upper lower : List VType) → (length upper ≡ length lower → ⊥) → merge_lists files allowed upper lower ≡ None
  unfolding merge_lists
  heights_clash allowed [] [] other = absurd (other refl)
  heights_clash allowed [] (b ∷ lower) other = refl
  heights_clash allowed (a ∷ upper) [] other = refl
  heights_clash allowed (a ∷ upper) (b ∷ lower) other =
      let rest = heights_clash allowed upper lower (λ same. other (ap suc same)) in
      ap (λ (o : Option (List VType)). cond (allowed (merge files a b)) (option_map (λ types. merge files a b ∷ types) o) None) rest ∙ no_more (allowed (merge files a b))
    where
      no_more : (passes : Bool) → ◌≡◌ {A = Option (List VType)} (cond passes None None) None
      no_more true = refl
      no_more false = refl

front_more : (front : List VType) (type : VType) (found : Option (List VType)) → in_front front (option_map (λ rest. type ∷ rest) found) ≡ in_front (front ++ type ∷ []) found
unfolding in_front
front_more front type None = refl
front_more front type (Some rest) = ap (λ (list : List VType). Some list) (sym (append_assoc front (type ∷ []) rest))

front_some : (front : List VType) (found : Option (List VType)) (rest : List VType) → found ≡ Some rest → in_front front found ≡ Some (front ++ rest)
unfolding in_front
front_some front found rest is = ap (option_map (λ (list : List VType). front ++ list)) is

-- ---- a walk down two chains

-- so many types were merged, and those down to the lowest one that is not the upper chain's are counted
pub record IsMergeWalked (files : List ClassFile) (cells : List Cell) (upper lower above below : Chain) (values : List VType) (count : ℕ) : Type 0 where
  pub upper_walk : IsWalked cells upper (length values) above
  pub lower_walk : IsWalked cells lower (length values) below
  pub known_above : AllByRecursion (IsKnown files) (chain_of cells above)
  pub known_below : AllByRecursion (IsKnown files) (chain_of cells below)
  pub operands : AreOperands (chain_of cells above)
  pub merge : merge_lists files may_be_operand (chain_of cells upper) (chain_of cells lower) ≡ in_front values (merge_lists files may_be_operand (chain_of cells above) (chain_of cells below))
  pub count_within : count ≤ length values
  pub tail : values ++ chain_of cells above ≡ take count values ++ drop count (chain_of cells upper)
  pub differs : 0 < count → take count values ≡ take count (chain_of cells upper) → ⊥

pub not_walked : (cells : List Cell) (chain : Chain) → HasChain cells chain → IsWalked cells chain 0 chain
not_walked cells chain has = record { has = has; operands = refl; height = omega arith }

front_none : (found : Option (List VType)) → in_front [] found ≡ found
unfolding in_front
front_none None = refl
front_none (Some rest) = refl

pub merge_starts : (files : List ClassFile) (cells : List Cell) (upper lower : Chain) → HasChain cells upper → HasChain cells lower
    → AllByRecursion (IsKnown files) (chain_of cells upper) → AllByRecursion (IsKnown files) (chain_of cells lower) → AreOperands (chain_of cells upper)
    → IsMergeWalked files cells upper lower upper lower [] 0
merge_starts files cells upper lower has_upper has_lower known_upper known_lower operands = record {
  upper_walk = not_walked cells upper has_upper;
  lower_walk = not_walked cells lower has_lower;
  known_above = known_upper;
  known_below = known_lower;
  operands = operands;
  merge = sym (front_none (merge_lists files may_be_operand (chain_of cells upper) (chain_of cells lower)));
  count_within = omega arith;
  tail = refl;
  differs = λ some. absurd (omega arith);
}

module _ (files : List ClassFile) (cells : List Cell) (upper lower above below next_above next_below : Chain) (a b : Cell) (values : List VType) (count : ℕ)
    (walked : IsMergeWalked files cells upper lower above below values count) (top_above : IsTop cells above a next_above) (top_below : IsTop cells below b next_below) (value : VType)
    (is : value ≡ merge files a.value b.value) where
  pub first_known : IsKnown files a.value
  first_known = (subst (AllByRecursion (IsKnown files)) top_above.operands walked.known_above).0

  pub second_known : IsKnown files b.value
  second_known = (subst (AllByRecursion (IsKnown files)) top_below.operands walked.known_below).0

  tops : merge_lists files may_be_operand (chain_of cells above) (chain_of cells below) ≡ merge_lists files may_be_operand (a.value ∷ chain_of cells next_above) (b.value ∷ chain_of cells next_below)
  tops =
      ap (λ (list : List VType). merge_lists files may_be_operand list (chain_of cells below)) top_above.operands
      ∙ ap (λ (list : List VType). merge_lists files may_be_operand (a.value ∷ chain_of cells next_above) list) top_below.operands

  -- nothing is known of what the two merge into
  pub merge_clashes : may_be_operand value ≡ false → merge_lists files may_be_operand (chain_of cells upper) (chain_of cells lower) ≡ None
  unfolding in_front
  merge_clashes fails =
      walked.merge ∙ ap (in_front values) (tops ∙ merge_stops files a.value b.value (chain_of cells next_above) (chain_of cells next_below) (ap may_be_operand (sym is) ∙ fails))

  merged_on : may_be_operand value ≡ true
      → merge_lists files may_be_operand (chain_of cells upper) (chain_of cells lower)
      ≡ in_front (values ++ value ∷ []) (merge_lists files may_be_operand (chain_of cells next_above) (chain_of cells next_below))
  merged_on passes =
      let rest = merge_lists files may_be_operand (chain_of cells next_above) (chain_of cells next_below) in
      walked.merge
      ∙ ap (in_front values) (tops ∙ merge_more files a.value b.value (chain_of cells next_above) (chain_of cells next_below) (ap may_be_operand (sym is) ∙ passes))
      ∙ front_more values (merge files a.value b.value) rest ∙ ap (λ (v : VType). in_front (values ++ v ∷ []) rest) (sym is)

  one_walked : (chain rest next : Chain) (cell : Cell) → IsWalked cells chain (length values) rest → IsTop cells rest cell next → IsWalked cells chain (length (values ++ value ∷ [])) next
  one_walked chain rest next cell walk top =
      subst (λ n. IsWalked cells chain n next) (sym (length_push values value)) (walk_on cells chain (length values) rest next cell walk top)

  -- the type of the upper chain stays
  pub merge_keeps : may_be_operand value ≡ true → value ≡ a.value → IsMergeWalked files cells upper lower next_above next_below (values ++ value ∷ []) count
  merge_keeps passes same =
      let front : take count (values ++ value ∷ []) ≡ take count values = take-append-le count values (value ∷ []) walked.count_within in
      record {
        upper_walk = one_walked upper above next_above a walked.upper_walk top_above;
        lower_walk = one_walked lower below next_below b walked.lower_walk top_below;
        known_above = (subst (AllByRecursion (IsKnown files)) top_above.operands walked.known_above).1;
        known_below = (subst (AllByRecursion (IsKnown files)) top_below.operands walked.known_below).1;
        operands = (subst AreOperands top_above.operands walked.operands).1;
        merge = merged_on passes;
        count_within = omega (arith, length_push values value, walked.count_within);
        tail =
            append_assoc values (value ∷ []) (chain_of cells next_above)
            ∙ ap (λ (v : VType). values ++ v ∷ chain_of cells next_above) same
            ∙ ap (λ (list : List VType). values ++ list) (sym top_above.operands) ∙ walked.tail ∙ ap (λ (list : List VType). list ++ drop count (chain_of cells upper)) (sym front);
        differs = λ some equal. walked.differs some (sym front ∙ equal);
      }

  -- another type takes its place
  pub merge_changes : (next : ℕ) → may_be_operand value ≡ true → (value ≡ a.value → ⊥) → next ≡ length (values ++ value ∷ [])
      → IsMergeWalked files cells upper lower next_above next_below (values ++ value ∷ []) next
  merge_changes next passes other all =
      let more = values ++ value ∷ [] in
      let walk = one_walked upper above next_above a walked.upper_walk top_above in
      let whole : take next more ≡ more = take_all next more (omega arith) in
      record {
        upper_walk = walk;
        lower_walk = one_walked lower below next_below b walked.lower_walk top_below;
        known_above = (subst (AllByRecursion (IsKnown files)) top_above.operands walked.known_above).1;
        known_below = (subst (AllByRecursion (IsKnown files)) top_below.operands walked.known_below).1;
        operands = (subst AreOperands top_above.operands walked.operands).1;
        merge = merged_on passes;
        count_within = omega arith;
        tail =
            ap (λ (list : List VType). list ++ chain_of cells next_above) (sym whole)
            ∙ ap (λ (list : List VType). take next more ++ list) (walk.operands ∙ ap (λ n. drop n (chain_of cells upper)) (sym all));
        differs = λ some equal.
            let taken : take next (chain_of cells upper) ≡ take (length values) (chain_of cells upper) ++ a.value ∷ [] =
            ap (λ n. take n (chain_of cells upper)) (all ∙ length_push values value) ∙ taken_on cells upper (length values) above next_above a walked.upper_walk top_above
            in
            other (same_from_push values (take (length values) (chain_of cells upper)) value a.value (sym whole ∙ equal ∙ taken)).1;
      }

-- the chains are the same from here on
pub merge_ends : (files : List ClassFile) (cells : List Cell) (upper lower above below : Chain) (values : List VType) (count : ℕ) (last : List VType)
    → IsMergeWalked files cells upper lower above below values count → Gathers files None → chain_of cells above ≡ chain_of cells below → last ≡ take count values
    → AreMerged (chain_of cells upper) (merge_lists files may_be_operand (chain_of cells upper) (chain_of cells lower)) last
merge_ends files cells upper lower above below values count last walked gathered same cut =
    let rest = chain_of cells above in
    let long : length last ≡ count = ap length cut ∙ length-take-le count values walked.count_within in
    let itself : merge_lists files may_be_operand rest (chain_of cells below) ≡ Some rest =
    ap (λ (list : List VType). merge_lists files may_be_operand rest list) (sym same) ∙ merge_itself files gathered rest walked.known_above walked.operands
    in
    let whole : values ++ rest ≡ last ++ drop (length last) (chain_of cells upper) =
    walked.tail ∙ ap (λ (list : List VType). list ++ drop count (chain_of cells upper)) (sym cut) ∙ ap (λ n. last ++ drop n (chain_of cells upper)) (sym long)
    in
    record {
      is = walked.merge ∙ front_some values (merge_lists files may_be_operand rest (chain_of cells below)) rest itself ∙ ap (λ (list : List VType). Some list) whole;
      differs = λ some equal. walked.differs (omega arith) (sym cut ∙ equal ∙ ap (λ n. take n (chain_of cells upper)) long);
    }

-- what is left of the walk fits in the upper chain
pub walked_within : (files : List ClassFile) (cells : List Cell) (upper lower above below : Chain) (values : List VType) (count : ℕ) (last : List VType)
    → IsMergeWalked files cells upper lower above below values count → last ≡ take count values → length last ≤ upper.height
walked_within files cells upper lower above below values count last walked cut =
    omega (arith, ap length cut, length-take-le count values walked.count_within, walked.count_within, walked.upper_walk.height)

-- ---- the merge of chains

pub chains_same : (upper : List VType) (merge : Option (List VType)) (values : List VType) → AreMerged upper merge values → values ≡ [] → merge ≡ Some upper
chains_same upper merge values merged none =
    merged.is ∙ ap (λ (list : List VType). Some (list ++ drop (length list) upper)) none

pub record IsOther (upper : List VType) (merge : Option (List VType)) (chain : List VType) : Type 0 where
  pub is : merge ≡ Some chain
  pub other : chain ≡ upper → ⊥

pub chains_grown : (upper : List VType) (merge : Option (List VType)) (values chain : List VType) → AreMerged upper merge values → (values ≡ [] → ⊥)
    → chain ≡ values ++ drop (length values) upper → IsOther upper merge chain
chains_grown upper merge values chain merged some is =
    let many : 0 < length values = not_empty values some in
    record {
      is = merged.is ∙ ap (λ (list : List VType). Some list) (sym is);
      other = λ equal. merged.differs many (sym (take_at values (drop (length values) upper) (length values) refl) ∙ ap (take (length values)) (sym is ∙ equal));
    }
  where
    not_empty : (list : List VType) → (list ≡ [] → ⊥) → 0 < length list
    not_empty [] none = absurd (none refl)
    not_empty (x ∷ xs) none = omega arith
