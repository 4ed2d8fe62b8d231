-- Frames type by type: a frame and one above it as pairs of types, and what operations on lists do to pairs.
use Rattle.std.proofs.Common.{◌≡◌, ℕ, zero, suc, ◌⊎◌, Bool, true, false, ◌||◌, inl, inr, List, [], ◌∷◌, ◌++◌, map, drop, slice_get, slice_set, Option, Some, None, sym, subst, ◌∙◌}
use Rattle.std.specs.List.{AllByRecursion, AllZip}
use Rattle.std.proofs.lemmas.Bool.{cases_Bool, false≢true}
use Rattle.class_file.specs.declared.record.ClassFile.{ClassFile}
use Rattle.body_form.specs.declared.types.VFrame.{VFrame}
use Rattle.body_form.specs.declared.types.VType.{VType}
use Rattle.class_tree.specs.Tree.{Gathers}
use Rattle.class_tree.specs.Merge.{merge}
use Rattle.class_tree.specs.MergeLaws.{IsKnown}
use Rattle.class_tree.proofs.merging.MergeLaws.{stays}
use Rattle.jvm_model.specs.TypesFrames.{may_be_local, may_be_operand, IsKnownFrame}
use Rattle.jvm_model.specs.TypesRules.{is_this}
use Rattle.type_order.specs.OrderLaws.{IsProper, LacksThis}
use Rattle.type_order.proofs.merges.ListMerges.{AreOver, operands_downward}
use Rattle.type_order.proofs.merges.Frames.{Above}

-- ---- lists by their positions

module _ (R : VType → VType → Type 0) where
  pub zip_drop : (n : ℕ) (us ls : List VType) → AllZip R us ls → AllZip R (drop n us) (drop n ls)
  zip_drop zero us ls zip = zip
  zip_drop (suc n) [] [] zip = tt
  zip_drop (suc n) [] (l ∷ ls) zip = absurd zip
  zip_drop (suc n) (u ∷ us) [] zip = absurd zip
  zip_drop (suc n) (u ∷ us) (l ∷ ls) zip = zip_drop n us ls zip.1

  pub zip_append : (us ls vs ms : List VType) → AllZip R us ls → AllZip R vs ms → AllZip R (us ++ vs) (ls ++ ms)
  zip_append [] [] vs ms first second = second
  zip_append [] (l ∷ ls) vs ms first second = absurd first
  zip_append (u ∷ us) [] vs ms first second = absurd first
  zip_append (u ∷ us) (l ∷ ls) vs ms first second = (first.0, zip_append us ls vs ms first.1 second)

  pub zip_set : (i : ℕ) (u l : VType) → R u l → (us ls : List VType) → AllZip R us ls → AllZip R (slice_set us i u) (slice_set ls i l)
  zip_set i u l here [] [] zip = tt
  zip_set i u l here [] (x ∷ ls) zip = absurd zip
  zip_set i u l here (x ∷ us) [] zip = absurd zip
  zip_set zero u l here (x ∷ us) (y ∷ ls) zip = (here, zip.1)
  zip_set (suc i) u l here (x ∷ us) (y ∷ ls) zip = (zip.0, zip_set i u l here us ls zip.1)

  pub zip_map : (S : VType → VType → Type 0) (g h : VType → VType) → ((u l : VType) → R u l → S (g u) (h l)) → (us ls : List VType) → AllZip R us ls → AllZip S (map g us) (map h ls)
  zip_map S g h each [] [] zip = tt
  zip_map S g h each [] (l ∷ ls) zip = absurd zip
  zip_map S g h each (u ∷ us) [] zip = absurd zip
  zip_map S g h each (u ∷ us) (l ∷ ls) zip = (each u l zip.0, zip_map S g h each us ls zip.1)

  -- what is read at one position of both
  abbrev pub AreRead : Option VType → Option VType → Type 0
  AreRead None None = Unit {0}
  AreRead None (Some l) = ⊥
  AreRead (Some u) None = ⊥
  AreRead (Some u) (Some l) = R u l

  pub zip_get : (us ls : List VType) → AllZip R us ls → (i : ℕ) → AreRead (slice_get us i) (slice_get ls i)
  zip_get [] [] zip i = tt
  zip_get [] (l ∷ ls) zip i = absurd zip
  zip_get (u ∷ us) [] zip i = absurd zip
  zip_get (u ∷ us) (l ∷ ls) zip zero = zip.0
  zip_get (u ∷ us) (l ∷ ls) zip (suc i) = zip_get us ls zip.1 i

-- ---- pairs

-- both types are of the set, and one is above the other
pub record AreOrdered (files : List ClassFile) (upper lower : VType) : Type 0 where
  pub upper_known : IsKnown files upper
  pub lower_known : IsKnown files lower
  pub above : merge files upper lower ≡ upper

-- Moreover the upper one may stand there, and the lower one is no constructor's own object where none is pending.
pub record IsPair (files : List ClassFile) (allowed : VType → Bool) (pending : Bool) (upper lower : VType) : Type 0 where
  pub ordered : AreOrdered files upper lower
  pub allows : allowed upper ≡ true
  pub lacks : (pending ≡ true) ⊎ (is_this lower ≡ false)

abbrev pub IsLocalPair : List ClassFile → Bool → VType → VType → Type 0
IsLocalPair files pending = IsPair files may_be_local pending

abbrev pub IsOperandPair : List ClassFile → Bool → VType → VType → Type 0
IsOperandPair files pending = IsPair files may_be_operand pending

pub record ArePaired (files : List ClassFile) (upper lower : VFrame) : Type 0 where
  pub locals : AllZip (IsLocalPair files lower.pending) upper.locals lower.locals
  pub stack : AllZip (IsOperandPair files lower.pending) upper.stack lower.stack
  pub pending : (upper.pending || lower.pending) ≡ upper.pending

-- ---- frames as pairs

module _ (files : List ClassFile) (allowed : VType → Bool) (pending : Bool) where
  abbrev ArePairs : List VType → List VType → Type 0
  ArePairs us ls = AllZip (IsPair files allowed pending) us ls

  abbrev Lacks : List VType → Type 0
  Lacks ls = (pending ≡ true) ⊎ LacksThis ls

  lacks_first : (l : VType) (ls : List VType) → Lacks (l ∷ ls) → (pending ≡ true) ⊎ (is_this l ≡ false)
  lacks_first l ls lacks = elim lacks [ inl is ↦ inl is | inr none ↦ inr none.0 ]

  lacks_rest : (l : VType) (ls : List VType) → Lacks (l ∷ ls) → Lacks ls
  lacks_rest l ls lacks = elim lacks [ inl is ↦ inl is | inr none ↦ inr none.1 ]

  pairs_of : (us ls : List VType) → AllByRecursion (IsKnown files) us → AllByRecursion (IsKnown files) ls → AreOver files allowed us ls → Lacks ls → ArePairs us ls
  pairs_of [] [] first second over lacks = tt
  pairs_of [] (l ∷ ls) first second over lacks = absurd over
  pairs_of (u ∷ us) [] first second over lacks = absurd over
  pairs_of (u ∷ us) (l ∷ ls) first second over lacks = (
    record {
      ordered = record { upper_known = first.0; lower_known = second.0; above = over.0.above };
      allows = over.0.allows;
      lacks = lacks_first l ls lacks;
    },
    pairs_of us ls first.1 second.1 over.1 (lacks_rest l ls lacks),
  )

  pairs_over : (us ls : List VType) → ArePairs us ls → AreOver files allowed us ls
  pairs_over [] [] pairs = tt
  pairs_over [] (l ∷ ls) pairs = absurd pairs
  pairs_over (u ∷ us) [] pairs = absurd pairs
  pairs_over (u ∷ us) (l ∷ ls) pairs = (record { above = pairs.0.ordered.above; allows = pairs.0.allows }, pairs_over us ls pairs.1)

  -- what holds of the lower one of each pair
  lower_all : (P : VType → Type 0) → ((u l : VType) → IsPair files allowed pending u l → P l) → (us ls : List VType) → ArePairs us ls → AllByRecursion P ls
  lower_all P each [] [] pairs = tt
  lower_all P each [] (l ∷ ls) pairs = absurd pairs
  lower_all P each (u ∷ us) [] pairs = absurd pairs
  lower_all P each (u ∷ us) (l ∷ ls) pairs = (each u l pairs.0, lower_all P each us ls pairs.1)

  lower_known : (us ls : List VType) → ArePairs us ls → AllByRecursion (IsKnown files) ls
  lower_known us ls pairs = lower_all (IsKnown files) (λ u l pair. pair.ordered.lower_known) us ls pairs

  lower_lacks : pending ≡ false → (us ls : List VType) → ArePairs us ls → LacksThis ls
  lower_lacks never us ls pairs =
      lower_all (λ type. is_this type ≡ false) (λ u l pair. elim pair.lacks [ inl is ↦ absurd (false≢true (sym never ∙ is)) | inr none ↦ none ]) us ls pairs

module _ (files : List ClassFile) where
  pub paired : (upper lower : VFrame) → IsKnownFrame files upper → IsProper files lower → Above files upper lower → ArePaired files upper lower
  paired upper lower known proper above =
      record {
        locals = pairs_of files may_be_local lower.pending upper.locals lower.locals known.locals proper.known.locals above.locals
            (elim proper.pending [ inl is ↦ inl is | inr none ↦ inr none.0 ]);
        stack = pairs_of files may_be_operand lower.pending upper.stack lower.stack known.stack proper.known.stack above.stack
            (elim proper.pending [ inl is ↦ inl is | inr none ↦ inr none.1 ]);
        pending = above.pending;
      }

  pub paired_above : (upper lower : VFrame) → ArePaired files upper lower → Above files upper lower
  paired_above upper lower pairs =
      record {
        locals = pairs_over files may_be_local lower.pending upper.locals lower.locals pairs.locals;
        stack = pairs_over files may_be_operand lower.pending upper.stack lower.stack pairs.stack;
        pending = pairs.pending;
      }

  module _ (gathers : Gathers files None) where
    -- below an operand is an operand
    operand_lower : (pending : Bool) (u l : VType) → IsOperandPair files pending u l → may_be_operand l ≡ true
    operand_lower pending u l pair = operands_downward files gathers u l pair.ordered.upper_known (subst (λ x. may_be_operand x ≡ true) (sym pair.ordered.above) pair.allows)

    pub paired_proper : (upper lower : VFrame) → ArePaired files upper lower → IsProper files lower
    paired_proper upper lower pairs =
        let pending = lower.pending in
        record {
          known = record {
            locals = lower_known files may_be_local pending upper.locals lower.locals pairs.locals;
            stack = lower_known files may_be_operand pending upper.stack lower.stack pairs.stack;
          };
          operands = lower_all files may_be_operand pending (λ type. may_be_operand type ≡ true) (operand_lower pending) upper.stack lower.stack pairs.stack;
          pending = elim (cases_Bool pending) [
            | inl is ↦ inl is
            | inr never ↦ inr (
              lower_lacks files may_be_local pending never upper.locals lower.locals pairs.locals,
              lower_lacks files may_be_operand pending never upper.stack lower.stack pairs.stack,
            )
          ];
        }

    -- a type that may stand there beside itself
    pub pair_itself : (allowed : VType → Bool) (pending : Bool) (type : VType) → IsKnown files type → allowed type ≡ true → is_this type ≡ false → IsPair files allowed pending type type
    pair_itself allowed pending type known allows lacks =
        record { ordered = record { upper_known = known; lower_known = known; above = stays files gathers type known }; allows = allows; lacks = inr lacks }
