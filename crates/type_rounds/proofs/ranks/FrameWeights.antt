-- Weights of types, frames and tables: what is above weighs no more, and as much only where it is the same.
use Rattle.std.proofs.Common.{◌≡◌, ℕ, ◌+◌, Bool, true, false, ◌||◌, inl, inr, List, [], ◌∷◌, Option, Some, None, option_map, option_and_then, nat_eq, if◌then◌else◌, refl, sym, ap, subst, arith}
use Rattle.std.specs.List.{AllByRecursion}
use Rattle.std.proofs.lemmas.Bool.{eqb-true}
use Rattle.std.proofs.lemmas.Option.{none-some, same_Some}
use Rattle.class_pool.specs.declared.types.TypeRef.{TypeRef}
use Rattle.class_file.specs.declared.record.ClassFile.{ClassFile}
use Rattle.class_tree.specs.Subtypes.{IsType}
use Rattle.class_tree.specs.Tree.{Gathers}
use Rattle.class_tree.specs.Merge.{merge_refs, merge}
use Rattle.class_tree.specs.MergeLaws.{IsKnown}
use Rattle.body_form.specs.declared.types.VFrame.{VFrame}
use Rattle.body_form.specs.declared.types.VType.{VType}
use Rattle.body_form.specs.declared.types.VType.TheVariants.{Top, Int, Null, Ref, New, This}
use Rattle.body_form.specs.Flow.{Ops}
use Rattle.jvm_model.specs.TypesFrames.{may_be_local, may_be_operand, merge_lists, IsAbove, IsKnownFrame}
use Rattle.jvm_model.specs.TypesRight.{Table}
use Rattle.type_rounds.proofs.ranks.ClassRanks.{TypesMerge}
use Rattle.type_rounds.proofs.ranks.RefRanks.{ref_rank, ref_above}
use Rattle.type_rounds.proofs.ranks.Weights.{Weight, nothing, plus, IsNoMore, no_change, so, fewer_absent, fewer_nulls, lower_rank, both_no_more}

-- ---- types

abbrev pub ranked : ℕ → Weight
ranked rank = record { absent = 0; nulls = 0; rank = rank }

abbrev pub type_weight : List ClassFile → VType → Weight
type_weight files Top = ranked 0
type_weight files Null = record { absent = 0; nulls = 1; rank = 0 }
type_weight files (Ref type) = ranked (1 + ref_rank files type.dims type.base)
type_weight files type = ranked 1

module _ (merges : TypesMerge) (files : List ClassFile) (gathers : Gathers files None) where
  abbrev Lighter : VType → VType → Type 0
  Lighter upper lower = IsNoMore (type_weight files upper) (type_weight files lower) (upper ≡ lower)

  top_lighter : (lower : VType) → Lighter Top lower
  top_lighter Top = no_change (ranked 0) (Top ≡ Top) refl
  top_lighter Null = fewer_nulls _ _ (Top ≡ Null) refl (omega arith)
  top_lighter (Ref type) = lower_rank _ _ (Top ≡ Ref type) refl refl (omega arith)
  top_lighter lower = lower_rank _ _ (Top ≡ lower) refl refl (omega arith)

  ref_lighter : (s t : TypeRef) → IsType files s → IsType files t → merge files (Ref s) (Ref t) ≡ Ref s → Lighter (Ref s) (Ref t)
  ref_lighter s t first second e =
      let stays : merge_refs files s.dims s.base t.dims t.base ≡ s = cc in
      elim (ref_above merges files gathers s.dims s.base t.dims t.base first second stays) [
        | inl same ↦ subst (Lighter (Ref s)) (ap Ref same) (no_change (type_weight files (Ref s)) (Ref s ≡ Ref s) refl)
        | inr less ↦ lower_rank (type_weight files (Ref s)) (type_weight files (Ref t)) (Ref s ≡ Ref t) refl refl (omega (arith, less))
      ]

  same_new : (p q : ℕ) (b : Bool) → nat_eq p q ≡ b → (if b then New p else Top) ≡ New p → New p ≡ New q
  same_new p q true same e = ap New (eqb-true p q same)
  same_new p q false same e = cc

  -- a type that a merge leaves as it is weighs no more than the other one
  pub type_lighter : (upper lower : VType) → IsKnown files upper → IsKnown files lower → merge files upper lower ≡ upper → Lighter upper lower
  type_lighter Top lower first second e = top_lighter lower
  type_lighter Int Int first second e = no_change (ranked 1) (Int ≡ Int) refl
  type_lighter Int lower first second e = cc
  type_lighter Null Null first second e = no_change (type_weight files Null) (Null ≡ Null) refl
  type_lighter Null lower first second e = cc
  type_lighter (Ref s) Null first second e = fewer_nulls _ _ (Ref s ≡ Null) refl (omega arith)
  type_lighter (Ref s) (Ref t) first second e = ref_lighter s t first second e
  type_lighter (Ref s) lower first second e = cc
  type_lighter (New p) (New q) first second e = no_change (ranked 1) (New p ≡ New q) (same_new p q (nat_eq p q) refl e)
  type_lighter (New p) lower first second e = cc
  type_lighter This This first second e = no_change (ranked 1) (This ≡ This) refl
  type_lighter This lower first second e = cc

-- ---- lists

unfoldable pub types_weight : List ClassFile → List VType → Weight
types_weight files [] = nothing
types_weight files (type ∷ types) = plus (type_weight files type) (types_weight files types)

none_absent : (files : List ClassFile) (type : VType) → (type_weight files type).absent ≡ 0
none_absent files Top = refl
none_absent files Null = refl
none_absent files (Ref type) = refl
none_absent files type = refl

types_present : (files : List ClassFile) (types : List VType) → (types_weight files types).absent ≡ 0
unfolding types_weight
types_present files [] = refl
types_present files (type ∷ types) = omega (arith, none_absent files type, types_present files types)

-- what merges of lists begin with
parts_with : (passes : Bool) (merged : VType) (o : Option (List VType)) (type : VType) (types : List VType)
    → (if passes then option_map (λ rest. merged ∷ rest) o else None) ≡ Some (type ∷ types) → (merged ≡ type) × (o ≡ Some types)
parts_with false merged o type types e = absurd (none-some (type ∷ types) e)
parts_with true merged None type types e = absurd (none-some (type ∷ types) e)
parts_with true merged (Some rest) type types e = (cc, cc)

module _ (merges : TypesMerge) (files : List ClassFile) (gathers : Gathers files None) where
  types_lighter : (allowed : VType → Bool) (upper lower : List VType) → AllByRecursion (IsKnown files) upper → AllByRecursion (IsKnown files) lower → merge_lists files allowed upper lower ≡ Some upper
      → IsNoMore (types_weight files upper) (types_weight files lower) (upper ≡ lower)
  unfolding merge_lists types_weight
  types_lighter allowed [] [] first second e = no_change nothing _ refl
  types_lighter allowed [] (b ∷ lower) first second e = absurd (none-some _ e)
  types_lighter allowed (a ∷ upper) [] first second e = absurd (none-some _ e)
  types_lighter allowed (a ∷ upper) (b ∷ lower) first second e =
      let parts = parts_with (allowed (merge files a b)) (merge files a b) (merge_lists files allowed upper lower) a upper e in
      so _ _ ((a ≡ b) × (upper ≡ lower)) (a ∷ upper ≡ b ∷ lower) (λ same. λ i. same.0 i ∷ same.1 i)
      (both_no_more (type_weight files a) (types_weight files upper) (type_weight files b) (types_weight files lower) (a ≡ b) (upper ≡ lower)
      (type_lighter merges files gathers a b first.0 second.0 parts.0) (types_lighter allowed upper lower first.1 second.1 parts.1))

-- ---- frames

abbrev pub pending_weight : Bool → Weight
pending_weight true = ranked 0
pending_weight false = ranked 1

pending_lighter : (upper lower : Bool) → (upper || lower) ≡ upper → IsNoMore (pending_weight upper) (pending_weight lower) (upper ≡ lower)
pending_lighter true true e = no_change (ranked 0) (true ≡ true) refl
pending_lighter true false e = lower_rank _ _ (true ≡ false) refl refl (omega arith)
pending_lighter false true e = cc
pending_lighter false false e = no_change (ranked 1) (false ≡ false) refl

pub frame_weight : List ClassFile → VFrame → Weight
frame_weight files frame = plus (types_weight files frame.locals) (plus (types_weight files frame.stack) (pending_weight frame.pending))

pending_present : (pending : Bool) → (pending_weight pending).absent ≡ 0
pending_present true = refl
pending_present false = refl

frame_present : (files : List ClassFile) (frame : VFrame) → (frame_weight files frame).absent ≡ 0
unfolding frame_weight
frame_present files frame = omega (arith, types_present files frame.locals, types_present files frame.stack, pending_present frame.pending)

-- what the parts of a frame's merge are
record AreMerged (locals stack : Option (List VType)) (pending : Bool) (frame : VFrame) : Type 0 where
  of_locals : locals ≡ Some frame.locals
  of_stack : stack ≡ Some frame.stack
  of_pending : pending ≡ frame.pending

merged_parts : (locals stack : Option (List VType)) (pending : Bool) (frame : VFrame)
    → option_and_then (λ l. option_map (λ s. record { locals = l; stack = s; pending = pending }) stack) locals ≡ Some frame → AreMerged locals stack pending frame
merged_parts None stack pending frame e = absurd (none-some frame e)
merged_parts (Some locals) None pending frame e = absurd (none-some frame e)
merged_parts (Some locals) (Some stack) pending frame e =
    let merged : VFrame = record { locals = locals; stack = stack; pending = pending } in
    let same : merged ≡ frame = same_Some merged frame e in
    record { of_locals = ap (λ (f : VFrame). Some f.locals) same; of_stack = ap (λ (f : VFrame). Some f.stack) same; of_pending = ap (λ (f : VFrame). f.pending) same }

same_frame : (f g : VFrame) → (f.locals ≡ g.locals) × ((f.stack ≡ g.stack) × (f.pending ≡ g.pending)) → f ≡ g
same_frame f g same = λ i. record { locals = same.0 i; stack = same.1.0 i; pending = same.1.1 i }

module _ (merges : TypesMerge) (files : List ClassFile) (gathers : Gathers files None) where
  -- a frame above another one weighs no more
  pub frame_lighter : (upper lower : VFrame) → IsKnownFrame files upper → IsKnownFrame files lower → IsAbove files upper lower → IsNoMore (frame_weight files upper) (frame_weight files lower) (upper ≡ lower)
  unfolding frame_weight
  frame_lighter upper lower first second above =
      let parts = merged_parts (merge_lists files may_be_local upper.locals lower.locals) (merge_lists files may_be_operand upper.stack lower.stack) (upper.pending || lower.pending) upper above in
      let locals = types_lighter merges files gathers may_be_local upper.locals lower.locals first.locals second.locals parts.of_locals in
      let stack = types_lighter merges files gathers may_be_operand upper.stack lower.stack first.stack second.stack parts.of_stack in
      let pending = pending_lighter upper.pending lower.pending parts.of_pending in
      so _ _ _ (upper ≡ lower) (same_frame upper lower)
      (both_no_more _ _ _ _ _ _ locals (both_no_more _ _ _ _ _ _ stack pending))

-- ---- tables

abbrev pub entry_weight : List ClassFile → Option VFrame → Weight
entry_weight files None = record { absent = 1; nulls = 0; rank = 0 }
entry_weight files (Some frame) = frame_weight files frame

unfoldable pub table_weight : List ClassFile → Table → Ops → Weight
table_weight files table [] = nothing
table_weight files table (x ∷ ops) = plus (entry_weight files (table x.0)) (table_weight files table ops)

-- the new entry is above the old one, if that is a frame, and their types are of the set
pub record IsEntryAbove (files : List ClassFile) (new old : Option VFrame) : Type 0 where
  pub new_known : (frame : VFrame) → new ≡ Some frame → IsKnownFrame files frame
  pub old_known : (frame : VFrame) → old ≡ Some frame → IsKnownFrame files frame
  pub above : (frame : VFrame) → old ≡ Some frame → (upper : VFrame) × (new ≡ Some upper) × IsAbove files upper frame

module _ (merges : TypesMerge) (files : List ClassFile) (gathers : Gathers files None) where
  entry_lighter : (new old : Option VFrame) → IsEntryAbove files new old → IsNoMore (entry_weight files new) (entry_weight files old) (new ≡ old)
  entry_lighter None None is = no_change _ _ refl
  entry_lighter (Some new) None is = fewer_absent _ _ (Some new ≡ None) (omega (arith, frame_present files new))
  entry_lighter None (Some old) is = let (upper, e, above) = is.above old refl in absurd (none-some upper e)
  entry_lighter (Some new) (Some old) is =
      let (upper, e, above) = is.above old refl in
      let over : IsAbove files new old = subst (λ (f : VFrame). IsAbove files f old) (sym (same_Some new upper e)) above in
      so (frame_weight files new) (frame_weight files old) (new ≡ old) (Some new ≡ Some old) (λ same. ap Some same) (frame_lighter merges files gathers new old (is.new_known new refl) (is.old_known old refl) over)

  -- a table whose frames are above those of another one weighs no more
  pub table_lighter : (new old : Table) (ops : Ops) → AllByRecursion (λ x. IsEntryAbove files (new x.0) (old x.0)) ops
      → IsNoMore (table_weight files new ops) (table_weight files old ops) (AllByRecursion (λ x. new x.0 ≡ old x.0) ops)
  unfolding table_weight
  table_lighter new old [] all = no_change nothing _ tt
  table_lighter new old (x ∷ ops) all =
      both_no_more (entry_weight files (new x.0)) (table_weight files new ops) (entry_weight files (old x.0)) (table_weight files old ops) (new x.0 ≡ old x.0) (AllByRecursion (λ y. new y.0 ≡ old y.0) ops)
      (entry_lighter (new x.0) (old x.0) all.0) (table_lighter new old ops all.1)
