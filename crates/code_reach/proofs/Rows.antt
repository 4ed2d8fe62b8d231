-- The tree of some rows: as it is made, row by row, and as handlers are taken from it.
use Rattle.std.proofs.Common.{inl, inr, ◌⊎◌, ◌≡◌, ℕ, zero, suc, ◌+◌, ◌/◌, ◌^◌, ◌<◌, ◌≤◌, true, false, ◌&&◌, cond, leb, ltb, List, [], ◌∷◌, ◌++◌, length, map, take, get_or, replicate, refl, sym, ap, ◌∙◌, subst, arith}
use Rattle.std.specs.Prelude.{filter}
use Rattle.std.proofs.Math.Nat.{pow-suc}
use Rattle.std.proofs.lemmas.Bool.{false≢true}
use Rattle.std.proofs.lemmas.Bool.Decides.{nat_tests}
use Rattle.std.proofs.lemmas.List.{map-append, take_more}
use Rattle.std.proofs.lemmas.List.Elements.{filter-append}
use Rattle.code_reach.specs.declared.row.Row.{Row}
use Rattle.code_reach.specs.declared.visits.Visits.{Visits}
use Rattle.code_reach.specs.Reached.{covers, handlers_at}
use Rattle.code_reach.specs.Visits.{IsIn, IsMarked, Reaches, index_of}
use Rattle.code_reach.specs.declared.tree.Tree.{Tree}
use Rattle.code_reach.specs.Tree.{Nodes, Waits, IsPut, IsTaken, IsHandler, HoldsRows, IsTreeOf, at_node}
use Rattle.code_reach.proofs.Members.{in_none, in_both, in_left, in_right, in_cons, in_here}
use Rattle.code_reach.proofs.Growing.{grows_for, reaches_none}
use Rattle.code_reach.proofs.Nodes.{waits_more}

-- ---- the handlers of one row more

covers_both : (pc : ℕ) (row : Row) → covers pc row ≡ true → (row.start ≤ pc) × (pc < row.end)
covers_both pc row e =
    elim (leb row.start pc) as (λ b. (leb row.start pc ≡ b → (b && ltb pc row.end) ≡ true → (row.start ≤ pc) × (pc < row.end))) [
      | true ↦ λ first second. (grind (arith, nat_tests, first), grind (arith, nat_tests, second))
      | false ↦ λ first none. absurd (false≢true none)
    ] refl e

covers_from : (pc : ℕ) (row : Row) → row.start ≤ pc → pc < row.end → covers pc row ≡ true
covers_from pc row low high =
    let first : leb row.start pc ≡ true = grind (arith, nat_tests, low) in
    ap (λ b. b && ltb pc row.end) first ∙ grind (arith, nat_tests, high)

module _ (pcs : List ℕ) (pc index : ℕ) where
  abbrev indexes : List Row → List ℕ
  indexes rows = map (index_of pcs) (handlers_at rows pc)

  handlers_append : (rows more : List Row) → handlers_at (rows ++ more) pc ≡ handlers_at rows pc ++ handlers_at more pc
  handlers_append rows more =
      let target = λ (row : Row). row.target in
      ap (map target) (filter-append (covers pc) rows more) ∙ map-append target (filter (covers pc) rows) (filter (covers pc) more)

  row_there : (row : Row) → IsHandler pcs (row ∷ []) pc index → (index_of pcs row.target ≡ index) × (row.start ≤ pc) × (pc < row.end)
  row_there row is =
      elim (covers pc row) as (λ b. (covers pc row ≡ b → IsIn (map (index_of pcs) (map (λ (r : Row). r.target) (cond b (row ∷ []) []))) index → (index_of pcs row.target ≡ index) × (row.start ≤ pc) × (pc < row.end))) [
        | true ↦ λ e within.
            let both = covers_both pc row e in
            (elim (in_cons (index_of pcs row.target) [] index within) [ inl here ↦ here | inr none ↦ absurd (in_none index none) ], both.0, both.1)
        | false ↦ λ e within. absurd (in_none index within)
      ] refl is

  row_here : (row : Row) → index_of pcs row.target ≡ index → row.start ≤ pc → pc < row.end → IsHandler pcs (row ∷ []) pc index
  row_here row is low high =
      subst (λ b. IsIn (map (index_of pcs) (map (λ (r : Row). r.target) (cond b (row ∷ []) []))) index) (sym (covers_from pc row low high)) (in_here (index_of pcs row.target) [] index is)

  more_is : (rows : List Row) (k : ℕ) (d : Row) → k < length rows → indexes (take (k + 1) rows) ≡ indexes (take k rows) ++ indexes (get_or rows k d ∷ [])
  more_is rows k d lt =
      ap (λ list. indexes list) (take_more rows k d lt) ∙ ap (map (index_of pcs)) (handlers_append (take k rows) (get_or rows k d ∷ []))
      ∙ map-append (index_of pcs) (handlers_at (take k rows) pc) (handlers_at (get_or rows k d ∷ []) pc)

  pub more_parts : (rows : List Row) (k : ℕ) (d : Row) → k < length rows → IsHandler pcs (take (k + 1) rows) pc index
      → IsHandler pcs (take k rows) pc index ⊎ (let row = get_or rows k d in (index_of pcs row.target ≡ index) × (row.start ≤ pc) × (pc < row.end))
  more_parts rows k d lt is =
      elim (in_both (indexes (take k rows)) (indexes (get_or rows k d ∷ [])) index (subst (λ list. IsIn list index) (more_is rows k d lt) is)) [
        | inl old ↦ inl old
        | inr new ↦ inr (row_there (get_or rows k d) new)
      ]

  pub more_old : (rows : List Row) (k : ℕ) (d : Row) → k < length rows → IsHandler pcs (take k rows) pc index → IsHandler pcs (take (k + 1) rows) pc index
  more_old rows k d lt is = subst (λ list. IsIn list index) (sym (more_is rows k d lt)) (in_left (indexes (take k rows)) (indexes (get_or rows k d ∷ [])) index is)

  pub more_new : (rows : List Row) (k : ℕ) (d : Row) → k < length rows → (let row = get_or rows k d in index_of pcs row.target ≡ index) → (let row = get_or rows k d in row.start ≤ pc) → (let row = get_or rows k d in pc < row.end)
      → IsHandler pcs (take (k + 1) rows) pc index
  more_new rows k d lt is low high =
      subst (λ list. IsIn list index) (sym (more_is rows k d lt)) (in_right (indexes (take k rows)) (indexes (get_or rows k d ∷ [])) index (row_here (get_or rows k d) is low high))

-- ---- the tree of rows

none_waits : (count nodes node index : ℕ) → Waits count (replicate nodes []) node index → ⊥
none_waits zero nodes node index w = w
none_waits (suc count) nodes node index (inl here) = in_none index (subst (λ list. IsIn list index) (none_at nodes node) here)
  where
    none_at : (n i : ℕ) → at_node (replicate n []) i ≡ []
    none_at zero i = refl
    none_at (suc n) zero = refl
    none_at (suc n) (suc i) = none_at n i
none_waits (suc count) nodes node index (inr above) = none_waits count nodes (node / 2) index above

pub holds_first : (pcs : List ℕ) (rows : List Row) (leaves height count : ℕ) (known : ℕ → Type 0) → HoldsRows pcs (take 0 rows) leaves height (replicate count []) known
holds_first pcs rows leaves height count known = record {
  only = λ pc index lt w. absurd (none_waits (suc height) count (leaves + pc) index w);
  has = λ pc index is. absurd (in_none index is);
}

-- one row more, as it is put into the tree
pub holds_more : (pcs : List ℕ) (rows : List Row) (k : ℕ) (d : Row) (leaves height : ℕ) (before after : Nodes) (known : ℕ → Type 0) → k < length rows → leaves ≡ 2 ^ height
    → (let row = get_or rows k d in row.end ≤ leaves) → (let row = get_or rows k d in IsPut (leaves + row.start) (leaves + row.end) (index_of pcs row.target) before after)
    → HoldsRows pcs (take k rows) leaves height before known → HoldsRows pcs (take (k + 1) rows) leaves height after known
holds_more pcs rows k d leaves height before after known lt power fits put holds =
    let twice = pow-suc 2 height in
    record {
      only = λ pc index less w. elim (put.only height (leaves + pc) index (omega (arith, power)) (omega (arith, power, twice, fits)) (omega (arith, power)) (omega (arith, power, twice, less)) w) [
        | inl old ↦ more_old pcs pc index rows k d lt (holds.only pc index less old)
        | inr new ↦ more_new pcs pc index rows k d lt (sym new.0) (omega (arith, new.1)) (omega (arith, new.2))
      ];
      has = λ pc index is. elim (more_parts pcs pc index rows k d lt is) [
        | inl old ↦ let was = holds.has pc index old in (was.0, elim was.1 [ inl w ↦ inl (put.keeps (suc height) (leaves + pc) index w) | inr is ↦ inr is ])
        | inr new ↦ (omega (arith, fits, new.2), inl (subst (λ n. Waits (suc height) after (leaves + pc) n) new.0 (put.has height (leaves + pc) (omega (arith, power)) (omega (arith, power, twice, fits)) (omega (arith, new.1)) (omega (arith, new.2)))))
      ];
    }

-- what is known may be more
pub holds_known : (pcs : List ℕ) (rows : List Row) (leaves height : ℕ) (nodes : Nodes) (known more : ℕ → Type 0) → ((i : ℕ) → known i → more i) → HoldsRows pcs rows leaves height nodes known → HoldsRows pcs rows leaves height nodes more
holds_known pcs rows leaves height nodes known more f holds = record {
  only = holds.only;
  has = λ pc index is. let was = holds.has pc index is in (was.0, elim was.1 [ inl w ↦ inl w | inr e ↦ inr (f index e) ]);
}

-- ---- taking from it

taken_waits : (before after : Nodes) (s t : Visits) → IsTaken before after s t → (count node index : ℕ) → Waits count before node index → Waits count after node index ⊎ IsMarked t index
taken_waits before after s t taken zero node index w = absurd w
taken_waits before after s t taken (suc count) node index (inl here) = elim (taken.rest node index here) [ inl still ↦ inl (inl still) | inr known ↦ inr known ]
taken_waits before after s t taken (suc count) node index (inr above) = elim (taken_waits before after s t taken count (node / 2) index above) [ inl still ↦ inl (inr still) | inr known ↦ inr known ]

module _ (pcs : List ℕ) (rows : List Row) (leaves height : ℕ) (power : leaves ≡ 2 ^ height) (before : Nodes) (s : Visits) (holds : HoldsRows pcs rows leaves height before (IsMarked s)) where
  -- the tree is still that of the rows
  pub taken_holds : (after : Nodes) (t : Visits) → IsTaken before after s t → HoldsRows pcs rows leaves height after (IsMarked t)
  taken_holds after t taken = record {
    only = λ pc index lt w. holds.only pc index lt (waits_more after before taken.less (suc height) (leaves + pc) index w);
    has = λ pc index is.
        let was = holds.has pc index is in
        (was.0, elim was.1 [ inl w ↦ taken_waits before after s t taken (suc height) (leaves + pc) index w | inr e ↦ inr (taken.grows index e) ]);
  }

  -- what waits for a pc is its handlers, but for those that are in the set
  pub taken_reaches : (pc : ℕ) (t : Visits) → pc < leaves → ((level : ℕ) → 2 ^ level ≤ leaves + pc → leaves + pc < 2 ^ suc level → Reaches (Waits (suc level) before (leaves + pc)) s t) → Reaches (IsHandler pcs rows pc) s t
  taken_reaches pc t lt reaches =
      let twice = pow-suc 2 height in
      let all = reaches height (omega (arith, power)) (omega (arith, power, twice, lt)) in
      record {
        grows = grows_for (Waits (suc height) before (leaves + pc)) (IsHandler pcs rows pc) s t (λ i w. inl (holds.only pc i lt w)) all.grows;
        all = λ i is. elim (holds.has pc i is).1 [ inl w ↦ all.all i w | inr e ↦ all.grows.grows i e ];
      }

  -- a pc past the leaves has no handlers
  pub past_leaves : (pc : ℕ) → leaves ≤ pc → Reaches (IsHandler pcs rows pc) s s
  past_leaves pc le = reaches_none s (IsHandler pcs rows pc) (λ i is. let was = holds.has pc i is in absurd (omega (arith, was.0, le)))

-- a set that has not lost any keeps the tree
pub tree_grows : (pcs : List ℕ) (rows : List Row) (tree : Tree) (s t : Visits) → ((i : ℕ) → IsMarked s i → IsMarked t i) → IsTreeOf pcs rows tree s → IsTreeOf pcs rows tree t
tree_grows pcs rows tree s t grows is = record {
  height = is.height;
  leaves = is.leaves;
  size = is.size;
  holds = holds_known pcs rows tree.leaves is.height tree.nodes.items (IsMarked s) (IsMarked t) grows is.holds;
}
