-- What waits in the tree, as an index is put there and as it is taken.
use Rattle.std.proofs.Common.{inl, inr, ◌⊎◌, ◌≡◌, ℕ, zero, suc, ◌+◌, ◌-◌, ◌*◌, ◌/◌, ◌%◌, ◌^◌, ◌<◌, ◌≤◌, Bool, true, false, ◌&&◌, cond, eqb, [], ◌∷◌, ◌++◌, set, refl, sym, ap, ◌∙◌, subst, arith}
use Rattle.std.proofs.Math.Nat.{pow-suc}
use Rattle.std.proofs.lemmas.Bool.{cases_lt, false≢true}
use Rattle.std.proofs.lemmas.Bool.Decides.{Decides-eqb}
use Rattle.std.proofs.lemmas.List.{get_or-set_other}
use Rattle.code_reach.specs.declared.visits.Visits.{Visits}
use Rattle.code_reach.specs.Visits.{IsIn, Reaches}
use Rattle.code_reach.specs.Tree.{Nodes, Waits, IsPut, at_node}
use Rattle.code_reach.proofs.Members.{in_pushed, in_old, in_new}
use Rattle.code_reach.proofs.Growing.{reaches_both, reaches_for}

-- ---- nodes that have more, and nodes that are the same

pub waits_more : (before after : Nodes) → ((node index : ℕ) → IsIn (at_node before node) index → IsIn (at_node after node) index) → (count node index : ℕ) → Waits count before node index → Waits count after node index
waits_more before after more zero node index w = w
waits_more before after more (suc count) node index (inl here) = inl (more node index here)
waits_more before after more (suc count) node index (inr above) = inr (waits_more before after more count (node / 2) index above)

pub waits_same : (before after : Nodes) (count node index : ℕ) → ((other : ℕ) → other ≤ node → at_node after other ≡ at_node before other) → Waits count before node index → Waits count after node index
waits_same before after zero node index same w = w
waits_same before after (suc count) node index same (inl here) = inl (subst (λ list. IsIn list index) (sym (same node (omega arith))) here)
waits_same before after (suc count) node index same (inr above) = inr (waits_same before after count (node / 2) index (λ other le. same other (omega (arith, le))) above)

-- ---- one put

module _ (asked : Bool) (node index : ℕ) (before after : Nodes) (is : (other : ℕ) → at_node after other ≡ cond (asked && eqb node other) (at_node before other ++ index ∷ []) (at_node before other)) where
  by_test : (b : Bool) (other : ℕ) → (asked && eqb node other) ≡ b → at_node after other ≡ cond b (at_node before other ++ index ∷ []) (at_node before other)
  by_test b other e = is other ∙ ap (λ b. cond b (at_node before other ++ index ∷ []) (at_node before other)) e

  pub put_new : asked ≡ true → IsIn (at_node after node) index
  put_new e = in_new (at_node before node) (at_node after node) index index (by_test true node (ap (λ b. b && eqb node node) e ∙ (Decides-eqb node node).1 refl)) refl

  both : (a b : Bool) → (a && b) ≡ true → (a ≡ true) × (b ≡ true)
  both true b e = (refl, e)
  both false b e = absurd (false≢true e)

  tested : (P : Type 0) (other : ℕ) → ((asked ≡ true) × (node ≡ other) → at_node after other ≡ at_node before other ++ index ∷ [] → P) → (at_node after other ≡ at_node before other → P) → P
  tested P other there elsewhere =
      elim (asked && eqb node other) as (λ b. ((asked && eqb node other) ≡ b → P)) [
        | true ↦ λ e. let parts = both asked (eqb node other) e in there (parts.0, (Decides-eqb node other).0 parts.1) (by_test true other e)
        | false ↦ λ e. elsewhere (by_test false other e)
      ] refl

  pub put_old : (other n : ℕ) → IsIn (at_node before other) n → IsIn (at_node after other) n
  put_old other n e = tested (IsIn (at_node after other) n) other (λ here list. in_old (at_node before other) (at_node after other) index n list e) (λ list. subst (λ ns. IsIn ns n) (sym list) e)

  pub put_only : (other n : ℕ) → IsIn (at_node after other) n → IsIn (at_node before other) n ⊎ ((index ≡ n) × (asked ≡ true) × (node ≡ other))
  put_only other n e =
      tested (IsIn (at_node before other) n ⊎ ((index ≡ n) × (asked ≡ true) × (node ≡ other))) other
      (λ here list. elim (in_pushed (at_node before other) (at_node after other) index n list e) [ inl old ↦ inl old | inr new ↦ inr (new, here.0, here.1) ])
      (λ list. inl (subst (λ ns. IsIn ns n) list e))

  pub put_other : (other : ℕ) → (node ≡ other → ⊥) → at_node after other ≡ at_node before other
  put_other other differs = tested (at_node after other ≡ at_node before other) other (λ here list. absurd (differs here.1)) (λ list. list)

-- ---- a row of nodes

pub put_none : (from to index : ℕ) (nodes : Nodes) → to ≤ from → IsPut from to index nodes nodes
put_none from to index nodes le = record {
  beyond = λ node above. refl;
  keeps = λ count node other w. w;
  has = λ level node low high above below. absurd (omega (arith, le, above, below));
  only = λ level node other low high above below w. inl w;
}

-- the powers of two at a level and the next
twice : (level : ℕ) → 2 ^ suc level ≡ 2 ^ level * 2
twice level = pow-suc 2 level

is_odd : (n : ℕ) → eqb (n % 2) 1 ≡ true → n % 2 ≡ 1
is_odd n e = (Decides-eqb (n % 2) 1).0 e

module _ (from to index : ℕ) (before one mid after : Nodes) (lt : from < to)
    (first : (other : ℕ) → at_node one other ≡ cond (eqb (from % 2) 1 && eqb from other) (at_node before other ++ index ∷ []) (at_node before other))
    (second : (other : ℕ) → at_node mid other ≡ cond (eqb (to % 2) 1 && eqb (to - 1) other) (at_node one other ++ index ∷ []) (at_node one other))
    (rest : IsPut ((from + 1) / 2) (to / 2) index mid after) where
  mid_old : (node n : ℕ) → IsIn (at_node before node) n → IsIn (at_node mid node) n
  mid_old node n e = put_old (eqb (to % 2) 1) (to - 1) index one mid second node n (put_old (eqb (from % 2) 1) from index before one first node n e)

  mid_only : (node n : ℕ) → IsIn (at_node mid node) n → IsIn (at_node before node) n ⊎ ((n ≡ index) × (from ≤ node) × (node < to))
  mid_only node n e =
      elim (put_only (eqb (to % 2) 1) (to - 1) index one mid second node n e) [
        | inl old ↦ elim (put_only (eqb (from % 2) 1) from index before one first node n old) [
          | inl older ↦ inl older
          | inr new ↦ inr (sym new.0, omega (arith, new.2), omega (arith, new.2, lt))
        ]
        | inr new ↦ inr (sym new.0, omega (arith, new.2, lt), omega (arith, new.2, lt))
      ]

  mid_same : (node : ℕ) → (from ≡ node → ⊥) → (to - 1 ≡ node → ⊥) → at_node mid node ≡ at_node before node
  mid_same node low high = put_other (eqb (to % 2) 1) (to - 1) index one mid second node high ∙ put_other (eqb (from % 2) 1) from index before one first node low

  -- a node of the level keeps what the first two puts gave it
  level_same : (level node : ℕ) → to ≤ 2 ^ suc level → 2 ^ level ≤ node → at_node after node ≡ at_node mid node
  level_same level node high above = rest.beyond node (omega (arith, twice level, high, above))

  here_or_above : (node : ℕ) → from ≤ node → node < to → IsIn (at_node mid node) index ⊎ (((from + 1) / 2 ≤ node / 2) × (node / 2 < to / 2))
  here_or_above node low high =
      elim (cases_lt (node / 2) ((from + 1) / 2)) [
        | inl below ↦
            let odd : eqb (from % 2) 1 ≡ true = (Decides-eqb (from % 2) 1).1 (omega (arith, below, low)) in
            let new = put_new (eqb (from % 2) 1) from index before one first odd in
            inl (subst (λ n. IsIn (at_node mid n) index) (omega (arith, below, low)) (put_old (eqb (to % 2) 1) (to - 1) index one mid second from index new))
        | inr above ↦ elim (cases_lt (node / 2) (to / 2)) [
          | inl under ↦ inr (above, under)
          | inr over ↦
              let odd : eqb (to % 2) 1 ≡ true = (Decides-eqb (to % 2) 1).1 (omega (arith, over, high)) in
              inl (subst (λ n. IsIn (at_node mid n) index) (omega (arith, over, high)) (put_new (eqb (to % 2) 1) (to - 1) index one mid second odd))
        ]
      ]

  has_at : (level node : ℕ) → 2 ^ level ≤ from → to ≤ 2 ^ suc level → from ≤ node → node < to → Waits (suc level) after node index
  has_at zero node low high above below =
      elim (here_or_above node above below) [
        | inl here ↦ inl (subst (λ list. IsIn list index) (sym (level_same 0 node high (omega (arith, low, above)))) here)
        | inr more ↦ absurd (omega (arith, low, high, more.0, more.1))
      ]
  has_at (suc level) node low high above below =
      elim (here_or_above node above below) [
        | inl here ↦ inl (subst (λ list. IsIn list index) (sym (level_same (suc level) node high (omega (arith, low, above)))) here)
        | inr more ↦ inr (rest.has level (node / 2) (omega (arith, low, twice level)) (omega (arith, high, twice (suc level))) more.0 more.1)
      ]

  only_at : (level node other : ℕ) → 2 ^ level ≤ from → to ≤ 2 ^ suc level → 2 ^ level ≤ node → node < 2 ^ suc level → Waits (suc level) after node other
      → Waits (suc level) before node other ⊎ ((other ≡ index) × (from ≤ node) × (node < to))
  only_at level node other low high above below (inl here) =
      elim (mid_only node other (subst (λ list. IsIn list other) (level_same level node high above) here)) [ inl old ↦ inl (inl old) | inr new ↦ inr new ]
  only_at zero node other low high above below (inr more) = absurd more
  only_at (suc level) node other low high above below (inr more) =
      let half : node / 2 < 2 ^ suc level = omega (arith, below, twice (suc level)) in
      elim (rest.only level (node / 2) other (omega (arith, low, twice level)) (omega (arith, high, twice (suc level))) (omega (arith, above, twice level)) half more) [
        | inl old ↦ inl (inr (waits_same mid before (suc level) (node / 2) other
            (λ n le. sym (mid_same n (λ e. omega (arith, e, le, half, low)) (λ e. omega (arith, e, le, half, low, lt)))) old))
        | inr new ↦ inr (new.0, omega (arith, new.1), omega (arith, new.2))
      ]

  pub put_more : IsPut from to index before after
  put_more = record {
    beyond = λ node le. rest.beyond node (omega (arith, le)) ∙ mid_same node (λ e. omega (arith, e, le, lt)) (λ e. omega (arith, e, le, lt));
    keeps = λ count node other w. rest.keeps count node other (waits_more before mid mid_old count node other w);
    has = has_at;
    only = only_at;
  }

-- ---- taking

one_or_more : (level : ℕ) → 1 ≤ 2 ^ level
one_or_more zero = omega arith
one_or_more (suc level) = omega (arith, twice level, one_or_more level)

-- all that waits at a root
pub take_root : (node : ℕ) (before : Nodes) (s t : Visits) → Reaches (IsIn (at_node before node)) s t → node ≤ 1 → (level : ℕ) → 2 ^ level ≤ node → node < 2 ^ suc level → Reaches (Waits (suc level) before node) s t
take_root node before s t first le zero low high = reaches_for (IsIn (at_node before node)) (Waits 1 before node) s t (λ i e. inl (inl e)) (λ i w. elim w [ inl e ↦ e | inr none ↦ absurd none ]) first
take_root node before s t first le (suc level) low high = absurd (omega (arith, le, low, twice level, one_or_more level))

module _ (node : ℕ) (before mid : Nodes) (s t u : Visits) (taken : mid ≡ set before node []) (first : Reaches (IsIn (at_node before node)) s t) where
  kept : (other : ℕ) → other < node → at_node mid other ≡ at_node before other
  kept other lt = ap (λ nodes. at_node nodes other) taken ∙ get_or-set_other before node other [] [] (λ e. omega (arith, e, lt))

  -- and at a node, and above it
  pub take_more : 1 < node → ((level : ℕ) → 2 ^ level ≤ node / 2 → node / 2 < 2 ^ suc level → Reaches (Waits (suc level) mid (node / 2)) t u) → (level : ℕ) → 2 ^ level ≤ node → node < 2 ^ suc level → Reaches (Waits (suc level) before node) s u
  take_more lt rest zero low high = absurd (omega (arith, lt, high))
  take_more lt rest (suc level) low high =
      let above = rest level (omega (arith, low, twice level)) (omega (arith, high, twice (suc level))) in
      let same : (other : ℕ) → other ≤ node / 2 → at_node mid other ≡ at_node before other = λ other le. kept other (omega (arith, le, lt)) in
      reaches_for (λ i. IsIn (at_node before node) i ⊎ Waits (suc level) mid (node / 2) i) (Waits (suc (suc level)) before node) s u
      (λ i w. elim w [ inl e ↦ inl (inl e) | inr more ↦ inl (inr (waits_same mid before (suc level) (node / 2) i (λ other le. sym (same other le)) more)) ])
      (λ i w. elim w [ inl e ↦ inl e | inr more ↦ inr (waits_same before mid (suc level) (node / 2) i same more) ])
      (reaches_both (IsIn (at_node before node)) (Waits (suc level) mid (node / 2)) s t u first above)
