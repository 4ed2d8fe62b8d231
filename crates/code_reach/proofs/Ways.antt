-- Where the instructions of some code lead, with an exception table: instruction by instruction.
use Rattle.std.proofs.Common.{inl, inr, ◌⊎◌, ◌≡◌, ℕ, zero, suc, ◌+◌, ◌<◌, ◌≤◌, Bool, true, false, cond, List, [], ◌∷◌, ◌++◌, length, map, take, drop, get_or, refl, sym, ap, ◌∙◌, subst, arith}
use Rattle.std.proofs.Math.Path.{transport}
use Rattle.std.proofs.lemmas.List.{map-append, take_more, length-drop, get_or_past}
use Rattle.std.proofs.lemmas.Bool.{false≢true}
use Rattle.code_reach.specs.declared.row.Row.{Row}
use Rattle.code_reach.specs.declared.visits.Visits.{Visits}
use Rattle.code_reach.specs.Reached.{Way, Ways, Placed, RisesFrom, successors, handlers_at, with_handlers, code_ways}
use Rattle.code_reach.specs.Visits.{IsIn, Reaches, Follows, nowhere, pcs_of, index_of, successors_at}
use Rattle.code_reach.specs.Tree.{IsHandler}
use Rattle.code_reach.proofs.Members.{in_none, in_cons, in_here, in_rest, in_both, in_left, in_right}
use Rattle.code_reach.proofs.Growing.{reaches_both, reaches_for}
use Rattle.code_reach.proofs.Indexes.{index_at}

-- ---- one target more

one_more : (view : ℕ → ℕ) (targets : List ℕ) (k : ℕ) → k < length targets → map view (take (k + 1) targets) ≡ map view (take k targets) ++ view (get_or targets k 0) ∷ []
one_more view targets k lt = ap (map view) (take_more targets k 0 lt) ∙ map-append view (take k targets) (get_or targets k 0 ∷ [])

pub targets_more : (view : ℕ → ℕ) (targets : List ℕ) (k index : ℕ) (s t u : Visits) → k < length targets → index ≡ view (get_or targets k 0) → Reaches (IsIn (map view (take k targets))) s t → Reaches (λ other. other ≡ index) t u
    → Reaches (IsIn (map view (take (k + 1) targets))) s u
targets_more view targets k index s t u lt is some one =
    let more = one_more view targets k lt in
    let last = view (get_or targets k 0) in
    reaches_for (λ i. IsIn (map view (take k targets)) i ⊎ (i ≡ index)) (IsIn (map view (take (k + 1) targets))) s u
    (λ i either. inl (subst (λ list. IsIn list i) (sym more) (elim either [
      | inl old ↦ in_left (map view (take k targets)) (last ∷ []) i old
      | inr new ↦ in_right (map view (take k targets)) (last ∷ []) i (in_here last [] i (sym is ∙ sym new))
    ])))
    (λ i within. elim (in_both (map view (take k targets)) (last ∷ []) i (subst (λ list. IsIn list i) more within)) [
      | inl old ↦ inl old
      | inr new ↦ elim (in_cons last [] i new) [ inl here ↦ inr (sym here ∙ sym is) | inr none ↦ absurd (in_none i none) ]
    ])
    (reaches_both (IsIn (map view (take k targets))) (λ i. i ≡ index) s t u some one)

-- ---- what is left of code

suc_within : {X : Type 0} (i : ℕ) (code : Placed X) (y : ℕ × X) (rest : Placed X) → drop i code ≡ y ∷ rest → i < length code
suc_within i code y rest e =
    let size = ap length e in
    omega (arith, size, length-drop i code)

same_head : {X : Type 0} (z y : X) (zs ys : List X) → z ∷ zs ≡ y ∷ ys → z ≡ y
same_head z y zs ys e = cc

pc_is : {X : Type 0} (i : ℕ) (code : Placed X) (y : ℕ × X) (rest : Placed X) → drop i code ≡ y ∷ rest → get_or (pcs_of code) i 0 ≡ y.0
pc_is zero [] y rest e = absurd cc
pc_is {X = X} zero (z ∷ code) y rest e = ap (λ (x : ℕ × X). x.0) (same_head z y code rest e)
pc_is (suc i) [] y rest e = absurd cc
pc_is (suc i) (z ∷ code) y rest e = pc_is i code y rest e

past_end : {X : Type 0} (i : ℕ) (code : Placed X) → drop i code ≡ [] → length code ≤ i
past_end i code e =
    let size = ap length e in
    omega (arith, size, length-drop i code)

-- ---- the ways of code

module _ {X : Type 0} (way : X → Way) (rows : List Row) where
  abbrev its_way : ℕ × X → ℕ × Way
  its_way x = with_handlers rows (x.0, way x.1)

  pub same_pcs : (code : Placed X) → pcs_of (code_ways way rows code) ≡ pcs_of code
  same_pcs [] = refl
  same_pcs (x ∷ code) = ap (λ (pcs : List ℕ). x.0 ∷ pcs) (same_pcs code)

  pub same_length : (code : Placed X) → length (code_ways way rows code) ≡ length code
  same_length [] = refl
  same_length (x ∷ code) = ap suc (same_length code)

  pub ways_rise : (low : ℕ) (code : Placed X) → RisesFrom low code → RisesFrom low (code_ways way rows code)
  ways_rise low [] rise = tt
  ways_rise low (x ∷ code) rise = (rise.0, ways_rise (suc x.0) code rise.1)

  way_at : (code : Placed X) (i : ℕ) (x : ℕ × X) → i < length code → x ≡ get_or code i x → get_or (code_ways way rows code) i nowhere ≡ its_way x
  way_at [] i x lt is = absurd (omega (arith, lt))
  way_at (y ∷ code) zero x lt is = ap its_way (sym is)
  way_at (y ∷ code) (suc i) x lt is = way_at code i x (omega (arith, lt)) is

  rest_at : (code : Placed X) (i : ℕ) → drop i (code_ways way rows code) ≡ code_ways way rows (drop i code)
  rest_at code zero = refl
  rest_at [] (suc i) = refl
  rest_at (x ∷ code) (suc i) = rest_at code i

  -- what follows an instruction is the one after it, where it goes on, its targets, and the handlers of its pc
  module _ (code : Placed X) (rise : RisesFrom 0 code) (i : ℕ) (x : ℕ × X) (lt : i < length code) (is : x ≡ get_or code i x) where
    abbrev pcs : List ℕ
    pcs = pcs_of code

    abbrev ways : Ways
    ways = code_ways way rows code

    abbrev Next : ℕ → Type 0
    Next j = (let w = way x.1 in w.goes_on ≡ true) × (j ≡ i + 1)

    abbrev Target : ℕ → Type 0
    Target j = IsIn (let w = way x.1 in map (index_of pcs) w.targets) j

    here : successors_at ways i ≡ (let w = its_way x in successors w.1 (code_ways way rows (drop (suc i) code)))
    here = ap (λ (w : ℕ × Way). successors w.1 (drop (suc i) ways)) (way_at code i x lt is) ∙ ap (λ (rest : Ways). let w = its_way x in successors w.1 rest) (rest_at code (suc i))

    follows_is : (j : ℕ) → Follows ways i j ≡ IsIn (map (index_of pcs) (let w = its_way x in successors w.1 (code_ways way rows (drop (suc i) code)))) j
    follows_is j = ap (λ (list : List ℕ). IsIn (map (index_of list) (successors_at ways i)) j) (same_pcs code) ∙ ap (λ (list : List ℕ). IsIn (map (index_of pcs) list) j) here

    jumps_are : map (index_of pcs) (let w = way x.1 in w.targets ++ handlers_at rows x.0) ≡ (let w = way x.1 in map (index_of pcs) w.targets ++ map (index_of pcs) (handlers_at rows x.0))
    jumps_are = let w = way x.1 in map-append (index_of pcs) w.targets (handlers_at rows x.0)

    jump_parts : (j : ℕ) → IsIn (map (index_of pcs) (let w = way x.1 in w.targets ++ handlers_at rows x.0)) j → Target j ⊎ IsHandler pcs rows x.0 j
    jump_parts j e = let w = way x.1 in in_both (map (index_of pcs) w.targets) (map (index_of pcs) (handlers_at rows x.0)) j (subst (λ list. IsIn list j) jumps_are e)

    jump_whole : (j : ℕ) → Target j ⊎ IsHandler pcs rows x.0 j → IsIn (map (index_of pcs) (let w = way x.1 in w.targets ++ handlers_at rows x.0)) j
    jump_whole j either = subst (λ list. IsIn list j) (sym jumps_are) (let w = way x.1 in elim either [
      | inl e ↦ in_left (map (index_of pcs) w.targets) (map (index_of pcs) (handlers_at rows x.0)) j e
      | inr e ↦ in_right (map (index_of pcs) w.targets) (map (index_of pcs) (handlers_at rows x.0)) j e
    ])

    next_is : (y : ℕ × X) (rest : Placed X) → drop (suc i) code ≡ y ∷ rest → index_of pcs y.0 ≡ i + 1
    next_is y rest e = omega (arith, index_at 0 code rise (suc i) y.0 (suc_within (suc i) code y rest e) (pc_is (suc i) code y rest e))

    by_next : (on : Bool) (left : Placed X) → (let w = way x.1 in w.goes_on) ≡ on → drop (suc i) code ≡ left → (j : ℕ)
        → (IsIn (map (index_of pcs) (let w = its_way x in successors w.1 (code_ways way rows left))) j → Next j ⊎ (Target j ⊎ IsHandler pcs rows x.0 j))
        × (Next j ⊎ (Target j ⊎ IsHandler pcs rows x.0 j) → IsIn (map (index_of pcs) (let w = its_way x in successors w.1 (code_ways way rows left))) j ⊎ (length code ≤ j))
    by_next on [] goes left j = (
      λ e. inr (jump_parts j e),
      λ either. elim either [ inl next ↦ inr (omega (arith, next.1, past_end (suc i) code left)) | inr jump ↦ inl (jump_whole j jump) ],
    )
    by_next true (y ∷ rest) goes left j =
        let same : (let w = its_way x in successors w.1 (code_ways way rows (y ∷ rest))) ≡ y.0 ∷ (let w = way x.1 in w.targets ++ handlers_at rows x.0) = ap (λ b. (let w = way x.1 in cond b (y.0 ∷ (w.targets ++ handlers_at rows x.0)) (w.targets ++ handlers_at rows x.0))) goes in
        let jumps = (let w = way x.1 in map (index_of pcs) (w.targets ++ handlers_at rows x.0)) in
        let is = next_is y rest left in (
          λ e. elim (in_cons (index_of pcs y.0) jumps j (subst (λ list. IsIn (map (index_of pcs) list) j) same e)) [ inl here ↦ inl (goes, sym here ∙ is) | inr jump ↦ inr (jump_parts j jump) ],
          λ either. inl (subst (λ list. IsIn (map (index_of pcs) list) j) (sym same) (elim either [ inl next ↦ in_here (index_of pcs y.0) jumps j (is ∙ sym next.1) | inr jump ↦ in_rest (index_of pcs y.0) jumps j (jump_whole j jump) ])),
        )
    by_next false (y ∷ rest) goes left j =
        let same : (let w = its_way x in successors w.1 (code_ways way rows (y ∷ rest))) ≡ (let w = way x.1 in w.targets ++ handlers_at rows x.0) = ap (λ b. (let w = way x.1 in cond b (y.0 ∷ (w.targets ++ handlers_at rows x.0)) (w.targets ++ handlers_at rows x.0))) goes in (
          λ e. inr (jump_parts j (subst (λ list. IsIn (map (index_of pcs) list) j) same e)),
          λ either. inl (subst (λ list. IsIn (map (index_of pcs) list) j) (sym same) (elim either [ inl next ↦ absurd (false≢true (sym goes ∙ next.0)) | inr jump ↦ jump_whole j jump ])),
        )

    -- so these three reach all that follows
    pub follows_reached : (s t u v : Visits) → length s.marks.items ≡ length code → Reaches Next s t → Reaches (IsIn (let w = way x.1 in map (index_of pcs) w.targets)) t u → Reaches (IsHandler pcs rows x.0) u v → Reaches (Follows ways i) s v
    follows_reached s t u v size next jumps handlers =
        let All = λ (j : ℕ). Next j ⊎ (Target j ⊎ IsHandler pcs rows x.0 j) in
        let parts = by_next (let w = way x.1 in w.goes_on) (drop (suc i) code) refl refl in
        reaches_for All (Follows ways i) s v
        (λ j all. elim ((parts j).1 all) [ inl e ↦ inl (transport (sym (follows_is j)) e) | inr past ↦ inr (get_or_past s.marks.items j true (omega (arith, past, size))) ])
        (λ j e. (parts j).0 (transport (follows_is j) e))
        (reaches_both Next (λ j. Target j ⊎ IsHandler pcs rows x.0 j) s t v next (reaches_both Target (IsHandler pcs rows x.0) t u v jumps handlers))
