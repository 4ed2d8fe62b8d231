-- A run that ends, as its moves one by one.
use Rattle.std.proofs.Common.{◌≡◌, ℕ, zero, suc, List, [], ◌++◌, refl, sym, ap, ◌∙◌, subst}
use Rattle.account.specs.Account.{Event, Bounds, Standing, Ends, Settled, Goes, Over, Lost, settled}
use Rattle.account.specs.Run.{Machine, after_events, run_from, EndsSo}
use Rattle.account.proofs.Running.{run_from-first, run_from-ended, run_from-lost, over_without-said, ends_with-said, ends_moved, ends_joined, ends_over}

-- what the next move comes to within bounds
abbrev pub moved : {State Ending : Type 0} → Machine State Ending → Bounds → Standing State → Settled State Ending
moved machine bounds from = settled bounds (machine.view from.state) from (machine.move from.state)

-- the events from where a run stands to its end
pub data Course {State Ending : Type 0} (machine : Machine State Ending) (bounds : Bounds) (last : Standing State) (how : Ends Ending) : Standing State → List Event → Type 0 where
  Finishes : (from : Standing State) (events : List Event) → moved machine bounds from ≡ Over events last how → Course machine bounds last how from events
  GoesOn : (from next : Standing State) (events rest : List Event) → moved machine bounds from ≡ Goes events next → Course machine bounds last how next rest → Course machine bounds last how from (events ++ rest)

module _ {State Ending : Type 0} (machine : Machine State Ending) (bounds : Bounds) (last : Standing State) (how : Ends Ending) where
  abbrev Later : ℕ → Type 0
  Later moves = (next : Standing State) (rest : List Event) → run_from machine bounds (Goes [] next) moves ≡ Over rest last how → Course machine bounds last how next rest

  by_move : (from : Standing State) (events : List Event) (moves : ℕ) → Later moves → (next : Settled State Ending) → moved machine bounds from ≡ next → run_from machine bounds (after_events [] next) moves ≡ Over events last how → Course machine bounds last how from events
  by_move from events moves later (Goes first next) e ran =
      let found = over_without-said machine bounds first events next last how moves ran in
      subst (Course machine bounds last how from) (sym found.1) (GoesOn from next first found.0 e (later next found.0 found.2))
  by_move from events moves later (Over said at way) e ran =
      let same : Over said at way ≡ Over events last how = sym (run_from-ended machine bounds said at way moves) ∙ ran in
      Finishes from events (e ∙ same)
  by_move from events moves later Lost e ran = let lost : Lost ≡ Over events last how = sym (run_from-lost machine bounds moves) ∙ ran in absurd cc

  course_over : (moves : ℕ) → Later moves
  course_over zero from events over = absurd cc
  course_over (suc moves) from events over =
      by_move from events moves (course_over moves) (moved machine bounds from) refl (sym (run_from-first machine bounds (Goes [] from) moves) ∙ over)

  pub course_of : (from : Standing State) (events : List Event) → EndsSo machine bounds (Goes [] from) events last how → Course machine bounds last how from events
  course_of from events ends = course_over ends.moves from events ends.over

  pub ends_of-course : (from : Standing State) (events : List Event) → Course machine bounds last how from events → EndsSo machine bounds (Goes [] from) events last how
  ends_of-course _ _ (Finishes from events e) =
      ends_joined machine bounds (Goes [] from) (Over events last how) 1 events last how (ap (after_events []) e) (ends_over machine bounds events last how)
  ends_of-course _ _ (GoesOn from next first rest e course) =
      ends_moved machine bounds [] first from next last (first ++ rest) how e (ends_with-said machine bounds first next rest last how (ends_of-course next rest course))

  -- ---- what a first move tells of a course

  pub course-goes : (from next : Standing State) (first events : List Event) → moved machine bounds from ≡ Goes first next → Course machine bounds last how from events → (rest : List Event) × (events ≡ first ++ rest) × Course machine bounds last how next rest
  course-goes from next first _ goes (Finishes from_here events over) = absurd cc
  course-goes from next first _ goes (GoesOn from_here later said rest moves course) =
      let same : said ≡ first = cc in
      let same_next : later ≡ next = cc in
      (rest, ap (λ events. events ++ rest) same, subst (λ at. Course machine bounds last how at rest) same_next course)

  pub course-over : (from ended : Standing State) (said events : List Event) (way : Ends Ending) → moved machine bounds from ≡ Over said ended way → Course machine bounds last how from events → (events ≡ said) × (last ≡ ended) × (how ≡ way)
  course-over from ended said _ way over (Finishes from_here events finishes) = (cc, cc, cc)
  course-over from ended said _ way over (GoesOn from_here next events rest goes course) = absurd cc
