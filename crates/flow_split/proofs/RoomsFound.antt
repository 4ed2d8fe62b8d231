-- Where rooms of the locals that pass a test begin.
use Rattle.std.proofs.Common.{◌≡◌, ℕ, zero, suc, ◌+◌, ◌<◌, Bool, true, false, cond, eqb, List, [], ◌∷◌, ◌++◌, map, filter, Option, Some, refl, sym, ap, ◌∙◌, arith}
use Rattle.std.specs.List.{range_with_len, sum_by}
use Rattle.std.proofs.lemmas.Bool.{false≢true}
use Rattle.std.proofs.lemmas.Bool.Decides.{nat_tests, Decides-eqb}
use Rattle.std.proofs.lemmas.List.Sums.{sum_by-cons}
use Rattle.jvm_model.specs.WidthsSlots.{Room, room_cells, first_cell}

-- a room of each local that passes
abbrev pub rooms_where : (ℕ → Bool) → (ℕ → ℕ) → List ℕ → List Room
rooms_where test size locals = map (λ local. (local, size local)) (filter test locals)

other_eqb : (a b : ℕ) → (a ≡ b → ⊥) → eqb a b ≡ false
other_eqb a b other = grind (arith, nat_tests)

module _ (test : ℕ → Bool) (size : ℕ → ℕ) where
  abbrev at : List ℕ → List Room
  at locals = rooms_where test size locals

  -- one more local
  one_cells : (local : ℕ) (locals : List ℕ) (b : Bool) → test local ≡ b → room_cells (at (local ∷ locals)) ≡ cond b (size local) 0 + room_cells (at locals)
  one_cells local locals true passes = ap (λ b. room_cells (map (λ (l : ℕ). (l, size l)) (cond b (local ∷ filter test locals) (filter test locals)))) passes ∙ sum_by-cons (λ (room : Room). room.1) (local, size local) (at locals)
  one_cells local locals false passes =
      let same = ap (λ b. room_cells (map (λ (l : ℕ). (l, size l)) (cond b (local ∷ filter test locals) (filter test locals)))) passes in
      same ∙ omega arith

  -- the cells are those of the locals that pass
  pub cells_where : (locals : List ℕ) → room_cells (at locals) ≡ sum_by (λ local. cond (test local) (size local) 0) locals
  cells_where [] = refl
  cells_where (local ∷ locals) = one_cells local locals (test local) refl ∙ ap (λ n. cond (test local) (size local) 0 + n) (cells_where locals) ∙ sym (sum_by-cons (λ local. cond (test local) (size local) 0) local locals)

  abbrev first : ℕ → Bool → ℕ → List ℕ → List Room → ℕ → Option ℕ
  first from b local locals more sought = first_cell from (map (λ (l : ℕ). (l, size l)) (cond b (local ∷ filter test locals) (filter test locals)) ++ more) sought

  -- a local that does not pass has no room among these
  passes_over : (from local : ℕ) (locals : List ℕ) (more : List Room) (sought : ℕ) (b : Bool) → test local ≡ b → (b ≡ true → local ≡ sought → ⊥)
      → first_cell from (at (local ∷ locals) ++ more) sought ≡ first_cell (from + cond b (size local) 0) (at locals ++ more) sought
  unfolding first_cell
  passes_over from local locals more sought true passes other =
      ap (λ b. first from b local locals more sought) passes
      ∙ ap (λ (b : Bool). cond b (Some from) (first_cell (from + size local) (at locals ++ more) sought)) (other_eqb local sought (other refl))
  passes_over from local locals more sought false passes other =
      ap (λ b. first from b local locals more sought) passes ∙ ap (λ n. first_cell n (at locals ++ more) sought) (omega arith)

  pub skipped : (from : ℕ) (locals : List ℕ) (more : List Room) (sought : ℕ) → test sought ≡ false → first_cell from (at locals ++ more) sought ≡ first_cell (from + room_cells (at locals)) more sought
  skipped from [] more sought fails = ap (λ n. first_cell n more sought) (omega arith)
  skipped from (local ∷ locals) more sought fails =
      passes_over from local locals more sought (test local) refl (λ passes same. false≢true (sym fails ∙ ap test (sym same) ∙ passes))
      ∙ skipped (from + cond (test local) (size local) 0) locals more sought fails
      ∙ ap (λ n. first_cell n more sought) (omega (arith, one_cells local locals (test local) refl))

  -- a local that passes has its room after those of the locals before it
  pub found : (from start count index sought : ℕ) (more : List Room) → index < count → start + index ≡ sought → test sought ≡ true
      → first_cell from (at (range_with_len start count) ++ more) sought ≡ Some (from + room_cells (at (range_with_len start index)))
  unfolding first_cell
  found from start zero index sought more within is passes = absurd (omega (arith, within))
  found from start (suc count) zero sought more within is passes =
      let same : start ≡ sought = omega (arith, is) in
      ap (λ b. first from b start (range_with_len (start + 1) count) more sought) (ap test same ∙ passes)
      ∙ ap (λ (b : Bool). cond b (Some from) (first_cell (from + size start) (at (range_with_len (start + 1) count) ++ more) sought)) ((Decides-eqb start sought).1 same)
      ∙ ap Some (omega arith)
  found from start (suc count) (suc index) sought more within is passes =
      passes_over from start (range_with_len (start + 1) count) more sought (test start) refl (λ _ same. omega (arith, same, is))
      ∙ found (from + cond (test start) (size start) 0) (start + 1) count index sought more (omega (arith, within)) (omega (arith, is)) passes
      ∙ ap Some (omega (arith, one_cells start (range_with_len (start + 1) index) (test start) refl))
