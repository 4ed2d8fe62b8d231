-- Two cells that are written in a list: they are read as they are, and those that lie apart stay.
use Rattle.std.proofs.Common.{◌≡◌, inl, inr, ℕ, ◌+◌, ◌≤◌, Bool, true, nat_le, if◌then◌else◌, List, [], ◌∷◌, ◌++◌, length, take, drop, get_or, Some, None, sym, ap, ap₂, ◌∙◌, arith}
use Rattle.std.proofs.lemmas.Bool.Decides.{nat_tests}
use Rattle.std.proofs.lemmas.Grind.{elements}
use Rattle.std.proofs.lemmas.List.{drop_more}
use Rattle.mote_model.specs.SplitMoves.{cells_at, with_cells_at}
use Rattle.follow_operands.proofs.LocalRooms.{AreApart}

-- two cells are there
pub two_cells : (cells : List ℕ) (at : ℕ) → at + 2 ≤ length cells → cells_at cells at 2 ≡ Some (get_or cells at 0 ∷ get_or cells (at + 1) 0 ∷ [])
two_cells cells at within =
    let enough : nat_le (at + 2) (length cells) ≡ true = grind (arith, nat_tests, within) in
    let first = drop_more cells at 0 (omega (arith, within)) in
    let second = drop_more cells (at + 1) 0 (omega (arith, within)) in
    ap (λ (b : Bool). if b then Some (take 2 (drop at cells)) else None) enough
    ∙ ap (λ (l : List ℕ). Some (take 2 l)) (first ∙ ap (λ (l : List ℕ). get_or cells at 0 ∷ l) second)

module _ (cells : List ℕ) (at low high : ℕ) (within : at + 2 ≤ length cells) where
  -- the cells with these two in place of others
  abbrev pub written : List ℕ
  written = take at cells ++ (low ∷ high ∷ drop (at + 2) cells)

  pub writes : with_cells_at cells at (low ∷ high ∷ []) ≡ Some written
  writes =
      let enough : nat_le (at + 2) (length cells) ≡ true = grind (arith, nat_tests, within) in
      ap (λ (b : Bool). if b then Some written else None) enough

  pub written_count : length written ≡ length cells
  written_count = grind (arith, elements, within)

  first_written : get_or written at 0 ≡ low
  first_written = grind (arith, elements, within)

  second_written : get_or written (at + 1) 0 ≡ high
  second_written = grind (arith, elements, within)

  pub read_again : cells_at written at 2 ≡ Some (low ∷ high ∷ [])
  read_again =
      two_cells written at (omega (arith, within, written_count))
      ∙ ap₂ (λ (a b : ℕ). Some (a ∷ b ∷ [])) first_written second_written

  left_alone : (other : ℕ) → (other + 1 ≤ at) → get_or written other 0 ≡ get_or cells other 0
  left_alone other before = grind (arith, elements, within)

  right_alone : (other : ℕ) → (at + 2 ≤ other) → get_or written other 0 ≡ get_or cells other 0
  right_alone other behind = grind (arith, elements, within)

  -- two cells apart from these are read as before
  pub read_apart : (other : ℕ) → other + 2 ≤ length cells → AreApart other at → cells_at written other 2 ≡ cells_at cells other 2
  read_apart other there (inl before) =
      two_cells written other (omega (arith, there, written_count))
      ∙ ap₂ (λ (a b : ℕ). Some (a ∷ b ∷ [])) (left_alone other (omega (arith, before))) (left_alone (other + 1) (omega (arith, before)))
      ∙ sym (two_cells cells other there)
  read_apart other there (inr behind) =
      two_cells written other (omega (arith, there, written_count))
      ∙ ap₂ (λ (a b : ℕ). Some (a ∷ b ∷ [])) (right_alone other (omega (arith, behind))) (right_alone (other + 1) (omega (arith, behind)))
      ∙ sym (two_cells cells other there)
