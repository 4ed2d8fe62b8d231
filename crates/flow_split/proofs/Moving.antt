-- Moves that move nothing do not count, and instructions count by their moves.
use Rattle.std.proofs.Common.{◌≡◌, ℕ, ◌+◌, ◌-◌, ◌≤◌, max, Bool, true, false, cond, not, List, [], ◌∷◌, ◌++◌, map, refl, sym, ap, ◌∙◌, arith}
use Rattle.std.proofs.lemmas.List.{map-append}
use Rattle.std.proofs.lemmas.List.Elements.{filter-append}
use Rattle.image_instr.specs.declared.signature.Sig.{Sig}
use Rattle.jvm_model.specs.ImageExpansion.{Emitted}
use Rattle.jvm_model.specs.WidthsFrame.{most_operands, height_after}
use Rattle.flow_split.specs.declared.moves.Move.{Move}
use Rattle.flow_split.specs.Moves.{move_of, most_moves, is_still, moving, AreMoves}

most_from : (height : ℕ) (moves : List Move) → height ≤ most_moves height moves
unfolding most_moves
most_from height [] = omega arith
most_from height (move ∷ rest) = omega arith

still_same : (height : ℕ) (move : Move) → is_still move ≡ true → (height - move.pops) + move.pushes ≡ height
still_same height move is = grind arith

-- what a move that is still or not leaves of the greatest number
step_moving : (height : ℕ) (move : Move) (rest : List Move) (b : Bool) → is_still move ≡ b → ((n : ℕ) → most_moves n (moving rest) ≡ most_moves n rest)
    → most_moves height (cond (not b) (move ∷ moving rest) (moving rest)) ≡ max height (most_moves ((height - move.pops) + move.pushes) rest)
unfolding most_moves
step_moving height move rest true is below =
    let same = still_same height move is in
    let from = most_from height rest in
    let least : max height (most_moves height rest) ≡ most_moves height rest = omega (arith, from) in
    below height ∙ sym (ap (λ n. max height (most_moves n rest)) same ∙ least)
step_moving height move rest false is below = ap (max height) (below ((height - move.pops) + move.pushes))

most_moving : (moves : List Move) (height : ℕ) → most_moves height (moving moves) ≡ most_moves height moves
unfolding most_moves
most_moving [] height = refl
most_moving (move ∷ rest) height = step_moving height move rest (is_still move) refl (most_moving rest)

most_emitted : (sig : Sig) (height : ℕ) (emitted : List Emitted) → most_operands sig height emitted ≡ most_moves height (map (move_of sig) emitted)
unfolding most_moves most_operands
most_emitted sig height [] = refl
most_emitted sig height (one ∷ rest) = ap (max height) (most_emitted sig (height_after sig height one) rest)

-- for one signature
pub enough_for : (sig : Sig) (height : ℕ) (emitted : List Emitted) (moves : List Move) → moving moves ≡ moving (map (move_of sig) emitted) → most_operands sig height emitted ≡ most_moves height moves
enough_for sig height emitted moves same =
    most_emitted sig height emitted ∙ sym (most_moving (map (move_of sig) emitted) height) ∙ ap (most_moves height) (sym same) ∙ most_moving moves height

pub enough : (sig : Sig) (height : ℕ) (emitted : List Emitted) (moves : List Move) → AreMoves emitted moves → most_operands sig height emitted ≡ most_moves height moves
enough sig height emitted moves are = enough_for sig height emitted moves (are sig)

-- the cells before count
pub operands_from : (sig : Sig) (height : ℕ) (emitted : List Emitted) → max height (most_operands sig height emitted) ≡ most_operands sig height emitted
operands_from sig height emitted =
    let from = most_from height (map (move_of sig) emitted) in
    let same = most_emitted sig height emitted in
    omega (arith, from, same)

-- ---- one after the other

pub moves_append : (first second : List Emitted) (moves others : List Move) → AreMoves first moves → AreMoves second others → AreMoves (first ++ second) (moves ++ others)
moves_append first second moves others one two sig =
    filter-append (λ (m : Move). not (is_still m)) moves others
    ∙ ap (λ list. list ++ moving others) (one sig) ∙ ap (λ list. moving (map (move_of sig) first) ++ list) (two sig)
    ∙ sym (filter-append (λ (m : Move). not (is_still m)) (map (move_of sig) first) (map (move_of sig) second))
    ∙ ap moving (sym (map-append (move_of sig) first second))
