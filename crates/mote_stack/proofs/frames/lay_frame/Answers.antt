use Rattle.std.proofs.Common.{◌≡◌, ◌≢◌, ℕ, List, ◌+◌, ◌≤◌, ◌<◌, get_or, set, length, ◌∙◌, arith, length-set, get_or-set_other, get_or-set_same}
use Rattle.mote_stack.specs.Moves.{LaysFrame}
use Rattle.mote_stack.proofs.frames.lay_frame.Goals as goal

other_than : (cells : List ℕ) (at v k : ℕ) → k ≢ at → get_or (set cells at v) k 0 ≡ get_or cells k 0
other_than cells at v k ne = get_or-set_other cells at k v 0 ne

laid : (old mid : List ℕ) (base header method refs nums : ℕ) → base ≤ header → header + 4 ≤ length mid
    → ((k : ℕ) → k < base → get_or mid k 0 ≡ get_or old k 0)
    → ((k : ℕ) → base ≤ k → k < header → get_or mid k 0 ≡ 0)
    → LaysFrame old (set (set (set (set mid header method) (header + 1) 0) (header + 2) refs) (header + 3) nums) base header method refs nums
laid old mid base header method refs nums order within below zeros =
    let one = set mid header method in
    let two = set one (header + 1) 0 in
    let three = set two (header + 2) refs in
    let four = set three (header + 3) nums in
    let long_one : length one ≡ length mid = length-set mid header method in
    let long_two : length two ≡ length one = length-set one (header + 1) 0 in
    let long_three : length three ≡ length two = length-set two (header + 2) refs in
    let low : (k : ℕ) → k < header → get_or four k 0 ≡ get_or mid k 0 = λ k h.
    other_than three (header + 3) nums k (omega arith) ∙ (other_than two (header + 2) refs k (omega arith) ∙ (other_than one (header + 1) 0 k (omega arith) ∙ other_than mid header method k (omega arith))) in
    record {
      below = λ k h. low k (omega arith) ∙ below k h;
      zeros = λ k h g. low k g ∙ zeros k h g;
      its_method = other_than three (header + 3) nums header (omega arith) ∙ (other_than two (header + 2) refs header (omega arith) ∙ (other_than one (header + 1) 0 header (omega arith) ∙ get_or-set_same mid header method 0 (omega arith)));
      its_pc = other_than three (header + 3) nums (header + 1) (omega arith) ∙ (other_than two (header + 2) refs (header + 1) (omega arith) ∙ get_or-set_same one (header + 1) 0 0 (omega arith));
      its_refs = other_than three (header + 3) nums (header + 2) (omega arith) ∙ get_or-set_same two (header + 2) refs 0 (omega arith);
      its_cells = get_or-set_same three (header + 3) nums 0 (omega arith);
    }

pub returns-clause-laid : goal.returns-clause-laid
returns-clause-laid c =
    laid c.args.cells.now.items c.loop-at.cells.items c.args.base c.args.header c.args.method c.args.ref_locals c.args.cell_locals c.requires.order (omega arith) c.loop-at.invariant.below (λ k h g. c.loop-at.invariant.zeros k h (omega (arith, g)))
