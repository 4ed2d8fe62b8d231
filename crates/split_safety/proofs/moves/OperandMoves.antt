-- Operands that are moved: copied, dropped and turned.
use Rattle.std.proofs.Common.{ℕ, ◌+◌, drop, refl, arith, length-drop}
use Rattle.image_instr.specs.declared.insn.MInsn.TheVariants as insns
use Rattle.mote_model.specs.SplitMoves.{goes_on, with_refs, with_cells, dupx, swapped, without, without_at}
use Rattle.split_safety.specs.Reached.{IsCell}
use Rattle.split_safety.proofs.facts.Parts.{doubled, turned, dupx_there, swapped_there, turned_length, doubled_length, turned_are, doubled_are, without_there, less, less_there, less_length, less_are}
use Rattle.split_safety.proofs.moves.Going.{used, goes, left_cells, left_refs, dropped}
use Rattle.split_safety.proofs.moves.Lemmas.{MoveLemma}

pub rdupx_moves : (m n : ℕ) → MoveLemma (insns.RDupX m n)
rdupx_moves m n image state frame others method size at =
    let operands = frame.refs.operands in
    let enough = at.operands.refs in
    used image (dupx m n operands) (λ moved. goes_on state (with_refs frame moved) others (frame.pc + size)) (doubled m n operands enough) (dupx_there m n operands enough)
    (goes at refl (with_refs frame (doubled m n operands enough)) (left_refs at (doubled m n operands enough) (omega (arith, enough, doubled_length m n operands enough)) (omega arith)))

pub dupx_moves : (m n : ℕ) → MoveLemma (insns.DupX m n)
dupx_moves m n image state frame others method size at =
    let operands = frame.cells.operands in
    let enough = at.operands.cells in
    used image (dupx m n operands) (λ moved. goes_on state (with_cells frame moved) others (frame.pc + size)) (doubled m n operands enough) (dupx_there m n operands enough)
    (goes at refl (with_cells frame (doubled m n operands enough))
    (left_cells at (doubled m n operands enough) (doubled_are m n operands enough IsCell at.operands_are) (omega (arith, enough, doubled_length m n operands enough)) (omega arith)))

pub rpop_moves : (count : ℕ) → MoveLemma (insns.RPop count)
rpop_moves count image state frame others method size at =
    let operands = frame.refs.operands in
    let enough = at.operands.refs in
    used image (without count operands) (λ moved. goes_on state (with_refs frame moved) others (frame.pc + size)) (drop count operands) (without_there count operands enough)
    (goes at refl (with_refs frame (drop count operands)) (left_refs at (drop count operands) (omega (arith, enough, length-drop count operands)) (omega arith)))

pub pop_moves : (count : ℕ) → MoveLemma (insns.Pop count)
pop_moves count image state frame others method size at =
    let operands = frame.cells.operands in
    let enough = at.operands.cells in
    used image (without count operands) (λ moved. goes_on state (with_cells frame moved) others (frame.pc + size)) (drop count operands) (without_there count operands enough)
    (goes at refl (with_cells frame (drop count operands)) (left_cells at (drop count operands) (dropped at count) (omega (arith, enough, length-drop count operands)) (omega arith)))

pub rswap_moves : MoveLemma insns.RSwap
rswap_moves image state frame others method size at =
    let operands = frame.refs.operands in
    let enough = at.operands.refs in
    used image (swapped 1 1 operands) (λ moved. goes_on state (with_refs frame moved) others (frame.pc + size)) (turned 1 1 operands enough) (swapped_there 1 1 operands enough)
    (goes at refl (with_refs frame (turned 1 1 operands enough)) (left_refs at (turned 1 1 operands enough) (omega (arith, enough, turned_length 1 1 operands enough)) (omega arith)))

pub swap_moves : (m n : ℕ) → MoveLemma (insns.Swap m n)
swap_moves m n image state frame others method size at =
    let operands = frame.cells.operands in
    let enough = at.operands.cells in
    used image (swapped m n operands) (λ moved. goes_on state (with_cells frame moved) others (frame.pc + size)) (turned m n operands enough) (swapped_there m n operands enough)
    (goes at refl (with_cells frame (turned m n operands enough))
    (left_cells at (turned m n operands enough) (turned_are m n operands enough IsCell at.operands_are) (omega (arith, enough, turned_length m n operands enough)) (omega arith)))

pub drop_moves : (above : ℕ) → MoveLemma (insns.Drop above)
drop_moves above image state frame others method size at =
    let operands = frame.cells.operands in
    let enough = at.operands.cells in
    used image (without_at above operands) (λ moved. goes_on state (with_cells frame moved) others (frame.pc + size)) (less above operands enough) (less_there above operands enough)
    (goes at refl (with_cells frame (less above operands enough))
    (left_cells at (less above operands enough) (less_are above operands enough IsCell at.operands_are) (omega (arith, enough, less_length above operands enough)) (omega arith)))
