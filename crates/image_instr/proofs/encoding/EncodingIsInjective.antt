-- An instruction has one encoding: its rows are those that are read.
use Rattle.std.proofs.Common.{◌≡◌, ℕ, List, ◌++◌, length, sym, ap, ◌∙◌}
use Rattle.std.specs.List.{flat_map}
use Rattle.std.proofs.lemmas.Option.{some_pair_parts}
use Rattle.image_instr.specs.declared.insn.SwitchRow.{SwitchRow}
use Rattle.image_instr.specs.declared.insn.MInsn.{MInsn}
use Rattle.image_instr.specs.declared.insn.MInsn.TheVariants.{Switch, Table, Const1, Const2, Small1, Small2, Mid2, Null, Load, Store, RClear, Inc, RDupX, DupX, RPop, Pop, RSwap, Swap, Drop, Bin, Neg, Sx, Zx, Sb, Bit, Jz, JCmp, RJ, Goto, Ret, GetS, PutS, GetF, PutF, NewArr, Multi, ALen, ALoad, AStore, New, Cast, Inst, Throw, CallS, CallX, CallV, CallI}
use Rattle.image_instr.specs.Insn.{row_bytes, target_bytes, insn_bytes, IsInsn}
use Rattle.image_instr.specs.Reading.{rows_in, targets_in, rows_at, insn_at}
use Rattle.image_instr.proofs.switches.Rows.{rows_again, targets_again}
use Rattle.image_instr.proofs.encoding.Again.{insn_at-again}

-- the rows that were encoded are those at the prefix
pub rows_are : (insn : MInsn) (rows : List SwitchRow) (rest : List ℕ) → IsInsn insn rows → rows ≡ rows_at insn (insn_bytes insn rows ++ rest)
rows_are (Switch width default count) rows rest h =
    sym (rows_again rows rest h.row_ranges) ∙ ap (λ (n : ℕ). rows_in n (flat_map row_bytes rows ++ rest)) h.rows_of.0
rows_are (Table width default low count) rows rest h =
    sym (targets_again rows low rest h.rows_of.1 h.row_ranges) ∙ ap (λ (n : ℕ). targets_in low n (flat_map target_bytes rows ++ rest)) h.rows_of.0
rows_are (Const1 v) rows rest h = h.rows_of
rows_are (Const2 v) rows rest h = h.rows_of
rows_are (Small1 v) rows rest h = h.rows_of
rows_are (Small2 v) rows rest h = h.rows_of
rows_are (Mid2 v) rows rest h = h.rows_of
rows_are Null rows rest h = h.rows_of
rows_are (Load k n) rows rest h = h.rows_of
rows_are (Store k n) rows rest h = h.rows_of
rows_are (RClear n) rows rest h = h.rows_of
rows_are (Inc w n a) rows rest h = h.rows_of
rows_are (RDupX m n) rows rest h = h.rows_of
rows_are (DupX m n) rows rest h = h.rows_of
rows_are (RPop n) rows rest h = h.rows_of
rows_are (Pop n) rows rest h = h.rows_of
rows_are RSwap rows rest h = h.rows_of
rows_are (Swap m n) rows rest h = h.rows_of
rows_are (Drop n) rows rest h = h.rows_of
rows_are (Bin w o) rows rest h = h.rows_of
rows_are (Neg w) rows rest h = h.rows_of
rows_are Sx rows rest h = h.rows_of
rows_are Zx rows rest h = h.rows_of
rows_are Sb rows rest h = h.rows_of
rows_are Bit rows rest h = h.rows_of
rows_are (Jz w c t) rows rest h = h.rows_of
rows_are (JCmp w c t) rows rest h = h.rows_of
rows_are (RJ r t) rows rest h = h.rows_of
rows_are (Goto t) rows rest h = h.rows_of
rows_are (Ret r) rows rest h = h.rows_of
rows_are (GetS k n) rows rest h = h.rows_of
rows_are (PutS k n) rows rest h = h.rows_of
rows_are (GetF k n) rows rest h = h.rows_of
rows_are (PutF k n) rows rest h = h.rows_of
rows_are (NewArr w n) rows rest h = h.rows_of
rows_are (Multi n d) rows rest h = h.rows_of
rows_are ALen rows rest h = h.rows_of
rows_are (ALoad x w) rows rest h = h.rows_of
rows_are (AStore x w) rows rest h = h.rows_of
rows_are (New n) rows rest h = h.rows_of
rows_are (Cast n) rows rest h = h.rows_of
rows_are (Inst n) rows rest h = h.rows_of
rows_are Throw rows rest h = h.rows_of
rows_are (CallS n) rows rest h = h.rows_of
rows_are (CallX n) rows rest h = h.rows_of
rows_are (CallV n) rows rest h = h.rows_of
rows_are (CallI n i) rows rest h = h.rows_of

-- no encoding is another, nor a prefix of another
pub encoding_is_injective : (a b : MInsn) (r s : List SwitchRow) (x y : List ℕ) → IsInsn a r → IsInsn b s → insn_bytes a r ++ x ≡ insn_bytes b s ++ y → (a ≡ b) × (r ≡ s)
encoding_is_injective a b r s x y h k e =
    let same : a ≡ b = (some_pair_parts a b (length (insn_bytes a r)) (length (insn_bytes b s)) (sym (insn_at-again a r x h) ∙ ap insn_at e ∙ insn_at-again b s y k)).0 in
    (same, rows_are a r x h ∙ ap (rows_at a) e ∙ ap (λ (i : MInsn). rows_at i (insn_bytes b s ++ y)) same ∙ sym (rows_are b s y k))
