-- Rows that are written one by one.
use Rattle.std.proofs.Common.{◌≡◌, ℕ, ◌+◌, ◌<◌, List, ◌++◌, length, take, get_or, sym, ap, ◌∙◌}
use Rattle.std.specs.List.{flat_map}
use Rattle.std.proofs.lemmas.List.{take_more, flat_map_more}
use Rattle.image_instr.specs.declared.insn.SwitchRow.{SwitchRow}

-- one more row is written
pub written_more : (f : SwitchRow → List ℕ) (old : List ℕ) (rows : List SwitchRow) (i : ℕ) (d : SwitchRow) (now new : List ℕ) → i < length rows → now ≡ old ++ flat_map f (take i rows) → new ≡ now ++ f (get_or rows i d) → new ≡ old ++ flat_map f (take (i + 1) rows)
written_more f old rows i d now new lt before more =
    more ∙ ap (λ (t : List ℕ). t ++ f (get_or rows i d)) before ∙ flat_map_more f old (take i rows) (get_or rows i d)
    ∙ ap (λ (r : List SwitchRow). old ++ flat_map f r) (sym (take_more rows i d lt))
