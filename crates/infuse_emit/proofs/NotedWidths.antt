-- The widths of locals, noted one after another.
use Rattle.std.proofs.Common.{◌≡◌, ℕ, ◌+◌, ◌<◌, ◌≤◌, Bool, true, false, ◌||◌, List, length, get_or, drop, refl, sym, ap, ◌∙◌}
use Rattle.std.specs.List.{list_any}
use Rattle.std.proofs.lemmas.List.{drop_more, drop_all}
use Rattle.image_instr.specs.declared.insn.Width.{Width}
use Rattle.infuse_emit.specs.Parts.{one_where}

both : (here rest : Bool) (width : Width) → one_where rest (one_where here width) ≡ one_where (here || rest) width
both true true width = refl
both true false width = refl
both false true width = refl
both false false width = refl

module _ {X : Type 0} where
  -- one more item
  pub noted : (passes : X → Bool) (items : List X) (i : ℕ) (d : X) (now after : Width) → i < length items → after ≡ one_where (passes (get_or items i d)) now
      → one_where (list_any passes (drop (i + 1) items)) after ≡ one_where (list_any passes (drop i items)) now
  noted passes items i d now after lt e =
      ap (one_where (list_any passes (drop (i + 1) items))) e
      ∙ both (passes (get_or items i d)) (list_any passes (drop (i + 1) items)) now
      ∙ sym (ap (λ l. one_where (list_any passes l) now) (drop_more items i d lt))

  -- no item is left
  pub noted_all : (passes : X → Bool) (items : List X) (i : ℕ) (now : Width) → length items ≤ i → one_where (list_any passes (drop i items)) now ≡ now
  noted_all passes items i now le = ap (λ l. one_where (list_any passes l) now) (drop_all i items le)
