-- When no visit is left, the table is a closed set, so it has each depth that reaches an offset.
use Rattle.std.proofs.Common.{◌≡◌, ℕ, Bool, true, false, ◌&&◌, eqb, [], get_or, Option, Some, None, refl, ap, ◌∙◌, inl, inr}
use Rattle.std.proofs.lemmas.Bool.{false≢true}
use Rattle.std.proofs.lemmas.Bool.Decides.{Decides-eqb}
use Rattle.image_form.specs.declared.record.Image.{Image}
use Rattle.image_form.specs.declared.record.Method.{Method}
use Rattle.image_check.specs.declared.depth.Depth.{Depth as Stored}
use Rattle.image_check.specs.Visits.{Depth, depth, empty, IsSent, IsRight, IsClosed, moved_by, suffix, successors}
use Rattle.image_check.specs.Table.{Table, Has, stored}
use Rattle.image_check.specs.Flow.{IsDone, IsFlow}
use Rattle.image_check.proofs.Depths.{one_depth_at, same_pair}
use Rattle.image_check.proofs.Flowing.{more-all}
use Rattle.image_check.proofs.Reaching.{is_none}

-- whether it is the depth of so many references and cells
abbrev is_depth : Option Stored → ℕ → ℕ → Bool
is_depth None refs cells = false
is_depth (Some d) refs cells = eqb d.refs refs && eqb d.cells cells

abbrev in_table : Table → ℕ → ℕ → ℕ → Bool
in_table table pc refs cells = is_depth (get_or table pc None) refs cells

same_to : (m : ℕ) → eqb m m ≡ true
same_to m = (Decides-eqb m m).1 refl

both : (a b : Bool) → (a && b) ≡ true → (a ≡ true) × (b ≡ true)
both true b e = (refl, e)
both false b e = absurd (false≢true e)

to_depth : (o : Option Stored) (refs cells : ℕ) → is_depth o refs cells ≡ true → o ≡ Some (stored (depth refs cells))
to_depth None refs cells e = absurd (false≢true e)
to_depth (Some d) refs cells e =
    let parts = both (eqb d.refs refs) (eqb d.cells cells) e in
    ap (λ (d : Stored). Some d) (same_pair d.refs d.cells refs cells ((Decides-eqb d.refs refs).0 parts.0) ((Decides-eqb d.cells cells).0 parts.1))

from_depth : (table : Table) (pc : ℕ) (d : Depth) → Has table pc d → in_table table pc d.refs d.cells ≡ true
from_depth table pc d has =
    ap (λ (o : Option Stored). is_depth o d.refs d.cells) has ∙ ap (λ b. b && eqb d.cells d.cells) (same_to d.refs) ∙ same_to d.cells

module _ (image : Image) (method : Method) (table : Table) (flow : IsFlow image method table []) where
  is_done : (pc : ℕ) (d : Depth) → Has table pc d → IsDone image method table pc d
  is_done pc d has = elim (flow.done pc d has) [ inl wait ↦ absurd (is_none pc wait) | inr done ↦ done ]

  table-closed : IsClosed image method.code (in_table table)
  table-closed pc refs cells insn size holds found operands =
      let has = to_depth (get_or table pc None) refs cells holds in
      let next = suffix (moved_by image insn) (depth refs cells) in
      more-all (λ to. Has table to next) (λ to. in_table table to next.refs next.cells ≡ true) (λ to. from_depth table to next) (successors method.code pc insn size) ((is_done pc (depth refs cells) has).sends insn size found)

  all_there : (pc : ℕ) (d : Depth) → IsSent image method.code pc d → Has table pc d
  all_there pc d sent = to_depth (get_or table pc None) d.refs d.cells (sent (in_table table) (from_depth table 0 empty flow.first) table-closed)

  -- each depth that reaches an offset keeps the rule there
  pub all_right : (pc : ℕ) (d : Depth) → IsSent image method.code pc d → IsRight image method pc d
  all_right pc d sent = (is_done pc d (all_there pc d sent)).right

  -- and it is the only one
  pub all_one_depth : (pc : ℕ) (d e : Depth) → IsSent image method.code pc d → IsSent image method.code pc e → d ≡ e
  all_one_depth pc d e sent other = one_depth_at table pc d e (all_there pc d sent) (all_there pc e other)
