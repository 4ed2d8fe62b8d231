-- Depths in the table.
use Rattle.std.proofs.Common.{◌≡◌, ℕ, zero, suc, ◌+◌, ◌<◌, Bool, true, false, ◌&&◌, eqb, List, [], ◌∷◌, length, get_or, set, Some, None, MatchBool, refl, sym, ap, ◌∙◌, arith, inl}
use Rattle.std.proofs.lemmas.Bool.{false≢true}
use Rattle.std.proofs.lemmas.Bool.Decides.{Decides-eqb}
use Rattle.std.proofs.lemmas.Option.{same_Some}
use Rattle.image_check.specs.declared.depth.Depth.{Depth as Stored}
use Rattle.image_check.specs.Visits.{Depth}
use Rattle.image_check.specs.Table.{Table, Has, as_depth, stored, unset}
use Rattle.image_check.specs.Flow.{IsEntered, HasOther}

both : (a b : Bool) → true ≡ (a && b) → (a ≡ true) × (b ≡ true)
both true b e = (refl, sym e)
both false b e = absurd (false≢true (sym e))

neither : (a b : Bool) → false ≡ (a && b) → a ≡ true → b ≡ true → ⊥
neither true b e h k = false≢true (e ∙ k)
neither false b e h k = false≢true h

abbrev pub pair : ℕ → ℕ → Stored
pair refs cells = record { refs = refs; cells = cells }

pub same_pair : (a b c d : ℕ) → a ≡ c → b ≡ d → pair a b ≡ pair c d
same_pair a b c d e f = cc

-- the depth that is there is compared
pub compared : (b : Bool) (table : Table) (work : List ℕ) (to : ℕ) (other d : Stored) → b ≡ (eqb other.refs d.refs && eqb other.cells d.cells) → get_or table to None ≡ Some other → MatchBool b (IsEntered table work to (as_depth d) table work) (HasOther table to (as_depth d))
compared true table work to other d e has =
    let parts = both (eqb other.refs d.refs) (eqb other.cells d.cells) e in
    let same = same_pair other.refs other.cells d.refs d.cells ((Decides-eqb other.refs d.refs).0 parts.0) ((Decides-eqb other.cells d.cells).0 parts.1) in
    inl (has ∙ ap (λ (d : Stored). Some d) same, refl, refl)
compared false table work to other d e has = (
  as_depth other,
  has,
  λ same.
      neither (eqb other.refs d.refs) (eqb other.cells d.cells) e
      ((Decides-eqb other.refs d.refs).1 (ap (λ (d : Depth). d.refs) same))
      ((Decides-eqb other.cells d.cells).1 (ap (λ (d : Depth). d.cells) same)),
)

-- an offset has one depth
pub one_depth_at : (table : Table) (pc : ℕ) (d e : Depth) → Has table pc d → Has table pc e → d ≡ e
one_depth_at table pc d e h k =
    let same = same_Some (stored d) (stored e) (sym h ∙ k) in
    ap as_depth same

-- ---- how many are left

pub unset-set : (table : Table) (to : ℕ) (d : Stored) → to < length table → get_or table to None ≡ None → unset (set table to (Some d)) + 1 ≡ unset table
unset-set [] to d lt none = absurd (omega arith)
unset-set (None ∷ table) zero d lt none = omega arith
unset-set (None ∷ table) (suc to) d lt none = omega (arith, unset-set table to d (omega arith) none)
unset-set (Some x ∷ table) zero d lt none = absurd cc
unset-set (Some x ∷ table) (suc to) d lt none = unset-set table to d (omega arith) none
