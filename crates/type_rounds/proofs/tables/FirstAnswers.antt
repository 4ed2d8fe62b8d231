-- There is one failing pc and one least table; a round that fails leaves no right table, and a quiet one has the
-- least.
use Rattle.std.proofs.Common.{◌≡◌, ℕ, ◌<◌, ◌⊎◌, inl, inr, List, Option, Some, None, refl, sym, ap, subst, ◌∙◌, arith}
use Rattle.std.proofs.lemmas.Bool.{cases_lt}
use Rattle.std.proofs.lemmas.Option.{none-some}
use Rattle.class_file.specs.declared.record.ClassFile.{ClassFile}
use Rattle.class_tree.specs.Tree.{Gathers}
use Rattle.body_form.specs.declared.body.Body.{Body}
use Rattle.body_form.specs.declared.types.VFrame.{VFrame}
use Rattle.jvm_model.specs.TypesRight.{Table, IsRight, IsLeast}
use Rattle.jvm_model.specs.TypesRounds.{table_before, FailsAt}
use Rattle.type_rounds.specs.RoundLaws.{QuietIsLeast, FailingHasNoRight, OneFailing, OneLeast}
use Rattle.type_rounds.proofs.tables.Ordered.{IsOrdered}
use Rattle.type_rounds.proofs.tables.BelowRight.{never_fails}
use Rattle.type_rounds.proofs.tables.QuietTables.{least}

-- one number is below another, the same, or above
pub compared : (m n : ℕ) → (m < n) ⊎ ((m ≡ n) ⊎ (n < m))
compared m n = elim (cases_lt m n) [ inl less ↦ inl less | inr le ↦ elim (cases_lt n m) [ inl more ↦ inr (inr more) | inr ge ↦ inr (inl (omega (arith, le, ge))) ] ]

-- ---- one failing pc

pub one_failing : OneFailing
one_failing files body first second one two =
    let fails_at : ℕ → ℕ → Type 0 = λ round pc. FailsAt files body (table_before files body round) pc in
    elim (compared one.round two.round) [
      | inl less ↦ absurd (two.earlier one.round less first one.fails)
      | inr rest ↦ elim rest [
        | inr more ↦ absurd (one.earlier two.round more second two.fails)
        | inl same ↦ elim (compared first second) [
          | inl less ↦ absurd (two.lowest first less (subst (λ round. fails_at round first) same one.fails))
          | inr others ↦ elim others [
            | inl is ↦ is
            | inr more ↦ absurd (one.lowest second more (subst (λ round. fails_at round second) (sym same) two.fails))
          ]
        ]
      ]
    ]

-- ---- one least table

module _ (laws : IsOrdered) (files : List ClassFile) (gathers : Gathers files None) (body : Body) where
  -- each frame of one right table is at a pc where another one has a frame
  other_has : (first second : Table) → IsRight files body first → IsRight files body second → (pc : ℕ) (frame : VFrame) → first pc ≡ Some frame → (other : VFrame) × (second pc ≡ Some other)
  other_has first second one two pc frame e = let there = one.only pc frame e in two.reached pc there.0 there.1

  same_with : (first second : Table) → IsLeast files body first → IsLeast files body second → (pc : ℕ) (a b : Option VFrame) → first pc ≡ a → second pc ≡ b → a ≡ b
  same_with first second one two pc None None is also = refl
  same_with first second one two pc (Some frame) None is also = let (other, has) = other_has first second one.right two.right pc frame is in absurd (none-some other (sym also ∙ has))
  same_with first second one two pc None (Some frame) is also = let (other, has) = other_has second first two.right one.right pc frame also in absurd (none-some other (sym is ∙ has))
  same_with first second one two pc (Some frame) (Some other) is also =
      ap Some (laws.one_way files gathers frame other (one.right.known pc frame is) (two.right.known pc other also) (two.least first one.right pc other frame also is) (one.least second two.right pc frame other is also))

pub one_least : IsOrdered → OneLeast
one_least laws files gathers body first second one two pc = same_with laws files gathers body first second one two pc (first pc) (second pc) refl refl

-- ---- right tables

pub failing_has_no_right : IsOrdered → FailingHasNoRight
failing_has_no_right laws files gathers body of_set pc failing table is = never_fails laws files gathers body of_set table is failing.round pc failing.fails

pub quiet_is_least : IsOrdered → QuietIsLeast
quiet_is_least laws files gathers body of_set round quiet = least laws files gathers body of_set round quiet
