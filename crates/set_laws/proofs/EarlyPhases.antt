-- Each phase up to that of types has one answer for each set.
use Rattle.std.proofs.Common.{◌≡◌, ℕ, List, [], ◌∷◌, Option, refl, sym, ◌∙◌}
use Rattle.jvm_model.specs.declared.refusal.Refusal.{Refusal}
use Rattle.jvm_model.specs.Phases.{size_refusal, first_refusal, reading_refusal, code_refusal, SetSize, Reading, MethodCode}
use Rattle.jvm_model.specs.ClosedSet.{ClosedSet}
use Rattle.jvm_model.specs.Linking.{Members}
use Rattle.jvm_model.specs.Entry.{EntryPoint}
use Rattle.jvm_model.specs.Verification.{Verification}
use Rattle.jvm_model.specs.Verdict.{IsFunction, AreFunctions}
use Rattle.jvm_model.proofs.phases.ClosedSets.{closed_total, closed_unique}
use Rattle.jvm_model.proofs.phases.OneLinking.{members_total, members_unique, entry_total, entry_unique}
use Rattle.type_rounds.proofs.Rounds.{quiet_is_least, failing_has_no_right, rounds_end, one_failing}
use Rattle.set_laws.proofs.TypedSets.{verification_total, verification_unique}

-- ---- the phases that are functions of the files

abbrev Answer : Type 0
Answer = List (List ℕ) → Option Refusal

is_function : (answer : Answer) → IsFunction (λ files found. answer files ≡ found)
is_function answer = record { total = λ files bytes. (answer files, refl); unique = λ files a b p q. sym p ∙ q }

-- ---- closed sets

closed_function : IsFunction ClosedSet
closed_function = record { total = λ files bytes. closed_total files; unique = closed_unique }

-- ---- members and the entry

members_function : IsFunction Members
members_function = record { total = λ files bytes. members_total files; unique = members_unique }

entry_function : IsFunction EntryPoint
entry_function = record { total = λ files bytes. entry_total files; unique = entry_unique }

-- ---- types

verification_function : IsFunction Verification
verification_function = record { total = λ files bytes. verification_total quiet_is_least failing_has_no_right rounds_end one_failing files; unique = verification_unique quiet_is_least failing_has_no_right rounds_end one_failing }

-- ---- all of them

pub early_phase_functions : AreFunctions (SetSize ∷ Reading ∷ MethodCode ∷ ClosedSet ∷ Members ∷ EntryPoint ∷ Verification ∷ [])
early_phase_functions = (
  is_function size_refusal,
  (
    is_function (first_refusal reading_refusal 0),
    (
      is_function (first_refusal code_refusal 0),
      (
        closed_function,
        (
          members_function,
          (
            entry_function,
            (
              verification_function,
              tt,
            ),
          ),
        ),
      ),
    ),
  ),
)
