-- The phase of types has one answer for each set.
use Rattle.std.proofs.Common.{◌⊎◌, inl, inr, ℕ, suc, List, [], ◌∷◌, Option, Some, None, refl, sym, ap, ◌∙◌, subst}
use Rattle.std.specs.List.{AllByRecursion}
use Rattle.std.proofs.lemmas.Option.{none-some}
use Rattle.class_file.specs.declared.record.ClassFile.{ClassFile}
use Rattle.class_tree.specs.Tree.{Gathers}
use Rattle.class_tree.specs.declared.refusal.TreeRefusal.{TreeRefusal}
use Rattle.class_tree.proofs.OneAnswer.{gathers_total, gathers_unique}
use Rattle.body_form.specs.declared.body.Body.{Body}
use Rattle.jvm_model.specs.declared.refusal.Refusal.{Refusal}
use Rattle.jvm_model.specs.FirstOf.{FirstOf}
use Rattle.jvm_model.specs.ClosedSet.{records_of}
use Rattle.jvm_model.specs.Bodies.{Coded, IsBody, coded_methods}
use Rattle.jvm_model.specs.TypesNames.{IsOfSet}
use Rattle.jvm_model.specs.TypesRounds.{IsFailing, table_before}
use Rattle.jvm_model.specs.Verification.{unverified_at, BodyTypes, MethodTypes, HasBody, HasNone, Typing, IsClosed, IsOpen, Verification}
use Rattle.jvm_model.proofs.bodies.BodyNames.{of_set}
use Rattle.jvm_model.proofs.phases.Decisions.{Decided}
use Rattle.jvm_model.proofs.phases.FirstAnswers.{IsOne, IsSome, one_there, some_there}
use Rattle.jvm_model.proofs.bodies.OneBody.{one_body, some_body}
use Rattle.type_rounds.specs.RoundLaws.{at_instructions, IsQuiet, QuietIsLeast, FailingHasNoRight, RoundsEnd, OneFailing}
use Rattle.set_laws.proofs.CodedMethods.{StandsIn, methods_stand}

-- ---- the first of many, of which something is known

module _ {X : Type 0} (P : X → Type 0) (Has : ℕ → X → Option Refusal → Type 0) where
  some_of : ((place : ℕ) (x : X) → P x → IsSome (Has place x)) → (place : ℕ) (xs : List X) → AllByRecursion P xs → IsSome (FirstOf Has place xs)
  some_of each place [] all = (None, tt)
  some_of each place (x ∷ xs) all = by_head (each place x all.0) (some_of each (suc place) xs all.1)
    where
      by_head : IsSome (Has place x) → IsSome (FirstOf Has (suc place) xs) → IsSome (FirstOf Has place (x ∷ xs))
      by_head (Some why, has) more = (Some why, inl has)
      by_head (None, none) (None, rest) = (None, (none, rest))
      by_head (None, none) (Some why, rest) = (Some why, inr (none, rest))

  one_of : ((place : ℕ) (x : X) → P x → IsOne (Has place x)) → (place : ℕ) (xs : List X) → AllByRecursion P xs → IsOne (FirstOf Has place xs)
  one_of one place [] all None None p q = refl
  one_of one place [] all None (Some b) p q = absurd q
  one_of one place [] all (Some a) b p q = absurd p
  one_of one place (x ∷ xs) all None None p q = refl
  one_of one place (x ∷ xs) all None (Some b) p (inl q) = one place x all.0 None (Some b) p.0 q
  one_of one place (x ∷ xs) all None (Some b) p (inr q) = one_of one (suc place) xs all.1 None (Some b) p.1 q.1
  one_of one place (x ∷ xs) all (Some a) None (inl p) q = one place x all.0 (Some a) None p q.0
  one_of one place (x ∷ xs) all (Some a) None (inr p) q = one_of one (suc place) xs all.1 (Some a) None p.1 q.1
  one_of one place (x ∷ xs) all (Some a) (Some b) (inl p) (inl q) = one place x all.0 (Some a) (Some b) p q
  one_of one place (x ∷ xs) all (Some a) (Some b) (inl p) (inr q) = absurd (none-some a (sym (one place x all.0 (Some a) None p q.0)))
  one_of one place (x ∷ xs) all (Some a) (Some b) (inr p) (inl q) = absurd (none-some b (one place x all.0 None (Some b) p.0 q))
  one_of one place (x ∷ xs) all (Some a) (Some b) (inr p) (inr q) = one_of one (suc place) xs all.1 (Some a) (Some b) p.1 q.1

-- ---- closed sets

decide_closed : (files : List ClassFile) → Decided (Gathers files None)
decide_closed files = by_answer (gathers_total files)
  where
    by_answer : (found : Option TreeRefusal) × Gathers files found → Decided (Gathers files None)
    by_answer (None, is) = inl is
    by_answer (Some why, is) = inr (λ none. none-some why (gathers_unique files None (Some why) none is))

-- what rounds find
module _ (quiet : QuietIsLeast) (failing : FailingHasNoRight) (ends : RoundsEnd) (one_failing : OneFailing) where
  -- ---- one body

  module _ (files : List ClassFile) (closed : Gathers files None) (body : Body) (is : IsOfSet files body) where
    some_types : IsSome (BodyTypes files body)
    some_types = by_end (ends files closed body is)
      where
        by_end : ((pc : ℕ) × IsFailing files body pc) ⊎ ((round : ℕ) × IsQuiet files body round) → IsSome (BodyTypes files body)
        by_end (inl (pc, fails)) = (Some (unverified_at body.class body.method pc), (pc, fails, refl))
        by_end (inr (round, rests)) = (None, (at_instructions body (table_before files body round), (quiet files closed body is round rests).right))

    one_types : IsOne (BodyTypes files body)
    one_types None None p q = refl
    one_types None (Some b) p q = absurd (failing files closed body is q.0 q.1 p.0 p.1)
    one_types (Some a) None p q = absurd (failing files closed body is p.0 p.1 q.0 q.1)
    one_types (Some a) (Some b) p q = ap (λ (w : Refusal). Some w) (p.2 ∙ ap (unverified_at body.class body.method) (one_failing files body p.0 q.0 p.1 q.1) ∙ sym q.2)

  -- ---- one method

  module _ (files : List ClassFile) (closed : Gathers files None) (coded : Coded) (stands : StandsIn files coded) where
    in_set : (body : Body) → IsBody files coded body → IsOfSet files body
    in_set body is = of_set files coded body stands.class stands.rise is

    some_method : IsSome (MethodTypes files coded)
    some_method = by_body (some_body files coded)
      where
        by_types : (body : Body) → IsBody files coded body → IsSome (BodyTypes files body) → IsSome (MethodTypes files coded)
        by_types body is (found, types) = (found, HasBody body is types)

        by_body : Decided ((body : Body) × IsBody files coded body) → IsSome (MethodTypes files coded)
        by_body (inl (body, is)) = by_types body is (some_types files closed body (in_set body is))
        by_body (inr none) = (None, HasNone (λ body is. none (body, is)) refl)

    one_method : IsOne (MethodTypes files coded)
    one_method a b (HasBody body is types) (HasBody other also found) =
        one_types files closed body (in_set body is) a b types (subst (λ (x : Body). BodyTypes files x b) (one_body files coded other body also is) found)
    one_method a b (HasBody body is types) (HasNone none e) = absurd (none body is)
    one_method a b (HasNone none e) (HasBody body is types) = absurd (none body is)
    one_method a b (HasNone none e) (HasNone other same) = e ∙ sym same

  -- ---- the phase

  some_typing : (files : List ClassFile) → IsSome (Typing files)
  some_typing files = by_set (decide_closed files)
    where
      by_first : Gathers files None → IsSome (FirstOf (λ position. MethodTypes files) 0 (coded_methods files)) → IsSome (Typing files)
      by_first closed (found, first) = (found, IsClosed closed first)

      by_set : Decided (Gathers files None) → IsSome (Typing files)
      by_set (inl closed) = by_first closed (some_of (StandsIn files) (λ position. MethodTypes files) (λ place coded stands. some_method files closed coded stands) 0 (coded_methods files) (methods_stand files))
      by_set (inr none) = (None, IsOpen none refl)

  one_typing : (files : List ClassFile) → IsOne (Typing files)
  one_typing files a b (IsClosed closed p) (IsClosed also q) = one_of (StandsIn files) (λ position. MethodTypes files) (λ place coded stands. one_method files closed coded stands) 0 (coded_methods files) (methods_stand files) a b p q
  one_typing files a b (IsClosed closed p) (IsOpen none e) = absurd (none closed)
  one_typing files a b (IsOpen none e) (IsClosed closed q) = absurd (none closed)
  one_typing files a b (IsOpen none e) (IsOpen other same) = e ∙ sym same

  pub verification_total : (files : List (List ℕ)) → IsSome (Verification files)
  verification_total files = some_there Typing some_typing (records_of files)

  pub verification_unique : (files : List (List ℕ)) → IsOne (Verification files)
  verification_unique files = one_there Typing one_typing (records_of files)
