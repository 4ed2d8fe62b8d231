-- The phase of closed sets has one answer for each set.
use Rattle.std.proofs.Common.{◌≡◌, ℕ, List, Option, Some, None, refl, sym, ap, ◌∙◌}
use Rattle.std.proofs.lemmas.Option.{none-some, same_Some}
use Rattle.class_file.specs.declared.record.ClassFile.{ClassFile}
use Rattle.class_tree.specs.declared.refusal.TreeRefusal.{TreeRefusal}
use Rattle.class_tree.specs.Tree.{Gathers}
use Rattle.class_tree.proofs.OneAnswer.{gathers_total, gathers_unique}
use Rattle.jvm_model.specs.declared.refusal.Refusal.{Refusal}
use Rattle.jvm_model.specs.FirstOf.{IfThere}
use Rattle.jvm_model.specs.ClosedSet.{records_of, refusal_of_tree, ClosedClasses, ClosedSet}

classes_total : (classes : List ClassFile) → (found : Option Refusal) × ClosedClasses classes found
classes_total classes = by_answer (gathers_total classes)
  where
    by_answer : (found : Option TreeRefusal) × Gathers classes found → (found : Option Refusal) × ClosedClasses classes found
    by_answer (None, none) = (None, none)
    by_answer (Some why, has) = (Some (refusal_of_tree why), (why, has, refl))

classes_unique : (classes : List ClassFile) (a b : Option Refusal) → ClosedClasses classes a → ClosedClasses classes b → a ≡ b
classes_unique classes None None p q = refl
classes_unique classes None (Some b) p (why, has, is) = absurd (none-some why (gathers_unique classes None (Some why) p has))
classes_unique classes (Some a) None (why, has, is) q = absurd (none-some why (gathers_unique classes None (Some why) q has))
classes_unique classes (Some a) (Some b) (why, has, is) (other, also, same) =
    ap (λ (r : Refusal). Some r) (is ∙ ap refusal_of_tree (same_Some why other (gathers_unique classes (Some why) (Some other) has also)) ∙ sym same)

there_total : (o : Option (List ClassFile)) → (found : Option Refusal) × IfThere ClosedClasses o found
there_total None = (None, refl)
there_total (Some classes) = classes_total classes

there_unique : (o : Option (List ClassFile)) (a b : Option Refusal) → IfThere ClosedClasses o a → IfThere ClosedClasses o b → a ≡ b
there_unique None a b p q = p ∙ sym q
there_unique (Some classes) a b p q = classes_unique classes a b p q

pub closed_total : (files : List (List ℕ)) → (found : Option Refusal) × ClosedSet files found
closed_total files = there_total (records_of files)

pub closed_unique : (files : List (List ℕ)) (a b : Option Refusal) → ClosedSet files a → ClosedSet files b → a ≡ b
closed_unique files = there_unique (records_of files)
