-- A set has one refusal of its classes and its entry, or none.
use Rattle.std.proofs.Common.{◌≡◌, inl, inr, List, Some, None, sym, ◌∙◌}
use Rattle.std.proofs.lemmas.Option.{none-some, same_Some}
use Rattle.class_file.specs.declared.record.ClassFile.{ClassFile}
use Rattle.body_make.specs.Names.{IsUnlinked}
use Rattle.jvm_model.specs.declared.refusal.Refusal.{Refusal}
use Rattle.jvm_model.specs.Linking.{Linking}
use Rattle.jvm_model.specs.Entry.{entry_refusal}
use Rattle.jvm_model.proofs.phases.OneLinking.{linking_unique}

module _ (files : List ClassFile) where
  not_both : (why : Refusal) → Linking files None → Linking files (Some why) → ⊥
  not_both why none has = none-some why (linking_unique files None (Some why) none has)

  pub one_refusal : (a b : Refusal) → IsUnlinked files a → IsUnlinked files b → a ≡ b
  one_refusal a b (inl p) (inl q) = same_Some a b (linking_unique files (Some a) (Some b) p q)
  one_refusal a b (inl p) (inr q) = absurd (not_both a q.0 p)
  one_refusal a b (inr p) (inl q) = absurd (not_both b p.0 q)
  one_refusal a b (inr p) (inr q) = same_Some a b (sym p.1 ∙ q.1)

  pub no_refusal : (why : Refusal) → Linking files None → entry_refusal files ≡ None → IsUnlinked files why → ⊥
  no_refusal why none entry (inl p) = not_both why none p
  no_refusal why none entry (inr p) = none-some why (sym entry ∙ p.1)
