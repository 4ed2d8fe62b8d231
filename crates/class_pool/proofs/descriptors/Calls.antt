-- What a call answers, where reading gives each value for its texts and no other.
use Rattle.std.proofs.Common.{◌≡◌, ◌↔◌, true, false, Option, Some, None, is_some, Result, Ok, Err, refl, sym, subst, ◌∙◌}
use Rattle.std.specs.Prelude.{IfOk}
use Rattle.class_pool.specs.declared.descriptor.DescriptorRefusal.{DescriptorRefusal}
use Rattle.class_pool.specs.declared.descriptor.DescriptorRefusal.TheVariants.{BadDescriptor, Memory}
use Rattle.class_pool.specs.DescriptorReading.{Answers}
use Rattle.class_pool.proofs.descriptors.ClassNames.{no_some}

abbrev failed : {X : Type 0} → DescriptorRefusal → Result X DescriptorRefusal
failed why = Err why

pub is_found : {X : Type 0} (P : X → Type 0) (result : Result X DescriptorRefusal) (read : Option X) → ((x : X) → read ≡ Some x → P x) → Answers result read → IfOk result P
is_found P (Ok x) read taken e = taken x e
is_found P (Err why) read taken e = tt

pub is_read : {X : Type 0} (P : X → Type 0) (result : Result X DescriptorRefusal) (read : Option X) → ((x : X) → P x → read ≡ Some x) → Answers result read → (x : X) → P x → Answers result (Some x)
is_read P result read again e x is = subst (Answers result) (again x is) e

nothing_read : {X : Type 0} (read : Option X) → is_some read ≡ false → read ≡ None
nothing_read None e = refl
nothing_read (Some x) e = absurd cc

-- where nothing was read, the text is that of nothing
nothing_is : {X : Type 0} (P : X → Type 0) (read : Option X) → ((x : X) → P x → read ≡ Some x) → read ≡ None → (x : X) → P x → ⊥
nothing_is P read again none x is = no_some x (sym none ∙ again x is)

-- a text that is told to be none is answered as one
pub is_told : {X : Type 0} (read : Option X) → is_some read ≡ false → Answers (Err BadDescriptor) read
is_told read e = nothing_read read e

pub told_refused : {X : Type 0} (P : X → Type 0) (read : Option X) → ((x : X) → P x → read ≡ Some x) → is_some read ≡ false → (failed {X = X} BadDescriptor ≡ Err BadDescriptor) ↔ ((x : X) → P x → ⊥)
told_refused P read again e = (λ same. nothing_is P read again (nothing_read read e), λ none. refl)

-- a text that is told to be one is refused for nothing but want of memory
pub is_refused : {X : Type 0} (P : X → Type 0) (result : Result X DescriptorRefusal) (read : Option X) → ((x : X) → read ≡ Some x → P x) → is_some read ≡ true → Answers result read
    → (result ≡ Err BadDescriptor) ↔ ((x : X) → P x → ⊥)
is_refused P result None taken some e = absurd cc
is_refused P (Ok y) (Some x) taken some e = (λ same. absurd cc, λ none. absurd (none x (taken x refl)))
is_refused P (Err BadDescriptor) (Some x) taken some e = absurd (no_some x (sym e))
is_refused P (Err Memory) (Some x) taken some e = (λ same. absurd cc, λ none. absurd (none x (taken x refl)))
