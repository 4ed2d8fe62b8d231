-- A text that is no descriptor is refused as one, whatever memory there is.
use Rattle.std.proofs.Common.{◌≡◌, ◌↔◌, ℕ, List, None, Result, Err, sym, ◌∙◌}
use Rattle.class_pool.specs.declared.descriptor.Kind.{Kind}
use Rattle.class_pool.specs.declared.descriptor.Descriptor.{Descriptor}
use Rattle.class_pool.specs.declared.descriptor.DescriptorRefusal.{DescriptorRefusal}
use Rattle.class_pool.specs.declared.descriptor.DescriptorRefusal.TheVariants.{BadDescriptor}
use Rattle.class_pool.specs.Descriptors.{IsFieldText, IsMethodText}
use Rattle.class_pool.specs.DescriptorReading.{field_of, method_of}
use Rattle.class_pool.proofs.descriptors.ClassNames.{no_some}
use Rattle.class_pool.proofs.descriptors.FieldTypes.{field_read}
use Rattle.class_pool.proofs.descriptors.Parameters.{method_read}

pub no_field : (text : List ℕ) → field_of text ≡ None → (type : Kind) → IsFieldText text type → ⊥
no_field text none type is = no_some type (sym none ∙ field_read text type is)

pub no_method : (text : List ℕ) → method_of text ≡ None → (type : Descriptor) → IsMethodText text type → ⊥
no_method text none type is = no_some type (sym none ∙ method_read text type is)

pub field_none : (text : List ℕ) (result : Result Kind DescriptorRefusal) → (result ≡ Err BadDescriptor) ↔ ((type : Kind) → IsFieldText text type → ⊥) → field_of text ≡ None → result ≡ Err BadDescriptor
field_none text result refused none = refused.1 (no_field text none)

pub method_none : (text : List ℕ) (result : Result Descriptor DescriptorRefusal) → (result ≡ Err BadDescriptor) ↔ ((type : Descriptor) → IsMethodText text type → ⊥) → method_of text ≡ None → result ≡ Err BadDescriptor
method_none text result refused none = refused.1 (no_method text none)
