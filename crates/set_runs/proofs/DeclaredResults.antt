-- The type that a body returns is such as descriptors name: an array has a dimension.
use Rattle.std.proofs.Common.{◌≡◌, ℕ, List, [], ◌∷◌, Option, Some, None, option_and_then, subst}
use Rattle.std.specs.List.{AllByRecursion, Contains}
use Rattle.std.proofs.lemmas.Option.{none-some, same_Some}
use Rattle.class_pool.specs.declared.descriptor.Descriptor.{Descriptor}
use Rattle.class_pool.specs.declared.descriptor.Kind.{Kind}
use Rattle.class_pool.specs.DescriptorReading.{method_of}
use Rattle.class_pool.specs.Descriptors.{HasDims, IsResult}
use Rattle.class_pool.specs.Pool.{utf8_at}
use Rattle.class_pool.proofs.descriptors.Parameters.{method_taken}
use Rattle.class_file.specs.declared.record.ClassFile.{ClassFile}
use Rattle.body_form.specs.declared.body.Body.{Body}
use Rattle.jvm_model.specs.Bodies.{AreBodies, AreEach, Coded, IsBody, coded_methods}
use Rattle.type_safety.proofs.fitting.SetLists.{all_contained}
use Rattle.follow_calls.proofs.CutResults.{ResultHasDims}

result_dims : (result : Option Kind) → IsResult result → (kind : Kind) → result ≡ Some kind → HasDims kind
result_dims None is kind e = absurd (none-some kind e)
result_dims (Some of) is kind e = subst HasDims (same_Some of kind e) is.0

read_dims : (text : Option (List ℕ)) (type : Descriptor) → option_and_then method_of text ≡ Some type → (kind : Kind) → type.result ≡ Some kind → HasDims kind
read_dims None type is = absurd (none-some type is)
read_dims (Some text) type is = result_dims type.result (method_taken text type is).0.result

each_dims : (files : List ClassFile) (coded : List Coded) (bodies : List Body) → AreEach (IsBody files) coded bodies → AllByRecursion ResultHasDims bodies
each_dims files [] [] each = tt
each_dims files [] (body ∷ bodies) each = absurd each
each_dims files (coded ∷ all) [] each = absurd each
each_dims files (coded ∷ all) (body ∷ bodies) each =
    (read_dims (utf8_at coded.file.pool coded.method.descriptor) (record { params = body.params; result = body.result }) each.0.type, each_dims files all bodies each.1)

pub results_declared : (files : List ClassFile) (bodies : List Body) → AreBodies files bodies → (body : Body) → Contains bodies body → ResultHasDims body
results_declared files bodies are body among = all_contained ResultHasDims bodies (each_dims files (coded_methods files) bodies are) body among
