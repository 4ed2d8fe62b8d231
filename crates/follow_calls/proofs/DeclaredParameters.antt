-- The kinds of parameters are such as descriptors name: an array among them has a dimension.
use Rattle.std.proofs.Common.{◌≡◌, ℕ, Bool, List, [], ◌∷◌, Option, Some, None, option_and_then, subst}
use Rattle.std.specs.List.{AllByRecursion, Contains}
use Rattle.std.proofs.lemmas.Option.{none-some}
use Rattle.class_pool.specs.declared.descriptor.Descriptor.{Descriptor}
use Rattle.class_pool.specs.declared.descriptor.Kind.{Kind}
use Rattle.class_pool.specs.declared.types.MemberId.{MemberId}
use Rattle.class_pool.specs.DescriptorReading.{method_of}
use Rattle.class_pool.specs.Descriptors.{HasDims, IsKind}
use Rattle.class_pool.specs.Pool.{utf8_at}
use Rattle.class_pool.proofs.descriptors.Parameters.{method_taken}
use Rattle.class_file.specs.declared.record.ClassFile.{ClassFile}
use Rattle.body_form.specs.declared.body.Body.{Body}
use Rattle.body_form.specs.declared.op.MethodUse.{MethodUse}
use Rattle.jvm_model.specs.Bodies.{AreEach, AreBodies, Coded, IsBody, coded_methods}
use Rattle.type_safety.specs.Facts.{RunsBody}
use Rattle.type_safety.proofs.fitting.EachLists.{of_each}
use Rattle.match_states.specs.Setting.{Setting}
use Rattle.match_code.proofs.MatchedCode.{found_body}

abbrev pub HaveDims : List Kind → Type 0
HaveDims params = AllByRecursion HasDims params

-- those of the parameters of each body are
abbrev pub AreDeclared : Setting → Type 0
AreDeclared setting = (body : Body) → Contains setting.world.bodies body → HaveDims body.params

-- a method that is called takes the parameters of its body
pub params_declared : (setting : Setting) → AreDeclared setting → (id : MemberId) (used : MethodUse) (on_object : Bool) → RunsBody setting.world id used on_object → HaveDims used.descriptor.params
params_declared setting declared id used on_object run = subst HaveDims run.params (declared run.body (found_body setting.world.bodies id run.body run.found).of_set)

-- ---- bodies whose methods are read of files

all_dims : (params : List Kind) → AllByRecursion IsKind params → HaveDims params
all_dims [] all = tt
all_dims (k ∷ params) all = (all.0.0, all_dims params all.1)

read_dims : (text : Option (List ℕ)) (type : Descriptor) → option_and_then method_of text ≡ Some type → HaveDims type.params
read_dims None type is = absurd (none-some type is)
read_dims (Some text) type is = all_dims type.params (method_taken text type is).0.params

each_dims : (files : List ClassFile) (coded : List Coded) (bodies : List Body) → AreEach (IsBody files) coded bodies → AllByRecursion (λ (body : Body). HaveDims body.params) bodies
each_dims files [] [] each = tt
each_dims files [] (body ∷ bodies) each = absurd each
each_dims files (coded ∷ all) [] each = absurd each
each_dims files (coded ∷ all) (body ∷ bodies) each =
    (read_dims (utf8_at coded.file.pool coded.method.descriptor) (record { params = body.params; result = body.result }) each.0.type, each_dims files all bodies each.1)

pub bodies_declared : (setting : Setting) → AreBodies setting.world.files setting.world.bodies → AreDeclared setting
bodies_declared setting bodies body among =
    of_each (λ (body : Body). HaveDims body.params) setting.world.bodies body (each_dims setting.world.files (coded_methods setting.world.files) setting.world.bodies bodies) among
