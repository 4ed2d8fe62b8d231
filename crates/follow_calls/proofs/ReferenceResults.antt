-- A result that is a reference is read as it is behind its call.
use Rattle.std.proofs.Common.{◌≡◌, true, List, [], refl}
use Rattle.class_pool.specs.declared.descriptor.Kind.{Kind as DeclaredKind}
use Rattle.class_pool.specs.declared.descriptor.Kind.TheVariants as declared
use Rattle.class_file.specs.declared.record.ClassFile.{ClassFile}
use Rattle.image_instr.specs.declared.insn.Kind.{Kind}
use Rattle.insn_form.specs.declared.ValueKind.TheVariants as value_kind
use Rattle.body_form.specs.declared.types.VType.{VType}
use Rattle.body_form.specs.declared.types.VType.TheVariants as known
use Rattle.jvm_model.specs.ImageExpansion.{read_as}
use Rattle.jvm_model.specs.TypesFrames.{fits_kind}
use Rattle.jvm_model.specs.TypesRules.{has_kind}

-- no reference fits a whole number
no_int : (files : List ClassFile) (type : VType) → has_kind value_kind.Ref type ≡ true → fits_kind files declared.Int type ≡ true → ⊥
no_int files known.Int has fits = cc
no_int files type has fits = cc

pub reference_read : (files : List ClassFile) (result : DeclaredKind) (type : VType) (shape : Kind) → has_kind value_kind.Ref type ≡ true → fits_kind files result type ≡ true → read_as result shape ≡ []
reference_read files declared.Int type shape has fits = absurd (no_int files type has fits)
reference_read files declared.Char type shape has fits = absurd (no_int files type has fits)
reference_read files declared.Boolean type shape has fits = absurd (no_int files type has fits)
reference_read files declared.Byte type shape has fits = absurd (no_int files type has fits)
reference_read files declared.Short type shape has fits = absurd (no_int files type has fits)
reference_read files kind type shape has fits = refl
