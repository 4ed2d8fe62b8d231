use Rattle.std.proofs.Common.{Err, sym, ◌∙◌}
use Rattle.class_pool.specs.declared.descriptor.DescriptorRefusal.TheVariants.{BadDescriptor}
use Rattle.class_pool.specs.Descriptors.{IsFieldText}
use Rattle.class_pool.specs.DescriptorReading.{field_of}
use Rattle.class_pool.proofs.descriptors.FieldTypes.{field_taken, field_read}
use Rattle.class_pool.proofs.descriptors.Calls.{is_found, is_read, is_told, told_refused, is_refused}
use Rattle.class_pool.proofs.kinds.read_field_descriptor.Goals as goal

pub returns-then-not-is_field_text-clause-only : goal.returns-then-not-is_field_text-clause-only
returns-then-not-is_field_text-clause-only c =
    let text = c.args.text.now in
    is_read (IsFieldText text) (Err BadDescriptor) (field_of text) (field_read text) (is_told (field_of text) (sym c.is_field_text.ensures ∙ c.if-not-is_field_text.true))

pub returns-then-not-is_field_text-clause-refused : goal.returns-then-not-is_field_text-clause-refused
returns-then-not-is_field_text-clause-refused c =
    let text = c.args.text.now in
    told_refused (IsFieldText text) (field_of text) (field_read text) (sym c.is_field_text.ensures ∙ c.if-not-is_field_text.true)

pub returns-then-not-is_field_text-clause-exact : goal.returns-then-not-is_field_text-clause-exact
returns-then-not-is_field_text-clause-exact c = is_told (field_of c.args.text.now) (sym c.is_field_text.ensures ∙ c.if-not-is_field_text.true)

pub returns-clause-found : goal.returns-clause-found
returns-clause-found c =
    let text = c.args.text.now in
    is_found (IsFieldText text) c.field_of.result (field_of text) (field_taken text) c.field_of.ensures

pub returns-clause-only : goal.returns-clause-only
returns-clause-only c =
    let text = c.args.text.now in
    is_read (IsFieldText text) c.field_of.result (field_of text) (field_read text) c.field_of.ensures

pub returns-clause-refused : goal.returns-clause-refused
returns-clause-refused c =
    let text = c.args.text.now in
    is_refused (IsFieldText text) c.field_of.result (field_of text) (field_taken text) (sym c.is_field_text.ensures ∙ c.if-not-is_field_text.false) c.field_of.ensures
