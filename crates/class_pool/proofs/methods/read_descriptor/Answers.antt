use Rattle.std.proofs.Common.{Err, sym, ◌∙◌}
use Rattle.class_pool.specs.declared.descriptor.DescriptorRefusal.TheVariants.{BadDescriptor}
use Rattle.class_pool.specs.Descriptors.{IsMethodText}
use Rattle.class_pool.specs.DescriptorReading.{method_of}
use Rattle.class_pool.proofs.descriptors.Parameters.{method_taken, method_read}
use Rattle.class_pool.proofs.descriptors.Calls.{is_found, is_read, is_told, told_refused, is_refused}
use Rattle.class_pool.proofs.methods.read_descriptor.Goals as goal

pub returns-then-not-is_method_text-clause-only : goal.returns-then-not-is_method_text-clause-only
returns-then-not-is_method_text-clause-only c =
    let text = c.args.text.now in
    is_read (IsMethodText text) (Err BadDescriptor) (method_of text) (method_read text) (is_told (method_of text) (sym c.is_method_text.ensures ∙ c.if-not-is_method_text.true))

pub returns-then-not-is_method_text-clause-refused : goal.returns-then-not-is_method_text-clause-refused
returns-then-not-is_method_text-clause-refused c =
    let text = c.args.text.now in
    told_refused (IsMethodText text) (method_of text) (method_read text) (sym c.is_method_text.ensures ∙ c.if-not-is_method_text.true)

pub returns-then-not-is_method_text-clause-exact : goal.returns-then-not-is_method_text-clause-exact
returns-then-not-is_method_text-clause-exact c = is_told (method_of c.args.text.now) (sym c.is_method_text.ensures ∙ c.if-not-is_method_text.true)

pub returns-clause-found : goal.returns-clause-found
returns-clause-found c =
    let text = c.args.text.now in
    is_found (IsMethodText text) c.method_of.result (method_of text) (method_taken text) c.method_of.ensures

pub returns-clause-only : goal.returns-clause-only
returns-clause-only c =
    let text = c.args.text.now in
    is_read (IsMethodText text) c.method_of.result (method_of text) (method_read text) c.method_of.ensures

pub returns-clause-refused : goal.returns-clause-refused
returns-clause-refused c =
    let text = c.args.text.now in
    is_refused (IsMethodText text) c.method_of.result (method_of text) (method_taken text) (sym c.is_method_text.ensures ∙ c.if-not-is_method_text.false) c.method_of.ensures
