-- What fits a type that is no array: an interface takes every reference.
use Rattle.std.proofs.Common.{◌≡◌, true, false, sym, ◌∙◌}
use Rattle.class_file.specs.Rules.{is_interface}
use Rattle.class_tree.specs.Set.{flags_of}
use Rattle.flow_kinds.proofs.KindCases.{fits_interface, fits_by_class, fits_primitive}
use Rattle.flow_kinds.proofs.fit.fits_no_array.Goals as goal

pub returns-then-is_interface : goal.returns-then-is_interface
returns-then-is_interface c =
    let is : is_interface (flags_of c.args.set.now c.in-Class.upper) ≡ true = cc in
    c.if-is_interface.true ∙ sym (fits_interface c.args.set.now c.args.a.dims c.args.a.base c.args.b c.in-Class.upper c.in-Class.is is)

pub returns-else-is_interface : goal.returns-else-is_interface
returns-else-is_interface c =
    let is : is_interface (flags_of c.args.set.now c.in-Class.upper) ≡ false = cc in
    c.fits_class.ensures ∙ sym (fits_by_class c.args.set.now c.args.a.dims c.args.a.base c.args.b c.in-Class.upper c.in-Class.is is)

pub returns-in_default : goal.returns-in_default
returns-in_default c = sym (fits_primitive c.args.set.now c.args.a.dims c.args.a.base c.args.b c.in_default.not-Class)
