use Rattle.class_tree.proofs.lookups.LookupRules.{fields_ruled, interfaces_ruled, superclasses_ruled}
use Rattle.class_tree.proofs.laws.lookups_are_ruled.Goals as goal

pub returns-clause-fields : goal.returns-clause-fields
returns-clause-fields c = fields_ruled

pub returns-clause-interface_methods : goal.returns-clause-interface_methods
returns-clause-interface_methods c = interfaces_ruled

pub returns-clause-superclasses : goal.returns-clause-superclasses
returns-clause-superclasses c = superclasses_ruled
