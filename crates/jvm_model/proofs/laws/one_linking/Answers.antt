use Rattle.std.proofs.Common.{refl, sym, ◌∙◌}
use Rattle.jvm_model.proofs.phases.OneLinking.{linking_total, linking_unique}
use Rattle.jvm_model.proofs.laws.one_linking.Goals as goal

pub returns-clause-total : goal.returns-clause-total
returns-clause-total c = linking_total

pub returns-clause-unique : goal.returns-clause-unique
returns-clause-unique c = linking_unique

pub returns-clause-entry : goal.returns-clause-entry
returns-clause-entry c = λ files. refl

pub returns-clause-one_entry : goal.returns-clause-one_entry
returns-clause-one_entry c = λ files first second p q. p ∙ sym q
