use Rattle.class_code.proofs.Handlers.{none_unfit, unfit-first}
use Rattle.class_code.proofs.code_list.handlers_fit.Goals as goal

pub returns-clause-none : goal.returns-clause-none
returns-clause-none c = none_unfit c.args.list.now c.args.length c.args.rows.now c.first_unfit.result c.first_unfit.ensures

pub returns-clause-first : goal.returns-clause-first
returns-clause-first c = unfit-first c.args.list.now c.args.length c.args.rows.now c.first_unfit.result c.first_unfit.ensures
