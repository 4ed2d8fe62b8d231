use Rattle.std.proofs.lemmas.Result.{IfOk-weaker}
use Rattle.class_make.proofs.Names.{entry_there}
use Rattle.class_make.proofs.draft.ClassDraft.constant.Goals as goal

pub returns-clause-there : goal.returns-clause-there
returns-clause-there c = IfOk-weaker c.slot.result _ _ (λ index e. entry_there c.slot.new.self c.args.c index e) c.slot.ensures.index
