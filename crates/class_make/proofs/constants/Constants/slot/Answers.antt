use Rattle.std.proofs.Common.{sym}
use Rattle.class_make.proofs.Slots.{index_pushed}
use Rattle.class_make.proofs.constants.Constants.slot.Goals as goal

pub returns-in-None-clause-index : goal.returns-in-None-clause-index
returns-in-None-clause-index c =
    index_pushed c.args.self.now c.push.new.self c.args.constant c.push.result (sym c.in-None.ensures.index) c.push.ensures.placed c.push.ensures.index
