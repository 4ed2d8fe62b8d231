use Rattle.class_make.proofs.Slots.{class_placed, class_named}
use Rattle.class_make.proofs.constants.Constants.slot_class.Goals as goal

pub returns-clause-index : goal.returns-clause-index
returns-clause-index c =
    class_placed c.slot_text.new.self c.slot.new.self c.args.name.now c.in_ok-name_index.name_index c.slot.result c.in_ok-name_index.ensures.index c.slot.ensures.placed c.slot.ensures.index

pub returns-clause-named : goal.returns-clause-named
returns-clause-named c =
    class_named c.slot_text.new.self c.slot.new.self c.args.name.now c.in_ok-name_index.name_index c.slot.result c.in_ok-name_index.ensures.index c.slot.ensures.placed
