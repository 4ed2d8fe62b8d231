use Rattle.class_make.proofs.Slots.{index_stays}
use Rattle.class_make.proofs.constants.Constants.slot_member_texts.Goals as goal

pub returns-clause-name_index : goal.returns-clause-name_index
returns-clause-name_index c = rw c.in_ok-descriptor.ensures.placed (index_stays _ _ _ _ c.in_ok-name.ensures.index)
