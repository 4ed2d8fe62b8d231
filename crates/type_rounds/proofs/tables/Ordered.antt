-- What the crates below say of frames of types and of rules, as one record that the lemmas here take.
use Rattle.type_order.specs.OrderLaws.{MergesAreAbove, MergesAreLeast, AboveGoesOn, AboveIsOneWay, ProperIsAbove, StartIsProper, AfterIsProper, EnteredIsProper, MergeIsProper, RulesAreMonotone, EnteredIsAbove, AfterIsKnown}

pub record IsOrdered : Type 0 where
  pub above : MergesAreAbove
  pub least : MergesAreLeast
  pub goes_on : AboveGoesOn
  pub one_way : AboveIsOneWay
  pub itself : ProperIsAbove
  pub merged : MergeIsProper
  pub start : StartIsProper
  pub after : AfterIsProper
  pub entered : EnteredIsProper
  pub monotone : RulesAreMonotone
  pub entered_above : EnteredIsAbove
  pub after_known : AfterIsKnown
