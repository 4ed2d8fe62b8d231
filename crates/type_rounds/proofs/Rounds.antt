-- What rounds find, by the laws of the crates below.
use Rattle.class_tree.proofs.merging.MergeLaws.{commutes, associates, stays}
use Rattle.type_order.proofs.merges.Frames.{merges-are-above, merges-are-least, above-goes-on, above-is-one-way, proper-is-above, merge-is-proper}
use Rattle.type_order.proofs.Rules.{rules-are-monotone, entered-is-above, start-is-proper, after-is-proper, entered-is-proper, after-is-known}
use Rattle.type_rounds.specs.RoundLaws.{QuietIsLeast, FailingHasNoRight, RoundsEnd, OneFailing, OneLeast}
use Rattle.type_rounds.proofs.tables.Ordered.{IsOrdered}
use Rattle.type_rounds.proofs.ranks.ClassRanks.{TypesMerge}
use Rattle.type_rounds.proofs.tables.FirstAnswers as first
use Rattle.type_rounds.proofs.ranks.RoundsEnd as last

pub ordered : IsOrdered
ordered =
    record {
      above = merges-are-above;
      least = merges-are-least;
      goes_on = above-goes-on;
      one_way = above-is-one-way;
      itself = proper-is-above;
      merged = merge-is-proper;
      start = start-is-proper;
      after = after-is-proper;
      entered = entered-is-proper;
      monotone = rules-are-monotone;
      entered_above = entered-is-above;
      after_known = after-is-known;
    }

merges : TypesMerge
merges = record { commutes = commutes; associates = associates; stays = stays }

pub quiet_is_least : QuietIsLeast
quiet_is_least = first.quiet_is_least ordered

pub failing_has_no_right : FailingHasNoRight
failing_has_no_right = first.failing_has_no_right ordered

pub rounds_end : RoundsEnd
rounds_end = last.rounds_end ordered merges

pub one_failing : OneFailing
one_failing = first.one_failing

pub one_least : OneLeast
one_least = first.one_least ordered
