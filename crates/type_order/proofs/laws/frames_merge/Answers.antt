use Rattle.type_order.proofs.merges.Frames.{merges-are-above, merges-are-least, above-goes-on, above-is-one-way, proper-is-above, merge-is-proper}
use Rattle.type_order.proofs.laws.frames_merge.Goals as goal

pub returns-clause-above : goal.returns-clause-above
returns-clause-above c = merges-are-above

pub returns-clause-least : goal.returns-clause-least
returns-clause-least c = merges-are-least

pub returns-clause-goes_on : goal.returns-clause-goes_on
returns-clause-goes_on c = above-goes-on

pub returns-clause-one_way : goal.returns-clause-one_way
returns-clause-one_way c = above-is-one-way

pub returns-clause-itself : goal.returns-clause-itself
returns-clause-itself c = proper-is-above

pub returns-clause-proper : goal.returns-clause-proper
returns-clause-proper c = merge-is-proper
