use Rattle.mote_top.proofs.replies.Lasting.{refused_keeps}
use Rattle.mote_top.proofs.laws.refused_sets_store_nothing.Goals as goal

pub returns : goal.returns
returns c = refused_keeps
