use Rattle.mote_top.proofs.replies.Lasting.{answers_without_faults}
use Rattle.mote_top.proofs.laws.calls_without_faults_answer.Goals as goal

pub returns : goal.returns
returns c = answers_without_faults
