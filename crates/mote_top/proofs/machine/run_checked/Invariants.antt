-- the mote stands for where main begins
use Rattle.mote_top.proofs.replies.NewMotes.{begins}
use Rattle.mote_top.proofs.machine.run_checked.Given as goal

abbrev pub ghost-run : goal.ghost-run
ghost-run g a = begins a.self.now
