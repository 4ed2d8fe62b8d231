-- the bytes of each file
use Rattle.infuse_link.proofs.infusing.infuse_sized.Given as goal

abbrev pub ghost-infuse_closed : goal.ghost-infuse_closed
ghost-infuse_closed g a = g.bytes
