-- the same files
use Rattle.infuse_link.proofs.linking.infuse_closed.Given as goal

abbrev pub ghost-infuse_bodies : goal.ghost-infuse_bodies
ghost-infuse_bodies g a = g.files
