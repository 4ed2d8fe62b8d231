-- the same files
use Rattle.infuse_link.proofs.linking.infuse_bodies.Given as goal

abbrev pub ghost-infuse_typed : goal.ghost-infuse_typed
ghost-infuse_typed g a = g.files
