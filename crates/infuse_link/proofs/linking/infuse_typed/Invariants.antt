-- the classes with their typed bodies
use Rattle.infuse_link.specs.Stages.{linked_of}
use Rattle.infuse_link.proofs.linking.infuse_typed.Given as goal

abbrev pub ghost-image_of : goal.ghost-image_of
ghost-image_of g a = linked_of a.set.now a.typed.now
