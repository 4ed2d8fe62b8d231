-- the classes and the main of the set
use Rattle.infuse_sets.proofs.image.image_of.Given as goal

abbrev pub ghost-laid_out : goal.ghost-laid_out
ghost-laid_out g a = let linked = g.linked in linked.classes

abbrev pub ghost-ids_of : goal.ghost-ids_of
ghost-ids_of g a = let linked = g.linked in linked.main
