use Rattle.std.proofs.Common.{length, refl, ap, sym, ◌∙◌, slice_get}
use Rattle.std.proofs.lemmas.Option.{slice_get_read}
use Rattle.class_tree.proofs.tables.IndexLists.{position_there, position_absent, get_past}
use Rattle.class_tree.proofs.member_index.position_at.Goals as goal

pub returns-in-Some : goal.returns-in-Some
returns-in-Some c members files all =
    let indexes = c.args.indexes.now in
    let index = c.in-Some.index.now in
    position_there members files indexes all c.args.name.now c.args.descriptor.now c.args.class index c.position_of.result c.if-class-lt-FIRST_OWN.false
    (ap (slice_get indexes) (sym c.from.ensures) ∙ slice_get_read indexes (length indexes) c.from.result index refl c.in-Some.ensures.lookup.3.0 c.in-Some.ensures.lookup.1) c.position_of.ensures

pub returns-in-None : goal.returns-in-None
returns-in-None c members files all =
    let indexes = c.args.indexes.now in
    position_absent members files indexes all c.args.name.now c.args.descriptor.now c.args.class c.if-class-lt-FIRST_OWN.false
    (ap (slice_get indexes) (sym c.from.ensures) ∙ get_past indexes c.from.result c.in-None.ensures.lookup.3)
