use Rattle.std.proofs.Common.{◌<◌, List, Some, get_or, length, sym, ap, subst, ◌∙◌}
use Rattle.std.proofs.lemmas.Option.{get_or_from_slice_get, slice_get_within}
use Rattle.class_pool.specs.declared.types.TypeBase.{TypeBase}
use Rattle.jvm_model.specs.declared.numbers.Layout.{Layout}
use Rattle.jvm_model.specs.ImageNumbering.{layout_of}
use Rattle.infuse_tables.proofs.entries.add_class.Goals as goal

pub bounds-as_slice-position : goal.bounds-as_slice-position
bounds-as_slice-position c =
    let typed = c.requires.at ∙ ap (λ (base : TypeBase). Some (record { dims = 0; base = base })) c.in-Class.is in
    let laid = c.requires.fit.layouts c.args.position c.in-Class.class typed in
    subst (λ (l : List Layout). c.args.position < length l) (sym c.as_slice.ensures)
    (slice_get_within c.args.ids.now.layouts c.args.position (layout_of c.args.set.now c.in-Class.class) laid)

pub class_entry-requires-clause-layout : goal.class_entry-requires-clause-layout
class_entry-requires-clause-layout c =
    let typed = c.requires.at ∙ ap (λ (base : TypeBase). Some (record { dims = 0; base = base })) c.in-Class.is in
    let laid = c.requires.fit.layouts c.args.position c.in-Class.class typed in
    let layout = layout_of c.args.set.now c.in-Class.class in
    let none : Layout = record { refs = 0; nums = 0 } in
    ap (λ (l : List Layout). get_or l c.args.position none) c.as_slice.ensures
    ∙ get_or_from_slice_get c.args.ids.now.layouts c.args.position layout none laid
