use Rattle.class_make.proofs.Drafts.{class_drafted}
use Rattle.class_make.proofs.draft.ClassDraft.new.Goals as goal

pub returns-clause-drafted : goal.returns-clause-drafted
returns-clause-drafted c =
    rw (c.new.ensures.items, c.new-2.ensures.items)
    (class_drafted c.new-slots.result c.slot_class.new.self c.slot_class-2.new.self c.args.name.now c.args.parent.now c.in_ok-this_class.this_class c.in_ok-super_class.super_class
    c.new-slots.ensures c.in_ok-this_class.ensures.placed c.in_ok-this_class.ensures.named c.in_ok-this_class.ensures.index c.in_ok-super_class.ensures.placed c.in_ok-super_class.ensures.index)
