use Rattle.std.proofs.Common.{take, length, sym, ap, ◌∙◌}
use Rattle.class_make.proofs.Numbered.{slots_at, kept, none_after, numbered_fewer}
use Rattle.class_make.proofs.constants.Constants.keep.Goals as goal

pub returns-in-None : goal.returns-in-None
returns-in-None c =
    let entries = c.self.inside.indexes.entries in
    record {
      kept = λ before of begins.
          sym c.self.view_is ∙ ap slots_at (sym (none_after entries c.args.count (sym c.in-None.ensures.entry)))
          ∙ kept entries c.args.count before of (ap (take (length before)) c.self.view_is ∙ begins);
    }

pub overflow_sub-self : goal.overflow_sub-self
overflow_sub-self c =
    (numbered_fewer c.self.inside.indexes.entries c.self.inside.taken c.args.count c.in-Some.index.now c.in-Some.field-0-0.now c.self.invariant (sym c.in-Some.ensures.entry)).0

pub invariant_of-self : goal.invariant_of-self
invariant_of-self c =
    rw c.truncate.ensures.entries
    (numbered_fewer c.self.inside.indexes.entries c.self.inside.taken c.args.count c.in-Some.index.now c.in-Some.field-0-0.now c.self.invariant (sym c.in-Some.ensures.entry)).1

pub returns : goal.returns
returns c =
    let entries = c.self.inside.indexes.entries in
    record {
      kept = λ before of begins.
          ap slots_at c.truncate.ensures.entries ∙ kept entries c.args.count before of (ap (take (length before)) c.self.view_is ∙ begins);
    }
