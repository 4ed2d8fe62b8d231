use Rattle.std.proofs.Common.{◌≡◌, ◌+◌, ◌≤◌, ◌++◌, None, ap, ◌∙◌, arith}
use Rattle.std.specs.Map.{lookup}
use Rattle.indexmap.proofs.CallerLemmas.{insert_entry-new}
use Rattle.class_pool.specs.Pool.{Slots, width}
use Rattle.class_make.specs.Entries.{index_of, slots_of}
use Rattle.class_make.proofs.Equality.{const_eq}
use Rattle.class_make.proofs.Numbered.{slots_at, slots_more, found, numbered_more, numbered_within}
use Rattle.class_make.proofs.constants.Constants.push.Goals as goal

pub invariant_of-self-2 : goal.invariant_of-self-2
invariant_of-self-2 c =
    let entries = c.self.inside.indexes.entries in
    let absent : lookup (const_eq c.args.constant) entries ≡ None =
    found entries c.args.constant c.self.invariant.numbered ∙ ap (λ (p : Slots). index_of p c.args.constant) c.self.view_is ∙ c.requires in
    let fits : c.self.inside.taken + width c.args.constant ≤ 65534 = omega (arith, c.width-width.ensures, c.if-width-self.false, c.self.invariant.within) in
    rw (c.in_ok-insert.ensures.entries, insert_entry-new const_eq c.self.inside.indexes c.args.constant (c.self.inside.taken + 1) absent, c.width-width.ensures)
    (numbered_more entries c.self.inside.taken c.args.constant c.self.invariant fits)

pub returns-clause-placed : goal.returns-clause-placed
returns-clause-placed c =
    let entries = c.self.inside.indexes.entries in
    let absent : lookup (const_eq c.args.constant) entries ≡ None =
    found entries c.args.constant c.self.invariant.numbered ∙ ap (λ (p : Slots). index_of p c.args.constant) c.self.view_is ∙ c.requires in
    ap slots_at (c.in_ok-insert.ensures.entries ∙ insert_entry-new const_eq c.self.inside.indexes c.args.constant (c.self.inside.taken + 1) absent)
    ∙ slots_more entries c.args.constant (c.self.inside.taken + 1) ∙ ap (λ (p : Slots). p ++ slots_of c.args.constant) c.self.view_is

pub returns-clause-stays_within : goal.returns-clause-stays_within
returns-clause-stays_within c = numbered_within c.insert.new.self.entries _ (invariant_of-self-2 c)
