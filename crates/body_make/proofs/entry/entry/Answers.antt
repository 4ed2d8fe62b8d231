use Rattle.std.proofs.Common.{◌≡◌, ◌+◌, ◌-◌, slice_get, arith, sym, ap, ◌∙◌}
use Rattle.body_make.proofs.Entries.{entry_here}
use Rattle.body_make.proofs.entry.entry.Goals as goal

pub returns-in-Some : goal.returns-in-Some
returns-in-Some c =
    let files = c.args.set.now in
    let at = c.loop-position.position in
    let same : at ≡ (32 + at) - 32 = omega arith in
    sym (entry_here files at c.file.result.now c.in-Some.member (ap (slice_get files) same ∙ c.file.ensures.file) (sym c.in-Some.ensures) c.loop-position.invariant)
