use Rattle.std.proofs.Common.{◌+ℤ◌, ℤ, ap, ap₂, ◌∙◌, FitsSigned, rules}
use Rattle.std.specs.Int.{w16, w32, int_wrap}
use Rattle.std.proofs.lemmas.Int.{to_z-of_z, wrapping_add_is}
use Rattle.mote_stack.specs.Frames.{youngest_frame}
use Rattle.mote_model.specs.SplitMoves.{cells_of}
use Rattle.mote_model.specs.declared.memory.State.{State as Memory}
use Rattle.mote_exec.specs.Locals.{with_part}
use Rattle.mote_exec.specs.Steps.{stepped, with_stack}
use Rattle.mote_exec.proofs.ChangedLocals.{increments, number_there, number_was}
use Rattle.mote_exec.proofs.locals.increment.Goals as goal

pub number_at-number-requires-clause-there : goal.number_at-number-requires-clause-there
number_at-number-requires-clause-there g c =
    let memory = c.args.mote.now in
    number_there g.shown memory memory c.args.width c.args.local c.args.amount c.args.next c.requires

pub set_number_local-requires-clause-there : goal.set_number_local-requires-clause-there
set_number_local-requires-clause-there g c =
    let memory = c.args.mote.now in
    number_there g.shown memory memory c.args.width c.args.local c.args.amount c.args.next c.requires

pub returns : goal.returns
returns g c =
    let memory = c.args.mote.now in
    let new = c.set_number_local.new.mote in
    let number = c.number_at-number in
    let was = number.ensures.value ∙ number_was g.shown memory new c.args.width c.args.local c.args.amount c.args.next c.requires in
    let amount = c.from.ensures ∙ to_z-of_z w16 c.args.amount c.ranges.amount in
    let fits : FitsSigned w32 c.from.result = search rules in
    let sum = wrapping_add_is w32 number.result c.from.result number.ensures.fits fits ∙ ap₂ (λ (a b : ℤ). int_wrap w32 (a +ℤ b)) was amount in
    let put : ℤ → Memory = λ number. with_stack memory (stepped memory.region c.args.next (youngest_frame memory.region).refs (with_part (youngest_frame memory.region).cells c.args.local (cells_of c.args.width number))) in
    rw c.set_number_local.ensures.on (increments g.shown memory new c.args.width c.args.local c.args.amount c.args.next c.requires (c.set_number_local.ensures.stepped ∙ ap put sum))
